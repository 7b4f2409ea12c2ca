use Rattle.std.proofs.Common.{◌≡◌, ◌≤◌, ◌∙◌, ◌+◌, ◌∷◌, ◌++◌, [], take, length, ap, arith, sym, subst}
use Rattle.std.specs.List.{sum_by}
use Rattle.std.proofs.lemmas.List.{length-append, take_more, length-take-le}
use Rattle.order_reader.specs.declared.rows.Row.{Row}
use Rattle.made_orders.specs.declared.summaries.Summary.{Summary}
use Rattle.plan_mode.specs.Entries.{IsEntryOf}
use Rattle.trial_mode.specs.Trials.{Tried, AreTriedFrom, cases_of, summary_of}
use Rattle.trial_mode.proofs.Counts.{tried_more, sum_more}
use Rattle.trial_mode.proofs.trials.sum_rows.Goals as goal

pub loop-row-preserved : goal.loop-row-preserved
loop-row-preserved c =
    let (at, rows_are, cases, inv) = c.loop-row.invariant in
    let (tried, are, is) = inv in
    let i = c.loop-row.row-index in
    let rows = c.args.rows.now in
    let row = c.row-item.result in
    let old = c.loop-row.summary in
    let new = c.with_entry-summary.result in
    let e = c.in_ok-entry.entry in
    let v = c.in_ok-entry.verdict in
    let lt = c.loop-row-test.true in
    let taken : take (i + 1) rows ≡ take i rows ++ row ∷ [] = take_more rows i row lt ∙ ap (λ (r : Row). take i rows ++ r ∷ []) (sym c.row-item.is) in
    let count : old.rows + 1 ≡ 1 + length (take i rows) = omega (arith, rows_are, length-take-le i rows (omega (arith, lt))) in
    let here : IsEntryOf (1 + length (take i rows)) row e = subst (λ n. IsEntryOf n row e) count c.in_ok-entry.ensures.entry in
    let more : AreTriedFrom 1 (take (i + 1) rows) (tried ++ (e, v) ∷ []) = rw taken (tried_more 1 (take i rows) tried row e v are here c.in_ok-entry.ensures.verdict) in
    let same : new ≡ summary_of old.number (tried ++ (e, v) ∷ []) = c.with_entry-summary.ensures tried is in
    let number : new.number ≡ old.number = ap (λ (s : Summary). s.number) same in
    let many : new.rows ≡ length (tried ++ (e, v) ∷ []) = ap (λ (s : Summary). s.rows) same in
    let old_many : old.rows ≡ length tried = ap (λ (s : Summary). s.rows) is in
    let total : new.cases ≡ sum_by (λ (t : Tried). cases_of t.0) (tried ++ (e, v) ∷ []) = ap (λ (s : Summary). s.cases) same in
    let old_total : old.cases ≡ sum_by (λ (t : Tried). cases_of t.0) tried = ap (λ (s : Summary). s.cases) is in
    let one : sum_by (λ (t : Tried). cases_of t.0) (tried ++ (e, v) ∷ []) ≡ sum_by (λ (t : Tried). cases_of t.0) tried + cases_of e = sum_more (λ (t : Tried). cases_of t.0) tried (e, v) in
    let longer : length (tried ++ (e, v) ∷ []) ≡ length tried + 1 = length-append tried ((e, v) ∷ []) in
    let few : cases_of e ≤ 1000 = c.in_ok-entry.ensures.few in (
      number ∙ at,
      omega (arith, many, longer, old_many, rows_are),
      omega (arith, total, one, old_total, cases, many, longer, old_many, few),
      (tried ++ (e, v) ∷ [], more, subst (λ n. new ≡ summary_of n (tried ++ (e, v) ∷ [])) (sym number) same),
    )
