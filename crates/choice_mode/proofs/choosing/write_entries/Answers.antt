use Rattle.std.proofs.Common.{◌≡◌, ◌≤◌, ◌∙◌, ℕ, ◌+◌, ◌∷◌, ◌++◌, [], List, take, length, ap, arith, rules, sym, subst}
use Rattle.std.specs.Prelude.{IsErrOf}
use Rattle.std.proofs.lemmas.List.{length-append, take_more, length-take-le}
use Rattle.cert_text.specs.declared.forms.Form.TheVariants.{Two}
use Rattle.order_reader.specs.declared.rows.Row.{Row}
use Rattle.run_parts.specs.declared.parts.WriteStop.TheVariants.{Fault}
use Rattle.run_parts.proofs.Pieces.{wrote-trans, part-then}
use Rattle.plan_entries.specs.declared.entries.Entry.{Entry}
use Rattle.report_text.specs.Text.{entry_text}
use Rattle.report_text.specs.Reports.{entries_text}
use Rattle.plan_mode.specs.Entries.{AreEntriesFrom, IsEntryOf}
use Rattle.plan_mode.proofs.EntryFacts.{entries-more, first-of}
use Rattle.check_mode.proofs.Copies.{copies-more}
use Rattle.choice_mode.proofs.EntryScores.{scores-kept}
use Rattle.choice_mode.proofs.choosing.write_entries.Goals as goal

-- the entry of the next row joins those of the rows before it
one-more : (rows : List Row) (i number : ℕ) (row : Row) (es : List Entry) (e : Entry) → i + 1 ≤ length rows → take (i + 1) rows ≡ take i rows ++ row ∷ [] → number ≡ 1 + i
    → AreEntriesFrom 1 (take i rows) es → IsEntryOf number row e → AreEntriesFrom 1 (take (i + 1) rows) (es ++ e ∷ [])
one-more rows i number row es e inside taken at each of_row =
    let count : number ≡ 1 + length (take i rows) = omega (arith, at, length-take-le i rows (omega arith)) in
    let here : IsEntryOf (1 + length (take i rows)) row e = subst (λ n. IsEntryOf n row e) count of_row in
    rw taken (entries-more 1 (take i rows) es row e each here)

pub returns-in_err-write_row-clause-part : goal.returns-in_err-write_row-clause-part
returns-in_err-write_row-clause-part g c = λ is.
    let (at, later, inv) = c.loop-row.invariant in
    let (es, each, scores, len, text) = inv in
    let failed : IsErrOf c.write_row.result Fault = search rules in
    let (e, of_row, part) = c.write_row.ensures.part failed in
    let i = c.loop-row.row-index in
    let rows = c.args.rows.now in
    let row = c.row-item.result in
    let lt = c.loop-row-test.true in
    let taken : take (i + 1) rows ≡ take i rows ++ row ∷ [] = take_more rows i row lt ∙ ap (λ (r : Row). take i rows ++ r ∷ []) (sym c.row-item.is) in (
      es ++ e ∷ [],
      first-of rows (i + 1) (es ++ e ∷ []) (omega (arith, len, length-append es (e ∷ []))) (one-more rows i c.loop-row.number row es e (omega (arith, lt)) taken at each of_row),
      rw (copies-more es e) (part-then _ _ _ (entries_text Two es) (entry_text Two e) text part),
    )

pub loop-row-preserved : goal.loop-row-preserved
loop-row-preserved g c =
    let (at, later, inv) = c.loop-row.invariant in
    let (es, each, scores, len, text) = inv in
    let (e, of_row, kept, more) = c.in_ok-write_row.ensures.ok in
    let i = c.loop-row.row-index in
    let rows = c.args.rows.now in
    let row = c.row-item.result in
    let lt = c.loop-row-test.true in
    let taken : take (i + 1) rows ≡ take i rows ++ row ∷ [] = take_more rows i row lt ∙ ap (λ (r : Row). take i rows ++ r ∷ []) (sym c.row-item.is) in (
      omega (arith, at),
      omega (arith, later, c.write_row.ensures.later),
      (
        es ++ e ∷ [],
        one-more rows i c.loop-row.number row es e (omega (arith, lt)) taken at each of_row,
        scores-kept es e c.loop-row.scores.items c.write_row.new.scores.items kept scores,
        omega (arith, len, length-append es (e ∷ [])),
        rw (copies-more es e) (wrote-trans _ _ _ (entries_text Two es) (entry_text Two e) text more),
      ),
    )
