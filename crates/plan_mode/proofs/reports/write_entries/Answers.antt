use Rattle.std.proofs.Common.{◌≡◌, ◌∙◌, ℕ, ◌+◌, ◌-◌, ◌∷◌, ◌++◌, [], get_or, arith, rules, refl, sym}
use Rattle.std.specs.Prelude.{IsErrOf}
use Rattle.std.proofs.lemmas.List.{length-append}
use Rattle.order_reader.specs.declared.rows.Row.{Row}
use Rattle.run_parts.specs.declared.parts.WriteStop.TheVariants.{Fault}
use Rattle.run_parts.proofs.Pieces.{wrote-nil, wrote-trans, part-then}
use Rattle.plan_mode.specs.Entries.{IsEntryOf}
use Rattle.plan_mode.specs.Pieces.{joined}
use Rattle.plan_mode.proofs.EntryFacts.{first-of, any-more, pieces-more, joined-more}
use Rattle.plan_mode.proofs.Grouped.{entry-joins, of-some-row}
use Rattle.plan_mode.proofs.reports.write_entries.Goals as goal

one-less : (i : ℕ) → i + 1 - 1 ≡ i
one-less i = omega arith

pub loop-index-init : goal.loop-index-init
loop-index-init g c = (rw c.new-ahead.ensures.items tt, omega arith, ([], [], tt, refl, refl, tt, wrote-nil _))

pub write_entry-requires-clause-in_range : goal.write_entry-requires-clause-in_range
write_entry-requires-clause-in_range g c =
    (of-some-row c.args.rows.now c.loop-index.index c.in-Ok.entry c.loop-index-test.true c.requires.few (λ d. rw (one-less c.loop-index.index) at (c.in-Ok.ensures.entry d))).0

pub write_entry-requires-clause-sound : goal.write_entry-requires-clause-sound
write_entry-requires-clause-sound g c =
    (of-some-row c.args.rows.now c.loop-index.index c.in-Ok.entry c.loop-index-test.true c.requires.few (λ d. rw (one-less c.loop-index.index) at (c.in-Ok.ensures.entry d))).1

pub returns-in_err-refused-clause-part : goal.returns-in_err-refused-clause-part
returns-in_err-refused-clause-part g c = λ is.
    let (ahead, later, inv) = c.loop-index.invariant in
    let (es, ts, each, found, len, pieces, text) = inv in
    let failed : IsErrOf c.write_entry.result Fault = search rules in
    let (t, piece, part) = c.write_entry.ensures.part failed in
    let i = c.loop-index.index in
    let rows = c.args.rows.now in
    let e = c.in-Ok.entry in
    let of_row : (d : Row) → IsEntryOf (i + 1) (get_or rows i d) e = λ d. rw (one-less i) at (c.in-Ok.ensures.entry d) in (
      es ++ e ∷ [],
      ts ++ t ∷ [],
      first-of rows (i + 1) (es ++ e ∷ []) (omega (arith, len, length-append es (e ∷ []))) (entry-joins rows i es e (omega (arith, c.loop-index-test.true)) each of_row),
      pieces-more c.args.draw es ts e t pieces piece,
      rw (joined-more ts t) (part-then _ _ _ (joined ts) t text part),
    )

pub loop-index-preserved : goal.loop-index-preserved
loop-index-preserved g c =
    let (ahead, later, inv) = c.loop-index.invariant in
    let (es, ts, each, found, len, pieces, text) = inv in
    let (t, refused, piece, more) = c.in_ok-refused.ensures.ok in
    let i = c.loop-index.index in
    let rows = c.args.rows.now in
    let e = c.in-Ok.entry in
    let of_row : (d : Row) → IsEntryOf (i + 1) (get_or rows i d) e = λ d. rw (one-less i) at (c.in-Ok.ensures.entry d) in (
      c.in-Ok.ensures.ahead,
      omega (arith, later, c.write_entry.ensures.later),
      (
        es ++ e ∷ [],
        ts ++ t ∷ [],
        entry-joins rows i es e (omega (arith, c.loop-index-test.true)) each of_row,
        any-more es e ∙ rw (found, refused) (sym c.either-found.ensures),
        omega (arith, len, length-append es (e ∷ [])),
        pieces-more c.args.draw es ts e t pieces piece,
        rw (joined-more ts t) (wrote-trans _ _ _ (joined ts) t text more),
      ),
    )
