use Rattle.std.proofs.Common.{◌≡◌, ◌≤◌, ◌<◌, ◌∙◌, ℕ, ◌+◌, ◌-◌, ◌∷◌, ◌++◌, [], List, take, length, get_or, ap, arith, rules, refl, sym, subst}
use Rattle.std.specs.Prelude.{IsErrOf}
use Rattle.std.proofs.lemmas.List.{length-append}
use Rattle.order_reader.specs.declared.rows.Row.{Row}
use Rattle.run_parts.specs.declared.parts.WriteStop.TheVariants.{Fault}
use Rattle.run_parts.proofs.Pieces.{wrote-nil, wrote-trans, part-then}
use Rattle.cert_text.specs.declared.forms.Form.TheVariants.{Two}
use Rattle.plan_entries.specs.declared.entries.Entry.{Entry}
use Rattle.report_text.specs.Text.{entry_text}
use Rattle.report_text.specs.Reports.{entries_text}
use Rattle.plan_mode.specs.Entries.{IsEntryOf}
use Rattle.plan_mode.proofs.EntryFacts.{first-of}
use Rattle.plan_mode.proofs.Grouped.{entry-joins, of-some-row}
use Rattle.check_mode.proofs.Copies.{copies-more}
use Rattle.design_mode.proofs.EntryCovers.{covers-kept}
use Rattle.design_mode.proofs.designing.write_entries.Goals as goal

one-less : (i : ℕ) → i + 1 - 1 ≡ i
one-less i = omega arith

-- the row at a place, of which there are some
some-row : (rows : List Row) (i : ℕ) (e : Entry) → i < length rows → ((d : Row) → IsEntryOf (i + 1) (get_or rows i d) e) → (number : ℕ) × (row : Row) × IsEntryOf number row e
some-row [] i e inside of_row = absurd (omega (arith, inside))
some-row (d ∷ ds) i e inside of_row = (i + 1, get_or (d ∷ ds) i d, of_row d)

pub loop-index-init : goal.loop-index-init
loop-index-init g c = (rw c.new-ahead.ensures.items tt, omega arith, ([], tt, c.new-covers.ensures.items, refl, wrote-nil _))

pub keep_cover-requires : goal.keep_cover-requires
keep_cover-requires g c = some-row c.args.rows.now c.loop-index.index c.in-Ok.entry c.loop-index-test.true (λ d. rw (one-less c.loop-index.index) at (c.in-Ok.ensures.entry d))

pub write_entry-requires : goal.write_entry-requires
write_entry-requires g c =
    (of-some-row c.args.rows.now c.loop-index.index c.in-Ok.entry c.loop-index-test.true c.requires.few (λ d. rw (one-less c.loop-index.index) at (c.in-Ok.ensures.entry d))).0

pub returns-in_err-write_entry-clause-part : goal.returns-in_err-write_entry-clause-part
returns-in_err-write_entry-clause-part g c = λ is.
    let (ahead, later, inv) = c.loop-index.invariant in
    let (es, each, covers, len, text) = inv in
    let failed : IsErrOf c.write_entry.result Fault = search rules in
    let part = c.write_entry.ensures.part failed in
    let i = c.loop-index.index in
    let rows = c.args.rows.now in
    let e = c.in-Ok.entry in
    let of_row : (d : Row) → IsEntryOf (i + 1) (get_or rows i d) e = λ d. rw (one-less i) at (c.in-Ok.ensures.entry d) in (
      es ++ e ∷ [],
      first-of rows (i + 1) (es ++ e ∷ []) (omega (arith, len, length-append es (e ∷ []))) (entry-joins rows i es e (omega (arith, c.loop-index-test.true)) each of_row),
      rw (copies-more es e) (part-then _ _ _ (entries_text Two es) (entry_text Two e) text part),
    )

pub loop-index-preserved : goal.loop-index-preserved
loop-index-preserved g c =
    let (ahead, later, inv) = c.loop-index.invariant in
    let (es, each, covers, len, text) = inv in
    let kept = c.in_ok-keep_cover.ensures.ok in
    let more = c.in_ok-write_entry.ensures.ok in
    let i = c.loop-index.index in
    let rows = c.args.rows.now in
    let e = c.in-Ok.entry in
    let of_row : (d : Row) → IsEntryOf (i + 1) (get_or rows i d) e = λ d. rw (one-less i) at (c.in-Ok.ensures.entry d) in (
      c.in-Ok.ensures.ahead,
      omega (arith, later, c.write_entry.ensures.later),
      (
        es ++ e ∷ [],
        entry-joins rows i es e (omega (arith, c.loop-index-test.true)) each of_row,
        covers-kept es e _ _ kept covers,
        omega (arith, len, length-append es (e ∷ [])),
        rw (copies-more es e) (wrote-trans _ _ _ (entries_text Two es) (entry_text Two e) text more),
      ),
    )
