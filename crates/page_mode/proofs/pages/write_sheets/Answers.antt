use Rattle.std.proofs.Common.{◌≡◌, ◌∙◌, ◌+◌, ◌++◌, ◌∷◌, List, [], length, ap, arith, rules, sym, subst}
use Rattle.std.specs.Prelude.{All, IsErrOf}
use Rattle.std.specs.List.{concat}
use Rattle.std.proofs.lemmas.List.{length-append}
use Rattle.std.proofs.lemmas.List.Elements.{All-tail}
use Rattle.cert_text.specs.declared.forms.Form.TheVariants.{Two}
use Rattle.plan_entries.specs.Ranges.{IsInRange}
use Rattle.plan_entries.specs.declared.entries.Entry.{Entry}
use Rattle.run_parts.specs.declared.parts.WriteStop.TheVariants.{Fault}
use Rattle.run_parts.specs.Written.{Wrote, WrotePart}
use Rattle.run_parts.proofs.Pieces.{wrote-trans, part-then}
use Rattle.report_reading.proofs.Nexts.{one-on}
use Rattle.page_text.specs.Page.{sheet_text, sheets_from}
use Rattle.page_mode.proofs.Sheets.{sheets-parts, sheets-more}
use Rattle.page_mode.proofs.pages.write_sheets.Goals as goal

pub write_next-requires-clause-few : goal.write_next-requires-clause-few
write_next-requires-clause-few g c =
    let (before, parts, number, summed, wrote) = c.loop-alloc.invariant.wrote in
    (before, summed, omega (arith, c.requires.few, c.loop-alloc-test.true, length-append before c.loop-alloc.entries.entries, ap length parts))

pub returns-in_err-write_next-clause-part : goal.returns-in_err-write_next-clause-part
returns-in_err-write_next-clause-part g c = λ is.
    let (before, parts, number, summed, wrote) = c.loop-alloc.invariant.wrote in
    let failed : IsErrOf c.write_next.result Fault = search rules in
    let rest = c.loop-alloc.entries.entries in
    let old = g.K.Sink.past c.args.sink.now in
    let mid = g.K.Sink.past c.loop-alloc.sink in
    let new = g.K.Sink.past c.write_next.new.sink in
    let part : WrotePart mid new (concat (sheets_from (length before + 1) rest)) = subst (λ n. WrotePart mid new (concat (sheets_from n rest))) number (c.write_next.ensures.part failed) in
    let texts = ap (λ (l : List Entry). concat (sheets_from 1 l)) parts ∙ sheets-parts 1 before rest in
    subst (WrotePart old new) (sym texts) (part-then old mid new (concat (sheets_from 1 before)) (concat (sheets_from (length before + 1) rest)) wrote part)

pub loop-alloc-preserved : goal.loop-alloc-preserved
loop-alloc-preserved g c =
    let inv = c.loop-alloc.invariant in
    let (before, parts, number, summed, wrote) = inv.wrote in
    let (e, next, more, adds) = c.in_ok-write_next.ensures.ok in
    let all = c.args.entries.now.entries in
    let now = c.loop-alloc.entries.entries in
    let rest = c.write_next.new.entries.entries in
    let old = g.K.Sink.past c.args.sink.now in
    let mid = g.K.Sink.past c.loop-alloc.sink in
    let new = g.K.Sink.past c.write_next.new.sink in
    let sheet : Wrote mid new (sheet_text (length before + 1) e) = subst (λ n. Wrote mid new (sheet_text n e)) number more in
    record {
      wrote = (
        before ++ e ∷ [],
        one-on all before rest now e parts next,
        omega (arith, number, length-append before (e ∷ [])),
        adds before summed,
        subst (Wrote old new) (sym (sheets-more 1 before e)) (wrote-trans old mid new (concat (sheets_from 1 before)) (sheet_text (length before + 1) e) wrote sheet),
      );
      later = omega (arith, inv.later, c.write_next.ensures.later);
      ranges = All-tail (IsInRange Two) e rest (subst (λ (l : List Entry). All (IsInRange Two) l) next inv.ranges);
      few = inv.few;
    }
