use Rattle.std.proofs.Common.{◌≡◌, ◌∙◌, ◌++◌, ◌∷◌, List, [], ap, arith, rules, sym, subst}
use Rattle.std.specs.Prelude.{All, IsErrOf}
use Rattle.std.proofs.lemmas.Grind.{flat_map-append}
use Rattle.std.proofs.lemmas.List.Elements.{All-tail}
use Rattle.cert_text.specs.declared.forms.Form.TheVariants.{Two}
use Rattle.plan_entries.specs.Ranges.{IsInRange}
use Rattle.plan_entries.specs.declared.entries.Entry.{Entry}
use Rattle.run_parts.specs.declared.parts.WriteStop.TheVariants.{Fault}
use Rattle.run_parts.specs.Written.{Wrote, WrotePart}
use Rattle.run_parts.proofs.Pieces.{wrote-trans, part-then}
use Rattle.report_text.specs.Text.{entry_text}
use Rattle.report_text.specs.Reports.{entries_text}
use Rattle.report_reading.proofs.Nexts.{one-on}
use Rattle.check_mode.proofs.Copies.{copies-more}
use Rattle.check_mode.proofs.upgrades.write_entries.Goals as goal

pub returns-in_err-write_next-clause-part : goal.returns-in_err-write_next-clause-part
returns-in_err-write_next-clause-part g c = λ is.
    let (before, parts, wrote) = c.loop-alloc.invariant.wrote in
    let failed : IsErrOf c.write_next.result Fault = search rules in
    let part = c.write_next.ensures.part failed in
    let rest = c.loop-alloc.entries.entries in
    let old = g.K.Sink.past c.args.sink.now in
    let mid = g.K.Sink.past c.loop-alloc.sink in
    let new = g.K.Sink.past c.write_next.new.sink in
    let texts : entries_text Two c.args.entries.now.entries ≡ entries_text Two before ++ entries_text Two rest = ap (λ (l : List Entry). entries_text Two l) parts ∙ flat_map-append (entry_text Two) before rest in
    subst (WrotePart old new) (sym texts) (part-then old mid new (entries_text Two before) (entries_text Two rest) wrote part)

pub loop-alloc-preserved : goal.loop-alloc-preserved
loop-alloc-preserved g c =
    let inv = c.loop-alloc.invariant in
    let (before, parts, wrote) = inv.wrote in
    let (e, next, more) = c.in_ok-write_next.ensures.ok in
    let all = c.args.entries.now.entries in
    let now = c.loop-alloc.entries.entries in
    let rest = c.write_next.new.entries.entries in
    let old = g.K.Sink.past c.args.sink.now in
    let mid = g.K.Sink.past c.loop-alloc.sink in
    let new = g.K.Sink.past c.write_next.new.sink in
    record {
      wrote = (
        before ++ e ∷ [],
        one-on all before rest now e parts next,
        subst (Wrote old new) (sym (copies-more before e)) (wrote-trans old mid new (entries_text Two before) (entry_text Two e) wrote more),
      );
      later = omega (arith, inv.later, c.write_next.ensures.later);
      ranges = All-tail (IsInRange Two) e rest (subst (λ (l : List Entry). All (IsInRange Two) l) next inv.ranges);
    }
