use Rattle.std.proofs.Common.{take, false}
use Rattle.std.specs.List.{flat_map}
use Rattle.std.proofs.lemmas.Result.{err_from_is_err_and}
use Rattle.texts.proofs.Growth.{grows_after}
use Rattle.contact_rules.specs.declared.rules.Rule.TheVariants.{Contact}
use Rattle.page_pieces.proofs.Loops.{each_more}
use Rattle.page_stacks.specs.Unmet.{unmet_line}
use Rattle.page_stacks.proofs.unmet.put_unmet_lines.Goals as goal

pub loop-unmet-preserved : goal.loop-unmet-preserved
loop-unmet-preserved c = each_more unmet_line c.args.out.now.items c.loop-unmet.out.items c.put_unmet_line.new.out.items c.loop-unmet.unmet-index c.args.told.now (record { rule = Contact 0; alone = false }) c.loop-unmet-test.true c.loop-unmet.invariant c.in_ok-put_unmet_line.ensures

pub returns-in_err-put_unmet_line : goal.returns-in_err-put_unmet_line
returns-in_err-put_unmet_line c =
    let p = err_from_is_err_and c.from_residual.result c.from_residual.ensures.1 in
    rw p.1 (grows_after c.args.out.now.items (flat_map unmet_line (take c.loop-unmet.unmet-index c.args.told.now)) c.loop-unmet.out.items c.put_unmet_line.new.out.items c.loop-unmet.invariant c.in_err-put_unmet_line.ensures)
