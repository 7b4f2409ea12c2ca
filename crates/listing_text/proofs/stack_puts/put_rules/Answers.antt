use Rattle.std.proofs.Common.{take, false}
use Rattle.std.proofs.lemmas.Result.{err_from_is_err_and}
use Rattle.texts.specs.Lines.{text_of}
use Rattle.texts.proofs.Growth.{grows_after}
use Rattle.contact_rules.specs.declared.rules.Rule.TheVariants.{Contact}
use Rattle.listing_text.specs.Text.{rule_lines}
use Rattle.listing_text.proofs.Pieces.{rules_more}
use Rattle.listing_text.proofs.stack_puts.put_rules.Goals as goal

pub loop-told-preserved : goal.loop-told-preserved
loop-told-preserved c = rules_more c.args.out.now.items c.loop-told.out.items c.put_rule.new.out.items c.loop-told.told-index c.args.unmet.now (record { rule = Contact 0; alone = false }) c.loop-told-test.true c.loop-told.invariant c.in_ok-put_rule.ensures

pub returns-in_err-put_rule : goal.returns-in_err-put_rule
returns-in_err-put_rule c =
    let p = err_from_is_err_and c.from_residual.result c.from_residual.ensures.1 in
    rw p.1 (grows_after c.args.out.now.items (text_of (rule_lines (take c.loop-told.told-index c.args.unmet.now))) c.loop-told.out.items c.put_rule.new.out.items c.loop-told.invariant c.in_err-put_rule.ensures)
