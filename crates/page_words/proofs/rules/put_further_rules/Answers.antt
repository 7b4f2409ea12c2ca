use Rattle.std.proofs.Common.{take}
use Rattle.std.proofs.lemmas.Result.{err_from_is_err_and}
use Rattle.texts.proofs.Growth.{grows_after}
use Rattle.contact_rules.specs.declared.rules.Rule.TheVariants.{Contact}
use Rattle.page_words.specs.Rules.{further_rule, further_rules}
use Rattle.page_pieces.proofs.Loops.{each_more}
use Rattle.page_words.proofs.rules.put_further_rules.Goals as goal

pub loop-rule-preserved : goal.loop-rule-preserved
loop-rule-preserved c =
    each_more further_rule c.args.out.now.items c.loop-rule.out.items c.put_further_rule.new.out.items c.loop-rule.rule-index c.args.rules.now (Contact 0) c.loop-rule-test.true c.loop-rule.invariant c.in_ok-put_further_rule.ensures

pub returns-in_err-put_further_rule : goal.returns-in_err-put_further_rule
returns-in_err-put_further_rule c =
    let p = err_from_is_err_and c.from_residual.result c.from_residual.ensures.1 in
    rw p.1 (grows_after c.args.out.now.items (further_rules (take c.loop-rule.rule-index c.args.rules.now)) c.loop-rule.out.items c.put_further_rule.new.out.items c.loop-rule.invariant c.in_err-put_further_rule.ensures)
