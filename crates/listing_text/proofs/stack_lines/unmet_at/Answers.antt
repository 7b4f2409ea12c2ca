use Rattle.std.proofs.Common.{◌∙◌}
use Rattle.std.proofs.lemmas.Result.{err_from_is_err_and}
use Rattle.texts.specs.Lines.{whole_lines}
use Rattle.contact_rules.specs.declared.rules.Rule.TheVariants.{Contact}
use Rattle.listing_text.specs.Lines.{unmet_from}
use Rattle.listing_text.proofs.Loops.{rules_go_on, rules_end, rules_done}
use Rattle.listing_text.proofs.stack_lines.unmet_at.Goals as goal

pub returns-in_err-told-clause-read : goal.returns-in_err-told-clause-read
returns-in_err-told-clause-read c =
    let p = err_from_is_err_and c.from_residual.result c.from_residual.ensures.1 in
    rw (p.1, p.2) (rules_end c.in_err-told.field-0.0.count c.loop-rule.unmet.items c.args.rules.now c.loop-rule.rule-index (Contact 0) (whole_lines c.loop-rule.rest.now) (unmet_from c.args.rules.now (whole_lines c.args.bytes.now)) c.loop-rule-test.true c.in_err-told.ensures.read c.loop-rule.invariant.read)

pub loop-rule-preserved : goal.loop-rule-preserved
loop-rule-preserved c = record {
  read = rw c.in_ok-push.ensures.items (rules_go_on c.loop-rule.unmet.items c.args.rules.now c.loop-rule.rule-index (Contact 0) (whole_lines c.loop-rule.rest.now) (whole_lines c.in_ok-told.after.now) c.in_ok-told.told (unmet_from c.args.rules.now (whole_lines c.args.bytes.now)) c.loop-rule-test.true c.in_ok-told.ensures.read c.loop-rule.invariant.read);
  rest = c.in_ok-told.ensures.rest ∙ c.loop-rule.invariant.rest;
}

pub returns-clause-read : goal.returns-clause-read
returns-clause-read c = rules_done c.loop-rule.unmet.items c.args.rules.now c.loop-rule.rule-index (whole_lines c.loop-rule.rest.now) (unmet_from c.args.rules.now (whole_lines c.args.bytes.now)) c.loop-rule-test.false c.loop-rule.invariant.read
