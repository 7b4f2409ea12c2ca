use Rattle.std.proofs.lemmas.Result.{IfOk-weaker}
use Rattle.report_checker.proofs.Parts.{bound-shown}
use Rattle.report_checker.proofs.checks.shows_bound.Goals as goal

pub returns : goal.returns
returns c =
    let k = bound-shown c.args.plan.now c.inst.result c.inst.ensures.given in
    IfOk-weaker c.check_bound.result _ _ (λ b e. (λ t. k.0 (e.0 t), λ h. e.1 (k.1 h))) c.check_bound.ensures.exact
