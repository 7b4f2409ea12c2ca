use Rattle.report_checker.proofs.Parts.{sides-kept}
use Rattle.report_checker.proofs.checks.keeps_sides.Goals as goal

pub returns : goal.returns
returns c =
    let k = sides-kept c.args.plan.now c.inst.result c.inst.ensures.given in
    (λ t. k.0 (c.same_sides.ensures.0 t), λ h. c.same_sides.ensures.1 (k.1 h))
