use Rattle.std.proofs.Common.{◌≡◌, ◌*◌, ◌≤◌, ◌∙◌, ap, arith}
use Rattle.std.proofs.lemmas.Bool.Decides.{nat_tests}
use Rattle.contact_rules.specs.Real.{other, real_side}
use Rattle.contact_rules.proofs.RunSteps.{cuts-kept}
use Rattle.contact_rules.proofs.rules.keeps_cuts_along.Goals as goal

pub returns : goal.returns
returns c =
    let a = c.args.axis in
    let I = c.args.lower.now.inst in
    let g = c.args.gap in
    let r = c.longest_run-run.result in
    let p = c.args.percent in
    let kept = cuts-kept a I g p r c.args.lower.now.spots c.args.upper.now.spots c.longest_run-run.ensures.greatest in
    let w : c.real_side_along.result ≡ real_side (other a) I g = c.real_side_along.ensures.value ∙ (ap (λ i. real_side c.other_axis.result i g) c.inst-inst.ensures.value ∙ ap (λ b. real_side b I g) c.other_axis.ensures) in
    let w' : p * c.real_side_along.result ≡ p * real_side (other a) I g = ap (λ n. p * n) w in (
      λ h. let z : r * 100 ≤ p * c.real_side_along.result = grind (arith, nat_tests, h) in kept.0 (omega arith),
      λ k. let z : r * 100 ≤ p * real_side (other a) I g = kept.1 k in let y : r * 100 ≤ p * c.real_side_along.result = omega arith in grind (arith, nat_tests, y),
    )
