use Rattle.std.proofs.Common.{◌≡◌, List, ap, sym, ◌∙◌, arith}
use Rattle.std.proofs.lemmas.Bool.Decides.{nat_tests}
use Rattle.plan_geometry.specs.declared.spots.Spot.{Spot}
use Rattle.plan_geometry.specs.declared.instances.Inst.{Inst}
use Rattle.plan_geometry.specs.Placed.{Placed}
use Rattle.plan_geometry.proofs.Same.{Inst-same}
use Rattle.stack_builder.proofs.forms.same_layers.Goals as goal

abbrev placed : Inst → List Spot → Placed
placed I spots = record { inst = I; spots = spots }

placed-same : (a b : Placed) → a.inst ≡ b.inst → a.spots ≡ b.spots → a ≡ b
placed-same a b e f = ap (λ I. placed I a.spots) e ∙ ap (λ l. placed b.inst l) f

pub returns-then-eq : goal.returns-then-eq
returns-then-eq c =
    let I = c.inst.result in
    let K = c.inst-2.result in
    let l_side : I.l_side ≡ K.l_side = grind (arith, nat_tests, c.if-eq.ensures) in
    let w_side : I.w_side ≡ K.w_side = grind (arith, nat_tests, c.if-eq.ensures) in
    let long : I.long ≡ K.long = grind (arith, nat_tests, c.if-eq.ensures) in
    let short : I.short ≡ K.short = grind (arith, nat_tests, c.if-eq.ensures) in
    let inst : c.args.a.now.inst ≡ c.args.b.now.inst =
    sym c.inst.ensures.value ∙ (Inst-same I K l_side w_side long short ∙ c.inst-2.ensures.value) in (
      λ t. placed-same c.args.a.now c.args.b.now inst (sym c.spots.ensures.value ∙ (c.same_spots.ensures.0 t ∙ c.spots-then-eq.ensures.value)),
      λ e. c.same_spots.ensures.1 (c.spots.ensures.value ∙ (ap (λ (p : Placed). p.spots) e ∙ sym c.spots-then-eq.ensures.value)),
    )
