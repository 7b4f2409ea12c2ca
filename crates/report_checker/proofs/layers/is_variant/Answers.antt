use Rattle.std.proofs.Common.{◌≡◌, ◌∙◌, sym, ap}
use Rattle.plan_geometry.specs.Placed.{Placed}
use Rattle.layer_symmetry.specs.declared.symmetries.Move.{Move}
use Rattle.report_checker.proofs.Lists.{variant-same}
use Rattle.report_checker.proofs.layers.is_variant.Goals as goal

pub returns : goal.returns
returns c =
    let l = c.args.listed.now in
    let v = c.args.variant.now in
    let I = c.args.given in
    let m : l.turn ≡ v.0 = c.same_move.ensures.0 c.if-not-same_move.false in
    let i : I ≡ v.1.inst = c.same_inst.ensures.0 c.if-not-same_inst.false ∙ c.inst.ensures.value in (
      λ t. variant-same I l v m i (sym c.as_slice.ensures ∙ (c.are_same.ensures.0 t ∙ c.spots.ensures.value)),
      λ e. c.are_same.ensures.1 (c.as_slice.ensures ∙ (ap (λ (w : Move × Placed). w.1.spots) e ∙ sym c.spots.ensures.value)),
    )
