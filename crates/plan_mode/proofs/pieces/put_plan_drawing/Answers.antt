use Rattle.std.proofs.Common.{◌≡◌, ◌++◌, ◌∙◌, List, ap, refl, subst}
use Rattle.plan_geometry.specs.declared.instances.Inst.{Inst}
use Rattle.plan_geometry.specs.declared.spots.Spot.{Spot}
use Rattle.layout_map.specs.Chains.{IsMapped}
use Rattle.layer_drawing.specs.Drawing.{drawing_text}
use Rattle.plan_mode.specs.Pieces.{IsDrawingOf}
use Rattle.plan_mode.proofs.FirstLayer.{on_ok}
use Rattle.plan_mode.proofs.pieces.put_plan_drawing.Goals as goal

pub returns : goal.returns
returns c =
    let plan = c.args.plan.now in
    let mapped = c.in_ok-mapped.mapped in
    let inst : mapped.inst ≡ plan.reduced = c.in_ok-mapped.ensures.inst in
    let image : IsMapped c.in_ok-layer.layer.inst c.in_ok-layer.layer.spots plan.reduced mapped.spots = c.in_ok-mapped.ensures.mapped in
    let drawing : IsDrawingOf plan (drawing_text plan.reduced mapped.spots) = record {
      given = c.in_ok-layer.layer.inst;
      is_given = c.in_ok-layer.ensures.given;
      spots = mapped.spots;
      mapped = subst (λ (spots : List Spot). IsMapped c.in_ok-layer.layer.inst spots plan.reduced mapped.spots) c.in_ok-layer.ensures.spots image;
      in_order = c.in_ok-mapped.ensures.layer.in_order;
      text = refl;
    } in
    on_ok c.put_drawing.result
    (λ put. (drawing_text plan.reduced mapped.spots, drawing, put ∙ ap (λ (I : Inst). c.args.out.now.items ++ drawing_text I mapped.spots) inst))
    c.put_drawing.ensures.ok
