use Rattle.std.proofs.Common.{◌≡◌, ◌∙◌, sym, subst}
use Rattle.plan_geometry.specs.declared.instances.Inst.{Inst}
use Rattle.plan_geometry.specs.Layout.{IsLayout, IsInOrder}
use Rattle.partitions.specs.Partitions.{SameSides}
use Rattle.plan_entries.specs.Entries.{first_spots}
use Rattle.plan_mode.proofs.FirstLayer.{first_of, same_of}
use Rattle.plan_mode.proofs.pieces.first_layer.Goals as goal

-- the copied cases
copied : (c : goal.In_ok-spots) → c.in_ok-spots.spots.items ≡ first_spots c.args.plan.now.layers
copied c = c.in_ok-spots.ensures.items_if_clones_equal (λ x y e. e) ∙ c.first_cases.ensures

pub layer_of-requires-clause-layout : goal.layer_of-requires-clause-layout
layer_of-requires-clause-layout c =
    let first = first_of c.args.plan.now c.requires in
    subst (IsLayout c.inst-given.result) (sym (copied c)) ((c.inst-given.ensures.layers (first_spots c.args.plan.now.layers)).0 first.layer)

pub layer_of-requires-clause-in_order : goal.layer_of-requires-clause-in_order
layer_of-requires-clause-in_order c =
    let first = first_of c.args.plan.now c.requires in
    subst IsInOrder (sym (copied c)) first.in_order

pub returns-clause-same : goal.returns-clause-same
returns-clause-same c =
    let same : SameSides c.inst-given.result c.args.plan.now.reduced = same_of c.args.plan.now c.inst-given.result c.requires c.inst-given.ensures.given in
    subst (λ (I : Inst). SameSides I c.args.plan.now.reduced) (sym c.layer_of.ensures.inst) same
