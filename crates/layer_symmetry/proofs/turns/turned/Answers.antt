use Rattle.std.proofs.Common.{◌≡◌, ◌≤◌, ◌∙◌, true, false, List, length, ap, sym, subst}
use Rattle.std.proofs.lemmas.List.{take_all}
use Rattle.std.proofs.lemmas.List.Sorted.{length_permutation}
use Rattle.plan_geometry.specs.declared.spots.Spot.{Spot}
use Rattle.plan_geometry.specs.Layout.{IsLayout}
use Rattle.layer_symmetry.specs.Moves.{image_spots}
use Rattle.layer_symmetry.proofs.TurnSteps.{layout-image, length_image}
use Rattle.layer_symmetry.proofs.turns.turned.Goals as goal

pub unreachable-requires : goal.unreachable-requires
unreachable-requires c =
    let xs = c.args.layer.now.spots in
    let I = c.args.layer.now.inst in
    let m = c.args.way in
    let i = c.loop-s.s-index in
    let n : length xs ≤ i = subst (λ (l : List Spot). length l ≤ i) c.spots-s-items.ensures.value c.loop-s-test.false in
    let e : c.loop-s.spots.items ≡ image_spots I m xs =
    c.loop-s.invariant ∙ ap (λ (l : List Spot). image_spots I m l) (take_all i xs n) in
    let l : IsLayout I c.loop-s.spots.items = subst (λ (l : List Spot). IsLayout I l) (sym e) (layout-image I m xs c.requires.lawful c.inst-inst.ensures.layer.layout) in
    let l' : IsLayout c.inst-inst.result c.loop-s.spots.items = subst (λ J. IsLayout J c.loop-s.spots.items) (sym c.inst-inst.ensures.value) l in
    let z : false ≡ true = c.in-None.ensures.accepted.1 l' in
    cc z

pub returns-clause-count : goal.returns-clause-count
returns-clause-count c =
    let xs = c.args.layer.now.spots in
    let I = c.args.layer.now.inst in
    let m = c.args.way in
    let i = c.loop-s.s-index in
    let n : length xs ≤ i = subst (λ (l : List Spot). length l ≤ i) c.spots-s-items.ensures.value c.loop-s-test.false in
    let e : c.loop-s.spots.items ≡ image_spots I m xs =
    c.loop-s.invariant ∙ ap (λ (l : List Spot). image_spots I m l) (take_all i xs n) in
    length_permutation c.loop-s.spots.items c.in-Some.image.spots c.in-Some.ensures.same ∙ (ap length e ∙ length_image I m xs)
