use Rattle.std.proofs.Common.{◌≡◌, ◌<◌, ◌≤◌, ◌∙◌, List, length, get_or, sym, ap, subst}
use Rattle.plan_geometry.specs.Placed.{Placed}
use Rattle.layer_symmetry.specs.declared.symmetries.Move.{Move}
use Rattle.layer_symmetry.specs.declared.symmetries.Move.TheVariants.{Same}
use Rattle.layer_symmetry.specs.Moves.{lawful_moves, move_number, IsLawfulMove}
use Rattle.layer_symmetry.specs.Variants.{IsVariants}
use Rattle.layer_symmetry.proofs.VariantSteps.{variants-all, variants-step, number-lawful, lawful-listed}
use Rattle.layer_symmetry.proofs.OneList.{variants-unique, variants-first, variants-few, variants-layers}
use Rattle.layer_symmetry.proofs.images.variants.Goals as goal

pub loop-way-preserved : goal.loop-way-preserved
loop-way-preserved c =
    let I = c.args.layer.now.inst in
    let i = c.loop-way.way-index in
    let xs = c.as_slice-way-items.result.now in
    let e : xs ≡ lawful_moves I = c.as_slice-way-items.ensures.value ∙ (c.moves-lawful.ensures.lawful ∙ ap (λ J. lawful_moves J) c.inst.ensures.value) in
    let lt : i < length (lawful_moves I) = subst (λ (l : List Move). i < length l) e c.loop-way-test.true in
    let v : Move × Placed = (get_or xs i Same, c.in_ok-image.image) in
    let number : move_number (get_or xs i Same) ≡ i = subst (λ (l : List Move). move_number (get_or l i Same) ≡ i) (sym e) (number-lawful I i Same lt) in
    let lawful : IsLawfulMove I (get_or xs i Same) = subst (λ (l : List Move). IsLawfulMove I (get_or l i Same)) (sym e) (lawful-listed I i Same lt) in
    variants-step I c.args.layer.now.spots i c.loop-way.found.items c.add_new.new.variants.items v c.loop-way.invariant number (record { lawful = lawful; inst = c.in_ok-image.ensures.inst; image = c.in_ok-image.ensures.image }) c.in_ok-add_new.ensures

pub returns : goal.returns
returns c =
    let I = c.args.layer.now.inst in
    let xs = c.args.layer.now.spots in
    let vs = c.loop-way.found.items in
    let e : c.as_slice-way-items.result.now ≡ lawful_moves I = c.as_slice-way-items.ensures.value ∙ (c.moves-lawful.ensures.lawful ∙ ap (λ J. lawful_moves J) c.inst.ensures.value) in
    let whole : IsVariants I xs vs = variants-all I xs c.loop-way.way-index vs c.loop-way.invariant (subst (λ (l : List Move). length l ≤ c.loop-way.way-index) e c.loop-way-test.false) in
    record {
      variants = whole;
      only = variants-unique I xs vs whole;
      layers = variants-layers I xs vs c.inst.ensures.layer.layout whole;
      first = variants-first I xs vs c.inst.ensures.layer.in_order whole;
      few = variants-few I xs vs whole;
    }
