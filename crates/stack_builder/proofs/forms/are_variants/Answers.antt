use Rattle.std.proofs.Common.{◌≡◌, ◌<◌, ◌≤◌, List, length, get_or, sym, subst, ◌∙◌, arith}
use Rattle.std.proofs.lemmas.Bool.Decides.{nat_tests}
use Rattle.std.proofs.lemmas.Option.{slice_get_within, get_or_from_slice_get}
use Rattle.plan_geometry.specs.Placed.{Placed, IsLayer}
use Rattle.layer_symmetry.specs.declared.symmetries.Move.{Move}
use Rattle.layer_symmetry.specs.declared.symmetries.Move.TheVariants.{Same}
use Rattle.layer_symmetry.specs.Variants.{IsVariants}
use Rattle.stack_builder.proofs.FirstPairs.{some-variant, variants-of-first}
use Rattle.stack_builder.proofs.forms.are_variants.Goals as goal

pub returns-then-is_empty : goal.returns-then-is_empty
returns-then-is_empty c = (
  λ f. cc f,
  λ h.
      let some : 1 ≤ length c.args.listed.now = some-variant c.args.listed.now h in
      absurd (grind (arith, nat_tests, c.if-is_empty.ensures)),
)

pub returns : goal.returns
returns c =
    let x = get_or c.args.listed.now 0 c.index-listed-0.result in
    let ys = c.in_ok-all.all.items in (
      λ t.
          let w : Move × Placed = (Same, x.1) in
          let e : ys ≡ c.args.listed.now = sym c.as_slice.ensures.value ∙ c.same_lists.ensures.0 t in
          let lt : 0 < length ys = slice_get_within ys 0 w c.in_ok-all.ensures.first in
          let at : get_or ys 0 w ≡ w = get_or_from_slice_get ys 0 w w c.in_ok-all.ensures.first in
          let layer : IsLayer (get_or ys 0 w).1.inst (get_or ys 0 w).1.spots = (c.in_ok-all.ensures.layers 0 w lt).layer in
          record {
            layer = x.1;
            is_layer = subst (λ (y : Move × Placed). IsLayer y.1.inst y.1.spots) at layer;
            all = subst (λ (l : List (Move × Placed)). IsVariants x.1.inst x.1.spots l) e c.in_ok-all.ensures.variants;
          },
      λ h.
          let v = variants-of-first c.args.listed.now c.index-listed-0.result h in
          c.same_lists.ensures.1 (c.as_slice.ensures.value ∙ sym (c.in_ok-all.ensures.only c.args.listed.now v)),
    )
