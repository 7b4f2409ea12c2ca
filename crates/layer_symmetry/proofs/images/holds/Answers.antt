use Rattle.std.proofs.Common.{◌≡◌, ◌≢◌, true, refl, sym, subst, ◌∙◌}
use Rattle.std.proofs.lemmas.List.Elements.{All-more}
use Rattle.plan_geometry.specs.Placed.{Placed}
use Rattle.layer_symmetry.specs.declared.symmetries.Move.{Move}
use Rattle.layer_symmetry.proofs.VariantSteps.{All-end}
use Rattle.layer_symmetry.proofs.images.holds.Goals as goal

pub returns-then-are_same : goal.returns-then-are_same
returns-then-are_same c =
    let e : c.v-item.result.1.spots ≡ c.args.layer.now.spots =
    sym c.spots.ensures.value ∙ (c.are_same.ensures.0 c.if-are_same.true ∙ c.spots-in-loop-v.ensures.value) in (
      λ _. (c.loop-v.v-index, c.v-item.result, c.loop-v-test.true, sym c.v-item.is, e),
      λ _. refl,
    )

pub loop-v-preserved : goal.loop-v-preserved
loop-v-preserved c =
    let ne : c.v-item.result.1.spots ≢ c.args.layer.now.spots =
    λ e. let z : c.are_same.result ≡ true = c.are_same.ensures.1 (c.spots.ensures.value ∙ (e ∙ sym c.spots-in-loop-v.ensures.value)) in cc in
    All-more (λ (v : Move × Placed). v.1.spots ≢ c.args.layer.now.spots) c.args.variants.now c.loop-v.v-index c.v-item.result c.loop-v-test.true c.loop-v.invariant (subst (λ (v : Move × Placed). v.1.spots ≢ c.args.layer.now.spots) c.v-item.is ne)

pub returns : goal.returns
returns c = (
  λ e. absurd (cc e),
  λ a. absurd (All-end (λ (v : Move × Placed). v.1.spots ≢ c.args.layer.now.spots) c.args.variants.now c.loop-v.v-index c.loop-v-test.false c.loop-v.invariant a.0 a.1 a.2 (rw a.3 a.4)),
)
