use Rattle.std.proofs.Common.{◌≡◌, true, false, refl, sym, subst, inl, inr, List, get_or, ◌∙◌}
use Rattle.std.specs.List.{Any}
use Rattle.std.proofs.lemmas.List.{get_or_default}
use Rattle.plan_geometry.specs.Placed.{Placed}
use Rattle.layer_symmetry.specs.declared.symmetries.Move.{Move}
use Rattle.layer_symmetry.proofs.images.add_new.Goals as goal

pub returns-then-holds : goal.returns-then-holds
returns-then-holds c =
    inl (subst (λ (l : List (Move × Placed)). Any (λ (w : Move × Placed). w.1.spots ≡ c.args.variant.1.spots) l) c.as_slice.ensures.value (c.holds.ensures.0 c.if-holds.true), refl)

pub returns : goal.returns
returns c =
    let vs = c.args.variants.now.items in
    let P = λ (w : Move × Placed). w.1.spots ≡ c.args.variant.1.spots in
    let none' : Any (λ (w : Move × Placed). w.1.spots ≡ c.args.variant.1.spots) vs → false ≡ true =
    λ a. sym c.if-holds.false ∙ c.holds.ensures.1 (subst (λ (l : List (Move × Placed)). Any (λ (w : Move × Placed). w.1.spots ≡ c.args.variant.1.spots) l) (sym c.as_slice.ensures.value) a) in
    inr (λ k d p e. cc (none' (k, get_or vs k d, p, get_or_default vs k (get_or vs k d) d p, e)), rw c.if-is_err.ensures.negation at c.push.ensures.items)
