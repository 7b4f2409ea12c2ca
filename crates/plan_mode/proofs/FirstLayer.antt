-- The first listed layer of a sound plan.
use Rattle.std.proofs.Common.{ℕ, ◌≡◌, List, [], ◌∷◌, sym, subst, arith}
use Rattle.std.specs.List.{All}
use Rattle.std.proofs.lemmas.List.Elements.{All-head}
use Rattle.plan_geometry.specs.declared.spots.Spot.{Spot}
use Rattle.plan_geometry.specs.declared.instances.Inst.{Inst}
use Rattle.plan_geometry.specs.Layout.{IsInOrder}
use Rattle.plan_geometry.proofs.Same.{Inst-same}
use Rattle.plan_geometry.proofs.Unique.{in_order-permutation}
use Rattle.std.specs.Prelude.{IsPermutation, OnOk, Result, Ok, Err}
use Rattle.partitions.specs.Partitions.{SameSides}
use Rattle.order_reader.specs.Orders.{OrderValue}
use Rattle.order_reader.specs.Instances.{IsGivenOf, IsLayerFor}
use Rattle.layer_symmetry.specs.declared.symmetries.Move.TheVariants.{Same}
use Rattle.layer_symmetry.specs.Variants.{IsVariants}
use Rattle.plan_entries.specs.Entries.{variants_on, first_spots}
use Rattle.plan_entries.specs.declared.listed.Listed.{Listed}
use Rattle.plan_entries.specs.declared.entries.Plan.{Plan}
use Rattle.plan_soundness.specs.Sound.{IsSound, IsListedLayer}

-- an order has one instance that is planned
pub one_given : (o : OrderValue) (I J : Inst) → IsGivenOf o I → IsGivenOf o J → I ≡ J
one_given o I J i j = Inst-same I J (omega (arith, i.l_side, j.l_side)) (omega (arith, i.w_side, j.w_side)) (omega (arith, i.long, j.long)) (omega (arith, i.short, j.short))

-- what is so of the first listed layer
pub record IsFirst (o : OrderValue) (spots : List Spot) : Type 0 where
  pub layer : IsLayerFor o spots
  pub in_order : IsInOrder spots

first : (o : OrderValue) (count : ℕ) (I : Inst) (ls : List Listed) → IsVariants I (first_spots ls) (variants_on I ls) → All (IsListedLayer o count) ls → IsFirst o (first_spots ls)
first o count I [] v each = absurd (omega (arith, (v.complete Same tt).2))
first o count I (l ∷ ls) v each =
    let h : IsListedLayer o count l = All-head (IsListedLayer o count) l ls each in
    record { layer = h.layer; in_order = h.in_order }

pub first_of : (p : Plan) → IsSound p → IsFirst p.order (first_spots p.layers)
first_of p s = first p.order p.count s.variants.given p.layers s.variants.variants s.layout

-- the order's instance and the planned one have the same sides
pub same_of : (p : Plan) (I : Inst) → IsSound p → IsGivenOf p.order I → SameSides I p.reduced
same_of p I s g = subst (λ (J : Inst). SameSides J p.reduced) (one_given p.order s.reduced.given I s.reduced.is_given g) s.reduced.same

-- two lists in order that have the same cases are the same
pub same_order : (xs ys : List Spot) → IsInOrder xs → IsInOrder ys → IsPermutation xs ys → ys ≡ xs
same_order xs ys x y same = sym (in_order-permutation xs ys x y same)

-- what is so where a call answered Ok follows from what is so then
pub on_ok : {X E : Type 0} {P Q : Type 0} (r : Result X E) → (P → Q) → OnOk r P → OnOk r Q
on_ok (Ok x) f h = f h
on_ok (Err e) f h = h
