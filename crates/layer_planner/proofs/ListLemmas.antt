-- Layers as they are listed, and the variants that they are.
use Rattle.std.proofs.Common.{◌≡◌, ℕ, ◌≤◌, ◌↔◌, List, [], ◌∷◌, length, map, ap, sym, subst, refl, ◌∙◌, arith, true, Some}
use Rattle.std.specs.List.{All, slice_get}
use Rattle.std.proofs.lemmas.List.{length-map}
use Rattle.std.proofs.lemmas.List.Elements.{All-head, All-tail, All-weaker, All-map}
use Rattle.std.proofs.lemmas.Option.{slice_get_within}
use Rattle.plan_geometry.specs.declared.spots.Spot.{Spot}
use Rattle.plan_geometry.specs.declared.instances.Inst.{Inst}
use Rattle.plan_geometry.specs.Layout.{IsLayout}
use Rattle.plan_geometry.specs.Placed.{Placed}
use Rattle.layer_symmetry.specs.declared.symmetries.Move.{Move}
use Rattle.layer_symmetry.specs.declared.symmetries.Move.TheVariants.{Same}
use Rattle.layer_symmetry.specs.Variants.{IsVariants, IsLayerOf}
use Rattle.order_reader.specs.Orders.{OrderValue}
use Rattle.order_reader.specs.Instances.{IsGivenOf, IsLayerFor}
use Rattle.stack_builder.specs.declared.lists.StackAnswer.{StackAnswer}
use Rattle.stack_builder.specs.Orders.{allowed_of, IsStackOf}
use Rattle.plan_entries.specs.declared.listed.Listed.{Listed}
use Rattle.plan_entries.specs.Entries.{variants_on, first_spots}
use Rattle.plan_entries.specs.Ranges.{listed_in_range, stack_in_range}
use Rattle.plan_soundness.specs.Sound.{IsListedLayer}
use Rattle.layer_planner.specs.Listing.{listed, IsListing}
use Rattle.layer_planner.proofs.RangeLemmas.{stack-text, listed-text, layers-text}

-- the variants of the order are of its instance
pub all-given : (o : OrderValue) (I : Inst) (n : ℕ) (vs : List (Move × Placed)) → IsGivenOf o I → All (IsLayerOf I n) vs → All (λ v. IsGivenOf o v.1.inst) vs
all-given o I n vs g a = All-weaker (IsLayerOf I n) (λ v. IsGivenOf o v.1.inst) (λ v h. subst (λ J. IsGivenOf o J) (sym h.inst) g) vs a

variant-same : (I : Inst) (v : Move × Placed) → v.1.inst ≡ I → (v.0, record { inst = I; spots = v.1.spots }) ≡ v
variant-same I v e = ap (λ J. (v.0, record { inst = J; spots = v.1.spots })) (sym e)

-- listed, and taken as variants again, they are the same
variants-same : (I : Inst) (n : ℕ) (vs : List (Move × Placed)) → All (IsLayerOf I n) vs → variants_on I (map listed vs) ≡ vs
variants-same I n [] a = refl
variants-same I n (v ∷ vs) a =
    ap (λ w. w ∷ variants_on I (map listed vs)) (variant-same I v (All-head (IsLayerOf I n) v vs a).inst)
    ∙ ap (λ ws. v ∷ ws) (variants-same I n vs (All-tail (IsLayerOf I n) v vs a))

first-same : (vs : List (Move × Placed)) (p : Placed) → slice_get vs 0 ≡ Some (Same, p) → first_spots (map listed vs) ≡ p.spots
first-same [] p e = let lt = slice_get_within [] 0 (Same, p) e in absurd (omega (arith, lt))
first-same (v ∷ vs) p e =
    let w : Move × Placed = (Same, p) in
    let same : v ≡ w = cc e in
    ap (λ (u : Move × Placed). u.1.spots) same

each-layer : (o : OrderValue) (I : Inst) (n : ℕ) (vs : List (Move × Placed)) → ((spots : List Spot) → IsLayerFor o spots ↔ IsLayout I spots) → All (IsLayerOf I n) vs
    → All (IsListedLayer o n) (map listed vs)
each-layer o I n vs layers a =
    All-map (IsListedLayer o n) listed vs (All-weaker (IsLayerOf I n) (λ v. IsListedLayer o n (listed v))
    (λ v h. record {
      count_is = h.count;
      in_order = h.layer.in_order;
      layer = (layers v.1.spots).1 (subst (λ J. IsLayout J v.1.spots) h.inst h.layer.layout);
    }) vs a)

each-text : (I : Inst) (n : ℕ) (vs : List (Move × Placed)) → All (IsLayerOf I n) vs → All (λ l. listed_in_range n l ≡ true) (map listed vs)
each-text I n vs a =
    All-map (λ l. listed_in_range n l ≡ true) listed vs (All-weaker (IsLayerOf I n) (λ v. listed_in_range n (listed v) ≡ true)
    (λ v h. listed-text I n (listed v) h.count (subst (λ J. IsLayout J v.1.spots) h.inst h.layer.layout)) vs a)

-- the listing of the variants of a layer
pub listing-is : (o : OrderValue) (I : Inst) (n : ℕ) (p : Placed) (vs : List (Move × Placed)) (ls : List Listed) (allowed : ℕ) (answer : StackAnswer)
    → ((spots : List Spot) → IsLayerFor o spots ↔ IsLayout I spots) → p.inst ≡ I → IsVariants p.inst p.spots vs → All (IsLayerOf p.inst n) vs → slice_get vs 0 ≡ Some (Same, p) → length vs ≤ 8
    → ls ≡ map listed vs → allowed ≡ allowed_of o n → allowed ≤ 10000 → IsStackOf o vs allowed answer
    → IsListing o I n (record { layers = ls; allowed = allowed; stack = answer })
listing-is o I n p vs ls allowed answer layers e variants each first few is value small stack =
    let all : All (IsLayerOf I n) vs = subst (λ J. All (IsLayerOf J n) vs) e each in
    let some : 1 ≤ length vs = omega (arith, slice_get_within vs 0 (Same, p) first) in
    let long : length ls ≡ length vs = ap length is ∙ length-map vs listed in
    let back : variants_on I ls ≡ vs = ap (variants_on I) is ∙ variants-same I n vs all in
    let head : first_spots ls ≡ p.spots = ap first_spots is ∙ first-same vs p first in
    record {
      each = subst (All (IsListedLayer o n)) (sym is) (each-layer o I n vs layers all);
      variants = subst (λ (ss : List Spot). IsVariants I ss (variants_on I ls)) (sym head) (subst (λ ws. IsVariants I p.spots ws) (sym back) (subst (λ J. IsVariants J p.spots vs) e variants));
      allowed = value;
      few_allowed = small;
      stack = subst (λ ws. IsStackOf o ws allowed answer) (sym back) stack;
      layers_in_range = layers-text n ls (omega (arith, long, some)) (omega (arith, long, few)) (subst (All (λ l. listed_in_range n l ≡ true)) (sym is) (each-text I n vs all));
      stack_in_range = subst (λ k. stack_in_range o k answer ≡ true) (sym long) (stack-text o vs allowed answer stack some small);
    }
