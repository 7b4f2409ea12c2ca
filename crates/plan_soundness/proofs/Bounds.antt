-- The bound of a sound plan, by its certificate, and by its first layer.
use Rattle.std.proofs.Common.{ℕ, ◌<◌, List, [], ◌∷◌, length, sym, subst, arith}
use Rattle.std.specs.List.{All}
use Rattle.std.proofs.lemmas.List.Elements.{All-head}
use Rattle.plan_geometry.specs.declared.instances.Inst.{Inst}
use Rattle.plan_geometry.specs.Layout.{IsBounded}
use Rattle.plan_geometry.specs.Gap.{IsSwollen, SameLayouts}
use Rattle.plan_geometry.proofs.GapSteps.{SameLayouts-swollen, SameBounds-layouts}
use Rattle.order_reader.specs.Orders.{OrderValue, gap_of}
use Rattle.order_reader.specs.Instances.{IsGivenOf, IsRealOf, IsBoundFor}
use Rattle.bound_checker.proofs.Soundness.{accepted}
use Rattle.layer_symmetry.specs.declared.symmetries.Move.TheVariants.{Same}
use Rattle.layer_symmetry.specs.Variants.{IsVariants}
use Rattle.plan_entries.specs.Entries.{variants_on, first_spots}
use Rattle.plan_entries.specs.declared.listed.Listed.{Listed}
use Rattle.plan_entries.specs.declared.entries.Plan.{Plan}
use Rattle.plan_soundness.specs.Sound.{IsSound, IsListedLayer}
use Rattle.plan_soundness.specs.Laws.{SoundPlansAreBounded, CountsAreReached, CountsAreWithinBounds, OptimalIsGreatest}

swollen : (o : OrderValue) (R J : Inst) → IsRealOf o R → IsGivenOf o J → IsSwollen R (gap_of o) J
swollen o R J r g = record {
  l_side = omega (arith, r.l_side, g.l_side);
  w_side = omega (arith, r.w_side, g.w_side);
  long = omega (arith, r.long, g.long);
  short = omega (arith, r.short, g.short);
}

-- a layer has at least one variant
some : (I : Inst) (ls : List Listed) → IsVariants I (first_spots ls) (variants_on I ls) → 0 < length ls
some I [] v = absurd (omega (arith, (v.complete Same tt).2))
some I (l ∷ ls) v = omega arith

-- the first listed layer
first : (o : OrderValue) (count : ℕ) (ls : List Listed) → 0 < length ls → All (IsListedLayer o count) ls → (l : Listed) × IsListedLayer o count l
first o count [] some each = absurd (omega (arith, some))
first o count (l ∷ ls) some each = (l, All-head (IsListedLayer o count) l ls each)

first_of : (p : Plan) → IsSound p → (l : Listed) × IsListedLayer p.order p.count l
first_of p s = first p.order p.count p.layers (some s.variants.given p.layers s.variants.variants) s.layout

-- a layer with the gap is a layout of the order's instance, and a bound of those layouts bounds the layers
same_layouts : (o : OrderValue) (R J : Inst) → IsRealOf o R → IsGivenOf o J → SameLayouts R (gap_of o) J
same_layouts o R J r g = SameLayouts-swollen R (gap_of o) J (swollen o R J r g)

shown : (p : Plan) (s : IsSound p) → IsBounded s.bound.given p.bound
shown p s = accepted s.bound.given p.reduced p.cert p.bound s.bound.accepted

pub bounded : SoundPlansAreBounded
bounded p s =
    let l = first_of p s in
    let real = l.1.layer.real in
    let same = same_layouts p.order real s.bound.given l.1.layer.is_real s.bound.is_given in
    record {
      real = real;
      is_real = l.1.layer.is_real;
      bounded = (SameBounds-layouts real (gap_of p.order) s.bound.given same p.bound).1 (shown p s);
    }

pub reached : CountsAreReached
reached p s =
    let l = first_of p s in
    (l.0.spots, l.1.layer, l.1.count_is)

pub within : CountsAreWithinBounds
within p s =
    let l = first_of p s in
    let same = same_layouts p.order l.1.layer.real s.bound.given l.1.layer.is_real s.bound.is_given in
    let le = shown p s l.0.spots ((same l.0.spots).0 l.1.layer.layout) in
    omega (arith, le, l.1.count_is)

pub greatest : OptimalIsGreatest
greatest p s optimal = subst (λ n. IsBoundFor p.order n) (sym (s.status.0 optimal)) (bounded p s)
