use Rattle.std.specs.Prelude.{◌≡◌, ℕ, ◌+◌, ◌-◌, ◌*◌, ◌/◌, max, ◌<◌, ◌≤◌, ◌⊎◌, ◌==◌, if◌then◌else◌}
use Rattle.plan_geometry.specs.declared.instances.Inst.{Inst}
use Rattle.weightings.specs.declared.kinds.Weighting.{Weighting}
use Rattle.weightings.specs.declared.kinds.Weighting.TheVariants.{Area, Colour, Comb, Table, Lines}
use Rattle.weightings.specs.Weighting.{weight_of, IsMember, IsWeightBound, colour_loss}

-- how many combs come before those of the pair (p, r)
abbrev pub combs_before : Inst → ℕ → ℕ → ℕ
combs_before I p r =
    (if p == I.long then 0 else I.long * (I.long + I.short)) + (if r == I.long then 0 else p * I.long)

-- The place of a weighting in the order of the family: area; colours mod long by c, then mod short; combs by
-- (long, long), (long, short), (short, long), (short, short), then by a, then by b. A table has no place there.
abbrev pub place_of : Inst → Weighting → ℕ
place_of I Area = 0
place_of I (Colour k c) = 1 + (if k == I.long then 0 else I.long) + c
place_of I (Comb p a r b) = 1 + I.long + I.short + combs_before I p r + a * r + b
place_of I (Table t) = 0
place_of I (Lines t) = 0

-- a member with a bound, which is below the bound of each other member, or as low and earlier in the order
pub record IsLead (I : Inst) (g : Weighting) : Type 0 where
  pub member : IsMember I g
  pub bound : ℕ
  pub is_bound : IsWeightBound I (weight_of g) bound
  pub first : (h : Weighting) (n : ℕ) → IsMember I h → IsWeightBound I (weight_of h) n → (bound < n) ⊎ ((bound ≡ n) × (place_of I g ≤ place_of I h))

-- the lead among the members before a place
pub record IsBestBefore (I : Inst) (g : Weighting) (bound place : ℕ) : Type 0 where
  pub member : IsMember I g
  pub is_bound : IsWeightBound I (weight_of g) bound
  pub before : place_of I g < place
  pub first : (h : Weighting) (n : ℕ) → IsMember I h → IsWeightBound I (weight_of h) n → place_of I h < place → (bound < n) ⊎ ((bound ≡ n) × (place_of I g ≤ place_of I h))

-- each bound of this weighting is at most the area less the colours' losses, divided by the area of a case
abbrev pub ColourBounds : Inst → Weighting → Type 0
ColourBounds I g =
    (n : ℕ) → IsWeightBound I (weight_of g) n → n ≤ (I.l_side * I.w_side - max (colour_loss I I.long) (colour_loss I I.short)) / (I.long * I.short)
