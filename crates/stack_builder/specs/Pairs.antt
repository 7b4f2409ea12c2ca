use Rattle.std.specs.Prelude.{◌≡◌, ℕ, ◌-◌, ◌≤◌, List, [], map, length, All, slice_index_or}
use Rattle.plan_geometry.specs.declared.spots.Spot.{Spot}
use Rattle.plan_geometry.specs.declared.instances.Inst.{Inst}
use Rattle.plan_geometry.specs.Placed.{Placed, IsLayer}
use Rattle.layer_symmetry.specs.declared.symmetries.Move.{Move}
use Rattle.layer_symmetry.specs.Variants.{IsVariants}
use Rattle.contact_rules.specs.declared.rules.Rule.{Rule}
use Rattle.contact_rules.specs.Rules.{Meets}

-- the variants are of this instance
abbrev pub AreOf : Inst → List (Move × Placed) → Type 0
AreOf I variants = All (λ v. v.1.inst ≡ I) variants

-- the cases of a variant, by its number from 1
unfoldable pub spots_of : List (Move × Placed) → ℕ → List Spot
spots_of variants v = slice_index_or (map (λ x. x.1.spots) variants) (v - 1) []

-- these are all the variants of some layer, in order
pub record AreVariants (variants : List (Move × Placed)) : Type 0 where
  pub layer : Placed
  pub is_layer : IsLayer layer.inst layer.spots
  pub all : IsVariants layer.inst layer.spots variants

-- the second variant upon the first meets all rules
abbrev pub GoTogether : Inst → ℕ → List Rule → List (Move × Placed) → ℕ → ℕ → Type 0
GoTogether I gap rules variants v w = All (λ r. Meets I gap r (spots_of variants v) (spots_of variants w)) rules

-- some variant upon the first, maybe the first itself, meets all rules
pub record Interlocks (I : Inst) (gap : ℕ) (rules : List Rule) (variants : List (Move × Placed)) : Type 0 where
  pub form : ℕ
  pub min : 1 ≤ form
  pub max : form ≤ length variants
  pub meets : GoTogether I gap rules variants 1 form

-- no variant upon any, itself included, meets the rule
abbrev pub IsAlone : Inst → ℕ → List (Move × Placed) → Rule → Type 0
IsAlone I gap variants rule =
    (v w : ℕ) → 1 ≤ v → v ≤ length variants → 1 ≤ w → w ≤ length variants → Meets I gap rule (spots_of variants v) (spots_of variants w) → ⊥
