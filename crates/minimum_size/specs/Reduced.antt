use Rattle.std.specs.Prelude.{◌≡◌, ◌*◌, ◌<◌, ◌≤◌, ◌⊎◌}
use Rattle.plan_geometry.specs.declared.instances.Inst.{Inst}
use Rattle.plan_geometry.specs.Layout.{area_bound_of, CaseFits}
use Rattle.partitions.specs.Partitions.{SameSides}

-- no number of the instance is greater than the same number of the other
pub record IsNoGreater (small large : Inst) : Type 0 where
  pub l_side : small.l_side ≤ large.l_side
  pub w_side : small.w_side ≤ large.w_side
  pub long : small.long ≤ large.long
  pub short : small.short ≤ large.short

-- an instance that may stand for the given one
pub record StandsFor (given inst : Inst) : Type 0 where
  pub same : SameSides given inst
  pub no_greater : IsNoGreater inst given

-- the long case side decides, then the short one, then the x side, then the y side
abbrev pub IsSmaller : Inst → Inst → Type 0
IsSmaller a b =
    (a.long < b.long)
    ⊎ ((a.long ≡ b.long) × (a.short < b.short))
    ⊎ ((a.long ≡ b.long) × (a.short ≡ b.short) × (a.l_side < b.l_side))
    ⊎ ((a.long ≡ b.long) × (a.short ≡ b.short) × (a.l_side ≡ b.l_side) × (a.w_side < b.w_side))

-- the reduced instance: it may stand for the given one, and no smaller one may
pub record IsReduced (given inst : Inst) : Type 0 where
  pub stands : StandsFor given inst
  pub least : (other : Inst) → StandsFor given other → ¬ IsSmaller other inst

-- an instance has one reduced instance
abbrev pub HasOneReduced : Type 0
HasOneReduced = (given a b : Inst) → IsReduced given a → IsReduced given b → a ≡ b

-- the area bound of the instance is below four times that of the given one
abbrev pub HasSmallArea : Inst → Inst → Type 0
HasSmallArea given inst = area_bound_of inst < 4 * area_bound_of given

-- where a case fits, each instance with the same sides has so small an area
abbrev pub SameSidesHaveSmallAreas : Type 0
SameSidesHaveSmallAreas = (given inst : Inst) → SameSides given inst → CaseFits given → HasSmallArea given inst
