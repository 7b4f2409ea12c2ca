use Rattle.std.specs.Prelude.{◌≡◌, ℕ, ◌↔◌, List, length}
use Rattle.plan_geometry.specs.declared.spots.Axis.{Axis}
use Rattle.plan_geometry.specs.declared.spots.Spot.{Spot}
use Rattle.plan_geometry.specs.declared.instances.Inst.{Inst}
use Rattle.plan_geometry.specs.Layout.{IsLayout, Admits, IsBounded}
use Rattle.partitions.specs.Partitions.{SameSides, AreNormal}
use Rattle.layout_map.specs.Chains.{Chain, ListedChain, IsChainMap}

-- the chain map of a layout onto an instance with the same sides is a layout
abbrev pub ChainMapKeepsLayouts : Type 0
ChainMapKeepsLayouts =
    (from to : Inst) (spots new : List Spot) → SameSides from to → IsLayout from spots
    → IsChainMap from spots to new → IsLayout to new

abbrev pub ChainMapExists : Type 0
ChainMapExists = (from to : Inst) (spots : List Spot) → (new : List Spot) × IsChainMap from spots to new

abbrev pub ChainMapIsOne : Type 0
ChainMapIsOne =
    (from to : Inst) (spots new other : List Spot)
    → IsChainMap from spots to new → IsChainMap from spots to other → new ≡ other

-- onto the same instance the chain map of a layout has normal places
abbrev pub ChainMapIsNormal : Type 0
ChainMapIsNormal =
    (inst : Inst) (spots new : List Spot) → IsLayout inst spots
    → IsChainMap inst spots inst new → AreNormal inst new

-- instances with the same sides admit the same numbers of cases
abbrev pub SameSidesAdmitAlike : Type 0
SameSidesAdmitAlike = (a b : Inst) (n : ℕ) → SameSides a b → Admits a n ↔ Admits b n

-- instances with the same sides have the same bounds
abbrev pub SameSidesBoundAlike : Type 0
SameSidesBoundAlike = (a b : Inst) (n : ℕ) → SameSides a b → IsBounded a n ↔ IsBounded b n

-- every layout can be moved to one of the same count whose places are all normal
abbrev pub LayoutsHaveNormalForm : Type 0
LayoutsHaveNormalForm =
    (inst : Inst) (spots : List Spot) → IsLayout inst spots
    → (new : List Spot) × (length new ≡ length spots) × IsLayout inst new × AreNormal inst new

-- a chain has a total exactly where it is that of a list of cases
abbrev pub ChainsAreLists : Type 0
ChainsAreLists =
    (a : Axis) (from to : Inst) (spots : List Spot) (edge total : ℕ)
    → Chain a from to spots edge total ↔ ListedChain a from to spots edge total
