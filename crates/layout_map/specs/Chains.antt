use Rattle.std.specs.Prelude.{IsPermutation, ◌≡◌, ℕ, ◌+◌, ◌≤◌, ◌<◌, nat_eq, List, length, Contains, slice_index_or, [], ◌∷◌, sum_by, if◌then◌else◌}
use Rattle.plan_geometry.specs.declared.spots.Way.{Way}
use Rattle.plan_geometry.specs.declared.spots.Way.TheVariants.{Lying, Standing}
use Rattle.plan_geometry.specs.declared.spots.Axis.{Axis}
use Rattle.plan_geometry.specs.declared.spots.Axis.TheVariants.{X, Y}
use Rattle.plan_geometry.specs.declared.spots.Spot.{Spot}
use Rattle.plan_geometry.specs.declared.instances.Inst.{Inst}
use Rattle.plan_geometry.specs.Layout.{extent, start, finish}

-- A chain of cases of `spots` along an axis: each ends at or before the next begins, and the last
-- ends at or before `edge`. `total` is the sum of their extents in the instance `to`.
pub data Chain (a : Axis) (from to : Inst) (spots : List Spot) : ℕ → ℕ → Type 0 where
  empty : (edge : ℕ) → Chain a from to spots edge 0
  link : (edge total : ℕ) (last : Spot) → Contains spots last
      → Chain a from to spots (start a last) total → finish a from last ≤ edge
      → Chain a from to spots edge (total + extent a to last.way)

-- the greatest total of a chain before an edge
pub record IsGreatestChain (a : Axis) (from to : Inst) (spots : List Spot) (edge total : ℕ) : Type 0 where
  pub reached : Chain a from to spots edge total
  pub greatest : (other : ℕ) → Chain a from to spots edge other → other ≤ total

-- the way is kept, but a case of equal sides is always written as lying
abbrev pub way_on : Inst → Way → Way
way_on to Lying = Lying
way_on to Standing = if◌then◌else◌ (nat_eq to.long to.short) Lying Standing

-- where the chain map puts a case: at the greatest totals of the chains before it, along x and along y
pub record IsMoved (from to : Inst) (spots : List Spot) (spot new : Spot) : Type 0 where
  pub to_x : IsGreatestChain X from to spots spot.x new.x
  pub to_y : IsGreatestChain Y from to spots spot.y new.y
  pub way : new.way ≡ way_on to spot.way

-- the chain map of a list of cases: each case moved, in the same order
pub record IsChainMap (from : Inst) (spots : List Spot) (to : Inst) (new : List Spot) : Type 0 where
  pub count : length new ≡ length spots
  pub each : (k : ℕ) (d e : Spot) → k < length spots
      → IsMoved from to spots (slice_index_or spots k d) (slice_index_or new k e)

-- the chain map of a list of cases, in some order
pub record IsMapped (from : Inst) (spots : List Spot) (to : Inst) (new : List Spot) : Type 0 where
  pub image : List Spot
  pub mapped : IsChainMap from spots to image
  pub reordered : IsPermutation image new

-- at each place of the table is the greatest total of a chain before that edge
abbrev pub ListsGreatestChains : Axis → Inst → Inst → List Spot → List ℕ → Type 0
ListsGreatestChains a from to spots reach =
    (edge : ℕ) → edge < length reach → IsGreatestChain a from to spots edge (slice_index_or reach edge 0)

-- A chain as a list of cases, the last one first: each ends at or before the next begins, and the
-- last ends at or before the edge.
abbrev pub IsChain : Axis → Inst → List Spot → ℕ → List Spot → Type 0
IsChain a inst spots edge [] = Unit {0}
IsChain a inst spots edge (last ∷ before) =
    Contains spots last × (finish a inst last ≤ edge) × IsChain a inst spots (start a last) before

-- the sum of the extents of a list of cases
abbrev pub chain_total : Axis → Inst → List Spot → ℕ
chain_total a to chain = sum_by (λ (spot : Spot). extent a to spot.way) chain

-- some list of cases is a chain and has this total
pub record ListedChain (a : Axis) (from to : Inst) (spots : List Spot) (edge total : ℕ) : Type 0 where
  pub chain : List Spot
  pub is_chain : IsChain a from spots edge chain
  pub total_is : total ≡ chain_total a to chain
