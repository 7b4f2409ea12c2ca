-- What the plan of an order is worth, beside being sound: how small its instance, how low its bound and how great its
-- count is, and how much was tried where count and bound differ.
use Rattle.std.specs.Prelude.{◌≡◌, ℕ, ◌*◌, ◌≤◌, ⊤, ◌⊎◌, Some, length}
use Rattle.plan_geometry.specs.declared.instances.Inst.{Inst}
use Rattle.plan_geometry.specs.Layout.{area_bound_of}
use Rattle.minimum_size.specs.Reduced.{IsReduced}
use Rattle.order_reader.specs.Instances.{IsGivenOf}
use Rattle.weightings.specs.declared.kinds.Weighting.{Weighting}
use Rattle.weightings.specs.declared.kinds.Weighting.TheVariants.{Area, Colour, Comb, Table, Lines}
use Rattle.weightings.specs.declared.certs.Cert.{Cert}
use Rattle.weightings.specs.declared.certs.Cert.TheVariants as certs
use Rattle.weightings.specs.Weighting.{weight_of, IsMember, IsLeastWeight, IsWeightBound}
use Rattle.weightings.specs.Lead.{IsLead}
use Rattle.weightings.specs.Table.{CellTable, cell_of}
use Rattle.dual_search.specs.Dual.{IsDual}
use Rattle.cert_rules.specs.Walk.{IsLonger}
use Rattle.strip_bound.specs.CutLists.{IsStripBoundOf}
use Rattle.layer_patterns.specs.Patterns.{HoldsPatterns}
use Rattle.plan_entries.specs.declared.entries.Status.TheVariants.{Optimal, StillOpen}
use Rattle.plan_entries.specs.declared.entries.Plan.{Plan}

-- how many states of a walk the planner visits at most
abbrev pub most_states : ℕ
most_states = 500000

-- the bound is at most that of each weighting of the family of the instance
abbrev pub IsAtMostFamily : Inst → ℕ → Type 0
IsAtMostFamily I bound = (g : Weighting) (n : ℕ) → IsMember I g → IsWeightBound I (weight_of g) n → bound ≤ n

-- the bound is at most the strip bound of the instance
abbrev pub IsAtMostStrip : Inst → ℕ → Type 0
IsAtMostStrip I bound = (n : ℕ) → IsStripBoundOf I n → bound ≤ n

-- The bound is at most that of the best table of 2,000 rounds of best answers, where the instance has no more cells than
-- a table.
abbrev pub IsAtMostDual : Inst → ℕ → Type 0
IsAtMostDual I bound =
    (t : CellTable) (n : ℕ) → I.l_side * I.w_side ≤ 40000 → IsDual I 2000 (Some t) → IsWeightBound I (cell_of t) n → bound ≤ n

-- the walk of the instance for more than so many cases, each counted at the least weight of a case under the lead of
-- the family, has more than so many states
pub record HasLongWalk (I : Inst) (count states : ℕ) : Type 0 where
  pub lead : Weighting
  pub is_lead : IsLead I lead
  pub least : ℕ
  pub is_least : IsLeastWeight I (weight_of lead) least
  pub longer : IsLonger I (weight_of lead) least count states

-- The instance is the reduced one of the order's own. The bound is at most those of the family, of the strips and of
-- 2,000 rounds of best answers on the reduced instance, and that of the area of the order's own. The count is at least each
-- number of the block patterns of the reduced instance. The plan is open only where the walk for one case more is too
-- long, and is optimal where it is not.
pub record HasQuality (p : Plan) : Type 0 where
  pub given : Inst
  pub is_given : IsGivenOf p.order given
  pub reduced : IsReduced given p.reduced
  pub family : IsAtMostFamily p.reduced p.bound
  pub strip : IsAtMostStrip p.reduced p.bound
  pub dual : IsAtMostDual p.reduced p.bound
  pub area : p.bound ≤ area_bound_of given
  pub patterns : HoldsPatterns p.reduced p.count
  pub still_open : p.status ≡ StillOpen → HasLongWalk p.reduced p.count most_states
  pub decided : ¬ HasLongWalk p.reduced p.count most_states → p.status ≡ Optimal

-- the weighting is a table
abbrev pub IsTable : Weighting → Type 0
IsTable Area = ⊥
IsTable (Colour k c) = ⊥
IsTable (Comb p a r b) = ⊥
IsTable (Table t) = ⊤
IsTable (Lines t) = ⊤

-- A certificate whose text is not long: a weighting of the family with no more marks than states are visited, or a
-- table with one mark; the cuts of a strip; or the area.
abbrev pub HasShortCert : Inst → Cert → Type 0
HasShortCert I (certs.Weighted g marks) = (IsMember I g × (length marks ≤ most_states)) ⊎ (IsTable g × (length marks ≡ 1))
HasShortCert I (certs.Strip cuts) = ⊤
HasShortCert I certs.GivenArea = ⊤
