-- Lists of cuts without repetition.
use Rattle.std.specs.Prelude.{◌≡◌, ℕ, ◌<◌, ◌⊎◌, ◌++◌, Some, None, List, length, slice_index_or}
use Rattle.plan_geometry.specs.declared.spots.Axis.{Axis}
use Rattle.plan_geometry.specs.declared.instances.Inst.{Inst}
use Rattle.weightings.specs.declared.certs.StripCut.{StripCut}
use Rattle.weightings.specs.declared.certs.StripCut.TheVariants.{Area}
use Rattle.strip_bound.specs.declared.seen.Seen.{Seen}
use Rattle.strip_bound.specs.Firsts.{AreTrue, MeetsAll, IsFirst}
use Rattle.strip_bound.specs.CutLists.{Counts, IsLineCut, AreLineCuts, AreAxisCuts}

-- The kept cuts stand for all: they are true, a pair that meets them meets all, and the first of them that a pair does
-- not meet is the first of all that it does not meet.
pub record StandsFor (I : Inst) (all kept : List StripCut) : Type 0 where
  pub are_true : AreTrue I kept
  pub meets : (h v : ℕ) → MeetsAll I kept h v → MeetsAll I all h v
  pub first : (h v : ℕ) (cut : StripCut) → IsFirst I kept h v cut → IsFirst I all h v cut

-- the new list stands for the cuts of these counts behind those for which the old one stands
pub record Adds (axis : Axis) (I : Inst) (counts : List Counts) (old new : List StripCut) : Type 0 where
  pub more : List StripCut
  pub are_cuts : AreLineCuts axis I counts more
  pub stands : (all : List StripCut) → StandsFor I all old → StandsFor I (all ++ more) new

-- the new list stands for all cuts of an axis behind those for which the old one stands
pub record AddsAxis (axis : Axis) (I : Inst) (old new : List StripCut) : Type 0 where
  pub more : List StripCut
  pub are_cuts : AreAxisCuts axis I more
  pub stands : (all : List StripCut) → StandsFor I all old → StandsFor I (all ++ more) new

-- a cut with these counts is kept
pub record IsKept (axis : Axis) (I : Inst) (n : Counts) (cuts : List StripCut) : Type 0 where
  pub place : ℕ
  pub within : place < length cuts
  pub is_cut : IsLineCut axis I n (slice_index_or cuts place Area)

abbrev pub IsSeen : ℕ → Seen → Type 0
IsSeen a s = (s.first ≡ Some a) ⊎ (s.second ≡ Some a)

-- of each number that is seen at a distance a cut is kept
abbrev pub AreKept : Axis → Inst → List Seen → List StripCut → Type 0
AreKept axis I seen cuts =
    (d a : ℕ) → IsSeen a (slice_index_or seen d (record { first = None; second = None }))
    → IsKept axis I (record { a = a; b = d }) cuts
