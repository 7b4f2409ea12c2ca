-- What a skyline keeps to take steps off.
use Rattle.std.specs.Prelude.{◌≡◌, ℕ, ◌+◌, ◌<◌, ◌≤◌, List, [], ◌∷◌, length, reverse, slice_set}
use Rattle.cert_rules.specs.Corner.{state_of, above, corner, lowest}
use Rattle.cert_rules.specs.Runs.{HasRuns}
use Rattle.weightings.specs.Weighting.{weight_of, IsLawfulWeighting, IsLeastWeight}
use Rattle.cert_rules.specs.Path.{Path, IsLawfulPath}
use Rattle.cert_rules.specs.Tables.{IsTableOf}
use Rattle.plan_geometry.specs.declared.instances.Inst.{Inst}
use Rattle.cert_rules.specs.declared.steps.Step.{Step}
use Rattle.weightings.specs.declared.kinds.Weighting.{Weighting}
use Rattle.cert_rules.specs.declared.skyline.Run.{Run}
use Rattle.cert_rules.specs.declared.skyline.Frame.{Frame}
use Rattle.cert_rules.specs.declared.skyline.Skyline.TheInside.{Inside}

-- the steps of the frames
abbrev pub steps_of : List Frame → List Step
steps_of [] = []
steps_of (f ∷ fs) = f.step ∷ steps_of fs

-- the runs before the step of a frame
abbrev pub restored : Frame → List Run → List Run
restored f rs = slice_set (slice_set rs f.x f.first) (f.x + f.columns) f.second

-- the runs and the weight above are those of the state of the steps
pub record IsAfter (i : Inst) (w : Weighting) (steps : List Step) (rs : List Run) (weight : ℕ) : Type 0 where
  pub wide : length rs ≡ i.l_side + 1
  pub leads : HasRuns rs (state_of i steps).heights 0 i.l_side
  pub weighs : weight ≡ above i (weight_of w) (state_of i steps)
  pub small : weight ≤ 16000000000

-- the runs and the weight are those of the steps of the frames, the newest first, and go back to those of the older ones
abbrev pub KeepsRuns : Inst → Weighting → List Frame → List Run → ℕ → Type 0
KeepsRuns i w [] rs weight = IsAfter i w [] rs weight
KeepsRuns i w (f ∷ fs) rs weight =
    IsAfter i w (f.step ∷ steps_of fs) rs weight × KeepsRuns i w fs (restored f rs) (weight + f.weight)

-- each frame, the newest first, has the corner of the state before its step
abbrev pub KeepsCorners : Inst → List Frame → Type 0
KeepsCorners i [] = Unit {0}
KeepsCorners i (f ∷ fs) =
    (f.x ≡ corner (state_of i (steps_of fs)).heights)
    × (f.y ≡ lowest (state_of i (steps_of fs)).heights)
    × (f.x + f.columns ≤ i.l_side)
    × KeepsCorners i fs

abbrev pub path_of : Inside → Path
path_of s = record { inst = s.inst; weighting = s.weighting; least = s.least; steps = steps_of (reverse s.frames.items) }

-- the runs, the weight above and the number of cases are those of the steps
pub record IsSkyline (s : Inside) : Type 0 where
  pub member : IsLawfulWeighting s.inst s.weighting
  pub is_least : IsLeastWeight s.inst (weight_of s.weighting) s.least
  pub least : 0 < s.least
  pub across : IsTableOf s.inst s.inst.l_side s.across
  pub along : IsTableOf s.inst s.inst.w_side s.along
  pub few : length (reverse s.frames.items) ≤ 500000
  pub lawful : IsLawfulPath s.inst (steps_of (reverse s.frames.items))
  pub corners : KeepsCorners s.inst (reverse s.frames.items)
  pub runs : KeepsRuns s.inst s.weighting (reverse s.frames.items) s.runs.items s.weight
  pub cases : s.cases ≡ length (state_of s.inst (steps_of (reverse s.frames.items))).spots
