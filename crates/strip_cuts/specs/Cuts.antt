-- Strip cuts: what the unit lines along x and along y of a pallet demand of its lying and standing cases.
use Rattle.std.specs.Prelude.{◌≡◌, ℕ, ◌+◌, ◌-◌, ◌*◌, ◌<◌, ◌≤◌, ⊤, List, [], ◌∷◌, length, slice_index_or}
use Rattle.plan_geometry.specs.declared.spots.Axis.{Axis}
use Rattle.plan_geometry.specs.declared.spots.Axis.TheVariants.{X, Y}
use Rattle.plan_geometry.specs.declared.spots.Spot.{Spot}
use Rattle.plan_geometry.specs.declared.spots.Way.{Way}
use Rattle.plan_geometry.specs.declared.spots.Way.TheVariants.{Lying, Standing}
use Rattle.plan_geometry.specs.declared.instances.Inst.{Inst}
use Rattle.plan_geometry.specs.Layout.{side, area_bound_of}
use Rattle.partitions.specs.Partitions.{IsPartition}
use Rattle.weightings.specs.declared.certs.StripCut.{StripCut}
use Rattle.weightings.specs.declared.certs.StripCut.TheVariants.{Area, X as LinesOfX, Y as LinesOfY}

-- q is the greatest a * i + b * j over the partitions of the pallet's side along the axis into i long and j short
-- case sides
pub record IsGreatest (axis : Axis) (I : Inst) (a b q : ℕ) : Type 0 where
  pub bounds : (i j : ℕ) → IsPartition axis I i j → a * i + b * j ≤ q
  pub i : ℕ
  pub j : ℕ
  pub feasible : IsPartition axis I i j
  pub reached : a * i + b * j ≡ q

-- the other axis
abbrev pub across : Axis → Axis
across X = Y
across Y = X

-- What the unit lines along an axis demand of the cases with their long side along it and those with their short side
-- along it. A case of the first kind is crossed by as many of the lines as its short side is long, one of the second
-- by as many as its long side is. Where the first count a and the second b on each line that crosses them, and no line
-- counts more than q, all lines together, of which there are as many as the side across is long, count at most this.
abbrev pub MeetsLines : Axis → Inst → ℕ → ℕ → ℕ → ℕ → ℕ → Type 0
MeetsLines axis I a b q longs shorts = a * I.short * longs + b * I.long * shorts ≤ q * side (across axis) I

-- the pair of h lying and v standing cases meets the cut
abbrev pub Meets : Inst → StripCut → ℕ → ℕ → Type 0
Meets I Area h v = h + v ≤ area_bound_of I
Meets I (LinesOfX a b q) h v = MeetsLines X I a b q h v
Meets I (LinesOfY a b q) h v = MeetsLines Y I a b q v h

-- the number of the cut is the true greatest value
abbrev pub IsTrueCut : Inst → StripCut → Type 0
IsTrueCut I Area = ⊤
IsTrueCut I (LinesOfX a b q) = IsGreatest X I a b q
IsTrueCut I (LinesOfY a b q) = IsGreatest Y I a b q

-- the cut is true, and the pair does not meet it
pub record Excludes (I : Inst) (cut : StripCut) (h v : ℕ) : Type 0 where
  pub is_true : IsTrueCut I cut
  pub unmet : ¬ Meets I cut h v

-- n + 2 cuts, of which the one at place h excludes the pair of h lying and n + 1 - h standing cases
pub record AcceptsStrip (I : Inst) (n : ℕ) (cuts : List StripCut) : Type 0 where
  pub count : length cuts ≡ n + 2
  pub each : (h : ℕ) → h < n + 2 → Excludes I (slice_index_or cuts h Area) h (n + 1 - h)

-- one where the two ways are the same
abbrev pub one_if_same : Way → Way → ℕ
one_if_same Lying Lying = 1
one_if_same Lying Standing = 0
one_if_same Standing Lying = 0
one_if_same Standing Standing = 1

-- how many of the cases have this way
abbrev pub cases_of : Way → List Spot → ℕ
cases_of way [] = 0
cases_of way (s ∷ ss) = one_if_same way s.way + cases_of way ss
