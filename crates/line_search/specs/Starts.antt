-- What is kept of an axis to find its lines.
use Rattle.std.specs.Prelude.{◌≡◌, ℕ, ◌<◌, Bool, true, false, List, length, slice_index, slice_index_or}
use Rattle.plan_geometry.specs.declared.spots.Axis.{Axis}
use Rattle.plan_geometry.specs.declared.spots.Way.TheVariants.{Lying, Standing}
use Rattle.plan_geometry.specs.declared.instances.Inst.{Inst}
use Rattle.raster_points.specs.Places.{Lists}
use Rattle.raster_points.specs.Points.{ArePointsOf}
use Rattle.line_search.specs.Lines.{IsStart, IsLineOf}
use Rattle.line_search.specs.declared.lines.Starts.{Starts}

-- the points of the side, and of each way the places where its cases start
pub record AreStarts (s : Starts) : Type 0 where
  pub points : ArePointsOf s.axis s.inst s.points
  pub lying : Lists (IsStart s.axis s.inst Lying) s.lying.items
  pub standing : Lists (IsStart s.axis s.inst Standing) s.standing.items

-- one of the first n starts has this line
pub record IsLineOfSome (a : Axis) (I : Inst) (starts : List ℕ) (n line : ℕ) : Type 0 where
  pub place : ℕ
  pub within : place < n
  pub line_of : IsLineOf a I (slice_index starts place) line

-- the number is below the length of the list and marked there
pub record IsMarked (marks : List Bool) (v : ℕ) : Type 0 where
  pub within : v < length marks
  pub marked : slice_index_or marks v false ≡ true
