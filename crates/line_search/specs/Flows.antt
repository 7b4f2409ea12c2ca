-- What a flow keeps: for each crossing of a quarter a weight, for each place of a quarter a level, and the ranges by
-- which they meet.
use Rattle.std.specs.Prelude.{◌≡◌, ℕ, ◌+◌, ◌*◌, ◌≤◌, vec_len}
use Rattle.line_tables.specs.Lines.{half}
use Rattle.plan_geometry.specs.declared.spots.Axis.TheVariants.{X, Y}
use Rattle.plan_geometry.specs.declared.instances.Inst.{Inst}
use Rattle.raster_points.specs.Places.{Lists}
use Rattle.line_search.specs.declared.flows.Axes.{Axes}
use Rattle.line_search.specs.declared.flows.Family.{Family}
use Rattle.line_search.specs.declared.flows.Flow.{Flow}
use Rattle.line_search.specs.Lines.{IsLine}
use Rattle.line_search.specs.Starts.{AreStarts}
use Rattle.line_search.specs.Blocks.{AreRanges}
use Rattle.line_search.specs.Values.{AreValues}

-- the lines of both axes, and where cases start along them
pub record AreAxes (I : Inst) (a : Axes) : Type 0 where
  pub columns : Lists (IsLine X I) a.columns.items
  pub columns_few : vec_len a.columns ≤ 4000
  pub rows : Lists (IsLine Y I) a.rows.items
  pub rows_few : vec_len a.rows ≤ 4000
  pub across : AreStarts a.across
  pub across_axis : a.across.axis ≡ X
  pub across_inst : a.across.inst ≡ I
  pub down : AreStarts a.down
  pub down_axis : a.down.axis ≡ Y
  pub down_inst : a.down.inst ≡ I

-- the places of a way, where there are k columns and m rows
pub record IsFamily (k m : ℕ) (f : Family) : Type 0 where
  pub levels : AreValues f.levels
  pub across : AreRanges k f.across.items
  pub across_count : vec_len f.across ≡ f.levels.columns
  pub down : AreRanges m f.down.items
  pub down_count : vec_len f.down ≡ f.levels.rows
  pub cover_across : AreRanges f.levels.columns f.cover_across.items
  pub cover_across_count : vec_len f.cover_across ≡ k
  pub cover_down : AreRanges f.levels.rows f.cover_down.items
  pub cover_down_count : vec_len f.cover_down ≡ m
  pub scratch : vec_len f.scratch ≡ (f.levels.rows + 1) * half f.levels.columns

-- the weights, and the places of both ways
pub record IsFlow (k m : ℕ) (f : Flow) : Type 0 where
  pub columns : f.weights.columns ≡ k
  pub rows : f.weights.rows ≡ m
  pub weights : AreValues f.weights
  pub lying : IsFamily k m f.lying
  pub standing : IsFamily k m f.standing
  pub scratch : vec_len f.scratch ≡ (m + 1) * half k
  pub strip : vec_len f.strip ≡ 4001
  pub row : vec_len f.row ≡ 2000
