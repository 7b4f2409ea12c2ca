-- What a search keeps.
use Rattle.std.specs.Prelude.{◌≤◌, IfSome, vec_len}
use Rattle.plan_geometry.specs.declared.spots.Axis.TheVariants.{X, Y}
use Rattle.raster_points.specs.Places.{Lists}
use Rattle.line_tables.specs.Lines.{BelongsTo}
use Rattle.line_search.specs.Lines.{IsLine}
use Rattle.line_search.specs.Flows.{IsFlow}
use Rattle.line_search.specs.Search.{Found, IsBounding}
use Rattle.line_search.specs.declared.search.LineSearch.TheInside.{Inside}

abbrev pub found_of : Inside → Found
found_of s = record { inst = s.inst; best = s.best; lightest = s.lightest; turns = s.turns; limit = s.limit }

-- the lines of the instance, weights and levels on them, and tables that were tested
pub record IsSearch (s : Inside) : Type 0 where
  pub columns : Lists (IsLine X s.inst) s.columns.items
  pub rows : Lists (IsLine Y s.inst) s.rows.items
  pub flow : IsFlow (vec_len s.columns) (vec_len s.rows) s.flow
  pub limit : s.limit ≤ 2000
  pub best : IfSome s.best (IsBounding s.inst)
  pub lightest : IfSome s.lightest (λ t. BelongsTo t s.inst)
