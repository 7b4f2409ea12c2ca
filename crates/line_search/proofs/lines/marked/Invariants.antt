use Rattle.std.proofs.Common.{◌≤◌, vec_len}
use Rattle.line_search.specs.Starts.{IsMarked}
use Rattle.raster_points.proofs.PlaceLemmas.{ListsBelow}
use Rattle.line_search.proofs.lines.marked.Given as goal

abbrev pub invariant-loop-v : goal.invariant-loop-v
invariant-loop-v l = record {
  lists : ListsBelow (IsMarked l.marks) l.v l.found.items;
  few : vec_len l.found ≤ l.v;
}
