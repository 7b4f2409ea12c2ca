use Rattle.std.proofs.Common.{◌≡◌, vec_len, length}
use Rattle.line_search.specs.Blocks.{AreRanges}
use Rattle.line_search.proofs.ranges.ranges_of.Given as goal

abbrev pub invariant-loop-place : goal.invariant-loop-place
invariant-loop-place l = record {
  ranges : AreRanges (length l.lines) l.found.items;
  count : vec_len l.found ≡ l.place-index;
}
