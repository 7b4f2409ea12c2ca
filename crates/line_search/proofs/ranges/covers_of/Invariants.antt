use Rattle.std.proofs.Common.{◌≡◌, vec_len, length}
use Rattle.line_search.specs.Blocks.{AreRanges}
use Rattle.line_search.proofs.ranges.covers_of.Given as goal

abbrev pub invariant-loop-line : goal.invariant-loop-line
invariant-loop-line l = record {
  ranges : AreRanges (length l.ranges) l.found.items;
  count : vec_len l.found ≡ l.line;
}
