use Rattle.std.proofs.Common.{◌≡◌, ◌-◌, ◌≤◌, ◌++◌, max, map}
use Rattle.std.specs.List.{range_with_len}
use Rattle.case_design.specs.Sizes.{size_with}
use Rattle.case_design.proofs.sizes.push_sizes.Given as goal

abbrev pub invariant-loop-short : goal.invariant-loop-short
invariant-loop-short l = record {
  pushed : l.sizes.items ≡ l.fn.sizes.items ++ map (size_with l.long) (range_with_len l.first (l.short - l.first));
  within : l.short ≤ max l.first l.end;
}
