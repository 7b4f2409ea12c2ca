use Rattle.std.proofs.Common.{◌+◌, ℕ}
use Rattle.std.specs.Option.{option_map_or}
use Rattle.l_patterns.proofs.building.+build.Given as goal

abbrev pub decreases-build : goal.decreases-build
decreases-build l = option_map_or (λ (j : ℕ). j + 1) l.held.built 0
