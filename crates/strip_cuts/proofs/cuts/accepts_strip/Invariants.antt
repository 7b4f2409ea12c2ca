use Rattle.std.proofs.Common.{ℕ, ◌<◌, ◌+◌, ◌-◌}
use Rattle.std.specs.Prelude.{slice_index_or}
use Rattle.weightings.specs.declared.certs.StripCut.TheVariants.{Area}
use Rattle.strip_cuts.specs.Cuts.{Excludes}
use Rattle.strip_cuts.proofs.cuts.accepts_strip.Given as goal

abbrev pub invariant-loop-h : goal.invariant-loop-h
invariant-loop-h l = (k : ℕ) → k < l.h → Excludes l.inst (slice_index_or l.cuts k Area) k ((l.n + 1) - k)
