use Rattle.std.proofs.Common.{ℕ, ◌≡◌, ◌<◌, ◌+◌, ◌-◌, length}
use Rattle.std.specs.Prelude.{slice_index_or}
use Rattle.weightings.specs.declared.certs.StripCut.TheVariants.{Area}
use Rattle.strip_bound.specs.Firsts.{IsFirst}
use Rattle.strip_bound.proofs.tables.table.Given as goal

abbrev pub invariant-loop-h : goal.invariant-loop-h
invariant-loop-h l = record {
  each : (k : ℕ) → k < l.h → IsFirst l.inst l.cuts k ((l.n + 1) - k) (slice_index_or l.found.items k Area);
  count : length l.found.items ≡ l.h;
}
