use Rattle.std.proofs.Common.{◌≡◌, ◌++◌, length}
use Rattle.check_mode.proofs.checks.take_group.Given as goal

abbrev pub invariant-loop : goal.invariant-loop
invariant-loop l = record {
  parts : l.initial.entries.entries ≡ l.group.items ++ l.entries.entries;
  count : length l.group.items ≡ l.counter;
}
