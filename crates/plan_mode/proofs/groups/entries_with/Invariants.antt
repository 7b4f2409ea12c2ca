use Rattle.std.proofs.Common.{◌≡◌, ◌+◌, take, drop}
use Rattle.par_judge.specs.Planned.{ArePlansOf}
use Rattle.plan_mode.specs.Entries.{AreEntriesFrom}
use Rattle.plan_mode.specs.Groups.{orders_from}
use Rattle.plan_mode.proofs.groups.entries_with.Given as goal

abbrev pub invariant-loop-row : goal.invariant-loop-row
invariant-loop-row l = record {
  number : l.number ≡ l.first + l.row-index;
  entries : AreEntriesFrom l.first (take l.row-index l.rows) l.entries.items;
  plans : ArePlansOf (orders_from l.number (drop l.row-index l.rows)) l.plans.items;
}
