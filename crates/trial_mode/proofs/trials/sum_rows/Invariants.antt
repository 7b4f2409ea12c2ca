use Rattle.std.proofs.Common.{◌≡◌, ◌≤◌, ◌*◌, List, take}
use Rattle.trial_mode.specs.Trials.{Tried, AreTriedFrom, summary_of}
use Rattle.trial_mode.proofs.trials.sum_rows.Given as goal

abbrev pub invariant-loop-row : goal.invariant-loop-row
invariant-loop-row l = (l.summary.number ≡ l.number) × (l.summary.rows ≡ l.row-index) × (l.summary.cases ≤ l.summary.rows * 1000)
    × ((tried : List Tried) × AreTriedFrom 1 (take l.row-index l.rows) tried × (l.summary ≡ summary_of l.summary.number tried))
