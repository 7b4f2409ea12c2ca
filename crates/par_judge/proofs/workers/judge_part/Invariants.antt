use Rattle.std.proofs.Common.{take}
use Rattle.par_judge.specs.Judged.{AreVerdicts}
use Rattle.par_judge.proofs.workers.judge_part.Given as goal

abbrev pub invariant-loop-index : goal.invariant-loop-index
invariant-loop-index g l = AreVerdicts (take l.index l.entries) l.verdicts.items
