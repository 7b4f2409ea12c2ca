use Rattle.std.proofs.Common.{take, ◌*◌}
use Rattle.par_judge.specs.Judged.{AreVerdicts}
use Rattle.par_judge.proofs.workers.join_parts.Given as goal

abbrev pub invariant-loop-part : goal.invariant-loop-part
invariant-loop-part l = AreVerdicts (take (l.part-index * l.size) l.entries) l.verdicts.items
