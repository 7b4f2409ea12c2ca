use Rattle.std.proofs.Common.{take}
use Rattle.pallet_choice.proofs.Chosen.{one_more}
use Rattle.pallet_choice.proofs.choices.first_of_most.Goals as goal

pub loop-score-preserved : goal.loop-score-preserved
loop-score-preserved c = one_more c.args.scores.now c.loop-score.score-index (record { number = 0; count = 0; bound = 0 }) c.with_next-most.result c.loop-score-test.true (c.with_next-most.ensures (take c.loop-score.score-index c.args.scores.now) c.loop-score.invariant)
