use Rattle.std.proofs.Common.{take}
use Rattle.pallet_choice.specs.Choices.{IsChosen}
use Rattle.pallet_choice.proofs.choices.first_of_most.Given as goal

abbrev pub invariant-loop-score : goal.invariant-loop-score
invariant-loop-score l = IsChosen (take l.score-index l.scores) l.most
