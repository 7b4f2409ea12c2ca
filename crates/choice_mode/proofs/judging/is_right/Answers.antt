use Rattle.std.proofs.Common.{◌≡◌, rules}
use Rattle.std.specs.Prelude.{false}
use Rattle.pallet_choice.specs.Choices.{IsChoice}
use Rattle.pallet_choice.specs.Text.{tail_value}
use Rattle.choice_mode.proofs.Rightness.{right-by, on-ok}
use Rattle.choice_mode.proofs.judging.is_right.Goals as goal

pub returns : goal.returns
returns c =
    let scores = c.args.seen.now.scores.items in
    let told = tail_value c.args.tail.now in
    let choice = c.in_ok-choice.choice in
    let calm : c.args.seen.now.no ≡ false = search rules in
    let is : IsChoice scores choice.chosen choice.rivals.items = search rules in
    on-ok c.tells.result (right-by c.args.seen.now.no scores told choice.chosen choice.rivals.items calm is) c.tells.ensures
