use Rattle.std.proofs.Common.{◌≡◌, ◌-◌}
use Rattle.texts.specs.Lines.{words_left}
use Rattle.texts.specs.Words.{numbers_by}
use Rattle.texts.proofs.NumberLoop.{with_front}
use Rattle.texts.proofs.words.number_words.Given as goal

abbrev pub invariant-loop-place : goal.invariant-loop-place
invariant-loop-place l = with_front l.numbers.items (numbers_by l.most (l.count - l._place) (words_left l.rest)) ≡ numbers_by l.most l.count (words_left l.words)
