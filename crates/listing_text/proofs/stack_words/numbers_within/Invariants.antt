use Rattle.std.proofs.Common.{◌≡◌, length}
use Rattle.texts.specs.Lines.{words_left}
use Rattle.listing_text.specs.Words.{numbers_within}
use Rattle.listing_text.proofs.NumberLoop.{numbers_after}
use Rattle.listing_text.proofs.stack_words.numbers_within.Given as goal

abbrev pub invariant-loop-word : goal.invariant-loop-word
invariant-loop-word l = numbers_after l.numbers.items (numbers_within l.variants (words_left l.rest)) ≡ numbers_within l.variants (words_left l.words)

abbrev pub decreases-loop-word : goal.decreases-loop-word
decreases-loop-word l = length (words_left l.rest)
