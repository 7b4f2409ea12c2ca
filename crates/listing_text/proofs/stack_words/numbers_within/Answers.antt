use Rattle.texts.specs.Lines.{words_left}
use Rattle.listing_text.specs.Words.{numbers_within}
use Rattle.listing_text.proofs.NumberLoop.{goes_on, ends, is_done}
use Rattle.listing_text.proofs.stack_words.numbers_within.Goals as goal

pub returns-in_default-number_within : goal.returns-in_default-number_within
returns-in_default-number_within c = ends c.args.variants c.loop-word.numbers.items (words_left c.loop-word.rest) c.in-Some.word.now (words_left c.in-Some.after) (numbers_within c.args.variants (words_left c.args.words)) c.in-Some.ensures c.in_default-number_within.ensures c.loop-word.invariant

pub loop-word-preserved : goal.loop-word-preserved
loop-word-preserved c = rw c.in_ok-push.ensures.items (goes_on c.args.variants c.loop-word.numbers.items (words_left c.loop-word.rest) c.in-Some.word.now (words_left c.in-Some.after) c.in-Some-number_within.number (numbers_within c.args.variants (words_left c.args.words)) c.in-Some.ensures c.in-Some-number_within.ensures c.loop-word.invariant)

pub returns : goal.returns
returns c = is_done c.args.variants c.loop-word.numbers.items (words_left c.loop-word.rest) (numbers_within c.args.variants (words_left c.args.words)) c.in_default.ensures c.loop-word.invariant
