use Rattle.listing_text.proofs.AnswerReaders.{answer_reads}
use Rattle.listing_text.proofs.laws.answers_are_read.Goals as goal

pub returns : goal.returns
returns c = λ o variants le. answer_reads o variants le
