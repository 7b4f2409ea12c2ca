use Rattle.texts.proofs.Bytes.{has_one_spelling}
use Rattle.listing_text.specs.Text.{answer_lines}
use Rattle.listing_text.specs.Ranges.{IsAnswerInRange}
use Rattle.listing_text.specs.Lines.{answer_at}
use Rattle.listing_text.proofs.AnswerReaders.{answer_reads, answer_plain}
use Rattle.listing_text.proofs.laws.answers_have_one_spelling.Goals as goal

pub returns : goal.returns
returns c = λ o variants le. has_one_spelling answer_lines (IsAnswerInRange o variants) (answer_at o variants) (answer_reads o variants le) (answer_plain o variants le)
