-- Reading a line of a word and a number that are known.
use Rattle.std.specs.Prelude.{ℕ, List, Option}
use Rattle.texts.specs.Lines.{words_of}
use Rattle.texts.specs.Words.{◌>>=◌, word_by, behind, this_number, all_words}

unfoldable pub numbered_at : List ℕ → ℕ → List (List ℕ) → Option (ℕ × List (List ℕ))
numbered_at word number ws = do
  rest ← behind word ws
  word_by (this_number number) rest

-- this number, where the line is the word and it
unfoldable pub numbered_of : List ℕ → ℕ → List ℕ → Option ℕ
numbered_of word number line = all_words (numbered_at word number (words_of line))
