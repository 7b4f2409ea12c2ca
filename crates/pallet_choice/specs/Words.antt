-- Reading one line of a tail.
use Rattle.std.specs.Prelude.{ℕ, List, codes, Option, Some, None, option_map, nat_le, nat_lt, ◌&&◌, if◌then◌else◌}
use Rattle.std.specs.Str.{bytes_eq}
use Rattle.plan_io.specs.Numbers.{number_of}
use Rattle.texts.specs.Lines.{words_of}
use Rattle.texts.specs.Words.{◌>>=◌, word_by, behind, all_words}

-- a number from 1 on, at most so great
abbrev pub from_one : ℕ → ℕ → Option ℕ
from_one most n = if nat_le 1 n && nat_le n most then Some n else None

abbrev pub number_from_one : ℕ → List ℕ → Option ℕ
number_from_one most word = number_of word >>= from_one most

-- two numbers of an entry, each after its word
unfoldable pub told_at : List ℕ → List ℕ → List (List ℕ) → Option ((ℕ × ℕ) × List (List ℕ))
told_at name unit ws = do
  rest ← behind name ws
  number ← word_by (number_from_one 256) rest
  rest ← behind unit number.1
  cases ← word_by (number_from_one 1000) rest
  Some ((number.0, cases.0), cases.1)

unfoldable pub told_of : List ℕ → List ℕ → List ℕ → Option (ℕ × ℕ)
told_of name unit line = all_words (told_at name unit (words_of line))

-- the chosen entry, or that there is none
unfoldable pub chosen_of : List ℕ → Option (Option (ℕ × ℕ))
chosen_of line =
    if bytes_eq line (codes "chosen none")
    then Some None
    else option_map (λ entry. Some entry) (told_of (codes "chosen") (codes "count") line)

abbrev pub numbered_above : ℕ → ℕ × ℕ → Option (ℕ × ℕ)
numbered_above low rival = if nat_lt low rival.0 then Some rival else None

-- a rival whose number is above this one
unfoldable pub rival_of : ℕ → List ℕ → Option (ℕ × ℕ)
rival_of low line = told_of (codes "rival") (codes "bound") line >>= numbered_above low
