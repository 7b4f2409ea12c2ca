-- What holds of each choice, of each tail, and of each text.
use Rattle.std.specs.Prelude.{◌≡◌, ◌≢◌, ◌≤◌, ℕ, Bool, true, List, [], ◌∷◌, ◌++◌, length, map, Option}
use Rattle.std.specs.List.{AllByRecursion}
use Rattle.texts.specs.Grammar.{Reading, Reads}
use Rattle.pallet_choice.specs.declared.choices.Score.{Score}
use Rattle.pallet_choice.specs.Choices.{IsChoice}
use Rattle.pallet_choice.specs.Text.{TailValue, told_of_both, rival_line, tail_lines, tail_text}
use Rattle.pallet_choice.specs.Ranges.{RisesFrom, IsTail, IsScore}
use Rattle.pallet_choice.specs.Lines.{ended_tail_at}
use Rattle.pallet_choice.specs.Tails.{IsLongestTail, GoesOn}

-- a choice among entries within the ranges, whose numbers rise, has the text of a tail
abbrev pub ChoicesAreTails : Type 0
ChoicesAreTails =
    (scores : List Score) (chosen : Option Score) (rivals : List Score) → AllByRecursion IsScore scores → RisesFrom 0 (map (λ s. s.number) scores) → IsChoice scores chosen rivals
    → IsTail (told_of_both chosen rivals)

-- no text is that of two tails
abbrev pub TailsHaveOneText : Type 0
TailsHaveOneText = (a b : TailValue) → IsTail a → IsTail b → tail_text a ≡ tail_text b → a ≡ b

-- no bytes have two longest tails in front
abbrev pub LongestTailsAreOne : Type 0
LongestTailsAreOne = (bytes : List ℕ) (a b : TailValue) (m n : ℕ) → IsLongestTail bytes a m → IsLongestTail bytes b n → (a ≡ b) × (m ≡ n)

-- a tail is the longest in front of whatever does not begin with the line of a rival that may stand after the tail's
abbrev pub PutTailsAreGot : Type 0
PutTailsAreGot = (tail : TailValue) (rest : List ℕ) → IsTail tail → ¬ GoesOn tail rest → IsLongestTail (tail_text tail ++ rest) tail (length (tail_text tail))

-- a tail's text is short: 22 bytes at most for the chosen entry, and 21 for each of at most 256 rivals
abbrev pub TailsAreShort : Type 0
TailsAreShort = (tail : TailValue) → IsTail tail → length (tail_text tail) ≤ 5400

-- there is a first line, and it is no rival's
abbrev pub StartsWithNoRival : List (List ℕ) → Type 0
StartsWithNoRival [] = ⊥
StartsWithNoRival (l ∷ ls) = (rival : ℕ × ℕ) → l ≢ rival_line rival

-- A tail and its end are read exactly, where the ends are, and none starts with the line of a rival.
abbrev pub TailsAreRead : Type 0
TailsAreRead =
    (lines : ℕ → List (List ℕ)) (fits : ℕ → Bool) (read : List (List ℕ) → Reading (List ℕ) ℕ) → Reads lines (λ n. fits n ≡ true) read
    → ((n : ℕ) → fits n ≡ true → StartsWithNoRival (lines n))
    → Reads (λ x. tail_lines x.0 ++ lines x.1) (λ x. IsTail x.0 × (fits x.1 ≡ true)) (ended_tail_at read)
