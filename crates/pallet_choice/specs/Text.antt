-- The text of a choice.
use Rattle.std.specs.Prelude.{ℕ, List, [], ◌∷◌, codes, decimal, map, Option, Some, None, option_map}
use Rattle.texts.specs.Lines.{spaced, text_of}
use Rattle.pallet_choice.specs.declared.choices.Score.{Score}
use Rattle.pallet_choice.specs.declared.choices.Choice.{Choice}
use Rattle.pallet_choice.specs.declared.tails.Tail.{Tail}

-- what the text tells: the chosen entry's number and count, and each rival's number and bound
pub record TailValue : Type 0 where
  pub chosen : Option (ℕ × ℕ)
  pub rivals : List (ℕ × ℕ)

abbrev pub count_told : Score → ℕ × ℕ
count_told s = (s.number, s.count)

abbrev pub bound_told : Score → ℕ × ℕ
bound_told s = (s.number, s.bound)

-- what a text tells of a chosen entry and rivals
abbrev pub told_of_both : Option Score → List Score → TailValue
told_of_both chosen rivals = record { chosen = option_map count_told chosen; rivals = map bound_told rivals }

abbrev pub told_by : Choice → TailValue
told_by choice = told_of_both choice.chosen choice.rivals.items

abbrev pub tail_value : Tail → TailValue
tail_value tail = record { chosen = tail.chosen; rivals = tail.rivals.items }

-- two numbers of an entry, each after its word
abbrev pub told_words : List ℕ → List ℕ → ℕ × ℕ → List (List ℕ)
told_words name unit entry = name ∷ decimal entry.0 ∷ unit ∷ decimal entry.1 ∷ []

-- the chosen entry, as chosen 2 count 8, or chosen none
abbrev pub chosen_words : Option (ℕ × ℕ) → List (List ℕ)
chosen_words None = codes "chosen" ∷ codes "none" ∷ []
chosen_words (Some entry) = told_words (codes "chosen") (codes "count") entry

-- a rival, as rival 2 bound 9
abbrev pub rival_line : ℕ × ℕ → List ℕ
rival_line rival = spaced (told_words (codes "rival") (codes "bound") rival)

-- the chosen entry, and a line for each rival
unfoldable pub tail_lines : TailValue → List (List ℕ)
tail_lines tail = spaced (chosen_words tail.chosen) ∷ map rival_line tail.rivals

abbrev pub tail_text : TailValue → List ℕ
tail_text tail = text_of (tail_lines tail)
