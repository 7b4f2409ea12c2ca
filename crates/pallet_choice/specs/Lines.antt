-- Reading a tail line by line.
use Rattle.std.specs.Prelude.{ℕ, List, [], ◌∷◌, Ok, Option, None, option_map}
use Rattle.std.specs.Option.{option_map_or}
use Rattle.texts.specs.Grammar.{Reading, ◌>>=◌, first_by}
use Rattle.pallet_choice.specs.Text.{TailValue}
use Rattle.pallet_choice.specs.Words.{chosen_of, rival_of}

-- a first line of a rival whose number is above this one
unfoldable pub next_rival : ℕ → List (List ℕ) → Option ((ℕ × ℕ) × List (List ℕ))
next_rival low [] = None
next_rival low (l ∷ ls) = option_map (λ rival. (rival, ls)) (rival_of low l)

abbrev pub rival_onto : ℕ × ℕ → List (ℕ × ℕ) × List (List ℕ) → List (ℕ × ℕ) × List (List ℕ)
rival_onto rival read = (rival ∷ read.0, read.1)

-- the rivals of the first lines, as far as their numbers rise from this one, and the lines after them
unfoldable pub rivals_from : ℕ → List (List ℕ) → List (ℕ × ℕ) × List (List ℕ)
rivals_from low [] = ([], [])
rivals_from low (l ∷ ls) = option_map_or (λ rival. rival_onto rival (rivals_from rival.0 ls)) (rival_of low l) ([], l ∷ ls)

abbrev pub tail_made : Option (ℕ × ℕ) → List (ℕ × ℕ) × List (List ℕ) → TailValue × List (List ℕ)
tail_made chosen read = (record { chosen = chosen; rivals = read.0 }, read.1)

-- the longest tail in front
unfoldable pub tail_at : List (List ℕ) → Reading (List ℕ) TailValue
tail_at ls = do
  chosen ← first_by chosen_of ls
  Ok (tail_made chosen.0 (rivals_from 0 chosen.1))

-- that tail, and what ends it
abbrev pub ended_tail_at : {A : Type 0} → (List (List ℕ) → Reading (List ℕ) A) → List (List ℕ) → Reading (List ℕ) (TailValue × A)
ended_tail_at read ls = do
  tail ← tail_at ls
  end ← read tail.1
  Ok ((tail.0, end.0), end.1)
