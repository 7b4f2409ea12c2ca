-- Reading the words of a line from the front.
use Rattle.std.specs.Prelude.{ℕ, zero, suc, nat_le, List, [], ◌∷◌, length, Option, Some, None, option_map, ◌==◌, if◌then◌else◌}
use Rattle.std.specs.Str.{bytes_eq}
use Rattle.plan_io.specs.Numbers.{number_of}

infixl 10 ◌>>=◌
abbrev pub ◌>>=◌ : {A B : Type 0} → Option A → (A → Option B) → Option B
(Some x) >>= f = f x
None >>= f = None

-- a first word that says something
abbrev pub word_by : {A : Type 0} → (List ℕ → Option A) → List (List ℕ) → Option (A × List (List ℕ))
word_by f [] = None
word_by f (w ∷ ws) = option_map (λ a. (a, ws)) (f w)

-- the words behind a first word that is this one
abbrev pub behind : List ℕ → List (List ℕ) → Option (List (List ℕ))
behind word [] = None
behind word (w ∷ ws) = if bytes_eq w word then Some ws else None

abbrev pub up_to : ℕ → ℕ → Option ℕ
up_to most n = if nat_le n most then Some n else None

abbrev pub only : ℕ → ℕ → Option ℕ
only m n = if n == m then Some n else None

-- a number that is at most so great
abbrev pub number_up_to : ℕ → List ℕ → Option ℕ
number_up_to most word = number_of word >>= up_to most

abbrev pub this_number : ℕ → List ℕ → Option ℕ
this_number m word = number_of word >>= only m

-- so many numbers, each at most so great
unfoldable pub numbers_by : ℕ → ℕ → List (List ℕ) → Option (List ℕ × List (List ℕ))
numbers_by most zero ws = Some ([], ws)
numbers_by most (suc n) ws = do
  a ← word_by (number_up_to most) ws
  others ← numbers_by most n a.1
  Some (a.0 ∷ others.0, others.1)

-- what is read from all words
abbrev pub all_words : {A : Type 0} → Option (A × List (List ℕ)) → Option A
all_words None = None
all_words (Some x) = if length x.1 == 0 then Some x.0 else None
