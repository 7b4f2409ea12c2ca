-- Tails in front of bytes.
use Rattle.std.specs.Prelude.{◌≡◌, ℕ, ◌≤◌, List, [], ◌∷◌, ◌++◌}
use Rattle.texts.specs.Lines.{ended}
use Rattle.texts.specs.Spelling.{IsInFront}
use Rattle.pallet_choice.specs.Text.{TailValue, rival_line, tail_lines}
use Rattle.pallet_choice.specs.Ranges.{IsTail}

-- the bytes begin with the text, of this length, of a tail
abbrev pub TailIsInFront : List ℕ → TailValue → ℕ → Type 0
TailIsInFront bytes tail len = IsInFront tail_lines IsTail bytes tail len

-- and with that of no longer tail
pub record IsLongestTail (bytes : List ℕ) (tail : TailValue) (len : ℕ) : Type 0 where
  pub front : TailIsInFront bytes tail len
  pub longest : (other : TailValue) (n : ℕ) → TailIsInFront bytes other n → n ≤ len

abbrev pub NoTailIsInFront : List ℕ → Type 0
NoTailIsInFront bytes = (tail : TailValue) (len : ℕ) → TailIsInFront bytes tail len → ⊥

abbrev pub with_rivals : TailValue → List (ℕ × ℕ) → TailValue
with_rivals tail more = record { chosen = tail.chosen; rivals = tail.rivals ++ more }

-- the bytes begin with the line of a rival that may stand after the tail's
pub record GoesOn (tail : TailValue) (bytes : List ℕ) : Type 0 where
  pub rival : ℕ × ℕ
  pub fits : IsTail (with_rivals tail (rival ∷ []))
  pub more : List ℕ
  pub parts : bytes ≡ ended (rival_line rival) ++ more
