-- Texts that spell a value by lines.
use Rattle.std.specs.Prelude.{◌≡◌, ℕ, ◌+◌, List, ◌++◌, length}
use Rattle.texts.specs.Grammar.{Stops}
use Rattle.texts.specs.Lines.{whole_lines, text_of}

-- The first line, from 1, with which no text goes on: some text begins with the lines before it, and none with those
-- and itself. Where the lines end too early it is the one behind the last.
pub record FaultsAt {A : Type 0} (lines : A → List (List ℕ)) (Fits : A → Type 0) (bytes : List ℕ) (number : ℕ) : Type 0 where
  pub before : List (List ℕ)
  pub rest : List (List ℕ)
  pub stops : Stops lines Fits (whole_lines bytes) before rest
  pub number_is : number ≡ length before + 1

-- bytes begin with the text of at most one value, so no text is that of two values, and none begins with another
abbrev pub HasOneSpelling : {A : Type 0} → (A → List (List ℕ)) → (A → Type 0) → Type 0
HasOneSpelling {A} lines Fits =
    (a b : A) (after behind : List ℕ) → Fits a → Fits b → text_of (lines a) ++ after ≡ text_of (lines b) ++ behind → (a ≡ b) × (after ≡ behind)

-- the text of the value is at the front of the bytes
pub record IsInFront {A : Type 0} (lines : A → List (List ℕ)) (Fits : A → Type 0) (bytes : List ℕ) (value : A) (len : ℕ) : Type 0 where
  pub fits : Fits value
  pub behind : List ℕ
  pub parts : bytes ≡ text_of (lines value) ++ behind
  pub len_is : len ≡ length (text_of (lines value))
