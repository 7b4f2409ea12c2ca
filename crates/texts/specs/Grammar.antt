-- Spellings of values as lists of signs (lines, or words), and reading them from the front.
use Rattle.std.specs.Prelude.{◌≡◌, ℕ, suc, List, [], ◌∷◌, ◌++◌, length, Option, Some, None, Result, Ok, Err}

-- some value's spelling begins so
pub record Begins {S A : Type 0} (spell : A → List S) (Fits : A → Type 0) (front : List S) : Type 0 where
  pub value : A
  pub fits : Fits value
  pub more : List S
  pub whole : spell value ≡ front ++ more

-- no spelling goes on from the front by the next sign, where there is one
abbrev pub NoneGoesOn : {S A : Type 0} → (A → List S) → (A → Type 0) → List S → List S → Type 0
NoneGoesOn spell Fits front [] = Unit {0}
NoneGoesOn spell Fits front (x ∷ rest) = Begins spell Fits (front ++ x ∷ []) → ⊥

-- The signs are a front, with which some spelling begins, and a rest, with whose first sign none goes on.
pub record Stops {S A : Type 0} (spell : A → List S) (Fits : A → Type 0) (signs front rest : List S) : Type 0 where
  pub parts : signs ≡ front ++ rest
  pub begun : Begins spell Fits front
  pub ends : NoneGoesOn spell Fits front rest

-- what a reader answers: a value and the signs after it, or how many signs were left at the fault
abbrev pub Reading : Type 0 → Type 0 → Type 0
Reading S A = Result (A × List S) ℕ

infixl 10 ◌>>=◌
abbrev pub ◌>>=◌ : {X Y : Type 0} → Result X ℕ → (X → Result Y ℕ) → Result Y ℕ
(Ok x) >>= f = f x
(Err e) >>= f = Err e

-- one sign
abbrev pub or_stop : {S A : Type 0} → Option A → List S → Reading S A
or_stop None rest = Err (suc (length rest))
or_stop (Some a) rest = Ok (a, rest)

abbrev pub first_by : {S A : Type 0} → (S → Option A) → List S → Reading S A
first_by f [] = Err 0
first_by f (x ∷ rest) = or_stop (f x) rest

-- such a split, told by how many signs it leaves
pub record StopsAt {S A : Type 0} (spell : A → List S) (Fits : A → Type 0) (signs : List S) (left : ℕ) : Type 0 where
  pub front : List S
  pub rest : List S
  pub left_is : left ≡ length rest
  pub stops : Stops spell Fits signs front rest

-- The reader reads exactly the spellings of values that fit, and each fault is the first; some value fits.
pub record Reads {S A : Type 0} (spell : A → List S) (Fits : A → Type 0) (read : List S → Reading S A) : Type 0 where
  pub some : A
  pub some_fits : Fits some
  pub again : (a : A) (rest : List S) → Fits a → read (spell a ++ rest) ≡ Ok (a, rest)
  pub takes : (xs : List S) (a : A) (rest : List S) → read xs ≡ Ok (a, rest) → Fits a × (xs ≡ spell a ++ rest)
  pub stops : (xs : List S) (left : ℕ) → read xs ≡ Err left → StopsAt spell Fits xs left
