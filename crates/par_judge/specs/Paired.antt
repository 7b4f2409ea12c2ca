-- Two lists, each element of one beside that of the other at its place.
use Rattle.std.specs.Prelude.{ℕ, ◌≡◌, List, length, slice_get, Some}

-- as many on both sides, and what stands at one place belongs together
pub record ArePaired {A B : Type 0} (Belongs : A → B → Type 0) (xs : List A) (bs : List B) : Type 0 where
  pub as_many : length bs ≡ length xs
  pub each : (k : ℕ) (a : A) (b : B) → slice_get xs k ≡ Some a → slice_get bs k ≡ Some b → Belongs a b
