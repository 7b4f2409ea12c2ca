-- The first element that passes a test, by the elements from a place on.
use Rattle.std.proofs.Common.{◌≡◌, ℕ, zero, suc, ◌+◌, ◌<◌, Bool, true, false, List, [], ◌∷◌, length, drop, get_or, Some, None, refl, arith, add-one, drop-cons}
use Rattle.std.specs.Prelude.{if◌then◌else◌}
use Rattle.std.specs.List.{find}

pub find-here : {X : Type 0} (p : X → Bool) (xs : List X) (i : ℕ) (d : X) → i < length xs → p (get_or xs i d) ≡ true → find p (drop i xs) ≡ Some (get_or xs i d)
find-here p xs i d lt is = rw (drop-cons xs i d, is) refl

pub find-later : {X : Type 0} (p : X → Bool) (xs : List X) (i : ℕ) (d : X) → i < length xs → p (get_or xs i d) ≡ false → find p (drop i xs) ≡ find p (drop (i + 1) xs)
find-later p xs i d lt is = rw (add-one i, drop-cons xs i d, is) refl

-- where none passes, each fails
pub find-none : {X : Type 0} (p : X → Bool) (xs : List X) → find p xs ≡ None → (k : ℕ) (d : X) → k < length xs → p (get_or xs k d) ≡ false
find-none p [] is k d lt = absurd (omega arith)
find-none p (x ∷ xs) is zero d lt = by (p x) is
  where
    by : (b : Bool) → (if b then Some x else find p xs) ≡ None → b ≡ false
    by true e = cc
    by false e = refl
find-none p (x ∷ xs) is (suc k) d lt = find-none p xs (by (p x) is) k d (omega arith)
  where
    by : (b : Bool) → (if b then Some x else find p xs) ≡ None → find p xs ≡ None
    by true e = cc
    by false e = e
