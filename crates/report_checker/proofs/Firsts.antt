-- The first place of a list at which something is wrong is one place.
use Rattle.std.proofs.Common.{◌≡◌, ℕ, suc, ◌+◌, ◌-◌, ◌<◌, ◌≤◌, ◌⊎◌, List, [], ◌∷◌, length, get_or, take, slice_get, Some, ap, sym, subst, refl, ◌∙◌, inl, inr, arith}
use Rattle.std.specs.List.{All}
use Rattle.std.proofs.lemmas.Bool.{cases_order}
use Rattle.std.proofs.lemmas.List.{get_or-take, length-take}
use Rattle.std.proofs.lemmas.Option.{slice_get_within, get_or_from_slice_get, slice_get-get_or, slice_get_past, slice_get_cases, same_Some, none-some}
use Rattle.report_checker.specs.Places.{IsFirstWithout, IsFirstDifference}

one-place : (i j : ℕ) → (i < j → ⊥) → (j < i → ⊥) → i ≡ j
one-place i j f g = elim (cases_order i j) [ inl e ↦ e | inr h ↦ elim h [ inl a ↦ absurd (f a) | inr b ↦ absurd (g b) ] ]

without-before : {X : Type 0} (P : X → Type 0) (xs : List X) (i j : ℕ) → IsFirstWithout P xs i → IsFirstWithout P xs j → i < j → ⊥
without-before P xs i j a b lt =
    let within : i - 1 < length xs = slice_get_within xs (i - 1) a.item a.there in
    let below : i - 1 < j - 1 = omega (arith, a.from_one) in
    let inside : i - 1 < length (take (j - 1) xs) = omega (arith, length-take (j - 1) xs) in
    let e : get_or (take (j - 1) xs) (i - 1) a.item ≡ a.item =
    get_or-take (j - 1) xs (i - 1) a.item below ∙ get_or_from_slice_get xs (i - 1) a.item a.item a.there in
    a.without (subst P e (b.earlier (i - 1) a.item inside))

pub one-without : {X : Type 0} (P : X → Type 0) (xs : List X) (i j : ℕ) → IsFirstWithout P xs i → IsFirstWithout P xs j → i ≡ j
one-without P xs i j a b = one-place i j (without-before P xs i j a b) (without-before P xs j i b a)

pub all-or-without : {X : Type 0} (P : X → Type 0) (xs : List X) (i : ℕ) → All P xs → IsFirstWithout P xs i → ⊥
all-or-without P xs i all a =
    a.without (subst P (get_or_from_slice_get xs (i - 1) a.item a.item a.there) (all (i - 1) a.item (slice_get_within xs (i - 1) a.item a.there)))

-- the item behind a front of which P holds
pub without-at : {X : Type 0} (P : X → Type 0) (xs : List X) (k place : ℕ) (x : X) → place ≡ k + 1 → k < length xs → x ≡ get_or xs k x → All P (take k xs) → (P x → ⊥) → IsFirstWithout P xs place
without-at P xs k place x at lt e all fails =
    let back : k ≡ place - 1 = omega arith in
    record {
      from_one = omega arith;
      earlier = subst (λ n. All P (take n xs)) back all;
      item = x;
      there = subst (λ n. slice_get xs n ≡ Some x) back (slice_get-get_or xs k x lt ∙ ap Some (sym e));
      without = fails;
    }

difference-before : {X : Type 0} (xs ys : List X) (i j : ℕ) → IsFirstDifference xs ys i → IsFirstDifference xs ys j → i < j → ⊥
difference-before xs ys i j a b lt = a.differ (b.earlier (i - 1) (omega (arith, a.from_one)))

pub one-difference : {X : Type 0} (xs ys : List X) (i j : ℕ) → IsFirstDifference xs ys i → IsFirstDifference xs ys j → i ≡ j
one-difference xs ys i j a b = one-place i j (difference-before xs ys i j a b) (difference-before xs ys j i b a)

pub same-or-different : {X : Type 0} (xs ys : List X) (i : ℕ) → xs ≡ ys → IsFirstDifference xs ys i → ⊥
same-or-different xs ys i e a = a.differ (ap (λ l. slice_get l (i - 1)) e)

-- the items behind two equal fronts
pub difference-at : {X : Type 0} (xs ys : List X) (k place : ℕ) → place ≡ k + 1 → ((j : ℕ) → j < k → slice_get xs j ≡ slice_get ys j) → (slice_get xs k ≡ slice_get ys k → ⊥) → IsFirstDifference xs ys place
difference-at xs ys k place at same differ =
    let back : k ≡ place - 1 = omega arith in
    record {
      from_one = omega arith;
      earlier = subst (λ n. (j : ℕ) → j < n → slice_get xs j ≡ slice_get ys j) back same;
      differ = subst (λ n. slice_get xs n ≡ slice_get ys n → ⊥) back differ;
    }

pub same-lists : {X : Type 0} (xs ys : List X) → length xs ≡ length ys → ((k : ℕ) → k < length xs → slice_get xs k ≡ slice_get ys k) → xs ≡ ys
same-lists [] [] n h = refl
same-lists [] (y ∷ ys) n h = absurd (omega (arith, n))
same-lists (x ∷ xs) [] n h = absurd (omega (arith, n))
same-lists (x ∷ xs) (y ∷ ys) n h =
    ap (λ z. z ∷ xs) (same_Some x y (h 0 (omega arith)))
    ∙ ap (λ l. y ∷ l) (same-lists xs ys (omega (arith, n)) (λ k lt. h (suc k) (omega arith)))

-- at the end of one list the other goes on
one-ends : {X : Type 0} (xs ys : List X) (k : ℕ) → length xs ≤ k → k < length ys → slice_get xs k ≡ slice_get ys k → ⊥
one-ends xs ys k le lt e =
    elim ((slice_get_cases ys k).1) [
      | inl h ↦ none-some h.0 (sym (slice_get_past xs k le) ∙ (e ∙ h.2))
      | inr h ↦ absurd (omega (arith, h.0))
    ]

pub ends-differ : {X : Type 0} (xs ys : List X) (k : ℕ) → (length xs ≤ k) ⊎ (length ys ≤ k) → k ≤ length xs → k ≤ length ys → (length xs ≡ length ys → ⊥) → slice_get xs k ≡ slice_get ys k → ⊥
ends-differ xs ys k end a b differ e =
    elim (cases_order (length xs) (length ys)) [
      | inl same ↦ differ same
      | inr h ↦ elim h [
        | inl less ↦ one-ends xs ys k (elim end [ inl le ↦ le | inr le ↦ omega arith ]) (elim end [ inl le ↦ omega arith | inr le ↦ absurd (omega arith) ]) e
        | inr more ↦ one-ends ys xs k (elim end [ inl le ↦ omega arith | inr le ↦ le ]) (elim end [ inl le ↦ absurd (omega arith) | inr le ↦ omega arith ]) (sym e)
      ]
    ]
