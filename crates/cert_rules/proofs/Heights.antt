-- The corner, the flat run and raised columns.
use Rattle.std.proofs.Common.{◌≡◌, ◌≢◌, ℕ, zero, suc, ◌+◌, ◌<◌, ◌≤◌, ◌⊎◌, inl, inr, true, false, List, [], ◌∷◌, length, get_or, drop, arith, sym, refl, ◌∙◌, length-append, length-drop, length-take, get_or-drop, add-zero}
use Rattle.std.proofs.lemmas.Grind.{common_steps}
use Rattle.std.specs.Prelude.{◌==◌, min}
use Rattle.std.proofs.lemmas.Bool.{cases_lt}
use Rattle.std.proofs.lemmas.Bool.Decides.{nat_tests}
use Rattle.std.proofs.lemmas.List.{length-replicate}
use Rattle.cert_rules.specs.Corner.{lowest, before_first, run_of, corner, flat_run, raised}

pub lowest-le : (hs : List ℕ) (k : ℕ) → k < length hs → lowest hs ≤ get_or hs k 0
lowest-le [] k lt = absurd (omega arith)
lowest-le (x ∷ []) zero lt = omega arith
lowest-le (x ∷ []) (suc k) lt = absurd (omega arith)
lowest-le (x ∷ y ∷ ys) zero lt = omega arith
lowest-le (x ∷ y ∷ ys) (suc k) lt =
    let le : lowest (y ∷ ys) ≤ get_or (y ∷ ys) k 0 = lowest-le (y ∷ ys) k (omega arith) in omega arith

min_cases : (a b : ℕ) → (min a b ≡ a) ⊎ (min a b ≡ b)
min_cases a b = elim (cases_lt a b) [ inl l ↦ inl (omega arith) | inr g ↦ inr (omega arith) ]

pub lowest-somewhere : (hs : List ℕ) → 0 < length hs → (k : ℕ) × (k < length hs) × (get_or hs k 0 ≡ lowest hs)
lowest-somewhere [] lt = absurd (omega arith)
lowest-somewhere (x ∷ []) lt = (0, omega arith, refl)
lowest-somewhere (x ∷ y ∷ ys) lt =
    let rest = lowest-somewhere (y ∷ ys) (omega arith) in
    elim (min_cases x (lowest (y ∷ ys))) [
      | inl e ↦ (0, omega arith, sym e)
      | inr e ↦ (suc rest.0, omega arith, rest.2 ∙ sym e)
    ]

eq_cases : (a b : ℕ) → ((a == b) ≡ true × (a ≡ b)) ⊎ ((a == b) ≡ false × (a ≢ b))
eq_cases a b =
    elim (cases_lt a b) [
      | inl l ↦ inr (grind (arith, nat_tests), omega arith)
      | inr g ↦ elim (cases_lt b a) [ inl l ↦ inr (grind (arith, nat_tests), omega arith) | inr h ↦ inl (grind (arith, nat_tests), omega arith) ]
    ]

pub before_first-le : (v : ℕ) (hs : List ℕ) (k : ℕ) → k < length hs → get_or hs k 0 ≡ v → before_first v hs ≤ k
before_first-le v [] k lt e = absurd (omega arith)
before_first-le v (x ∷ xs) zero lt e =
    let yes : (x == v) ≡ true = grind (arith, nat_tests) in rw yes (omega arith)
before_first-le v (x ∷ xs) (suc k) lt e =
    let ih : before_first v xs ≤ k = before_first-le v xs k (omega arith) e in
    elim (eq_cases x v) [ inl h ↦ rw h.0 (omega arith) | inr h ↦ rw h.0 (omega arith) ]

pub before_first-at : (v : ℕ) (hs : List ℕ) → before_first v hs < length hs → get_or hs (before_first v hs) 0 ≡ v
before_first-at v [] lt = absurd (omega arith)
before_first-at v (x ∷ xs) lt =
    elim (eq_cases x v) [
      | inl h ↦ rw h.0 h.1
      | inr h ↦
          let e : before_first v (x ∷ xs) ≡ suc (before_first v xs) = rw h.0 (omega arith) in
          let ih : get_or xs (before_first v xs) 0 ≡ v = before_first-at v xs (omega arith) in
          rw e ih
    ]

pub before_first-none : (v : ℕ) (hs : List ℕ) (k : ℕ) → k < before_first v hs → get_or hs k 0 ≢ v
before_first-none v [] k lt = absurd (omega arith)
before_first-none v (x ∷ xs) zero lt =
    elim (eq_cases x v) [
      | inl h ↦ let e : before_first v (x ∷ xs) ≡ 0 = rw h.0 refl in absurd (omega arith)
      | inr h ↦ h.1
    ]
before_first-none v (x ∷ xs) (suc k) lt =
    elim (eq_cases x v) [
      | inl h ↦ let e : before_first v (x ∷ xs) ≡ 0 = rw h.0 refl in absurd (omega arith)
      | inr h ↦
          let e : before_first v (x ∷ xs) ≡ suc (before_first v xs) = rw h.0 (omega arith) in
          before_first-none v xs k (omega arith)
    ]

pub run_of-at : (v : ℕ) (hs : List ℕ) (k : ℕ) → k < run_of v hs → get_or hs k 0 ≡ v
run_of-at v [] k lt = absurd (omega arith)
run_of-at v (x ∷ xs) k lt = at v x xs k (run_of-at v xs) lt
  where
    at : (v x : ℕ) (xs : List ℕ) (k : ℕ) → ((j : ℕ) → j < run_of v xs → get_or xs j 0 ≡ v) → k < run_of v (x ∷ xs) → get_or (x ∷ xs) k 0 ≡ v
    at v x xs zero ih lt =
        elim (eq_cases x v) [
          | inl h ↦ h.1
          | inr h ↦ let e : run_of v (x ∷ xs) ≡ 0 = rw h.0 refl in absurd (omega arith)
        ]
    at v x xs (suc k) ih lt =
        elim (eq_cases x v) [
          | inl h ↦
              let e : run_of v (x ∷ xs) ≡ suc (run_of v xs) = rw h.0 (omega arith) in
              ih k (omega arith)
          | inr h ↦ let e : run_of v (x ∷ xs) ≡ 0 = rw h.0 refl in absurd (omega arith)
        ]

pub run_of-le : (v : ℕ) (hs : List ℕ) → run_of v hs ≤ length hs
run_of-le v [] = omega arith
run_of-le v (x ∷ xs) =
    let ih : run_of v xs ≤ length xs = run_of-le v xs in
    elim (eq_cases x v) [ inl h ↦ rw h.0 (omega arith) | inr h ↦ rw h.0 (omega arith) ]

-- a run of n columns is no longer than the longest one
pub run_of-longest : (v : ℕ) (hs : List ℕ) (n : ℕ) → n ≤ length hs → ((k : ℕ) → k < n → get_or hs k 0 ≡ v) → n ≤ run_of v hs
run_of-longest v hs zero le all = omega arith
run_of-longest v [] (suc n) le all = absurd (omega arith)
run_of-longest v (x ∷ xs) (suc n) le all =
    let ih : n ≤ run_of v xs = run_of-longest v xs n (omega arith) (λ k lt. all (suc k) (omega arith)) in
    let here : x ≡ v = all 0 (omega arith) in
    elim (eq_cases x v) [ inl h ↦ rw h.0 (omega arith) | inr h ↦ absurd (h.1 here) ]

-- the facts of the corner of a list of heights that is not empty
pub corner-lt : (hs : List ℕ) → 0 < length hs → corner hs < length hs
corner-lt hs lt =
    let place = lowest-somewhere hs lt in
    let le : corner hs ≤ place.0 = before_first-le (lowest hs) hs place.0 place.1 place.2 in
    omega arith

pub corner-at : (hs : List ℕ) → 0 < length hs → get_or hs (corner hs) 0 ≡ lowest hs
corner-at hs lt = before_first-at (lowest hs) hs (corner-lt hs lt)

pub corner-first : (hs : List ℕ) (k : ℕ) → k < corner hs → get_or hs k 0 ≢ lowest hs
corner-first hs k lt = before_first-none (lowest hs) hs k lt

pub flat_run-at : (hs : List ℕ) (k : ℕ) → k < flat_run hs → get_or hs (corner hs + k) 0 ≡ lowest hs
flat_run-at hs k lt =
    let there : get_or (drop (corner hs) hs) k 0 ≡ lowest hs = run_of-at (lowest hs) (drop (corner hs) hs) k lt in
    rw get_or-drop at there

pub flat_run-fits : (hs : List ℕ) → 0 < length hs → corner hs + flat_run hs ≤ length hs
flat_run-fits hs lt =
    let le : flat_run hs ≤ length (drop (corner hs) hs) = run_of-le (lowest hs) (drop (corner hs) hs) in
    let in_range : corner hs < length hs = corner-lt hs lt in
    omega (arith, length-drop {A = ℕ})

pub flat_run-longest :
    (hs : List ℕ) (n : ℕ)
    → corner hs + n ≤ length hs
    → ((k : ℕ) → k < n → get_or hs (corner hs + k) 0 ≡ lowest hs)
    → n ≤ flat_run hs
flat_run-longest hs n fits all =
    run_of-longest (lowest hs) (drop (corner hs) hs) n (omega (arith, length-drop {A = ℕ}))
    (λ k lt. rw get_or-drop (all k lt))

pub flat_run-some : (hs : List ℕ) → 0 < length hs → 0 < flat_run hs
flat_run-some hs lt =
    let in_range : corner hs < length hs = corner-lt hs lt in
    let one : 1 ≤ flat_run hs = flat_run-longest hs 1 (omega arith) (λ k l. first hs k l lt) in
    omega arith
  where
    first : (hs : List ℕ) (k : ℕ) → k < 1 → 0 < length hs → get_or hs (corner hs + k) 0 ≡ lowest hs
    first hs zero l lt = rw add-zero (corner-at hs lt)
    first hs (suc k) l lt = absurd (omega arith)

-- raised columns
pub length-raised : (hs : List ℕ) (c n v : ℕ) → c + n ≤ length hs → length (raised hs c n v) ≡ length hs
length-raised hs c n v fits = simp (length-append, length-take, length-drop, length-replicate) (omega arith)

pub raised-below : (hs : List ℕ) (c n v k : ℕ) → c + n ≤ length hs → k < c → get_or (raised hs c n v) k 0 ≡ get_or hs k 0
raised-below hs c n v k fits lt = grind (arith, common_steps)

pub raised-in : (hs : List ℕ) (c n v k : ℕ) → c + n ≤ length hs → c ≤ k → k < c + n → get_or (raised hs c n v) k 0 ≡ v
raised-in hs c n v k fits le lt = grind (arith, common_steps)

pub raised-above : (hs : List ℕ) (c n v k : ℕ) → c + n ≤ length hs → c + n ≤ k → get_or (raised hs c n v) k 0 ≡ get_or hs k 0
raised-above hs c n v k fits le = grind (arith, common_steps)
