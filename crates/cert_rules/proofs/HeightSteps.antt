-- What loops over heights find.
use Rattle.std.proofs.Common.{◌≡◌, ◌≢◌, ℕ, suc, ◌+◌, ◌-◌, ◌<◌, ◌≤◌, inl, inr, Bool, true, false, List, [], ◌∷◌, length, get_or, set, drop, arith, subst, sym, ◌∙◌, length-drop, get_or-drop, get_or-set_other, get_or-set_same, length-set}
use Rattle.std.specs.Prelude.{◌==◌, if◌then◌else◌}
use Rattle.std.proofs.lemmas.Bool.{cases_lt}
use Rattle.std.proofs.lemmas.List.{ext_get_or}
use Rattle.cert_rules.specs.Corner.{lowest, before_first, run_of, raised}
use Rattle.cert_rules.proofs.Heights.{lowest-le, lowest-somewhere, before_first-le, before_first-at, run_of-at, run_of-le, run_of-longest, length-raised, raised-below, raised-in, raised-above}

-- a height that stands in some column, and is no greater than any
pub lowest-is :
    (hs : List ℕ) (v : ℕ)
    → ((k : ℕ) → k < length hs → v ≤ get_or hs k 0)
    → (j : ℕ)
    → j < length hs
    → get_or hs j 0 ≡ v
    → v ≡ lowest hs
lowest-is hs v least j lt at =
    let low : lowest hs ≤ get_or hs j 0 = lowest-le hs j lt in
    let place = lowest-somewhere hs (omega arith) in
    let there : v ≤ get_or hs place.0 0 = least place.0 place.1 in
    let is : get_or hs place.0 0 ≡ lowest hs = place.2 in
    omega arith

pub before_first-is :
    (v : ℕ) (hs : List ℕ) (k : ℕ)
    → ((j : ℕ) → j < k → get_or hs j 0 ≢ v)
    → k < length hs
    → get_or hs k 0 ≡ v
    → k ≡ before_first v hs
before_first-is v hs k before lt at =
    let le : before_first v hs ≤ k = before_first-le v hs k lt at in
    elim (cases_lt (before_first v hs) k) [
      | inl sooner ↦ absurd (before (before_first v hs) sooner (before_first-at v hs (omega arith)))
      | inr later ↦ omega arith
    ]

before_first-at_most : (v : ℕ) (hs : List ℕ) → before_first v hs ≤ length hs
before_first-at_most v [] = omega arith
before_first-at_most v (x ∷ xs) =
    let ih : before_first v xs ≤ length xs = before_first-at_most v xs in
    le_if (x == v) (before_first v xs) (length xs) ih
  where
    le_if : (b : Bool) (m n : ℕ) → m ≤ n → (if b then 0 else m + 1) ≤ suc n
    le_if true m n le = omega arith
    le_if false m n le = omega arith

pub before_first-past :
    (v : ℕ) (hs : List ℕ) → ((j : ℕ) → j < length hs → get_or hs j 0 ≢ v) → length hs ≡ before_first v hs
before_first-past v hs none =
    let most : before_first v hs ≤ length hs = before_first-at_most v hs in
    elim (cases_lt (before_first v hs) (length hs)) [
      | inl lt ↦ absurd (none (before_first v hs) lt (before_first-at v hs lt))
      | inr ge ↦ omega arith
    ]

-- a run that ends at another height, or with the columns
pub run_of-is :
    (v : ℕ) (hs : List ℕ) (from k : ℕ)
    → from ≤ k
    → ((j : ℕ) → from ≤ j → j < k → get_or hs j 0 ≡ v)
    → k < length hs
    → get_or hs k 0 ≢ v
    → k - from ≡ run_of v (drop from hs)
run_of-is v hs from k le same lt other =
    let long : k - from ≤ run_of v (drop from hs) =
    run_of-longest v (drop from hs) (k - from) (omega (arith, length-drop {A = ℕ}))
    (λ j l. rw get_or-drop (same (from + j) (omega arith) (omega arith))) in
    elim (cases_lt (k - from) (run_of v (drop from hs))) [
      | inl more ↦
          let at : get_or (drop from hs) (k - from) 0 ≡ v = run_of-at v (drop from hs) (k - from) more in
          let there : get_or hs (from + (k - from)) 0 ≡ v = rw get_or-drop at at in
          let e : from + (k - from) ≡ k = omega arith in
          absurd (other (subst (λ (x : ℕ). get_or hs x 0 ≡ v) e there))
      | inr fewer ↦ omega arith
    ]

pub run_of-to_end :
    (v : ℕ) (hs : List ℕ) (from : ℕ)
    → from ≤ length hs
    → ((j : ℕ) → from ≤ j → j < length hs → get_or hs j 0 ≡ v)
    → length hs - from ≡ run_of v (drop from hs)
run_of-to_end v hs from le same =
    let long : length hs - from ≤ run_of v (drop from hs) =
    run_of-longest v (drop from hs) (length hs - from) (omega (arith, length-drop {A = ℕ}))
    (λ j l. rw get_or-drop (same (from + j) (omega arith) (omega arith))) in
    let most : run_of v (drop from hs) ≤ length (drop from hs) = run_of-le v (drop from hs) in
    omega (arith, length-drop {A = ℕ})

pub raised-none : (hs : List ℕ) (c v : ℕ) → c ≤ length hs → hs ≡ raised hs c 0 v
raised-none hs c v le =
    ext_get_or 0 hs (raised hs c 0 v) (sym (length-raised hs c 0 v (omega arith)))
    (λ k lt.
    elim (cases_lt k c) [
      | inl before ↦ sym (raised-below hs c 0 v k (omega arith) before)
      | inr after ↦ sym (raised-above hs c 0 v k (omega arith) (omega arith))
    ])

pub raised-more :
    (hs : List ℕ) (c n v : ℕ) → c + n < length hs → set (raised hs c n v) (c + n) v ≡ raised hs c (n + 1) v
raised-more hs c n v lt =
    let one : length (raised hs c n v) ≡ length hs = length-raised hs c n v (omega arith) in
    let two : length (raised hs c (n + 1) v) ≡ length hs = length-raised hs c (n + 1) v (omega arith) in
    let three : length (set (raised hs c n v) (c + n) v) ≡ length (raised hs c n v) = length-set (raised hs c n v) (c + n) v in
    ext_get_or 0 (set (raised hs c n v) (c + n) v) (raised hs c (n + 1) v) (omega arith)
    (λ k l.
    elim (cases_lt k (c + n)) [
      | inl before ↦
          let ne : k ≢ c + n = omega arith in
          get_or-set_other (raised hs c n v) (c + n) k v 0 ne ∙ early k l before
      | inr ge ↦
          elim (cases_lt (c + n) k) [
            | inl past ↦
                let ne : k ≢ c + n = omega arith in
                get_or-set_other (raised hs c n v) (c + n) k v 0 ne
                ∙ (raised-above hs c n v k (omega arith) (omega arith)
                ∙ sym (raised-above hs c (n + 1) v k (omega arith) (omega arith)))
            | inr at ↦
                let e : k ≡ c + n = omega arith in
                let here : get_or (set (raised hs c n v) (c + n) v) (c + n) 0 ≡ v =
                get_or-set_same (raised hs c n v) (c + n) v 0 (omega arith) in
                let there : get_or (raised hs c (n + 1) v) (c + n) 0 ≡ v =
                raised-in hs c (n + 1) v (c + n) (omega arith) (omega arith) (omega arith) in
                subst (λ (x : ℕ). get_or (set (raised hs c n v) (c + n) v) x 0 ≡ get_or (raised hs c (n + 1) v) x 0) (sym e) (here ∙ sym there)
          ]
    ])
  where
    early : (k : ℕ) → k < length (set (raised hs c n v) (c + n) v) → k < c + n → get_or (raised hs c n v) k 0 ≡ get_or (raised hs c (n + 1) v) k 0
    early k l before =
        elim (cases_lt k c) [
          | inl low ↦ raised-below hs c n v k (omega arith) low ∙ sym (raised-below hs c (n + 1) v k (omega arith) low)
          | inr high ↦ raised-in hs c n v k (omega arith) high before ∙ sym (raised-in hs c (n + 1) v k (omega arith) high (omega arith))
        ]
