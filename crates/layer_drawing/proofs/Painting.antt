-- Painting cells that stand one after the other, and the cells of a case.
use Rattle.std.proofs.Common.{◌≡◌, ℕ, suc, ◌+◌, ◌*◌, ◌≤◌, ◌<◌, List, length, get_or, refl, sym, ap, ◌∙◌, arith, Bool, true, false, cond, eqb, leb, ltb, inl, inr, eq-eqb}
use Rattle.std.specs.Prelude.{◌&&◌, ◌||◌}
use Rattle.std.proofs.Math.ListN.{set}
use Rattle.std.proofs.lemmas.Bool.{cases_Bool, cases_lt, eqb-true, ne_eqb, ltb-true, ltb-false, leb-true, leb-false, le-leb, lt-leb, le-ltb, lt-ltb}
use Rattle.std.proofs.lemmas.List.{get_or-set_same, get_or-set_other}
use Rattle.std.proofs.lemmas.Nat.{mul-le}

-- a place from one on and before another
abbrev pub between : ℕ → ℕ → ℕ → Bool
between a b i = leb a i && ltb i b

pub is_between : (a b i : ℕ) → a ≤ i → i < b → between a b i ≡ true
is_between a b i low high = rw (le-leb a i low, lt-ltb i b high) refl

none_after : (t : Bool) → (t && false) ≡ false
none_after true = refl
none_after false = refl

pub not_below : (a b i : ℕ) → i < a → between a b i ≡ false
not_below a b i below = rw (lt-leb a i below) refl

pub not_beyond : (a b i : ℕ) → b ≤ i → between a b i ≡ false
not_beyond a b i beyond = rw (le-ltb i b beyond) (none_after (leb a i))

pub nothing_between : (a i : ℕ) → between a a i ≡ false
nothing_between a i = elim (cases_Bool (ltb i a)) [
  | inl passes ↦ not_below a a i (ltb-true i a passes)
  | inr fails ↦ not_beyond a a i (ltb-false i a fails)
]

-- the place itself, or one of those before it
pub one_more : (a b i : ℕ) → a ≤ b → (eqb i b || between a b i) ≡ between a (b + 1) i
one_more a b i le = elim (cases_Bool (eqb i b)) [
  | inl same ↦
      let e = eqb-true i b same in
      rw same (sym (is_between a (b + 1) i (omega arith) (omega arith)))
  | inr other ↦ rw other (elim (cases_Bool (ltb i b)) [
    | inl below ↦
        let lt = ltb-true i b below in
        let more : ltb i (b + 1) ≡ true = lt-ltb i (b + 1) (omega arith) in
        rw (below, more) refl
    | inr beyond ↦
        let le2 = ltb-false i b beyond in
        let far : b + 1 ≤ i = le_from le2 other in
        not_beyond a b i le2 ∙ sym (not_beyond a (b + 1) i far)
  ])
]
  where
    le_from : b ≤ i → eqb i b ≡ false → b + 1 ≤ i
    le_from le2 other = elim (cases_lt b i) [
      | inl lt ↦ omega arith
      | inr ge ↦ let same : i ≡ b = omega arith in let t = eq-eqb i b same in absurd cc
    ]

-- painting both
pub paint_both : (p e q : Bool) (c o : ℕ) → cond (p && e) c (cond (p && q) c o) ≡ cond (p && (e || q)) c o
paint_both true true q c o = refl
paint_both true false q c o = refl
paint_both false e q c o = refl

-- ---- a run

pub run_more : (a i : ℕ) (cells old : List ℕ) (c : ℕ) → a ≤ i → i < length cells → ((j : ℕ) → get_or cells j 0 ≡ cond (between a i j) c (get_or old j 0))
    → (j : ℕ) → get_or (set cells i c) j 0 ≡ cond (between a (i + 1) j) c (get_or old j 0)
run_more a i cells old c low within before j = elim (cases_Bool (eqb j i)) [
  | inl same ↦
      let e : j ≡ i = eqb-true j i same in
      let now : between a (i + 1) j ≡ true = is_between a (i + 1) j (omega arith) (omega arith) in
      ap (λ (k : ℕ). get_or (set cells i c) k 0) e ∙ get_or-set_same cells i c 0 within ∙ sym (ap (λ (t : Bool). cond t c (get_or old j 0)) now)
  | inr other ↦
      let rest : between a i j ≡ between a (i + 1) j = sym (ap (λ (t : Bool). t || between a i j) other) ∙ one_more a i j low in
      get_or-set_other cells i j c 0 (λ e. let t = eq-eqb j i e in absurd cc) ∙ before j ∙ ap (λ (t : Bool). cond t c (get_or old j 0)) rest
]

-- ---- the cells of a case

-- a place within a row, by the whole list
pub row_place : (w y j x a b : ℕ) → x < w → a ≤ b → b ≤ w → between (y * w + a) (y * w + b) (j * w + x) ≡ (between a b x && eqb j y)
row_place w y j x a b lt le room = elim (cases_lt j y) [
  | inl below ↦
      let rows : suc j * w ≤ y * w = mul-le (suc j) w y w (omega arith) (omega arith) in
      let other : eqb j y ≡ false = ne_eqb j y (λ e. omega arith) in
      not_below (y * w + a) (y * w + b) (j * w + x) (omega arith) ∙ sym (ap (λ (t : Bool). between a b x && t) other ∙ none_after (between a b x))
  | inr from ↦ elim (cases_lt y j) [
    | inl above ↦
        let rows : suc y * w ≤ j * w = mul-le (suc y) w j w (omega arith) (omega arith) in
        let other : eqb j y ≡ false = ne_eqb j y (λ e. omega arith) in
        not_beyond (y * w + a) (y * w + b) (j * w + x) (omega arith) ∙ sym (ap (λ (t : Bool). between a b x && t) other ∙ none_after (between a b x))
    | inr to ↦
        let same : j ≡ y = omega arith in
        let here : eqb j y ≡ true = eq-eqb j y same in
        let low : leb (y * w + a) (j * w + x) ≡ leb a x = rw same (same_le (y * w) a x) in
        let high : ltb (j * w + x) (y * w + b) ≡ ltb x b = rw same (same_lt (y * w) x b) in
        rw (low, high, here) (and_true (between a b x))
  ]
]
  where
    and_true : (t : Bool) → t ≡ (t && true)
    and_true true = refl
    and_true false = refl

    same_le : (k m n : ℕ) → leb (k + m) (k + n) ≡ leb m n
    same_le k m n = elim (cases_Bool (leb m n)) [
      | inl passes ↦ let le = leb-true m n passes in rw passes (le-leb (k + m) (k + n) (omega arith))
      | inr fails ↦ let gt = leb-false m n fails in rw fails (lt-leb (k + m) (k + n) (omega arith))
    ]

    same_lt : (k m n : ℕ) → ltb (k + m) (k + n) ≡ ltb m n
    same_lt k m n = elim (cases_Bool (ltb m n)) [
      | inl passes ↦ let lt = ltb-true m n passes in rw passes (lt-ltb (k + m) (k + n) (omega arith))
      | inr fails ↦ let ge = ltb-false m n fails in rw fails (le-ltb (k + m) (k + n) (omega arith))
    ]

-- each cell of some columns, in rows from one on and before another, has the character
abbrev pub ArePainted : ℕ → ℕ → ℕ → ℕ → ℕ → ℕ → ℕ → List ℕ → List ℕ → Type 0
ArePainted w h a b low high c old new =
    (x y : ℕ) → x < w → y < h → get_or new (y * w + x) 0 ≡ cond (between a b x && between low high y) c (get_or old (y * w + x) 0)

pub none_painted : (w h a b low c : ℕ) (old : List ℕ) → ArePainted w h a b low low c old old
none_painted w h a b low c old x y hx hy = sym (ap (λ (t : Bool). cond (between a b x && t) c (get_or old (y * w + x) 0)) (nothing_between low y) ∙ ap (λ (t : Bool). cond t c (get_or old (y * w + x) 0)) (none_after (between a b x)))

pub row_painted : (w h a b low y c : ℕ) (old cells new : List ℕ) → a ≤ b → b ≤ w → low ≤ y → ArePainted w h a b low y c old cells
    → ((i : ℕ) → get_or new i 0 ≡ cond (between (y * w + a) (y * w + b) i) c (get_or cells i 0)) → ArePainted w h a b low (y + 1) c old new
row_painted w h a b low y c old cells new le room from before run x j hx hj =
    run (j * w + x) ∙ ap (λ (t : Bool). cond t c (get_or cells (j * w + x) 0)) (row_place w y j x a b hx le room)
    ∙ ap (λ (v : ℕ). cond (between a b x && eqb j y) c v) (before x j hx hj)
    ∙ paint_both (between a b x) (eqb j y) (between low y j) c (get_or old (j * w + x) 0)
    ∙ ap (λ (t : Bool). cond (between a b x && t) c (get_or old (j * w + x) 0)) (one_more low y j from)

-- the end of a run in a row is within the list
pub run_within : (w h y b : ℕ) → y < h → b ≤ w → y * w + b ≤ h * w
run_within w h y b lt le =
    let rows : suc y * w ≤ h * w = mul-le (suc y) w h w (omega arith) (omega arith) in
    omega arith
