-- The greatest first term so far.
use Rattle.std.proofs.Common.{◌≡◌, ℕ, ◌⊎◌, ◌+◌, ◌≤◌, length, slice_index, inl, inr, sym, ◌∙◌, ap, arith}
use Rattle.std.proofs.lemmas.Bool.{cases_lt}
use Rattle.block_tables.specs.declared.patterns.Pattern.TheVariants.{Four}
use Rattle.block_tables.specs.declared.tables.Job.{Job}
use Rattle.block_tables.specs.Tables.{IsRising, CoversAll}
use Rattle.g4_patterns.specs.declared.scanning.Top.{Top}
use Rattle.g4_patterns.specs.Scan.{IsTop, first_at, second_at, CoversY, CoversX2, CoversX1}

pub top-more : (q : Job) (x1 x2 k first : ℕ) (t r : Top) → IsTop q x1 x2 k t → first ≡ first_at q x1 x2 k → first ≤ 32000000 → t.value ≤ r.value → first ≤ r.value
    → ((r ≡ t) ⊎ ((r.value ≡ first) × (r.at ≡ k))) → IsTop q x1 x2 (k + 1) r
top-more q x1 x2 k first t r h e s up co which = record {
  up = λ j l. elim (cases_lt j k) [
    | inl w ↦ omega (arith, h.up j w)
    | inr w ↦ (let z : j ≡ k = omega arith in omega (arith, e, ap (λ n. first_at q x1 x2 n) z))
  ];
  at = λ l. elim which [
    | inl z ↦ elim (cases_lt 0 k) [
      | inl w ↦ (let a = h.at w in (omega (arith, a.0, ap (λ m. m.at) z), (ap (λ m. first_at q x1 x2 m.at) z ∙ (a.1 ∙ sym (ap (λ m. m.value) z)))))
      | inr w ↦ (let y : k ≡ 0 = omega arith in let n = h.none y in
          let a0 : r.at ≡ k = ap (λ m. m.at) z ∙ (n.1 ∙ sym y) in
          (omega (arith, a0), (let f : first_at q x1 x2 r.at ≡ first_at q x1 x2 k = ap (λ m. first_at q x1 x2 m) a0 in omega (arith, f, e, n.0, ap (λ m. m.value) z))))
    ]
    | inr z ↦ (omega (arith, z.1), (let f : first_at q x1 x2 r.at ≡ first_at q x1 x2 k = ap (λ m. first_at q x1 x2 m) z.1 in omega (arith, f, e, z.0)))
  ];
  none = λ l. absurd (omega arith);
  small = elim which [ inl z ↦ omega (arith, ap (λ m. m.value) z, h.small) | inr z ↦ omega (arith, z.0) ];
}

pub covers-more : (q : Job) (x1 x2 k n m : ℕ) (t : Top) → n ≤ m → CoversY q x1 x2 k n → IsTop q x1 x2 (k + 1) t → t.value + second_at q x1 x2 k ≤ m → CoversY q x1 x2 (k + 1) m
covers-more q x1 x2 k n m t h c top l = λ j e a b.
    elim (cases_lt e k) [
      | inl w ↦ omega (arith, c j e a w)
      | inr w ↦ (let z : e ≡ k = omega arith in omega (arith, top.up j (omega arith), ap (λ p. second_at q x1 x2 p) z))
    ]

-- ---- cuts that were tried stay covered by a greater number

wider_y : (q : Job) (x1 x2 upto n m : ℕ) → n ≤ m → CoversY q x1 x2 upto n → CoversY q x1 x2 upto m
wider_y q x1 x2 upto n m h c = λ j k a b. let d = c j k a b in omega arith

pub wider_x2 : (q : Job) (x1 upto n m : ℕ) → n ≤ m → CoversX2 q x1 upto n → CoversX2 q x1 upto m
wider_x2 q x1 upto n m h c = λ k a b. wider_y q x1 _ _ n m h (c k a b)

pub wider_x1 : (q : Job) (upto n m : ℕ) → n ≤ m → CoversX1 q upto n → CoversX1 q upto m
wider_x1 q upto n m h c = λ k a. wider_x2 q _ _ n m h (c k a)

-- no cut at all has a greater sum
pub covers-all : (q : Job) (n : ℕ) → IsRising q.ys.now → CoversX1 q (length q.xs.now) n → CoversAll Four q n
covers-all q n up k x1 x2 y1 y2 h1 h2 h3 h4 lx ly =
    let e1 = h1.2 in
    let e2 = h2.2 in
    let e3 = h3.2 in
    let e4 = h4.2 in
    let ox : slice_index q.xs.now h1.0 ≤ slice_index q.xs.now h2.0 = omega arith in
    let oy : h3.0 ≤ h4.0 = elim (cases_lt h4.0 h3.0) [
      | inl w ↦ (let r = up h4.0 h3.0 w h3.1 in absurd (omega arith))
      | inr w ↦ w
    ] in
    let c = rw (e1, e2, e3, e4) at (k h1.0 h1.1 h2.0 h2.1 ox h3.0 h4.0 oy h4.1) in
    omega (arith, c)
