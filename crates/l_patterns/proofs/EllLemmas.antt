-- What holds of each number of a region: what its cells allow, and that a part that is the region itself gives nothing greater.
use Rattle.std.proofs.Common.{◌≡◌, ℕ, Bool, ◌⊎◌, ◌+◌, ◌-◌, ◌*◌, ◌≤◌, ◌<◌, ◌==◌, ◌||◌, cond, true, false, refl, ap, sym, ◌∙◌, subst, arith, inl, inr}
use Rattle.std.proofs.lemmas.Bool.{cases_lt, eq-eqb}
use Rattle.std.proofs.Math.Nat.{le_trans, le_refl, mul-le-mul}
use Rattle.plan_geometry.specs.declared.instances.Inst.{Inst}
use Rattle.block_tree.specs.declared.regions.Region.{Region}
use Rattle.block_tree.specs.declared.regions.Cut.{Cut}
use Rattle.block_tree.specs.declared.regions.Cut.TheVariants.{K1, K2, K3, K4}
use Rattle.block_tree.specs.Regions.{Within, IsOrdered, is_rectangle, region, rectangle, side_x, side_y, area}
use Rattle.block_tree.specs.Parts.{IsCut, ell_parts}
use Rattle.block_tree.specs.Trees.{uniform}
use Rattle.block_tree.proofs.AreaLemmas.{area-within, area-sides, area-rectangle, areas-ell, ordered-ell}
use Rattle.block_tables.specs.Numbers.{IsSum, RoundsTo}
use Rattle.block_tables.specs.declared.patterns.Pattern.TheVariants.{Five}
use Rattle.block_tables.specs.Numbers.{by_grid as by_number}
use Rattle.block_tables.proofs.BoundLemmas.{down-same, area as number-cells}
use Rattle.l_patterns.specs.Ells.{EllAll, by_grid, by_cut, IsSplit, IsRounded, part_at, written}
use Rattle.l_patterns.specs.Cuts.{IsRegion}
use Rattle.l_patterns.specs.Laws.{EllCellsLaw, WholePartsLaw}
use Rattle.l_patterns.proofs.WholeLemmas.{IsEll, Equal, same-area, k3-second, k4-second, k1-first}

-- the same rectangle by its sides
pub record SameSides (r p : Region) : Type 0 where
  pub of_r : is_rectangle r ≡ true
  pub of_p : is_rectangle p ≡ true
  pub x : side_x r ≡ side_x p
  pub y : side_y r ≡ side_y p

-- the same rectangle by its sides, or the same four numbers
abbrev pub Same : Region → Region → Type 0
Same r p = (r ≡ p) ⊎ SameSides r p

uniform-area : (i : Inst) (a b : ℕ) → uniform i a b * (i.long * i.short) ≤ a * b
uniform-area i a b = number-cells i Five (by_number {a = a} {b = b} refl)

-- a place that a side is rounded to is a sum of case sides
pub sum-of : (i : Inst) (s d : ℕ) → RoundsTo i s d → IsSum i d
sum-of i s d h = record { i = h.normal.i; j = h.normal.j; sum = h.normal.sum; within = le_refl d }

bool_cases : (b : Bool) → (b ≡ true) ⊎ (b ≡ false)
bool_cases true = inl refl
bool_cases false = inr refl

-- ---- parts are regions

rounded-le : (i : Inst) (s t a b : ℕ) → s ≤ t → RoundsTo i s a → RoundsTo i t b → a ≤ b
rounded-le i s t a b h u v = v.greatest a (record { i = u.normal.i; j = u.normal.j; sum = u.normal.sum; within = le_trans u.normal.within h })

rounded-ordered : (i : Inst) (r p : Region) → IsOrdered r → IsRounded i r p → IsOrdered p
rounded-ordered i r p o h = (rounded-le i _ _ _ _ o.0 h.small_x h.big_x, rounded-le i _ _ _ _ o.1 h.small_y h.big_y)

pub rounded-within : (i : Inst) (r p : Region) → IsRounded i r p → Within p r
rounded-within i r p h = (h.big_x.normal.within, h.big_y.normal.within, h.small_x.normal.within, h.small_y.normal.within)

pub rounded-region : (i : Inst) (r p : Region) → IsOrdered r → IsRounded i r p → IsRegion i p
rounded-region i r p o h = record {
  ordered = rounded-ordered i r p o h;
  big_x = sum-of i _ _ h.big_x;
  big_y = sum-of i _ _ h.big_y;
  small_x = sum-of i _ _ h.small_x;
  small_y = sum-of i _ _ h.small_y;
}

pub raw-first : (i : Inst) (r : Region) (cut : Cut) → IsOrdered r → IsCut r cut → IsOrdered (part_at (ell_parts r cut) 0)
raw-first i r (K1 x1 x2 y1) o h = (ordered-ell r (K1 x1 x2 y1) o h).0
raw-first i r (K2 c k) o h = (ordered-ell r (K2 c k) o h).0
raw-first i r (K3 d k) o h = (ordered-ell r (K3 d k) o h).0
raw-first i r (K4 c e) o h = (ordered-ell r (K4 c e) o h).0

pub raw-second : (i : Inst) (r : Region) (cut : Cut) → IsOrdered r → IsCut r cut → IsOrdered (part_at (ell_parts r cut) 1)
raw-second i r (K1 x1 x2 y1) o h = (ordered-ell r (K1 x1 x2 y1) o h).1.0
raw-second i r (K2 c k) o h = (ordered-ell r (K2 c k) o h).1.0
raw-second i r (K3 d k) o h = (ordered-ell r (K3 d k) o h).1.0
raw-second i r (K4 c e) o h = (ordered-ell r (K4 c e) o h).1.0

raw-areas : (r : Region) (cut : Cut) → IsOrdered r → IsCut r cut → area (part_at (ell_parts r cut) 0) + area (part_at (ell_parts r cut) 1) ≡ area r
raw-areas r (K1 x1 x2 y1) o h = omega (arith, areas-ell r (K1 x1 x2 y1) o h)
raw-areas r (K2 c k) o h = omega (arith, areas-ell r (K2 c k) o h)
raw-areas r (K3 d k) o h = omega (arith, areas-ell r (K3 d k) o h)
raw-areas r (K4 c e) o h = omega (arith, areas-ell r (K4 c e) o h)

pub first-region : (i : Inst) (r p q : Region) (cut : Cut) → IsOrdered r → IsSplit i r cut p q → IsRegion i p
first-region i r p q cut o s = rounded-region i _ p (raw-first i r cut o s.lawful) s.first

pub second-region : (i : Inst) (r p q : Region) (cut : Cut) → IsOrdered r → IsSplit i r cut p q → IsRegion i q
second-region i r p q cut o s = rounded-region i _ q (raw-second i r cut o s.lawful) s.second

pub parts-area : (i : Inst) (r p q : Region) (cut : Cut) → IsOrdered r → IsSplit i r cut p q → area p + area q ≤ area r
parts-area i r p q cut o s =
    let a = raw-first i r cut o s.lawful in
    let b = raw-second i r cut o s.lawful in
    omega (
      arith,
      raw-areas r cut o s.lawful,
      area-within p _ (rounded-ordered i _ p a s.first) a (rounded-within i _ p s.first),
      area-within q _ (rounded-ordered i _ q b s.second) b (rounded-within i _ q s.second),
    )

-- ---- the cells

spread : (m n k : ℕ) → (m + n) * k ≡ m * k + n * k
spread m n k = omega arith

pub number-area : (i : Inst) {r : Region} {n : ℕ} → IsOrdered r → EllAll i r n → n * (i.long * i.short) ≤ area r
number-area i {r = r} o (by_grid h e) = rw (e, area-sides r o h) (uniform-area i (side_x r) (side_y r))
number-area i {r = r} o (by_cut {p = p} {s = q} {cut = cut} {m = k} {n = l} s a b e) =
    rw e (omega (
      arith,
      spread k l (i.long * i.short),
      number-area i (first-region i r p q cut o s).ordered a,
      number-area i (second-region i r p q cut o s).ordered b,
      parts-area i r p q cut o s,
    ))

pub case-some : (i : Inst) → 1 ≤ i.long * i.short
case-some i = let a : 1 * 1 ≤ i.long * i.short = mul-le-mul {n₁ = 1} {n₂ = i.long} (omega (arith, i.sides.short_min, i.sides.ordered)) i.sides.short_min in omega arith

pub number-none : (i : Inst) (r : Region) (n : ℕ) → IsOrdered r → area r ≡ 0 → EllAll i r n → n ≡ 0
number-none i r n o z h =
    let a = number-area i o h in
    elim (cases_lt 0 n) [
      | inl w ↦ absurd (let b : 1 * 1 ≤ n * (i.long * i.short) = mul-le-mul w (case-some i) in omega arith)
      | inr w ↦ omega arith
    ]

-- ---- the same rectangle under two names

true-false : (b : Bool) → b ≡ true → b ≡ false → ⊥
true-false b h k = cc

-- a cut of the one is a cut of the other
pub split-same : (i : Inst) (r p : Region) (cut : Cut) (a b : Region) → SameSides r p → IsSplit i r cut a b → IsSplit i p cut a b
split-same i r p (K1 x1 x2 y1) a b s h =
    let F : ℕ → Type 0 = λ v. IsRounded i (region x2 v x1 y1) a in
    let G : ℕ → ℕ → Type 0 = λ u v. IsRounded i (region (u - x1) v (u - x2) (v - y1)) b in
    let g1 : G (side_x r) (side_y p) = subst (λ v. G (side_x r) v) s.y h.second in
    record {
      lawful = (s.of_p, h.lawful.1, omega (arith, h.lawful.2, s.x), omega (arith, h.lawful.3, s.y));
      normal = h.normal;
      first = subst F s.y h.first;
      second = subst (λ u. G u (side_y p)) s.x g1;
    }
split-same i r p (K2 c e) a b s h = absurd (true-false (is_rectangle r) s.of_r h.lawful.0)
split-same i r p (K3 d e) a b s h = absurd (true-false (is_rectangle r) s.of_r h.lawful.0)
split-same i r p (K4 c e) a b s h = absurd (true-false (is_rectangle r) s.of_r h.lawful.0)

pub number-same : (i : Inst) {r p : Region} {n : ℕ} → SameSides r p → EllAll i r n → EllAll i p n
number-same i {r = r} {p = p} s (by_grid h e) = by_grid s.of_p (rw (s.x, s.y) at e)
number-same i {r = r} {p = p} s (by_cut {p = a} {s = b} {cut = cut} h x y e) = by_cut (split-same i r p cut a b s h) x y e

eqb-refl : (a : ℕ) → (a == a) ≡ true
eqb-refl a = eq-eqb a a refl

pub rectangle-is : (a b : ℕ) → is_rectangle (rectangle a b) ≡ true
rectangle-is a b = rw (eqb-refl a) refl

pub written-same : (r : Region) → is_rectangle r ≡ true → SameSides r (rectangle (side_x r) (side_y r))
written-same r h = record { of_r = h; of_p = rectangle-is (side_x r) (side_y r); x = rw (eqb-refl (side_x r)) refl; y = rw (eqb-refl (side_x r)) refl }

-- ---- a part with as many cells as the region is the region itself

pub or3 : (a b c d : Bool) → (b ≡ true) ⊎ ((c ≡ true) ⊎ (d ≡ true)) → (a || b || c || d) ≡ true
or3 a b c d (inl e) = rw e (or-any a c d) where
  or-any : (a c d : Bool) → (a || true || c || d) ≡ true
  or-any true c d = refl
  or-any false c d = refl
or3 a b c d (inr (inl e)) = rw e (or-any a b d) where
  or-any : (a b d : Bool) → (a || b || true || d) ≡ true
  or-any true b d = refl
  or-any false true d = refl
  or-any false false d = refl
or3 a b c d (inr (inr e)) = rw e (or-any a b c) where
  or-any : (a b c : Bool) → (a || b || c || true) ≡ true
  or-any true b c = refl
  or-any false true c = refl
  or-any false false true = refl
  or-any false false false = refl

ell-of : (r : Region) → IsOrdered r → is_rectangle r ≡ false → IsEll r
ell-of r o h = record { low_x = low_x; low_y = low_y; high_x = high_x; high_y = high_y } where
  high_x : r.small_x < r.big_x
  high_x = elim (cases_lt r.small_x r.big_x) [ inl w ↦ w | inr w ↦ absurd (let e : (r.small_x == r.big_x) ≡ true = eq-eqb _ _ (omega (arith, o.0)) in true-false (is_rectangle r) (rw e refl) h) ]

  high_y : r.small_y < r.big_y
  high_y = elim (cases_lt r.small_y r.big_y) [ inl w ↦ w | inr w ↦ absurd (let e : (r.small_y == r.big_y) ≡ true = eq-eqb _ _ (omega (arith, o.1)) in true-false (is_rectangle r) (or3 (r.small_x == r.big_x) _ _ _ (inl e)) h) ]

  low_x : 0 < r.small_x
  low_x = elim (cases_lt 0 r.small_x) [ inl w ↦ w | inr w ↦ absurd (let e : (r.small_x == 0) ≡ true = eq-eqb _ _ (omega arith) in true-false (is_rectangle r) (or3 (r.small_x == r.big_x) _ _ _ (inr (inl e))) h) ]

  low_y : 0 < r.small_y
  low_y = elim (cases_lt 0 r.small_y) [ inl w ↦ w | inr w ↦ absurd (let e : (r.small_y == 0) ≡ true = eq-eqb _ _ (omega arith) in true-false (is_rectangle r) (or3 (r.small_x == r.big_x) _ _ _ (inr (inr e))) h) ]

-- what equal cells leave of a part of an L-region
pub region-is : (p r : Region) → p.big_x ≡ r.big_x → p.big_y ≡ r.big_y → p.small_x ≡ r.small_x → p.small_y ≡ r.small_y → p ≡ r
region-is p r a b c d =
    ap (λ z. region z p.big_y p.small_x p.small_y) a ∙ (ap (λ z. region r.big_x z p.small_x p.small_y) b
    ∙ (ap (λ z. region r.big_x r.big_y z p.small_y) c ∙ ap (λ z. region r.big_x r.big_y r.small_x z) d))

equal-rounded : (i : Inst) (r raw p : Region) → IsRegion i r → Equal raw r → IsRounded i raw p → p ≡ r
equal-rounded i r raw p g e h =
    let a : p.big_x ≡ r.big_x = down-same i _ _ (subst (IsSum i) (sym e.big_x) g.big_x) h.big_x ∙ e.big_x in
    let b : p.big_y ≡ r.big_y = down-same i _ _ (subst (IsSum i) (sym e.big_y) g.big_y) h.big_y ∙ e.big_y in
    let c : p.small_x ≡ r.small_x = down-same i _ _ (subst (IsSum i) (sym e.small_x) g.small_x) h.small_x ∙ e.small_x in
    let d : p.small_y ≡ r.small_y = down-same i _ _ (subst (IsSum i) (sym e.small_y) g.small_y) h.small_y ∙ e.small_y in
    region-is p r a b c d

-- a rectangle whose first number or second number says so
wide-same : (r p : Region) (a b : ℕ) → is_rectangle r ≡ true → side_x r ≡ a → side_y r ≡ b → p.big_x ≡ a → p.big_y ≡ b → (p.small_x ≡ a) ⊎ (p.small_y ≡ b) → SameSides p r
wide-same r p a b h x y u v (inl e) =
    let t : (p.small_x == p.big_x) ≡ true = eq-eqb _ _ (e ∙ sym u) in
    record { of_r = rw t refl; of_p = h; x = rw t (u ∙ sym x); y = rw t (v ∙ sym y) }
wide-same r p a b h x y u v (inr e) =
    let t : (p.small_y == p.big_y) ≡ true = eq-eqb _ _ (e ∙ sym v) in
    record {
      of_r = or3 (p.small_x == p.big_x) _ _ _ (inl t);
      of_p = h;
      x = (elim (p.small_x == p.big_x) as (λ z. cond (z || (p.small_y == p.big_y) || (p.small_x == 0)) p.big_x p.small_x ≡ p.big_x) [ true ↦ refl | false ↦ rw t refl ]) ∙ (u ∙ sym x);
      y = (elim (p.small_x == p.big_x) as (λ z. cond (z || (p.small_y == p.big_y)) p.big_y (cond (p.small_x == 0) p.small_y p.big_y) ≡ p.big_y) [ true ↦ refl | false ↦ rw t refl ]) ∙ (v ∙ sym y);
    }

pub sides-sum_x : (i : Inst) (r : Region) → IsRegion i r → IsSum i (side_x r)
sides-sum_x i r g = elim ((r.small_x == r.big_x) || (r.small_y == r.big_y) || (r.small_x == 0)) as (λ t. IsSum i (cond t r.big_x r.small_x)) [ true ↦ g.big_x | false ↦ g.small_x ]

pub sides-sum_y : (i : Inst) (r : Region) → IsRegion i r → IsSum i (side_y r)
sides-sum_y i r g = elim ((r.small_x == r.big_x) || (r.small_y == r.big_y)) as (λ t. IsSum i (cond t r.big_y (cond (r.small_x == 0) r.small_y r.big_y))) [
  | true ↦ g.big_y
  | false ↦ elim (r.small_x == 0) as (λ t. IsSum i (cond t r.small_y r.big_y)) [ true ↦ g.small_y | false ↦ g.big_y ]
]

down-to : (i : Inst) (s d a : ℕ) → s ≡ a → IsSum i a → RoundsTo i s d → d ≡ a
down-to i s d a e u h = down-same i s d (subst (IsSum i) (sym e) u) h ∙ e

positive : (a b : ℕ) → 0 < a * b → (0 < a) × (0 < b)
positive a b h = (
  elim (cases_lt 0 a) [ inl w ↦ w | inr w ↦ absurd (let e : a ≡ 0 = omega arith in let f : a * b ≡ 0 * b = ap (λ z. z * b) e in omega arith) ],
  elim (cases_lt 0 b) [ inl w ↦ w | inr w ↦ absurd (let e : b ≡ 0 = omega arith in let f : a * b ≡ a * 0 = ap (λ z. a * z) e in omega arith) ],
)

whole-first : (i : Inst) (r p : Region) (cut : Cut) → IsRegion i r → 0 < area r → IsCut r cut
    → IsRounded i (part_at (ell_parts r cut) 0) p → area r ≤ area (part_at (ell_parts r cut) 0) → Same p r
whole-first i r p (K1 x1 x2 y1) g z h s w =
    let o = area-sides r g.ordered h.0 in
    let t = positive (side_x r) (side_y r) (omega arith) in
    let k = k1-first (side_x r) (side_y r) x1 x2 y1 t.0 t.1 h.1 h.2 h.3 (omega arith) in
    inr (wide-same r p (side_x r) (side_y r) h.0 refl refl
    (down-to i _ _ _ k.0 (sides-sum_x i r g) s.big_x) (down-to i _ _ _ refl (sides-sum_y i r g) s.big_y)
    (elim k.1 [ inl e ↦ inl (down-to i _ _ _ e (sides-sum_x i r g) s.small_x) | inr e ↦ inr (down-to i _ _ _ e (sides-sum_y i r g) s.small_y) ]))
whole-first i r p (K2 c k) g z h s w =
    let o = g.ordered in
    let raw : Region = region r.big_x r.big_y c k in
    inl (equal-rounded i r raw p g (same-area raw r (omega arith, omega arith) (ell-of r o h.0) (omega arith, omega arith, h.1, h.2) w) s)
whole-first i r p (K3 d k) g z h s w =
    let o = g.ordered in
    let raw : Region = region d (r.big_y - k) r.small_x (r.small_y - k) in
    inl (equal-rounded i r raw p g (same-area raw r (h.1, omega arith) (ell-of r o h.0) (h.2, omega arith, omega arith, omega arith) w) s)
whole-first i r p (K4 c e) g z h s w =
    let o = g.ordered in
    let raw : Region = region (r.big_x - c) e (r.small_x - c) r.small_y in
    inl (equal-rounded i r raw p g (same-area raw r (omega arith, h.2) (ell-of r o h.0) (omega arith, h.3, omega arith, omega arith) w) s)

whole-second : (i : Inst) (r p : Region) (cut : Cut) → IsRegion i r → 0 < area r → IsCut r cut
    → IsRounded i (part_at (ell_parts r cut) 1) p → area r ≤ area (part_at (ell_parts r cut) 1) → Same p r
whole-second i r p (K1 x1 x2 y1) g z h s w =
    let o = area-sides r g.ordered h.0 in
    let t = positive (side_x r) (side_y r) (omega arith) in
    let k = k1-first (side_x r) (side_y r) (side_x r - x2) (side_x r - x1) (side_y r - y1) t.0 t.1 (omega (arith, h.1, h.2)) (omega arith) (omega arith) (omega arith) in
    inr (wide-same r p (side_x r) (side_y r) h.0 refl refl
    (down-to i _ _ _ k.0 (sides-sum_x i r g) s.big_x) (down-to i _ _ _ refl (sides-sum_y i r g) s.big_y)
    (elim k.1 [ inl e ↦ inl (down-to i _ _ _ e (sides-sum_x i r g) s.small_x) | inr e ↦ inr (down-to i _ _ _ e (sides-sum_y i r g) s.small_y) ]))
whole-second i r p (K2 c k) g z h s w =
    let o = g.ordered in
    let raw : Region = region (r.big_x - c) (r.big_y - k) (r.small_x - c) (r.small_y - k) in
    inl (equal-rounded i r raw p g (same-area raw r (omega arith, omega arith) (ell-of r o h.0) (omega arith, omega arith, omega arith, omega arith) w) s)
whole-second i r p (K3 d k) g z h s w = absurd (omega (arith, k3-second r d k (ell-of r g.ordered h.0) h.2 h.3))
whole-second i r p (K4 c e) g z h s w = absurd (omega (arith, k4-second r c e (ell-of r g.ordered h.0) h.1 h.3))

-- ---- no number is above m, where none of a cut into smaller parts is

module _ (i : Inst) (r : Region) (g : IsRegion i r) (some : 0 < area r) (m : ℕ)
    (grid : is_rectangle r ≡ true → uniform i (side_x r) (side_y r) ≤ m)
    (cuts : (cut : Cut) (p q : Region) → IsSplit i r cut p q → area p < area r → area q < area r → (k l : ℕ) → EllAll i p k → EllAll i q l → k + l ≤ m) where
  at-cut : (cut : Cut) (p q : Region) (k l : ℕ) → IsSplit i r cut p q → EllAll i p k → EllAll i q l → (Same p r → k ≤ m) → (Same q r → l ≤ m) → k + l ≤ m
  at-cut cut p q k l s a b x y =
      let gp = first-region i r p q cut g.ordered s in
      let gq = second-region i r p q cut g.ordered s in
      let sum = parts-area i r p q cut g.ordered s in
      elim (cases_lt (area p) (area r)) [
        | inr w ↦ (
            let le = area-within p _ gp.ordered (raw-first i r cut g.ordered s.lawful) (rounded-within i _ p s.first) in
            omega (arith, x (whole-first i r p cut g some s.lawful s.first (omega arith)), number-none i q l gq.ordered (omega arith) b))
        | inl w ↦ elim (cases_lt (area q) (area r)) [
          | inr v ↦ (
              let le = area-within q _ gq.ordered (raw-second i r cut g.ordered s.lawful) (rounded-within i _ q s.second) in
              omega (arith, y (whole-second i r q cut g some s.lawful s.second (omega arith)), number-none i p k gp.ordered (omega arith) a))
          | inl v ↦ cuts cut p q s w v k l a b
        ]
      ]

  turned-split : (r' : Region) (cut : Cut) (p q : Region) → Same r' r → IsSplit i r' cut p q → IsSplit i r cut p q
  turned-split r' cut p q (inl e) s = subst (λ z. IsSplit i z cut p q) e s
  turned-split r' cut p q (inr e) s = split-same i r' r cut p q e s

  grid-same : (r' : Region) → Same r' r → is_rectangle r' ≡ true → uniform i (side_x r') (side_y r') ≤ m
  grid-same r' (inl e) h = let P : Region → Type 0 = λ z. uniform i (side_x z) (side_y z) ≤ m in subst P (sym e) (grid (subst (λ z. is_rectangle z ≡ true) e h))
  grid-same r' (inr e) h = rw (e.x, e.y) (grid e.of_p)

  pub bounded : {r' : Region} {n : ℕ} → EllAll i r' n → Same r' r → n ≤ m
  bounded {r' = r'} (by_grid h e) s = rw e (grid-same r' s h)
  bounded {r' = r'} (by_cut {p = p} {s = q} {cut = cut} {m = k} {n = l} h a b e) s =
      rw e (at-cut cut p q k l (turned-split r' cut p q s h) a b (λ g. bounded a g) (λ g. bounded b g))

-- ---- a part and its written form

down-unique : (i : Inst) (s a b : ℕ) → RoundsTo i s a → RoundsTo i s b → a ≡ b
down-unique i s a b h k = let x = h.greatest b k.normal in let y = k.greatest a h.normal in omega arith

pub rounded-unique : (i : Inst) (r p s : Region) → IsRounded i r p → IsRounded i r s → p ≡ s
rounded-unique i r p s h k =
    region-is p s (down-unique i _ _ _ h.big_x k.big_x) (down-unique i _ _ _ h.big_y k.big_y) (down-unique i _ _ _ h.small_x k.small_x) (down-unique i _ _ _ h.small_y k.small_y)

pub flipped : (r p : Region) → SameSides r p → SameSides p r
flipped r p s = record { of_r = s.of_p; of_p = s.of_r; x = sym s.x; y = sym s.y }

pub written-cases : (r : Region) → (written r ≡ r) ⊎ ((is_rectangle r ≡ true) × (written r ≡ rectangle (side_x r) (side_y r)))
written-cases r = go (is_rectangle r) refl where
  go : (b : Bool) → is_rectangle r ≡ b → (cond b (rectangle (side_x r) (side_y r)) r ≡ r) ⊎ ((b ≡ true) × (cond b (rectangle (side_x r) (side_y r)) r ≡ rectangle (side_x r) (side_y r)))
  go true e = inr (refl, refl)
  go false e = inl refl

pub number-written : (i : Inst) (r : Region) (n : ℕ) → EllAll i r n → EllAll i (written r) n
number-written i r n h = elim (written-cases r) [
  | inl e ↦ subst (λ z. EllAll i z n) (sym e) h
  | inr e ↦ subst (λ z. EllAll i z n) (sym e.1) (number-same i (written-same r e.0) h)
]

pub written-number : (i : Inst) (r : Region) (n : ℕ) → EllAll i (written r) n → EllAll i r n
written-number i r n h = elim (written-cases r) [
  | inl e ↦ subst (λ z. EllAll i z n) e h
  | inr e ↦ number-same i (flipped _ _ (written-same r e.0)) (subst (λ z. EllAll i z n) e.1 h)
]

pub area-written : (r : Region) → IsOrdered r → area (written r) ≡ area r
area-written r o = elim (written-cases r) [
  | inl e ↦ ap area e
  | inr e ↦ ap area e.1 ∙ (area-rectangle (side_x r) (side_y r) ∙ sym (area-sides r o e.0))
]

-- ---- the laws

pub cells : EllCellsLaw
cells i r n o h = number-area i o h

pub whole : WholePartsLaw
whole i r n g some grid cuts m h = bounded i r g some n grid cuts h (inl refl)
