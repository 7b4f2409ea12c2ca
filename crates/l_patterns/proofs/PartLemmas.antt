-- What the parts of a cut give.
use Rattle.std.proofs.Common.{◌≡◌, ℕ, Bool, ◌+◌, ◌*◌, ◌/◌, ◌≤◌, ◌<◌, true, false, refl, ap, sym, subst, arith, inl, inr}
use Rattle.std.proofs.lemmas.Bool.{cases_lt}
use Rattle.std.proofs.Math.Nat.{le_trans, le_refl, mul-le-mul_right, lt-div-mul-add}
use Rattle.plan_geometry.specs.declared.instances.Inst.{Inst}
use Rattle.block_tree.specs.declared.regions.Region.{Region}
use Rattle.block_tree.specs.declared.regions.Cut.{Cut}
use Rattle.block_tree.specs.declared.regions.Cut.TheVariants.{K1, K2, K3, K4}
use Rattle.block_tree.specs.Regions.{IsOrdered, is_rectangle, side_x, side_y, area}
use Rattle.block_tree.specs.Parts.{IsCut, ell_parts}
use Rattle.block_tree.specs.Trees.{uniform}
use Rattle.block_tree.proofs.AreaLemmas.{side-le_x, side-le_y}
use Rattle.l_patterns.specs.declared.sides.Sides.{Sides}
use Rattle.l_patterns.specs.declared.knowledge.Search.{Search}
use Rattle.l_patterns.specs.Progress.{IsOpen}
use Rattle.l_patterns.specs.Ells.{EllAll, by_grid, IsSplit, IsRounded, part_at, written, Reach, first_part, second_part}
use Rattle.l_patterns.specs.Cuts.{IsRegion, Fits}
use Rattle.l_patterns.specs.Keys.{base}
use Rattle.l_patterns.specs.States.{Fails, IsGo}
use Rattle.l_patterns.proofs.EllLemmas.{first-region, second-region, number-area, number-written, area-written, written-cases, sides-sum_x, sides-sum_y, rounded-unique, rounded-region, case-some}

-- ---- the cells

le-quotient : (n k a : ℕ) → 1 ≤ k → n * k ≤ a → n ≤ a / k
le-quotient n k a h w = elim (cases_lt (a / k) n) [
  | inr v ↦ v
  | inl v ↦ absurd (let c : (a / k + 1) * k ≤ n * k = mul-le-mul_right k (omega arith) in
      let d : (a / k + 1) * k ≡ a / k * k + k = omega arith in omega (arith, lt-div-mul-add {a = a} {b = k} h))
]

pub cells-bound : (i : Inst) (r : Region) (n : ℕ) → IsOrdered r → EllAll i r n → n ≤ area r / (i.long * i.short)
cells-bound i r n o h = le-quotient n (i.long * i.short) (area r) (case-some i) (number-area i o h)

pub base-is : (i : Inst) (r : Region) → is_rectangle r ≡ true → base i r ≡ uniform i (side_x r) (side_y r)
base-is i r e = rw e refl

pub base-not : (i : Inst) (r : Region) → is_rectangle r ≡ false → base i r ≡ 0
base-not i r e = rw e refl

pub base-bound : (i : Inst) (r : Region) → IsOrdered r → base i r ≤ area r / (i.long * i.short)
base-bound i r o = go (is_rectangle r) refl where
  go : (b : Bool) → is_rectangle r ≡ b → base i r ≤ area r / (i.long * i.short)
  go true e = omega (arith, base-is i r e, cells-bound i r _ o (by_grid e refl))
  go false e = omega (arith, base-not i r e)

-- ---- the written form of a region

written-region : (i : Inst) (r : Region) → IsRegion i r → IsRegion i (written r)
written-region i r g = elim (written-cases r) [
  | inl e ↦ subst (IsRegion i) (sym e) g
  | inr e ↦ subst (IsRegion i) (sym e.1) (record {
    ordered = (le_refl _, le_refl _);
    big_x = sides-sum_x i r g;
    big_y = sides-sum_y i r g;
    small_x = sides-sum_x i r g;
    small_y = sides-sum_y i r g;
  })
]

written-wide : (r : Region) → IsOrdered r → (written r).big_x ≤ r.big_x
written-wide r o = elim (written-cases r) [
  | inl e ↦ rw e (le_refl _)
  | inr e ↦ rw e.1 (side-le_x r o)
]

written-tall : (r : Region) → IsOrdered r → (written r).big_y ≤ r.big_y
written-tall r o = elim (written-cases r) [
  | inl e ↦ rw e (le_refl _)
  | inr e ↦ rw e.1 (side-le_y r o)
]

pub fits-written : (q : Sides) (r : Region) → Fits q r → Fits q (written r)
fits-written q r f = record {
  region = written-region q.inst r f.region;
  wide = le_trans (written-wide r f.region.ordered) f.wide;
  tall = le_trans (written-tall r f.region.ordered) f.tall;
}

pub fits-rounded : (q : Sides) (r p : Region) → IsOrdered r → r.big_x ≤ q.inst.l_side → r.big_y ≤ q.inst.w_side → IsRounded q.inst r p → Fits q p
fits-rounded q r p o w v h = record {
  region = rounded-region q.inst r p o h;
  wide = le_trans h.big_x.normal.within w;
  tall = le_trans h.big_y.normal.within v;
}

-- ---- the parts of a cut are no larger than the region

raw-wide_1 : (r : Region) (cut : Cut) → IsOrdered r → IsCut r cut → (part_at (ell_parts r cut) 0).big_x ≤ r.big_x
raw-wide_1 r (K1 x1 x2 y1) o h = omega (arith, h.2, side-le_x r o)
raw-wide_1 r (K2 c k) o h = omega arith
raw-wide_1 r (K3 d k) o h = h.2
raw-wide_1 r (K4 c e) o h = omega arith

raw-tall_1 : (r : Region) (cut : Cut) → IsOrdered r → IsCut r cut → (part_at (ell_parts r cut) 0).big_y ≤ r.big_y
raw-tall_1 r (K1 x1 x2 y1) o h = side-le_y r o
raw-tall_1 r (K2 c k) o h = omega arith
raw-tall_1 r (K3 d k) o h = omega arith
raw-tall_1 r (K4 c e) o h = h.3

raw-wide_2 : (r : Region) (cut : Cut) → IsOrdered r → IsCut r cut → (part_at (ell_parts r cut) 1).big_x ≤ r.big_x
raw-wide_2 r (K1 x1 x2 y1) o h = omega (arith, side-le_x r o)
raw-wide_2 r (K2 c k) o h = omega arith
raw-wide_2 r (K3 d k) o h = omega arith
raw-wide_2 r (K4 c e) o h = o.0

raw-tall_2 : (r : Region) (cut : Cut) → IsOrdered r → IsCut r cut → (part_at (ell_parts r cut) 1).big_y ≤ r.big_y
raw-tall_2 r (K1 x1 x2 y1) o h = omega (arith, side-le_y r o)
raw-tall_2 r (K2 c k) o h = omega arith
raw-tall_2 r (K3 d k) o h = o.1
raw-tall_2 r (K4 c e) o h = omega arith

pub raw-fits_1 : (q : Sides) (r : Region) (cut : Cut) → Fits q r → IsCut r cut
    → ((part_at (ell_parts r cut) 0).big_x ≤ q.inst.l_side) × ((part_at (ell_parts r cut) 0).big_y ≤ q.inst.w_side)
raw-fits_1 q r cut f h = (le_trans (raw-wide_1 r cut f.region.ordered h) f.wide, le_trans (raw-tall_1 r cut f.region.ordered h) f.tall)

pub raw-fits_2 : (q : Sides) (r : Region) (cut : Cut) → Fits q r → IsCut r cut
    → ((part_at (ell_parts r cut) 1).big_x ≤ q.inst.l_side) × ((part_at (ell_parts r cut) 1).big_y ≤ q.inst.w_side)
raw-fits_2 q r cut f h = (le_trans (raw-wide_2 r cut f.region.ordered h) f.wide, le_trans (raw-tall_2 r cut f.region.ordered h) f.tall)

module _ (q : Sides) (r : Region) (f : Fits q r) (cut : Cut) (p s : Region) (h : IsSplit q.inst r cut p s) where
  pub fits-first : Fits q p
  fits-first = record {
    region = first-region q.inst r p s cut f.region.ordered h;
    wide = le_trans h.first.big_x.normal.within (raw-fits_1 q r cut f h.lawful).0;
    tall = le_trans h.first.big_y.normal.within (raw-fits_1 q r cut f h.lawful).1;
  }

  pub fits-second : Fits q s
  fits-second = record {
    region = second-region q.inst r p s cut f.region.ordered h;
    wide = le_trans h.second.big_x.normal.within (raw-fits_2 q r cut f h.lawful).0;
    tall = le_trans h.second.big_y.normal.within (raw-fits_2 q r cut f h.lawful).1;
  }

  -- ---- a part of which more must be known

  pub go-first : (t : Search) (n : ℕ) → Reach q.inst r → area p < area r → 0 < area (written p) → base q.inst (written p) < n → IsOpen q.inst t.memo (written p) n → IsGo q t r (written p) n
  go-first t n w b a k o =
      let e = area-written p fits-first.region.ordered in
      record { fits = fits-written q p fits-first; reach = first_part w h (omega arith) b refl; some = a; above = k; falls = omega arith; opens = o }

  pub go-second : (t : Search) (n : ℕ) → Reach q.inst r → area s < area r → 0 < area (written s) → base q.inst (written s) < n → IsOpen q.inst t.memo (written s) n → IsGo q t r (written s) n
  go-second t n w b a k o =
      let e = area-written s fits-second.region.ordered in
      record { fits = fits-written q s fits-second; reach = second_part w h (omega arith) b refl; some = a; above = k; falls = omega arith; opens = o }

  -- ---- a cut that fails: any other split by the cut is this one

  same-first : (p' s' : Region) → IsSplit q.inst r cut p' s' → p' ≡ p
  same-first p' s' h' = rounded-unique q.inst _ p' p h'.first h.first

  same-second : (p' s' : Region) → IsSplit q.inst r cut p' s' → s' ≡ s
  same-second p' s' h' = rounded-unique q.inst _ s' s h'.second h.second

  fails-bounds : (need x y : ℕ) → ((n : ℕ) → EllAll q.inst p n → n ≤ x) → ((n : ℕ) → EllAll q.inst s n → n ≤ y) → x + y < need → Fails q r need cut
  fails-bounds need x y a b w = λ p' s' h' u v m n c d.
      omega (arith, a m (subst (λ z. EllAll q.inst z m) (same-first p' s' h') c), b n (subst (λ z. EllAll q.inst z n) (same-second p' s' h') d), w)

  pub fails-by : (need x y : ℕ) → ((n : ℕ) → EllAll q.inst (written p) n → n ≤ x) → ((n : ℕ) → EllAll q.inst (written s) n → n ≤ y) → x + y < need → Fails q r need cut
  fails-by need x y a b w = fails-bounds need x y (λ n c. a n (number-written q.inst p n c)) (λ n c. b n (number-written q.inst s n c)) w

  pub fails-first : (need : ℕ) → area r ≤ area p → Fails q r need cut
  fails-first need w = λ p' s' h' u v m n c d. absurd (omega (arith, w, u, ap area (same-first p' s' h')))

  pub fails-second : (need : ℕ) → area r ≤ area s → Fails q r need cut
  fails-second need w = λ p' s' h' u v m n c d. absurd (omega (arith, w, v, ap area (same-second p' s' h')))

  pub fails-cells : (need : ℕ) → area p / (q.inst.long * q.inst.short) + area s / (q.inst.long * q.inst.short) < need → Fails q r need cut
  fails-cells need w = fails-bounds need _ _
      (λ n c. cells-bound q.inst p n fits-first.region.ordered c)
      (λ n c. cells-bound q.inst s n fits-second.region.ordered c) w

pub fails-cut : (q : Sides) (r : Region) (need : ℕ) (cut : Cut) → (IsCut r cut → ⊥) → Fails q r need cut
fails-cut q r need cut w = λ p' s' h' u v m n c d. absurd (w h'.lawful)
