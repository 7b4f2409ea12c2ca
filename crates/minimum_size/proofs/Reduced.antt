use Rattle.std.proofs.Common.{◌≡◌, ℕ, ◌≤◌, ◌<◌, inl, inr, sym, subst, arith}
use Rattle.std.proofs.lemmas.Bool.{cases_order}
use Rattle.plan_geometry.specs.declared.instances.Inst.{Inst}
use Rattle.plan_geometry.specs.Layout.{side, CaseFits}
use Rattle.plan_geometry.proofs.Same.{Inst-same}
use Rattle.partitions.specs.Partitions.{SamePairs, SameSides}
use Rattle.minimum_size.specs.LeastSide.{IsLeastSide}
use Rattle.minimum_size.proofs.LeastSides.{least_side_same}
use Rattle.minimum_size.specs.Reduced.{StandsFor, IsReduced}

pub short_fits_x : (inst : Inst) → CaseFits inst → inst.short ≤ inst.l_side
short_fits_x inst (inl h) = let o = inst.sides.ordered in omega (arith, o, h.0)
short_fits_x inst (inr h) = h.0

pub short_fits_y : (inst : Inst) → CaseFits inst → inst.short ≤ inst.w_side
short_fits_y inst (inl h) = h.1
short_fits_y inst (inr h) = let o = inst.sides.ordered in omega (arith, o, h.1)

pub least_positive_x : (inst : Inst) (long short least : ℕ) → 1 ≤ short → CaseFits inst
    → IsLeastSide inst.l_side inst.long inst.short long short least → 1 ≤ least
least_positive_x inst long short least pos fits l =
    let f = short_fits_x inst fits in
    let c = l.covers 0 1 (omega (arith, f)) in omega (arith, c)

pub least_positive_y : (inst : Inst) (long short least : ℕ) → 1 ≤ short → CaseFits inst
    → IsLeastSide inst.w_side inst.long inst.short long short least → 1 ≤ least
least_positive_y inst long short least pos fits l =
    let f = short_fits_y inst fits in
    let c = l.covers 0 1 (omega (arith, f)) in omega (arith, c)

-- an instance with given case sides and the least sides
pub record Shrunk (inst small : Inst) : Type 0 where
  pub x_side : IsLeastSide inst.l_side inst.long inst.short small.long small.short small.l_side
  pub y_side : IsLeastSide inst.w_side inst.long inst.short small.long small.short small.w_side

pub same_pairs_at : (side long short other a b c d : ℕ) → a ≡ c → b ≡ d
    → SamePairs side long short other a b → SamePairs side long short other c d
same_pairs_at side long short other a b c d e f same =
    let P : ℕ → Type 0 = λ n. SamePairs side long short other n b in
    let Q : ℕ → Type 0 = λ n. SamePairs side long short other c n in
    subst Q f (subst P e same)

pub shrunk_serves : (inst small other : Inst) → Shrunk inst small → StandsFor inst other
    → other.long ≡ small.long → other.short ≡ small.short
    → SameSides inst small × (small.l_side ≤ other.l_side) × (small.w_side ≤ other.w_side)
shrunk_serves inst small other s h e f =
    let x = least_side_same inst.l_side inst.long inst.short other.l_side small.l_side small.long small.short s.x_side
    (same_pairs_at inst.l_side inst.long inst.short other.l_side other.long other.short small.long small.short e f h.same.along_x) in
    let y = least_side_same inst.w_side inst.long inst.short other.w_side small.w_side small.long small.short s.y_side
    (same_pairs_at inst.w_side inst.long inst.short other.w_side other.long other.short small.long small.short e f h.same.along_y) in
    (record { along_x = x.0; along_y = y.0 }, x.1, y.1)

pub shrunk_from : (inst small : Inst) (long short : ℕ) → small.long ≡ long → small.short ≡ short
    → IsLeastSide inst.l_side inst.long inst.short long short small.l_side
    → IsLeastSide inst.w_side inst.long inst.short long short small.w_side → Shrunk inst small
shrunk_from inst small long short e f x y = record {
  x_side = subst (λ n. IsLeastSide inst.l_side inst.long inst.short small.long n small.l_side) (sym f)
      (subst (λ n. IsLeastSide inst.l_side inst.long inst.short n short small.l_side) (sym e) x);
  y_side = subst (λ n. IsLeastSide inst.w_side inst.long inst.short small.long n small.w_side) (sym f)
      (subst (λ n. IsLeastSide inst.w_side inst.long inst.short n short small.w_side) (sym e) y);
}

-- numbers of which neither is smaller
pub neither_smaller : (a b : ℕ) → ¬ (a < b) → ¬ (b < a) → a ≡ b
neither_smaller a b p q = elim (cases_order a b) [
  | inl e ↦ e
  | inr o ↦ elim o [ inl h ↦ absurd (p h) | inr h ↦ absurd (q h) ]
]

-- there is one reduced instance
pub least_unique : (given a b : Inst) → IsReduced given a → IsReduced given b
    → (a.long ≡ b.long) × (a.short ≡ b.short) × (a.l_side ≡ b.l_side) × (a.w_side ≡ b.w_side)
least_unique given a b la lb =
    let long = neither_smaller a.long b.long (λ h. lb.least a la.stands (inl h)) (λ h. la.least b lb.stands (inl h)) in
    let short = neither_smaller a.short b.short (λ h. lb.least a la.stands (inr (inl (long, h)))) (λ h. la.least b lb.stands (inr (inl (sym long, h)))) in
    let l = neither_smaller a.l_side b.l_side (λ h. lb.least a la.stands (inr (inr (inl (long, short, h))))) (λ h. la.least b lb.stands (inr (inr (inl (sym long, sym short, h))))) in
    let w = neither_smaller a.w_side b.w_side (λ h. lb.least a la.stands (inr (inr (inr (long, short, l, h))))) (λ h. la.least b lb.stands (inr (inr (inr (sym long, sym short, sym l, h))))) in
    (long, short, l, w)

pub least_same : (given a b : Inst) → IsReduced given a → IsReduced given b → a ≡ b
least_same given a b la lb = let e = least_unique given a b la lb in Inst-same a b e.2 e.3 e.0 e.1
