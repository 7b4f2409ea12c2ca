-- The cuts of a region, tried one after another.
use Rattle.std.proofs.Common.{◌≡◌, ℕ, Bool, ◌+◌, ◌-◌, ◌≤◌, ◌<◌, true, false, refl, ap, sym, ◌∙◌, subst, arith, inl, inr}
use Rattle.std.proofs.lemmas.Bool.{cases_lt}
use Rattle.block_tree.specs.declared.regions.Region.{Region}
use Rattle.block_tree.specs.declared.regions.Cut.{Cut}
use Rattle.block_tree.specs.Regions.{side_x, side_y}
use Rattle.block_tree.specs.Trees.{uniform}
use Rattle.l_patterns.specs.declared.sides.Sides.{Sides}
use Rattle.l_patterns.specs.declared.trying.Frame.{Frame}
use Rattle.l_patterns.specs.Ells.{EllAll}
use Rattle.l_patterns.specs.Cuts.{AreSidesOf, cut_count, nth_k3, nth_k4, IsNth, by_k1, by_k2, by_k3, by_k4}
use Rattle.l_patterns.specs.Keys.{base}
use Rattle.l_patterns.specs.States.{Fails, Tried, IsFrame}
use Rattle.l_patterns.proofs.EllLemmas.{bounded}
use Rattle.l_patterns.proofs.NumberLemmas.{indexed}

true-false : (b : Bool) → b ≡ true → b ≡ false → ⊥
true-false b h k = cc

nth-unique : (q : Sides) (r : Region) (k : ℕ) (a b : Cut) → IsNth q r k a → IsNth q r k b → a ≡ b
nth-unique q r k a b (by_k1 h e) (by_k1 h' e') = e ∙ sym e'
nth-unique q r k a b (by_k1 h e) (by_k2 h' w e') = absurd (true-false _ h h')
nth-unique q r k a b (by_k1 h e) (by_k3 j h' w v e') = absurd (true-false _ h h')
nth-unique q r k a b (by_k1 h e) (by_k4 j h' w e') = absurd (true-false _ h h')
nth-unique q r k a b (by_k2 h w e) (by_k1 h' e') = absurd (true-false _ h' h)
nth-unique q r k a b (by_k2 h w e) (by_k2 h' w' e') = e ∙ sym e'
nth-unique q r k a b (by_k2 h w e) (by_k3 j h' w' v' e') = absurd (omega arith)
nth-unique q r k a b (by_k2 h w e) (by_k4 j h' w' e') = absurd (omega arith)
nth-unique q r k a b (by_k3 j h w v e) (by_k1 h' e') = absurd (true-false _ h' h)
nth-unique q r k a b (by_k3 j h w v e) (by_k2 h' w' e') = absurd (omega arith)
nth-unique q r k a b (by_k3 j h w v e) (by_k3 j' h' w' v' e') = let same : j ≡ j' = omega arith in e ∙ (ap (nth_k3 q r) same ∙ sym e')
nth-unique q r k a b (by_k3 j h w v e) (by_k4 j' h' w' e') = absurd (omega arith)
nth-unique q r k a b (by_k4 j h w e) (by_k1 h' e') = absurd (true-false _ h' h)
nth-unique q r k a b (by_k4 j h w e) (by_k2 h' w' e') = absurd (omega arith)
nth-unique q r k a b (by_k4 j h w e) (by_k3 j' h' w' v' e') = absurd (omega arith)
nth-unique q r k a b (by_k4 j h w e) (by_k4 j' h' w' e') = let same : j ≡ j' = omega arith in e ∙ (ap (nth_k4 q r) same ∙ sym e')

pub tried-more : (q : Sides) (r : Region) (need k : ℕ) (cut : Cut) → Tried q r need k → IsNth q r k cut → Fails q r need cut → Tried q r need (k + 1)
tried-more q r need k cut t h f = λ j w c n. elim (cases_lt j k) [
  | inl v ↦ t j v c n
  | inr v ↦ let e : j ≡ k = omega arith in
      subst (λ z. Fails q r need z) (nth-unique q r k cut c h (subst (λ z. IsNth q r z c) e n)) f
]

-- where all cuts were tried, no number gives what is wanted
pub failed : (q : Sides) → AreSidesOf q → (f : Frame) → IsFrame q f → (upto : ℕ) → cut_count q f.region ≤ upto → Tried q f.region f.need upto
    → (n : ℕ) → EllAll q.inst f.region n → n < f.need
failed q g f h upto w t n a =
    let r = f.region in
    let above = h.above in
    let k = bounded q.inst r h.fits.region h.some (f.need - 1)
    (λ e. let b : base q.inst r ≡ uniform q.inst (side_x r) (side_y r) = rw e refl in
    omega (arith, above, b))
    (λ cut p s d u v x y c1 c2. let i = indexed q r g h.fits cut d.lawful d.normal in
    omega (arith, t i.0 (omega (arith, i.1, w)) cut i.2 p s d u v x y c1 c2)) a (inl refl) in
    omega (arith, k, above)
