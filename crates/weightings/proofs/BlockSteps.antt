-- The least weight of a block whose corner is one of some.
use Rattle.std.proofs.Common.{◌≡◌, ℕ, ◌+◌, ◌≤◌, ◌⊎◌, min, ap, ◌∙◌, refl, inl, inr, arith}
use Rattle.std.proofs.lemmas.Bool.{cases_lt}
use Rattle.plan_geometry.specs.declared.spots.Way.{Way}
use Rattle.plan_geometry.specs.declared.instances.Inst.{Inst}
use Rattle.plan_geometry.specs.Layout.{x_extent, y_extent}
use Rattle.plan_geometry.specs.Weight.{block_weight}
use Rattle.weightings.specs.Sums.{IsLeastBlock}
use Rattle.weightings.specs.Weighting.{IsLeastOfWay}

pub least-one : (g : ℕ → ℕ → ℕ) (a b x y : ℕ) (P : ℕ → ℕ → Type 0) → P x y → ((u v : ℕ) → P u v → (u ≡ x) × (v ≡ y)) → IsLeastBlock g a b P (block_weight g x y a b)
least-one g a b x y P p only =
    record {
      bound = λ u v q.
          let e = only u v q in
          let f : block_weight g u v a b ≡ block_weight g x y a b = ap (λ n. block_weight g n v a b) e.0 ∙ ap (λ n. block_weight g x n a b) e.1 in
          omega arith;
      x = x;
      y = y;
      corner = p;
      reached = refl;
    }

pub least-join : (g : ℕ → ℕ → ℕ) (a b q r : ℕ) (P Q R : ℕ → ℕ → Type 0) → IsLeastBlock g a b P q → IsLeastBlock g a b Q r → ((u v : ℕ) → R u v → P u v ⊎ Q u v) → ((u v : ℕ) → P u v → R u v) → ((u v : ℕ) → Q u v → R u v) → IsLeastBlock g a b R (min q r)
least-join g a b q r P Q R h k part left right =
    let low : (u v : ℕ) → R u v → min q r ≤ block_weight g u v a b = λ u v m.
    elim (part u v m) [ inl s ↦ omega (arith, h.bound u v s) | inr s ↦ omega (arith, k.bound u v s) ] in
    elim (cases_lt q r) [
      | inl l ↦ record { bound = low; x = h.x; y = h.y; corner = left h.x h.y h.corner; reached = omega (arith, h.reached) }
      | inr l ↦ record { bound = low; x = k.x; y = k.y; corner = right k.x k.y k.corner; reached = omega (arith, k.reached) }
    ]

pub least-same : (g : ℕ → ℕ → ℕ) (a b q : ℕ) (P R : ℕ → ℕ → Type 0) → IsLeastBlock g a b P q → ((u v : ℕ) → R u v → P u v) → ((u v : ℕ) → P u v → R u v) → IsLeastBlock g a b R q
least-same g a b q P R h back forth =
    record {
      bound = λ u v m. h.bound u v (back u v m);
      x = h.x;
      y = h.y;
      corner = forth h.x h.y h.corner;
      reached = h.reached;
    }

-- the least block of a case's extents is the least weight of a case of this way
pub IsLeastOfWay-block : (I : Inst) (g : ℕ → ℕ → ℕ) (w : Way) (q : ℕ) → IsLeastBlock g (x_extent I w) (y_extent I w) (λ u v. (u + x_extent I w ≤ I.l_side) × (v + y_extent I w ≤ I.w_side)) q → IsLeastOfWay I g w q
IsLeastOfWay-block I g w q h =
    record {
      bound = λ s ins e.
          let in_x : s.x + x_extent I w ≤ I.l_side = rw e at ins.in_x in
          let in_y : s.y + y_extent I w ≤ I.w_side = rw e at ins.in_y in
          rw e (h.bound s.x s.y (in_x, in_y));
      x = h.x;
      y = h.y;
      inside = record { in_x = h.corner.0; in_y = h.corner.1 };
      reached = h.reached;
    }
