-- The weight above after columns are raised, for a running weight.
use Rattle.std.proofs.Common.{◌≡◌, ℕ, zero, suc, ◌+◌, ◌-◌, ◌<◌, ◌≤◌, ◌⊎◌, inl, inr, List, length, get_or, arith, subst, sym, refl, ap}
use Rattle.std.specs.Prelude.{nat_le, if◌then◌else◌}
use Rattle.std.proofs.lemmas.Bool.{cases_lt}
use Rattle.std.proofs.lemmas.Bool.Decides.{nat_tests}
use Rattle.plan_geometry.specs.Weight.{sum_below, block_weight, total_weight}
use Rattle.cert_rules.specs.Corner.{weight_above}
use Rattle.cert_rules.specs.Corner.{raised}
use Rattle.plan_geometry.specs.declared.instances.Inst.{Inst}
use Rattle.cert_rules.proofs.Heights.{raised-below, raised-in, raised-above}

-- a sum is the sum without a part, and that part
pub sum_below-part :
    (n a k : ℕ) (f less d : ℕ → ℕ)
    → a + k ≤ n
    → ((j : ℕ) → j < n → (j < a) ⊎ (a + k ≤ j) → less j ≡ f j)
    → ((j : ℕ) → j < k → less (a + j) + d (a + j) ≡ f (a + j))
    → sum_below n less + sum_below k (λ j. d (a + j)) ≡ sum_below n f
sum_below-part zero a zero f less d fits outside inside = refl
sum_below-part zero a (suc k) f less d fits outside inside = absurd (omega arith)
sum_below-part (suc n) a zero f less d fits outside inside =
    let here : less n ≡ f n = outside n (omega arith) (side n a) in
    same n (λ j lt. outside j (omega arith) (side j a)) here
  where
    side : (j a : ℕ) → (j < a) ⊎ (a + 0 ≤ j)
    side j a = elim (cases_lt j a) [ inl l ↦ inl l | inr g ↦ inr (omega arith) ]

    all : (n : ℕ) → ((j : ℕ) → j < n → less j ≡ f j) → sum_below n less ≡ sum_below n f
    all zero e = refl
    all (suc m) e =
        let p : sum_below m less ≡ sum_below m f = all m (λ j l. e j (omega arith)) in
        let q : less m ≡ f m = e m (omega arith) in
        omega arith

    same : (n : ℕ) → ((j : ℕ) → j < n → less j ≡ f j) → less n ≡ f n → sum_below (suc n) less + 0 ≡ sum_below (suc n) f
    same n e h = let p : sum_below n less ≡ sum_below n f = all n e in omega arith
sum_below-part (suc n) a (suc k) f less d fits outside inside =
    elim (cases_lt (a + k) n) [
      | inl lt ↦
          let before : sum_below n less + sum_below (suc k) (λ j. d (a + j)) ≡ sum_below n f =
          sum_below-part n a (suc k) f less d (omega arith) (λ j l o. outside j (omega arith) o) inside in
          let here : less n ≡ f n = outside n (omega arith) (inr (omega arith)) in
          omega arith
      | inr ge ↦
          let e : a + k ≡ n = omega arith in
          let before : sum_below n less + sum_below k (λ j. d (a + j)) ≡ sum_below n f =
          sum_below-part n a k f less d (omega arith)
          (λ j l o. outside j (omega arith) (elim o [ inl x ↦ inl x | inr y ↦ absurd (omega arith) ]))
          (λ j l. inside j (omega arith)) in
          let here : less (a + k) + d (a + k) ≡ f (a + k) = inside k (omega arith) in
          let at_n : less n + d (a + k) ≡ f n = subst (λ (x : ℕ). less x + d (a + k) ≡ f x) e here in
          omega arith
    ]

-- the weight above falls by the weight of the block that is raised
pub above-raised :
    (i : Inst) (g : ℕ → ℕ → ℕ) (hs : List ℕ) (c n low v : ℕ)
    → length hs ≡ i.l_side
    → c + n ≤ i.l_side
    → low ≤ v
    → v ≤ i.w_side
    → ((k : ℕ) → c ≤ k → k < c + n → get_or hs k 0 ≡ low)
    → total_weight (weight_above g (raised hs c n v)) i + block_weight g c low n (v - low) ≡ total_weight (weight_above g hs) i
above-raised i g hs c n low v wide fits le high flat =
    sum_below-part i.l_side c n (λ x. sum_below i.w_side (λ y. weight_above g hs x y))
    (λ x. sum_below i.w_side (λ y. weight_above g (raised hs c n v) x y)) (λ x. sum_below (v - low) (λ k. g x (low + k))) fits
    (λ x lt out.
    ap (λ (h : ℕ). sum_below i.w_side (λ y. if nat_le h y then g x y else 0))
    (elim out [
      | inl before ↦ raised-below hs c n v x (omega arith) before
      | inr past ↦ raised-above hs c n v x (omega arith) past
    ]))
    (λ j lt.
    let new : get_or (raised hs c n v) (c + j) 0 ≡ v = raised-in hs c n v (c + j) (omega arith) (omega arith) (omega arith) in
    let old : get_or hs (c + j) 0 ≡ low = flat (c + j) (omega arith) (omega arith) in
    let column : sum_below i.w_side (λ y. if nat_le v y then g (c + j) y else 0) + sum_below (v - low) (λ k. g (c + j) (low + k))
    ≡ sum_below i.w_side (λ y. if nat_le low y then g (c + j) y else 0) =
    sum_below-part i.w_side low (v - low) (λ y. if nat_le low y then g (c + j) y else 0) (λ y. if nat_le v y then g (c + j) y else 0)
    (λ y. g (c + j) y) (omega arith)
    (λ y l out. elim out [ inl b ↦ both_below low v y (g (c + j) y) le b | inr p ↦ both_above low v y (g (c + j) y) le (omega arith) ])
    (λ k l. between low v (low + k) (g (c + j) (low + k)) (omega arith) (omega arith)) in
    subst (λ (h : ℕ). sum_below i.w_side (λ y. if nat_le h y then g (c + j) y else 0) + sum_below (v - low) (λ k. g (c + j) (low + k))
    ≡ sum_below i.w_side (λ y. weight_above g hs (c + j) y)) (sym new)
    (subst (λ (h : ℕ). sum_below i.w_side (λ y. if nat_le v y then g (c + j) y else 0) + sum_below (v - low) (λ k. g (c + j) (low + k))
    ≡ sum_below i.w_side (λ y. if nat_le h y then g (c + j) y else 0)) (sym old) column))
  where
    both_below : (low v y w : ℕ) → low ≤ v → y < low → (if nat_le v y then w else 0) ≡ (if nat_le low y then w else 0)
    both_below low v y w le lt = grind (arith, nat_tests)

    both_above : (low v y w : ℕ) → low ≤ v → v ≤ y → (if nat_le v y then w else 0) ≡ (if nat_le low y then w else 0)
    both_above low v y w le ge = grind (arith, nat_tests)

    between : (low v y w : ℕ) → low ≤ y → y < v → (if nat_le v y then w else 0) + w ≡ (if nat_le low y then w else 0)
    between low v y w a b = grind (arith, nat_tests)
