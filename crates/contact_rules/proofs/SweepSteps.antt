-- In a layer, whose cases are in the order of y, the cases that share area with a case stand together.
use Rattle.std.proofs.Common.{◌≡◌, ℕ, ◌+◌, ◌-◌, ◌*◌, ◌<◌, ◌≤◌, List, length, get_or, take, drop, ap, subst, ◌∙◌, inl, inr, arith, length-take, length-drop, get_or-take}
use Rattle.std.specs.List.{All, AllWithin, sum_by}
use Rattle.std.proofs.lemmas.Bool.{cases_order}
use Rattle.std.proofs.lemmas.List.{get_or-drop}
use Rattle.std.proofs.lemmas.List.Sums.{sum_by-le, sum_by-take-drop}
use Rattle.plan_geometry.specs.declared.spots.Axis.TheVariants.{X, Y}
use Rattle.plan_geometry.specs.declared.spots.Way.{Way}
use Rattle.plan_geometry.specs.declared.spots.Way.TheVariants.{Lying, Standing}
use Rattle.plan_geometry.specs.declared.spots.Spot.{Spot}
use Rattle.plan_geometry.specs.declared.instances.Inst.{Inst}
use Rattle.plan_geometry.specs.Layout.{y_extent, IsInside, IsInOrder}
use Rattle.contact_rules.specs.Real.{IsGapOf, real_finish}
use Rattle.contact_rules.specs.Shared.{shared}
use Rattle.contact_rules.specs.Steps.{overlap, IsFirstNear, IsFirstBehind}
use Rattle.contact_rules.proofs.CellSteps.{shared-product}

-- ---- the order of y

pub in_order-y : (xs : List Spot) (i j : ℕ) (d : Spot) → IsInOrder xs → i ≤ j → j < length xs → (get_or xs i d).y ≤ (get_or xs j d).y
in_order-y xs i j d order le lt =
    elim (cases_order i j) [
      | inl e ↦ let z : (get_or xs i d).y ≡ (get_or xs j d).y = ap (λ k. (get_or xs k d).y) e in omega arith
      | inr o ↦
          elim o [
            | inl l ↦ elim (order i j d l lt) [ inl a ↦ omega arith | inr a ↦ omega (arith, a.0) ]
            | inr l ↦ absurd (omega arith)
          ]
    ]

-- ---- which cases share nothing

extent-long : (I : Inst) (w : Way) → y_extent I w ≤ I.long
extent-long I Lying = I.sides.ordered
extent-long I Standing = omega arith

none-shared : (I : Inst) (g : ℕ) (s t : Spot) → IsGapOf I g → IsInside I s → overlap Y I g s t ≡ 0 → shared I g s t ≡ 0
none-shared I g s t gap i e =
    shared-product I g s t gap i ∙ (ap (λ n. overlap X I g s t * n) e ∙ omega arith)

pub none-before : (I : Inst) (g : ℕ) (s t : Spot) → IsGapOf I g → IsInside I s → t.y + (I.long - g) ≤ s.y → shared I g s t ≡ 0
none-before I g s t gap i le =
    none-shared I g s t gap i (omega (arith, extent-long I t.way))

pub none-after : (I : Inst) (g : ℕ) (s t : Spot) → IsGapOf I g → IsInside I s → real_finish Y I g s ≤ t.y → shared I g s t ≡ 0
none-after I g s t gap i le = none-shared I g s t gap i (omega arith)

-- ---- sums in which all else is nothing

sum-none : (w : Spot → ℕ) (xs : List Spot) → All (λ t. w t ≡ 0) xs → sum_by w xs ≡ 0
sum-none w xs h =
    let z : sum_by w xs ≤ length xs * 0 = sum_by-le w 0 xs (λ k d lt. let e : w (get_or xs k d) ≡ 0 = h k d lt in omega arith) in
    omega arith

-- a sum begins where the elements begin to count
sum-starts : (w : Spot → ℕ) (xs : List Spot) (n : ℕ) → n ≤ length xs → AllWithin (λ t. w t ≡ 0) xs 0 n → sum_by w (take n xs) ≡ 0
sum-starts w xs n le h =
    sum-none w (take n xs) (λ k d lt. let l : k < n = omega (arith, length-take n xs) in rw (get_or-take n xs k d l) (h k d (omega arith) l))

-- a sum ends where they count no more
sum-stops : (w : Spot → ℕ) (xs : List Spot) (n : ℕ) → AllWithin (λ t. w t ≡ 0) xs n (length xs) → sum_by w (take n xs) ≡ sum_by w xs
sum-stops w xs n h =
    let rest : sum_by w (drop n xs) ≡ 0 = sum-none w (drop n xs) (λ k d lt. rw (get_or-drop n xs k d) (h (n + k) d (omega arith) (omega (arith, length-drop n xs)))) in
    omega (arith, sum_by-take-drop w xs n)

-- nothing is shared with the cases before the first near one
pub sweep-starts : (I : Inst) (g : ℕ) (s : Spot) (xs : List Spot) (first : ℕ) (w : ℕ → ℕ) → IsGapOf I g → IsInside I s → IsFirstNear xs (I.long - g) s.y first → w 0 ≡ 0 → sum_by (λ (t : Spot). w (shared I g s t)) (take first xs) ≡ 0
sweep-starts I g s xs first w gap i near zero =
    sum-starts (λ t. w (shared I g s t)) xs first near.within (λ k d le lt. ap w (none-before I g s (get_or xs k d) gap i (near.before k d le lt)) ∙ zero)

-- nothing is shared with the cases that begin after the case
pub sweep-stops : (I : Inst) (g : ℕ) (s : Spot) (xs : List Spot) (last n : ℕ) (w : ℕ → ℕ) → IsGapOf I g → IsInside I s → IsFirstBehind xs (real_finish Y I g s) last → last ≤ n → w 0 ≡ 0 → sum_by (λ (t : Spot). w (shared I g s t)) (take n xs) ≡ sum_by (λ (t : Spot). w (shared I g s t)) xs
sweep-stops I g s xs last n w gap i behind le zero =
    sum-stops (λ t. w (shared I g s t)) xs n (λ k d from lt. ap w (none-after I g s (get_or xs k d) gap i (behind.from k d (omega arith) lt)) ∙ zero)

-- ---- what was read of a layer is what the layer has

pub near-read : (I K : Inst) (g row first : ℕ) (read xs : List Spot) → I ≡ K → read ≡ xs → IsFirstNear read (I.long - g) row first → IsFirstNear xs (K.long - g) row first
near-read I K g row first read xs e f h =
    subst (λ (l : List Spot). IsFirstNear l (K.long - g) row first) f (subst (λ (J : Inst). IsFirstNear read (J.long - g) row first) e h)

pub behind-read : (I K : Inst) (g : ℕ) (s : Spot) (end last : ℕ) (read xs : List Spot) → I ≡ K → read ≡ xs → end ≡ real_finish Y I g s → IsFirstBehind read end last → IsFirstBehind xs (real_finish Y K g s) last
behind-read I K g s end last read xs e f is h =
    subst (λ (l : List Spot). IsFirstBehind l (real_finish Y K g s) last) f (subst (λ (J : Inst). IsFirstBehind read (real_finish Y J g s) last) e (subst (λ n. IsFirstBehind read n last) is h))
