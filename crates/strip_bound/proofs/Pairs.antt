-- A pair of fewer cases meets what a pair of more cases meets.
use Rattle.std.proofs.Common.{◌≡◌, ℕ, ◌+◌, ◌-◌, ◌*◌, ◌<◌, ◌≤◌, inl, inr, List, length, get_or, arith, subst, sym, refl}
use Rattle.std.proofs.lemmas.Bool.{cases_lt}
use Rattle.std.proofs.Math.Nat.{mul-le-mul_left}
use Rattle.plan_geometry.specs.declared.instances.Inst.{Inst}
use Rattle.plan_geometry.specs.declared.spots.Axis.{Axis}
use Rattle.plan_geometry.specs.declared.spots.Axis.TheVariants.{X, Y}
use Rattle.weightings.specs.declared.certs.StripCut.{StripCut}
use Rattle.weightings.specs.declared.certs.StripCut.TheVariants.{Area, X as LinesOfX, Y as LinesOfY}
use Rattle.strip_cuts.specs.Cuts.{IsTrueCut, MeetsLines, Meets, AcceptsStrip}
use Rattle.plan_geometry.specs.Layout.{area_bound_of}
use Rattle.strip_bound.specs.Firsts.{AreTrue, MeetsAll, IsFirst, IsReached, IsStripBound, IsTable}
use Rattle.strip_bound.specs.CutLists.{AreCuts, IsStripBoundOf, IsStripOf}
use Rattle.strip_bound.specs.Kept.{StandsFor}
use Rattle.strip_bound.proofs.ListSteps.{cuts-true, cuts-some, cuts-first}

lines-less : (axis : Axis) (I : Inst) (a b q longs shorts p r : ℕ) → MeetsLines axis I a b q longs shorts → p ≤ longs → r ≤ shorts → MeetsLines axis I a b q p r
lines-less axis I a b q longs shorts p r m few less =
    let one : a * I.short * p ≤ a * I.short * longs = mul-le-mul_left (a * I.short) few in
    let two : b * I.long * r ≤ b * I.long * shorts = mul-le-mul_left (b * I.long) less in
    omega (arith, m)

pub meets-less : (I : Inst) (c : StripCut) (h v g u : ℕ) → Meets I c h v → g ≤ h → u ≤ v → Meets I c g u
meets-less I Area h v g u m p q = omega (arith, m)
meets-less I (LinesOfX a b n) h v g u m p q = lines-less X I a b n h v g u m p q
meets-less I (LinesOfY a b n) h v g u m p q = lines-less Y I a b n v h u g m q p

pub meets_all-less : (I : Inst) (cs : List StripCut) (h v g u : ℕ) → MeetsAll I cs h v → g ≤ h → u ≤ v → MeetsAll I cs g u
meets_all-less I cs h v g u m p q = λ k lt. meets-less I (get_or cs k Area) h v g u (m k lt) p q

-- the pair of a first cut does not meet all
pub not_all : (I : Inst) (cs : List StripCut) (h v : ℕ) (c : StripCut) → IsFirst I cs h v c → MeetsAll I cs h v → ⊥
not_all I cs h v c f m = f.unmet (subst (λ d. Meets I d h v) f.here (m f.place f.within))

-- a table bounds the pairs that meet each cut
pub table-most : (I : Inst) (cs t : List StripCut) (n : ℕ) → IsTable I cs n t → (h v : ℕ) → MeetsAll I cs h v → h + v ≤ n
table-most I cs t n table h v all =
    elim (cases_lt n (h + v)) [
      | inl more ↦
          elim (cases_lt h (n + 1)) [
            | inl less ↦
                absurd (not_all I cs h ((n + 1) - h) (get_or t h Area) (table.each h (omega arith)) (meets_all-less I cs h v h ((n + 1) - h) all (omega arith) (omega arith)))
            | inr above ↦
                absurd (not_all I cs (n + 1) ((n + 1) - (n + 1)) (get_or t (n + 1) Area) (table.each (n + 1) (omega arith))
                (meets_all-less I cs h v (n + 1) ((n + 1) - (n + 1)) all (omega arith) (omega arith)))
          ]
      | inr few ↦ few
    ]

-- no case meets every cut
pub none-meets : (I : Inst) (cs : List StripCut) → MeetsAll I cs 0 0
none-meets I cs = λ k lt. one I (get_or cs k Area)
  where
    one : (I : Inst) (c : StripCut) → Meets I c 0 0
    one I Area = omega arith
    one I (LinesOfX a b q) = omega arith
    one I (LinesOfY a b q) = omega arith

first-true : (I : Inst) (cs : List StripCut) (h v : ℕ) (c : StripCut) → AreTrue I cs → IsFirst I cs h v c → IsTrueCut I c
first-true I cs h v c all f = subst (λ d. IsTrueCut I d) f.here (all f.place f.within)

pub table-accepted : (I : Inst) (cs t : List StripCut) (n : ℕ) → AreTrue I cs → IsTable I cs n t → AcceptsStrip I n t
table-accepted I cs t n all table = record {
  count = table.count;
  each = λ h lt. record {
    is_true = first-true I cs h ((n + 1) - h) (get_or t h Area) all (table.each h lt);
    unmet = (table.each h lt).unmet;
  };
}

-- what is shown of the certificate of a list of kept cuts
pub record IsShown (I : Inst) (t : List StripCut) : Type 0 where
  pub certificate : IsStripOf I t
  pub accepted : AcceptsStrip I (length t - 2) t
  pub greatest : IsStripBoundOf I (length t - 2)

pub strip-is :
    (I : Inst) (cs kept slice t : List StripCut) (n : ℕ)
    → AreCuts I cs
    → StandsFor I cs kept
    → slice ≡ kept
    → IsStripBound I slice n
    → IsTable I slice n t
    → IsShown I t
strip-is I cs kept slice t n are_cuts stands same b table = record {
  certificate = record { cuts = cs; are_cuts = are_cuts; is_strip = record { bound = n; is_bound = bound; is_table = whole; accepted = accepted } };
  accepted = subst (λ m. AcceptsStrip I m t) less accepted;
  greatest = subst (λ m. IsStripBoundOf I m) less (record { cuts = cs; are_cuts = are_cuts; is_bound = bound });
}
  where
    s : StandsFor I cs slice
    s = subst (λ xs. StandsFor I cs xs) (sym same) stands

    less : n ≡ length t - 2
    less = omega (arith, table.count)

    whole : IsTable I cs n t
    whole = record { count = table.count; each = λ h lt. s.first h ((n + 1) - h) (get_or t h Area) (table.each h lt) }

    accepted : AcceptsStrip I n t
    accepted = table-accepted I cs t n (cuts-true I cs are_cuts) whole

    bound : IsStripBound I cs n
    bound = record {
      most = table-most I cs t n whole;
      reached = record { h = b.reached.h; v = b.reached.v; admitted = s.meets b.reached.h b.reached.v b.reached.admitted; reached = b.reached.reached };
    }

-- a pair that meets all cuts, of which the first is the area, has at most so many cases
area-meets :
    (I : Inst) (cs : List StripCut) (h v : ℕ)
    → 0 < length cs
    → get_or cs 0 Area ≡ Area
    → MeetsAll I cs h v
    → h + v ≤ area_bound_of I
area-meets I cs h v some e m = subst (λ c. Meets I c h v) e (m 0 some)

-- no pair of n + 1 cases with up to so many lying ones meets all cuts
abbrev pub ArePassed : Inst → List StripCut → ℕ → ℕ → Type 0
ArePassed I cs n h = (k : ℕ) → k < h → k ≤ n + 1 → MeetsAll I cs k ((n + 1) - k) → ⊥

pub passed-more :
    (I : Inst) (cs : List StripCut) (n m h : ℕ)
    → ArePassed I cs n h
    → n ≤ m
    → h ≤ n + 1
    → (MeetsAll I cs h ((m + 1) - h) → ⊥)
    → ArePassed I cs m (h + 1)
passed-more I cs n m h p le within here k lt few all =
    elim (cases_lt k h) [
      | inl less ↦ p k less (omega (arith, less, within)) (meets_all-less I cs k ((m + 1) - k) k ((n + 1) - k) all (omega arith) (omega (arith, le)))
      | inr last ↦
          let e : k ≡ h = omega (arith, lt, last) in
          here (subst (λ j. MeetsAll I cs j ((m + 1) - j)) e all)
    ]

pub passed-beyond : (I : Inst) (cs : List StripCut) (n h : ℕ) → ArePassed I cs n h → n + 1 < h → ArePassed I cs n (h + 1)
passed-beyond I cs n h p above k lt few all = p k (omega (arith, above, few)) few all

pub passed-most : (I : Inst) (cs : List StripCut) (n h : ℕ) → ArePassed I cs n h → n + 2 ≤ h → (g v : ℕ) → MeetsAll I cs g v → g + v ≤ n
passed-most I cs n h p enough g v all =
    elim (cases_lt n (g + v)) [
      | inl more ↦
          elim (cases_lt g (n + 1)) [
            | inl less ↦
                absurd (p g (omega (arith, less, enough)) (omega (arith, less)) (meets_all-less I cs g v g ((n + 1) - g) all (omega arith) (omega (arith, more))))
            | inr above ↦
                absurd (p (n + 1) (omega (arith, enough)) (omega arith) (meets_all-less I cs g v (n + 1) ((n + 1) - (n + 1)) all (omega (arith, above)) (omega arith)))
          ]
      | inr few ↦ few
    ]

pub reached-none : (I : Inst) (cs : List StripCut) → IsReached I cs 0
reached-none I cs = record { h = 0; v = 0; admitted = none-meets I cs; reached = refl }

pub kept-area :
    (I : Inst) (cs kept : List StripCut)
    → AreCuts I cs
    → StandsFor I cs kept
    → (h v : ℕ) → MeetsAll I kept h v → h + v ≤ area_bound_of I
kept-area I cs kept are_cuts s h v m = area-meets I cs h v (cuts-some I cs are_cuts) (cuts-first I cs are_cuts) (s.meets h v m)

pub reached-few : (I : Inst) (cs : List StripCut) (n : ℕ) → ((h v : ℕ) → MeetsAll I cs h v → h + v ≤ area_bound_of I) → IsReached I cs n → n ≤ area_bound_of I
reached-few I cs n area r = omega (arith, area r.h r.v r.admitted, r.reached)
