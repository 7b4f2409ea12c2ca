-- The first member of the family with the least bound.
use Rattle.std.proofs.Common.{◌≡◌, ◌≢◌, ℕ, ◌+◌, ◌*◌, ◌/◌, ◌<◌, ◌≤◌, ◌⊎◌, true, false, cond, eqb, sym, ap, subst, ◌∙◌, refl, inl, inr, arith}
use Rattle.std.proofs.lemmas.Bool.{cases_lt, cases_eq, eq-eqb, ne_eqb}
use Rattle.std.proofs.lemmas.Nat.{mul-add-lt, same_from_place, mul-le}
use Rattle.plan_geometry.specs.declared.instances.Inst.{Inst}
use Rattle.plan_geometry.specs.Layout.{area_bound_of, CaseFits}
use Rattle.plan_geometry.specs.Weight.{total_weight}
use Rattle.plan_geometry.proofs.Counting.{total_weight-one}
use Rattle.weightings.specs.declared.kinds.Weighting.{Weighting}
use Rattle.weightings.specs.declared.kinds.Weighting.TheVariants.{Area, Colour, Comb, Table, Lines}
use Rattle.weightings.specs.Weighting.{weight_of, IsMember, IsLawfulWeighting, IsCaseSide, IsLeastWeight, IsWeightBound}
use Rattle.weightings.specs.Lead.{place_of, IsLead, IsBestBefore}
use Rattle.weightings.proofs.WeightSteps.{IsLeastWeight-area}

-- ---- one value

pub IsLeastWeight-unique : (I : Inst) (g : ℕ → ℕ → ℕ) (q r : ℕ) → IsLeastWeight I g q → IsLeastWeight I g r → q ≡ r
IsLeastWeight-unique I g q r h k =
    omega (arith, h.bound k.spot k.inside k.lawful, k.reached, k.bound h.spot h.inside h.lawful, h.reached)

pub IsWeightBound-unique : (I : Inst) (g : ℕ → ℕ → ℕ) (m n : ℕ) → IsWeightBound I g m → IsWeightBound I g n → m ≡ n
IsWeightBound-unique I g m n h k =
    h.value ∙ ap (λ q. total_weight g I / q) (IsLeastWeight-unique I g h.least k.least h.is_least k.is_least) ∙ sym k.value

-- ---- places

pub side-cases : (I : Inst) (k : ℕ) → IsCaseSide I k → ((k ≡ I.long) × (eqb k I.long ≡ true)) ⊎ ((k ≡ I.short) × (k ≢ I.long) × (eqb k I.long ≡ false))
side-cases I k h =
    elim (cases_eq k I.long) [
      | inl e ↦ inl (e, eq-eqb k I.long e)
      | inr n ↦ inr (elim h [ inl e ↦ absurd (n e) | inr e ↦ (e, n, ne_eqb k I.long n) ])
    ]

-- the place of a comb among those of its p
abbrev pub row_place : Inst → ℕ → ℕ → ℕ → ℕ → ℕ
row_place I p a r b = cond (eqb r I.long) 0 (p * I.long) + a * r + b

row_place-lt : (I : Inst) (p a r b : ℕ) → a < p → IsCaseSide I r → b < r → row_place I p a r b < p * (I.long + I.short)
row_place-lt I p a r b h side k =
    let lt : a * r + b < r * p = mul-add-lt a r b p h k in
    elim (side-cases I r side) [
      | inl e ↦ let f : r * p ≡ I.long * p = ap (λ n. n * p) e.0 in rw e.1 (omega arith)
      | inr e ↦ let f : r * p ≡ I.short * p = ap (λ n. n * p) e.0 in rw e.2 (omega arith)
    ]

row_place-same : (I : Inst) (p a r b c s d : ℕ) → a < p → c < p → IsCaseSide I r → IsCaseSide I s → b < r → d < s → row_place I p a r b ≡ row_place I p c s d → (r ≡ s) × (a ≡ c) × (b ≡ d)
row_place-same I p a r b c s d h k side other i j e =
    let lt : a * r + b < r * p = mul-add-lt a r b p h i in
    let lt2 : c * s + d < s * p = mul-add-lt c s d p k j in
    elim (side-cases I r side) [
      | inl x ↦
          elim (side-cases I s other) [
            | inl y ↦
                let same : r ≡ s = x.0 ∙ sym y.0 in
                let e2 : 0 + a * r + b ≡ 0 + c * s + d = rw (x.1, y.1) at e in
                let f : c * s ≡ c * r = ap (λ n. c * n) (sym same) in
                let t : (a ≡ c) × (b ≡ d) = same_from_place a b c d r i (omega arith) (omega arith) in
                (same, t.0, t.1)
            | inr y ↦
                let e2 : 0 + a * r + b ≡ p * I.long + c * s + d = rw (x.1, y.2) at e in
                let f : r * p ≡ I.long * p = ap (λ n. n * p) x.0 in
                absurd (omega arith)
          ]
      | inr x ↦
          elim (side-cases I s other) [
            | inl y ↦
                let e2 : p * I.long + a * r + b ≡ 0 + c * s + d = rw (x.2, y.1) at e in
                let f : s * p ≡ I.long * p = ap (λ n. n * p) y.0 in
                absurd (omega arith)
            | inr y ↦
                let same : r ≡ s = x.0 ∙ sym y.0 in
                let e2 : p * I.long + a * r + b ≡ p * I.long + c * s + d = rw (x.2, y.2) at e in
                let f : c * s ≡ c * r = ap (λ n. c * n) (sym same) in
                let t : (a ≡ c) × (b ≡ d) = same_from_place a b c d r i (omega arith) (omega arith) in
                (same, t.0, t.1)
          ]
    ]

-- the place of a comb is that of its p, and its place among those
pub place_of-comb : (I : Inst) (p a r b : ℕ) → place_of I (Comb p a r b) ≡ 1 + I.long + I.short + cond (eqb p I.long) 0 (I.long * (I.long + I.short)) + row_place I p a r b
place_of-comb I p a r b = omega arith

comb-same : (I : Inst) (p a r b q c s d : ℕ) → IsMember I (Comb p a r b) → IsMember I (Comb q c s d) → place_of I (Comb p a r b) ≡ place_of I (Comb q c s d) → Comb p a r b ≡ Comb q c s d
comb-same I p a r b q c s d g h e =
    let lt : row_place I p a r b < p * (I.long + I.short) = row_place-lt I p a r b g.1 g.2 g.3 in
    let lt2 : row_place I q c s d < q * (I.long + I.short) = row_place-lt I q c s d h.1 h.2 h.3 in
    let e2 : cond (eqb p I.long) 0 (I.long * (I.long + I.short)) + row_place I p a r b ≡ cond (eqb q I.long) 0 (I.long * (I.long + I.short)) + row_place I q c s d = omega (arith, place_of-comb I p a r b, place_of-comb I q c s d) in
    let P : ℕ = I.long * (I.long + I.short) in
    let same : p ≡ q =
    elim (side-cases I p g.0) [
      | inl x ↦
          elim (side-cases I q h.0) [
            | inl y ↦ x.0 ∙ sym y.0
            | inr y ↦
                let e3 : 0 + row_place I p a r b ≡ I.long * (I.long + I.short) + row_place I q c s d = rw (x.1, y.2) at e2 in
                let f : p * (I.long + I.short) ≡ I.long * (I.long + I.short) = ap (λ n. n * (I.long + I.short)) x.0 in
                absurd (omega arith)
          ]
      | inr x ↦
          elim (side-cases I q h.0) [
            | inl y ↦
                let e3 : I.long * (I.long + I.short) + row_place I p a r b ≡ 0 + row_place I q c s d = rw (x.2, y.1) at e2 in
                let f : q * (I.long + I.short) ≡ I.long * (I.long + I.short) = ap (λ n. n * (I.long + I.short)) y.0 in
                absurd (omega arith)
            | inr y ↦ x.0 ∙ sym y.0
          ]
    ] in
    let low : cond (eqb p I.long) 0 (I.long * (I.long + I.short)) ≡ cond (eqb q I.long) 0 (I.long * (I.long + I.short)) = ap (λ n. cond (eqb n I.long) 0 (I.long * (I.long + I.short))) same in
    let row : row_place I q c s d ≡ row_place I p c s d = ap (λ n. row_place I n c s d) (sym same) in
    let t : (r ≡ s) × (a ≡ c) × (b ≡ d) = row_place-same I p a r b c s d g.1 (omega (arith, h.1)) g.2 h.2 g.3 h.3 (omega arith) in
    let u = t.0 in
    let v = t.1 in
    let w = t.2 in
    cc

colour-lt : (I : Inst) (k c : ℕ) → IsMember I (Colour k c) → place_of I (Colour k c) < 1 + I.long + I.short
colour-lt I k c g =
    elim (side-cases I k g.0) [
      | inl x ↦ rw x.1 (omega (arith, g.1, x.0))
      | inr x ↦ rw x.2 (omega (arith, g.1, x.0))
    ]

colour-same : (I : Inst) (k c l d : ℕ) → IsMember I (Colour k c) → IsMember I (Colour l d) → place_of I (Colour k c) ≡ place_of I (Colour l d) → Colour k c ≡ Colour l d
colour-same I k c l d g h e =
    elim (side-cases I k g.0) [
      | inl x ↦
          elim (side-cases I l h.0) [
            | inl y ↦
                let e2 : 1 + 0 + c ≡ 1 + 0 + d = rw (x.1, y.1) at e in
                let f : k ≡ l = x.0 ∙ sym y.0 in
                let f2 : c ≡ d = omega arith in
                cc
            | inr y ↦
                let e2 : 1 + 0 + c ≡ 1 + I.long + d = rw (x.1, y.2) at e in
                absurd (omega (arith, g.1, x.0))
          ]
      | inr x ↦
          elim (side-cases I l h.0) [
            | inl y ↦
                let e2 : 1 + I.long + c ≡ 1 + 0 + d = rw (x.2, y.1) at e in
                absurd (omega (arith, h.1, y.0))
            | inr y ↦
                let e2 : 1 + I.long + c ≡ 1 + I.long + d = rw (x.2, y.2) at e in
                let f : k ≡ l = x.0 ∙ sym y.0 in
                let f2 : c ≡ d = omega arith in
                cc
          ]
    ]

-- no two members have one place
pub place-same : (I : Inst) (g h : Weighting) → IsMember I g → IsMember I h → place_of I g ≡ place_of I h → g ≡ h
place-same I Area Area g h e = refl
place-same I Area (Colour l d) g h e = absurd (omega arith)
place-same I Area (Comb q c s d) g h e = absurd (omega arith)
place-same I (Colour k c) Area g h e = absurd (omega arith)
place-same I (Colour k c) (Colour l d) g h e = colour-same I k c l d g h e
place-same I (Colour k c) (Comb q a s d) g h e = absurd (omega (arith, colour-lt I k c g))
place-same I (Comb p a r b) Area g h e = absurd (omega arith)
place-same I (Comb p a r b) (Colour l d) g h e = absurd (omega (arith, colour-lt I l d h))
place-same I (Comb p a r b) (Comb q c s d) g h e = comb-same I p a r b q c s d g h e
place-same I (Table t) h g m e = absurd g
place-same I (Lines t) h g m e = absurd g
place-same I Area (Table t) g h e = absurd h
place-same I Area (Lines t) g h e = absurd h
place-same I (Colour k c) (Table t) g h e = absurd h
place-same I (Colour k c) (Lines t) g h e = absurd h
place-same I (Comb p a r b) (Table t) g h e = absurd h
place-same I (Comb p a r b) (Lines t) g h e = absurd h

-- ---- one more member

pub best-takes : (I : Inst) (g next : Weighting) (b n : ℕ) → IsBestBefore I g b (place_of I next) → IsMember I next → IsWeightBound I (weight_of next) n → n < b → IsBestBefore I next n (place_of I next + 1)
best-takes I g next b n best m k l =
    record {
      member = m;
      is_bound = k;
      before = omega arith;
      first = λ h n' mh kh p.
          elim (cases_lt (place_of I h) (place_of I next)) [
            | inl q ↦ elim (best.first h n' mh kh q) [ inl x ↦ inl (omega arith) | inr x ↦ inl (omega (arith, x.0)) ]
            | inr q ↦
                let same : h ≡ next = place-same I h next mh m (omega arith) in
                let kh' : IsWeightBound I (weight_of next) n' = rw same at kh in
                inr (IsWeightBound-unique I (weight_of next) n n' k kh', omega arith)
          ];
    }

pub best-keeps : (I : Inst) (g next : Weighting) (b n : ℕ) → IsBestBefore I g b (place_of I next) → IsMember I next → IsWeightBound I (weight_of next) n → b ≤ n → IsBestBefore I g b (place_of I next + 1)
best-keeps I g next b n best m k l =
    record {
      member = best.member;
      is_bound = best.is_bound;
      before = omega (arith, best.before);
      first = λ h n' mh kh p.
          elim (cases_lt (place_of I h) (place_of I next)) [
            | inl q ↦ best.first h n' mh kh q
            | inr q ↦
                let same : h ≡ next = place-same I h next mh m (omega arith) in
                let kh' : IsWeightBound I (weight_of next) n' = rw same at kh in
                let e : n ≡ n' = IsWeightBound-unique I (weight_of next) n n' k kh' in
                elim (cases_lt b n) [ inl x ↦ inl (omega arith) | inr x ↦ inr (omega arith, omega (arith, best.before)) ]
          ];
    }

pub best-skips : (I : Inst) (g next : Weighting) (b : ℕ) → IsBestBefore I g b (place_of I next) → IsMember I next → IsLeastWeight I (weight_of next) 0 → IsBestBefore I g b (place_of I next + 1)
best-skips I g next b best m k =
    record {
      member = best.member;
      is_bound = best.is_bound;
      before = omega (arith, best.before);
      first = λ h n' mh kh p.
          elim (cases_lt (place_of I h) (place_of I next)) [
            | inl q ↦ best.first h n' mh kh q
            | inr q ↦
                let same : h ≡ next = place-same I h next mh m (omega arith) in
                let kh' : IsWeightBound I (weight_of next) n' = rw same at kh in
                absurd (omega (arith, kh'.some, IsLeastWeight-unique I (weight_of next) 0 kh'.least k kh'.is_least))
          ];
    }

pub best-start : (I : Inst) → CaseFits I → IsBestBefore I Area (area_bound_of I) 1
best-start I f =
    let k : IsWeightBound I (weight_of Area) (area_bound_of I) = record {
      least = I.long * I.short;
      is_least = IsLeastWeight-area I f;
      some = omega (arith, mul-le 1 1 I.long I.short (omega (arith, I.sides.short_min, I.sides.ordered)) I.sides.short_min);
      value = ap (λ n. n / (I.long * I.short)) (sym (total_weight-one I));
    } in
    record {
      member = tt;
      is_bound = k;
      before = omega arith;
      first = λ h n mh kh p.
          let same : h ≡ Area = place-same I h Area mh tt (omega arith) in
          let kh' : IsWeightBound I (weight_of Area) n = rw same at kh in
          inr (IsWeightBound-unique I (weight_of Area) (area_bound_of I) n k kh', omega arith);
    }

-- ---- where each part of the family begins

at_long : (I : Inst) → eqb I.long I.long ≡ true
at_long I = eq-eqb I.long I.long refl

at_short : (I : Inst) → I.short < I.long → eqb I.short I.long ≡ false
at_short I l = ne_eqb I.short I.long (λ e. absurd (omega arith))

pub place-colours_long : (I : Inst) → place_of I (Colour I.long 0) ≡ 1
place-colours_long I = rw (at_long I) refl

pub place-colours_short : (I : Inst) → I.short < I.long → place_of I (Colour I.short 0) ≡ 1 + I.long
place-colours_short I l = rw (at_short I l) (omega arith)

pub place-long_long : (I : Inst) → place_of I (Comb I.long 0 I.long 0) ≡ 1 + I.long + I.short
place-long_long I = rw (at_long I) (omega arith)

pub place-long_short : (I : Inst) → I.short < I.long → place_of I (Comb I.long 0 I.short 0) ≡ 1 + I.long + I.short + I.long * I.long
place-long_short I l = rw (at_long I, at_short I l) (omega arith)

pub place-short_long : (I : Inst) → I.short < I.long → place_of I (Comb I.short 0 I.long 0) ≡ 1 + I.long + I.short + I.long * (I.long + I.short)
place-short_long I l = rw (at_short I l, at_long I) (omega arith)

pub place-short_short : (I : Inst) → I.short < I.long → place_of I (Comb I.short 0 I.short 0) ≡ 1 + I.long + I.short + (I.long * (I.long + I.short) + I.short * I.long)
place-short_short I l = rw (at_short I l) (omega arith)

-- where the case has equal sides, no member stands between the colours and the combs
pub best-jumps : (I : Inst) (g : Weighting) (b : ℕ) → I.long ≤ I.short → IsBestBefore I g b (1 + I.long) → IsBestBefore I g b (1 + I.long + I.short)
best-jumps I g b l best =
    record {
      member = best.member;
      is_bound = best.is_bound;
      before = omega (arith, best.before);
      first = λ h n mh kh p. best.first h n mh kh (low I h l mh p);
    }
  where
    low : (J : Inst) (h : Weighting) → J.long ≤ J.short → IsMember J h → place_of J h < 1 + J.long + J.short → place_of J h < 1 + J.long
    low J Area l m p = omega (arith, J.sides.short_min, J.sides.ordered)
    low J (Table t) l m p = absurd m
    low J (Lines t) l m p = absurd m
    low J (Colour k c) l m p =
        elim (side-cases J k m.0) [
          | inl x ↦ rw x.1 (omega (arith, m.1, x.0))
          | inr x ↦ absurd (x.1 (x.0 ∙ omega (arith, J.sides.ordered)))
        ]
    low J (Comb p a r b) l m q = absurd (omega arith)

-- each member stands below the end of the family
pub place-lt : (I : Inst) (h : Weighting) → IsMember I h → place_of I h < 1 + I.long + I.short + (I.long * (I.long + I.short) + I.short * (I.long + I.short))
place-lt I Area m = omega arith
place-lt I (Table t) m = absurd m
place-lt I (Lines t) m = absurd m
place-lt I (Colour k c) m = omega (arith, colour-lt I k c m)
place-lt I (Comb p a r b) m =
    let lt : row_place I p a r b < p * (I.long + I.short) = row_place-lt I p a r b m.1 m.2 m.3 in
    elim (side-cases I p m.0) [
      | inl x ↦
          let f : p * (I.long + I.short) ≡ I.long * (I.long + I.short) = ap (λ n. n * (I.long + I.short)) x.0 in
          let z : cond (eqb p I.long) 0 (I.long * (I.long + I.short)) ≡ 0 = rw x.1 refl in
          omega (arith, place_of-comb I p a r b)
      | inr x ↦
          let f : p * (I.long + I.short) ≡ I.short * (I.long + I.short) = ap (λ n. n * (I.long + I.short)) x.0 in
          let z : cond (eqb p I.long) 0 (I.long * (I.long + I.short)) ≡ I.long * (I.long + I.short) = rw x.2 refl in
          omega (arith, place_of-comb I p a r b)
    ]

pub IsLead-all : (I : Inst) (g : Weighting) (b : ℕ) → IsBestBefore I g b (1 + I.long + I.short + (I.long * (I.long + I.short) + I.short * (I.long + I.short))) → IsLead I g
IsLead-all I g b best =
    record {
      member = best.member;
      bound = b;
      is_bound = best.is_bound;
      first = λ h n mh kh. best.first h n mh kh (place-lt I h mh);
    }

-- where the case has equal sides, the combs of one pair are all
place-lt_square : (I : Inst) (h : Weighting) → I.long ≤ I.short → IsMember I h → place_of I h < 1 + I.long + I.short + I.long * I.long
place-lt_square I Area l m = omega arith
place-lt_square I (Table t) l m = absurd m
place-lt_square I (Lines t) l m = absurd m
place-lt_square I (Colour k c) l m = omega (arith, colour-lt I k c m)
place-lt_square I (Comb p a r b) l m =
    let lt : a * r + b < r * p = mul-add-lt a r b p m.1 m.3 in
    elim (side-cases I p m.0) [
      | inl x ↦
          elim (side-cases I r m.2) [
            | inl y ↦
                let f : r * p ≡ I.long * I.long = ap (λ n. n * p) y.0 ∙ ap (λ n. I.long * n) x.0 in
                let z : cond (eqb p I.long) 0 (I.long * (I.long + I.short)) ≡ 0 = rw x.1 refl in
                let y' : cond (eqb r I.long) 0 (p * I.long) ≡ 0 = rw y.1 refl in
                omega arith
            | inr y ↦ absurd (y.1 (y.0 ∙ omega (arith, I.sides.ordered)))
          ]
      | inr x ↦ absurd (x.1 (x.0 ∙ omega (arith, I.sides.ordered)))
    ]

pub IsLead-square : (I : Inst) (g : Weighting) (b : ℕ) → I.long ≤ I.short → IsBestBefore I g b (1 + I.long + I.short + I.long * I.long) → IsLead I g
IsLead-square I g b l best =
    record {
      member = best.member;
      bound = b;
      is_bound = best.is_bound;
      first = λ h n mh kh. best.first h n mh kh (place-lt_square I h l mh);
    }

pub best-at : (I : Inst) (g : Weighting) (b m n : ℕ) → IsBestBefore I g b m → m ≡ n → IsBestBefore I g b n
best-at I g b m n h e = let P : ℕ → Type 0 = λ k. IsBestBefore I g b k in subst P e h

-- a member of the family is lawful
pub IsMember-lawful : (I : Inst) (g : Weighting) → IsMember I g → IsLawfulWeighting I g
IsMember-lawful I Area m = m
IsMember-lawful I (Colour k c) m = m
IsMember-lawful I (Comb p a r b) m = m
IsMember-lawful I (Table t) m = absurd m
IsMember-lawful I (Lines t) m = absurd m
