-- The members are those of the family, as a list, and the lead is the first of them with the least bound.
use Rattle.std.proofs.Common.{◌≡◌, ℕ, zero, suc, ◌+◌, ◌-◌, ◌*◌, ◌/◌, ◌%◌, ◌<◌, ◌≤◌, Bool, true, false, cond, eqb, List, ◌++◌, length, get_or, ap, subst, ◌∙◌, refl, inl, inr, arith, length-append}
use Rattle.std.proofs.lemmas.Bool.{cases_lt, eq-eqb}
use Rattle.std.specs.List.{Contains}
use Rattle.std.proofs.lemmas.List.{get_or_append_left, get_or-append-add, get_or_default}
use Rattle.std.proofs.lemmas.List.Elements.{Contains-get_or}
use Rattle.std.proofs.lemmas.List.FromFn.{length-map-range_with_len, get_or-map-range_with_len}
use Rattle.std.proofs.lemmas.Nat.{mul-add-lt, div-add-mod', mod_below, div_below, div-mul-add, mod-mul-add}
use Rattle.plan_geometry.specs.declared.instances.Inst.{Inst}
use Rattle.plan_geometry.proofs.GridSteps.{factor-some}
use Rattle.weightings.specs.declared.kinds.Weighting.{Weighting}
use Rattle.weightings.specs.declared.kinds.Weighting.TheVariants.{Area, Colour, Comb, Table, Lines}
use Rattle.weightings.specs.Weighting.{weight_of, IsMember, IsCaseSide, IsWeightBound}
use Rattle.weightings.specs.Lead.{place_of, combs_before, IsLead}
use Rattle.weightings.specs.Family.{colours, combs, family, IsFirstLeast}
use Rattle.weightings.specs.Laws.{MembersAreListed, LeadIsFirstLeast}
use Rattle.weightings.proofs.LeadSteps.{side-cases, place-lt}

-- each of the list is a member, whose place is at most where it stands, counted from a base
abbrev Slots : Inst → ℕ → List Weighting → Type 0
Slots I base xs =
    (j : ℕ) → j < length xs → IsMember I (get_or xs j Area) × (place_of I (get_or xs j Area) ≤ base + j)

step : (xs ys : List Weighting) (i j : ℕ) → i ≡ length xs + j → get_or (xs ++ ys) i Area ≡ get_or ys j Area
step xs ys i j e = ap (λ n. get_or (xs ++ ys) n Area) e ∙ get_or-append-add xs ys j Area

Slots-append : (I : Inst) (base : ℕ) (xs ys : List Weighting) → Slots I base xs → Slots I (base + length xs) ys → Slots I base (xs ++ ys)
Slots-append I base xs ys h k = λ j l.
    elim (cases_lt j (length xs)) [
      | inl p ↦ rw (get_or_append_left xs ys Area j p) (h j p)
      | inr p ↦
          let i : ℕ = j - length xs in
          let e : j ≡ length xs + i = omega arith in
          let t : IsMember I (get_or ys i Area) × (place_of I (get_or ys i Area) ≤ (base + length xs) + i) = k i (omega (arith, length-append xs ys)) in
          rw (step xs ys j i e) (t.0, omega (arith, t.1))
    ]

length-colours : (k : ℕ) → length (colours k) ≡ k
length-colours k = length-map-range_with_len (λ c. Colour k c) 0 k

length-combs : (p r : ℕ) → length (combs p r) ≡ p * r
length-combs p r = length-map-range_with_len (λ n. Comb p (n / r) r (n % r)) 0 (p * r)

colours-at : (k c : ℕ) → c < k → get_or (colours k) c Area ≡ Colour k c
colours-at k c h = get_or-map-range_with_len (λ c. Colour k c) 0 k c c Area h (omega arith)

combs-at : (p r n : ℕ) → n < p * r → get_or (combs p r) n Area ≡ Comb p (n / r) r (n % r)
combs-at p r n h = get_or-map-range_with_len (λ m. Comb p (m / r) r (m % r)) 0 (p * r) n n Area h (omega arith)

combs-at_pair : (p r a b : ℕ) → a < p → b < r → get_or (combs p r) (a * r + b) Area ≡ Comb p a r b
combs-at_pair p r a b h k =
    let lt : a * r + b < p * r = omega (arith, mul-add-lt a r b p h k) in
    let d : (a * r + b) / r ≡ a = div-mul-add a r b k in
    let m : (a * r + b) % r ≡ b = mod-mul-add a r b k in
    combs-at p r (a * r + b) lt ∙ ap (λ n. Comb p n r ((a * r + b) % r)) d ∙ ap (λ n. Comb p a r n) m

Slots-colours : (I : Inst) (base k : ℕ) → IsCaseSide I k → ((c : ℕ) → place_of I (Colour k c) ≤ base + c) → Slots I base (colours k)
Slots-colours I base k side h = λ j l.
    let p : j < k = omega (arith, length-colours k) in
    rw (colours-at k j p) ((side, p), h j)

Slots-combs : (I : Inst) (base p r : ℕ) → IsCaseSide I p → IsCaseSide I r → 1 + I.long + I.short + combs_before I p r ≤ base → Slots I base (combs p r)
Slots-combs I base p r side other h = λ j l.
    let q : j < p * r = omega (arith, length-combs p r) in
    let some : 0 < r = factor-some j r p (omega (arith, q)) in
    let a : j / r < p = div_below j r p some q in
    let b : j % r < r = mod_below j r some in
    let e : j / r * r + j % r ≡ j = div-add-mod' j r in
    rw (combs-at p r j q) ((side, a, other, b), omega arith)

abbrev tail4 : Inst → List Weighting
tail4 I = combs I.short I.long ++ combs I.short I.short

abbrev tail3 : Inst → List Weighting
tail3 I = combs I.long I.short ++ tail4 I

abbrev tail2 : Inst → List Weighting
tail2 I = combs I.long I.long ++ tail3 I

abbrev tail1 : Inst → List Weighting
tail1 I = colours I.short ++ tail2 I

abbrev tail0 : Inst → List Weighting
tail0 I = colours I.long ++ tail1 I

length-tail4 : (I : Inst) → length (tail4 I) ≡ I.short * I.long + I.short * I.short
length-tail4 I =
    omega (arith, length-append (combs I.short I.long) (combs I.short I.short), length-combs I.short I.long, length-combs I.short I.short)

length-tail2 : (I : Inst) → length (tail2 I) ≡ I.long * I.long + (I.long * I.short + (I.short * I.long + I.short * I.short))
length-tail2 I =
    omega (arith, length-tail4 I, length-append (combs I.long I.long) (tail3 I), length-append (combs I.long I.short) (tail4 I), length-combs I.long I.long, length-combs I.long I.short)

length-tail0 : (I : Inst) → length (tail0 I) ≡ I.long + (I.short + (I.long * I.long + (I.long * I.short + (I.short * I.long + I.short * I.short))))
length-tail0 I =
    omega (arith, length-tail2 I, length-append (colours I.long) (tail1 I), length-append (colours I.short) (tail2 I), length-colours I.long, length-colours I.short)

length-family : (I : Inst) → length (family I) ≡ 1 + (I.long + (I.short + (I.long * I.long + (I.long * I.short + (I.short * I.long + I.short * I.short)))))
unfolding family
length-family I = omega (arith, length-tail0 I)

family-at : (I : Inst) (i : ℕ) → get_or (family I) (suc i) Area ≡ get_or (tail0 I) i Area
unfolding family
family-at I i = refl

-- how far a choice of two lifts a place
lift-long : (I : Inst) (k n : ℕ) → k ≡ I.long → cond (eqb k I.long) 0 n ≡ 0
lift-long I k n e = rw (eq-eqb k I.long e) refl

lift-le : (b : Bool) (n : ℕ) → cond b 0 n ≤ n
lift-le true n = omega arith
lift-le false n = omega arith

Slots-tail0 : (I : Inst) → Slots I 1 (tail0 I)
Slots-tail0 I =
    let l = I.long in
    let w = I.short in
    let base : ℕ = 1 + l + w in
    let ll : Slots I base (combs l l) =
    Slots-combs I base l l (inl refl) (inl refl) (omega (arith, lift-long I l (l * (l + w)) refl, lift-long I l (l * l) refl)) in
    let lw : Slots I (base + length (combs l l)) (combs l w) =
    Slots-combs I (base + length (combs l l)) l w (inl refl) (inr refl) (omega (arith, length-combs l l, lift-long I l (l * (l + w)) refl, lift-le (eqb w l) (l * l))) in
    let wl : Slots I (base + length (combs l l) + length (combs l w)) (combs w l) =
    Slots-combs I (base + length (combs l l) + length (combs l w)) w l (inr refl) (inl refl) (omega (arith, length-combs l l, length-combs l w, lift-le (eqb w l) (l * (l + w)), lift-long I l (w * l) refl)) in
    let ww : Slots I (base + length (combs l l) + length (combs l w) + length (combs w l)) (combs w w) =
    Slots-combs I (base + length (combs l l) + length (combs l w) + length (combs w l)) w w (inr refl) (inr refl) (omega (arith, length-combs l l, length-combs l w, length-combs w l, lift-le (eqb w l) (l * (l + w)), lift-le (eqb w l) (w * l))) in
    let t4 : Slots I (base + length (combs l l) + length (combs l w)) (tail4 I) = Slots-append I _ (combs w l) (combs w w) wl ww in
    let t3 : Slots I (base + length (combs l l)) (tail3 I) = Slots-append I _ (combs l w) (tail4 I) lw t4 in
    let t2 : Slots I base (tail2 I) = Slots-append I _ (combs l l) (tail3 I) ll t3 in
    let cw : Slots I (1 + l) (colours w) = Slots-colours I (1 + l) w (inr refl) (λ c. omega (arith, lift-le (eqb w l) l)) in
    let cl : Slots I 1 (colours l) = Slots-colours I 1 l (inl refl) (λ c. omega (arith, lift-long I l l refl)) in
    let t2' : Slots I ((1 + l) + length (colours w)) (tail2 I) = λ j p. let z = t2 j p in (z.0, omega (arith, z.1, length-colours w)) in
    let t1 : Slots I (1 + l) (tail1 I) = Slots-append I (1 + l) (colours w) (tail2 I) cw t2' in
    let t1' : Slots I (1 + length (colours l)) (tail1 I) = λ j p. let z = t1 j p in (z.0, omega (arith, z.1, length-colours l)) in
    Slots-append I 1 (colours l) (tail1 I) cl t1'

Slots-family : (I : Inst) → Slots I 0 (family I)
unfolding family
Slots-family I zero p = (tt, omega arith)
Slots-family I (suc j) p =
    let z : IsMember I (get_or (tail0 I) j Area) × (place_of I (get_or (tail0 I) j Area) ≤ 1 + j) = Slots-tail0 I j (omega arith) in
    (z.0, omega (arith, z.1))

-- what stands in the tails
tail2-at : (I : Inst) (i : ℕ) → get_or (tail0 I) (I.long + (I.short + i)) Area ≡ get_or (tail2 I) i Area
tail2-at I i =
    step (colours I.long) (tail1 I) (I.long + (I.short + i)) (I.short + i) (omega (arith, length-colours I.long)) ∙ step (colours I.short) (tail2 I) (I.short + i) i (omega (arith, length-colours I.short))

in_first : (xs ys : List Weighting) (i : ℕ) (g : Weighting) → i < length xs → get_or xs i Area ≡ g → get_or (xs ++ ys) i Area ≡ g
in_first xs ys i g p e = get_or_append_left xs ys Area i p ∙ e

comb-in_tail : (I : Inst) (p a r b : ℕ) → IsMember I (Comb p a r b) → get_or (tail2 I) (combs_before I p r + (a * r + b)) Area ≡ Comb p a r b
comb-in_tail I p a r b m =
    let l = I.long in
    let w = I.short in
    let lt : a * r + b < r * p = mul-add-lt a r b p m.1 m.3 in
    let i : ℕ = a * r + b in
    let here : get_or (combs p r) i Area ≡ Comb p a r b = combs-at_pair p r a b m.1 m.3 in
    let in' : i < length (combs p r) = omega (arith, length-combs p r) in
    elim (side-cases I p m.0) [
      | inl x ↦
          elim (side-cases I r m.2) [
            | inl y ↦
                let e : combs p r ≡ combs l l = ap (λ n. combs n r) x.0 ∙ ap (λ n. combs l n) y.0 in
                let z : combs_before I p r + i ≡ i = rw (x.1, y.1) (omega arith) in
                let f : get_or (combs l l) i Area ≡ Comb p a r b = rw e at here in
                let g : i < length (combs l l) = rw e at in' in
                ap (λ n. get_or (tail2 I) n Area) z ∙ in_first (combs l l) (tail3 I) i (Comb p a r b) g f
            | inr y ↦
                let e : combs p r ≡ combs l w = ap (λ n. combs n r) x.0 ∙ ap (λ n. combs l n) y.0 in
                let pl : p * l ≡ l * l = ap (λ n. n * l) x.0 in
                let z : combs_before I p r + i ≡ l * l + i = rw (x.1, y.2) (omega arith) in
                let f : get_or (combs l w) i Area ≡ Comb p a r b = rw e at here in
                let g : i < length (combs l w) = rw e at in' in
                ap (λ n. get_or (tail2 I) n Area) z ∙ step (combs l l) (tail3 I) (l * l + i) i (omega (arith, length-combs l l)) ∙ in_first (combs l w) (tail4 I) i (Comb p a r b) g f
          ]
      | inr x ↦
          elim (side-cases I r m.2) [
            | inl y ↦
                let e : combs p r ≡ combs w l = ap (λ n. combs n r) x.0 ∙ ap (λ n. combs w n) y.0 in
                let z : combs_before I p r + i ≡ l * l + (l * w + i) = rw (x.2, y.1) (omega arith) in
                let f : get_or (combs w l) i Area ≡ Comb p a r b = rw e at here in
                let g : i < length (combs w l) = rw e at in' in
                ap (λ n. get_or (tail2 I) n Area) z ∙ step (combs l l) (tail3 I) (l * l + (l * w + i)) (l * w + i) (omega (arith, length-combs l l)) ∙ step (combs l w) (tail4 I) (l * w + i) i (omega (arith, length-combs l w)) ∙ in_first (combs w l) (combs w w) i (Comb p a r b) g f
            | inr y ↦
                let e : combs p r ≡ combs w w = ap (λ n. combs n r) x.0 ∙ ap (λ n. combs w n) y.0 in
                let pl : p * l ≡ w * l = ap (λ n. n * l) x.0 in
                let z : combs_before I p r + i ≡ l * l + (l * w + (w * l + i)) = rw (x.2, y.2) (omega arith) in
                let f : get_or (combs w w) i Area ≡ Comb p a r b = rw e at here in
                ap (λ n. get_or (tail2 I) n Area) z ∙ step (combs l l) (tail3 I) (l * l + (l * w + (w * l + i))) (l * w + (w * l + i)) (omega (arith, length-combs l l)) ∙ step (combs l w) (tail4 I) (l * w + (w * l + i)) (w * l + i) (omega (arith, length-combs l w)) ∙ step (combs w l) (combs w w) (w * l + i) i (omega (arith, length-combs w l)) ∙ f
          ]
    ]

family-has : (I : Inst) (g : Weighting) → IsMember I g → get_or (family I) (place_of I g) Area ≡ g
unfolding family
family-has I Area m = refl
family-has I (Table t) m = absurd m
family-has I (Lines t) m = absurd m
family-has I (Colour k c) m =
    let l = I.long in
    let w = I.short in
    elim (side-cases I k m.0) [
      | inl x ↦
          let z : place_of I (Colour k c) ≡ suc c = rw x.1 (omega arith) in
          let e : colours k ≡ colours l = ap colours x.0 in
          let f : get_or (colours l) c Area ≡ Colour k c = rw e at (colours-at k c m.1) in
          ap (λ n. get_or (family I) n Area) z ∙ in_first (colours l) (tail1 I) c (Colour k c) (omega (arith, length-colours l, m.1, x.0)) f
      | inr x ↦
          let z : place_of I (Colour k c) ≡ suc (l + c) = rw x.2 (omega arith) in
          let e : colours k ≡ colours w = ap colours x.0 in
          let f : get_or (colours w) c Area ≡ Colour k c = rw e at (colours-at k c m.1) in
          ap (λ n. get_or (family I) n Area) z ∙ step (colours l) (tail1 I) (l + c) c (omega (arith, length-colours l)) ∙ in_first (colours w) (tail2 I) c (Colour k c) (omega (arith, length-colours w, m.1, x.0)) f
    ]
family-has I (Comb p a r b) m =
    let z : place_of I (Comb p a r b) ≡ suc (I.long + (I.short + (combs_before I p r + (a * r + b)))) = omega arith in
    ap (λ n. get_or (family I) n Area) z ∙ tail2-at I (combs_before I p r + (a * r + b)) ∙ comb-in_tail I p a r b m

place_of-lt : (I : Inst) (g : Weighting) → IsMember I g → place_of I g < length (family I)
place_of-lt I g m = omega (arith, place-lt I g m, length-family I)

pub IsFirstLeast-lead : (I : Inst) (g : Weighting) → IsLead I g → IsFirstLeast I g
IsFirstLeast-lead I g h =
    record {
      place = place_of I g;
      in_family = place_of-lt I g h.member;
      at_place = family-has I g h.member;
      bound = h.bound;
      is_bound = h.is_bound;
      first = λ j n l k.
          let s : IsMember I (get_or (family I) j Area) × (place_of I (get_or (family I) j Area) ≤ 0 + j) = Slots-family I j l in
          elim (h.first (get_or (family I) j Area) n s.0 k) [ inl x ↦ inl x | inr x ↦ inr (x.0, omega (arith, x.1, s.1)) ];
    }

-- where a weighting stands in the family, it is a member, whose place is at most that
member-at : (I : Inst) (g : Weighting) (j : ℕ) → j < length (family I) → get_or (family I) j Area ≡ g → IsMember I g × (place_of I g ≤ j)
member-at I g j l e =
    let s : IsMember I (get_or (family I) j Area) × (place_of I (get_or (family I) j Area) ≤ 0 + j) = Slots-family I j l in
    let t : IsMember I g × (place_of I g ≤ 0 + j) = rw e at s in
    (t.0, omega (arith, t.1))

IsLead-first_least : (I : Inst) (g : Weighting) → IsFirstLeast I g → IsLead I g
IsLead-first_least I g h =
    let here : IsMember I g × (place_of I g ≤ h.place) = member-at I g h.place h.in_family h.at_place in
    record {
      member = here.0;
      bound = h.bound;
      is_bound = h.is_bound;
      first = λ other n m k.
          let at : get_or (family I) (place_of I other) Area ≡ other = family-has I other m in
          let k' : IsWeightBound I (weight_of (get_or (family I) (place_of I other) Area)) n = rw at k in
          elim (h.first (place_of I other) n (place_of-lt I other m) k') [ inl x ↦ inl x | inr x ↦ inr (x.0, omega (arith, x.1, here.1)) ];
    }

pub lead_first_least : LeadIsFirstLeast
lead_first_least I g = (IsFirstLeast-lead I g, IsLead-first_least I g)

pub members_listed : MembersAreListed
members_listed I g = (listed, member)
  where
    listed : IsMember I g → Contains (family I) g
    listed m = subst (Contains (family I)) (family-has I g m) (Contains-get_or (family I) (place_of I g) Area (place_of-lt I g m))

    member : Contains (family I) g → IsMember I g
    member c = (member-at I g c.0 c.1 (get_or_default (family I) c.0 Area g c.1 ∙ c.2)).0
