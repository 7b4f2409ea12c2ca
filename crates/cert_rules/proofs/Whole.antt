-- A walk that ends in no state with one case more refutes.
use Rattle.std.proofs.Common.{◌≡◌, ◌≢◌, ℕ, zero, suc, ◌+◌, ◌/◌, ◌<◌, ◌≤◌, inl, inr, Bool, true, false, cond, List, [], ◌∷◌, ◌++◌, length, get_or, arith, subst, sym, refl, ap, length-append}
use Rattle.std.proofs.lemmas.Bool.{cases_lt}
use Rattle.std.proofs.lemmas.Bool.Decides.{nat_tests}
use Rattle.std.specs.Prelude.{nat_le, nat_lt, ◌==◌, if◌then◌else◌, map, filter}
use Rattle.std.proofs.Math.Nat.{zero-div}
use Rattle.plan_geometry.specs.Weight.{sum_below}
use Rattle.cert_rules.specs.Corner.{weight_above}
use Rattle.cert_rules.specs.Corner.{State, lowest, allows, case_of, after, children, above}
use Rattle.cert_rules.specs.Refute.{RefutesEach, Refutes}
use Rattle.cert_rules.specs.Walk.{walked, left_after, met_one, mark_of, is_leaf, NoneHas}
use Rattle.plan_geometry.specs.declared.instances.Inst.{Inst}
use Rattle.cert_rules.specs.declared.steps.Step.{Step}
use Rattle.cert_rules.specs.declared.steps.Step.TheVariants.{Lying, Standing, Waste}
use Rattle.weightings.specs.declared.certs.Mark.{Mark}
use Rattle.weightings.specs.declared.certs.Mark.TheVariants.{Branch, Leaf}
use Rattle.cert_rules.proofs.Heights.{lowest-le}
use Rattle.cert_rules.proofs.Refuting.{EachState, EachState-joined, each_child_of, IsWide, start-wide, after-wide}

sum_below-zero : (n : ℕ) (f : ℕ → ℕ) → ((j : ℕ) → j < n → f j ≡ 0) → sum_below n f ≡ 0
sum_below-zero zero f all = refl
sum_below-zero (suc n) f all =
    let before : sum_below n f ≡ 0 = sum_below-zero n f (λ j lt. all j (omega arith)) in
    let here : f n ≡ 0 = all n (omega arith) in
    omega arith

-- nothing weighs above full heights
above-full : (i : Inst) (g : ℕ → ℕ → ℕ) (s : State) → IsWide i s → i.w_side ≤ lowest s.heights → above i g s ≡ 0
above-full i g s wide full =
    sum_below-zero i.l_side (λ x. sum_below i.w_side (λ y. weight_above g s.heights x y))
    (λ x lx. sum_below-zero i.w_side (λ y. weight_above g s.heights x y)
    (λ y ly.
    let low : lowest s.heights ≤ get_or s.heights x 0 = lowest-le s.heights x (omega arith) in
    hidden g s.heights x y (omega arith)))
  where
    hidden : (g : ℕ → ℕ → ℕ) (hs : List ℕ) (x y : ℕ) → y < get_or hs x 0 → weight_above g hs x y ≡ 0
    hidden g hs x y lt = grind (arith, nat_tests)

-- what holds of each state that is met
abbrev pub IsMeetable : Inst → ℕ → State → Type 0
IsMeetable i n s = IsWide i s × (length s.spots ≤ n + 1)

clash : (a n : ℕ) → a ≤ n → nat_le a n ≡ false → ⊥
clash a n le e = grind (arith, nat_tests)

some_of_three :
    (a b d : Bool) → d ≡ true → (f : Step → State)
    → map f (cond a (Lying ∷ cond b (Standing ∷ cond d (Waste ∷ []) []) (cond d (Waste ∷ []) [])) (cond b (Standing ∷ cond d (Waste ∷ []) []) (cond d (Waste ∷ []) []))) ≢ []
some_of_three true b d e f = λ h. absurd (cc)
some_of_three false true d e f = λ h. absurd (cc)
some_of_three false false true e f = λ h. absurd (cc)
some_of_three false false false e f = absurd (cc)

some_child : (p : Step → Bool) (f : Step → State) → p Waste ≡ true → map f (filter p (Lying ∷ Standing ∷ Waste ∷ [])) ≢ []
some_child p f e = some_of_three (p Lying) (p Standing) (p Waste) e f

at_most : (hs : List ℕ) (step : Step) → length (case_of hs step) ≤ 1
at_most hs Lying = omega arith
at_most hs Standing = omega arith
at_most hs Waste = omega arith

not_equal : (a b : ℕ) → (a == b) ≡ false → a ≢ b
not_equal a b e = grind (arith, nat_tests)

differ : (a b : ℕ) → a ≢ b → (a == b) ≡ false
differ a b e = grind (arith, nat_tests)

leaf_le : (a n : ℕ) → nat_le a n ≡ true → a ≤ n
leaf_le a n e = grind (arith, nat_tests)

lt_true : (a b : ℕ) → a < b → nat_lt a b ≡ true
lt_true a b p = grind (arith, nat_tests)

-- a state that is no leaf and has at most n cases has a move
has_move :
    (i : Inst) (g : ℕ → ℕ → ℕ) (q n : ℕ) (s : State)
    → IsWide i s
    → length s.spots ≤ n
    → is_leaf i g q n s ≡ false
    → 0 < q
    → children i s ≢ []
has_move i g q n s wide few not_leaf pos =
    elim (cases_lt (lowest s.heights) i.w_side) [
      | inl low ↦ some_child (allows i s.heights) (after i s) (lt_true (lowest s.heights) i.w_side low)
      | inr full ↦
          let none : above i g s ≡ 0 = above-full i g s wide full in
          let zero_q : above i g s / q ≡ 0 = rw none (zero-div q) in
          let fits : length s.spots + above i g s / q ≤ n = omega arith in
          absurd (clash (length s.spots + above i g s / q) n fits not_leaf)
    ]

children-meetable : (i : Inst) (n : ℕ) (s : State) → IsMeetable i n s → length s.spots ≢ n + 1 → EachState (IsMeetable i n) (children i s)
children-meetable i n s m few =
    each_child_of (IsMeetable i n) (allows i s.heights) (after i s)
    (λ step allowed. (after-wide i s step m.0 allowed, one_more step))
  where
    one_more : (step : Step) → length (s.spots ++ case_of s.heights step) ≤ n + 1
    one_more step =
        let a : length (s.spots ++ case_of s.heights step) ≡ length s.spots + length (case_of s.heights step) = length-append s.spots (case_of s.heights step) in
        let b : length (case_of s.heights step) ≤ 1 = at_most s.heights step in
        let old : length s.spots ≤ n + 1 = m.1 in
        omega arith

-- each state that is left can be met
left-meetable :
    (i : Inst) (g : ℕ → ℕ → ℕ) (q n k : ℕ)
    → EachState (IsMeetable i n) (walked i g q n k).left
left-meetable i g q n zero = ((start-wide i, omega arith), tt)
left-meetable i g q n (suc k) = on i g q n (walked i g q n k).met (walked i g q n k).left (left-meetable i g q n k)
  where
    choose :
        (i : Inst) (n : ℕ) (found leaf : Bool) (kids rest : List State)
        → EachState (IsMeetable i n) rest
        → (found ≡ false → EachState (IsMeetable i n) kids)
        → EachState (IsMeetable i n) (if found then [] else (if leaf then rest else kids ++ rest))
    choose i n true leaf kids rest r k = tt
    choose i n false true kids rest r k = r
    choose i n false false kids rest r k = EachState-joined (IsMeetable i n) kids rest (k refl) r

    on :
        (i : Inst) (g : ℕ → ℕ → ℕ) (q n : ℕ) (met left : List State)
        → EachState (IsMeetable i n) left
        → EachState (IsMeetable i n) (met_one i g q n met left).left
    on i g q n met [] all = tt
    on i g q n met (s ∷ rest) all =
        choose i n (length s.spots == n + 1) (is_leaf i g q n s) (children i s) rest all.1
        (λ e. children-meetable i n s all.0 (not_equal (length s.spots) (n + 1) e))

NoneHas-last : (m : ℕ) (ss : List State) (s : State) → NoneHas m (ss ++ s ∷ []) → NoneHas m ss × (length s.spots ≢ m)
NoneHas-last m [] s h = (tt, h.0)
NoneHas-last m (x ∷ xs) s h = let r = NoneHas-last m xs s h.1 in ((h.0, r.0), r.1)

map-push : (f : State → Mark) (ss : List State) (s : State) (ms : List Mark) → map f (ss ++ s ∷ []) ++ ms ≡ map f ss ++ f s ∷ ms
map-push f [] s ms = refl
map-push f (x ∷ xs) s ms = ap (λ (l : List Mark). f x ∷ l) (map-push f xs s ms)

-- a mark for the state in front of the others
with_mark :
    (i : Inst) (g : ℕ → ℕ → ℕ) (q n : ℕ) (s : State) (rest : List State) (ms : List Mark)
    → 0 < q
    → IsMeetable i n s
    → length s.spots ≢ n + 1
    → RefutesEach i g q n (left_after i g q n s rest) ms
    → RefutesEach i g q n (s ∷ rest) (mark_of i g q n s ∷ ms)
with_mark i g q n s rest ms pos meet few r =
    by_leaf (is_leaf i g q n s) refl
    (subst (λ (b : Bool). RefutesEach i g q n (if b then [] else (if is_leaf i g q n s then rest else children i s ++ rest)) ms)
    (differ (length s.spots) (n + 1) few) r)
  where
    by_leaf :
        (b : Bool)
        → is_leaf i g q n s ≡ b
        → RefutesEach i g q n (if b then rest else children i s ++ rest) ms
        → RefutesEach i g q n (s ∷ rest) ((if b then Leaf else Branch) ∷ ms)
    by_leaf true e r = (leaf_le (length s.spots + above i g s / q) n e, r)
    by_leaf false e r =
        let most : length s.spots ≤ n + 1 = meet.1 in
        (has_move i g q n s meet.0 (omega arith) e pos, r)

-- marks that refute what is left, behind the marks of what was met, refute the start
pub walked-refutes :
    (i : Inst) (g : ℕ → ℕ → ℕ) (q n k : ℕ)
    → 0 < q
    → NoneHas (n + 1) (walked i g q n k).met
    → (ms : List Mark)
    → RefutesEach i g q n (walked i g q n k).left ms
    → Refutes i g q n (map (mark_of i g q n) (walked i g q n k).met ++ ms)
walked-refutes i g q n zero pos none ms r = r
walked-refutes i g q n (suc k) pos none ms r =
    on (walked i g q n k).met (walked i g q n k).left (left-meetable i g q n k)
    (λ none ms r. walked-refutes i g q n k pos none ms r) none r
  where
    on :
        (met left : List State)
        → EachState (IsMeetable i n) left
        → (NoneHas (n + 1) met → (ms : List Mark) → RefutesEach i g q n left ms → Refutes i g q n (map (mark_of i g q n) met ++ ms))
        → NoneHas (n + 1) (met_one i g q n met left).met
        → RefutesEach i g q n (met_one i g q n met left).left ms
        → Refutes i g q n (map (mark_of i g q n) (met_one i g q n met left).met ++ ms)
    on met [] all ih none r = ih none ms r
    on met (s ∷ rest) all ih none r =
        let last = NoneHas-last (n + 1) met s none in
        subst (λ (l : List Mark). Refutes i g q n l) (sym (map-push (mark_of i g q n) met s ms))
        (ih last.0 (mark_of i g q n s ∷ ms) (with_mark i g q n s rest ms pos all.0 last.1 r))
