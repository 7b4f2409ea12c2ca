-- Runs that are free of spans: where they stop, and that the longest begins at 0 or where a span ends.
use Rattle.std.proofs.Common.{◌≡◌, ℕ, zero, suc, ◌+◌, ◌-◌, ◌<◌, ◌≤◌, min, ◌⊎◌, ◌↔◌, Bool, true, false, cond, List, [], ◌∷◌, ◌++◌, length, get_or, map, filter, ap, sym, subst, refl, ◌∙◌, inl, inr, arith, length-append}
use Rattle.std.specs.List.{All}
use Rattle.std.proofs.lemmas.Bool.{cases_Bool, cases_lt}
use Rattle.std.proofs.lemmas.Bool.Decides.{nat_tests}
use Rattle.std.proofs.lemmas.List.{get_or_append_left, get_or-append_right}
use Rattle.std.proofs.lemmas.List.Elements.{All-nil, All-cons, All-head, All-tail, All-append}
use Rattle.plan_geometry.specs.declared.spots.Axis.{Axis}
use Rattle.plan_geometry.specs.declared.spots.Spot.{Spot}
use Rattle.plan_geometry.specs.declared.instances.Inst.{Inst}
use Rattle.plan_geometry.specs.Layout.{start, IsInside}
use Rattle.contact_rules.specs.declared.spans.Span.{Span}
use Rattle.contact_rules.specs.Real.{IsGapOf, other, real_side, real_finish}
use Rattle.contact_rules.specs.Cut.{Crosses, IsRun}
use Rattle.contact_rules.specs.Steps.{LiesIn, IsSpanWithin, IsFree, StopsBy, span_of, crosses, crossing}
use Rattle.contact_rules.proofs.RunSteps.{some_or_none, extent-some, finish-inside}

-- what the code reads where a list has no element
abbrev pub nothing : Span
nothing = record { start = 0; finish = 0 }

-- ---- a run from a row on

stops-free : (ps : List Span) (side row n : ℕ) → All (IsSpanWithin side) ps → IsFree ps side row n → 0 < n → All (StopsBy row (row + n)) ps
stops-free ps side row n spans f some = λ i d lt after.
    let p = get_or ps i d in
    let is : IsSpanWithin side p = spans i d lt in
    let out : (k : ℕ) → row ≤ k → k < row + n → ¬ LiesIn k p = λ k x y. f.outside k x y i d lt in
    elim (cases_lt p.start (row + n)) [
      | inr enough ↦ enough
      | inl early ↦
          elim (cases_lt row p.start) [
            | inl later ↦ absurd (out p.start (omega arith) early (omega arith, is.some))
            | inr before ↦ absurd (out row (omega arith) (omega arith) (before, after))
          ]
    ]

free-stops : (ps : List Span) (side row n : ℕ) → row + n ≤ side → All (StopsBy row (row + n)) ps → IsFree ps side row n
free-stops ps side row n within stops =
    record { within = within; outside = λ k x y i d lt lies. let z : row + n ≤ (get_or ps i d).start = stops i d lt (omega (arith, lies.1)) in omega (arith, lies.0) }

pub free-from : (ps : List Span) (side row n end : ℕ) → All (IsSpanWithin side) ps → row ≤ side → ((m : ℕ) → (m ≤ end) ↔ ((m ≤ side) × All (StopsBy row m) ps)) → (n ≤ end - row) ↔ IsFree ps side row n
free-from ps side row n end spans le stops = (
  λ h.
      elim (cases_lt 0 n) [
        | inl p ↦ let z = (stops (row + n)).0 (omega arith) in free-stops ps side row n z.0 z.1
        | inr none ↦ record { within = omega arith; outside = λ k x y. absurd (omega arith) }
      ],
  λ f.
      elim (cases_lt 0 n) [
        | inl p ↦ let z : row + n ≤ end = (stops (row + n)).1 (f.within, stops-free ps side row n spans f p) in omega arith
        | inr none ↦ omega arith
      ],
)

-- a span that does not end after the row changes nothing
pub stop-keeps : (row stop m : ℕ) (p : Span) → p.finish ≤ row → (m ≤ stop) ↔ ((m ≤ stop) × StopsBy row m p)
stop-keeps row stop m p before = (λ h. (h, λ after. absurd (omega arith)), λ h. h.0)

pub stop-takes : (row stop new m : ℕ) (p : Span) → row < p.finish → new ≡ min stop p.start → (m ≤ new) ↔ ((m ≤ stop) × StopsBy row m p)
stop-takes row stop new m p after e =
    (λ h. (omega arith, λ _. omega arith), λ h. let z : m ≤ p.start = h.1 after in omega (arith, h.0))

-- ---- a run begins at 0, or where a span ends, or can be made longer to the front

-- no run from the end of the span on is longer than most
abbrev pub FreesFrom : List Span → ℕ → ℕ → Span → Type 0
FreesFrom ps side most p = (n : ℕ) → IsFree ps side p.finish n → n ≤ most

pub FreesFrom-more : (ps : List Span) (side most more : ℕ) (xs : List Span) → most ≤ more → All (FreesFrom ps side most) xs → All (FreesFrom ps side more) xs
FreesFrom-more ps side most more xs le h = λ k d lt n f. let z : n ≤ most = h k d lt n f in omega arith

lies_or_not : (row : ℕ) (p : Span) → LiesIn row p ⊎ (LiesIn row p → ⊥)
lies_or_not row p =
    elim (cases_lt row p.start) [
      | inl before ↦ inr (λ h. omega (arith, h.0))
      | inr from ↦ elim (cases_lt row p.finish) [ inl to ↦ inl (from, to) | inr after ↦ inr (λ h. omega (arith, h.1)) ]
    ]

pub frees-bounded : (ps : List Span) (side most : ℕ) → ((n : ℕ) → IsFree ps side 0 n → n ≤ most) → All (FreesFrom ps side most) ps → (row n : ℕ) → IsFree ps side row n → n ≤ most
frees-bounded ps side most first each zero n f = first n f
frees-bounded ps side most first each (suc row) n f =
    elim (cases_lt 0 n) [
      | inr none ↦ omega arith
      | inl p ↦
          elim (some_or_none (LiesIn row) (lies_or_not row) ps) [
            | inl some ↦
                let q : Span = some.1 in
                let lies : LiesIn row q = some.4 in
                let out : ¬ LiesIn (suc row) q = subst (λ x. ¬ LiesIn (suc row) x) some.3 (f.outside (suc row) (omega arith) (omega arith) some.0 some.1 some.2) in
                let from : FreesFrom ps side most q = subst (λ x. FreesFrom ps side most x) some.3 (each some.0 some.1 some.2) in
                elim (cases_lt (suc row) q.finish) [
                  | inl after ↦ absurd (out (omega (arith, lies.0), after))
                  | inr end ↦
                      let e : suc row ≡ q.finish = omega (arith, lies.1) in
                      from n (subst (λ k. IsFree ps side k n) e f)
                ]
            | inr none ↦
                let more : IsFree ps side row (suc n) =
                record {
                  within = omega (arith, f.within);
                  outside = λ k x y.
                      elim (cases_lt row k) [
                        | inl later ↦ f.outside k later (omega arith)
                        | inr here ↦ let e : row ≡ k = omega arith in subst (λ j. All (λ q. ¬ LiesIn j q) ps) e none
                      ];
                } in
                let z : suc n ≤ most = frees-bounded ps side most first each row (suc n) more in
                omega arith
          ]
    ]

-- ---- the spans of the cases that cross a line

abbrev chosen : Axis → Inst → ℕ → Spot → List Spot → Bool → List Span
chosen a I g s xs b = map (λ t. span_of a I g t) (cond b (s ∷ xs) xs)

crossing-cons : (a : Axis) (I : Inst) (g line : ℕ) (s : Spot) (xs : List Spot) (b : Bool) → crosses a I g line s ≡ b → crossing a I g line (s ∷ xs) ≡ chosen a I g s (filter (λ t. crosses a I g line t) xs) b
crossing-cons a I g line s xs b e = ap (chosen a I g s (filter (λ t. crosses a I g line t) xs)) e

pub crosses-line : (a : Axis) (I : Inst) (g line : ℕ) (s : Spot) → crosses a I g line s ≡ true → (start a s < line) × (line < real_finish a I g s)
crosses-line a I g line s e = (grind (arith, nat_tests), grind (arith, nat_tests))

line-crosses : (a : Axis) (I : Inst) (g line : ℕ) (s : Spot) → start a s < line → line < real_finish a I g s → crosses a I g line s ≡ true
line-crosses a I g line s p q = grind (arith, nat_tests)

uncrossed-outside : (a : Axis) (I : Inst) (g line k : ℕ) (xs : List Spot) → All (λ s. ¬ Crosses a I g line k s) xs → All (λ p. ¬ LiesIn k p) (crossing a I g line xs)
uncrossed-outside a I g line k [] h = All-nil (λ p. ¬ LiesIn k p)
uncrossed-outside a I g line k (s ∷ xs) h =
    let rest = uncrossed-outside a I g line k xs (All-tail (λ s. ¬ Crosses a I g line k s) s xs h) in
    elim (cases_Bool (crosses a I g line s)) [
      | inl e ↦
          let c = crosses-line a I g line s e in
          let out : ¬ LiesIn k (span_of a I g s) = λ lies. All-head (λ s. ¬ Crosses a I g line k s) s xs h (record { row_from = lies.0; row_to = lies.1; begins_before = c.0; ends_after = c.1 }) in
          rw (crossing-cons a I g line s xs true e) (All-cons (λ p. ¬ LiesIn k p) (span_of a I g s) (crossing a I g line xs) out rest)
      | inr e ↦ rw (crossing-cons a I g line s xs false e) rest
    ]

outside-uncrossed : (a : Axis) (I : Inst) (g line k : ℕ) (xs : List Spot) → All (λ p. ¬ LiesIn k p) (crossing a I g line xs) → All (λ s. ¬ Crosses a I g line k s) xs
outside-uncrossed a I g line k [] h = All-nil (λ s. ¬ Crosses a I g line k s)
outside-uncrossed a I g line k (s ∷ xs) h =
    elim (cases_Bool (crosses a I g line s)) [
      | inl e ↦
          let h' : All (λ p. ¬ LiesIn k p) (span_of a I g s ∷ crossing a I g line xs) = rw (crossing-cons a I g line s xs true e) at h in
          All-cons (λ s. ¬ Crosses a I g line k s) s xs (λ c. All-head (λ p. ¬ LiesIn k p) (span_of a I g s) (crossing a I g line xs) h' (c.row_from, c.row_to)) (outside-uncrossed a I g line k xs (All-tail (λ p. ¬ LiesIn k p) (span_of a I g s) (crossing a I g line xs) h'))
      | inr e ↦
          let h' : All (λ p. ¬ LiesIn k p) (crossing a I g line xs) = rw (crossing-cons a I g line s xs false e) at h in
          All-cons (λ s. ¬ Crosses a I g line k s) s xs (λ c. let z : false ≡ true = sym e ∙ line-crosses a I g line s c.begins_before c.ends_after in cc z) (outside-uncrossed a I g line k xs h')
    ]

at-back : (n k : ℕ) → n + k - n ≡ k
at-back n k = omega arith

All-front : {T : Type 0} (P : T → Type 0) (xs ys : List T) → All P (xs ++ ys) → All P xs
All-front P xs ys h = λ k d lt. rw (get_or_append_left xs ys d k lt) at (h k d (omega (arith, length-append xs ys)))

All-back : {T : Type 0} (P : T → Type 0) (xs ys : List T) → All P (xs ++ ys) → All P ys
All-back P xs ys h = λ k d lt. rw (get_or-append_right xs ys (length xs) (length xs + k) d refl (omega arith), at-back (length xs) k) at (h (length xs + k) d (omega (arith, length-append xs ys)))

pub free-run : (a : Axis) (I : Inst) (g line row n : ℕ) (l u : List Spot) → IsFree (crossing a I g line l ++ crossing a I g line u) (real_side (other a) I g) row n → IsRun a I g l u line row n
free-run a I g line row n l u f =
    record {
      within = f.within;
      uncrossed = λ k x y.
          let out = f.outside k x y in (
            outside-uncrossed a I g line k l (All-front (λ p. ¬ LiesIn k p) (crossing a I g line l) (crossing a I g line u) out),
            outside-uncrossed a I g line k u (All-back (λ p. ¬ LiesIn k p) (crossing a I g line l) (crossing a I g line u) out),
          );
    }

pub run-free : (a : Axis) (I : Inst) (g line row n : ℕ) (l u : List Spot) → IsRun a I g l u line row n → IsFree (crossing a I g line l ++ crossing a I g line u) (real_side (other a) I g) row n
run-free a I g line row n l u r =
    record {
      within = r.within;
      outside = λ k x y.
          let un = r.uncrossed k x y in
          All-append (λ p. ¬ LiesIn k p) (crossing a I g line l) (crossing a I g line u) (uncrossed-outside a I g line k l un.0) (uncrossed-outside a I g line k u un.1);
    }

pub crossing-spans : (a : Axis) (I : Inst) (g line : ℕ) (xs : List Spot) → IsGapOf I g → All (IsInside I) xs → All (IsSpanWithin (real_side (other a) I g)) (crossing a I g line xs)
crossing-spans a I g line [] gap h = All-nil (IsSpanWithin (real_side (other a) I g))
crossing-spans a I g line (s ∷ xs) gap h =
    let rest = crossing-spans a I g line xs gap (All-tail (IsInside I) s xs h) in
    elim (cases_Bool (crosses a I g line s)) [
      | inl e ↦
          let is : IsSpanWithin (real_side (other a) I g) (span_of a I g s) =
          record { some = omega (arith, extent-some (other a) I g s.way gap); within = finish-inside (other a) I g s gap (All-head (IsInside I) s xs h) } in
          rw (crossing-cons a I g line s xs true e) (All-cons (IsSpanWithin (real_side (other a) I g)) (span_of a I g s) (crossing a I g line xs) is rest)
      | inr e ↦ rw (crossing-cons a I g line s xs false e) rest
    ]
