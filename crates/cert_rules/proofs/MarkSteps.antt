-- Marks that are left, and the states that they must refute.
use Rattle.std.proofs.Common.{◌≡◌, ℕ, suc, ◌+◌, ◌<◌, ◌≤◌, ◌⊎◌, inl, inr, Bool, true, false, List, [], ◌∷◌, length, get_or, drop, arith, rules, subst, sym, ap, ◌∙◌, drop-cons}
use Rattle.std.proofs.lemmas.Grind.{common_steps}
use Rattle.std.specs.Prelude.{◌↔◌, IsTrue}
use Rattle.cert_rules.specs.Corner.{State}
use Rattle.cert_rules.specs.Path.{Path}
use Rattle.cert_rules.specs.Waiting.{todo}
use Rattle.weightings.specs.Weighting.{weight_of}
use Rattle.plan_geometry.specs.Layout.{IsBounded}
use Rattle.cert_rules.specs.Path.{IsPath}
use Rattle.cert_rules.specs.Refute.{RefutesEach, Refutes, IsRefutation}
use Rattle.cert_rules.proofs.Refuting.{refutes_bounds}
use Rattle.cert_rules.proofs.Paths.{least-one}
use Rattle.cert_rules.specs.Reading.{RefuteTodo, Reads}
use Rattle.cert_rules.specs.declared.marks.Reading.{Reading}
use Rattle.cert_rules.specs.declared.marks.Reading.TheVariants.{Wrong, More, Ended}
use Rattle.weightings.specs.declared.kinds.Weighting.{Weighting}
use Rattle.plan_geometry.specs.declared.instances.Inst.{Inst}
use Rattle.cert_rules.specs.declared.steps.Step.{Step}
use Rattle.weightings.specs.declared.certs.Mark.{Mark}
use Rattle.weightings.specs.declared.certs.Mark.TheVariants.{Branch}

-- the states that are left: none where the walk has ended
abbrev pub left_of : Bool → Inst → List Step → List State
left_of true i steps = []
left_of false i steps = todo i steps

pub path_is :
    (p : Path) (i : Inst) (w : Weighting) (q : ℕ)
    → p.inst ≡ i
    → p.weighting ≡ w
    → p.least ≡ q
    → ◌≡◌ {A = Path} (record { inst = i; weighting = w; least = q; steps = p.steps }) p
path_is p i w q a b d =
    subst (λ (x : Inst). ◌≡◌ {A = Path} (record { inst = x; weighting = w; least = q; steps = p.steps }) p) a
    (subst (λ (x : Weighting). ◌≡◌ {A = Path} (record { inst = p.inst; weighting = x; least = q; steps = p.steps }) p) b
    (ap (λ (x : ℕ). record p { least = x }) (sym d)))

-- the states that are left of a path, against the marks from a place on
abbrev pub RefuteLeft : Path → ℕ → Bool → List Mark → Type 0
RefuteLeft p n ended ms = RefutesEach p.inst (weight_of p.weighting) p.least n (left_of ended p.inst p.steps) ms

-- marks are left over
pub over :
    (p : Path) (n : ℕ) (ended : Bool) (marks : List Mark) (k : ℕ)
    → ended ≡ true
    → k < length marks
    → RefuteLeft p n ended (drop k marks)
    → ⊥
over p n ended marks k e lt r =
    let one : RefuteLeft p n true (drop k marks) = subst (λ (b : Bool). RefuteLeft p n b (drop k marks)) e r in
    subst (λ (ms : List Mark). RefuteLeft p n true ms) (drop-cons marks k Branch lt) one

-- the marks from a place on are the mark there and those behind it
pub RefuteLeft-here :
    (p : Path) (n : ℕ) (ended : Bool) (marks : List Mark) (k : ℕ)
    → ended ≡ false
    → k < length marks
    → RefuteLeft p n ended (drop k marks)
    ↔ RefuteTodo p n (todo p.inst p.steps) (get_or marks k Branch ∷ drop (k + 1) marks)
RefuteLeft-here p n ended marks k e lt =
    let next : suc k ≡ k + 1 = omega arith in
    let same : drop k marks ≡ get_or marks k Branch ∷ drop (k + 1) marks =
    drop-cons marks k Branch lt ∙ ap (λ (x : ℕ). get_or marks k Branch ∷ drop x marks) next in (
      (λ r.
          let one : RefuteLeft p n false (drop k marks) = subst (λ (b : Bool). RefuteLeft p n b (drop k marks)) e r in
          subst (λ (ms : List Mark). RefuteLeft p n false ms) same one),
      (λ r.
          let one : RefuteLeft p n false (drop k marks) = subst (λ (ms : List Mark). RefuteLeft p n false ms) (sym same) r in
          subst (λ (b : Bool). RefuteLeft p n b (drop k marks)) (sym e) one),
    )

-- a wrong mark
pub wrong_mark :
    (p new : Path) (n : ℕ) (ended : Bool) (marks : List Mark) (k : ℕ) (r : Reading)
    → ended ≡ false
    → k < length marks
    → r ≡ Wrong
    → Reads p new n (get_or marks k Branch) r
    → RefuteLeft p n ended (drop k marks)
    → ⊥
wrong_mark p new n ended marks k Wrong e lt is reads refutes =
    reads (drop (k + 1) marks) ((RefuteLeft-here p n ended marks k e lt).0 refutes)
wrong_mark p new n ended marks k More e lt is reads refutes = absurd (cc)
wrong_mark p new n ended marks k Ended e lt is reads refutes = absurd (cc)

-- the mark is read: what is left of the marks has to refute what is left of the states
pub next_mark :
    (p new : Path) (n : ℕ) (ended after : Bool) (marks : List Mark) (k : ℕ) (r : Reading)
    → ended ≡ false
    → k < length marks
    → new.inst ≡ p.inst
    → ((r ≡ More) × (after ≡ false)) ⊎ ((r ≡ Ended) × (after ≡ true))
    → Reads p new n (get_or marks k Branch) r
    → RefuteLeft p n ended (drop k marks)
    ↔ RefutesEach p.inst (weight_of p.weighting) p.least n (left_of after p.inst new.steps) (drop (k + 1) marks)
next_mark p new n ended after marks k r e lt same_inst how reads =
    let here = RefuteLeft-here p n ended marks k e lt in
    let there : RefuteTodo p n (todo p.inst p.steps) (get_or marks k Branch ∷ drop (k + 1) marks)
    ↔ RefutesEach p.inst (weight_of p.weighting) p.least n (left_of after p.inst new.steps) (drop (k + 1) marks) =
    read p new n after (get_or marks k Branch) r (drop (k + 1) marks) same_inst how reads in
    ((λ a. there.0 (here.0 a)), (λ b. here.1 (there.1 b)))
  where
    read :
        (p new : Path) (n : ℕ) (after : Bool) (m : Mark) (r : Reading) (ms : List Mark)
        → new.inst ≡ p.inst
        → ((r ≡ More) × (after ≡ false)) ⊎ ((r ≡ Ended) × (after ≡ true))
        → Reads p new n m r
        → RefuteTodo p n (todo p.inst p.steps) (m ∷ ms)
        ↔ RefutesEach p.inst (weight_of p.weighting) p.least n (left_of after p.inst new.steps) ms
    read p new n after m Wrong ms i (inl h) reads = absurd (cc (h.0))
    read p new n after m Wrong ms i (inr h) reads = absurd (cc (h.0))
    read p new n after m More ms i (inl h) reads =
        subst (λ (b : Bool). RefuteTodo p n (todo p.inst p.steps) (m ∷ ms) ↔ RefuteTodo p n (left_of b p.inst new.steps) ms) (sym h.1)
        (subst (λ (x : Inst). RefuteTodo p n (todo p.inst p.steps) (m ∷ ms) ↔ RefuteTodo p n (todo x new.steps) ms) i (reads ms))
    read p new n after m More ms i (inr h) reads = absurd (cc (h.0))
    read p new n after m Ended ms i (inl h) reads = absurd (cc (h.0))
    read p new n after m Ended ms i (inr h) reads =
        subst (λ (b : Bool). RefuteTodo p n (todo p.inst p.steps) (m ∷ ms) ↔ RefuteTodo p n (left_of b p.inst new.steps) ms) (sym h.1)
        (reads ms)

-- no mark is left
pub marks_end :
    (p : Path) (n : ℕ) (ended : Bool) (marks : List Mark) (k : ℕ)
    → length marks ≤ k
    → RefuteLeft p n ended (drop k marks)
    ↔ IsTrue ended
marks_end p n ended marks k le =
    subst (λ (ms : List Mark). RefuteLeft p n ended ms ↔ IsTrue ended) (sym (drop_past marks k le)) (at p n ended)
  where
    at : (p : Path) (n : ℕ) (ended : Bool) → RefuteLeft p n ended [] ↔ IsTrue ended
    at p n true = ((λ _. search rules), (λ _. tt))
    at p n false = ((λ h. absurd h), (λ h. absurd (search rules)))

    drop_past : (ms : List Mark) (k : ℕ) → length ms ≤ k → drop k ms ≡ []
    drop_past ms k le = grind (arith, common_steps)

-- what is left, said of a path with the numbers of an instance
pub of_path :
    (R : Type 0) (p : Path) (i : Inst) (w : Weighting) (q n : ℕ) (ended : Bool) (ms : List Mark)
    → p.inst ≡ i
    → p.weighting ≡ w
    → p.least ≡ q
    → (R ↔ RefutesEach i (weight_of w) q n (left_of ended i p.steps) ms)
    → (R ↔ RefuteLeft p n ended ms)
of_path R p i w q n ended ms a b d h = subst (λ (x : Path). R ↔ RefuteLeft x n ended ms) (path_is p i w q a b d) h

-- the other way, where the steps are those of another path
pub to_numbers :
    (R : Type 0) (p : Path) (i : Inst) (w : Weighting) (q n : ℕ) (ended : Bool) (steps : List Step) (ms : List Mark)
    → p.inst ≡ i
    → p.weighting ≡ w
    → p.least ≡ q
    → (R ↔ RefutesEach p.inst (weight_of p.weighting) p.least n (left_of ended p.inst steps) ms)
    → (R ↔ RefutesEach i (weight_of w) q n (left_of ended i steps) ms)
to_numbers R p i w q n ended steps ms a b d h =
    subst (λ (x : Path). R ↔ RefutesEach x.inst (weight_of x.weighting) x.least n (left_of ended x.inst steps) ms)
    (sym (path_is p i w q a b d)) h

-- what a path's least weight tells, said of the numbers that it was made of
pub refutation :
    (p : Path) (i : Inst) (w : Weighting) (n : ℕ) (given marks : List Mark) (b : Bool)
    → IsPath p
    → p.inst ≡ i
    → p.weighting ≡ w
    → given ≡ marks
    → (IsTrue b ↔ Refutes p.inst (weight_of p.weighting) p.least n given)
    → (IsTrue b ↔ IsRefutation i (weight_of w) n marks)
refutation p i w n given marks b path ei ew em h =
    subst (λ (x : Inst). IsTrue b ↔ IsRefutation x (weight_of w) n marks) ei
    (subst (λ (x : Weighting). IsTrue b ↔ IsRefutation p.inst (weight_of x) n marks) ew
    (subst (λ (ms : List Mark). IsTrue b ↔ IsRefutation p.inst (weight_of p.weighting) n ms) em (
      (λ t. record { least = p.least; is_least = path.is_least; refutes = h.0 t }),
      (λ r. h.1 (subst (λ (q : ℕ). Refutes p.inst (weight_of p.weighting) q n given)
          (least-one p.inst (weight_of p.weighting) r.least p.least r.is_least path.is_least) r.refutes)),
    )))

-- and that it bounds
pub refutation-bounds :
    (p : Path) (i : Inst) (n : ℕ) (given : List Mark) (b : Bool)
    → IsPath p
    → p.inst ≡ i
    → (IsTrue b ↔ Refutes p.inst (weight_of p.weighting) p.least n given)
    → IsTrue b
    → IsBounded i n
refutation-bounds p i n given b path ei h t =
    subst (λ (x : Inst). IsBounded x n) ei
    (refutes_bounds p.inst (weight_of p.weighting) p.least n given path.some path.is_least.bound (h.0 t))
