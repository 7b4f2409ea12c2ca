-- An entry has one right verdict; a sound plan's is yes.
use Rattle.std.proofs.Common.{◌≡◌, ℕ, zero, suc, ◌<◌, ◌≤◌, List, sym, subst, refl, ap, ◌∙◌, inl, inr, arith}
use Rattle.std.proofs.lemmas.Bool.{cases_order}
use Rattle.plan_geometry.specs.declared.instances.Inst.{Inst}
use Rattle.plan_geometry.specs.Placed.{Placed}
use Rattle.order_reader.specs.declared.faults.RowFault.{RowFault}
use Rattle.order_reader.specs.Instances.{IsGivenOf}
use Rattle.layer_symmetry.specs.declared.symmetries.Move.{Move}
use Rattle.layer_symmetry.specs.Variants.{IsVariants}
use Rattle.layer_symmetry.proofs.OneList.{variants-unique}
use Rattle.stack_builder.proofs.OrderSteps.{given-same}
use Rattle.plan_entries.specs.declared.entries.Plan.{Plan}
use Rattle.plan_entries.specs.declared.entries.Entry.{Entry}
use Rattle.plan_entries.specs.declared.entries.Entry.TheVariants as entries
use Rattle.plan_entries.specs.Entries.{variants_on, first_spots}
use Rattle.plan_soundness.specs.Sound.{KeepsSides, IsListedLayer, ListsLayers, ListsVariants, ShowsBound, TellsStatus, TellsAllowed, TellsStack, IsSound}
use Rattle.plan_soundness.proofs.Bounds.{bounded, within, greatest}
use Rattle.report_checker.specs.declared.verdicts.Clause.{Clause}
use Rattle.report_checker.specs.declared.verdicts.Clause.TheVariants.{Reduced, Layout, Variants, Bound, Status, Allowed, Stack}
use Rattle.report_checker.specs.declared.verdicts.Verdict.{Verdict}
use Rattle.report_checker.specs.declared.verdicts.Verdict.TheVariants as verdicts
use Rattle.report_checker.specs.Places.{IsFirstWithout, IsFirstDifference}
use Rattle.report_checker.specs.Verdicts.{clause_place, Holds, IsOtherVariant, IsItem, FailsFirst, IsPlanVerdict, IsVerdict, HasSoundPlan}
use Rattle.report_checker.specs.Laws.{SoundPlansAreAccepted, EntriesHaveOneVerdict, AcceptedPlansAreSound}
use Rattle.report_checker.proofs.Firsts.{one-without, one-difference, all-or-without, same-or-different}
use Rattle.report_checker.proofs.Parts.{variants-listed}

-- ---- the first clause that fails

earlier-hold : (p : Plan) (n : ℕ) → n ≤ 6 → (0 < n → KeepsSides p) → (1 < n → ListsLayers p) → (2 < n → ListsVariants p) → (3 < n → ShowsBound p) → (4 < n → TellsStatus p) → (5 < n → TellsAllowed p) → (c : Clause) → clause_place c < n → Holds p c
earlier-hold p n le r l v b s a Reduced lt = r lt
earlier-hold p n le r l v b s a Layout lt = l lt
earlier-hold p n le r l v b s a Variants lt = v lt
earlier-hold p n le r l v b s a Bound lt = b lt
earlier-hold p n le r l v b s a Status lt = s lt
earlier-hold p n le r l v b s a Allowed lt = a lt
earlier-hold p n le r l v b s a Stack lt = absurd (omega arith)

pub fails-reduced : (p : Plan) → (KeepsSides p → ⊥) → FailsFirst p Reduced 0
fails-reduced p wrong = record {
  earlier = λ c lt. absurd (omega arith);
  fails = wrong;
  item_is = refl;
}

pub fails-layout : (p : Plan) (place : ℕ) → KeepsSides p → IsFirstWithout (IsListedLayer p.order p.count) p.layers place → FailsFirst p Layout place
fails-layout p place r at = record {
  earlier = earlier-hold p 1 (omega arith) (λ _. r) (λ lt. absurd (omega arith)) (λ lt. absurd (omega arith)) (λ lt. absurd (omega arith)) (λ lt. absurd (omega arith)) (λ lt. absurd (omega arith));
  fails = λ all. all-or-without (IsListedLayer p.order p.count) p.layers place all at;
  item_is = at;
}

pub fails-variants : (p : Plan) (place : ℕ) (I : Inst) (vs : List (Move × Placed)) → KeepsSides p → ListsLayers p → IsGivenOf p.order I → IsVariants I (first_spots p.layers) vs → IsFirstDifference (variants_on I p.layers) vs place → FailsFirst p Variants place
fails-variants p place I vs r l g v at = record {
  earlier = earlier-hold p 2 (omega arith) (λ _. r) (λ _. l) (λ lt. absurd (omega arith)) (λ lt. absurd (omega arith)) (λ lt. absurd (omega arith)) (λ lt. absurd (omega arith));
  fails = λ h. same-or-different (variants_on I p.layers) vs place ((variants-listed p I vs g v).1 h) at;
  item_is = record { given = I; is_given = g; variants = vs; are_variants = v; differs = at };
}

pub fails-bound : (p : Plan) → KeepsSides p → ListsLayers p → ListsVariants p → (ShowsBound p → ⊥) → FailsFirst p Bound 0
fails-bound p r l v wrong = record {
  earlier = earlier-hold p 3 (omega arith) (λ _. r) (λ _. l) (λ _. v) (λ lt. absurd (omega arith)) (λ lt. absurd (omega arith)) (λ lt. absurd (omega arith));
  fails = wrong;
  item_is = refl;
}

pub fails-status : (p : Plan) → KeepsSides p → ListsLayers p → ListsVariants p → ShowsBound p → (TellsStatus p → ⊥) → FailsFirst p Status 0
fails-status p r l v b wrong = record {
  earlier = earlier-hold p 4 (omega arith) (λ _. r) (λ _. l) (λ _. v) (λ _. b) (λ lt. absurd (omega arith)) (λ lt. absurd (omega arith));
  fails = wrong;
  item_is = refl;
}

pub fails-allowed : (p : Plan) → KeepsSides p → ListsLayers p → ListsVariants p → ShowsBound p → TellsStatus p → (TellsAllowed p → ⊥) → FailsFirst p Allowed 0
fails-allowed p r l v b s wrong = record {
  earlier = earlier-hold p 5 (omega arith) (λ _. r) (λ _. l) (λ _. v) (λ _. b) (λ _. s) (λ lt. absurd (omega arith));
  fails = wrong;
  item_is = refl;
}

pub fails-stack : (p : Plan) → KeepsSides p → ListsLayers p → ListsVariants p → ShowsBound p → TellsStatus p → TellsAllowed p → (TellsStack p → ⊥) → FailsFirst p Stack 0
fails-stack p r l v b s a wrong = record {
  earlier = earlier-hold p 6 (omega arith) (λ _. r) (λ _. l) (λ _. v) (λ _. b) (λ _. s) (λ _. a);
  fails = wrong;
  item_is = refl;
}

-- ---- one right verdict

pub each-holds : (p : Plan) → IsSound p → (c : Clause) → Holds p c
each-holds p s Reduced = s.reduced
each-holds p s Layout = s.layout
each-holds p s Variants = s.variants
each-holds p s Bound = s.bound
each-holds p s Status = s.status
each-holds p s Allowed = s.allowed
each-holds p s Stack = s.stack

abbrev clause_at : ℕ → Clause
clause_at zero = Reduced
clause_at (suc zero) = Layout
clause_at (suc (suc zero)) = Variants
clause_at (suc (suc (suc zero))) = Bound
clause_at (suc (suc (suc (suc zero)))) = Status
clause_at (suc (suc (suc (suc (suc zero))))) = Allowed
clause_at (suc (suc (suc (suc (suc (suc n)))))) = Stack

at-place : (c : Clause) → clause_at (clause_place c) ≡ c
at-place Reduced = refl
at-place Layout = refl
at-place Variants = refl
at-place Bound = refl
at-place Status = refl
at-place Allowed = refl
at-place Stack = refl

one-clause : (p : Plan) (c d : Clause) (i j : ℕ) → FailsFirst p c i → FailsFirst p d j → c ≡ d
one-clause p c d i j a b =
    elim (cases_order (clause_place c) (clause_place d)) [
      | inl e ↦ sym (at-place c) ∙ (ap clause_at e ∙ at-place d)
      | inr o ↦ elim o [ inl less ↦ absurd (a.fails (b.earlier c less)) | inr more ↦ absurd (b.fails (a.earlier d more)) ]
    ]

other-is : (p : Plan) (i : ℕ) (I : Inst) (vs : List (Move × Placed)) → IsGivenOf p.order I → IsVariants I (first_spots p.layers) vs → IsOtherVariant p i → IsFirstDifference (variants_on I p.layers) vs i
other-is p i I vs g v a =
    let e = given-same p.order a.given I a.is_given g in
    let own : IsVariants I (first_spots p.layers) a.variants = subst (λ J. IsVariants J (first_spots p.layers) a.variants) e a.are_variants in
    let at : IsFirstDifference (variants_on I p.layers) a.variants i = subst (λ J. IsFirstDifference (variants_on J p.layers) a.variants i) e a.differs in
    subst (λ l. IsFirstDifference (variants_on I p.layers) l i) (variants-unique I (first_spots p.layers) vs v a.variants own) at

one-item : (p : Plan) (c : Clause) (i j : ℕ) → IsItem p c i → IsItem p c j → i ≡ j
one-item p Reduced i j a b = a ∙ sym b
one-item p Layout i j a b = one-without (IsListedLayer p.order p.count) p.layers i j a b
one-item p Variants i j a b =
    one-difference (variants_on b.given p.layers) b.variants i j (other-is p i b.given b.variants b.is_given b.are_variants a) b.differs
one-item p Bound i j a b = a ∙ sym b
one-item p Status i j a b = a ∙ sym b
one-item p Allowed i j a b = a ∙ sym b
one-item p Stack i j a b = a ∙ sym b

abbrev failing : Clause → ℕ → Verdict
failing c i = verdicts.No c i

same-no : (p : Plan) (c d : Clause) (i j : ℕ) → FailsFirst p c i → FailsFirst p d j → failing c i ≡ failing d j
same-no p c d i j a b =
    let e = one-clause p c d i j a b in
    let f = one-item p d i j (subst (λ x. IsItem p x i) e a.item_is) b.item_is in
    ap (λ x. failing x i) e ∙ ap (λ n. failing d n) f

one-of_plan : (p : Plan) (v w : Verdict) → IsPlanVerdict p v → IsPlanVerdict p w → w ≡ v
one-of_plan p verdicts.Yes verdicts.Yes h k = refl
one-of_plan p verdicts.Yes verdicts.Refused h k = absurd k
one-of_plan p verdicts.Yes (verdicts.No c i) h k = absurd (k.fails (each-holds p h c))
one-of_plan p verdicts.Refused w h k = absurd h
one-of_plan p (verdicts.No c i) verdicts.Yes h k = absurd (h.fails (each-holds p k c))
one-of_plan p (verdicts.No c i) verdicts.Refused h k = absurd k
one-of_plan p (verdicts.No c i) (verdicts.No d j) h k = same-no p d c j i k h

one-of_refused : (n : ℕ) (fault : RowFault) (v w : Verdict) → IsVerdict (entries.Refused n fault) v → IsVerdict (entries.Refused n fault) w → w ≡ v
one-of_refused n fault verdicts.Yes w h k = absurd h
one-of_refused n fault verdicts.Refused verdicts.Yes h k = absurd k
one-of_refused n fault verdicts.Refused verdicts.Refused h k = refl
one-of_refused n fault verdicts.Refused (verdicts.No c i) h k = absurd k
one-of_refused n fault (verdicts.No c i) w h k = absurd h

pub one-verdict : EntriesHaveOneVerdict
one-verdict (entries.Planned p) v h w k = one-of_plan p v w h k
one-verdict (entries.Refused n fault) v h w k = one-of_refused n fault v w h k

pub accepted : SoundPlansAreAccepted
accepted p s = (s, λ w k. one-of_plan p verdicts.Yes w s k)

-- ---- what a yes tells

pub tells-soundness : AcceptedPlansAreSound
tells-soundness (entries.Planned p) s = record {
  plan = p;
  is_planned = refl;
  sound = s;
  bounded = bounded p s;
  within = within p s;
  greatest = greatest p s;
}
tells-soundness (entries.Refused n fault) s = absurd s

pub yes-tells : (e : Entry) (v : Verdict) → IsVerdict e v → v ≡ verdicts.Yes → HasSoundPlan e
yes-tells e v h is = tells-soundness e (subst (λ w. IsVerdict e w) is h)
