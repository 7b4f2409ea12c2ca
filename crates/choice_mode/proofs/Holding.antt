-- What a choice that was judged to be right tells of the pallets.
use Rattle.std.proofs.Common.{◌≡◌, ◌≤◌, ◌<◌, ◌∙◌, ℕ, zero, suc, List, [], ◌∷◌, Option, Some, None, arith, refl, sym, subst, ap, inl, inr}
use Rattle.std.specs.Prelude.{Bool, true, false, not, nat_lt, ◌||◌, Contains, filter, map, cond}
use Rattle.std.proofs.lemmas.List.Elements.{Contains-append_right}
use Rattle.std.proofs.lemmas.Bool.{lt-ltb, cases_lt}
use Rattle.order_reader.specs.Orders.{OrderValue}
use Rattle.order_reader.specs.Instances.{IsBoundFor}
use Rattle.plan_entries.specs.declared.entries.Plan.{Plan}
use Rattle.plan_entries.specs.declared.entries.Entry.{Entry}
use Rattle.plan_entries.specs.declared.entries.Entry.TheVariants.{Planned}
use Rattle.plan_soundness.specs.Sound.{IsSound}
use Rattle.plan_soundness.proofs.Bounds.{bounded, reached}
use Rattle.report_checker.specs.declared.verdicts.Verdict.{Verdict}
use Rattle.report_checker.specs.declared.verdicts.Verdict.TheVariants as verdicts
use Rattle.report_checker.specs.Verdicts.{IsVerdict}
use Rattle.par_judge.specs.Judged.{AreVerdicts}
use Rattle.pallet_choice.specs.declared.choices.Score.{Score}
use Rattle.pallet_choice.specs.Choices.{IsFirstOfMost, IsChosen, AreRivals, entries_above}
use Rattle.pallet_choice.specs.Text.{TailValue, bound_told, told_of_both}
use Rattle.check_mode.specs.Verdicts.{is_no, any_no}
use Rattle.choice_mode.specs.Scores.{score_of, scores_of}
use Rattle.choice_mode.specs.Judging.{IsRightChoice}
use Rattle.choice_mode.specs.Laws.{HasLayerOf, NoOtherHoldsMore, HoldsMost, ChosenHoldsMost}
use Rattle.choice_mode.proofs.EntryScores.{further, is-scored, scored-by, none-scored}

-- ---- planned entries are sound where no verdict is no

either-false : (a b : Bool) → (a || b) ≡ false → (a ≡ false) × (b ≡ false)
either-false true b e = absurd cc
either-false false b e = (refl, e)

not-no : (p : Plan) (v : Verdict) → is_no v ≡ false → IsVerdict (Planned p) v → IsSound p
not-no p verdicts.Yes calm is = is
not-no p verdicts.Refused calm is = absurd is
not-no p (verdicts.No clause item) calm is = absurd cc

rest-are : (e : Entry) (v : Verdict) (es : List Entry) (vs : List Verdict) → AreVerdicts (e ∷ es) (v ∷ vs) → AreVerdicts es vs
rest-are e v es vs a = record { as_many = omega (arith, a.as_many); each = λ k x w h g. a.each (suc k) x w h g }

sound : (es : List Entry) (vs : List Verdict) → AreVerdicts es vs → any_no vs ≡ false → (p : Plan) → Contains es (Planned p) → IsSound p
sound [] vs are calm p (k, lt, at) = absurd (omega (arith, lt))
sound (e ∷ es) [] are calm p has = absurd (omega (arith, are.as_many))
sound (e ∷ es) (v ∷ vs) are calm p (zero, lt, at) =
    not-no p v (either-false (is_no v) (any_no vs) calm).0 (subst (λ (x : Entry). IsVerdict x v) at (are.each 0 e v refl refl))
sound (e ∷ es) (v ∷ vs) are calm p (suc k, lt, at) =
    sound es vs (rest-are e v es vs are) (either-false (is_no v) (any_no vs) calm).1 p (k, omega (arith, lt), at)

-- ---- who may hold more is a rival

kept-behind : {X : Type 0} (test : X → Bool) (x y : X) (xs : List X) (b : Bool) → Contains (filter test xs) x → Contains (cond b (y ∷ filter test xs) (filter test xs)) x
kept-behind test x y xs true has = further y x (filter test xs) has
kept-behind test x y xs false has = has

-- what passes a filter is left by it
kept : {X : Type 0} (test : X → Bool) (x : X) (xs : List X) → test x ≡ true → Contains xs x → Contains (filter test xs) x
kept test x [] passes (k, lt, at) = absurd (omega (arith, lt))
kept {X} test x (y ∷ xs) passes (zero, lt, at) =
    let first : filter test (y ∷ xs) ≡ y ∷ filter test xs = ap (λ b. cond b (y ∷ filter test xs) (filter test xs)) (ap test at ∙ passes) in
    subst (λ (l : List X). Contains l x) (sym first) (0, omega arith, at)
kept test x (y ∷ xs) passes (suc k, lt, at) = kept-behind test x y xs (test y) (kept test x xs passes (k, omega (arith, lt), at))

mapped : {X Y : Type 0} (f : X → Y) (x : X) (xs : List X) → Contains xs x → Contains (map f xs) (f x)
mapped f x [] (k, lt, at) = absurd (omega (arith, lt))
mapped f x (y ∷ xs) (zero, lt, at) = (0, omega arith, ap f at)
mapped f x (y ∷ xs) (suc k, lt, at) = further (f y) (f x) (map f xs) (mapped f x xs (k, omega (arith, lt), at))

-- an entry whose bound is above the count is among the rivals
is-rival : (n : ℕ) (scores : List Score) (s : Score) → n < s.bound → Contains scores s → Contains (map (λ r. r.0) (map bound_told (entries_above n scores))) s.number
is-rival n scores s more has =
    let left : Contains (entries_above n scores) s = kept (λ (t : Score). nat_lt n t.bound) s scores (lt-ltb n s.bound more) has in
    mapped (λ (r : ℕ × ℕ). r.0) (bound_told s) (map bound_told (entries_above n scores)) (mapped bound_told s (entries_above n scores) left)

-- what bounds the layers of an order is bounded by all that is greater
bound-more : (o : OrderValue) (m n : ℕ) → m ≤ n → IsBoundFor o m → IsBoundFor o n
bound-more o m n le b = record { real = b.real; is_real = b.is_real; bounded = λ spots layout. omega (arith, le, b.bounded spots layout) }

no-other : (es : List Entry) (n : ℕ) → ((p : Plan) → Contains es (Planned p) → IsSound p) → NoOtherHoldsMore es (map (λ r. r.0) (map bound_told (entries_above n (scores_of es)))) n
no-other es n sounds p has other =
    elim (cases_lt n p.bound) [
      | inl more ↦ absurd (other (is-rival n (scores_of es) (score_of p) more (is-scored es p has)))
      | inr le ↦ bound-more p.order p.bound n le (bounded p (sounds p has))
    ]

-- ---- the chosen one

is-first : (scores : List Score) (most : Score) → IsFirstOfMost scores most → Contains scores most
is-first scores most f =
    subst (λ (l : List Score). Contains l most) (sym f.parts) (Contains-append_right f.before (most ∷ f.after) most (0, omega arith, refl))

has-layer : (es : List Entry) (most : Score) → ((p : Plan) → Contains es (Planned p) → IsSound p) → Contains (scores_of es) most → HasLayerOf es most.number most.count
has-layer es most sounds has =
    let (p, there, is) = scored-by es most has in
    let (spots, layer, count) = reached p (sounds p there) in
    record {
      plan = p;
      is_entry = there;
      number_is = ap (λ (s : Score). s.number) is;
      spots = spots;
      layer = layer;
      count_is = count ∙ ap (λ (s : Score). s.count) is;
    }

holds : (es : List Entry) (chosen : Option Score) (rivals : List Score) → ((p : Plan) → Contains es (Planned p) → IsSound p) → IsChosen (scores_of es) chosen → AreRivals (scores_of es) chosen rivals
    → HoldsMost es (told_of_both chosen rivals).chosen (told_of_both chosen rivals).rivals
holds es None rivals sounds none are = none-scored es none
holds es (Some most) rivals sounds first are = (
  has-layer es most sounds (is-first (scores_of es) most first),
  subst (λ (rs : List Score). NoOtherHoldsMore es (map (λ r. r.0) (map bound_told rs)) most.count) (sym are) (no-other es most.count sounds),
)

right-of : (right : Bool) → not right ≡ false → right ≡ true
right-of true e = refl
right-of false e = absurd cc

pub chosen-holds : ChosenHoldsMost
chosen-holds read wrote j =
    let r : IsRightChoice j.file j.verdicts = j.is_right.1 (right-of j.right j.finding) in
    let sounds = sound j.file.entries j.verdicts j.are_verdicts r.no_no in
    subst (λ (t : TailValue). HoldsMost j.file.entries t.chosen t.rivals) (sym r.tail) (holds j.file.entries r.chosen r.rivals sounds r.is_choice.is_chosen r.is_choice.are_rivals)
