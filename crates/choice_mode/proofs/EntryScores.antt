-- The scores of entries, one after another.
use Rattle.std.proofs.Common.{◌≡◌, ◌≤◌, ◌<◌, ℕ, zero, suc, List, [], ◌∷◌, ◌++◌, length, arith, refl, sym, subst, ◌∙◌, ap}
use Rattle.std.specs.Prelude.{Bool, true, false, nat_lt, Contains, All}
use Rattle.std.proofs.lemmas.List.Elements.{filter_map-append, All-nil, All-cons}
use Rattle.std.proofs.lemmas.Bool.{lt-ltb, le-ltb}
use Rattle.pallet_choice.specs.declared.choices.Score.{Score}
use Rattle.plan_entries.specs.declared.entries.Plan.{Plan}
use Rattle.plan_entries.specs.declared.entries.Entry.{Entry}
use Rattle.plan_entries.specs.declared.entries.Entry.TheVariants.{Planned, Refused}
use Rattle.plan_entries.specs.Entries.{is_refused, any_refused}
use Rattle.choice_mode.specs.Scores.{score_of, score_in, scores_of}

scores-more : (es fs : List Entry) → scores_of (es ++ fs) ≡ scores_of es ++ scores_of fs
scores-more es fs = filter_map-append score_in es fs

-- the score of one more entry joins those that were kept
pub scores-kept : (es : List Entry) (e : Entry) (old new : List Score) → new ≡ old ++ scores_of (e ∷ []) → old ≡ scores_of es → new ≡ scores_of (es ++ e ∷ [])
scores-kept es e old new kept is = kept ∙ ap (λ (ss : List Score). ss ++ scores_of (e ∷ [])) is ∙ sym (scores-more es (e ∷ []))

-- ---- how many there are

-- no more than entries
few : (es : List Entry) → length (scores_of es) ≤ length es
few [] = omega arith
few (Planned p ∷ es) = omega (arith, few es)
few (Refused n fault ∷ es) = omega (arith, few es)

-- as many, where no entry is of a refused row
all-scored : (es : List Entry) → any_refused es ≡ false → length (scores_of es) ≡ length es
all-scored [] none = refl
all-scored (Planned p ∷ es) none = omega (arith, all-scored es none)
all-scored (Refused n fault ∷ es) none = absurd cc

-- fewer, where one is
fewer-scored : (es : List Entry) → any_refused es ≡ true → length (scores_of es) < length es
fewer-scored [] some = absurd cc
fewer-scored (Planned p ∷ es) some = omega (arith, fewer-scored es some)
fewer-scored (Refused n fault ∷ es) some = omega (arith, few es)

-- there are fewer scores than entries exactly where one is of a refused row
pub refused-by : (es : List Entry) (m n : ℕ) → m ≡ length (scores_of es) → n ≡ length es → any_refused es ≡ nat_lt m n
refused-by es m n some all = by-any (any_refused es) refl
  where
    by-any : (b : Bool) → any_refused es ≡ b → any_refused es ≡ nat_lt m n
    by-any true e = e ∙ sym (lt-ltb m n (omega (arith, fewer-scored es e, some, all)))
    by-any false e = e ∙ sym (le-ltb m n (omega (arith, all-scored es e, some, all)))

-- ---- whose they are

pub further : {X : Type 0} (y x : X) (xs : List X) → Contains xs x → Contains (y ∷ xs) x
further y x xs (k, lt, at) = (suc k, omega (arith, lt), at)

-- the score of a planned entry is one of them
pub is-scored : (es : List Entry) (p : Plan) → Contains es (Planned p) → Contains (scores_of es) (score_of p)
is-scored [] p (k, lt, at) = absurd (omega (arith, lt))
is-scored (e ∷ es) p (zero, lt, at) = subst (λ (x : Entry). Contains (scores_of (x ∷ es)) (score_of p)) (sym at) (0, omega arith, refl)
is-scored (Planned q ∷ es) p (suc k, lt, at) = further (score_of q) (score_of p) (scores_of es) (is-scored es p (k, omega (arith, lt), at))
is-scored (Refused n fault ∷ es) p (suc k, lt, at) = is-scored es p (k, omega (arith, lt), at)

-- a score is that of a planned entry
pub scored-by : (es : List Entry) (s : Score) → Contains (scores_of es) s → (p : Plan) × Contains es (Planned p) × (score_of p ≡ s)
scored-by [] s (k, lt, at) = absurd (omega (arith, lt))
scored-by (Planned q ∷ es) s (zero, lt, at) = (q, (0, omega arith, refl), at)
scored-by (Planned q ∷ es) s (suc k, lt, at) =
    let (p, there, is) = scored-by es s (k, omega (arith, lt), at) in
    (p, further (Planned q) (Planned p) es there, is)
scored-by (Refused n fault ∷ es) s has =
    let (p, there, is) = scored-by es s has in
    (p, further (Refused n fault) (Planned p) es there, is)

-- where there are none, each entry is of a refused row
pub none-scored : (es : List Entry) → scores_of es ≡ [] → All (λ e. is_refused e ≡ true) es
none-scored [] none = All-nil (λ (e : Entry). is_refused e ≡ true)
none-scored (Planned p ∷ es) none = absurd cc
none-scored (Refused n fault ∷ es) none = All-cons (λ (e : Entry). is_refused e ≡ true) (Refused n fault) es refl (none-scored es none)
