-- What entries cover, one after another.
use Rattle.std.proofs.Common.{◌≡◌, ◌≤◌, ◌<◌, ℕ, zero, suc, List, [], ◌∷◌, ◌++◌, length, arith, refl, sym, subst, ◌∙◌, ap}
use Rattle.std.specs.Prelude.{Bool, true, false, ◌||◌, nat_lt, Contains, All}
use Rattle.std.proofs.lemmas.List.Elements.{filter_map-append, All-nil, All-cons}
use Rattle.std.proofs.lemmas.Bool.{lt-ltb, le-ltb}
use Rattle.plan_entries.specs.declared.entries.Plan.{Plan}
use Rattle.plan_entries.specs.declared.entries.Entry.{Entry}
use Rattle.plan_entries.specs.declared.entries.Entry.TheVariants.{Planned, Refused}
use Rattle.plan_entries.specs.Entries.{is_refused, any_refused}
use Rattle.case_design.specs.declared.best.Cover.{Cover}
use Rattle.design_mode.specs.Covers.{cover_of, cover_in, covers_of}

covers-more : (es fs : List Entry) → covers_of (es ++ fs) ≡ covers_of es ++ covers_of fs
covers-more es fs = filter_map-append cover_in es fs

-- what one more entry covers joins what was kept
pub covers-kept : (es : List Entry) (e : Entry) (old new : List Cover) → new ≡ old ++ covers_of (e ∷ []) → old ≡ covers_of es → new ≡ covers_of (es ++ e ∷ [])
covers-kept es e old new kept is = kept ∙ ap (λ (cs : List Cover). cs ++ covers_of (e ∷ [])) is ∙ sym (covers-more es (e ∷ []))

-- ---- how many there are

few : (es : List Entry) → length (covers_of es) ≤ length es
few [] = omega arith
few (Planned p ∷ es) = omega (arith, few es)
few (Refused n fault ∷ es) = omega (arith, few es)

all-covered : (es : List Entry) → any_refused es ≡ false → length (covers_of es) ≡ length es
all-covered [] none = refl
all-covered (Planned p ∷ es) none = omega (arith, all-covered es none)
all-covered (Refused n fault ∷ es) none = absurd cc

fewer-covered : (es : List Entry) → any_refused es ≡ true → length (covers_of es) < length es
fewer-covered [] some = absurd cc
fewer-covered (Planned p ∷ es) some = omega (arith, fewer-covered es some)
fewer-covered (Refused n fault ∷ es) some = omega (arith, few es)

-- there are fewer than entries exactly where one is of a refused row
pub refused-by : (es : List Entry) (m n : ℕ) → m ≡ length (covers_of es) → n ≡ length es → any_refused es ≡ nat_lt m n
refused-by es m n some all = by-any (any_refused es) refl
  where
    by-any : (b : Bool) → any_refused es ≡ b → any_refused es ≡ nat_lt m n
    by-any true e = e ∙ sym (lt-ltb m n (omega (arith, fewer-covered es e, some, all)))
    by-any false e = e ∙ sym (le-ltb m n (omega (arith, all-covered es e, some, all)))

-- ---- whose they are

pub further : {X : Type 0} (y x : X) (xs : List X) → Contains xs x → Contains (y ∷ xs) x
further y x xs (k, lt, at) = (suc k, omega (arith, lt), at)

-- what a planned entry covers is one of them
pub is-covered : (es : List Entry) (p : Plan) → Contains es (Planned p) → Contains (covers_of es) (cover_of p)
is-covered [] p (k, lt, at) = absurd (omega (arith, lt))
is-covered (e ∷ es) p (zero, lt, at) = subst (λ (x : Entry). Contains (covers_of (x ∷ es)) (cover_of p)) (sym at) (0, omega arith, refl)
is-covered (Planned q ∷ es) p (suc k, lt, at) = further (cover_of q) (cover_of p) (covers_of es) (is-covered es p (k, omega (arith, lt), at))
is-covered (Refused n fault ∷ es) p (suc k, lt, at) = is-covered es p (k, omega (arith, lt), at)

-- each of them is that of a planned entry
pub covered-by : (es : List Entry) (c : Cover) → Contains (covers_of es) c → (p : Plan) × Contains es (Planned p) × (cover_of p ≡ c)
covered-by [] c (k, lt, at) = absurd (omega (arith, lt))
covered-by (Planned q ∷ es) c (zero, lt, at) = (q, (0, omega arith, refl), at)
covered-by (Planned q ∷ es) c (suc k, lt, at) =
    let (p, there, is) = covered-by es c (k, omega (arith, lt), at) in
    (p, further (Planned q) (Planned p) es there, is)
covered-by (Refused n fault ∷ es) c has =
    let (p, there, is) = covered-by es c has in
    (p, further (Refused n fault) (Planned p) es there, is)

-- where there are none, each entry is of a refused row
pub none-covered : (es : List Entry) → covers_of es ≡ [] → All (λ e. is_refused e ≡ true) es
none-covered [] none = All-nil (λ (e : Entry). is_refused e ≡ true)
none-covered (Planned p ∷ es) none = absurd cc
none-covered (Refused n fault ∷ es) none = All-cons (λ (e : Entry). is_refused e ≡ true) (Refused n fault) es refl (none-covered es none)
