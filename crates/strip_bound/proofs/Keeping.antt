-- Kept cuts stand for all: one cut more, kept or left out.
use Rattle.std.proofs.Common.{◌≡◌, ℕ, ◌<◌, ◌⊎◌, ◌≢◌, inl, inr, None, List, [], ◌∷◌, ◌++◌, length, get_or, set, arith, subst, sym, ap, ◌∙◌}
use Rattle.std.proofs.Math.ListN.{get_or-append}
use Rattle.std.proofs.Math.Seq.{get_or-append_seam}
use Rattle.std.proofs.lemmas.Bool.{cases_lt}
use Rattle.std.proofs.lemmas.List.{length-append, get_or-set_same, get_or-set_other}
use Rattle.plan_geometry.specs.declared.instances.Inst.{Inst}
use Rattle.plan_geometry.specs.declared.spots.Axis.{Axis}
use Rattle.weightings.specs.declared.certs.StripCut.{StripCut}
use Rattle.weightings.specs.declared.certs.StripCut.TheVariants.{Area}
use Rattle.strip_cuts.specs.Cuts.{IsTrueCut, Meets}
use Rattle.strip_bound.specs.declared.seen.Seen.{Seen}
use Rattle.strip_bound.specs.Firsts.{AreTrue, MeetsAll, IsFirst}
use Rattle.strip_bound.specs.CutLists.{Counts, IsLineCut}
use Rattle.strip_bound.specs.Kept.{StandsFor, IsKept, IsSeen, AreKept}

all-left : (I : Inst) (xs ys : List StripCut) (h v : ℕ) → MeetsAll I (xs ++ ys) h v → MeetsAll I xs h v
all-left I xs ys h v m = λ k lt. subst (λ d. Meets I d h v) (get_or-append xs ys Area k lt) (m k (omega (arith, length-append xs ys)))

all-last : (I : Inst) (xs : List StripCut) (c : StripCut) (h v : ℕ) → MeetsAll I (xs ++ c ∷ []) h v → Meets I c h v
all-last I xs c h v m = subst (λ d. Meets I d h v) (get_or-append_seam xs c [] Area) (m (length xs) (omega (arith, length-append xs (c ∷ []))))

all-push : (I : Inst) (xs : List StripCut) (c : StripCut) (h v : ℕ) → MeetsAll I xs h v → Meets I c h v → MeetsAll I (xs ++ c ∷ []) h v
all-push I xs c h v m x = λ k lt.
    elim (cases_lt k (length xs)) [
      | inl less ↦ subst (λ d. Meets I d h v) (sym (get_or-append xs (c ∷ []) Area k less)) (m k less)
      | inr last ↦
          let e : k ≡ length xs = omega (arith, length-append xs (c ∷ []), lt) in
          subst (λ j. Meets I (get_or (xs ++ c ∷ []) j Area) h v) (sym e) (subst (λ d. Meets I d h v) (sym (get_or-append_seam xs c [] Area)) x)
    ]

first-left : (I : Inst) (xs ys : List StripCut) (h v : ℕ) (c : StripCut) → IsFirst I xs h v c → IsFirst I (xs ++ ys) h v c
first-left I xs ys h v c f = record {
  place = f.place;
  within = omega (arith, f.within, length-append xs ys);
  here = get_or-append xs ys Area f.place f.within ∙ f.here;
  unmet = f.unmet;
  before = λ k lt. subst (λ d. Meets I d h v) (sym (get_or-append xs ys Area k (omega (arith, lt, f.within)))) (f.before k lt);
}

first-last : (I : Inst) (xs : List StripCut) (h v : ℕ) (c : StripCut) → MeetsAll I xs h v → ¬ Meets I c h v → IsFirst I (xs ++ c ∷ []) h v c
first-last I xs h v c m u = record {
  place = length xs;
  within = omega (arith, length-append xs (c ∷ []));
  here = get_or-append_seam xs c [] Area;
  unmet = u;
  before = λ k lt. subst (λ d. Meets I d h v) (sym (get_or-append xs (c ∷ []) Area k lt)) (m k lt);
}

first-split : (I : Inst) (xs : List StripCut) (c : StripCut) (h v : ℕ) (d : StripCut) → IsFirst I (xs ++ c ∷ []) h v d → IsFirst I xs h v d ⊎ ((c ≡ d) × MeetsAll I xs h v)
first-split I xs c h v d f =
    elim (cases_lt f.place (length xs)) [
      | inl less ↦ inl (record {
        place = f.place;
        within = less;
        here = sym (get_or-append xs (c ∷ []) Area f.place less) ∙ f.here;
        unmet = f.unmet;
        before = λ k lt. subst (λ e. Meets I e h v) (get_or-append xs (c ∷ []) Area k (omega (arith, lt, less))) (f.before k lt);
      })
      | inr last ↦
          let e : f.place ≡ length xs = omega (arith, length-append xs (c ∷ []), f.within) in
          let same : c ≡ d = sym (get_or-append_seam xs c [] Area) ∙ (ap (λ j. get_or (xs ++ c ∷ []) j Area) (sym e) ∙ f.here) in
          inr (same, λ k lt. subst (λ x. Meets I x h v) (get_or-append xs (c ∷ []) Area k lt) (f.before k (omega (arith, lt, e))))
    ]

true-push : (I : Inst) (xs : List StripCut) (c : StripCut) → AreTrue I xs → IsTrueCut I c → AreTrue I (xs ++ c ∷ [])
true-push I xs c t x = λ k lt.
    elim (cases_lt k (length xs)) [
      | inl less ↦ subst (λ d. IsTrueCut I d) (sym (get_or-append xs (c ∷ []) Area k less)) (t k less)
      | inr last ↦
          let e : k ≡ length xs = omega (arith, length-append xs (c ∷ []), lt) in
          subst (λ j. IsTrueCut I (get_or (xs ++ c ∷ []) j Area)) (sym e) (subst (λ d. IsTrueCut I d) (sym (get_or-append_seam xs c [] Area)) x)
    ]

pub stands-none : (I : Inst) → StandsFor I [] []
stands-none I = record {
  are_true = λ k lt. absurd (omega (arith, lt));
  meets = λ h v m. m;
  first = λ h v c f. f;
}

pub stands-push : (I : Inst) (all kept : List StripCut) (c : StripCut) → IsTrueCut I c → StandsFor I all kept → StandsFor I (all ++ c ∷ []) (kept ++ c ∷ [])
stands-push I all kept c x s = record {
  are_true = true-push I kept c s.are_true x;
  meets = λ h v m. all-push I all c h v (s.meets h v (all-left I kept (c ∷ []) h v m)) (all-last I kept c h v m);
  first = λ h v d f. elim (first-split I kept c h v d f) [
    | inl g ↦ first-left I all (c ∷ []) h v d (s.first h v d g)
    | inr p ↦ subst (λ e. IsFirst I (all ++ c ∷ []) h v e) p.0
        (first-last I all h v c (s.meets h v p.1) (subst (λ e. ¬ Meets I e h v) (sym p.0) f.unmet))
  ];
}

pub stands-skip :
    (I : Inst) (all kept : List StripCut) (k : ℕ)
    → k < length kept
    → StandsFor I all kept
    → StandsFor I (all ++ get_or kept k Area ∷ []) kept
stands-skip I all kept k lt s = record {
  are_true = s.are_true;
  meets = λ h v m. all-push I all (get_or kept k Area) h v (s.meets h v m) (m k lt);
  first = λ h v d f. first-left I all (get_or kept k Area ∷ []) h v d (s.first h v d f);
}

kept-left : (axis : Axis) (I : Inst) (n : Counts) (xs ys : List StripCut) → IsKept axis I n xs → IsKept axis I n (xs ++ ys)
kept-left axis I n xs ys x = record {
  place = x.place;
  within = omega (arith, x.within, length-append xs ys);
  is_cut = subst (λ d. IsLineCut axis I n d) (sym (get_or-append xs ys Area x.place x.within)) x.is_cut;
}

kept-last : (axis : Axis) (I : Inst) (n : Counts) (xs : List StripCut) (c : StripCut) → IsLineCut axis I n c → IsKept axis I n (xs ++ c ∷ [])
kept-last axis I n xs c x = record {
  place = length xs;
  within = omega (arith, length-append xs (c ∷ []));
  is_cut = subst (λ d. IsLineCut axis I n d) (sym (get_or-append_seam xs c [] Area)) x;
}

-- one number more is seen, of which a cut is kept
pub kept-more :
    (axis : Axis) (I : Inst) (seen : List Seen) (cuts new : List StripCut) (d a : ℕ) (s : Seen) (c : StripCut)
    → d < length seen
    → AreKept axis I seen cuts
    → ((b : ℕ) → IsSeen b s → IsSeen b (get_or seen d (record { first = None; second = None })) ⊎ (b ≡ a))
    → IsLineCut axis I (record { a = a; b = d }) c
    → new ≡ cuts ++ c ∷ []
    → AreKept axis I (set seen d s) new
kept-more axis I seen cuts new d a s c lt kept one x e j b h =
    subst (λ cs. IsKept axis I (record { a = b; b = j }) cs) (sym e)
    (elim (cases_lt j d) [
      | inl less ↦ other (omega (arith, less))
      | inr more ↦ elim (cases_lt d j) [
        | inl above ↦ other (omega (arith, above))
        | inr below ↦ let same : j ≡ d = omega (arith, more, below) in
            here same (subst (λ t. IsSeen b t) (ap (λ i. get_or (set seen d s) i (record { first = None; second = None })) same ∙ get_or-set_same seen d s (record { first = None; second = None }) lt) h)
      ]
    ])
  where
    other : j ≢ d → IsKept axis I (record { a = b; b = j }) (cuts ++ c ∷ [])
    other ne = kept-left axis I (record { a = b; b = j }) cuts (c ∷ [])
        (kept j b (subst (λ t. IsSeen b t) (get_or-set_other seen d j s (record { first = None; second = None }) ne) h))

    here : j ≡ d → IsSeen b s → IsKept axis I (record { a = b; b = j }) (cuts ++ c ∷ [])
    here same g = elim (one b g) [
      | inl old ↦ kept-left axis I (record { a = b; b = j }) cuts (c ∷ [])
          (kept j b (subst (λ i. IsSeen b (get_or seen i (record { first = None; second = None }))) (sym same) old))
      | inr new ↦ kept-last axis I (record { a = b; b = j }) cuts c
          (subst (λ m. IsLineCut axis I (record { a = m; b = j }) c) (sym new) (subst (λ m. IsLineCut axis I (record { a = a; b = m }) c) (sym same) x))
    ]
