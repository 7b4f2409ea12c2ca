-- A strip certificate bounds every layout.
use Rattle.std.proofs.Common.{◌≡◌, ℕ, suc, ◌+◌, ◌-◌, ◌≤◌, inl, inr, List, [], ◌∷◌, length, take, arith, subst, sym}
use Rattle.std.specs.Prelude.{slice_index_or}
use Rattle.std.proofs.lemmas.Bool.{cases_lt}
use Rattle.std.proofs.lemmas.List.{length-take-le}
use Rattle.plan_geometry.specs.declared.spots.Spot.{Spot}
use Rattle.plan_geometry.specs.declared.spots.Axis.TheVariants.{X, Y}
use Rattle.plan_geometry.specs.declared.spots.Way.{Way}
use Rattle.plan_geometry.specs.declared.spots.Way.TheVariants.{Lying, Standing}
use Rattle.plan_geometry.specs.declared.instances.Inst.{Inst}
use Rattle.plan_geometry.specs.Layout.{IsLayout, area_bound_of}
use Rattle.plan_geometry.proofs.Counting.{area_bounds}
use Rattle.plan_geometry.proofs.LayoutSteps.{IsLayout-take}
use Rattle.weightings.specs.declared.certs.StripCut.{StripCut}
use Rattle.weightings.specs.declared.certs.StripCut.TheVariants.{Area, X as LinesOfX, Y as LinesOfY}
use Rattle.strip_cuts.specs.Cuts.{Meets, AcceptsStrip, one_if_same, cases_of}
use Rattle.strip_cuts.specs.Laws.{CasesLieOrStand, LayoutsMeetCuts, StripsBound}
use Rattle.strip_cuts.proofs.Lines.{meets-lines}

pub lie_or_stand : CasesLieOrStand
lie_or_stand [] = omega arith
lie_or_stand (s ∷ ss) = one_case s.way (cases_of Lying ss) (cases_of Standing ss) (length ss) (lie_or_stand ss)
  where
    one_case : (w : Way) (h v n : ℕ) → h + v ≡ n → (one_if_same Lying w + h) + (one_if_same Standing w + v) ≡ suc n
    one_case Lying h v n e = omega arith
    one_case Standing h v n e = omega arith

pub meet_cuts : LayoutsMeetCuts
meet_cuts I Area ss is_true layout =
    let few : length ss ≤ area_bound_of I = area_bounds I ss layout in
    let all : cases_of Lying ss + cases_of Standing ss ≡ length ss = lie_or_stand ss in
    subst (λ n. n ≤ area_bound_of I) (sym all) few
meet_cuts I (LinesOfX a b q) ss is_true layout = meets-lines X I a b q ss is_true layout
meet_cuts I (LinesOfY a b q) ss is_true layout = meets-lines Y I a b q ss is_true layout

pub bound : StripsBound
bound I n cuts accepts spots layout =
    elim (cases_lt n (length spots)) [
      | inl more ↦ absurd (too_many I n cuts accepts (take (n + 1) spots) (IsLayout-take I (n + 1) spots layout) (length-take-le (n + 1) spots (omega arith)))
      | inr few ↦ few
    ]
  where
    too_many : (I : Inst) (n : ℕ) (cuts : List StripCut) → AcceptsStrip I n cuts → (ts : List Spot) → IsLayout I ts → length ts ≡ n + 1 → ⊥
    too_many I n cuts accepts ts layout e =
        let all : cases_of Lying ts + cases_of Standing ts ≡ length ts = lie_or_stand ts in
        let x = accepts.each (cases_of Lying ts) (omega arith) in
        let v : (n + 1) - cases_of Lying ts ≡ cases_of Standing ts = omega arith in
        let cut : StripCut = slice_index_or cuts (cases_of Lying ts) Area in
        let met : Meets I cut (cases_of Lying ts) (cases_of Standing ts) = meet_cuts I cut ts x.is_true layout in
        x.unmet (subst (λ k. Meets I cut (cases_of Lying ts) k) (sym v) met)
