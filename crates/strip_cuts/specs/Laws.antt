-- What strip cuts say of layouts.
use Rattle.std.specs.Prelude.{◌≡◌, ℕ, ◌+◌, List, length}
use Rattle.plan_geometry.specs.declared.spots.Spot.{Spot}
use Rattle.plan_geometry.specs.declared.spots.Way.TheVariants.{Lying, Standing}
use Rattle.plan_geometry.specs.declared.instances.Inst.{Inst}
use Rattle.plan_geometry.specs.Layout.{IsLayout, IsBounded}
use Rattle.weightings.specs.declared.certs.StripCut.{StripCut}
use Rattle.strip_cuts.specs.Cuts.{Meets, IsTrueCut, AcceptsStrip, cases_of}

-- each case lies or stands
abbrev pub CasesLieOrStand : Type 0
CasesLieOrStand = (spots : List Spot) → cases_of Lying spots + cases_of Standing spots ≡ length spots

-- the lying and the standing cases of a layout meet each true cut
abbrev pub LayoutsMeetCuts : Type 0
LayoutsMeetCuts =
    (I : Inst) (cut : StripCut) (spots : List Spot) → IsTrueCut I cut → IsLayout I spots
    → Meets I cut (cases_of Lying spots) (cases_of Standing spots)

-- an accepted strip certificate bounds every layout
abbrev pub StripsBound : Type 0
StripsBound = (I : Inst) (n : ℕ) (cuts : List StripCut) → AcceptsStrip I n cuts → IsBounded I n
