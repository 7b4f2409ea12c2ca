-- Laws over the definitions.
use Rattle.std.specs.Prelude.{◌≡◌, ℕ, ◌+◌, ◌<◌, ◌≤◌, List, [], map}
use Rattle.plan_geometry.specs.declared.instances.Inst.{Inst}
use Rattle.plan_geometry.specs.Layout.{IsLayout}
use Rattle.raster_points.specs.Places.{IsNext}
use Rattle.cert_rules.specs.declared.steps.Step.{Step}
use Rattle.cert_rules.specs.Next.{next}
use Rattle.cert_rules.specs.Corner.{state_of}
use Rattle.cert_rules.specs.Refute.{Refutes}
use Rattle.cert_rules.specs.Walk.{walked, mark_of, NoneHas}
use Rattle.cert_rules.specs.Path.{IsLawfulPath}

-- the number of the moves is the next normal place, or the side where there is none
abbrev pub NextIsNormal : Type 0
NextIsNormal = (i : Inst) (side place : ℕ) → place ≤ side → IsNext side i.long i.short place (next i side place)

-- the cases that a lawful path places are a layout
abbrev pub PathsPlaceLayouts : Type 0
PathsPlaceLayouts = (i : Inst) (steps : List Step) → IsLawfulPath i steps → IsLayout i (state_of i steps).spots

-- the marks of a walk that ends, and meets no state with n + 1 cases, refute
abbrev pub WalksRefute : Type 0
WalksRefute =
    (i : Inst) (g : ℕ → ℕ → ℕ) (q n k : ℕ)
    → 0 < q
    → (walked i g q n k).left ≡ []
    → NoneHas (n + 1) (walked i g q n k).met
    → Refutes i g q n (map (mark_of i g q n) (walked i g q n k).met)
