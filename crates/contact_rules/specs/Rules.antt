use Rattle.std.specs.Prelude.{ℕ, ◌-◌, ◌*◌, ◌≤◌, List, All}
use Rattle.plan_geometry.specs.declared.spots.Axis.{Axis}
use Rattle.plan_geometry.specs.declared.spots.Axis.TheVariants.{X, Y}
use Rattle.plan_geometry.specs.declared.spots.Spot.{Spot}
use Rattle.plan_geometry.specs.declared.instances.Inst.{Inst}
use Rattle.contact_rules.specs.declared.rules.Rule.{Rule}
use Rattle.contact_rules.specs.declared.rules.Rule.TheVariants.{Contact, Support, Cut}
use Rattle.contact_rules.specs.Real.{other, real_side}
use Rattle.contact_rules.specs.Shared.{total_shared, supporters}
use Rattle.contact_rules.specs.Cut.{Counts, IsRun}

-- the case shares at least the percentage of its real area with the layer below
abbrev pub Touches : Inst → ℕ → ℕ → List Spot → Spot → Type 0
Touches I gap percent lower s =
    percent * ((I.long - gap) * (I.short - gap)) ≤ total_shared I gap lower s * 100

-- each run at a line across the axis that counts is at most the percentage of the other real side
abbrev pub KeepsCuts : Axis → Inst → ℕ → List Spot → List Spot → ℕ → Type 0
KeepsCuts a I gap lower upper percent =
    (line row n : ℕ) → Counts a I gap lower upper line → IsRun a I gap lower upper line row n → n * 100 ≤ percent * real_side (other a) I gap

-- the two layers, the first of them below, meet the rule
abbrev pub Meets : Inst → ℕ → Rule → List Spot → List Spot → Type 0
Meets I gap (Contact percent) lower upper = All (Touches I gap percent lower) upper
Meets I gap Support lower upper = All (λ s. 2 ≤ supporters I gap lower s) upper
Meets I gap (Cut percent) lower upper =
    KeepsCuts X I gap lower upper percent × KeepsCuts Y I gap lower upper percent

-- the rule's percentage is at most 100
abbrev pub IsLawfulRule : Rule → Type 0
IsLawfulRule (Contact percent) = percent ≤ 100
IsLawfulRule Support = Unit {0}
IsLawfulRule (Cut percent) = percent ≤ 100
