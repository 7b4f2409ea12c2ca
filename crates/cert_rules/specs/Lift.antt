-- What a step does, in numbers.
use Rattle.std.specs.Prelude.{ℕ, ◌+◌, ◌-◌, min, List, [], ◌∷◌}
use Rattle.cert_rules.specs.Next.{next}
use Rattle.plan_geometry.specs.declared.instances.Inst.{Inst}
use Rattle.plan_geometry.specs.declared.spots.Spot.{Spot}
use Rattle.plan_geometry.specs.declared.spots.Way.TheVariants.{Lying as LyingWay, Standing as StandingWay}
use Rattle.cert_rules.specs.declared.steps.Step.{Step}
use Rattle.cert_rules.specs.declared.steps.Step.TheVariants.{Lying, Standing, Waste}

-- how many columns a step raises at a corner in column x with the flat run
abbrev pub width_by : Inst → ℕ → ℕ → Step → ℕ
width_by i x run Lying = i.long
width_by i x run Standing = i.short
width_by i x run Waste = min (next i i.l_side x - x) run

-- the height to which a step raises columns of height y
abbrev pub height_by : Inst → ℕ → Step → ℕ
height_by i y Lying = y + i.short
height_by i y Standing = y + i.long
height_by i y Waste = next i i.w_side y

-- the case that a step places at (x, y)
abbrev pub case_by : ℕ → ℕ → Step → List Spot
case_by x y Lying = (record { x = x; y = y; way = LyingWay }) ∷ []
case_by x y Standing = (record { x = x; y = y; way = StandingWay }) ∷ []
case_by x y Waste = []
