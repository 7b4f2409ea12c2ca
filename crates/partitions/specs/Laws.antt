use Rattle.std.specs.Prelude.{ℕ, ◌↔◌}
use Rattle.plan_geometry.specs.declared.spots.Axis.{Axis}
use Rattle.plan_geometry.specs.declared.instances.Inst.{Inst}
use Rattle.plan_geometry.specs.Layout.{side, CaseFits}
use Rattle.partitions.specs.Partitions.{SameSides, IsMaximal}

abbrev pub SameSidesIsReflexive : Type 0
SameSidesIsReflexive = (a : Inst) → SameSides a a

abbrev pub SameSidesIsSymmetric : Type 0
SameSidesIsSymmetric = (a b : Inst) → SameSides a b → SameSides b a

abbrev pub SameSidesIsTransitive : Type 0
SameSidesIsTransitive = (a b c : Inst) → SameSides a b → SameSides b c → SameSides a c

-- a case fits on the one exactly where it fits on the other
abbrev pub SameSidesFitAlike : Type 0
SameSidesFitAlike = (a b : Inst) → SameSides a b → CaseFits a ↔ CaseFits b

-- a pair is maximal on a side of the one exactly where it is so on that side of the other
abbrev pub SameSidesShareMaximal : Type 0
SameSidesShareMaximal =
    (axis : Axis) (a b : Inst) (i j : ℕ) → SameSides a b
    → IsMaximal (side axis a) a.long a.short i j ↔ IsMaximal (side axis b) b.long b.short i j
