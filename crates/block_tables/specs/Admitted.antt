-- What the numbers of block patterns are to layouts.
use Rattle.std.specs.Prelude.{ℕ, ◌≤◌}
use Rattle.plan_geometry.specs.declared.instances.Inst.{Inst}
use Rattle.plan_geometry.specs.Layout.{Admits}
use Rattle.block_tables.specs.declared.patterns.Pattern.{Pattern}
use Rattle.block_tables.specs.Numbers.{IsNumber}

-- each number of a block that is no larger than the pallet is the number of cases of some layout
abbrev pub AdmittedLaw : Type 0
AdmittedLaw =
    (I : Inst) (pattern : Pattern) (a b n : ℕ) → a ≤ I.l_side → b ≤ I.w_side → IsNumber I pattern a b n → Admits I n
