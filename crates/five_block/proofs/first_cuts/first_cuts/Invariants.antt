use Rattle.std.proofs.Common.{◌<◌, ℕ, length, slice_index}
use Rattle.block_tables.specs.Tables.{HasPlace, IsRising}
use Rattle.five_block.specs.FirstLevel.{IsFirstCut}
use Rattle.five_block.proofs.first_cuts.first_cuts.Given as goal

abbrev pub invariant-loop-x : goal.invariant-loop-x
invariant-loop-x l =
    IsRising l.out.items × ((k : ℕ) → k < length l.out.items → slice_index l.out.items k < l.x)
    × ((n : ℕ) → HasPlace l.out.items n → IsFirstCut l.inst l.s n)
    × ((n : ℕ) → n < l.x → IsFirstCut l.inst l.s n → HasPlace l.out.items n)
