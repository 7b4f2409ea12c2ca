use Rattle.std.proofs.Common.{◌≡◌, ◌∙◌, ℕ, List, ap, drop, length, sym}
use Rattle.std.proofs.Math.Seq.{take-append_seam}
use Rattle.weightings.specs.Table.{CellTable, IsTable}
use Rattle.weightings.specs.Sums.{AreSums}
use Rattle.weightings.proofs.SumSteps.{HoldSums-made, cells_from-sums}
use Rattle.weightings.proofs.tables.WeightTable.new.Goals as goal

pub invariant_of-result : goal.invariant_of-result
invariant_of-result c =
    let a = c.args in
    let zs = c.sum_up.new.cells in
    let t : IsTable a.x a.y a.cells.items = rw c.as_slice.ensures.value at (c.is_table.ensures.0 c.if-not-is_table.false) in
    let s : AreSums a.x a.y a.cells.items zs = rw c.as_mut_slice.ensures.value at c.sum_up.ensures in
    let n : a.cells.len ≡ length zs = a.cells.ok.0 ∙ t.count ∙ sym s.count in
    rw (n, take-append_seam zs (drop (length zs) a.cells.items)) (HoldSums-made a.x a.y a.cells.items zs t s)

pub returns-clause-value : goal.returns-clause-value
returns-clause-value c =
    let a = c.args in
    let zs = c.sum_up.new.cells in
    let t : IsTable a.x a.y a.cells.items = rw c.as_slice.ensures.value at (c.is_table.ensures.0 c.if-not-is_table.false) in
    let s : AreSums a.x a.y a.cells.items zs = rw c.as_mut_slice.ensures.value at c.sum_up.ensures in
    let n : a.cells.len ≡ length zs = a.cells.ok.0 ∙ t.count ∙ sym s.count in
    let made : (xs : List ℕ) → CellTable = λ xs. record { x_side = a.x; y_side = a.y; cells = xs } in
    rw (n, take-append_seam zs (drop (length zs) a.cells.items)) (ap made (cells_from-sums a.x a.y a.cells.items zs t s))
