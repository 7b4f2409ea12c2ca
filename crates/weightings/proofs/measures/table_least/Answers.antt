use Rattle.std.proofs.Common.{◌+◌, ◌≤◌, arith}
use Rattle.plan_geometry.specs.Layout.{x_extent, y_extent}
use Rattle.weightings.specs.Table.{cell_of}
use Rattle.weightings.specs.Sums.{IsLeastBlock}
use Rattle.weightings.proofs.BlockSteps.{least-same, IsLeastOfWay-block}
use Rattle.weightings.proofs.measures.table_least.Goals as goal

pub returns : goal.returns
returns c =
    let t = c.args.table.now in
    let i = c.args.inst in
    let a = x_extent i c.args.way in
    let b = y_extent i c.args.way in
    let m = c.requires.member in
    let h : IsLeastBlock (cell_of t) a b (λ u v. (u + a ≤ t.x_side) × (v + b ≤ t.y_side)) c.least_block.result = rw (c.extent_along-across.ensures.extent, c.extent_along-along.ensures.extent) at c.least_block.ensures in
    rw c.from.ensures (IsLeastOfWay-block i (cell_of t) c.args.way c.least_block.result (least-same (cell_of t) a b c.least_block.result (λ u v. (u + a ≤ t.x_side) × (v + b ≤ t.y_side)) (λ u v. (u + a ≤ i.l_side) × (v + b ≤ i.w_side)) h (λ u v k. (omega (arith, m.0, k.0), omega (arith, m.1, k.1))) (λ u v k. (omega (arith, m.0, k.0), omega (arith, m.1, k.1)))))
