use Rattle.std.proofs.Common.{◌≡◌, ◌<◌, ◌+◌, ◌≤◌, inl, inr, arith}
use Rattle.std.proofs.lemmas.Bool.{cases_lt}
use Rattle.weightings.specs.Table.{cell_of}
use Rattle.weightings.proofs.BlockSteps.{least-join}
use Rattle.weightings.proofs.tables.WeightTable.least_block.Goals as goal

pub loop-y-preserved : goal.loop-y-preserved
loop-y-preserved c =
    let a = c.args in
    let g = cell_of a.self.now in
    let w = a.self.now.x_side in
    let y = c.loop-y.y in
    rw c.min-least.ensures (least-join g a.a a.b c.loop-y.least c.least_in_rows.result (λ u v. (u + a.a ≤ w) × (v < y)) (λ u v. (u + a.a ≤ w) × (v ≡ y)) (λ u v. (u + a.a ≤ w) × (v < y + 1)) c.loop-y.invariant c.least_in_rows.ensures (λ u v p. elim (cases_lt v y) [ inl l ↦ inl (p.0, l) | inr l ↦ inr (p.0, omega (arith, p.1)) ]) (λ u v p. (p.0, omega (arith, p.1))) (λ u v p. (p.0, omega (arith, p.1))))
