use Rattle.std.proofs.Common.{◌≡◌, ◌<◌, ◌+◌, refl, inl, inr, arith}
use Rattle.std.proofs.lemmas.Bool.{cases_lt}
use Rattle.weightings.specs.Table.{cell_of}
use Rattle.weightings.specs.Sums.{IsLeastBlock}
use Rattle.weightings.proofs.BlockSteps.{least-one, least-join}
use Rattle.weightings.proofs.tables.WeightTable.least_in_rows.Goals as goal

pub loop-x-preserved : goal.loop-x-preserved
loop-x-preserved c =
    let a = c.args in
    let g = cell_of a.self.now in
    let one : IsLeastBlock g a.a a.b (λ u v. (u ≡ c.loop-x.x) × (v ≡ a.y)) c.weight_from.result = rw c.weight_from.ensures.value (least-one g a.a a.b c.loop-x.x a.y (λ u v. (u ≡ c.loop-x.x) × (v ≡ a.y)) (refl, refl) (λ u v p. p)) in
    rw c.min-least.ensures (least-join g a.a a.b c.loop-x.least c.weight_from.result (λ u v. (u < c.loop-x.x) × (v ≡ a.y)) (λ u v. (u ≡ c.loop-x.x) × (v ≡ a.y)) (λ u v. (u < c.loop-x.x + 1) × (v ≡ a.y)) c.loop-x.invariant one (λ u v p. elim (cases_lt u c.loop-x.x) [ inl l ↦ inl (l, p.1) | inr l ↦ inr (omega (arith, p.0), p.1) ]) (λ u v p. (omega (arith, p.0), p.1)) (λ u v p. (omega (arith, p.0), p.1)))
