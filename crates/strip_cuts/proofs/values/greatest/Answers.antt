use Rattle.std.proofs.Common.{ℕ, ◌≡◌, ◌≤◌, ◌+◌, ◌*◌, ◌/◌, max, inl, inr, arith, subst, sym}
use Rattle.std.proofs.lemmas.Bool.{cases_lt}
use Rattle.plan_geometry.specs.Layout.{side}
use Rattle.partitions.specs.Partitions.{IsFeasible, IsPartition}
use Rattle.strip_cuts.proofs.BestValues.{best-more, best-end, partition-small, value-small}
use Rattle.strip_cuts.proofs.values.greatest.Goals as goal

pub loop-i-preserved : goal.loop-i-preserved
loop-i-preserved c =
    let a = c.args in
    let i = c.loop-i.i in
    let j = c.most_short-j.result in
    let e : c.side_along-side.result ≡ side a.axis a.inst = c.side_along-side.ensures.side in
    let here : IsPartition a.axis a.inst i j =
    subst (λ n. IsFeasible n a.inst.long a.inst.short i j) e c.most_short-j.ensures.feasible in
    let most : (m : ℕ) → IsPartition a.axis a.inst i m → m ≤ j =
    λ m f. c.most_short-j.ensures.greatest m (subst (λ n. IsFeasible n a.inst.long a.inst.short i m) (sym e) f) in
    let value : c.max-best.result ≡ max c.loop-i.best (a.a * i + a.b * j) =
    rw (c.from.ensures, c.from-in-loop-i.ensures, c.from-in-loop-i-2.ensures, c.from-in-loop-i-3.ensures) at c.max-best.ensures in
    let few = partition-small a.axis a.inst i j here in
    let small : a.a * i + a.b * j ≤ 4294967296 * 8000 = value-small a.a a.b i j c.ranges.a.fits c.ranges.b.fits few.0 few.1 in
    let old : c.loop-i.best ≤ 4294967296 * 8000 = c.loop-i.invariant.small in
    record {
      best =
          best-more a.axis a.inst a.a a.b c.loop-i.best i j c.max-best.result c.loop-i.invariant.best here most
          (omega (arith, value)) (omega (arith, value))
          (elim (cases_lt c.loop-i.best (a.a * i + a.b * j)) [
            | inl less ↦ inr (omega (arith, value))
            | inr more ↦ inl (omega (arith, value))
          ]);
      small = omega (arith, value);
    }

pub returns-clause-value : goal.returns-clause-value
returns-clause-value c =
    let a = c.args in
    best-end a.axis a.inst a.a a.b c.loop-i.best c.loop-i.i c.loop-i.invariant.best
    (subst (λ n. n / a.inst.long + 1 ≤ c.loop-i.i) c.side_along-side.ensures.side c.loop-i-test.false)
