use Rattle.std.proofs.Common.{◌≡◌, ◌+◌, ◌<◌, inl, inr, arith}
use Rattle.contact_rules.specs.Real.{real_side, real_finish}
use Rattle.contact_rules.specs.Cut.{SomeCase}
use Rattle.contact_rules.proofs.RunSteps.{greatest-none, greatest-next, greatest-onward, greatest-whole}
use Rattle.contact_rules.proofs.cuts.run_along.Goals as goal

pub loop-line-init : goal.loop-line-init
loop-line-init c =
    let a = c.args.axis in
    let I = c.args.inst in
    let g = c.args.gap in
    let n = c.next_line-line.ensures in
    record {
      greatest = greatest-onward a I g 1 0 c.next_line-line.result c.args.lower.now c.args.upper.now n.skips (greatest-none a I g c.args.lower.now c.args.upper.now);
      few = omega arith;
      positive = omega (arith, n.ahead);
      within = n.limited;
      ends = n.reached;
    }

pub longest_with-most-requires-clause-most : goal.longest_with-most-requires-clause-most
longest_with-most-requires-clause-most c = c.loop-line.invariant.few

pub loop-line-preserved : goal.loop-line-preserved
loop-line-preserved c =
    let a = c.args.axis in
    let I = c.args.inst in
    let g = c.args.gap in
    let l = c.args.lower.now in
    let u = c.args.upper.now in
    let here = c.loop-line.line in
    let within : here < real_side a I g = omega (arith, c.loop-line-test.true, c.real_side_along-side.ensures.value) in
    let ends : SomeCase (λ s. real_finish a I g s ≡ here) l u =
    elim c.loop-line.invariant.ends [
      | inl e ↦ absurd (omega arith)
      | inr some ↦ some
    ] in
    let m = c.longest_with-most.ensures in
    let n = c.next_line-line-in-loop-line.ensures in
    let so_far = greatest-next a I g here c.loop-line.most c.longest_with-most.result l u c.loop-line.invariant.positive within ends c.loop-line.invariant.greatest m.longest in
    record {
      greatest = greatest-onward a I g (here + 1) c.longest_with-most.result c.next_line-line-in-loop-line.result l u n.skips so_far;
      few = m.few;
      positive = omega (arith, n.ahead);
      within = n.limited;
      ends = n.reached;
    }

pub returns-clause-greatest : goal.returns-clause-greatest
returns-clause-greatest c =
    greatest-whole c.args.axis c.args.inst c.args.gap c.loop-line.line c.loop-line.most c.args.lower.now c.args.upper.now c.requires.gap (omega (arith, c.loop-line-test.false, c.real_side_along-side.ensures.value)) c.loop-line.invariant.greatest

pub returns-clause-few : goal.returns-clause-few
returns-clause-few c = c.loop-line.invariant.few
