use Rattle.std.proofs.Common.{arith}
use Rattle.strip_bound.proofs.Pairs.{passed-more, passed-beyond, passed-most, reached-none}
use Rattle.strip_bound.proofs.tables.greatest_sum.Goals as goal
use Rattle.strip_bound.proofs.tables.greatest_sum.Goals.{then-h-n, else-h-n}

pub returns-clause-bound : goal.returns-clause-bound
returns-clause-bound c =
    let i = c.loop-h.invariant in
    record {
      most = passed-most c.args.inst c.args.cuts.now c.loop-h.n c.loop-h.h i.passed (omega (arith, i.few, c.requires.few, c.loop-h-test.false));
      reached = i.reached;
    }

pub loop-h-preserved : goal.loop-h-preserved
loop-h-preserved c =
    let I = c.args.inst in
    let cuts = c.args.cuts.now in
    let h = c.loop-h.h in
    let n = c.loop-h.n in
    let i = c.loop-h.invariant in
    elim c.if-h-n.branch [
      | then-h-n w ↦
          let m = w.raised-n.result in
          rw w.n-is (record {
            reached = w.raised-n.ensures.reached;
            few = w.raised-n.ensures.few;
            passed = passed-more I cuts n m h i.passed w.raised-n.ensures.more w.if-h-n.true w.raised-n.ensures.most;
          })
      | else-h-n w ↦
          rw w.n-is (record {
            reached = i.reached;
            few = i.few;
            passed = passed-beyond I cuts n h i.passed w.if-h-n.false;
          })
    ]

pub loop-h-init : goal.loop-h-init
loop-h-init c = record { reached = reached-none c.args.inst c.args.cuts.now; few = omega arith; passed = λ k lt. absurd (omega (arith, lt)) }
