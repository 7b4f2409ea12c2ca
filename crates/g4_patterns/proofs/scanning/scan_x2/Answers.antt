use Rattle.std.proofs.Common.{arith, below_more, inl, inr, slice_index}
use Rattle.g4_patterns.proofs.TopLemmas.{wider_x2}
use Rattle.g4_patterns.proofs.scanning.scan_x2.Goals as goal
use Rattle.g4_patterns.proofs.scanning.scan_x2.Goals.{then-best-bound, else-best-bound}

pub loop-m-preserved : goal.loop-m-preserved
loop-m-preserved c =
    let q = c.args.q in
    let x1 = slice_index q.xs.now c.args.i in
    let i = c.loop-m.m in
    let old = c.loop-m.invariant in
    elim c.if-best-bound.branch [
      | then-best-bound w ↦
          let new = w.scan_y-best.ensures in
          rw w.best-is (
            omega (arith, new.above),
            elim old.1 [ inl a ↦ inl (omega (arith, new.above)) | inr a ↦ inr (below_more _ i (wider_x2 q x1 i _ _ new.above a) (λ h. new.covers)) ],
            new.reached,
            omega arith,
          )
      | else-best-bound w ↦ rw w.best-is (old.0, inl (omega arith), old.2, omega arith)
    ]

pub returns-clause-covers : goal.returns-clause-covers
returns-clause-covers c =
    elim c.loop-m.invariant.1 [ inl a ↦ inl a | inr a ↦ inr (λ k h. a k (omega arith)) ]
