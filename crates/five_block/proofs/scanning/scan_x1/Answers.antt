use Rattle.std.proofs.Common.{arith, below_more, inl, inr}
use Rattle.five_block.proofs.ScanLemmas.{wider_x1}
use Rattle.five_block.proofs.scanning.scan_x1.Goals as goal
use Rattle.five_block.proofs.scanning.scan_x1.Goals.{then-best-bound, else-best-bound}

pub loop-i-preserved : goal.loop-i-preserved
loop-i-preserved c =
    let q = c.args.q in
    let i = c.loop-i.i in
    let old = c.loop-i.invariant in
    elim c.if-best-bound.branch [
      | then-best-bound w ↦
          let new = w.scan_x2-best.ensures in
          rw (w.best-is, w.second-is) (
            omega (arith, new.above),
            elim old.1 [ inl a ↦ inl (omega (arith, new.above)) | inr a ↦ elim new.covers [ inl b ↦ inl b | inr b ↦ inr (below_more _ i (wider_x1 q i _ _ new.above a) b) ] ],
            new.reached,
            new.room,
          )
      | else-best-bound w ↦ rw (w.best-is, w.second-is) (old.0, inl (omega arith), old.2, old.3)
    ]

pub returns-clause-covers : goal.returns-clause-covers
returns-clause-covers c =
    elim c.loop-i.invariant.1 [ inl a ↦ inl a | inr a ↦ inr (λ k h. a k (omega arith)) ]
