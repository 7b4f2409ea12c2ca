use Rattle.std.proofs.Common.{arith, inl, inr, slice_index}
use Rattle.block_tables.specs.declared.patterns.Pattern.TheVariants.{Five}
use Rattle.block_tables.proofs.EntryLemmas.{job, due-job, due-solved}
use Rattle.five_block.proofs.ScanLemmas.{covers-all}
use Rattle.five_block.proofs.scanning.solve_block.Goals as goal

pub scan_x1-requires-clause-job : goal.scan_x1-requires-clause-job
scan_x1-requires-clause-job c = due-job c.args.inst Five c.args.xs.now c.args.ys.now c.args.t c.args.r c.args.c c.args.rx c.args.ry c.requires.due

pub returns : goal.returns
returns c =
    due-solved c.args.inst Five c.args.xs.now c.args.ys.now c.args.t c.args.r c.args.c c.args.rx c.args.ry c.requires.due c.scan_x1.result
    (omega (arith, c.scan_x1.ensures.above, c.uniform_of.ensures.value))
    (elim c.scan_x1.ensures.covers [
      | inl a ↦ inl a
      | inr a ↦ inr (covers-all (job c.args.inst c.args.t (slice_index c.args.xs.now c.args.r) (slice_index c.args.ys.now c.args.c) c.args.rx c.args.ry) c.scan_x1.result.value a)
    ])
    c.scan_x1.ensures.reached
