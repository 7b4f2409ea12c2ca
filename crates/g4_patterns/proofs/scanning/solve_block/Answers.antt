use Rattle.std.proofs.Common.{arith, inl, inr, slice_index}
use Rattle.block_tables.specs.declared.patterns.Pattern.TheVariants.{Four}
use Rattle.block_tables.specs.declared.tables.Job.{Job}
use Rattle.block_tables.specs.Tables.{IsJob}
use Rattle.block_tables.proofs.EntryLemmas.{job, due-job, due-solved}
use Rattle.g4_patterns.proofs.TopLemmas.{covers-all}
use Rattle.g4_patterns.proofs.scanning.solve_block.Goals as goal

pub scan_x1-requires-clause-job : goal.scan_x1-requires-clause-job
scan_x1-requires-clause-job c = due-job c.args.inst Four c.args.xs.now c.args.ys.now c.args.t c.args.r c.args.c c.args.rx c.args.ry c.requires

pub returns : goal.returns
returns c =
    let q : Job = job c.args.inst c.args.t (slice_index c.args.xs.now c.args.r) (slice_index c.args.ys.now c.args.c) c.args.rx c.args.ry in
    let j : IsJob q = due-job c.args.inst Four c.args.xs.now c.args.ys.now c.args.t c.args.r c.args.c c.args.rx c.args.ry c.requires in
    due-solved c.args.inst Four c.args.xs.now c.args.ys.now c.args.t c.args.r c.args.c c.args.rx c.args.ry c.requires c.scan_x1.result
    (omega (arith, c.scan_x1.ensures.above, c.uniform_of.ensures.value))
    (elim c.scan_x1.ensures.covers [ inl a ↦ inl a | inr a ↦ inr (covers-all q c.scan_x1.result.value j.ys_rise a) ])
    c.scan_x1.ensures.reached
