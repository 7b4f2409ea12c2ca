use Rattle.std.proofs.Common.{slice_index}
use Rattle.raster_points.specs.Places.{Lists}
use Rattle.block_tables.specs.declared.patterns.Pattern.TheVariants.{Five}
use Rattle.block_tables.specs.Numbers.{IsRasterOf}
use Rattle.block_tables.specs.Built.{IsSolved}
use Rattle.block_tables.proofs.EntryLemmas.{due-of}
use Rattle.block_tables.proofs.KeepLemmas.{filling-step}
use Rattle.five_block.proofs.closing.fill_block.Goals as goal

pub solve_block-best-requires-clause-due : goal.solve_block-best-requires-clause-due
solve_block-best-requires-clause-due c =
    let i = c.args.inst in
    let xs = c.args.px.now.normal in
    let ys = c.args.py.now.normal in
    let ry : Lists (IsRasterOf i (slice_index ys c.args.c)) c.in_ok-ry.ry.items = rw (c.requires.py.of_long, c.requires.py.of_short, c.normal.ensures.value) at c.in_ok-ry.ensures.raster in
    rw (c.normal-2.ensures.value, c.normal-3.ensures.value, c.as_slice-2.ensures.value)
    (due-of i Five xs ys c.args.f.now c.args.r c.args.c c.args.rx.now c.in_ok-ry.ry.items c.requires.filling c.requires.r_in c.requires.c_in c.requires.x_cuts ry)

pub returns : goal.returns
returns c =
    let i = c.args.inst in
    let xs = c.args.px.now.normal in
    let ys = c.args.py.now.normal in
    let s : IsSolved i Five c.args.f.now.table (slice_index xs c.args.r) (slice_index ys c.args.c) c.solve_block-best.result
    = rw (c.normal-2.ensures.value, c.normal-3.ensures.value) at c.solve_block-best.ensures in
    filling-step i Five xs ys c.args.f.now c.write_block.new.f c.args.r c.args.c c.solve_block-best.result c.requires.filling c.requires.r_in c.requires.c_in s c.write_block.ensures
