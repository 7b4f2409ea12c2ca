use Rattle.std.proofs.Common.{◌≡◌, ◌++◌, ◌+◌, take, subst}
use Rattle.page_pieces.specs.Pieces.{numbered}
use Rattle.std.proofs.lemmas.Result.{err_from_is_err_and}
use Rattle.texts.proofs.Growth.{grows_after}
use Rattle.plan_entries.specs.declared.listed.Listed.{Listed}
use Rattle.page_figures.specs.Slabs.{slab_text}
use Rattle.page_pieces.proofs.Loops.{numbered_more}
use Rattle.page_figures.proofs.slabs.put_slabs.Goals as goal

pub loop-place-preserved : goal.loop-place-preserved
loop-place-preserved c =
    let l = c.loop-place in
    let here = c.index-layers-place.result in
    let now = subst (λ (x : Listed). c.put_slab.new.out.items ≡ l.out.items ++ (slab_text c.args.sides c.args.sheet) (l.place + 1) x) c.index-layers-place.is c.in_ok-put_slab.ensures in
    numbered_more (slab_text c.args.sides c.args.sheet) c.args.out.now.items l.out.items c.put_slab.new.out.items l.place c.args.layers.now here c.loop-place-test.true l.invariant now

pub returns-in_err-put_slab : goal.returns-in_err-put_slab
returns-in_err-put_slab c =
    let p = err_from_is_err_and c.from_residual.result c.from_residual.ensures.1 in
    rw p.1 (grows_after c.args.out.now.items (numbered (slab_text c.args.sides c.args.sheet) 1 (take c.loop-place.place c.args.layers.now)) c.loop-place.out.items c.put_slab.new.out.items c.loop-place.invariant c.in_err-put_slab.ensures)
