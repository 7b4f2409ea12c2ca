use Rattle.std.proofs.Common.{arith, ◌∙◌, sym, subst}
use Rattle.block_tables.specs.Tables.{HasPlace}
use Rattle.five_block.specs.FirstLevel.{ListsFirstCuts, AreCutLists}
use Rattle.five_block.proofs.OrderLemmas.{best-is, zero-cut, start-sum}
use Rattle.five_block.proofs.first_level.best_cuts.Goals as goal

pub scan_x1-requires-clause-known : goal.scan_x1-requires-clause-known
scan_x1-requires-clause-known c =
    let i = c.args.inst in
    let hx : HasPlace c.as_slice.result.now 0 = subst (λ zs. HasPlace zs 0) (sym c.as_slice.ensures.value) (c.in_ok-xs.ensures.all 0 (zero-cut i i.l_side)) in
    let hy : HasPlace c.as_slice-2.result.now 0 = subst (λ zs. HasPlace zs 0) (sym c.as_slice-2.ensures.value) (c.in_ok-ys.ensures.all 0 (zero-cut i i.w_side)) in
    record { has_x1 = hx; has_x2 = hx; has_y1 = hy; has_y2 = hy; x_order = omega arith; y_order = omega arith; value = c.uniform_of.ensures.value ∙ start-sum i }

pub returns : goal.returns
returns c =
    let i = c.args.inst in
    let u : AreCutLists (record { inst = i; xs = c.as_slice.result; ys = c.as_slice-2.result }) = record {
      on_x = subst (λ zs. ListsFirstCuts i i.l_side zs) (sym c.as_slice.ensures.value) c.in_ok-xs.ensures;
      on_y = subst (λ zs. ListsFirstCuts i i.w_side zs) (sym c.as_slice-2.ensures.value) c.in_ok-ys.ensures;
    } in
    best-is (record { inst = i; xs = c.as_slice.result; ys = c.as_slice-2.result }) c.scan_x1.result u c.scan_x1.ensures.known c.scan_x1.ensures.covers
