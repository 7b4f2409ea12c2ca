use Rattle.std.proofs.Common.{subst, arith, ap, sym, ◌∙◌}
use Rattle.std.proofs.lemmas.List.{drop_all}
use Rattle.block_tree.specs.declared.nodes.Node.{Node}
use Rattle.block_tree.specs.Trees.{held_count_all, IsSmallLawful, node_count, node_count_all}
use Rattle.block_tree.proofs.RowLemmas.{held-five, held-ell, nodes-five, nodes-ell}
use Rattle.block_tree.proofs.HeldLemmas.{ready-five, ready-ell, held_all-step, node-below}
use Rattle.block_tree.proofs.counting.+held.Goals as goal

pub held_count-held_by_parts-requires : goal.held_count-held_by_parts-requires
held_count-held_by_parts-requires t c =
    let k = rw (← c.as_slice.ensures) at (ready-five c.args.inst c.args.node.now c.in-Five.x1 c.in-Five.x2 c.in-Five.y1 c.in-Five.y2 c.in-Five.parts c.requires c.in-Five.is) in
    (omega (arith, ap node_count c.in-Five.is, nodes-five c.in-Five.x1 c.in-Five.x2 c.in-Five.y1 c.in-Five.y2 c.in-Five.parts, ap node_count_all c.as_slice.ensures, c.decreases), (k.0, k.1))

pub held_count-held_by_parts-requires-in-Ell : goal.held_count-held_by_parts-requires-in-Ell
held_count-held_by_parts-requires-in-Ell t c =
    let k = rw (← c.as_slice-in-Ell.ensures) at (ready-ell c.args.inst c.args.node.now c.in-Ell.cut c.in-Ell.parts c.requires c.in-Ell.is) in
    (omega (arith, ap node_count c.in-Ell.is, nodes-ell c.in-Ell.cut c.in-Ell.parts, ap node_count_all c.as_slice-in-Ell.ensures, c.decreases), (k.0, k.1))

pub held_count-returns-in-Five : goal.held_count-returns-in-Five
held_count-returns-in-Five t c =
    rw c.in-Five.is (c.held_by_parts.ensures ∙ ap (held_count_all c.args.inst) c.as_slice.ensures
    ∙ sym (held-five c.args.inst c.args.node.now.region c.in-Five.x1 c.in-Five.x2 c.in-Five.y1 c.in-Five.y2 c.in-Five.parts))

pub held_count-returns-in-Ell : goal.held_count-returns-in-Ell
held_count-returns-in-Ell t c =
    rw c.in-Ell.is (c.held_by_parts-in-Ell.ensures ∙ ap (held_count_all c.args.inst) c.as_slice-in-Ell.ensures
    ∙ sym (held-ell c.args.inst c.args.node.now.region c.in-Ell.cut c.in-Ell.parts))

pub held_by_parts-overflow_add-sum : goal.held_by_parts-overflow_add-sum
held_by_parts-overflow_add-sum t c =
    omega (arith, held_all-step c.args.inst c.args.parts.now c.loop-part.part-index c.part-item.result c.loop-part-test.true c.part-item.is, c.loop-part.invariant, c.held_count-sum.ensures)

pub held_by_parts-loop-part-preserved : goal.held_by_parts-loop-part-preserved
held_by_parts-loop-part-preserved t c =
    omega (arith, held_all-step c.args.inst c.args.parts.now c.loop-part.part-index c.part-item.result c.loop-part-test.true c.part-item.is, c.loop-part.invariant, c.held_count-sum.ensures)

pub held_by_parts-returns : goal.held_by_parts-returns
held_by_parts-returns t c =
    omega (arith, ap (held_count_all c.args.inst) (drop_all c.loop-part.part-index c.args.parts.now (omega arith)), c.loop-part.invariant)

pub held_by_parts-held_count-sum-requires : goal.held_by_parts-held_count-sum-requires
held_by_parts-held_count-sum-requires t c =
    let ns = c.args.parts.now in
    let k = c.loop-part.part-index in
    let n = c.part-item.result in
    let P : Node → Type 0 = IsSmallLawful c.args.inst in (
      omega (arith, node-below ns k n c.loop-part-test.true c.part-item.is, c.decreases),
      subst P (sym c.part-item.is) (c.requires.lawful k n c.loop-part-test.true),
    )
