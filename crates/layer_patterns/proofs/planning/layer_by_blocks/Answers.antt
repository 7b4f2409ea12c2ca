use Rattle.std.proofs.Common.{length, arith}
use Rattle.layer_patterns.proofs.BoundLemmas.{lying-few, standing-few}
use Rattle.layer_patterns.proofs.LayerLemmas.{few-cases, all-blocks}
use Rattle.layer_patterns.proofs.planning.layer_by_blocks.Goals as goal

pub uniform-requires-clause-lying : goal.uniform-requires-clause-lying
uniform-requires-clause-lying c = omega (arith, lying-few c.args.inst c.args.most c.requires.most, c.requires.few)

pub uniform-requires-clause-standing : goal.uniform-requires-clause-standing
uniform-requires-clause-standing c = omega (arith, standing-few c.args.inst c.args.most c.requires.most, c.requires.few)

pub returns-clause-bounded : goal.returns-clause-bounded
returns-clause-bounded c = few-cases c.args.inst c.args.most c.requires.most c.after_closures.result c.after_closures.ensures.inst c.after_closures.ensures.layer

pub returns-clause-blocks : goal.returns-clause-blocks
returns-clause-blocks c =
    all-blocks c.args.inst c.after_closures.result (length c.in_ok-layer.layer.spots) (length c.in_ok-layer-2.layer.spots)
    c.in_ok-layer.ensures.greatest c.in_ok-layer-2.ensures.grown c.in_ok-layer-2.ensures.first
    c.after_closures.ensures.grown c.after_closures.ensures.four c.after_closures.ensures.five
