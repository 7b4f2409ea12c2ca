use Rattle.std.proofs.Common.{◌≤◌, length, arith}
use Rattle.std.proofs.lemmas.Result.{IfOk-weaker}
use Rattle.block_tables.specs.declared.patterns.Pattern.TheVariants.{Five, Four}
use Rattle.layer_patterns.specs.Patterns.{ReachesFour}
use Rattle.layer_patterns.proofs.BoundLemmas.{block-few}
use Rattle.layer_patterns.proofs.planning.after_closures.Goals as goal

pub returns-then-is_full-clause-four : goal.returns-then-is_full-clause-four
returns-then-is_full-clause-four c = λ z a b n x y h. let u = c.is_full.ensures.0 c.if-is_full.true in omega (arith, u, block-few c.args.inst c.args.most c.requires.most Four a b n x y h)

pub returns-then-is_full-clause-five : goal.returns-then-is_full-clause-five
returns-then-is_full-clause-five c = λ z a b n x y h. let u = c.is_full.ensures.0 c.if-is_full.true in omega (arith, u, block-few c.args.inst c.args.most c.requires.most Five a b n x y h)

pub returns-clause-four : goal.returns-clause-four
returns-clause-four c =
    IfOk-weaker c.after_five_blocks.result (λ a. length c.in_ok-layer.layer.spots ≤ length a.spots) (λ a. ReachesFour c.args.inst (length a.spots))
    (λ a e z p q n x y h. let g = c.in_ok-layer.ensures.four z p q n x y h in omega (arith, e, g)) c.after_five_blocks.ensures.grown
