use Rattle.std.proofs.Common.{◌≡◌, ◌∙◌, length, max, sym, arith}
use Rattle.std.proofs.lemmas.Result.{IfOk-weaker}
use Rattle.block_tree.specs.Trees.{held_count}
use Rattle.block_tables.specs.declared.patterns.Pattern.TheVariants.{Four}
use Rattle.layer_patterns.specs.Patterns.{ReachesFour}
use Rattle.layer_patterns.proofs.BoundLemmas.{block-few, block-greatest}
use Rattle.layer_patterns.proofs.PlaceLemmas.{four-size}
use Rattle.layer_patterns.proofs.LayerLemmas.{never}
use Rattle.layer_patterns.proofs.planning.after_four_blocks.Goals as goal

pub returns-then-is_full-clause-four : goal.returns-then-is_full-clause-four
returns-then-is_full-clause-four c = λ z a b n x y h. let u = c.is_full.ensures.0 c.if-is_full.true in omega (arith, u, block-few c.args.inst c.args.most c.requires.most Four a b n x y h)

pub returns-then-not-is_four_size-clause-four : goal.returns-then-not-is_four_size-clause-four
returns-then-not-is_four_size-clause-four c = λ z.
    never (sym c.if-not-is_four_size.true ∙ c.is_four_size.ensures.1 (four-size c.args.inst c.args.px.now.normal c.args.py.now.normal c.requires.places z))

pub returns-clause-four : goal.returns-clause-four
returns-clause-four c =
    let t = c.in_ok-tree.tree in
    IfOk-weaker c.improved.result (λ a. length a.spots ≡ max (length c.args.layer.spots) (held_count t.inst t.root.region t.root.block)) (λ a. ReachesFour c.args.inst (length a.spots))
    (λ a e z p q n x y h. let g = block-greatest c.args.inst Four _ c.in_ok-tree.ensures.best p q n x y h in omega (arith, e, g)) c.improved.ensures.count
