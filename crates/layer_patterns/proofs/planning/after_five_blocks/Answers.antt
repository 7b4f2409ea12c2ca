use Rattle.std.proofs.Common.{◌≡◌, ◌∙◌, length, max, sym, arith}
use Rattle.std.proofs.lemmas.Result.{IfOk-weaker}
use Rattle.block_tree.specs.Trees.{held_count}
use Rattle.block_tables.specs.declared.patterns.Pattern.TheVariants.{Five}
use Rattle.layer_patterns.specs.Patterns.{ReachesFive}
use Rattle.layer_patterns.proofs.BoundLemmas.{block-few, block-greatest}
use Rattle.layer_patterns.proofs.PlaceLemmas.{five-size}
use Rattle.layer_patterns.proofs.LayerLemmas.{never}
use Rattle.layer_patterns.proofs.planning.after_five_blocks.Goals as goal

pub returns-then-is_full-clause-five : goal.returns-then-is_full-clause-five
returns-then-is_full-clause-five c = λ z a b n x y h. let u = c.is_full.ensures.0 c.if-is_full.true in omega (arith, u, block-few c.args.inst c.args.most c.requires.most Five a b n x y h)

pub returns-then-not-is_five_size-clause-five : goal.returns-then-not-is_five_size-clause-five
returns-then-not-is_five_size-clause-five c = λ z.
    never (sym c.if-not-is_five_size.true ∙ c.is_five_size.ensures.1 (five-size c.args.inst c.args.px.now.normal c.args.py.now.normal c.requires.places z))

pub returns-clause-five : goal.returns-clause-five
returns-clause-five c =
    let t = c.in_ok-tree.tree in
    IfOk-weaker c.improved.result (λ a. length a.spots ≡ max (length c.args.layer.spots) (held_count t.inst t.root.region t.root.block)) (λ a. ReachesFive c.args.inst (length a.spots))
    (λ a e z p q n x y h. let g = block-greatest c.args.inst Five _ c.in_ok-tree.ensures.best p q n x y h in omega (arith, e, g)) c.improved.ensures.count
