use Rattle.std.proofs.Common.{◌≡◌, ◌≤◌, ◌∙◌, length, max, arith}
use Rattle.std.proofs.lemmas.Result.{IfOk-weaker}
use Rattle.block_tree.specs.Trees.{held_count}
use Rattle.layer_patterns.specs.Patterns.{ReachesFirst}
use Rattle.layer_patterns.proofs.BoundLemmas.{first-few}
use Rattle.layer_patterns.proofs.planning.after_first_level.Goals as goal

pub returns-then-is_full-clause-first : goal.returns-then-is_full-clause-first
returns-then-is_full-clause-first c = λ n h. let u = c.is_full.ensures.0 c.if-is_full.true in omega (arith, u, first-few c.args.inst c.args.most c.requires.most n h)

pub returns-clause-inst : goal.returns-clause-inst
returns-clause-inst c = IfOk-weaker c.improved.result (λ a. a.inst ≡ c.args.layer.inst) (λ a. a.inst ≡ c.args.inst) (λ a e. e ∙ c.requires.inst) c.improved.ensures.inst

pub returns-clause-grown : goal.returns-clause-grown
returns-clause-grown c =
    let t = c.in_ok-tree.tree in
    IfOk-weaker c.improved.result (λ a. length a.spots ≡ max (length c.args.layer.spots) (held_count t.inst t.root.region t.root.block)) (λ a. length c.args.layer.spots ≤ length a.spots)
    (λ a e. omega (arith, e)) c.improved.ensures.count

pub returns-clause-first : goal.returns-clause-first
returns-clause-first c =
    let t = c.in_ok-tree.tree in
    IfOk-weaker c.improved.result (λ a. length a.spots ≡ max (length c.args.layer.spots) (held_count t.inst t.root.region t.root.block)) (λ a. ReachesFirst c.args.inst (length a.spots))
    (λ a e n h. let g = c.in_ok-tree.ensures.greatest.greatest n h in omega (arith, e, g)) c.improved.ensures.count
