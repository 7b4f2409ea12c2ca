use Rattle.std.proofs.Common.{◌≡◌, ap, sym, subst, ◌∙◌}
use Rattle.plan_geometry.specs.declared.instances.Inst.{Inst}
use Rattle.block_tree.specs.declared.nodes.Node.{Node}
use Rattle.block_tree.specs.Trees.{held_count}
use Rattle.l_patterns.specs.Ells.{HasMore, IsGreatestEll, IsAtLeastUniform}
use Rattle.l_patterns.proofs.CountLemmas.{by-cases, never-more}
use Rattle.l_patterns.proofs.RootLemmas.{greatest-of, at-least-uniform}
use Rattle.l_patterns.proofs.answers.search_from.Goals as goal

pub returns-clause-best : goal.returns-clause-best
returns-clause-best c =
    let q = c.args.q in
    let t = c.in-Some.tree in
    let k = c.in_ok-ending.ending.known in
    let e : held_count t.inst t.root.region t.root.block ≡ k.low =
    ap (λ (z : Inst). held_count z t.root.region t.root.block) c.in-Some.ensures.inst
    ∙ (ap (λ (n : Node). held_count q.inst n.region n.block) c.in-Some.ensures.root ∙ c.in_ok-node.ensures.count) in
    λ done. subst (IsGreatestEll q.inst) (sym e)
    (greatest-of q c.requires.sides c.run.new.s c.in_ok-ending.ensures.search c.args.root c.requires.root k c.in_ok-ending.ensures.known (c.in_ok-ending.ensures.met done))

pub returns-clause-uniform : goal.returns-clause-uniform
returns-clause-uniform c =
    let q = c.args.q in
    let t = c.in-Some.tree in
    let k = c.in_ok-ending.ending.known in
    let e : held_count t.inst t.root.region t.root.block ≡ k.low =
    ap (λ (z : Inst). held_count z t.root.region t.root.block) c.in-Some.ensures.inst
    ∙ (ap (λ (n : Node). held_count q.inst n.region n.block) c.in-Some.ensures.root ∙ c.in_ok-node.ensures.count) in
    subst (IsAtLeastUniform q.inst) (sym e) (at-least-uniform q c.args.root c.requires.root k c.in_ok-ending.ensures.known.bounds)

pub returns-clause-few : goal.returns-clause-few
returns-clause-few c =
    λ w. by-cases (HasMore c.args.q.inst c.args.most) c.in_ok-ending.ending.complete c.in_ok-ending.ensures.more (never-more c.args.q c.requires.sides c.args.most w)
