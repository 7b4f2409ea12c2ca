use Rattle.std.proofs.Common.{◌≡◌, true, false, ap, sym, ◌∙◌, subst}
use Rattle.plan_geometry.specs.declared.instances.Inst.{Inst}
use Rattle.block_tree.specs.declared.nodes.Node.{Node}
use Rattle.block_tree.specs.Trees.{held_count, IsTree}
use Rattle.block_tables.specs.Numbers.{Greatest}
use Rattle.five_block.specs.FirstLevel.{IsFirstBest, IsFirstNumber, first_root}
use Rattle.five_block.proofs.RootLemmas.{root-tree, greatest-first}
use Rattle.five_block.proofs.first_level.level_one.Goals as goal

pub unreachable-requires : goal.unreachable-requires
unreachable-requires c =
    let i = c.args.inst in
    let s = c.in_ok-best.best.split in
    let k = c.in_ok-best.ensures.cuts in
    let t = root-tree i s k.x_order k.x2.0 k.y_order k.y2.0 in
    no (c.in-None.ensures.accepted.1 (subst (λ (d : Node). IsTree i d) (sym c.in_ok-root.ensures) t.0)) where
      no : false ≡ true → ⊥
      no e = cc

pub returns-clause-first : goal.returns-clause-first
returns-clause-first c =
    let i = c.args.inst in
    let s = c.in_ok-best.best.split in
    let f = c.in_ok-best.ensures in
    let k = f.cuts in
    let t = root-tree i s k.x_order k.x2.0 k.y_order k.y2.0 in
    let d : c.in-Some.tree.root ≡ first_root i s = c.in-Some.ensures.root ∙ c.in_ok-root.ensures in
    let e : held_count i c.in-Some.tree.root.region c.in-Some.tree.root.block ≡ c.in_ok-best.best.value
    = ap (λ (n : Node). held_count i n.region n.block) d ∙ (t.1 ∙ sym f.value) in
    (s, subst (λ m. IsFirstBest i s m) (sym e) f, d)

pub returns-clause-greatest : goal.returns-clause-greatest
returns-clause-greatest c =
    let i = c.args.inst in
    let s = c.in_ok-best.best.split in
    let f = c.in_ok-best.ensures in
    let k = f.cuts in
    let t = root-tree i s k.x_order k.x2.0 k.y_order k.y2.0 in
    let d : c.in-Some.tree.root ≡ first_root i s = c.in-Some.ensures.root ∙ c.in_ok-root.ensures in
    let e : held_count c.in-Some.tree.inst c.in-Some.tree.root.region c.in-Some.tree.root.block ≡ c.in_ok-best.best.value
    = ap (λ (z : Inst). held_count z c.in-Some.tree.root.region c.in-Some.tree.root.block) c.in-Some.ensures.inst
    ∙ (ap (λ (n : Node). held_count i n.region n.block) d ∙ (t.1 ∙ sym f.value)) in
    subst (λ m. Greatest (IsFirstNumber i) m) (sym e) (greatest-first i s c.in_ok-best.best.value f)
