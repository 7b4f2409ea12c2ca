use Rattle.std.proofs.Common.{◌≡◌, ◌∙◌, false, true, length, sym, ap, subst}
use Rattle.std.specs.List.Sorted.{IsPermutation}
use Rattle.std.proofs.lemmas.List.Sorted.{length_permutation}
use Rattle.plan_geometry.specs.Layout.{IsLayout}
use Rattle.block_tree.specs.Trees.{held_count}
use Rattle.block_tree.proofs.DrawingLemmas.{root-layout, root-count}
use Rattle.block_tree.proofs.trees.BlockTree.draw.Goals as goal

pub unreachable-requires : goal.unreachable-requires
unreachable-requires c =
    let i = c.self.inside.inst in
    let n = c.self.inside.root in
    let h : IsLayout i c.in_ok-spots.spots.items = subst (IsLayout i) (sym c.in_ok-spots.ensures) (root-layout i n c.self.invariant) in
    no (c.in-None.ensures.accepted.1 h) where
      no : false ≡ true → ⊥
      no e = cc

pub returns-clause-count : goal.returns-clause-count
returns-clause-count c =
    let i = c.self.inside.inst in
    let n = c.self.inside.root in
    let p : IsPermutation c.in_ok-spots.spots.items c.in-Some.layer.spots = c.in-Some.ensures.same in
    let e : length c.in-Some.layer.spots ≡ held_count i n.region n.block =
    length_permutation c.in_ok-spots.spots.items c.in-Some.layer.spots p ∙ ap length c.in_ok-spots.ensures ∙ root-count i n c.self.invariant in
    rw (← c.self.view_is) e
