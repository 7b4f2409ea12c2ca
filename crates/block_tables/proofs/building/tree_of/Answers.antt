use Rattle.std.proofs.Common.{◌≡◌, ◌<◌, ◌+◌, ◌*◌, length, slice_index, arith, ap, sym, subst, ◌∙◌}
use Rattle.std.proofs.lemmas.List.{get_or_read}
use Rattle.plan_geometry.specs.declared.instances.Inst.{Inst}
use Rattle.block_tree.specs.declared.nodes.Node.{Node}
use Rattle.block_tree.specs.Trees.{held_count}
use Rattle.block_tables.specs.Numbers.{RoundsTo, IsNumber, Greatest}
use Rattle.block_tables.proofs.EntryLemmas.{earlier}
use Rattle.block_tables.proofs.building.tree_of.Goals as goal

pub returns-clause-best : goal.returns-clause-best
returns-clause-best c =
    let i = c.args.inst in
    let t = c.args.f.now.table in
    let f = c.requires.filled in
    let r = c.index.result.now in
    let k = c.index-2.result.now in
    let in_x : i.l_side < length t.x_places.items = omega (arith, c.requires.long_x) in
    let in_y : i.w_side < length t.y_places.items = omega (arith, c.requires.long_y) in
    let x : r ≡ slice_index t.x_places.items i.l_side = get_or_read t.x_places.items _ _ in_x c.index.ensures 0 in
    let y : k ≡ slice_index t.y_places.items i.w_side = get_or_read t.y_places.items _ _ in_y c.index-2.ensures 0 in
    let r_in : r < length c.args.xs.now = omega (arith, x, f.on_x.places i.l_side in_x) in
    let k_in : k < t.y_count = omega (arith, y, f.on_y.places i.w_side in_y, f.tall) in
    let e : held_count c.in-Some.tree.inst c.in-Some.tree.root.region c.in-Some.tree.root.block ≡ slice_index t.values.items (r * t.y_count + k) =
    ap (λ (z : Inst). held_count z c.in-Some.tree.root.region c.in-Some.tree.root.block) c.in-Some.ensures.inst
    ∙ (ap (λ (n : Node). held_count i n.region n.block) c.in-Some.ensures.root ∙ c.in_ok-root.ensures.count) in
    let before : r * t.y_count + k < length c.args.xs.now * length c.args.ys.now = rw (f.tall) (let l = earlier (length c.args.xs.now) r 0 k t.y_count r_in k_in in omega arith) in
    record {
      a = slice_index c.args.xs.now r;
      b = slice_index c.args.ys.now k;
      down_x = subst (λ n. RoundsTo i i.l_side (slice_index c.args.xs.now n)) (sym x) (f.on_x.downs i.l_side in_x);
      down_y = subst (λ n. RoundsTo i i.w_side (slice_index c.args.ys.now n)) (sym y) (f.on_y.downs i.w_side in_y);
      best = subst (λ n. Greatest (IsNumber i c.args.pattern (slice_index c.args.xs.now r) (slice_index c.args.ys.now k)) n) (sym e) (f.filled r k k_in before);
    }
