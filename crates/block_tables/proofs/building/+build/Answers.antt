use Rattle.std.proofs.Common.{arith, ◌≡◌, ◌+◌, ◌-◌, ◌*◌, slice_index, ap, sym, ◌∙◌, subst}
use Rattle.std.proofs.lemmas.List.{get_or_read}
use Rattle.block_tree.specs.declared.regions.Region.{Region}
use Rattle.block_tree.specs.Regions.{rectangle}
use Rattle.block_tables.specs.Built.{IsProper, Makes, Serves}
use Rattle.block_tables.specs.Tables.{look}
use Rattle.block_tree.specs.declared.nodes.Block.TheVariants as block
use Rattle.block_tables.proofs.BuildLemmas.{before-at, five-makes}
use Rattle.block_tables.proofs.building.+build.Goals as goal

pub build-build_part-requires : goal.build-build_part-requires
build-build_part-requires t c =
    let k : IsProper c.args.d.pattern c.args.d.table.now (slice_index c.args.d.xs.now c.args.r) (slice_index c.args.d.ys.now c.args.c) c.in-Some.s (slice_index c.args.d.table.now.values.items (c.args.r * c.args.d.table.now.y_count + c.args.c))
    = rw c.in-Some.is at (c.requires.done.kept c.args.r c.args.c c.requires.r_in c.requires.c_in) in
    let w1 = k.x_order in
    let w2 = k.x_in in
    let w3 = k.y_order in
    let w4 = k.y_in in
    let b = before-at c.args.d c.requires.done c.args.r c.args.c c.in-Some.s.x2 c.in-Some.s.y1 c.requires.r_in c.requires.c_in (omega arith) (omega arith) k.part1 in
    (omega (arith, b.0, c.decreases), (c.requires.done, (b.1, b.2)))

pub build-build_part-requires-in-Some : goal.build-build_part-requires-in-Some
build-build_part-requires-in-Some t c =
    let k : IsProper c.args.d.pattern c.args.d.table.now (slice_index c.args.d.xs.now c.args.r) (slice_index c.args.d.ys.now c.args.c) c.in-Some.s (slice_index c.args.d.table.now.values.items (c.args.r * c.args.d.table.now.y_count + c.args.c))
    = rw c.in-Some.is at (c.requires.done.kept c.args.r c.args.c c.requires.r_in c.requires.c_in) in
    let w1 = k.x_order in
    let w2 = k.x_in in
    let w3 = k.y_order in
    let w4 = k.y_in in
    let b = before-at c.args.d c.requires.done c.args.r c.args.c (slice_index c.args.d.xs.now c.args.r - c.in-Some.s.x2) c.in-Some.s.y2 c.requires.r_in c.requires.c_in (omega arith) (omega arith) k.part2 in
    (omega (arith, b.0, c.decreases), (c.requires.done, (b.1, b.2)))

pub build-build_part-requires-in-Some-2 : goal.build-build_part-requires-in-Some-2
build-build_part-requires-in-Some-2 t c =
    let k : IsProper c.args.d.pattern c.args.d.table.now (slice_index c.args.d.xs.now c.args.r) (slice_index c.args.d.ys.now c.args.c) c.in-Some.s (slice_index c.args.d.table.now.values.items (c.args.r * c.args.d.table.now.y_count + c.args.c))
    = rw c.in-Some.is at (c.requires.done.kept c.args.r c.args.c c.requires.r_in c.requires.c_in) in
    let w1 = k.x_order in
    let w2 = k.x_in in
    let w3 = k.y_order in
    let w4 = k.y_in in
    let b = before-at c.args.d c.requires.done c.args.r c.args.c c.in-Some.s.x1 (slice_index c.args.d.ys.now c.args.c - c.in-Some.s.y1) c.requires.r_in c.requires.c_in (omega arith) (omega arith) k.part3 in
    (omega (arith, b.0, c.decreases), (c.requires.done, (b.1, b.2)))

pub build-build_part-requires-in-Some-3 : goal.build-build_part-requires-in-Some-3
build-build_part-requires-in-Some-3 t c =
    let k : IsProper c.args.d.pattern c.args.d.table.now (slice_index c.args.d.xs.now c.args.r) (slice_index c.args.d.ys.now c.args.c) c.in-Some.s (slice_index c.args.d.table.now.values.items (c.args.r * c.args.d.table.now.y_count + c.args.c))
    = rw c.in-Some.is at (c.requires.done.kept c.args.r c.args.c c.requires.r_in c.requires.c_in) in
    let w1 = k.x_order in
    let w2 = k.x_in in
    let w3 = k.y_order in
    let w4 = k.y_in in
    let b = before-at c.args.d c.requires.done c.args.r c.args.c (slice_index c.args.d.xs.now c.args.r - c.in-Some.s.x1) (slice_index c.args.d.ys.now c.args.c - c.in-Some.s.y2) c.requires.r_in c.requires.c_in (omega arith) (omega arith) k.part4 in
    (omega (arith, b.0, c.decreases), (c.requires.done, (b.1, b.2)))

pub build-build_centre-requires : goal.build-build_centre-requires
build-build_centre-requires t c =
    let k : IsProper c.args.d.pattern c.args.d.table.now (slice_index c.args.d.xs.now c.args.r) (slice_index c.args.d.ys.now c.args.c) c.in-Some.s (slice_index c.args.d.table.now.values.items (c.args.r * c.args.d.table.now.y_count + c.args.c))
    = rw c.in-Some.is at (c.requires.done.kept c.args.r c.args.c c.requires.r_in c.requires.c_in) in
    let w1 = k.x_order in
    let w2 = k.x_in in
    let w3 = k.y_order in
    let w4 = k.y_in in
    let b = before-at c.args.d c.requires.done c.args.r c.args.c (c.in-Some.s.x2 - c.in-Some.s.x1) (c.in-Some.s.y2 - c.in-Some.s.y1) c.requires.r_in c.requires.c_in (omega arith) (omega arith) k.part5 in
    (omega (arith, b.0, c.decreases), (c.requires.done, (b.1, b.2)))

pub build-returns-in_ok-parts-in-Some : goal.build-returns-in_ok-parts-in-Some
build-returns-in_ok-parts-in-Some t c =
    let k : IsProper c.args.d.pattern c.args.d.table.now (slice_index c.args.d.xs.now c.args.r) (slice_index c.args.d.ys.now c.args.c) c.in-Some.s (slice_index c.args.d.table.now.values.items (c.args.r * c.args.d.table.now.y_count + c.args.c))
    = rw c.in-Some.is at (c.requires.done.kept c.args.r c.args.c c.requires.r_in c.requires.c_in) in
    let e = c.in_ok-parts-in-Some.ensures in
    subst (λ (g : Region). Makes c.args.d.inst (slice_index c.args.d.xs.now c.args.r) (slice_index c.args.d.ys.now c.args.c) (slice_index c.args.d.table.now.values.items (c.args.r * c.args.d.table.now.y_count + c.args.c))
    (record { region = g; block = block.Five c.in-Some.s.x1 c.in-Some.s.x2 c.in-Some.s.y1 c.in-Some.s.y2 c.in_ok-parts-in-Some.parts })) (sym c.rectangle-region.ensures)
    (subst (λ ns. Makes c.args.d.inst (slice_index c.args.d.xs.now c.args.r) (slice_index c.args.d.ys.now c.args.c) (slice_index c.args.d.table.now.values.items (c.args.r * c.args.d.table.now.y_count + c.args.c))
    (record { region = rectangle (slice_index c.args.d.xs.now c.args.r) (slice_index c.args.d.ys.now c.args.c); block = block.Five c.in-Some.s.x1 c.in-Some.s.x2 c.in-Some.s.y1 c.in-Some.s.y2 ns })) (sym e)
    (five-makes c.args.d.inst c.args.d.pattern c.args.d.table.now (slice_index c.args.d.xs.now c.args.r) (slice_index c.args.d.ys.now c.args.c) _ c.in-Some.s k
    c.in_ok-part1-in-Some.part1 c.in_ok-part2-in-Some.part2 c.in_ok-part3-in-Some.part3 c.in_ok-part4-in-Some.part4 c.in_ok-part5-in-Some.part5
    c.in_ok-part1-in-Some.ensures c.in_ok-part2-in-Some.ensures c.in_ok-part3-in-Some.ensures c.in_ok-part4-in-Some.ensures c.in_ok-part5-in-Some.ensures))

pub build_part-build-requires : goal.build_part-build-requires
build_part-build-requires t c =
    let d = c.args.d in
    let x : c.index.result.now ≡ slice_index d.table.now.x_places.items c.args.p = get_or_read d.table.now.x_places.items _ _ c.requires.p_in c.index.ensures 0 in
    let y : c.index-else-look_at-eq0.result.now ≡ slice_index d.table.now.y_places.items c.args.q = get_or_read d.table.now.y_places.items _ _ c.requires.q_in c.index-else-look_at-eq0.ensures 0 in
    let f = c.requires.done.filled in
    (omega (arith, ap (λ z. z * d.table.now.y_count) x, y, c.decreases), (c.requires.done, (omega (arith, x, f.on_x.places c.args.p c.requires.p_in), omega (arith, y, f.on_y.places c.args.q c.requires.q_in))))

pub build_part-returns-then-look_at-eq0 : goal.build_part-returns-then-look_at-eq0
build_part-returns-then-look_at-eq0 t c =
    let e : 0 ≡ look c.args.d.table.now c.args.p c.args.q = sym c.if-look_at-eq0.true ∙ c.look_at.ensures.value in
    subst (λ n. Serves c.args.d.inst c.args.p c.args.q n c.empty_node.result) e (c.empty_node.ensures c.args.d.inst c.args.p c.args.q)

pub build_centre-returns-in-Four : goal.build_centre-returns-in-Four
build_centre-returns-in-Four t c = rw c.in-Four.is (c.empty_node.ensures c.args.d.inst c.args.p c.args.q)
