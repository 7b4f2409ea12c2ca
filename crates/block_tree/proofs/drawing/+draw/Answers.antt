use Rattle.std.proofs.Common.{false, arith, ◌≡◌, ◌+◌, ◌++◌, map, All, IfOk, List, [], drop, get_or, ap, sym, ◌∙◌, refl, subst}
use Rattle.std.proofs.lemmas.List.{drop_all, append_assoc, append-nil}
use Rattle.plan_geometry.specs.declared.spots.Spot.{Spot}
use Rattle.block_tree.specs.declared.parts.Part.{Part}
use Rattle.block_tree.specs.Regions.{side_x, side_y}
use Rattle.block_tree.specs.Parts.{five_parts}
use Rattle.block_tree.specs.Trees.{AreLawful, node_count, node_count_all}
use Rattle.block_tree.specs.Drawing.{placed, drawn, drawn_all, InRegion, IsPart}
use Rattle.block_tree.proofs.RowLemmas.{drawn-five, drawn-ell, nodes-five, nodes-ell}
use Rattle.block_tree.proofs.HeldLemmas.{node-below, small-of}
use Rattle.block_tree.proofs.AreaLemmas.{lawful-ordered}
use Rattle.block_tree.proofs.DrawingLemmas.{draws-five, draws-ell, same-length, drawn_all-step, lawful-at, part-stands}
use Rattle.block_tree.proofs.drawing.+draw.Goals as goal

abbrev zero-part : Part
zero-part = record { region = record { big_x = 0; big_y = 0; small_x = 0; small_y = 0 }; flip_x = false; at_x = 0; flip_y = false; at_y = 0 }

pub draw_node-draw_parts-requires : goal.draw_node-draw_parts-requires
draw_node-draw_parts-requires t c =
    let k = draws-five c.args.inst c.args.node.now c.in-Five.x1 c.in-Five.x2 c.in-Five.y1 c.in-Five.y2 c.in-Five.parts c.requires c.in-Five.is in
    let e : c.five_parts-places.result ≡ five_parts (side_x c.args.node.now.region) (side_y c.args.node.now.region) c.in-Five.x1 c.in-Five.x2 c.in-Five.y1 c.in-Five.y2
    = c.five_parts-places.ensures ∙ rw (c.side_x-in-Five.ensures, c.side_y-in-Five.ensures) refl in (
      omega (arith, ap node_count c.in-Five.is, nodes-five c.in-Five.x1 c.in-Five.x2 c.in-Five.y1 c.in-Five.y2 c.in-Five.parts, ap node_count_all c.as_slice.ensures, c.decreases),
      (rw c.as_slice.ensures (subst (λ ps. AreLawful c.args.inst ps c.in-Five.parts) (sym e) k.0), subst (λ ps. All IsPart ps) (sym e) k.1),
    )

pub draw_node-draw_parts-requires-in-Ell : goal.draw_node-draw_parts-requires-in-Ell
draw_node-draw_parts-requires-in-Ell t c =
    let k = draws-ell c.args.inst c.args.node.now c.in-Ell.cut c.in-Ell.parts c.requires c.in-Ell.is in (
      omega (arith, ap node_count c.in-Ell.is, nodes-ell c.in-Ell.cut c.in-Ell.parts, ap node_count_all c.as_slice-in-Ell.ensures, c.decreases),
      (rw c.as_slice-in-Ell.ensures (subst (λ ps. AreLawful c.args.inst ps c.in-Ell.parts) (sym c.ell_parts-places.ensures) k.0), subst (λ ps. All IsPart ps) (sym c.ell_parts-places.ensures) k.1),
    )

pub draw_node-returns-in-Five : goal.draw_node-returns-in-Five
draw_node-returns-in-Five t c =
    let i = c.args.inst in
    let r = c.args.node.now.region in
    let e : c.five_parts-places.result ≡ five_parts (side_x r) (side_y r) c.in-Five.x1 c.in-Five.x2 c.in-Five.y1 c.in-Five.y2
    = c.five_parts-places.ensures ∙ rw (c.side_x-in-Five.ensures, c.side_y-in-Five.ensures) refl in
    let f : drawn i r c.args.node.now.block ≡ drawn_all i c.five_parts-places.result c.as_slice.result.now
    = ap (drawn i r) c.in-Five.is ∙ drawn-five i r c.in-Five.x1 c.in-Five.x2 c.in-Five.y1 c.in-Five.y2 c.in-Five.parts
    ∙ ap (λ ps. drawn_all i ps c.in-Five.parts) (sym e) ∙ ap (drawn_all i c.five_parts-places.result) (sym c.as_slice.ensures) in
    subst (λ (zs : List Spot). IfOk c.draw_parts.result (λ v. v.items ≡ zs)) (sym f) c.draw_parts.ensures

pub draw_node-returns-in-Ell : goal.draw_node-returns-in-Ell
draw_node-returns-in-Ell t c =
    let i = c.args.inst in
    let r = c.args.node.now.region in
    let f : drawn i r c.args.node.now.block ≡ drawn_all i c.ell_parts-places.result c.as_slice-in-Ell.result.now
    = ap (drawn i r) c.in-Ell.is ∙ drawn-ell i r c.in-Ell.cut c.in-Ell.parts
    ∙ ap (λ ps. drawn_all i ps c.in-Ell.parts) (sym c.ell_parts-places.ensures) ∙ ap (drawn_all i c.ell_parts-places.result) (sym c.as_slice-in-Ell.ensures) in
    subst (λ (zs : List Spot). IfOk c.draw_parts-in-Ell.result (λ v. v.items ≡ zs)) (sym f) c.draw_parts-in-Ell.ensures

pub draw_parts-draw_node-requires : goal.draw_parts-draw_node-requires
draw_parts-draw_node-requires t c =
    let n = c.index-parts-k.result in
    let k = lawful-at c.args.inst c.args.places.now c.args.parts.now c.loop-k.k zero-part n c.requires.lawful c.loop-k-test.true c.index-parts-k.is in
    let p : IsPart (get_or c.args.places.now c.loop-k.k zero-part) = c.requires.places c.loop-k.k zero-part (omega (arith, same-length c.args.inst c.args.places.now c.args.parts.now c.requires.lawful)) in (
      omega (arith, node-below c.args.parts.now c.loop-k.k n c.loop-k-test.true c.index-parts-k.is, c.decreases),
      (k.1, small-of n.region (lawful-ordered c.args.inst n.region n.block k.1) (omega arith) (omega arith)),
    )

pub draw_parts-bounds-places-k : goal.draw_parts-bounds-places-k
draw_parts-bounds-places-k t c = omega (arith, same-length c.args.inst c.args.places.now c.args.parts.now c.requires.lawful)

pub draw_parts-place_all-requires-clause-stand : goal.draw_parts-place_all-requires-clause-stand
draw_parts-place_all-requires-clause-stand t c =
    let n = c.index-parts-k.result in
    let k = lawful-at c.args.inst c.args.places.now c.args.parts.now c.loop-k.k zero-part n c.requires.lawful c.loop-k-test.true c.index-parts-k.is in
    subst (λ zs. All (InRegion c.args.inst (get_or c.args.places.now c.loop-k.k zero-part).region) zs) (sym (c.as_slice.ensures.value ∙ c.in_ok-spots.ensures))
    (part-stands c.args.inst (get_or c.args.places.now c.loop-k.k zero-part) n k.0 k.1)

pub draw_parts-loop-k-preserved : goal.draw_parts-loop-k-preserved
draw_parts-loop-k-preserved t c =
    let i = c.args.inst in
    let ps = c.args.places.now in
    let ns = c.args.parts.now in
    let k = c.loop-k.k in
    let n = c.index-parts-k.result in
    let step = drawn_all-step i ps ns k zero-part n (omega (arith, same-length i ps ns c.requires.lawful)) c.loop-k-test.true c.index-parts-k.is in
    let rest = drawn_all i (drop (k + 1) ps) (drop (k + 1) ns) in
    ap (λ zs. zs ++ rest) (c.in_ok-place_all.ensures ∙ ap (λ zs. c.loop-k.out.items ++ map (placed i (get_or ps k zero-part)) zs) (c.as_slice.ensures.value ∙ c.in_ok-spots.ensures))
    ∙ append_assoc c.loop-k.out.items (map (placed i (get_or ps k zero-part)) (drawn i n.region n.block)) rest
    ∙ ap (λ zs. c.loop-k.out.items ++ zs) (sym step) ∙ c.loop-k.invariant

pub draw_parts-returns : goal.draw_parts-returns
draw_parts-returns t c =
    let i = c.args.inst in
    let ps = c.args.places.now in
    let ns = c.args.parts.now in
    let d1 = drop_all c.loop-k.k ps (omega (arith, same-length i ps ns c.requires.lawful)) in
    let d2 = drop_all c.loop-k.k ns (omega arith) in
    sym (append-nil c.loop-k.out.items) ∙ (let f : c.loop-k.out.items ++ [] ≡ c.loop-k.out.items ++ drawn_all i (drop c.loop-k.k ps) (drop c.loop-k.k ns) = rw (d1, d2) refl in f) ∙ c.loop-k.invariant
