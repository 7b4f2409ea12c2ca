use Rattle.std.proofs.Common.{arith, ◌≡◌, ap, sym, ◌∙◌, refl, subst}
use Rattle.block_tree.specs.declared.nodes.Block.TheVariants.{Five, Ell}
use Rattle.block_tree.specs.Regions.{side_x, side_y}
use Rattle.block_tree.specs.Parts.{five_parts, ell_parts}
use Rattle.block_tree.specs.Trees.{IsLawful, AreLawful, node_count, node_count_all}
use Rattle.block_tree.proofs.RowLemmas.{nodes-five, nodes-ell, lawful-five, lawful-ell, five-lawful, ell-lawful, never}
use Rattle.block_tree.proofs.AreaLemmas.{lawful-ordered}
use Rattle.block_tree.proofs.HeldLemmas.{node-below}
use Rattle.block_tree.proofs.DrawingLemmas.{same-length}
use Rattle.block_tree.proofs.checking.+lawful.Goals as goal

pub are_lawful-returns-then-places-parts : goal.are_lawful-returns-then-places-parts
are_lawful-returns-then-places-parts t c =
    (λ h. never h, λ h. absurd (omega (arith, same-length c.args.inst c.args.places.now c.args.parts.now h, c.if-places-parts.true)))

pub are_lawful-is_lawful-requires : goal.are_lawful-is_lawful-requires
are_lawful-is_lawful-requires t c =
    (omega (arith, node-below c.args.parts.now c.loop-k.k c.index-parts-k-in-loop-k.result c.loop-k-test.true c.index-parts-k-in-loop-k.is, c.decreases), tt)

pub is_lawful-returns-then-not-is_ordered : goal.is_lawful-returns-then-not-is_ordered
is_lawful-returns-then-not-is_ordered t c =
    (λ h. never h, λ h. sym c.if-not-is_ordered.true ∙ c.is_ordered.ensures.1 (lawful-ordered c.args.inst c.args.node.now.region c.args.node.now.block h))

pub is_lawful-are_lawful-requires : goal.is_lawful-are_lawful-requires
is_lawful-are_lawful-requires t c =
    (omega (arith, ap node_count c.in-Five.is, nodes-five c.in-Five.x1 c.in-Five.x2 c.in-Five.y1 c.in-Five.y2 c.in-Five.parts, ap node_count_all c.as_slice.ensures, c.decreases), tt)

pub is_lawful-are_lawful-requires-in-Ell : goal.is_lawful-are_lawful-requires-in-Ell
is_lawful-are_lawful-requires-in-Ell t c =
    (omega (arith, ap node_count c.in-Ell.is, nodes-ell c.in-Ell.cut c.in-Ell.parts, ap node_count_all c.as_slice-in-Ell.ensures, c.decreases), tt)

pub is_lawful-returns-else-not-are_five_cuts : goal.is_lawful-returns-else-not-are_five_cuts
is_lawful-returns-else-not-are_five_cuts t c =
    let i = c.args.inst in
    let r = c.args.node.now.region in
    let ps = five_parts (side_x r) (side_y r) c.in-Five.x1 c.in-Five.x2 c.in-Five.y1 c.in-Five.y2 in
    let e : c.five_parts-places.result ≡ ps = c.five_parts-places.ensures ∙ rw (c.side_x.ensures, c.side_y.ensures) refl in
    let o = c.is_ordered.ensures.0 c.if-not-is_ordered.false in
    let k = c.are_five_cuts.ensures.0 c.if-not-are_five_cuts.false in (
      λ h. (let a = c.are_lawful.ensures.0 h in
          let a1 : AreLawful i ps c.as_slice.result.now = subst (λ qs. AreLawful i qs c.as_slice.result.now) e a in
          let a2 : AreLawful i ps c.in-Five.parts = subst (λ ns. AreLawful i ps ns) c.as_slice.ensures a1 in
          rw c.in-Five.is (five-lawful i r c.in-Five.x1 c.in-Five.x2 c.in-Five.y1 c.in-Five.y2 c.in-Five.parts o k a2)),
      λ h. (let w : IsLawful i r (Five c.in-Five.x1 c.in-Five.x2 c.in-Five.y1 c.in-Five.y2 c.in-Five.parts) = rw c.in-Five.is at h in
          let b = lawful-five i r c.in-Five.x1 c.in-Five.x2 c.in-Five.y1 c.in-Five.y2 c.in-Five.parts w in
          let b1 : AreLawful i ps c.as_slice.result.now = subst (λ ns. AreLawful i ps ns) (sym c.as_slice.ensures) b in
          c.are_lawful.ensures.1 (subst (λ qs. AreLawful i qs c.as_slice.result.now) (sym e) b1)),
    )

pub is_lawful-returns-else-not-is_cut : goal.is_lawful-returns-else-not-is_cut
is_lawful-returns-else-not-is_cut t c =
    let i = c.args.inst in
    let r = c.args.node.now.region in
    let ps = ell_parts r c.in-Ell.cut in
    let o = c.is_ordered.ensures.0 c.if-not-is_ordered.false in
    let k = c.is_cut.ensures.0 c.if-not-is_cut.false in (
      λ h. (let a = c.are_lawful-in-Ell.ensures.0 h in
          let a1 : AreLawful i ps c.as_slice-in-Ell.result.now = subst (λ qs. AreLawful i qs c.as_slice-in-Ell.result.now) c.ell_parts-places.ensures a in
          let a2 : AreLawful i ps c.in-Ell.parts = subst (λ ns. AreLawful i ps ns) c.as_slice-in-Ell.ensures a1 in
          rw c.in-Ell.is (ell-lawful i r c.in-Ell.cut c.in-Ell.parts o k a2)),
      λ h. (let w : IsLawful i r (Ell c.in-Ell.cut c.in-Ell.parts) = rw c.in-Ell.is at h in
          let b = lawful-ell i r c.in-Ell.cut c.in-Ell.parts w in
          let b1 : AreLawful i ps c.as_slice-in-Ell.result.now = subst (λ ns. AreLawful i ps ns) (sym c.as_slice-in-Ell.ensures) b in
          c.are_lawful-in-Ell.ensures.1 (subst (λ qs. AreLawful i qs c.as_slice-in-Ell.result.now) (sym c.ell_parts-places.ensures) b1)),
    )
