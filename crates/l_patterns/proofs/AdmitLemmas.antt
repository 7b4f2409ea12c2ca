-- Each number of a region is the number of cases of a tree, and so of a layout.
use Rattle.std.proofs.Common.{◌≡◌, ℕ, ◌*◌, ◌/◌, List, [], ◌∷◌, refl, sym, ◌∙◌, subst, arith, inl, inr}
use Rattle.std.proofs.lemmas.Bool.{cases_lt}
use Rattle.std.proofs.Math.Nat.{le_refl}
use Rattle.plan_geometry.specs.declared.spots.Way.{Way}
use Rattle.plan_geometry.specs.declared.spots.Way.TheVariants.{Lying, Standing}
use Rattle.plan_geometry.specs.declared.instances.Inst.{Inst}
use Rattle.plan_geometry.specs.Layout.{IsLawfulWay, Admits}
use Rattle.block_tree.specs.declared.regions.Region.{Region}
use Rattle.block_tree.specs.declared.nodes.Node.{Node}
use Rattle.block_tree.specs.declared.nodes.Block.TheVariants as block
use Rattle.block_tree.specs.Regions.{IsOrdered, side_x, side_y}
use Rattle.block_tree.specs.Trees.{grid_cases, uniform}
use Rattle.block_tree.proofs.DrawingLemmas.{root-admits}
use Rattle.block_tree.proofs.RowLemmas.{held-ell, ell-lawful}
use Rattle.l_patterns.specs.Ells.{EllAll, by_grid, by_cut}
use Rattle.l_patterns.specs.States.{Makes}
use Rattle.l_patterns.specs.Laws.{EllAdmittedLaw}
use Rattle.l_patterns.proofs.EllLemmas.{first-region, second-region}
use Rattle.l_patterns.proofs.TreeLemmas.{are-lawful, tree-of}

-- a way that has the cases of the better grid, and is lawful
better : (i : Inst) (a b : ℕ) → (w : Way) × IsLawfulWay i w × (grid_cases i w a b ≡ uniform i a b)
better i a b =
    elim (cases_lt (grid_cases i Lying a b) (grid_cases i Standing a b)) [
      | inl l ↦ (
        Standing,
        λ s. elim (cases_lt i.short i.long) [
          | inl w ↦ w
          | inr w ↦ (let z : i.short ≡ i.long = omega arith in
              let q : (a / i.short) * (b / i.long) ≡ (a / i.long) * (b / i.short) = rw z refl in absurd (omega (arith, l, q)))
        ],
        omega (arith, l),
      )
      | inr l ↦ (Lying, λ s. absurd (never s), omega (arith, l))
    ] where
      never : Lying ≡ Standing → ⊥
      never s = cc

-- a number of a region has a tree
made : (i : Inst) {r : Region} {n : ℕ} → IsOrdered r → EllAll i r n → (d : Node) × Makes i r n d
made i {r = r} o (by_grid h e) =
    let w = better i (side_x r) (side_y r) in
    (record { region = r; block = block.Grid w.0 }, record { region = refl; lawful = (o, h, w.1); count = w.2 ∙ sym e })
made i {r = r} o (by_cut {p = p} {s = s} {cut = cut} t a b e) =
    let x = made i (first-region i r p s cut o t).ordered a in
    let y = made i (second-region i r p s cut o t).ordered b in
    let ns : List Node = x.0 ∷ y.0 ∷ [] in (
      record { region = r; block = block.Ell cut ns },
      record {
        region = refl;
        lawful = ell-lawful i r cut ns o t.lawful (are-lawful i r cut p s t x.0 y.0 x.1.region y.1.region x.1.lawful y.1.lawful);
        count = held-ell i r cut ns ∙ omega (arith, x.1.count, y.1.count, e);
      },
    )

pub admitted : EllAdmittedLaw
admitted i a b n x y h =
    let t = made i (le_refl a, le_refl b) h in
    subst (λ m. Admits i m) t.1.count (root-admits i t.0 (tree-of i a b n t.0 x y t.1))
