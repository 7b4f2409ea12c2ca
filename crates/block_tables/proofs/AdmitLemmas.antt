-- Each number of a block is the number of cases of a tree, and so of a layout.
use Rattle.std.proofs.Common.{◌≡◌, ℕ, Bool, true, false, cond, nat_lt, ◌+◌, ◌-◌, ◌*◌, ◌/◌, ◌≤◌, ◌<◌, List, [], ◌∷◌, refl, sym, ◌∙◌, subst, arith, inl, inr}
use Rattle.std.proofs.lemmas.Bool.{cases_lt, eq-eqb, ltb-true, ltb-false}
use Rattle.std.proofs.Math.Nat.{le_refl}
use Rattle.plan_geometry.specs.declared.spots.Way.TheVariants.{Lying, Standing}
use Rattle.plan_geometry.specs.declared.instances.Inst.{Inst}
use Rattle.plan_geometry.specs.Layout.{IsLawfulWay, Admits}
use Rattle.block_tree.specs.declared.nodes.Node.{Node}
use Rattle.block_tree.specs.declared.nodes.Block.TheVariants as block
use Rattle.block_tree.specs.Regions.{is_rectangle, side_x, side_y, rectangle}
use Rattle.block_tree.specs.Trees.{grid_cases, uniform}
use Rattle.block_tree.proofs.RowLemmas.{held-five, five-lawful}
use Rattle.block_tree.proofs.DrawingLemmas.{root-admits}
use Rattle.block_tables.specs.declared.patterns.Pattern.{Pattern}
use Rattle.block_tables.specs.Numbers.{IsNumber, by_grid, by_cuts, IsPartNumber, rounded, IsCentreNumber, counted, uncounted}
use Rattle.block_tables.specs.Built.{better_way, Makes, Serves}
use Rattle.block_tables.specs.Admitted.{AdmittedLaw}
use Rattle.block_tables.proofs.BoundLemmas.{down-le, raster-le}
use Rattle.block_tables.proofs.BuildLemmas.{empty-serves, makes-tree}

way-is : (i : Inst) (a b : ℕ) (t : Bool) → nat_lt (grid_cases i Lying a b) (grid_cases i Standing a b) ≡ t
    → IsLawfulWay i (cond t Standing Lying) × (grid_cases i (cond t Standing Lying) a b ≡ uniform i a b)
way-is i a b true e =
    let l : grid_cases i Lying a b < grid_cases i Standing a b = ltb-true _ _ e in (
      λ s. elim (cases_lt i.short i.long) [
        | inl w ↦ w
        | inr w ↦ (let z : i.short ≡ i.long = omega arith in
            let q : (a / i.short) * (b / i.long) ≡ (a / i.long) * (b / i.short) = rw z refl in absurd (omega (arith, l, q)))
      ],
      omega (arith, l),
    )
way-is i a b false e = let l : grid_cases i Standing a b ≤ grid_cases i Lying a b = ltb-false _ _ e in (λ s. absurd (never s), omega (arith, l)) where
  never : Lying ≡ Standing → ⊥
  never s = cc

better-is : (i : Inst) (a b : ℕ) → IsLawfulWay i (better_way i a b) × (grid_cases i (better_way i a b) a b ≡ uniform i a b)
better-is i a b = way-is i a b (nat_lt (grid_cases i Lying a b) (grid_cases i Standing a b)) refl

wide : (a b : ℕ) → side_x (rectangle a b) ≡ a
wide a b = rw (eq-eqb a a refl) refl

tall : (a b : ℕ) → side_y (rectangle a b) ≡ b
tall a b = rw (eq-eqb a a refl) refl

is-rectangle : (a b : ℕ) → is_rectangle (rectangle a b) ≡ true
is-rectangle a b = rw (eq-eqb a a refl) refl

abbrev grid : Inst → ℕ → ℕ → Node
grid i a b = record { region = rectangle a b; block = block.Grid (better_way i a b) }

-- the better grid
grid-makes : (i : Inst) (a b : ℕ) → Makes i a b (uniform i a b) (grid i a b)
grid-makes i a b = record {
  region = refl;
  lawful = ((le_refl a, le_refl b), is-rectangle a b, (better-is i a b).0);
  count = rw (wide a b, tall a b) (better-is i a b).1;
}

abbrev five : ℕ → ℕ → ℕ → ℕ → ℕ → ℕ → List Node → Node
five a b x1 x2 y1 y2 ns = record { region = rectangle a b; block = block.Five x1 x2 y1 y2 ns }

-- the node over five parts
five-makes : (i : Inst) (a b x1 x2 y1 y2 k1 k2 k3 k4 k5 : ℕ) → x1 ≤ x2 → x2 ≤ a → y1 ≤ y2 → y2 ≤ b → (n1 n2 n3 n4 n5 : Node)
    → Serves i x2 y1 k1 n1 → Serves i (a - x2) y2 k2 n2 → Serves i x1 (b - y1) k3 n3 → Serves i (a - x1) (b - y2) k4 n4 → Serves i (x2 - x1) (y2 - y1) k5 n5
    → Makes i a b (k1 + k2 + k3 + k4 + k5) (five a b x1 x2 y1 y2 (n1 ∷ n2 ∷ n3 ∷ n4 ∷ n5 ∷ []))
five-makes i a b x1 x2 y1 y2 k1 k2 k3 k4 k5 lx ax ly ay n1 n2 n3 n4 n5 h1 h2 h3 h4 h5 =
    let ns : List Node = n1 ∷ n2 ∷ n3 ∷ n4 ∷ n5 ∷ [] in
    let sx : side_x (rectangle a b) ≡ a = wide a b in
    let sy : side_y (rectangle a b) ≡ b = tall a b in
    record {
      region = refl;
      lawful = five-lawful i (rectangle a b) x1 x2 y1 y2 ns (le_refl a, le_refl b) (is-rectangle a b, lx, rw sx ax, ly, rw sy ay)
          (rw (sx, sy) ((h1.region, h1.lawful, (h2.region, h2.lawful, (h3.region, h3.lawful, (h4.region, h4.lawful, (h5.region, h5.lawful, tt)))))));
      count = held-five i (rectangle a b) x1 x2 y1 y2 ns ∙ omega (arith, h1.count, h2.count, h3.count, h4.count, h5.count);
    }

abbrev nothing : Node
nothing = record { region = rectangle 0 0; block = block.Empty }

mutual
  -- a number of a block has a tree
  made : (i : Inst) (pat : Pattern) {a b n : ℕ} → IsNumber i pat a b n → (d : Node) × Makes i a b n d
  made i pat {a = a} {b = b} (by_grid e) = (grid i a b, subst (λ m. Makes i a b m (grid i a b)) (sym e) (grid-makes i a b))
  made i pat {a = a} {b = b} (by_cuts {x1 = x1} {x2 = x2} {y1 = y1} {y2 = y2} {n1 = n1} {n2 = n2} {n3 = n3} {n4 = n4} {n5 = n5} c p1 p2 p3 p4 p5 e) =
      let t1 = part-made i pat p1 in
      let t2 = part-made i pat p2 in
      let t3 = part-made i pat p3 in
      let t4 = part-made i pat p4 in
      let t5 = centre-made i pat p5 in
      let d = five a b x1 x2 y1 y2 (t1.0 ∷ t2.0 ∷ t3.0 ∷ t4.0 ∷ t5.0 ∷ []) in (
        d,
        subst (λ m. Makes i a b m d) (sym e)
            (five-makes i a b x1 x2 y1 y2 n1 n2 n3 n4 n5 c.x_order (raster-le i a x2 c.x2_raster) c.y_order (raster-le i b y2 c.y2_raster) t1.0 t2.0 t3.0 t4.0 t5.0 t1.1 t2.1 t3.1 t4.1 t5.1),
      )

  part-made : (i : Inst) (pat : Pattern) {c d n : ℕ} → IsPartNumber i pat c d n → (t : Node) × Serves i c d n t
  part-made i pat {c = c} {d = d} (rounded {a = a} {b = b} u v f) =
      let t = made i pat f in
      let x = down-le i c a u in
      let y = down-le i d b v in
      (t.0, record { region = rw t.1.region (x, y, x, y); lawful = t.1.lawful; count = t.1.count })

  centre-made : (i : Inst) (pat : Pattern) {c d n : ℕ} → IsCentreNumber i pat c d n → (t : Node) × Serves i c d n t
  centre-made i pat (counted k p) = part-made i pat p
  centre-made i pat {c = c} {d = d} (uncounted k e) = (nothing, subst (λ m. Serves i c d m nothing) (sym e) (empty-serves i c d))

pub admitted : AdmittedLaw
admitted i pat a b n x y h =
    let t = made i pat h in
    subst (λ m. Admits i m) t.1.count (root-admits i t.0 (makes-tree i a b n t.0 t.1 x y))
