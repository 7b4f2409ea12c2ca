-- The tree of cuts of the whole pallet.
use Rattle.std.proofs.Common.{◌≡◌, ℕ, Bool, true, false, cond, nat_lt, ◌-◌, ◌*◌, ◌/◌, ◌≤◌, ◌<◌, List, [], ◌∷◌, refl, ◌∙◌, arith, inl, inr}
use Rattle.std.proofs.lemmas.Bool.{cases_lt, eq-eqb, ltb-true, ltb-false}
use Rattle.std.proofs.Math.Nat.{le_refl}
use Rattle.plan_geometry.specs.declared.spots.Way.TheVariants.{Lying, Standing}
use Rattle.plan_geometry.specs.declared.instances.Inst.{Inst}
use Rattle.block_tree.specs.declared.nodes.Node.{Node}
use Rattle.plan_geometry.specs.Layout.{IsLawfulWay}
use Rattle.block_tree.specs.declared.nodes.Block.TheVariants as block
use Rattle.block_tree.specs.Regions.{is_rectangle, side_x, side_y, rectangle}
use Rattle.block_tree.specs.Trees.{grid_cases, uniform, held_count, IsLawful, IsTree}
use Rattle.block_tables.specs.declared.tables.Split.{Split}
use Rattle.block_tables.specs.Numbers.{Greatest}
use Rattle.block_tables.specs.Built.{better_way}
use Rattle.block_tree.proofs.RowLemmas.{held-five, five-lawful}
use Rattle.five_block.specs.FirstLevel.{IsFirstBest, IsFirstNumber, first_sum, grid_node, first_root}

way-is : (i : Inst) (a b : ℕ) (t : Bool) → nat_lt (grid_cases i Lying a b) (grid_cases i Standing a b) ≡ t
    → IsLawfulWay i (cond t Standing Lying) × (grid_cases i (cond t Standing Lying) a b ≡ uniform i a b)
way-is i a b true e =
    let l : grid_cases i Lying a b < grid_cases i Standing a b = ltb-true _ _ e in (
      λ s. elim (cases_lt i.short i.long) [
        | inl w ↦ w
        | inr w ↦ (let z : i.short ≡ i.long = omega arith in
            let q : (a / i.short) * (b / i.long) ≡ (a / i.long) * (b / i.short) = rw z refl in absurd (omega (arith, l, q)))
      ],
      omega (arith, l),
    )
way-is i a b false e = let l : grid_cases i Standing a b ≤ grid_cases i Lying a b = ltb-false _ _ e in (λ s. absurd (never s), omega (arith, l)) where
  never : Lying ≡ Standing → ⊥
  never s = cc

sx : (a b : ℕ) → side_x (rectangle a b) ≡ a
sx a b = rw (eq-eqb a a refl) refl

sy : (a b : ℕ) → side_y (rectangle a b) ≡ b
sy a b = rw (eq-eqb a a refl) refl

sr : (a b : ℕ) → is_rectangle (rectangle a b) ≡ true
sr a b = rw (eq-eqb a a refl) refl

lawful-grid : (i : Inst) (a b : ℕ) → IsLawful i (rectangle a b) (block.Grid (better_way i a b))
lawful-grid i a b = ((le_refl a, le_refl b), sr a b, (way-is i a b (nat_lt (grid_cases i Lying a b) (grid_cases i Standing a b)) refl).0)

held-grid : (i : Inst) (a b : ℕ) → held_count i (rectangle a b) (block.Grid (better_way i a b)) ≡ uniform i a b
held-grid i a b = rw (sx a b, sy a b) (way-is i a b (nat_lt (grid_cases i Lying a b) (grid_cases i Standing a b)) refl).1

pub root-tree : (i : Inst) → (s : Split) → s.x1 ≤ s.x2 → s.x2 ≤ i.l_side → s.y1 ≤ s.y2 → s.y2 ≤ i.w_side
    → IsTree i (first_root i s) × (held_count i (first_root i s).region (first_root i s).block ≡ first_sum i s.x1 s.x2 s.y1 s.y2)
root-tree i s h1 h2 h3 h4 =
    let a = i.l_side in
    let b = i.w_side in
    let ns : List Node = grid_node i s.x2 s.y1 ∷ grid_node i (a - s.x2) s.y2 ∷ grid_node i s.x1 (b - s.y1) ∷ grid_node i (a - s.x1) (b - s.y2) ∷ grid_node i (s.x2 - s.x1) (s.y2 - s.y1) ∷ [] in
    let w : (p q : ℕ) → (p ≤ p) × (q ≤ q) × (p ≤ p) × (q ≤ q) = λ p q. (le_refl p, le_refl q, le_refl p, le_refl q) in (
      record {
        lawful = (five-lawful i (rectangle a b) s.x1 s.x2 s.y1 s.y2 ns (le_refl a, le_refl b) (sr a b, h1, rw (sx a b) h2, h3, rw (sy a b) h4)
            (rw (sx a b, sy a b) ((w _ _, lawful-grid i _ _, (w _ _, lawful-grid i _ _, (w _ _, lawful-grid i _ _, (w _ _, lawful-grid i _ _, (w _ _, lawful-grid i _ _, tt))))))));
        rectangle = sr a b;
        in_x = rw (sx a b) (le_refl a);
        in_y = rw (sy a b) (le_refl b);
      },
      held-five i (rectangle a b) s.x1 s.x2 s.y1 s.y2 ns ∙ omega (arith, held-grid i s.x2 s.y1, held-grid i (a - s.x2) s.y2, held-grid i s.x1 (b - s.y1), held-grid i (a - s.x1) (b - s.y2), held-grid i (s.x2 - s.x1) (s.y2 - s.y1)),
    )

-- the first best cuts give the greatest number of the first level
pub greatest-first : (i : Inst) (s : Split) (n : ℕ) → IsFirstBest i s n → Greatest (IsFirstNumber i) n
greatest-first i s n h = record {
  reached = record { split = s; cuts = h.cuts; sum = h.value };
  greatest = λ m k. let g = h.greatest k.split k.cuts in omega (arith, k.sum);
}
