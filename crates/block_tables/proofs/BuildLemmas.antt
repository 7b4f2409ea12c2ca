-- What building a tree from a finished table needs.
use Rattle.std.proofs.Common.{◌≡◌, ℕ, true, ◌+◌, ◌-◌, ◌*◌, ◌≤◌, ◌<◌, List, [], ◌∷◌, length, slice_index, refl, ◌∙◌, arith, inl, inr}
use Rattle.std.proofs.lemmas.Bool.{cases_lt, eq-eqb}
use Rattle.std.proofs.Math.Nat.{le_refl}
use Rattle.plan_geometry.specs.declared.instances.Inst.{Inst}
use Rattle.block_tree.specs.declared.nodes.Node.{Node}
use Rattle.block_tree.specs.Trees.{IsTree}
use Rattle.block_tree.specs.Regions.{is_rectangle, side_x, side_y, rectangle}
use Rattle.block_tree.specs.declared.nodes.Block.TheVariants as block
use Rattle.block_tables.specs.declared.patterns.Pattern.{Pattern}
use Rattle.block_tables.specs.declared.tables.Table.{Table}
use Rattle.block_tables.specs.declared.tables.Split.{Split}
use Rattle.block_tables.specs.declared.building.Done.{Done}
use Rattle.block_tables.specs.Tables.{centre, look}
use Rattle.block_tables.specs.Built.{IsProper, IsDone, Makes, Serves}
use Rattle.block_tree.proofs.RowLemmas.{held-five, five-lawful}
use Rattle.block_tables.proofs.BoundLemmas.{down-le}
use Rattle.block_tables.proofs.EntryLemmas.{place-le, place-same, earlier}

-- a smaller block stands earlier in the table
pub before-at : (d : Done) → IsDone d → (r c p q : ℕ) → r < length d.xs.now → c < length d.ys.now → p ≤ slice_index d.xs.now r → q ≤ slice_index d.ys.now c
    → p + q < slice_index d.xs.now r + slice_index d.ys.now c
    → (slice_index d.table.now.x_places.items p * d.table.now.y_count + slice_index d.table.now.y_places.items q < r * d.table.now.y_count + c) × (p < length d.table.now.x_places.items) × (q < length d.table.now.y_places.items)
before-at d h r c p q r_in c_in hp hq l =
    let f = h.filled in
    let t = d.table.now in
    let p_in : p < length t.x_places.items = omega (arith, h.reach_x r r_in) in
    let q_in : q < length t.y_places.items = omega (arith, h.reach_y c c_in) in
    let x = place-le d.inst d.xs.now t.x_places.items p r f.on_x p_in r_in hp in
    let y = place-le d.inst d.ys.now t.y_places.items q c f.on_y q_in c_in hq in
    let w : slice_index t.y_places.items q < t.y_count = f.table.columns q q_in in (
      elim (cases_lt (slice_index t.x_places.items p) r) [
        | inl z ↦ earlier r (slice_index t.x_places.items p) c (slice_index t.y_places.items q) t.y_count z w
        | inr z ↦ (let e : slice_index t.x_places.items p ≡ r = omega arith in
            elim (cases_lt (slice_index t.y_places.items q) c) [
              | inl v ↦ rw e (omega arith)
              | inr v ↦ (let g = place-same d.inst d.xs.now t.x_places.items p r f.on_x p_in hp e in
                  let g2 = place-same d.inst d.ys.now t.y_places.items q c f.on_y q_in hq (omega arith) in absurd (omega arith))
            ])
      ],
      p_in,
      q_in,
    )

-- what stands at a part's place may stand as the part
pub serves-from : (d : Done) → IsDone d → (p q : ℕ) → p < length d.table.now.x_places.items → q < length d.table.now.y_places.items → (n : Node)
    → Makes d.inst (slice_index d.xs.now (slice_index d.table.now.x_places.items p)) (slice_index d.ys.now (slice_index d.table.now.y_places.items q)) (look d.table.now p q) n
    → Serves d.inst p q (look d.table.now p q) n
serves-from d h p q hp hq n m =
    let x = down-le d.inst p _ (h.filled.on_x.downs p hp) in
    let y = down-le d.inst q _ (h.filled.on_y.downs q hq) in
    record { region = rw m.region (x, y, x, y); lawful = m.lawful; count = m.count }

-- the node over five parts
pub five-makes : (i : Inst) (pat : Pattern) (t : Table) (a b n : ℕ) (s : Split) → IsProper pat t a b s n → (n1 n2 n3 n4 n5 : Node)
    → Serves i s.x2 s.y1 (look t s.x2 s.y1) n1 → Serves i (a - s.x2) s.y2 (look t (a - s.x2) s.y2) n2 → Serves i s.x1 (b - s.y1) (look t s.x1 (b - s.y1)) n3
    → Serves i (a - s.x1) (b - s.y2) (look t (a - s.x1) (b - s.y2)) n4 → Serves i (s.x2 - s.x1) (s.y2 - s.y1) (centre pat (look t) (s.x2 - s.x1) (s.y2 - s.y1)) n5
    → Makes i a b n (record { region = rectangle a b; block = block.Five s.x1 s.x2 s.y1 s.y2 (n1 ∷ n2 ∷ n3 ∷ n4 ∷ n5 ∷ []) })
five-makes i pat t a b n s k n1 n2 n3 n4 n5 h1 h2 h3 h4 h5 =
    let ns : List Node = n1 ∷ n2 ∷ n3 ∷ n4 ∷ n5 ∷ [] in
    let r = rectangle a b in
    let sx : side_x r ≡ a = same_side_x a b in
    let sy : side_y r ≡ b = same_side_y a b in
    record {
      region = refl;
      lawful = five-lawful i r s.x1 s.x2 s.y1 s.y2 ns (le_refl a, le_refl b) (is-rectangle a b, k.x_order, rw sx k.x_in, k.y_order, rw sy k.y_in)
          (rw (sx, sy) ((h1.region, h1.lawful, (h2.region, h2.lawful, (h3.region, h3.lawful, (h4.region, h4.lawful, (h5.region, h5.lawful, tt)))))));
      count = held-five i r s.x1 s.x2 s.y1 s.y2 ns ∙ omega (arith, h1.count, h2.count, h3.count, h4.count, h5.count, k.sum);
    } where
      same_side_x : (a b : ℕ) → side_x (rectangle a b) ≡ a
      same_side_x a b = rw (eq-eqb a a refl) refl

      same_side_y : (a b : ℕ) → side_y (rectangle a b) ≡ b
      same_side_y a b = rw (eq-eqb a a refl) refl

      is-rectangle : (a b : ℕ) → is_rectangle (rectangle a b) ≡ true
      is-rectangle a b = rw (eq-eqb a a refl) refl

-- the empty node may stand as any part, with no case
pub empty-serves : (i : Inst) (p q : ℕ) → Serves i p q 0 (record { region = rectangle 0 0; block = block.Empty })
empty-serves i p q = record { region = (omega arith, omega arith, omega arith, omega arith); lawful = (omega arith, omega arith); count = refl }

pub makes-tree : (i : Inst) (a b n : ℕ) (d : Node) → Makes i a b n d → a ≤ i.l_side → b ≤ i.w_side → IsTree i d
makes-tree i a b n d m ha hb = record { lawful = m.lawful; rectangle = is-rect; in_x = rw same-x ha; in_y = rw same-y hb } where
  is-rect : is_rectangle d.region ≡ true
  is-rect = rw (m.region, eq-eqb a a refl) refl

  same-x : side_x d.region ≡ a
  same-x = rw (m.region, eq-eqb a a refl) refl

  same-y : side_y d.region ≡ b
  same-y = rw (m.region, eq-eqb a a refl) refl
