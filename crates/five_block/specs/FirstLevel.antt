-- The first level of five blocks: a cut of the whole pallet into five parts, each filled by its better grid.
use Rattle.std.specs.Prelude.{ℕ, ◌+◌, ◌-◌, ◌*◌, ◌≤◌, ◌<◌, ◌≡◌, ◌⊎◌, List, [], ◌∷◌, length, slice_index}
use Rattle.plan_geometry.specs.declared.instances.Inst.{Inst}
use Rattle.block_tree.specs.declared.nodes.Node.{Node}
use Rattle.block_tree.specs.declared.nodes.Block.TheVariants as block
use Rattle.block_tree.specs.Regions.{rectangle}
use Rattle.block_tree.specs.Trees.{uniform, held_count}
use Rattle.block_tables.specs.declared.patterns.Pattern.TheVariants.{Five}
use Rattle.block_tables.specs.declared.tables.Split.{Split}
use Rattle.block_tables.specs.Tables.{parts_sum, HasPlace, IsRising, AllUpTo}
use Rattle.block_tables.specs.Built.{better_way}
use Rattle.five_block.specs.declared.first_level.KnownCut.{KnownCut}
use Rattle.five_block.specs.declared.first_level.CutLists.{CutLists}

-- a cut of a side: a number of long case sides from the one end, or from the other
abbrev pub IsFirstCut : Inst → ℕ → ℕ → Type 0
IsFirstCut I s x = (x ≤ s) × (k : ℕ) × ((x ≡ k * I.long) ⊎ (x + k * I.long ≡ s))

-- the number of the cuts of the whole pallet
abbrev pub first_sum : Inst → ℕ → ℕ → ℕ → ℕ → ℕ
first_sum I x1 x2 y1 y2 = parts_sum Five (uniform I) I.l_side I.w_side x1 x2 y1 y2

pub record AreFirstCuts (I : Inst) (s : Split) : Type 0 where
  pub x1 : IsFirstCut I I.l_side s.x1
  pub x2 : IsFirstCut I I.l_side s.x2
  pub y1 : IsFirstCut I I.w_side s.y1
  pub y2 : IsFirstCut I I.w_side s.y2
  pub x_order : s.x1 ≤ s.x2
  pub y_order : s.y1 ≤ s.y2

-- s is t, or comes before it by x1, then x2, then y1, then y2
abbrev pub IsNoLater : Split → Split → Type 0
IsNoLater s t = (s.x1 < t.x1) ⊎ ((s.x1 ≡ t.x1) × ((s.x2 < t.x2) ⊎ ((s.x2 ≡ t.x2) × ((s.y1 < t.y1) ⊎ ((s.y1 ≡ t.y1) × (s.y2 ≤ t.y2))))))

-- n is a number of the first level
pub record IsFirstNumber (I : Inst) (n : ℕ) : Type 0 where
  pub split : Split
  pub cuts : AreFirstCuts I split
  pub sum : n ≡ first_sum I split.x1 split.x2 split.y1 split.y2

-- the first cuts that give the greatest number
pub record IsFirstBest (I : Inst) (s : Split) (n : ℕ) : Type 0 where
  pub cuts : AreFirstCuts I s
  pub value : n ≡ first_sum I s.x1 s.x2 s.y1 s.y2
  pub greatest : (t : Split) → AreFirstCuts I t → first_sum I t.x1 t.x2 t.y1 t.y2 ≤ n
  pub first : (t : Split) → AreFirstCuts I t → first_sum I t.x1 t.x2 t.y1 t.y2 ≡ n → IsNoLater s t

-- all cuts of a side, rising
pub record ListsFirstCuts (I : Inst) (s : ℕ) (xs : List ℕ) : Type 0 where
  pub all : (x : ℕ) → IsFirstCut I s x → HasPlace xs x
  pub only : (x : ℕ) → HasPlace xs x → IsFirstCut I s x
  pub rise : IsRising xs
  pub up : AllUpTo xs s

-- the lists of the cuts of both sides are whole
pub record AreCutLists (q : CutLists) : Type 0 where
  pub on_x : ListsFirstCuts q.inst q.inst.l_side q.xs.now
  pub on_y : ListsFirstCuts q.inst q.inst.w_side q.ys.now

-- where cuts stand in the order, as one number: each of them is below 4001
abbrev pub rank : ℕ → ℕ → ℕ → ℕ → ℕ
rank x1 x2 y1 y2 = x1 * 64048012001 + x2 * 16008001 + y1 * 4001 + y2

abbrev pub rank_of : Split → ℕ
rank_of s = rank s.x1 s.x2 s.y1 s.y2

pub record IsKnownCut (q : CutLists) (m : KnownCut) : Type 0 where
  pub has_x1 : HasPlace q.xs.now m.split.x1
  pub has_x2 : HasPlace q.xs.now m.split.x2
  pub has_y1 : HasPlace q.ys.now m.split.y1
  pub has_y2 : HasPlace q.ys.now m.split.y2
  pub x_order : m.split.x1 ≤ m.split.x2
  pub y_order : m.split.y1 ≤ m.split.y2
  pub value : m.value ≡ first_sum q.inst m.split.x1 m.split.x2 m.split.y1 m.split.y2

-- r is m, or has a greater number
abbrev pub Improves : KnownCut → KnownCut → Type 0
Improves m r = (m.value < r.value) ⊎ ((m.value ≡ r.value) × (rank_of m.split ≡ rank_of r.split))

-- no greater, and as great only where it comes no earlier
abbrev pub Beats : Inst → KnownCut → ℕ → ℕ → ℕ → ℕ → Type 0
Beats I m x1 x2 y1 y2 = (first_sum I x1 x2 y1 y2 < m.value) ⊎ ((first_sum I x1 x2 y1 y2 ≡ m.value) × (rank_of m.split ≤ rank x1 x2 y1 y2))

abbrev pub CoversY2 : CutLists → ℕ → ℕ → ℕ → ℕ → KnownCut → Type 0
CoversY2 q x1 x2 y1 upto m = (k : ℕ) → k < upto → y1 ≤ slice_index q.ys.now k → Beats q.inst m x1 x2 y1 (slice_index q.ys.now k)

abbrev pub CoversY1 : CutLists → ℕ → ℕ → ℕ → KnownCut → Type 0
CoversY1 q x1 x2 upto m = (k : ℕ) → k < upto → CoversY2 q x1 x2 (slice_index q.ys.now k) (length q.ys.now) m

abbrev pub CoversX2 : CutLists → ℕ → ℕ → KnownCut → Type 0
CoversX2 q x1 upto m = (k : ℕ) → k < upto → x1 ≤ slice_index q.xs.now k → CoversY1 q x1 (slice_index q.xs.now k) (length q.ys.now) m

abbrev pub CoversX1 : CutLists → ℕ → KnownCut → Type 0
CoversX1 q upto m = (k : ℕ) → k < upto → CoversX2 q (slice_index q.xs.now k) (length q.xs.now) m

-- ---- the tree

-- the better grid of a part
abbrev pub grid_node : Inst → ℕ → ℕ → Node
grid_node I a b = record { region = rectangle a b; block = block.Grid (better_way I a b) }

abbrev pub first_root : Inst → Split → Node
first_root I s = record {
  region = rectangle I.l_side I.w_side;
  block = block.Five s.x1 s.x2 s.y1 s.y2
      (grid_node I s.x2 s.y1 ∷ grid_node I (I.l_side - s.x2) s.y2 ∷ grid_node I s.x1 (I.w_side - s.y1)
      ∷ grid_node I (I.l_side - s.x1) (I.w_side - s.y2) ∷ grid_node I (s.x2 - s.x1) (s.y2 - s.y1) ∷ []);
}

-- the tree of the first of the cuts that give the greatest number
abbrev pub IsFirstLevel : Inst → Node → Type 0
IsFirstLevel I d = (s : Split) × IsFirstBest I s (held_count I d.region d.block) × (d ≡ first_root I s)
