-- Cells that are painted one case after the other.
use Rattle.std.specs.Prelude.{◌≡◌, ℕ, ◌+◌, ◌*◌, ◌<◌, List, length, slice_index, if◌then◌else◌}
use Rattle.plan_geometry.specs.declared.spots.Spot.{Spot}
use Rattle.plan_geometry.specs.declared.instances.Inst.{Inst}
use Rattle.layer_drawing.specs.Drawing.{covers, cell_character}

-- the character of a cell, where the rows stand one after the other, by rising y
abbrev pub at_cell : Inst → List ℕ → ℕ → ℕ → ℕ
at_cell I cells x y = slice_index cells (y * I.l_side + x)

-- one character for each cell
abbrev pub HasAllCells : Inst → List ℕ → Type 0
HasAllCells I cells = length cells ≡ I.w_side * I.l_side

-- the cells of a case have this character now, and the others are as before
abbrev pub IsPainted : Inst → Spot → ℕ → List ℕ → List ℕ → Type 0
IsPainted I s character old new =
    (x y : ℕ) → x < I.l_side → y < I.w_side → at_cell I new x y ≡ (if covers I x y s then character else at_cell I old x y)

-- each cell has the character of the drawing
pub record IsDrawn (I : Inst) (spots : List Spot) (cells : List ℕ) : Type 0 where
  pub all : HasAllCells I cells
  pub each : (x y : ℕ) → x < I.l_side → y < I.w_side → at_cell I cells x y ≡ cell_character I spots x y
