-- The laws of the numbers of L-regions.
use Rattle.std.specs.Prelude.{ℕ, ◌+◌, ◌*◌, ◌≤◌, ◌<◌, ◌≡◌, true}
use Rattle.plan_geometry.specs.declared.instances.Inst.{Inst}
use Rattle.plan_geometry.specs.Layout.{Admits}
use Rattle.block_tree.specs.declared.regions.Region.{Region}
use Rattle.block_tree.specs.declared.regions.Cut.{Cut}
use Rattle.block_tree.specs.Regions.{IsOrdered, is_rectangle, side_x, side_y, rectangle, area}
use Rattle.block_tree.specs.Parts.{IsCut}
use Rattle.block_tree.specs.Trees.{uniform}
use Rattle.l_patterns.specs.declared.sides.Sides.{Sides}
use Rattle.l_patterns.specs.Ells.{EllAll, IsSplit, IsNormalCut}
use Rattle.l_patterns.specs.Cuts.{IsRegion, Fits, AreSidesOf, cut_count, IsNth}

-- the law of cells: the cells of so many cases are at most those of the region
abbrev pub EllCellsLaw : Type 0
EllCellsLaw = (I : Inst) (r : Region) (n : ℕ) → IsOrdered r → EllAll I r n → n * (I.long * I.short) ≤ area r

-- n bounds what the cuts of the region into two smaller parts give
abbrev pub BoundsSmallerParts : Inst → Region → ℕ → Type 0
BoundsSmallerParts I r n = (cut : Cut) (p s : Region) → IsSplit I r cut p s → area p < area r → area s < area r
    → (k m : ℕ) → EllAll I p k → EllAll I s m → k + m ≤ n

-- the law of whole parts: a cut one part of which has as many cells as its region gives nothing greater than the
-- better grid and the cuts into smaller parts give
abbrev pub WholePartsLaw : Type 0
WholePartsLaw = (I : Inst) (r : Region) (n : ℕ) → IsRegion I r → 0 < area r → (is_rectangle r ≡ true → uniform I (side_x r) (side_y r) ≤ n)
    → BoundsSmallerParts I r n → (m : ℕ) → EllAll I r m → m ≤ n

-- the law of numbering: every lawful cut at sums of case sides has a number
abbrev pub NumberingLaw : Type 0
NumberingLaw = (q : Sides) (r : Region) (cut : Cut) → AreSidesOf q → Fits q r → IsCut r cut → IsNormalCut q.inst cut
    → (k : ℕ) × (k < cut_count q r) × IsNth q r k cut

-- the law of layouts: each number of a rectangle that is no larger than the pallet is the number of cases of some layout
abbrev pub EllAdmittedLaw : Type 0
EllAdmittedLaw = (I : Inst) (a b n : ℕ) → a ≤ I.l_side → b ≤ I.w_side → EllAll I (rectangle a b) n → Admits I n
