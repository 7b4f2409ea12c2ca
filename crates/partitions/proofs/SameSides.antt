use Rattle.std.proofs.Common.{ℕ, ◌+◌, inl, inr, ◌↔◌, arith}
use Rattle.plan_geometry.specs.declared.spots.Axis.{Axis}
use Rattle.plan_geometry.specs.declared.spots.Axis.TheVariants.{X, Y}
use Rattle.plan_geometry.specs.declared.instances.Inst.{Inst}
use Rattle.plan_geometry.specs.Layout.{side, CaseFits}
use Rattle.partitions.specs.Partitions.{IsPartition, IsMaximal, SameSides}
use Rattle.partitions.specs.Laws.{SameSidesIsReflexive, SameSidesIsSymmetric, SameSidesIsTransitive, SameSidesFitAlike, SameSidesShareMaximal}

pub same_sides_reflexive : SameSidesIsReflexive
same_sides_reflexive a = record { along_x = λ i j. (λ f. f, λ f. f); along_y = λ i j. (λ f. f, λ f. f) }

pub same_sides_symmetric : SameSidesIsSymmetric
same_sides_symmetric a b same = record {
  along_x = λ i j. ((same.along_x i j).1, (same.along_x i j).0);
  along_y = λ i j. ((same.along_y i j).1, (same.along_y i j).0);
}

pub same_sides_transitive : SameSidesIsTransitive
same_sides_transitive a b c first second = record {
  along_x = λ i j. (
    λ f. (second.along_x i j).0 ((first.along_x i j).0 f),
    λ f. (first.along_x i j).1 ((second.along_x i j).1 f),
  );
  along_y = λ i j. (
    λ f. (second.along_y i j).0 ((first.along_y i j).0 f),
    λ f. (first.along_y i j).1 ((second.along_y i j).1 f),
  );
}

-- the partitions of a side, along either axis
pub same_along : (axis : Axis) (a b : Inst) → SameSides a b → (i j : ℕ) → IsPartition axis a i j ↔ IsPartition axis b i j
same_along X a b same = same.along_x
same_along Y a b same = same.along_y

-- a case that fits on the one fits on the other
pub still_fits : (a b : Inst) → SameSides a b → CaseFits a → CaseFits b
still_fits a b same (inl f) =
    let x = (same.along_x 1 0).0 (omega (arith, f.0)) in
    let y = (same.along_y 0 1).0 (omega (arith, f.1)) in inl (omega (arith, x), omega (arith, y))
still_fits a b same (inr f) =
    let x = (same.along_x 0 1).0 (omega (arith, f.0)) in
    let y = (same.along_y 1 0).0 (omega (arith, f.1)) in inr (omega (arith, x), omega (arith, y))

pub same_sides_fit : SameSidesFitAlike
same_sides_fit a b same = (still_fits a b same, still_fits b a (same_sides_symmetric a b same))

maximal_there : (axis : Axis) (a b : Inst) (i j : ℕ) → SameSides a b
    → IsMaximal (side axis a) a.long a.short i j → IsMaximal (side axis b) b.long b.short i j
maximal_there axis a b i j same m =
    let s = same_along axis a b same in
    record {
      feasible = (s i j).0 m.feasible;
      i_full = λ f. m.i_full ((s (i + 1) j).1 f);
      j_full = λ f. m.j_full ((s i (j + 1)).1 f);
    }

pub same_sides_maximal : SameSidesShareMaximal
same_sides_maximal axis a b i j same = (
  maximal_there axis a b i j same,
  maximal_there axis b a i j (same_sides_symmetric a b same),
)
