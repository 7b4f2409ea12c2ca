use Rattle.std.specs.Prelude.{◌≡◌, ◌≢◌, ℕ, ◌<◌, ◌≤◌, ◌⊎◌, List, [], ◌∷◌, ◌++◌, length, All, AllPairs, Any}
use Rattle.plan_geometry.specs.declared.spots.Spot.{Spot}
use Rattle.plan_geometry.specs.declared.instances.Inst.{Inst}
use Rattle.plan_geometry.specs.Placed.{Placed, IsLayer}
use Rattle.layer_symmetry.specs.declared.symmetries.Move.{Move}
use Rattle.layer_symmetry.specs.Moves.{IsLawfulMove, move_number, IsImage}

-- a lawful move, and the image of the layer under it
pub record IsVariant (I : Inst) (spots : List Spot) (v : Move × Placed) : Type 0 where
  pub lawful : IsLawfulMove I v.0
  pub inst : v.1.inst ≡ I
  pub image : IsImage I v.0 spots v.1.spots

-- the layers of the two are different
abbrev pub AreDistinct : Move × Placed → Move × Placed → Type 0
AreDistinct v w = v.1.spots ≢ w.1.spots

-- the first move comes before the second
abbrev pub ComesEarlier : Move × Placed → Move × Placed → Type 0
ComesEarlier v w = move_number v.0 < move_number w.0

-- the layer is the image under a move, and stands with this move or an earlier one
abbrev pub StandsBy : Inst → List Spot → Move → Move × Placed → Type 0
StandsBy I spots m v = (move_number v.0 ≤ move_number m) × IsImage I m spots v.1.spots

-- the images under the lawful moves in order, each that equals an earlier one left out: no image stands
-- twice, and that of each lawful move stands with this move or an earlier one
pub record IsVariants (I : Inst) (spots : List Spot) (variants : List (Move × Placed)) : Type 0 where
  pub each : All (IsVariant I spots) variants
  pub in_order : AllPairs ComesEarlier variants
  pub distinct : AllPairs AreDistinct variants
  pub complete : (m : Move) → IsLawfulMove I m → Any (StandsBy I spots m) variants

-- no other list has the variants of this layer
abbrev pub IsOnlyListOfVariants : Inst → List Spot → List (Move × Placed) → Type 0
IsOnlyListOfVariants I spots variants =
    (others : List (Move × Placed)) → IsVariants I spots others → others ≡ variants

-- a layer of the instance that has n cases
pub record IsLayerOf (I : Inst) (n : ℕ) (v : Move × Placed) : Type 0 where
  pub inst : v.1.inst ≡ I
  pub layer : IsLayer v.1.inst v.1.spots
  pub count : length v.1.spots ≡ n

-- the variants by the moves before a number
pub record IsVariantsBefore (I : Inst) (spots : List Spot) (number : ℕ) (variants : List (Move × Placed)) : Type 0 where
  pub each : All (IsVariant I spots) variants
  pub below : All (λ v. move_number v.0 < number) variants
  pub in_order : AllPairs ComesEarlier variants
  pub distinct : AllPairs AreDistinct variants
  pub complete : (m : Move) → IsLawfulMove I m → move_number m < number → Any (StandsBy I spots m) variants

-- the variant is added at the end, unless one of the variants has its cases
abbrev pub IsAdded : List (Move × Placed) → Move × Placed → List (Move × Placed) → Type 0
IsAdded variants v new =
    (Any (λ w. w.1.spots ≡ v.1.spots) variants × (new ≡ variants))
    ⊎ (All (λ w. AreDistinct w v) variants × (new ≡ variants ++ v ∷ []))
