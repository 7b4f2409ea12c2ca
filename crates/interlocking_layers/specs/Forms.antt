use Rattle.std.specs.Prelude.{◌≡◌, ℕ, List, length}
use Rattle.plan_geometry.specs.declared.spots.Spot.{Spot}
use Rattle.plan_geometry.specs.declared.instances.Inst.{Inst}
use Rattle.plan_geometry.specs.Placed.{Placed, IsLayer}
use Rattle.layer_symmetry.specs.declared.symmetries.Move.{Move}
use Rattle.layer_symmetry.specs.Variants.{IsVariants}
use Rattle.contact_rules.specs.declared.rules.Rule.{Rule}
use Rattle.stack_builder.specs.Pairs.{Interlocks}

-- of the variants of a layer one goes upon the layer itself under all rules
pub record HasInterlockingForm (I : Inst) (gap : ℕ) (rules : List Rule) (spots : List Spot) : Type 0 where
  pub variants : List (Move × Placed)
  pub are_all : IsVariants I spots variants
  pub interlocks : Interlocks I gap rules variants

-- a layer of the instance that has so many cases, and one of whose forms goes upon it under all rules
pub record IsInterlockingLayer (I : Inst) (gap : ℕ) (rules : List Rule) (count : ℕ) (a : Placed) : Type 0 where
  pub inst : a.inst ≡ I
  pub layer : IsLayer a.inst a.spots
  pub count_is : length a.spots ≡ count
  pub form : HasInterlockingForm I gap rules a.spots
