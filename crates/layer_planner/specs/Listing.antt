-- What a plan lists of a layer of the order.
use Rattle.std.specs.Prelude.{◌≡◌, ℕ, ◌≤◌, true, length, All}
use Rattle.plan_geometry.specs.declared.instances.Inst.{Inst}
use Rattle.plan_geometry.specs.Placed.{Placed}
use Rattle.layer_symmetry.specs.declared.symmetries.Move.{Move}
use Rattle.layer_symmetry.specs.Variants.{IsVariants}
use Rattle.order_reader.specs.Orders.{OrderValue}
use Rattle.stack_builder.specs.Orders.{allowed_of, IsStackOf}
use Rattle.plan_entries.specs.declared.listed.Listed.{Listed}
use Rattle.plan_entries.specs.Entries.{variants_on, first_spots}
use Rattle.plan_entries.specs.Ranges.{layers_in_range, stack_in_range}
use Rattle.plan_soundness.specs.Sound.{IsListedLayer}
use Rattle.layer_planner.specs.declared.listing.Listing.{Listing}

-- a variant as it is listed
abbrev pub listed : Move × Placed → Listed
listed v = record { turn = v.0; spots = v.1.spots }

-- the variants of a layer of the order, and the least stack of them
pub record IsListing (o : OrderValue) (given : Inst) (count : ℕ) (l : Listing) : Type 0 where
  pub each : All (IsListedLayer o count) l.layers
  pub variants : IsVariants given (first_spots l.layers) (variants_on given l.layers)
  pub allowed : l.allowed ≡ allowed_of o count
  pub few_allowed : l.allowed ≤ 10000
  pub stack : IsStackOf o (variants_on given l.layers) l.allowed l.stack
  pub layers_in_range : layers_in_range count l.layers ≡ true
  pub stack_in_range : stack_in_range o (length l.layers) l.stack ≡ true
