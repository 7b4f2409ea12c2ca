-- What a climb keeps.
use Rattle.std.proofs.Common.{◌≡◌, ◌≤◌, length}
use Rattle.plan_geometry.specs.Placed.{Placed, IsLayer}

-- the second layer is one of the same instance, with no fewer cases, and the first one itself where it has as many
pub record ClimbsTo (below above : Placed) : Type 0 where
  pub of_inst : above.inst ≡ below.inst
  pub is_layer : IsLayer above.inst above.spots
  pub grown : length below.spots ≤ length above.spots
  pub kept : length above.spots ≡ length below.spots → above ≡ below
