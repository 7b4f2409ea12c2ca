-- Loads of a pallet, and loaded pallets on a floor.
use Rattle.std.specs.Prelude.{ℕ, ◌+◌, ◌-◌, ◌/◌, ◌<◌, ◌≤◌, List, [], map, length, All, slice_index_or}
use Rattle.std.specs.List.{sum_by}
use Rattle.plan_geometry.specs.declared.spots.Spot.{Spot}
use Rattle.plan_geometry.specs.declared.instances.Inst.{Inst}
use Rattle.plan_geometry.specs.Layout.{IsLayout}
use Rattle.order_reader.specs.Orders.{OrderValue, case_z_of, weight_of, max_height_of, max_weight_of, gap_of}
use Rattle.order_reader.specs.Instances.{IsGivenOf, IsLayerFor}
use Rattle.contact_rules.specs.Rules.{Meets}
use Rattle.stack_builder.specs.Orders.{rules_of}
use Rattle.stack_builder.specs.declared.lists.StackAnswer.{StackAnswer}
use Rattle.stack_builder.specs.declared.lists.StackAnswer.TheVariants.{Stack, Unmet}
use Rattle.plan_entries.specs.declared.listed.Listed.{Listed}
use Rattle.plan_entries.specs.declared.entries.Plan.{Plan}

-- layers of cases, the lowest first
abbrev pub Layers : Type 0
Layers = List (List Spot)

-- how many cases they have together
abbrev pub cases_of : Layers → ℕ
cases_of layers = sum_by length layers

-- A load of an order: layers whose cases are inside the order's own pallet and keep its gap, as many as the greatest
-- height allows at most, and with no more cases together than the greatest weight allows.
pub record IsLoad (o : OrderValue) (layers : Layers) : Type 0 where
  pub each : All (IsLayerFor o) layers
  pub height : length layers ≤ max_height_of o / case_z_of o
  pub weight : cases_of layers ≤ max_weight_of o / weight_of o

-- each two neighbours, the lower first, meet every rule that the order asks for
pub record MeetsRules (o : OrderValue) (layers : Layers) : Type 0 where
  pub given : Inst
  pub is_given : IsGivenOf o given
  pub meets : (i : ℕ) → i + 1 < length layers
      → All (λ rule. Meets given (gap_of o) rule (slice_index_or layers i []) (slice_index_or layers (i + 1) [])) (rules_of o)

-- a pallet at its place on the floor, and the layers upon it
pub record LoadedPallet : Type 0 where
  pub spot : Spot
  pub layers : Layers

-- A floor load of the floor's order f and the load's order o: the pallets stand as a layout of the floor's instance, and
-- each has a load of o.
pub record IsFloorLoad (f o : OrderValue) (pallets : List LoadedPallet) : Type 0 where
  pub given : Inst
  pub is_given : IsGivenOf f given
  pub layout : IsLayout given (map (λ p. p.spot) pallets)
  pub loads : All (λ p. IsLoad o p.layers) pallets

-- how many cases all pallets have
abbrev pub cases_on : List LoadedPallet → ℕ
cases_on pallets = sum_by (λ p. cases_of p.layers) pallets

-- the listed layer of this number, from 1
abbrev pub listed_spots : List Listed → ℕ → List Spot
listed_spots listed number = slice_index_or (map (λ l. l.spots) listed) (number - 1) []

-- the layers of a stack of listed layers; none where the stack is unmet
abbrev pub stacked_layers : List Listed → StackAnswer → Layers
stacked_layers listed (Stack numbers) = map (listed_spots listed) numbers
stacked_layers listed (Unmet unmet) = []

-- a plan's own stack
abbrev pub stack_of : Plan → Layers
stack_of p = stacked_layers p.layers p.stack
