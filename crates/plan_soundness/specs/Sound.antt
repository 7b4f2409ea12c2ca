-- When a plan is sound for its order: each part of it is what it says, whoever wrote it.
use Rattle.std.specs.Prelude.{ℕ, ◌≡◌, ◌↔◌, length, All}
use Rattle.plan_geometry.specs.declared.instances.Inst.{Inst}
use Rattle.plan_geometry.specs.Layout.{IsInOrder}
use Rattle.partitions.specs.Partitions.{SameSides}
use Rattle.order_reader.specs.Orders.{OrderValue}
use Rattle.order_reader.specs.Instances.{IsGivenOf, IsLayerFor}
use Rattle.layer_symmetry.specs.Variants.{IsVariants}
use Rattle.stack_builder.specs.Orders.{allowed_of, IsStackOf}
use Rattle.bound_checker.specs.Accepts.{Accepts}
use Rattle.plan_entries.specs.declared.listed.Listed.{Listed}
use Rattle.plan_entries.specs.declared.entries.Status.TheVariants.{Optimal}
use Rattle.plan_entries.specs.declared.entries.Plan.{Plan}
use Rattle.plan_entries.specs.Entries.{variants_on, first_spots}

-- Reduced: the instance that was planned has the same sides as the order's own.
pub record KeepsSides (p : Plan) : Type 0 where
  pub given : Inst
  pub is_given : IsGivenOf p.order given
  pub same : SameSides given p.reduced

-- a layer of the order with so many cases, in the order of y, then x
pub record IsListedLayer (o : OrderValue) (count : ℕ) (l : Listed) : Type 0 where
  pub count_is : length l.spots ≡ count
  pub in_order : IsInOrder l.spots
  pub layer : IsLayerFor o l.spots

-- Layout: each listed layer is a layer of the order, and has `count` cases.
abbrev pub ListsLayers : Plan → Type 0
ListsLayers p = All (IsListedLayer p.order p.count) p.layers

-- Variants: the listed layers are the variants of the first.
pub record ListsVariants (p : Plan) : Type 0 where
  pub given : Inst
  pub is_given : IsGivenOf p.order given
  pub variants : IsVariants given (first_spots p.layers) (variants_on given p.layers)

-- Bound: the certificate is accepted, so it shows that no layer of the order has more than `bound` cases.
pub record ShowsBound (p : Plan) : Type 0 where
  pub given : Inst
  pub is_given : IsGivenOf p.order given
  pub accepted : Accepts given p.reduced p.cert p.bound

-- Status: `optimal` stands exactly where count and bound are equal.
abbrev pub TellsStatus : Plan → Type 0
TellsStatus p = (p.status ≡ Optimal) ↔ (p.count ≡ p.bound)

-- Allowed: as many layers as the order's height and weight allow.
abbrev pub TellsAllowed : Plan → Type 0
TellsAllowed p = p.allowed ≡ allowed_of p.order p.count

-- Stack: the least stack of the listed layers in which each two neighbours meet the rules that the order asks for; or,
-- where these layers have none, those rules.
pub record TellsStack (p : Plan) : Type 0 where
  pub given : Inst
  pub is_given : IsGivenOf p.order given
  pub stack : IsStackOf p.order (variants_on given p.layers) p.allowed p.stack

-- the plan is sound for its own order
pub record IsSound (p : Plan) : Type 0 where
  pub reduced : KeepsSides p
  pub layout : ListsLayers p
  pub variants : ListsVariants p
  pub bound : ShowsBound p
  pub status : TellsStatus p
  pub allowed : TellsAllowed p
  pub stack : TellsStack p
