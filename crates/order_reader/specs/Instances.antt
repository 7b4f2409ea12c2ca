-- The pallet and the case of an order, and what bounds its layers.
use Rattle.std.specs.Prelude.{ℕ, ◌+◌, ◌≡◌, ◌≤◌, List}
use Rattle.plan_geometry.specs.declared.instances.Inst.{Inst}
use Rattle.plan_geometry.specs.declared.spots.Spot.{Spot}
use Rattle.plan_geometry.specs.Gap.{IsGapLayout, IsGapBounded}
use Rattle.order_reader.specs.Orders.{OrderValue, number_in, pallet_x_of, pallet_y_of, long_of, short_of, gap_of}
use Rattle.order_reader.specs.Faults.{least_in, greatest_gap_of, greatest_in}
use Rattle.order_reader.specs.declared.fields.Field.{Field}

-- the order's own pallet and case
pub record IsRealOf (o : OrderValue) (I : Inst) : Type 0 where
  pub l_side : I.l_side ≡ pallet_x_of o
  pub w_side : I.w_side ≡ pallet_y_of o
  pub long : I.long ≡ long_of o
  pub short : I.short ≡ short_of o

-- the instance that is planned: each of the four numbers is greater by the gap
pub record IsGivenOf (o : OrderValue) (I : Inst) : Type 0 where
  pub l_side : I.l_side ≡ pallet_x_of o + gap_of o
  pub w_side : I.w_side ≡ pallet_y_of o + gap_of o
  pub long : I.long ≡ long_of o + gap_of o
  pub short : I.short ≡ short_of o + gap_of o

-- each number is within its column's range
abbrev pub AreInRange : OrderValue → Type 0
AreInRange o = (field : Field) → (least_in field ≤ number_in o field) × (number_in o field ≤ greatest_in (greatest_gap_of o) field)

-- a layer of the order: its cases are inside the order's own pallet and keep the gap
pub record IsLayerFor (o : OrderValue) (spots : List Spot) : Type 0 where
  pub real : Inst
  pub is_real : IsRealOf o real
  pub layout : IsGapLayout real (gap_of o) spots

-- no layer of the order has more than n cases
pub record IsBoundFor (o : OrderValue) (n : ℕ) : Type 0 where
  pub real : Inst
  pub is_real : IsRealOf o real
  pub bounded : IsGapBounded real (gap_of o) n
