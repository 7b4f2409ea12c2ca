-- Pallets and cases with the axes exchanged.
use Rattle.std.specs.Prelude.{◌≡◌}
use Rattle.plan_geometry.specs.declared.instances.Inst.{Inst}
use Rattle.plan_geometry.specs.declared.spots.Spot.{Spot}
use Rattle.plan_geometry.specs.Layout.{x_extent, y_extent, IsLawfulWay}

-- the second pallet is the first with its axes exchanged, and the case is the same
pub record IsTurned (I J : Inst) : Type 0 where
  pub l_side : J.l_side ≡ I.w_side
  pub w_side : J.w_side ≡ I.l_side
  pub long : J.long ≡ I.long
  pub short : J.short ≡ I.short

-- the second case covers the cells of the first with x and y exchanged, and lies in a lawful way
pub record IsTurnedCase (I : Inst) (s t : Spot) : Type 0 where
  pub x : t.x ≡ s.y
  pub y : t.y ≡ s.x
  pub across : x_extent I t.way ≡ y_extent I s.way
  pub along : y_extent I t.way ≡ x_extent I s.way
  pub lawful : IsLawfulWay I t.way
