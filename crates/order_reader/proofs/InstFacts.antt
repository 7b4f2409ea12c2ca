-- The instances of an order.
use Rattle.std.proofs.Common.{◌≡◌, ℕ, ◌+◌, ◌≤◌, inl, inr, List, sym, subst}
use Rattle.std.specs.Prelude.{◌↔◌}
use Rattle.plan_geometry.specs.declared.instances.Inst.{Inst}
use Rattle.plan_geometry.specs.declared.spots.Spot.{Spot}
use Rattle.plan_geometry.specs.Layout.{IsLayout, IsBounded, CaseFits, area_bound_of}
use Rattle.plan_geometry.specs.Gap.{SameLayouts, SameBounds}
use Rattle.order_reader.specs.Orders.{OrderValue, pallet_x_of, pallet_y_of, long_of, short_of, gap_of}
use Rattle.order_reader.specs.Faults.{IsOrder}
use Rattle.order_reader.specs.Instances.{IsRealOf, IsGivenOf, IsLayerFor, IsBoundFor}
use Rattle.order_reader.proofs.OrderFacts.{passes, fits-ways, small-bound}

pub real-fits : (o : OrderValue) (I : Inst) → IsOrder o → IsRealOf o I → CaseFits I
real-fits o I is real = elim (fits-ways (pallet_x_of o) (pallet_y_of o) (long_of o) (short_of o) (passes o is).fitting) [
  | inl lying ↦ inl (rw (real.long, real.l_side) lying.0, rw (real.short, real.w_side) lying.1)
  | inr standing ↦ inr (rw (real.short, real.l_side) standing.0, rw (real.long, real.w_side) standing.1)
]

pub given-small : (o : OrderValue) (J : Inst) → IsOrder o → IsGivenOf o J → area_bound_of J ≤ 1000
given-small o J is given =
    rw (given.l_side, given.w_side, given.long, given.short)
    (small-bound (pallet_x_of o + gap_of o) (pallet_y_of o + gap_of o) (long_of o + gap_of o) (short_of o + gap_of o) (passes o is).small)

-- what is said of one real instance is said of each, since there is only one
pub layouts-each : (o : OrderValue) (R J : Inst) (gap : ℕ) → gap ≡ gap_of o → ((I : Inst) → IsRealOf o I → I ≡ R) → SameLayouts R gap J
    → (I : Inst) → IsRealOf o I → SameLayouts I (gap_of o) J
layouts-each o R J gap own only same I real = subst (λ (K : Inst). SameLayouts K (gap_of o) J) (sym (only I real)) (subst (λ (g : ℕ). SameLayouts R g J) own same)

pub bounds-each : (o : OrderValue) (R J : Inst) (gap : ℕ) → gap ≡ gap_of o → ((I : Inst) → IsRealOf o I → I ≡ R) → SameBounds R gap J
    → (I : Inst) → IsRealOf o I → SameBounds I (gap_of o) J
bounds-each o R J gap own only same I real = subst (λ (K : Inst). SameBounds K (gap_of o) J) (sym (only I real)) (subst (λ (g : ℕ). SameBounds R g J) own same)

pub layers-are : (o : OrderValue) (R J : Inst) → IsRealOf o R → ((I : Inst) → IsRealOf o I → SameLayouts I (gap_of o) J)
    → (spots : List Spot) → IsLayerFor o spots ↔ IsLayout J spots
layers-are o R J real same spots = (
  (λ layer. (same layer.real layer.is_real spots).0 layer.layout),
  (λ layout. record { real = R; is_real = real; layout = (same R real spots).1 layout }),
)

pub bounds-are : (o : OrderValue) (R J : Inst) → IsRealOf o R → ((I : Inst) → IsRealOf o I → SameBounds I (gap_of o) J)
    → (n : ℕ) → IsBoundFor o n ↔ IsBounded J n
bounds-are o R J real same n = (
  (λ bound. (same bound.real bound.is_real n).0 bound.bounded),
  (λ bounded. record { real = R; is_real = real; bounded = (same R real n).1 bounded }),
)
