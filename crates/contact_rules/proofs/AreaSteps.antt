-- The areas that a case shares with the cases of a layer fit: the layer's cases have no more cells than the pallet.
use Rattle.std.proofs.Common.{ℕ, ◌+◌, ◌*◌, ◌≤◌, List, length, arith}
use Rattle.std.proofs.lemmas.Nat.{mul-le}
use Rattle.std.proofs.Math.Nat.{div-mul-le_self}
use Rattle.plan_geometry.specs.declared.spots.Axis.TheVariants.{X, Y}
use Rattle.plan_geometry.specs.declared.spots.Way.{Way}
use Rattle.plan_geometry.specs.declared.spots.Spot.{Spot}
use Rattle.plan_geometry.specs.declared.instances.Inst.{Inst}
use Rattle.plan_geometry.specs.Layout.{x_extent, y_extent, IsLayout, area_bound_of}
use Rattle.plan_geometry.proofs.Counting.{extents-area, area_bounds, area_bound-small}
use Rattle.contact_rules.specs.Real.{real_extent}

pub area-small : (I : Inst) (g : ℕ) (w : Way) (a b : ℕ) → a ≤ real_extent X I g w → b ≤ real_extent Y I g w → a * b ≤ I.long * I.short
area-small I g w a b p q =
    omega (arith, mul-le a b (x_extent I w) (y_extent I w) (omega arith) (omega arith), extents-area I w)

pub layer-area : (I : Inst) (xs : List Spot) → IsLayout I xs → length xs * (I.long * I.short) ≤ 16000000
layer-area I xs h =
    let A : ℕ = I.long * I.short in
    let n : length xs ≤ area_bound_of I = area_bounds I xs h in
    let one : length xs * A ≤ area_bound_of I * A = mul-le (length xs) A (area_bound_of I) A n (omega arith) in
    let two : area_bound_of I * A ≤ I.l_side * I.w_side = div-mul-le_self (I.l_side * I.w_side) (I.long * I.short) in
    let three : I.l_side * I.w_side ≤ 4000 * 4000 = mul-le I.l_side I.w_side 4000 4000 I.sides.l_max I.sides.w_max in
    omega arith

pub part-area : (I : Inst) (xs : List Spot) (i : ℕ) → IsLayout I xs → i ≤ length xs → i * (I.long * I.short) ≤ 16000000
part-area I xs i h le =
    omega (arith, layer-area I xs h, mul-le i (I.long * I.short) (length xs) (I.long * I.short) le (omega arith))

pub more-area : (A total part i : ℕ) → total ≤ i * A → part ≤ A → total + part ≤ (i + 1) * A
more-area A total part i p q = omega arith

pub layer-count : (I : Inst) (xs : List Spot) → IsLayout I xs → length xs ≤ 16000000
layer-count I xs h = omega (arith, area_bounds I xs h, area_bound-small I)
