-- What a plan covers, and may cover, is no more than a pallet has.
use Rattle.std.proofs.Common.{◌≡◌, ℕ, ◌+◌, ◌*◌, ◌≤◌, arith}
use Rattle.std.proofs.lemmas.Nat.{mul-le}
use Rattle.std.proofs.Math.Nat.{div-mul-le_self}
use Rattle.plan_geometry.specs.declared.instances.Inst.{Inst}
use Rattle.plan_geometry.specs.Layout.{area_bound_of}
use Rattle.order_reader.specs.Orders.{long_of, short_of}
use Rattle.order_reader.specs.declared.rows.Row.{Row}
use Rattle.order_reader.specs.declared.rows.Row.TheVariants as row
use Rattle.plan_entries.specs.declared.entries.Plan.{Plan}
use Rattle.plan_entries.specs.declared.entries.Entry.TheVariants.{Planned}
use Rattle.plan_soundness.specs.Sound.{IsSound}
use Rattle.plan_soundness.proofs.Bounds.{within}
use Rattle.layer_planner.specs.Quality.{HasQuality}
use Rattle.plan_mode.specs.Entries.{IsEntryOf}
use Rattle.design_mode.specs.Covers.{case_area}

pub may-fits : (p : Plan) → HasQuality p → p.bound * case_area p.order ≤ 16000000
may-fits p h =
    let J : Inst = h.given in
    let A : ℕ = case_area p.order in
    let B : ℕ = J.long * J.short in
    let small : A ≤ B = mul-le (long_of p.order) (short_of p.order) J.long J.short (omega (arith, h.is_given.long)) (omega (arith, h.is_given.short)) in
    let one : p.bound * A ≤ area_bound_of J * B = mul-le p.bound A (area_bound_of J) B h.area small in
    let two : area_bound_of J * B ≤ J.l_side * J.w_side = div-mul-le_self (J.l_side * J.w_side) (J.long * J.short) in
    let three : J.l_side * J.w_side ≤ 4000 * 4000 = mul-le J.l_side J.w_side 4000 4000 J.sides.l_max J.sides.w_max in
    omega (arith, one, two, three)

pub covers-fits : (p : Plan) → HasQuality p → IsSound p → p.count * case_area p.order ≤ 16000000
covers-fits p h s =
    let A : ℕ = case_area p.order in
    omega (arith, may-fits p h, mul-le p.count A p.bound A (within p s) (omega arith))

-- a planned entry of a row has quality and is sound
pub has-quality : (n : ℕ) (r : Row) (p : Plan) → IsEntryOf n r (Planned p) → HasQuality p
has-quality n (row.Order o) p h = h.quality
has-quality n (row.Refused k fault) p h = absurd h

pub is-sound : (n : ℕ) (r : Row) (p : Plan) → IsEntryOf n r (Planned p) → IsSound p
is-sound n (row.Order o) p h = h.sound
is-sound n (row.Refused k fault) p h = absurd h
