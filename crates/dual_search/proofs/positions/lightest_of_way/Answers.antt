use Rattle.std.proofs.Common.{◌*◌, ◌/◌, ◌%◌, ◌<◌, arith, subst, sym, refl}
use Rattle.plan_geometry.specs.declared.spots.Axis.TheVariants.{X, Y}
use Rattle.dual_search.specs.Positions.{places}
use Rattle.dual_search.proofs.Least.{IsCorner, corner-at, lightest-is}
use Rattle.dual_search.proofs.positions.lightest_of_way.Goals as goal

pub returns-clause-least : goal.returns-clause-least
returns-clause-least c = λ g held.
    let I = c.args.inst in
    let way = c.args.way in
    let place = c.first_least-place.result in
    let columns = c.places_along-columns.result in
    let lt : place < places X I way * places Y I way = omega (arith, c.first_least-place.ensures.within, c.requires.count) in
    let corner : IsCorner I way place (place % columns) (place / columns) =
    subst (λ n. IsCorner I way place (place % n) (place / n)) (sym c.places_along-columns.ensures.value) (corner-at I way place lt) in
    lightest-is I way g c.args.weights.now place (place % columns) (place / columns) _
    (c.is_lawful.ensures.0 c.if-not-is_lawful.false) held c.first_least-place.ensures corner refl
