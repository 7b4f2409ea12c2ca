use Rattle.std.proofs.Common.{◌≤◌, arith}
use Rattle.raster_points.specs.Places.{IsNext}
use Rattle.cert_rules.proofs.NextPoint.{next-is}
use Rattle.cert_rules.proofs.NextTable.{next-more}
use Rattle.cert_rules.proofs.next_places.NextPlaces.of.Goals as goal

pub loop-place-preserved : goal.loop-place-preserved
loop-place-preserved c =
    let a = c.args in
    let n = c.loop-place.place in
    let p = c.in_ok-points in
    let here : IsNext a.side a.inst.long a.inst.short n c.next.result =
    rw (p.ensures.side, p.ensures.long, p.ensures.short) at c.next.ensures.next in
    let le : n ≤ a.side = omega arith in
    let b = c.in_ok-push.ensures.len in
    let count = c.loop-place.invariant.count in
    let old = c.loop-place.places.ok.0 in
    let new = c.push.new.self.ok.0 in
    record {
      count = omega (arith, b, count, old, new);
      each = rw c.in_ok-push.ensures.items
          (next-more a.inst a.side c.loop-place.places.items n c.next.result count c.loop-place.invariant.each (next-is a.inst a.side n c.next.result le here));
    }
