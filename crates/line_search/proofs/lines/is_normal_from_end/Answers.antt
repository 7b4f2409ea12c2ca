use Rattle.std.proofs.Common.{◌-◌, ap}
use Rattle.std.proofs.lemmas.Bool.{eqb-true, eq-eqb}
use Rattle.raster_points.specs.Places.{IsDown}
use Rattle.line_search.proofs.StartSteps.{normal_from_end}
use Rattle.line_search.proofs.lines.is_normal_from_end.Goals as goal

pub returns : goal.returns
returns c =
    let s = c.args.starts.now in
    let p = c.requires.starts.points in
    let down : IsDown (c.side_along.result - c.args.place) s.inst.long s.inst.short c.down.result = rw (← p.of_long, ← p.of_short) c.down.ensures.down in
    let n = normal_from_end s.axis s.inst c.args.place (c.side_along.result - c.args.place) c.down.result (ap (λ v. v - c.args.place) c.side_along.ensures.side) c.requires.within down in
    (λ t. n.0 (eqb-true _ _ t), λ h. eq-eqb _ _ (n.1 h))
