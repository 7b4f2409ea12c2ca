use Rattle.std.proofs.Common.{sym, ◌∙◌, arith}
use Rattle.std.proofs.lemmas.Bool.{false≢true}
use Rattle.raster_points.specs.Places.{IsRaster}
use Rattle.raster_points.proofs.PlaceLemmas.{raster_within, below_more, below_skip, lists_below}
use Rattle.raster_points.proofs.points.Points.raster.Goals as goal
use Rattle.raster_points.proofs.points.Points.raster.Goals.{then-is_raster+in_ok-push, else-is_raster}

pub loop-place-preserved : goal.loop-place-preserved
loop-place-preserved c =
    let P = IsRaster c.args.s c.args.self.now.long c.args.self.now.short in
    let n = c.loop-place.place in
    let xs = c.loop-place.places.items in
    elim c.if-is_raster.branch [
      | then-is_raster+in_ok-push w ↦ rw (w.places-is, w.in_ok-push.ensures.items) (below_more P n xs c.loop-place.invariant (c.is_raster.ensures.0 w.if-is_raster.true))
      | else-is_raster w ↦ rw w.places-is (below_skip P n xs c.loop-place.invariant (λ p. false≢true (sym w.if-is_raster.false ∙ c.is_raster.ensures.1 p)))
    ]

pub returns-clause-raster : goal.returns-clause-raster
returns-clause-raster c =
    let a = c.args in
    let within = raster_within a.s a.self.now.long a.self.now.short c.down-greatest.result in
    lists_below (IsRaster a.s a.self.now.long a.self.now.short) c.loop-place.place c.loop-place.places.items (λ v p. let w = within v c.down-greatest.ensures.down p in omega (arith, w)) c.loop-place.invariant
