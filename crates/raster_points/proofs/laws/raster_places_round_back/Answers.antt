use Rattle.raster_points.proofs.PlaceLemmas.{raster_down, raster_normal}
use Rattle.raster_points.proofs.laws.raster_places_round_back.Goals as goal

pub returns-clause-back : goal.returns-clause-back
returns-clause-back c = raster_down

pub returns-clause-normal : goal.returns-clause-normal
returns-clause-normal c = raster_normal
