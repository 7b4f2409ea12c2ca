use Rattle.raster_points.proofs.PlaceLemmas.{down_unique, down_rises, normal_down}
use Rattle.raster_points.proofs.laws.one_greatest_normal_place.Goals as goal

pub returns-clause-one : goal.returns-clause-one
returns-clause-one c = down_unique

pub returns-clause-rises : goal.returns-clause-rises
returns-clause-rises c = down_rises

pub returns-clause-normal : goal.returns-clause-normal
returns-clause-normal c = normal_down
