use Rattle.minimum_size.proofs.Areas.{small_area}
use Rattle.minimum_size.proofs.laws.same_sides_have_small_areas.Goals as goal

pub returns : goal.returns
returns c = small_area
