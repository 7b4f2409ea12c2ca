use Rattle.floor_text.proofs.Lengths.{floor_short}
use Rattle.floor_text.proofs.laws.floors_are_short.Goals as goal

pub returns : goal.returns
returns c = floor_short
