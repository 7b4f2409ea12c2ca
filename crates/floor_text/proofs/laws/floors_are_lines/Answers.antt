use Rattle.floor_text.proofs.FloorBytes.{floor_text_is}
use Rattle.floor_text.proofs.laws.floors_are_lines.Goals as goal

pub returns : goal.returns
returns c = floor_text_is
