use Rattle.floor_text.proofs.FloorBytes.{floors_one_spelling}
use Rattle.floor_text.proofs.laws.floors_have_one_spelling.Goals as goal

pub returns : goal.returns
returns c = floors_one_spelling
