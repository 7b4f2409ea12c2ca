use Rattle.floor_mode.proofs.Acceptance.{accepted}
use Rattle.floor_mode.proofs.laws.floors_are_accepted.Goals as goal

pub returns : goal.returns
returns c = accepted c.floors_are_lines.ensures c.floors_have_one_spelling.ensures c.floors_are_short.ensures c.floors_fit_their_loads.ensures
