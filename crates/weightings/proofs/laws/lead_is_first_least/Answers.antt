use Rattle.weightings.proofs.FamilySteps.{lead_first_least}
use Rattle.weightings.proofs.laws.lead_is_first_least.Goals as goal

pub returns : goal.returns
returns c = lead_first_least
