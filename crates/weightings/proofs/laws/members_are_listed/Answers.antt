use Rattle.weightings.proofs.FamilySteps.{members_listed}
use Rattle.weightings.proofs.laws.members_are_listed.Goals as goal

pub returns : goal.returns
returns c = members_listed
