use Rattle.partitions.proofs.SameSides.{same_sides_reflexive, same_sides_symmetric, same_sides_transitive}
use Rattle.partitions.proofs.laws.same_sides_is_an_equivalence.Goals as goal

pub returns-clause-reflexive : goal.returns-clause-reflexive
returns-clause-reflexive c = same_sides_reflexive

pub returns-clause-symmetric : goal.returns-clause-symmetric
returns-clause-symmetric c = same_sides_symmetric

pub returns-clause-transitive : goal.returns-clause-transitive
returns-clause-transitive c = same_sides_transitive
