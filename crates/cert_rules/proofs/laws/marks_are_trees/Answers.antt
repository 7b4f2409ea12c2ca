use Rattle.cert_rules.proofs.TreeMarks.{marks_are_trees as the_law}
use Rattle.cert_rules.proofs.laws.marks_are_trees.Goals as goal

pub returns : goal.returns
returns c = the_law
