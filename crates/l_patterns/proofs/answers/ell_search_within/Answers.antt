use Rattle.std.proofs.Common.{arith}
use Rattle.l_patterns.proofs.answers.ell_search_within.Goals as goal

pub returns-clause-few : goal.returns-clause-few
returns-clause-few c = λ w. c.search_from.ensures.few (rw (c.normal-xs.ensures.value, c.normal-ys.ensures.value, c.min.ensures) (omega (arith, w)))
