use Rattle.std.proofs.Common.{arith}
use Rattle.layer_patterns.proofs.BoundLemmas.{ell-few}
use Rattle.layer_patterns.proofs.planning.layer_by_regions.Goals as goal

pub returns-then-is_full-clause-ell : goal.returns-then-is_full-clause-ell
returns-then-is_full-clause-ell c = λ z a b n x y h. let u = c.is_full.ensures.0 c.if-is_full.true in omega (arith, u, ell-few c.args.inst c.args.most c.requires.most a b n x y h)
