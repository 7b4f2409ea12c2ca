use Rattle.dual_search.proofs.Rows.{RaisesSome}
use Rattle.dual_search.proofs.raising.raise_block.Given as goal

abbrev pub invariant-loop-j : goal.invariant-loop-j
invariant-loop-j l = RaisesSome l.width l.x l.y l.a l.j l.initial.list l.list
