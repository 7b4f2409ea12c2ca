use Rattle.l_patterns.specs.States.{Tried}
use Rattle.l_patterns.proofs.trying.scan.Given as goal

abbrev pub invariant-loop-k : goal.invariant-loop-k
invariant-loop-k l = Tried l.q l.f.region l.f.need l.k
