use Rattle.layout_map.proofs.GreatestChains.{BestAmong}
use Rattle.layout_map.proofs.map.best_before.Given as goal

abbrev pub invariant-loop-spot : goal.invariant-loop-spot
invariant-loop-spot l = BestAmong l.axis l.from l.to l.spots l.edge l.spot-index l.best
