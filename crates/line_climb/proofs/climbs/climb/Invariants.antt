-- What was found so far is a climb from the layer that was given, and each turn comes nearer to the most cases.
use Rattle.std.proofs.Common.{◌≡◌, ◌≤◌, ◌-◌, length}
use Rattle.line_climb.proofs.Rising.{ClimbsTo}
use Rattle.line_climb.proofs.climbs.climb.Given as goal

abbrev pub invariant-loop-alloc : goal.invariant-loop-alloc
invariant-loop-alloc l =
    ClimbsTo l.fn.layer l.best × (l.guides.inst ≡ l.fn.layer.inst) × (length l.best.spots ≤ l.most)

abbrev pub decreases-loop-alloc : goal.decreases-loop-alloc
decreases-loop-alloc l = l.most - length l.best.spots
