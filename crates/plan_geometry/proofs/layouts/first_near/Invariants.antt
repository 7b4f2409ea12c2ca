use Rattle.std.proofs.Common.{ℕ, ◌+◌, ◌≤◌, ◌<◌, get_or}
use Rattle.plan_geometry.specs.declared.spots.Spot.{Spot}
use Rattle.plan_geometry.proofs.layouts.first_near.Given as goal

abbrev pub invariant-loop-k : goal.invariant-loop-k
invariant-loop-k l = (j : ℕ) (d : Spot) → l.from ≤ j → j < l.k → (get_or l.spots j d).y + l.inst.long ≤ (get_or l.spots l.i d).y
