use Rattle.std.proofs.Common.{◌≡◌, length}
use Rattle.layer_planner.specs.Searched.{IsGrown}
use Rattle.layer_planner.proofs.search.search.Given as goal

abbrev pub invariant-loop-count : goal.invariant-loop-count
invariant-loop-count l = IsGrown l.inst (length l.fn.start.spots) l.most l.layer × (length l.layer.spots ≡ l.count)
