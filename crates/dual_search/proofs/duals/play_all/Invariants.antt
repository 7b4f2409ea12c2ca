use Rattle.weightings.specs.Table.{cell_in}
use Rattle.dual_search.specs.Positions.{IsLightest}
use Rattle.dual_search.specs.Dual.{HoldsTable}
use Rattle.dual_search.proofs.Boards.{IsBoard, IsSoFar}
use Rattle.dual_search.proofs.duals.play_all.Given as goal

abbrev pub invariant-loop-k : goal.invariant-loop-k
invariant-loop-k l = record {
  board : IsBoard l.inst l.k l.covers l.weights l.lying l.standing;
  found : IsLightest l.inst (cell_in l.inst.l_side l.weights) l.found;
  played : IsSoFar l.inst l.k l.covers l.weights l.best;
  table : HoldsTable l.inst l.best;
}
