use Rattle.std.proofs.Common.{◌-◌, ◌+◌, drop}
use Rattle.strip_bound.specs.CutLists.{beside}
use Rattle.strip_bound.specs.Kept.{AreKept}
use Rattle.strip_bound.proofs.ListSteps.{Left}
use Rattle.strip_bound.proofs.lists.push_beside.Given as goal

abbrev pub invariant-loop-k : goal.invariant-loop-k
invariant-loop-k l = record {
  left : Left l.axis l.inst (beside l.most 1 (drop (l.i + 1) l.shorts)) (beside l.most (l.k - l.i) (drop l.k l.shorts)) l.initial.cuts.items l.cuts.items;
  kept : AreKept l.axis l.inst l.seen l.cuts.items;
}
