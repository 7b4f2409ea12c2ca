use Rattle.std.proofs.Common.{◌≡◌, length, drop}
use Rattle.strip_bound.specs.CutLists.{each_two}
use Rattle.strip_bound.specs.Kept.{AreKept}
use Rattle.strip_bound.proofs.ListSteps.{Left}
use Rattle.strip_bound.proofs.lists.push_each_two.Given as goal

abbrev pub invariant-loop-i : goal.invariant-loop-i
invariant-loop-i l = record {
  left : Left l.axis l.inst (each_two l.shorts) (each_two (drop l.i l.shorts)) l.initial.cuts.items l.cuts.items;
  kept : AreKept l.axis l.inst l.seen l.cuts.items;
  distances : length l.seen ≡ length l.shorts;
}
