use Rattle.std.proofs.Common.{All, ◌+◌, ◌*◌, ◌≤◌}
use Rattle.l_patterns.specs.Progress.{work_left, due_area, AreFalling}
use Rattle.l_patterns.specs.States.{IsSearch, IsPending}
use Rattle.l_patterns.proofs.running.run.Given as goal

abbrev pub invariant-loop-known : goal.invariant-loop-known
invariant-loop-known l = record {
  search : IsSearch l.q l.s;
  room : l.most ≤ l.s.memo.cap;
  pending : All (IsPending l.q l.s) l.pending.items;
  falling : AreFalling l.pending.items;
}

abbrev pub decreases-loop-known : goal.decreases-loop-known
decreases-loop-known l = work_left l.most l.s.memo * 16000001 + due_area l.root l.pending.items
