use Rattle.std.proofs.Common.{◌≡◌, ◌≤◌, max, min}
use Rattle.line_search.specs.Search.{IsImproved}
use Rattle.line_search.proofs.search.LineSearch.run.Given as goal

abbrev pub invariant-loop-turn : goal.invariant-loop-turn
invariant-loop-turn l = record {
  inst : l.self.inst ≡ l.fn.self.inst;
  limit : l.self.limit ≡ l.fn.self.limit;
  turns : l.self.turns ≡ l._turn;
  limited : l.self.turns ≤ max l.fn.self.turns (min l.most_turns l.fn.self.limit);
  improved : IsImproved l.known l.fn.self.best l.self.best;
}
