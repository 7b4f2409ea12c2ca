use Rattle.std.proofs.Common.{◌∙◌, arith}
use Rattle.line_search.proofs.SearchSteps.{improved-again, limit-of-same}
use Rattle.line_search.proofs.search.LineSearch.run.Goals as goal

pub loop-turn-preserved : goal.loop-turn-preserved
loop-turn-preserved c =
    let i = c.loop-turn.invariant in
    let t = c.turn.ensures in
    record {
      inst = t.inst ∙ i.inst;
      limit = t.limit ∙ i.limit;
      turns = omega (arith, t.turns, i.turns);
      limited = omega (arith, t.turns, i.turns, c.loop-turn-test.true, c.min-turn-end.ensures, limit-of-same _ _ c.self.view_is);
      improved = improved-again c.args.known c.args.self.now.best c.loop-turn.self.best c.turn.new.self.best i.improved t.improved;
    }
