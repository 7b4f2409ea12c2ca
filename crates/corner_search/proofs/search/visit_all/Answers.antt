use Rattle.std.proofs.Common.{◌≤◌, ◌+◌, length, ◌∙◌, arith}
use Rattle.corner_search.proofs.Walking.{goes_on, ended, enough}
use Rattle.corner_search.proofs.search.visit_all.Goals as goal

pub returns-in-Enough-clause-concludes : goal.returns-in-Enough-clause-concludes
returns-in-Enough-clause-concludes c =
    enough c.loop.sky c.visit_state.new.sky c.args.sky.now.inst c.args.sky.now.weighting c.args.sky.now.least c.args.n c.loop.counter c.args.budget c.loop.tree.items
    c.visit_state.new.tree.items c.in_ok-visit_state.field-0 c.loop.invariant.inst c.loop.invariant.weighting c.loop.invariant.least
    c.loop.invariant.stands c.loop-test.true c.in-Enough.is c.in_ok-visit_state.ensures.visits

pub returns-in-Ended-clause-concludes : goal.returns-in-Ended-clause-concludes
returns-in-Ended-clause-concludes c =
    ended c.loop.sky c.visit_state.new.sky c.args.sky.now.inst c.args.sky.now.weighting c.args.sky.now.least c.args.n c.loop.counter c.args.budget c.loop.tree.items
    c.visit_state.new.tree.items c.in_ok-visit_state.field-0 c.loop.invariant.inst c.loop.invariant.weighting c.loop.invariant.least
    c.loop.invariant.stands c.loop-test.true c.in-Ended.is c.in_ok-visit_state.ensures.visits

pub loop-preserved : goal.loop-preserved
loop-preserved c =
    record {
      same = c.in_ok-visit_state.ensures.same;
      inst = c.in_ok-visit_state.ensures.kept.inst ∙ c.loop.invariant.inst;
      weighting = c.in_ok-visit_state.ensures.kept.weighting ∙ c.loop.invariant.weighting;
      least = c.in_ok-visit_state.ensures.kept.least ∙ c.loop.invariant.least;
      depth = let d : length c.visit_state.new.sky.steps ≤ length c.loop.sky.steps + 1 = c.in_ok-visit_state.ensures.deeper in omega arith;
      stands =
          goes_on c.loop.sky c.visit_state.new.sky c.args.sky.now.inst c.args.sky.now.weighting c.args.sky.now.least c.args.n c.loop.counter c.loop.tree.items
          c.visit_state.new.tree.items c.in_ok-visit_state.field-0 c.loop.invariant.inst c.loop.invariant.weighting c.loop.invariant.least
          c.in_ok-visit_state.ensures.kept.inst c.loop.invariant.stands c.in-More.is c.in_ok-visit_state.ensures.visits;
    }
