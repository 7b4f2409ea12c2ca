use Rattle.std.proofs.Common.{◌+◌, arith}
use Rattle.plan_geometry.specs.declared.instances.Inst.{Inst}
use Rattle.weightings.specs.Table.{cell_in}
use Rattle.dual_search.specs.Positions.{IsLightest}
use Rattle.dual_search.proofs.Boards.{IsBoard, board-start, board-more, board-table, round-is, so_far-start, so_far-more}
use Rattle.dual_search.proofs.duals.play_all.Goals as goal

pub loop-k-init : goal.loop-k-init
loop-k-init c =
    let a = c.args in
    let I : Inst = a.inst in
    let board : IsBoard I 0 a.covers.now a.weights.now a.lying.now a.standing.now =
    board-start I a.covers.now a.weights.now a.lying.now a.standing.now c.requires.start c.requires.lying c.requires.standing in
    let found : IsLightest I (cell_in I.l_side a.weights.now) c.lightest_of_all-found.result =
    c.lightest_of_all-found.ensures (cell_in I.l_side a.weights.now) board.holds_lying board.holds_standing in
    record {
      board = board;
      found = found;
      played = so_far-start I a.covers.now a.weights.now a.lying.now a.standing.now c.lightest_of_all-found.result c.in_ok-best.best c.requires.start board found c.in_ok-best.ensures.best;
      table = c.in_ok-best.ensures.cells tt (board-table I 0 a.covers.now a.weights.now a.lying.now a.standing.now board (omega arith) c.requires.few);
    }

pub loop-k-preserved : goal.loop-k-preserved
loop-k-preserved c =
    let a = c.args in
    let I : Inst = a.inst in
    let i = c.loop-k.invariant in
    let k = c.loop-k.k in
    let p = c.play-cell in
    let one = c.raise_positions in
    let other = c.raise_positions-in-loop-k in
    let l = c.lightest_of_all-found-in-loop-k in
    let board : IsBoard I (k + 1) p.new.covers p.new.weights one.new.weights other.new.weights =
    board-more I k p.result c.loop-k.found.spot c.loop-k.covers c.loop-k.weights c.loop-k.lying c.loop-k.standing p.new.covers p.new.weights one.new.weights other.new.weights
    i.board p.ensures.cell p.ensures.covered p.ensures.rise p.ensures.raised one.ensures.raised one.ensures.most other.ensures.raised other.ensures.most in
    let found : IsLightest I (cell_in I.l_side p.new.weights) l.result = l.ensures (cell_in I.l_side p.new.weights) board.holds_lying board.holds_standing in
    record {
      board = board;
      found = found;
      played = so_far-more I k c.loop-k.covers c.loop-k.weights p.new.covers p.new.weights one.new.weights other.new.weights l.result c.loop-k.best c.in_ok-best-2.best
          i.played (round-is I p.result c.loop-k.found.spot c.loop-k.covers c.loop-k.weights p.new.covers p.new.weights i.found.spot p.ensures.covered p.ensures.most_covered p.ensures.raised)
          board found c.in_ok-best-2.ensures.best;
      table = c.in_ok-best-2.ensures.cells i.table
          (board-table I (k + 1) p.new.covers p.new.weights one.new.weights other.new.weights board (omega (arith, c.requires.limited, c.loop-k-test.true)) c.requires.few);
    }
