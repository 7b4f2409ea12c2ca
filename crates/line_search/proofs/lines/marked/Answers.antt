use Rattle.std.proofs.Common.{sym, ◌∙◌, arith}
use Rattle.std.proofs.lemmas.Bool.{false≢true}
use Rattle.line_search.specs.Starts.{IsMarked}
use Rattle.raster_points.proofs.PlaceLemmas.{below_more, below_skip, lists_below}
use Rattle.line_search.proofs.lines.marked.Goals as goal
use Rattle.line_search.proofs.lines.marked.Goals.{then-marks-v+in_ok-push, else-marks-v}

pub loop-v-preserved : goal.loop-v-preserved
loop-v-preserved c =
    let P = IsMarked c.args.marks.now in
    let n = c.loop-v.v in
    let xs = c.loop-v.found.items in
    elim c.if-marks-v.branch [
      | then-marks-v+in_ok-push w ↦ record {
        lists = rw (w.found-is, w.in_ok-push.ensures.items) (below_more P n xs c.loop-v.invariant.lists (record { within = c.loop-v-test.true; marked = w.if-marks-v.true }));
        few = rw w.found-is (omega (arith, w.in_ok-push.ensures.len, c.loop-v.invariant.few));
      }
      | else-marks-v w ↦ record {
        lists = rw w.found-is (below_skip P n xs c.loop-v.invariant.lists (λ p. false≢true (sym w.if-marks-v.false ∙ p.marked)));
        few = rw w.found-is (omega (arith, c.loop-v.invariant.few));
      }
    ]

pub returns-clause-marked : goal.returns-clause-marked
returns-clause-marked c =
    lists_below (IsMarked c.args.marks.now) c.loop-v.v c.loop-v.found.items (λ v p. omega (arith, p.within, c.loop-v-test.false)) c.loop-v.invariant.lists
