use Rattle.std.proofs.Common.{arith, true, ◌∙◌}
use Rattle.std.proofs.lemmas.List.{length-set}
use Rattle.line_search.proofs.StartSteps.{mark-more, mark-none}
use Rattle.line_search.proofs.lines.mark_lines.Goals as goal
use Rattle.line_search.proofs.lines.mark_lines.Goals.{in-Some, in_default}

pub loop-place-preserved : goal.loop-place-preserved
loop-place-preserved c =
    let s = c.args.starts.now in
    let i = c.loop-place.invariant in
    let n = c.loop-place.place-index in
    elim c.match-line_of.branch [
      | in-Some w ↦ rw w.marks-is (record {
        count = length-set c.loop-place.marks w.in-Some.line true ∙ i.count;
        marks = mark-more s.axis s.inst c.args.places.now n w.in-Some.line c.args.marks.now c.loop-place.marks (omega (arith, i.count, w.in-Some.ensures.within)) w.in-Some.ensures.some i.marks;
      })
      | in_default w ↦ rw w.marks-is (record {
        count = i.count;
        marks = mark-none s.axis s.inst c.args.places.now n c.args.marks.now c.loop-place.marks w.in_default.ensures.none i.marks;
      })
    ]
