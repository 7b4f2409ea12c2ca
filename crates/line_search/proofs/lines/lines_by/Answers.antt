use Rattle.std.proofs.Common.{◌≡◌, ◌∙◌, length}
use Rattle.std.proofs.lemmas.Result.{IfOk-weaker}
use Rattle.raster_points.specs.Places.{Lists}
use Rattle.line_search.specs.Lines.{IsLine}
use Rattle.line_search.specs.Starts.{IsMarked}
use Rattle.line_search.proofs.StartSteps.{lists-same, kept-whole}
use Rattle.line_search.proofs.lines.lines_by.Goals as goal

pub returns-clause-lines : goal.returns-clause-lines
returns-clause-lines c =
    let s = c.args.starts.now in
    let count : length c.mark_all.new.marks ≡ c.in_ok-marks.marks.len = c.mark_all.auto.marks ∙ c.as_mut_slice.ensures.len in
    let written : c.as_slice.result.now ≡ c.mark_all.new.marks = c.as_slice.ensures.value ∙ kept-whole c.in_ok-marks.marks.len c.mark_all.new.marks _ count in
    IfOk-weaker c.marked.result (λ v. Lists (IsMarked c.as_slice.result.now) v.items) (λ v. Lists (IsLine s.axis s.inst) v.items) (λ v h. lists-same (IsMarked c.mark_all.new.marks) (IsLine s.axis s.inst) v.items c.mark_all.ensures (rw written at h)) c.marked.ensures.marked
