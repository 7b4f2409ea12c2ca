use Rattle.line_search.proofs.StartSteps.{lines-of-ways}
use Rattle.line_search.proofs.lines.mark_all.Goals as goal

pub returns : goal.returns
returns c =
    let s = c.args.starts.now in
    lines-of-ways s.axis s.inst c.places_so.result.now c.places_so-2.result.now c.args.marks.now c.mark_lines.new.marks c.mark_lines-2.new.marks c.places_so.ensures.starts c.places_so-2.ensures.starts c.requires.none c.mark_lines.ensures c.mark_lines-2.ensures
