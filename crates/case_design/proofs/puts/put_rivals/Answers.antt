use Rattle.std.proofs.Common.{take, map}
use Rattle.std.proofs.lemmas.Result.{err_from_is_err_and}
use Rattle.texts.specs.Lines.{text_of}
use Rattle.texts.proofs.Growth.{grows_after}
use Rattle.case_design.specs.Text.{rival_line}
use Rattle.case_design.proofs.puts.put_rivals.Goals as goal

pub returns-in_err-put_rival : goal.returns-in_err-put_rival
returns-in_err-put_rival c =
    let p = err_from_is_err_and c.from_residual.result c.from_residual.ensures.1 in
    rw p.1 (grows_after c.args.out.now.items (text_of (map rival_line (take c.loop-rival.rival-index c.args.rivals.now))) c.loop-rival.out.items c.put_rival.new.out.items c.loop-rival.invariant c.in_err-put_rival.ensures)
