use Rattle.std.proofs.Common.{take}
use Rattle.std.proofs.lemmas.Result.{err_from_is_err_and}
use Rattle.texts.specs.Lines.{text_of}
use Rattle.texts.proofs.Growth.{grows_after}
use Rattle.cert_text.specs.Text.{cut_lines}
use Rattle.weightings.specs.declared.certs.StripCut.TheVariants as cuts
use Rattle.cert_text.proofs.Pieces.{cuts_more}
use Rattle.cert_text.proofs.puts.put_cuts.Goals as goal

pub loop-place-preserved : goal.loop-place-preserved
loop-place-preserved c = cuts_more c.args.out.now.items c.loop-place.out.items c.put_cut.new.out.items c.loop-place.place c.args.cuts.now cuts.Area c.loop-place-test.true c.loop-place.invariant c.in_ok-put_cut.ensures

pub returns-in_err-put_cut : goal.returns-in_err-put_cut
returns-in_err-put_cut c =
    let p = err_from_is_err_and c.from_residual.result c.from_residual.ensures.1 in
    rw p.1 (grows_after c.args.out.now.items (text_of (cut_lines 0 (take c.loop-place.place c.args.cuts.now))) c.loop-place.out.items c.put_cut.new.out.items c.loop-place.invariant c.in_err-put_cut.ensures)
