use Rattle.std.proofs.Common.{◌≡◌, ◌∙◌, ◌+◌, ◌*◌, ◌++◌, List, arith, take, drop, sym, ap, subst}
use Rattle.report_checker.specs.declared.verdicts.Verdict.{Verdict}
use Rattle.par_judge.specs.Judged.{AreVerdicts}
use Rattle.report_checker.specs.Verdicts.{IsVerdict}
use Rattle.par_judge.proofs.Joined.{paired-join}
use Rattle.par_judge.proofs.workers.join_parts.Goals as goal

pub loop-part-preserved : goal.loop-part-preserved
loop-part-preserved c =
    let es = c.args.entries.now in
    let i = c.loop-part.part-index in
    let size = c.args.size in
    let here = c.requires.each i c.part-item.result c.loop-part-test.true in
    let part : AreVerdicts (take size (drop (i * size) es)) c.in-Ok.part.items = rw (← c.part-item.is, c.in-Ok.is) at here in
    let items : c.extend_from_slice.new.self.items ≡ c.loop-part.verdicts.items ++ c.in-Ok.part.items =
    c.in_ok-extend_from_slice.ensures.items ∙ ap (λ (l : List Verdict). c.loop-part.verdicts.items ++ l) c.deref.ensures.value in
    let next : (i + 1) * size ≡ i * size + size = grind arith in
    subst (λ l. AreVerdicts (take ((i + 1) * size) es) l) (sym items) (subst (λ n. AreVerdicts (take n es) (c.loop-part.verdicts.items ++ c.in-Ok.part.items)) (sym next) (paired-join IsVerdict es (i * size) size c.loop-part.verdicts.items c.in-Ok.part.items c.loop-part.invariant part))
