use Rattle.std.proofs.Common.{◌+◌, take, sym, subst}
use Rattle.report_checker.specs.Verdicts.{IsVerdict}
use Rattle.par_judge.specs.Judged.{AreVerdicts}
use Rattle.par_judge.proofs.Joined.{paired-push}
use Rattle.par_judge.proofs.workers.judge_part.Goals as goal

pub loop-index-preserved : goal.loop-index-preserved
loop-index-preserved g c =
    let es = c.args.entries.now in
    let i = c.loop-index.index in
    subst (λ l. AreVerdicts (take (i + 1) es) l) (sym c.in_ok-push.ensures.items)
    (paired-push IsVerdict es i c.index-entries-index.result c.in_ok-verdict.verdict c.loop-index.verdicts.items c.loop-index-test.true c.index-entries-index.is c.in_ok-verdict.ensures c.loop-index.invariant)
