use Rattle.std.proofs.lemmas.Result.{IfOk-weaker}
use Rattle.par_judge.proofs.Joined.{one-list}
use Rattle.par_judge.proofs.workers.judge_through.Goals as goal

pub returns-clause-only : goal.returns-clause-only
returns-clause-only g c =
    IfOk-weaker c.join_parts.result _ _ (λ vs h. one-list c.args.entries.now vs.items h) c.join_parts.ensures
