use Rattle.std.proofs.lemmas.Result.{IfOk-weaker}
use Rattle.report_checker.proofs.OneVerdict.{one-verdict, yes-tells}
use Rattle.report_checker.proofs.judges.judge.Goals as goal

pub returns-in-Planned-clause-only : goal.returns-in-Planned-clause-only
returns-in-Planned-clause-only c =
    IfOk-weaker c.judge_plan.result _ _ (λ v h. one-verdict c.args.entry.now v (rw c.in-Planned.is h)) c.judge_plan.ensures

pub returns-in-Planned-clause-sound : goal.returns-in-Planned-clause-sound
returns-in-Planned-clause-sound c =
    IfOk-weaker c.judge_plan.result _ _ (λ v h. yes-tells c.args.entry.now v (rw c.in-Planned.is h)) c.judge_plan.ensures
