use Rattle.std.proofs.lemmas.Result.{IfOk-weaker}
use Rattle.bound_checker.proofs.Soundness.{some_least}
use Rattle.bound_checker.proofs.checks.accepts_weighted.Goals as goal

pub returns : goal.returns
returns c =
    let a = c.args in
    IfOk-weaker c.refutes.result _ _
    (λ b e. (
      λ t. record {
        lawful = c.belongs.ensures.0 c.if-not-belongs.false;
        refutation = e.0 t;
        some = some_least a.inst a.weighting.now a.n a.tree.now c.least.result c.least.ensures c.if-least-eq0.false (e.0 t);
      },
      λ accepted. e.1 accepted.refutation,
    ))
    c.refutes.ensures.exact
