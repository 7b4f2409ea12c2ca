use Rattle.cert_rules.proofs.MarkSteps.{refutation, refutation-bounds}
use Rattle.cert_rules.proofs.marks.refutes.Goals as goal

pub returns-clause-exact : goal.returns-clause-exact
returns-clause-exact c =
    refutation c.in_ok-sky.sky c.args.inst c.args.weighting.now c.args.n c.as_slice.result.now c.args.marks.now c.in_ok-refuted.refuted
    c.in_ok-sky.ensures.path c.in_ok-sky.ensures.inst c.in_ok-sky.ensures.weighting c.as_slice.ensures c.in_ok-refuted.ensures

pub returns-clause-bounds : goal.returns-clause-bounds
returns-clause-bounds c =
    refutation-bounds c.in_ok-sky.sky c.args.inst c.args.n c.as_slice.result.now c.in_ok-refuted.refuted
    c.in_ok-sky.ensures.path c.in_ok-sky.ensures.inst c.in_ok-refuted.ensures
