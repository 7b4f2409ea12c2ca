use Rattle.std.proofs.Common.{arith, subst}
use Rattle.strip_cuts.specs.Cuts.{AcceptsStrip}
use Rattle.strip_cuts.proofs.Bounds.{bound}
use Rattle.strip_cuts.proofs.cuts.accepts_strip.Goals as goal

pub returns-clause-bounds : goal.returns-clause-bounds
returns-clause-bounds c =
    let a = c.args in
    let accepted : AcceptsStrip a.inst a.n c.cuts-cuts.result.now = record {
      count = c.if-cuts-n.false;
      each = λ h lt. c.loop-h.invariant h (omega (arith, lt, c.loop-h-test.false));
    } in
    λ _. bound a.inst a.n a.cert.now (subst (λ cuts. AcceptsStrip a.inst a.n cuts) c.cuts-cuts.ensures accepted)
