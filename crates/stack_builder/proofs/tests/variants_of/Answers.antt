use Rattle.std.proofs.Common.{◌∙◌, sym, subst}
use Rattle.order_reader.specs.Instances.{IsGivenOf}
use Rattle.stack_builder.proofs.tests.variants_of.Goals as goal

pub returns-clause-given : goal.returns-clause-given
returns-clause-given c = λ k d lt.
    subst (λ I. IsGivenOf c.args.order.now I) (sym ((c.in_ok-all.ensures.layers k d lt).inst ∙ c.in-Some.ensures.inst)) c.inst.ensures.given
