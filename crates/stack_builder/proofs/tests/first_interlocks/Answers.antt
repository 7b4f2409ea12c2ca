use Rattle.std.proofs.Common.{List, sym, subst}
use Rattle.plan_geometry.specs.Placed.{Placed}
use Rattle.layer_symmetry.specs.declared.symmetries.Move.{Move}
use Rattle.contact_rules.specs.Real.{IsGapOf}
use Rattle.stack_builder.specs.Pairs.{AreOf}
use Rattle.stack_builder.proofs.OrderSteps.{given-gap, given-variants}
use Rattle.stack_builder.proofs.tests.first_interlocks.Goals as goal

pub interlocks-requires-clause-gap : goal.interlocks-requires-clause-gap
interlocks-requires-clause-gap c =
    subst (λ g. IsGapOf c.inst.result g) (sym c.gap.ensures.gap) (given-gap c.args.asked.now c.inst.result c.inst.ensures.order c.inst.ensures.given)

pub interlocks-requires-clause-variants : goal.interlocks-requires-clause-variants
interlocks-requires-clause-variants c =
    subst (λ (l : List (Move × Placed)). AreOf c.inst.result l) (sym c.as_slice-2.ensures.value) (given-variants c.args.asked.now c.inst.result c.in_ok-listed.listed.items c.inst.ensures.given c.in_ok-listed.ensures.given)
