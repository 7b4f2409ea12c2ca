use Rattle.std.proofs.Common.{sym, subst}
use Rattle.contact_rules.specs.Real.{IsGapOf}
use Rattle.stack_builder.proofs.OrderSteps.{given-gap}
use Rattle.layer_planner.proofs.listing.interlocking_instead.Goals as goal

pub interlocking_layer-requires-clause-gap : goal.interlocking_layer-requires-clause-gap
interlocking_layer-requires-clause-gap c =
    subst (λ g. IsGapOf c.args.given g) (sym c.gap.ensures.gap) (given-gap c.args.order.now c.args.given c.gap.ensures.order c.requires.given)
