use Rattle.std.proofs.lemmas.List.Elements.{All-more}
use Rattle.contact_rules.specs.Rules.{Touches}
use Rattle.contact_rules.proofs.rules.all_touch.Goals as goal

pub loop-s-preserved : goal.loop-s-preserved
loop-s-preserved c =
    All-more (Touches c.args.lower.now.inst c.args.gap c.args.percent c.args.lower.now.spots) c.args.upper.now c.loop-s.s-index _ c.loop-s-test.true c.loop-s.invariant (c.touches.ensures.0 c.if-not-touches.false)
