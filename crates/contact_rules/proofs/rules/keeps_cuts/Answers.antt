use Rattle.contact_rules.proofs.rules.keeps_cuts.Goals as goal

pub returns-then-keeps_cuts_along : goal.returns-then-keeps_cuts_along
returns-then-keeps_cuts_along c = (
  λ h. (c.keeps_cuts_along.ensures.0 c.if-keeps_cuts_along.true, c.keeps_cuts_along-then-keeps_cuts_along.ensures.0 h),
  λ k. c.keeps_cuts_along-then-keeps_cuts_along.ensures.1 k.1,
)
