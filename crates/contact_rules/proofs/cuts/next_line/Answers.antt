use Rattle.std.proofs.Common.{◌∙◌, inl, inr}
use Rattle.contact_rules.proofs.RunSteps.{EndsFrom-less}
use Rattle.contact_rules.proofs.cuts.next_line.Goals as goal

pub returns-clause-skips : goal.returns-clause-skips
returns-clause-skips c =
    (EndsFrom-less c.args.axis c.args.inst c.args.gap c.args.from c.next_end-low.result c.next_end.result c.args.lower.now c.next_end.ensures.limited c.next_end-low.ensures.skips, c.next_end.ensures.skips)

pub returns-clause-reached : goal.returns-clause-reached
returns-clause-reached c =
    elim c.next_end.ensures.reached [
      | inr above ↦ inr (inr above)
      | inl e ↦
          rw e (elim c.next_end-low.ensures.reached [
            | inl f ↦ inl (f ∙ c.real_side_along-side.ensures.value)
            | inr below ↦ inr (inl below)
          ])
    ]
