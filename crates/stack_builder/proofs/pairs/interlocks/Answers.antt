use Rattle.std.proofs.Common.{◌≡◌, ◌+◌, true, false, refl, sym, subst, ◌∙◌, inl, inr, arith}
use Rattle.std.proofs.lemmas.Bool.{cases_order}
use Rattle.stack_builder.specs.Pairs.{GoTogether}
use Rattle.stack_builder.proofs.pairs.interlocks.Goals as goal

pub returns-then-pair_goes : goal.returns-then-pair_goes
returns-then-pair_goes c = (
  λ _. record { form = c.loop-k.k + 1; min = omega arith; max = omega arith; meets = c.pair_goes.ensures.0 c.if-pair_goes.true },
  λ _. refl,
)

pub loop-k-preserved : goal.loop-k-preserved
loop-k-preserved c = λ form min max h.
    elim (cases_order form (c.loop-k.k + 1)) [
      | inl e ↦
          let h' = subst (λ w. GoTogether c.args.inst c.args.gap c.args.rules.now c.args.variants.now 1 w) e h in
          let z : false ≡ true = sym c.if-pair_goes.false ∙ c.pair_goes.ensures.1 h' in
          cc z
      | inr o ↦ elim o [ inl l ↦ c.loop-k.invariant form min (omega arith) h | inr l ↦ absurd (omega arith) ]
    ]

pub returns : goal.returns
returns c = (λ f. cc f, λ h. absurd (c.loop-k.invariant h.form h.min (omega (arith, h.max)) h.meets))
