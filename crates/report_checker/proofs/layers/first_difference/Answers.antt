use Rattle.std.proofs.Common.{◌≡◌, ◌≤◌, ◌⊎◌, length, inl, inr, ◌+◌, arith}
use Rattle.std.proofs.lemmas.Bool.{cases_order}
use Rattle.report_checker.proofs.Lists.{same-whole, differ-at_end}
use Rattle.report_checker.proofs.layers.first_difference.Goals as goal

pub returns-then-layers-variants : goal.returns-then-layers-variants
returns-then-layers-variants c =
    same-whole c.args.given c.args.layers.now c.args.variants.now c.loop-place.place c.loop-place.invariant
    (omega (arith, c.loop-place-test.false, c.min-shared.ensures, c.if-layers-variants.true)) c.if-layers-variants.true

pub returns-else-layers-variants : goal.returns-else-layers-variants
returns-else-layers-variants c =
    let n = length c.args.layers.now in
    let m = length c.args.variants.now in
    let place : c.loop-place.place ≡ c.min-shared.result = omega (arith, c.loop-place-test.false, c.loop-place.auto.place-end) in
    let end : (n ≤ c.loop-place.place) ⊎ (m ≤ c.loop-place.place) =
    elim (cases_order n m) [
      | inl e ↦ inl (omega (arith, place, c.min-shared.ensures))
      | inr o ↦ elim o [ inl a ↦ inl (omega (arith, place, c.min-shared.ensures)) | inr b ↦ inr (omega (arith, place, c.min-shared.ensures)) ]
    ] in
    differ-at_end c.args.given c.args.layers.now c.args.variants.now c.loop-place.place (c.min-shared.result + 1) (omega (arith, place)) c.loop-place.invariant end
    (omega (arith, place, c.min-shared.ensures)) (omega (arith, place, c.min-shared.ensures)) c.if-layers-variants.false
