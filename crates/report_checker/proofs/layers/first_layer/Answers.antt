use Rattle.std.proofs.Common.{◌∙◌, subst, refl, ◌+◌}
use Rattle.std.proofs.lemmas.List.Elements.{All-more}
use Rattle.layer_symmetry.proofs.VariantSteps.{All-end}
use Rattle.plan_soundness.specs.Sound.{IsListedLayer}
use Rattle.report_checker.specs.Verdicts.{IsPlacedAs}
use Rattle.report_checker.proofs.Firsts.{without-at}
use Rattle.report_checker.proofs.Parts.{first-is}
use Rattle.report_checker.proofs.layers.first_layer.Goals as goal

pub returns-in_default-2 : goal.returns-in_default-2
returns-in_default-2 c =
    let P = IsListedLayer c.args.order.now c.args.count in
    let place = c.loop-place.place in
    let l = c.index-layers-place.result in
    let bad : P l → ⊥ = rw c.in_default-2.is at c.in_ok-_layer.ensures in
    without-at P c.args.layers.now place (place + 1) l refl c.loop-place-test.true c.index-layers-place.is c.loop-place.invariant bad

pub loop-place-preserved : goal.loop-place-preserved
loop-place-preserved c =
    let P = IsListedLayer c.args.order.now c.args.count in
    let l = c.index-layers-place.result in
    let good : IsPlacedAs c.args.order.now c.args.count l c.in-Some-2._layer = rw c.in-Some-2.is at c.in_ok-_layer.ensures in
    All-more P c.args.layers.now c.loop-place.place l c.loop-place-test.true c.loop-place.invariant (subst P c.index-layers-place.is good.listed)

pub returns : goal.returns
returns c =
    let P = IsListedLayer c.args.order.now c.args.count in
    let l = c.index-layers-0.result in
    let good : IsPlacedAs c.args.order.now c.args.count l c.in-Some.first = rw c.in-Some.is at c.in_ok-first.ensures in
    record {
      layers = All-end P c.args.layers.now c.loop-place.place c.loop-place-test.false c.loop-place.invariant;
      given = good.given;
      spots = good.spots ∙ first-is c.args.layers.now l c.requires.some c.index-layers-0.is;
    }
