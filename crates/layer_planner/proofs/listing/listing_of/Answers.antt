use Rattle.std.proofs.Common.{length, map, ap, sym, subst, ◌∙◌}
use Rattle.std.specs.List.{All}
use Rattle.order_reader.specs.Instances.{IsGivenOf}
use Rattle.layer_symmetry.specs.Variants.{IsLayerOf}
use Rattle.stack_builder.specs.Orders.{allowed_of, IsStackOf}
use Rattle.layer_planner.specs.Listing.{listed}
use Rattle.layer_planner.proofs.ListLemmas.{all-given, listing-is}
use Rattle.layer_planner.proofs.listing.listing_of.Goals as goal

pub stack-requires-clause-variants : goal.stack-requires-clause-variants
stack-requires-clause-variants c =
    let o = c.args.order.now in
    let n = length c.args.layer.now.spots in
    let vs = c.in_ok-images.images.items in
    subst (All (λ v. IsGivenOf o v.1.inst)) (sym c.as_slice-all.ensures.value)
    (all-given o c.args.given n vs c.requires.given (subst (λ J. All (IsLayerOf J n) vs) c.requires.on_given c.in_ok-images.ensures.layers))

pub returns : goal.returns
returns c =
    let o = c.args.order.now in
    let p = c.args.layer.now in
    let vs = c.in_ok-images.images.items in
    let n = length c.args.layer.now.spots in
    let e = c.as_slice-all.ensures.value in
    let v = c.in_ok-images.ensures in
    listing-is o c.args.given n p vs c.new-layers.result c.layers_allowed-allowed.result c.in_ok-stack.stack c.requires.layers c.requires.on_given v.variants
    v.layers v.first v.few
    (c.new-layers.ensures ∙ (c.in_ok-list.ensures ∙ ap (map listed) e))
    (c.layers_allowed-allowed.ensures.value ∙ ap (allowed_of o) c.count-count.ensures.value) c.layers_allowed-allowed.ensures.small
    (subst (λ ws. IsStackOf o ws c.layers_allowed-allowed.result c.in_ok-stack.stack) e c.in_ok-stack.ensures.stack)
