use Rattle.std.proofs.Common.{sym, subst, arith}
use Rattle.partitions.specs.Partitions.{SameSides}
use Rattle.partitions.proofs.SameSides.{same_sides_symmetric}
use Rattle.order_reader.specs.Instances.{IsBoundFor}
use Rattle.cert_text.specs.declared.forms.Form.TheVariants.{Two}
use Rattle.plan_entries.specs.declared.entries.Entry.TheVariants.{Planned}
use Rattle.plan_entries.specs.Ranges.{IsInRange}
use Rattle.plan_soundness.specs.Sound.{IsSound}
use Rattle.layer_planner.specs.Quality.{HasQuality}
use Rattle.layer_planner.proofs.PlanLemmas.{plan, AreParts, plan-sound, plan-quality, plan-bounded, plan-text}
use Rattle.layer_planner.proofs.planning.plan_order.Goals as goal

pub settle-requires-clause-same : goal.settle-requires-clause-same
settle-requires-clause-same c = c.reduce-reduced.ensures.reduced.stands.same

pub settle-requires-clause-few : goal.settle-requires-clause-few
settle-requires-clause-few c = omega (arith, c.reduce-reduced.ensures.area, c.inst-given.ensures.few)

pub list_layer-requires-clause-same : goal.list_layer-requires-clause-same
list_layer-requires-clause-same c =
    subst (λ J. SameSides J c.inst-given.result) (sym c.in_ok-settled.ensures.inst)
    (same_sides_symmetric c.inst-given.result c.reduce-reduced.result c.reduce-reduced.ensures.reduced.stands.same)

pub list_layer-requires-clause-few : goal.list_layer-requires-clause-few
list_layer-requires-clause-few c = let s = c.in_ok-settled.ensures in omega (arith, s.within, s.area, c.inst-given.ensures.few)

pub returns-clause-sound : goal.returns-clause-sound
returns-clause-sound c =
    let o = c.args.order.now in
    let g = c.inst-given.result in
    let r = c.reduce-reduced.result in
    let s = c.in_ok-settled.settled in
    let l = c.in_ok-listing.listing in
    let p : AreParts o g r c.count-count.result c.status_of-status.result s l = record {
      is_order = c.inst-given.ensures.order;
      is_given = c.inst-given.ensures.given;
      few = c.inst-given.ensures.few;
      bounds = c.inst-given.ensures.bounds;
      is_reduced = c.reduce-reduced.ensures.reduced;
      settled = c.in_ok-settled.ensures;
      counted = c.count-count.ensures.value;
      listing = c.in_ok-listing.ensures;
      tells = c.status_of-status.ensures;
    } in
    subst (λ w. IsSound (plan c.args.number w r c.count-count.result c.status_of-status.result s l)) (sym c.in_ok-order.ensures) (plan-sound c.args.number o g r c.count-count.result c.status_of-status.result s l p)

pub returns-clause-quality : goal.returns-clause-quality
returns-clause-quality c =
    let o = c.args.order.now in
    let g = c.inst-given.result in
    let r = c.reduce-reduced.result in
    let s = c.in_ok-settled.settled in
    let l = c.in_ok-listing.listing in
    let p : AreParts o g r c.count-count.result c.status_of-status.result s l = record {
      is_order = c.inst-given.ensures.order;
      is_given = c.inst-given.ensures.given;
      few = c.inst-given.ensures.few;
      bounds = c.inst-given.ensures.bounds;
      is_reduced = c.reduce-reduced.ensures.reduced;
      settled = c.in_ok-settled.ensures;
      counted = c.count-count.ensures.value;
      listing = c.in_ok-listing.ensures;
      tells = c.status_of-status.ensures;
    } in
    subst (λ w. HasQuality (plan c.args.number w r c.count-count.result c.status_of-status.result s l)) (sym c.in_ok-order.ensures) (plan-quality c.args.number o g r c.count-count.result c.status_of-status.result s l p)

pub returns-clause-bounded : goal.returns-clause-bounded
returns-clause-bounded c =
    let o = c.args.order.now in
    let g = c.inst-given.result in
    let r = c.reduce-reduced.result in
    let s = c.in_ok-settled.settled in
    let l = c.in_ok-listing.listing in
    let p : AreParts o g r c.count-count.result c.status_of-status.result s l = record {
      is_order = c.inst-given.ensures.order;
      is_given = c.inst-given.ensures.given;
      few = c.inst-given.ensures.few;
      bounds = c.inst-given.ensures.bounds;
      is_reduced = c.reduce-reduced.ensures.reduced;
      settled = c.in_ok-settled.ensures;
      counted = c.count-count.ensures.value;
      listing = c.in_ok-listing.ensures;
      tells = c.status_of-status.ensures;
    } in
    subst (λ w. IsBoundFor w s.known.bound) (sym c.in_ok-order.ensures) (plan-bounded o g r c.count-count.result c.status_of-status.result s l p)

pub returns-clause-in_range : goal.returns-clause-in_range
returns-clause-in_range c =
    let o = c.args.order.now in
    let g = c.inst-given.result in
    let r = c.reduce-reduced.result in
    let s = c.in_ok-settled.settled in
    let l = c.in_ok-listing.listing in
    let p : AreParts o g r c.count-count.result c.status_of-status.result s l = record {
      is_order = c.inst-given.ensures.order;
      is_given = c.inst-given.ensures.given;
      few = c.inst-given.ensures.few;
      bounds = c.inst-given.ensures.bounds;
      is_reduced = c.reduce-reduced.ensures.reduced;
      settled = c.in_ok-settled.ensures;
      counted = c.count-count.ensures.value;
      listing = c.in_ok-listing.ensures;
      tells = c.status_of-status.ensures;
    } in
    subst (λ w. IsInRange Two (Planned (plan c.args.number w r c.count-count.result c.status_of-status.result s l))) (sym c.in_ok-order.ensures) (plan-text c.args.number o g r c.count-count.result c.status_of-status.result s l c.requires.some c.requires.few p)

pub returns-clause-short_cert : goal.returns-clause-short_cert
returns-clause-short_cert c = c.in_ok-settled.ensures.known.short
