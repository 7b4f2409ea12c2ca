use Rattle.std.proofs.Common.{length, subst}
use Rattle.plan_geometry.specs.Layout.{IsLayout}
use Rattle.weightings.specs.Weighting.{weight_of}
use Rattle.layer_planner.proofs.SideLemmas.{bounds-reduced}
use Rattle.layer_planner.proofs.WalkLemmas.{reached-tells, refuted-ends, spent-ends}
use Rattle.layer_planner.proofs.KnownLemmas.{AreKnown, still-known, reached-settled, refuted-settled, spent-settled}
use Rattle.layer_planner.proofs.settling.settle.Goals as goal

pub search-requires-clause-within : goal.search-requires-clause-within
search-requires-clause-within c =
    let p = c.in_ok-placed.placed in
    let l : IsLayout c.args.reduced p.layer.spots = subst (λ i. IsLayout i p.layer.spots) c.in_ok-placed.ensures.inst c.in_ok-placed.ensures.layer.layout in
    bounds-reduced c.args.given c.args.reduced p.known c.in_ok-placed.ensures.known p.layer.spots l

pub returns-in-Reached : goal.returns-in-Reached
returns-in-Reached c =
    let b = c.in_ok-known.ensures in
    let p = c.in_ok-placed.placed in
    let w = c.in_ok-placed.ensures in
    let k : AreKnown c.args.given c.args.reduced p.known (length p.layer.spots) =
    still-known c.args.given c.args.reduced c.in_ok-known.known p.known (length p.layer.spots) c.requires.fits b.family b.strip b.area w.known w.less w.dual w.patterns in
    let t = reached-tells c.args.reduced (weight_of c.lead-lead.result) (length p.layer.spots) p.known.bound c.in-Reached.layer c.in_ok-found.found c.in-Reached.is c.in_ok-found.ensures in
    reached-settled c.args.given c.args.reduced p.known (length p.layer.spots) c.in-Reached.layer k t.0 t.1

pub returns-in-Spent : goal.returns-in-Spent
returns-in-Spent c =
    let b = c.in_ok-known.ensures in
    let p = c.in_ok-placed.placed in
    let w = c.in_ok-placed.ensures in
    let k : AreKnown c.args.given c.args.reduced p.known (length p.layer.spots) =
    still-known c.args.given c.args.reduced c.in_ok-known.known p.known (length p.layer.spots) c.requires.fits b.family b.strip b.area w.known w.less w.dual w.patterns in
    let t = spent-ends c.args.reduced (weight_of c.lead-lead.result) (length p.layer.spots) p.known.bound c.in-Spent.layer c.in_ok-found.found c.in-Spent.is c.in_ok-found.ensures in
    spent-settled c.args.given c.args.reduced p.known (length p.layer.spots) c.in-Spent.layer c.lead-lead.result k c.lead-lead.ensures.lead t.0 t.1

pub returns-in-Refuted : goal.returns-in-Refuted
returns-in-Refuted c =
    let b = c.in_ok-known.ensures in
    let p = c.in_ok-placed.placed in
    let w = c.in_ok-placed.ensures in
    let k : AreKnown c.args.given c.args.reduced p.known (length p.layer.spots) =
    still-known c.args.given c.args.reduced c.in_ok-known.known p.known (length p.layer.spots) c.requires.fits b.family b.strip b.area w.known w.less w.dual w.patterns in
    let t = refuted-ends c.args.reduced (weight_of c.lead-lead.result) (length p.layer.spots) p.known.bound c.in-Refuted.layer c.in-Refuted.tree c.in_ok-found.found c.in-Refuted.is c.in_ok-found.ensures in
    refuted-settled c.args.given c.args.reduced p.known (length p.layer.spots) c.in-Refuted.layer c.lead-lead.result c.in-Refuted.tree c.count-bound.result k c.lead-lead.ensures.lead t.0 t.1 t.2 c.count-bound.ensures.value
