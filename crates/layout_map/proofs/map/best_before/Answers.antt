use Rattle.std.proofs.Common.{◌≡◌, ◌+◌, ◌<◌, length, get_or, arith, sym, subst, inl, inr}
use Rattle.plan_geometry.specs.declared.spots.Spot.{Spot}
use Rattle.plan_geometry.specs.Layout.{start}
use Rattle.layout_map.specs.Chains.{IsGreatestChain}
use Rattle.layout_map.proofs.GreatestChains.{BestAmong, best_none, best_all, best_beyond, best_within, extent_positive, chain_bound, corner}
use Rattle.layout_map.proofs.map.best_before.Goals as goal
use Rattle.layout_map.proofs.map.best_before.Goals.{then-begin-extent_along+then-total-best, then-begin-extent_along+else-total-best, else-begin-extent_along}

pub loop-spot-init : goal.loop-spot-init
loop-spot-init c = best_none c.args.axis c.args.from c.args.to c.args.spots.now c.args.edge

pub overflow_add-total : goal.overflow_add-total
overflow_add-total c =
    let a = c.args in
    let g = c.extent_along.ensures.extent in
    let one = extent_positive a.axis a.from (get_or a.spots.now c.loop-spot.spot-index corner).way in
    let best = c.requires.table c.start_along-begin.result (omega (arith, g, one)) in
    let bound = chain_bound a.axis a.from a.to a.spots.now c.start_along-begin.result (get_or a.reach.now c.start_along-begin.result 0) best.reached in
    let most = c.extent_along-then-begin-extent_along.ensures.limited in
    omega (arith, bound, most)

pub loop-spot-preserved : goal.loop-spot-preserved
loop-spot-preserved c =
    let a = c.args in
    let k = c.loop-spot.spot-index in
    let spot : Spot = get_or a.spots.now k corner in
    let best = c.if-begin-extent_along.best in
    let b = c.start_along-begin.ensures in
    let g = c.extent_along.ensures.extent in
    let at : k < length a.spots.now = omega arith in
    let one = extent_positive a.axis a.from spot.way in
    let table : c.start_along-begin.result < a.edge → IsGreatestChain a.axis a.from a.to a.spots.now (start a.axis spot) (get_or a.reach.now c.start_along-begin.result 0) =
    λ h. subst (λ n. IsGreatestChain a.axis a.from a.to a.spots.now n (get_or a.reach.now c.start_along-begin.result 0)) b (c.requires.table c.start_along-begin.result (omega (arith, h))) in
    let within = best_within a.axis a.from a.to a.spots.now a.edge k c.loop-spot.best (get_or a.reach.now c.start_along-begin.result 0) best corner at c.loop-spot.invariant in
    elim c.if-begin-extent_along.branch [
      | then-begin-extent_along+then-total-best w ↦
          let t = w.if-begin-extent_along.true in
          let e = w.extent_along-then-begin-extent_along.ensures.extent in
          let is = w.best-is in
          let more = w.if-total-best.true in
          within (table (omega (arith, t, g, one))) (omega (arith, t, g, b)) (omega (arith, is, more)) (omega (arith, is, e)) (inr (omega (arith, is, e)))
      | then-begin-extent_along+else-total-best w ↦
          let t = w.if-begin-extent_along.true in
          let e = w.extent_along-then-begin-extent_along.ensures.extent in
          let is = w.best-is in
          let more = w.if-total-best.false in
          within (table (omega (arith, t, g, one))) (omega (arith, t, g, b)) (omega (arith, is, more)) (omega (arith, is, e, more)) (inl is)
      | else-begin-extent_along w ↦
          let f = w.if-begin-extent_along.false in
          subst (λ n. BestAmong a.axis a.from a.to a.spots.now a.edge (k + 1) n) (sym w.best-is)
          (best_beyond a.axis a.from a.to a.spots.now a.edge k c.loop-spot.best corner at c.loop-spot.invariant (omega (arith, f, g, b)))
    ]

pub returns : goal.returns
returns c =
    let a = c.args in
    let all : c.loop-spot.spot-index ≡ length a.spots.now = omega arith in
    best_all a.axis a.from a.to a.spots.now a.edge c.loop-spot.best
    (subst (λ n. BestAmong a.axis a.from a.to a.spots.now a.edge n c.loop-spot.best) all c.loop-spot.invariant)
