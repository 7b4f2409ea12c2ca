use Rattle.std.proofs.Common.{◌<◌, length, sym, arith}
use Rattle.std.proofs.Math.Nat.{le_refl}
use Rattle.weightings.specs.Weighting.{weight_of}
use Rattle.layer_planner.proofs.WalkLemmas.{found-tells, refuted-tells, spent-long}
use Rattle.layer_planner.proofs.search.search.Goals as goal

pub loop-count-init : goal.loop-count-init
loop-count-init c =
    (record { inst = c.requires.inst; layer = c.requires.layer; grown = le_refl (length c.args.start.spots); within = c.requires.within }, sym c.count-first.ensures.value)

pub returns-in-Refuted : goal.returns-in-Refuted
returns-in-Refuted c =
    let v = c.loop-count.invariant in
    let t = refuted-tells c.args.inst (weight_of c.args.lead.now) c.loop-count.count (length c.loop-count.layer.spots) _ c.in-Refuted.tree c.in_ok-walk.walk c.in-Refuted.is c.in_ok-walk.ensures.tells v.1 in
    (v.0, t.0, t.1)

pub returns-in-Spent : goal.returns-in-Spent
returns-in-Spent c =
    let v = c.loop-count.invariant in
    (v.0, spent-long c.args.inst (weight_of c.args.lead.now) c.loop-count.count (length c.loop-count.layer.spots) _ _ c.in_ok-walk.walk c.in-Spent.is c.in_ok-walk.ensures.answer v.1)

pub loop-count-preserved : goal.loop-count-preserved
loop-count-preserved c =
    let v = c.loop-count.invariant in
    let lt : c.loop-count.count < c.args.most = c.loop-count-test.true in
    let t = found-tells c.args.inst (weight_of c.args.lead.now) c.loop-count.count _ c.in-Found.better c.in_ok-walk.walk c.in-Found.is c.in_ok-walk.ensures.tells in
    (record { inst = t.1; layer = t.0; grown = omega (arith, t.2, v.0.grown, v.1); within = omega (arith, t.2, lt) }, t.2)

pub returns : goal.returns
returns c =
    let v = c.loop-count.invariant in
    let w = v.0.within in
    let e = v.1 in
    (v.0, omega arith)
