use Rattle.std.proofs.Common.{◌+◌, refl}
use Rattle.weightings.specs.Weighting.{weight_of}
use Rattle.corner_search.proofs.Answering.{found-answer, found-tells, refuted-answer, spent-answer}
use Rattle.corner_search.proofs.search.exhaust.Goals as goal

pub returns-in-Enough-clause-answer : goal.returns-in-Enough-clause-answer
returns-in-Enough-clause-answer c =
    found-answer c.in_ok-sky.sky c.visit_all.new.sky c.args.inst c.args.weighting.now c.args.n c.args.budget c.visit_all.new.tree.items c.in_ok-visit_all.field-0 c.in_ok-layer-in-Enough.layer
    c.in_ok-sky.ensures.path c.in_ok-sky.ensures.inst c.in_ok-sky.ensures.weighting c.in-Enough.is c.in_ok-visit_all.ensures.concludes c.in_ok-layer-in-Enough.ensures.inst c.in_ok-layer-in-Enough.ensures.same

pub returns-in-Enough-clause-tells : goal.returns-in-Enough-clause-tells
returns-in-Enough-clause-tells c =
    found-tells c.in_ok-sky.sky c.visit_all.new.sky c.args.inst (weight_of c.args.weighting.now) c.args.n c.args.budget c.visit_all.new.tree.items c.in_ok-visit_all.field-0 c.in_ok-layer-in-Enough.layer
    c.in-Enough.is c.in_ok-visit_all.ensures.concludes c.in_ok-layer-in-Enough.ensures.inst c.in_ok-layer-in-Enough.ensures.same c.in_ok-layer-in-Enough.ensures.layer

pub returns-in-Ended-clause-answer : goal.returns-in-Ended-clause-answer
returns-in-Ended-clause-answer c =
    (refuted-answer c.in_ok-sky.sky c.visit_all.new.sky c.args.inst c.args.weighting.now c.args.n c.args.budget c.visit_all.new.tree.items c.new.result c.in_ok-visit_all.field-0
    c.in_ok-sky.ensures.path c.in_ok-sky.ensures.inst c.in_ok-sky.ensures.weighting c.new.ensures c.in-Ended.is c.in_ok-visit_all.ensures.concludes).0

pub returns-in-Ended-clause-tells : goal.returns-in-Ended-clause-tells
returns-in-Ended-clause-tells c =
    (refuted-answer c.in_ok-sky.sky c.visit_all.new.sky c.args.inst c.args.weighting.now c.args.n c.args.budget c.visit_all.new.tree.items c.new.result c.in_ok-visit_all.field-0
    c.in_ok-sky.ensures.path c.in_ok-sky.ensures.inst c.in_ok-sky.ensures.weighting c.new.ensures c.in-Ended.is c.in_ok-visit_all.ensures.concludes).1

pub returns-clause-answer : goal.returns-clause-answer
returns-clause-answer c =
    spent-answer c.in_ok-sky.sky c.visit_all.new.sky c.args.inst c.args.weighting.now c.args.n c.args.budget (c.args.budget + 1) c.visit_all.new.tree.items c.in_ok-visit_all.field-0
    c.in_ok-sky.ensures.path c.in_ok-sky.ensures.inst c.in_ok-sky.ensures.weighting c.in-Spent.is c.in_ok-visit_all.ensures.concludes refl
