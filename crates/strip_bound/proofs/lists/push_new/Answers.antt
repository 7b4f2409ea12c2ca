use Rattle.strip_bound.proofs.ListSteps.{adds-one, adds-kept}
use Rattle.strip_bound.proofs.Keeping.{kept-more}
use Rattle.strip_bound.proofs.lists.push_new.Goals as goal

pub returns-then-has-clause-adds : goal.returns-then-has-clause-adds
returns-then-has-clause-adds c =
    let a = c.args in
    adds-kept a.axis a.inst (record { a = a.a; b = a.distance }) a.cuts.now.items (c.requires.kept a.distance a.a (c.has.ensures c.if-has.true))

pub returns-clause-adds : goal.returns-clause-adds
returns-clause-adds c =
    let a = c.args in
    adds-one a.axis a.inst (record { a = a.a; b = a.distance }) c.line_cut.result a.cuts.now.items c.push.new.self.items c.line_cut.ensures c.in_ok-push.ensures.items

pub returns-clause-kept : goal.returns-clause-kept
returns-clause-kept c =
    let a = c.args in
    kept-more a.axis a.inst a.seen.now a.cuts.now.items c.push.new.self.items a.distance a.a c.with.result c.line_cut.result c.requires.within c.requires.kept
    c.with.ensures c.line_cut.ensures c.in_ok-push.ensures.items
