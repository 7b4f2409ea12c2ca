use Rattle.std.proofs.Common.{◌+◌, ◌-◌, arith}
use Rattle.strip_bound.proofs.Pairs.{reached-few}
use Rattle.strip_bound.proofs.tables.raised.Goals as goal

pub loop-m-preserved : goal.loop-m-preserved
loop-m-preserved c =
    record { h = c.args.h; v = (c.loop-m.m + 1) - c.args.h; admitted = c.in-None.ensures; reached = omega (arith, c.requires.within, c.loop-m.auto.m) }

pub returns-in-Some-clause-few : goal.returns-in-Some-clause-few
returns-in-Some-clause-few c = reached-few c.args.inst c.args.cuts.now c.loop-m.m c.requires.area c.loop-m.invariant

pub unreachable-unreachable : goal.unreachable-unreachable
unreachable-unreachable c =
    let le = reached-few c.args.inst c.args.cuts.now c.loop-m.m c.requires.area c.loop-m.invariant in
    omega (arith, le, c.requires.few, c.loop-m-test.false)
