use Rattle.strip_bound.specs.Firsts.{IsReached}
use Rattle.strip_bound.proofs.tables.raised.Given as goal

abbrev pub invariant-loop-m : goal.invariant-loop-m
invariant-loop-m l = IsReached l.inst l.cuts l.m
