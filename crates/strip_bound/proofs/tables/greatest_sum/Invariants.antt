use Rattle.std.proofs.Common.{◌≤◌}
use Rattle.plan_geometry.specs.Layout.{area_bound_of}
use Rattle.strip_bound.specs.Firsts.{IsReached}
use Rattle.strip_bound.proofs.Pairs.{ArePassed}
use Rattle.strip_bound.proofs.tables.greatest_sum.Given as goal

abbrev pub invariant-loop-h : goal.invariant-loop-h
invariant-loop-h l = record {
  reached : IsReached l.inst l.cuts l.n;
  few : l.n ≤ area_bound_of l.inst;
  passed : ArePassed l.inst l.cuts l.n l.h;
}
