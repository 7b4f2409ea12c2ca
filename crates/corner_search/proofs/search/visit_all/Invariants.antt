use Rattle.std.proofs.Common.{◌≡◌, ◌≤◌, length}
use Rattle.std.specs.Prelude.{reverse}
use Rattle.corner_search.proofs.Walking.{Stands}
use Rattle.corner_search.proofs.search.visit_all.Given as goal

abbrev pub invariant-loop : goal.invariant-loop
invariant-loop l = record {
  same : l.sky.steps ≡ reverse l.path.items;
  inst : l.sky.inst ≡ l.initial.sky.inst;
  weighting : l.sky.weighting ≡ l.initial.sky.weighting;
  least : l.sky.least ≡ l.initial.sky.least;
  depth : length l.sky.steps ≤ l.counter;
  stands : Stands l.initial.sky.inst l.initial.sky.weighting l.initial.sky.least l.n l.counter l.sky.steps l.tree.items;
}
