use Rattle.std.proofs.Common.{◌≡◌, ◌≤◌, length, drop}
use Rattle.std.specs.Prelude.{reverse, ◌↔◌}
use Rattle.weightings.specs.Weighting.{weight_of}
use Rattle.cert_rules.specs.Refute.{Refutes, RefutesEach}
use Rattle.cert_rules.proofs.MarkSteps.{left_of}
use Rattle.cert_rules.proofs.marks.read_all.Given as goal

abbrev pub invariant-loop-mark : goal.invariant-loop-mark
invariant-loop-mark l = record {
  same : l.sky.steps ≡ reverse l.path.items;
  inst : l.sky.inst ≡ l.initial.sky.inst;
  weighting : l.sky.weighting ≡ l.initial.sky.weighting;
  least : l.sky.least ≡ l.initial.sky.least;
  depth : length l.sky.steps ≤ l.mark-index;
  rest : Refutes l.initial.sky.inst (weight_of l.initial.sky.weighting) l.initial.sky.least l.n l.marks
      ↔ RefutesEach l.initial.sky.inst (weight_of l.initial.sky.weighting) l.initial.sky.least l.n (left_of l.ended l.initial.sky.inst l.sky.steps) (drop l.mark-index l.marks);
}
