use Rattle.std.proofs.Common.{◌≡◌, ◌≤◌, ◌*◌, ◌+◌}
use Rattle.plan_geometry.specs.Weight.{sum_below}
use Rattle.weightings.specs.Weighting.{weight_of}
use Rattle.weightings.specs.declared.kinds.Weighting.TheVariants.{Colour}
use Rattle.cert_rules.proofs.blocks.colour_block.Given as goal

abbrev pub invariant-loop-i : goal.invariant-loop-i
invariant-loop-i l = record {
  value : l.sum ≡ sum_below l.i (λ i. sum_below l.b (λ j. weight_of (Colour l.k l.c) (l.x + i) (l.y + j)));
  small : l.sum ≤ l.i * 4000;
}
