use Rattle.std.proofs.Common.{◌≡◌, vec_len}
use Rattle.layout_map.specs.Chains.{ListsGreatestChains}
use Rattle.layout_map.proofs.map.chain_totals.Given as goal

abbrev pub invariant-loop-edge : goal.invariant-loop-edge
invariant-loop-edge l = record {
  count : vec_len l.reach ≡ l.edge;
  table : ListsGreatestChains l.axis l.from l.to l.spots l.reach.items;
}
