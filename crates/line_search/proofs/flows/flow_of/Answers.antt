use Rattle.std.proofs.Common.{rules}
use Rattle.line_search.proofs.flows.flow_of.Goals as goal

pub set_all_rates-requires : goal.set_all_rates-requires
set_all_rates-requires c = record {
  columns = search rules;
  rows = search rules;
  weights = search rules;
  lying = rw (c.len-k.ensures, c.len-m.ensures) c.in_ok-lying.ensures;
  standing = rw (c.len-k.ensures, c.len-m.ensures) c.in_ok-standing.ensures;
  scratch = search rules;
  strip = search rules;
  row = search rules;
}
