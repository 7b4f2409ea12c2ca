use Rattle.layer_planner.proofs.TableLemmas.{lines-text}
use Rattle.layer_planner.proofs.guides.or_best.Goals as goal

pub or_table-requires-clause-text : goal.or_table-requires-clause-text
or_table-requires-clause-text c = lines-text c.in_ok-table.table c.columns.ensures.table (rw c.columns.ensures.value at c.columns.ensures.few) (rw c.rows.ensures.value at c.rows.ensures.few)
