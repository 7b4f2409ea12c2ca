use Rattle.order_reader.specs.Columns.{all_columns}
use Rattle.truck_floor.proofs.floors.is_header.Goals as goal

pub returns : goal.returns
unfolding all_columns
returns c = rw c.as_slice.ensures at c.has_fields.ensures
