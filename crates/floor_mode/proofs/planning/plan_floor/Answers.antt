use Rattle.floor_mode.proofs.PlannedRows.{number-is}
use Rattle.floor_mode.proofs.planning.plan_floor.Goals as goal

pub returns : goal.returns
returns c =
    let floor = c.in_ok-floor.ensures in
    let load = c.in_ok-load.ensures in
    record {
      floor = floor.entry;
      load = load.entry;
      total = c.total_line-total.ensures.total;
      is_row = record {
        floor = (floor.in_range, number-is _ _ _ floor.entry);
        load = (load.in_range, number-is _ _ _ load.entry);
        total = c.total_line-total.ensures.within;
      };
    }
