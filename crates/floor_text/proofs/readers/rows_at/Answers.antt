use Rattle.std.proofs.Common.{◌∙◌, sym, ap, List, Ok, length, ◌≤◌, subst}
use Rattle.texts.specs.Lines.{whole_lines}
use Rattle.floor_text.specs.declared.rows.FloorRow.{FloorRow}
use Rattle.floor_text.proofs.TakenRows.{few_ahead, all_ahead}
use Rattle.floor_text.proofs.readers.rows_at.Goals as goal

pub new-requires : goal.new-requires
new-requires c = (all_ahead c.in_ok-count.count c.args.bytes.now (whole_lines c.in_ok-count.rest.now) c.in_ok-count.ensures.read).in_front

pub returns-clause-read : goal.returns-clause-read
returns-clause-read c =
    (all_ahead c.in_ok-count.count c.args.bytes.now (whole_lines c.in_ok-count.rest.now) c.in_ok-count.ensures.read).read ∙ ap (λ (rs : List FloorRow). Ok (rs, whole_lines c.in_ok-count.rest.now)) (sym c.new.ensures)

pub returns-clause-few : goal.returns-clause-few
returns-clause-few c =
    let in_front = (all_ahead c.in_ok-count.count c.args.bytes.now (whole_lines c.in_ok-count.rest.now) c.in_ok-count.ensures.read).in_front in
    subst (λ (rs : List FloorRow). length rs ≤ 128) (sym c.new.ensures) (few_ahead c.in_ok-count.count 0 c.args.bytes.now in_front)
