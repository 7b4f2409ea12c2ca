use Rattle.std.proofs.lemmas.Bool.{false≢true}
use Rattle.texts.specs.Lines.{whole_lines}
use Rattle.cert_text.proofs.WeightingReaders.{is_table_read}
use Rattle.cert_text.proofs.lines.table_at.Goals as goal

pub unreachable-requires : goal.unreachable-requires
unreachable-requires c =
    let a = c.args in
    false≢true (c.in-None.ensures.accepted.1 (is_table_read a.form a.x a.y (whole_lines a.bytes.now) c.in_ok-cells.cells.items (whole_lines c.in_ok-cells.rest.now) c.requires c.in_ok-cells.ensures.read))
