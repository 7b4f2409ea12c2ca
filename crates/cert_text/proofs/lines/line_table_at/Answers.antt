use Rattle.std.proofs.lemmas.Bool.{false≢true}
use Rattle.texts.specs.Lines.{whole_lines}
use Rattle.cert_text.proofs.LineWords.{half_is}
use Rattle.cert_text.proofs.WeightingReaders.{is_line_table_read}
use Rattle.cert_text.proofs.lines.line_table_at.Goals as goal

pub unreachable-requires : goal.unreachable-requires
unreachable-requires c =
    let a = c.args in
    let none = rw c.in-None.is at (c.in_ok-table.ensures.accepted.1) in
    false≢true (none (is_line_table_read a.form a.column_count a.row_count (whole_lines a.bytes.now) (whole_lines c.in_ok-columns.rest.now) (whole_lines c.in_ok-rows.rest.now) (whole_lines c.in_ok-quarter.rest.now) c.in_ok-columns.columns.items c.in_ok-rows.rows.items c.in_ok-quarter.quarter.items c.requires c.in_ok-columns.ensures.read c.in_ok-rows.ensures.read (rw (c.div_ceil.ensures, c.div_ceil-2.ensures, half_is a.column_count, half_is a.row_count) at c.in_ok-quarter.ensures.read)))
