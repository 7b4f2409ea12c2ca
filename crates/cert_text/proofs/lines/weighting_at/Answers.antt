use Rattle.texts.specs.Lines.{whole_lines}
use Rattle.cert_text.proofs.WeightingReaders.{weight_line_good}
use Rattle.cert_text.proofs.lines.weighting_at.Goals as goal

pub table_at-requires : goal.table_at-requires
table_at-requires c =
    rw c.in-Table.is at (weight_line_good c.args.form (whole_lines c.args.bytes.now) c.in_ok-line.line (whole_lines c.in_ok-line.rest.now) c.in_ok-line.ensures.read)

pub line_table_at-requires : goal.line_table_at-requires
line_table_at-requires c =
    rw c.in-Lines.is at (weight_line_good c.args.form (whole_lines c.args.bytes.now) c.in_ok-line.line (whole_lines c.in_ok-line.rest.now) c.in_ok-line.ensures.read)
