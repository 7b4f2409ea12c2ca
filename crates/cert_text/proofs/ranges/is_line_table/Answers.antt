use Rattle.std.proofs.Common.{◌≡◌, ◌*◌, ◌∙◌, ap, sym, Bool, true, false, length, refl}
use Rattle.std.specs.Prelude.{◌&&◌}
use Rattle.line_tables.specs.Lines.{half}
use Rattle.cert_text.specs.Forms.{has_tables}
use Rattle.cert_text.specs.Ranges.{are_counts, are_lines, are_weights}
use Rattle.cert_text.proofs.LineWords.{table_fits}
use Rattle.cert_text.proofs.ranges.is_line_table.Goals as goal

and_true : (b : Bool) → b ≡ (b && true)
and_true true = refl
and_true false = refl

pub returns-then-has_tables : goal.returns-then-has_tables
returns-then-has_tables c =
    let t = c.args.table.now in
    let counts = are_counts (length t.columns) (length t.rows) in
    let w = table_fits t c.columns-columns.ensures.table in
    let h : has_tables c.args.form ≡ true = sym c.has_tables.ensures ∙ c.if-has_tables.true in
    let e : c.are_counts.result ≡ are_counts (length t.columns) (length t.rows) = rw (c.columns-columns.ensures.value, c.rows-rows.ensures.value) at c.are_counts.ensures in
    e ∙ and_true counts ∙ ap (λ b. counts && b) (sym w) ∙ ap (λ b. (b && counts) && (are_lines t.columns && (are_lines t.rows && are_weights (half (length t.rows) * half (length t.columns)) t.quarter))) (sym h)
