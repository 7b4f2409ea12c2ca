use Rattle.std.proofs.Common.{◌≡◌, Option, Some, None, sym, ap, ◌∙◌, false}
use Rattle.std.proofs.lemmas.Bool.{false≢true}
use Rattle.order_reader.specs.declared.fields.Field.{Field}
use Rattle.plan_entries.specs.Ranges.{has_column}
use Rattle.texts.proofs.Parsers.{some_is}
use Rattle.report_text.proofs.Columns.{no_column, this_column}
use Rattle.report_text.proofs.faults.column_named.Goals as goal

abbrev none : Option Field
none = None

pub returns-in_default : goal.returns-in_default
returns-in_default c = no_column c.args.form c.args.name.now (λ field is stands. none_some field (c.in_default.ensures.each field is))
  where
    none_some : (field : Field) → none ≡ Some field → ⊥
    none_some field e = absurd cc

pub returns-then-has_column : goal.returns-then-has_column
returns-then-has_column c = this_column c.args.form c.args.name.now c.in-Some.field c.in-Some.ensures.found (sym c.has_column.ensures ∙ c.if-has_column.true)

pub returns-else-has_column : goal.returns-else-has_column
returns-else-has_column c =
    no_column c.args.form c.args.name.now (λ field is stands.
    let same : c.in-Some.field ≡ field = some_is c.in-Some.field field (c.in-Some.ensures.each field is) in
    let fails : has_column c.args.form c.in-Some.field ≡ false = sym c.has_column.ensures ∙ c.if-has_column.false in
    false≢true (sym fails ∙ ap (has_column c.args.form) same ∙ stands))
