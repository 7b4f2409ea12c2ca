use Rattle.std.proofs.Common.{◌≡◌, ◌∙◌, ◌+◌, sym, length, true, None}
use Rattle.std.specs.Prelude.{find, not}
use Rattle.csv.specs.Records.{fields_of}
use Rattle.order_reader.specs.Faults.{is_id, id_in, has_number}
use Rattle.order_reader.proofs.RowFacts.{row-numbers}
use Rattle.order_reader.proofs.checks.fault_of_row.Goals as goal

pub returns : goal.returns
returns c =
    let fields = fields_of c.args.fields.now in
    let size : length fields ≡ length c.args.columns.now + 1 = sym c.len.ensures ∙ c.if-len-columns.false in
    let good : is_id (id_in fields) ≡ true = rw c.id_of.ensures at (sym c.is_id.ensures ∙ c.if-not-is_id.false) in
    let none : find (λ field. not (has_number fields field)) c.args.columns.now ≡ None = sym c.first_without_number.ensures ∙ c.in_default.is in
    c.fault_of_numbers.ensures ∙ row-numbers c.args.columns.now fields c.args.numbers.now size good none c.requires
