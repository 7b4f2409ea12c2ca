use Rattle.std.proofs.Common.{◌≡◌, ◌∙◌, [], ◌∷◌, List, map, sym, subst, arith}
use Rattle.std.proofs.lemmas.List.{nil_from_length}
use Rattle.csv.specs.Records.{Row, fields_of}
use Rattle.case_design.specs.Designs.{HasRows}
use Rattle.case_design.proofs.FileFacts.{all_records, no_header, many_rows, one_row, one_is, rows_behind, few_rows}
use Rattle.case_design.proofs.designs.read_design.Goals as goal

pub returns-then-not-is_header-clause-no_header : goal.returns-then-not-is_header-clause-no_header
returns-then-not-is_header-clause-no_header c = λ _.
    let all = all_records c.args.bytes.now c.in-Ok.records.items c.as_slice.result.now c.in-Some.rows.now c.in-Some.first.now c.in-Ok.ensures c.as_slice.ensures.value c.in-Some.ensures.cases.0 in
    no_header c.args.bytes.now (fields_of c.in-Some.first.now) (map fields_of c.in-Some.rows.now) all (sym c.is_header.ensures ∙ c.if-not-is_header.true)

pub returns-in-empty-clause-design : goal.returns-in-empty-clause-design
returns-in-empty-clause-design c =
    let rows = rows_behind c.args.bytes.now c.in-Ok.records.items c.as_slice.result.now c.in-Some.rows.now c.in-Some.first.now c.in-Ok.ensures c.as_slice.ensures.value c.in-Some.ensures.cases.0 (sym c.is_header.ensures ∙ c.if-not-is_header.false) in
    let none : c.in-Some.rows.now ≡ [] = nil_from_length c.in-Some.rows.now (omega arith) in
    subst (λ (r : List Row). HasRows c.args.bytes.now (map fields_of r)) none rows

pub returns-in-Ok-design_of_row-clause-design : goal.returns-in-Ok-design_of_row-clause-design
returns-in-Ok-design_of_row-clause-design c =
    let rows = rows_behind c.args.bytes.now c.in-Ok.records.items c.as_slice.result.now c.in-Some.rows.now c.in-Some.first.now c.in-Ok.ensures c.as_slice.ensures.value c.in-Some.ensures.cases.0 (sym c.is_header.ensures ∙ c.if-not-is_header.false) in
    let one : c.in-Some.rows.now ≡ c.row-item.result ∷ [] = one_is c.in-Some.rows.now c.row-item.result (omega arith) (omega arith) c.row-item.is in
    one_row c.args.bytes.now (fields_of c.row-item.result) c.in-Ok-design_of_row.design (subst (λ (r : List Row). HasRows c.args.bytes.now (map fields_of r)) one rows) c.in-Ok-design_of_row.ensures

pub returns-clause-many_rows : goal.returns-clause-many_rows
returns-clause-many_rows c = λ _.
    let rows = rows_behind c.args.bytes.now c.in-Ok.records.items c.as_slice.result.now c.in-Some.rows.now c.in-Some.first.now c.in-Ok.ensures c.as_slice.ensures.value c.in-Some.ensures.cases.0 (sym c.is_header.ensures ∙ c.if-not-is_header.false) in
    many_rows c.args.bytes.now c.in-Some.rows.now rows (omega arith)

pub returns-in-Ok-design_of_row-clause-few : goal.returns-in-Ok-design_of_row-clause-few
returns-in-Ok-design_of_row-clause-few c = few_rows (fields_of c.row-item.result) c.in-Ok-design_of_row.design c.in-Ok-design_of_row.ensures
