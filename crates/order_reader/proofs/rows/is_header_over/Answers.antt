use Rattle.std.proofs.Common.{rules, refl, sym, ◌≡◌, ◌∙◌, ◌+◌, length, Some, true, false, arith}
use Rattle.std.specs.Prelude.{codes}
use Rattle.std.specs.Str.{bytes_eq}
use Rattle.csv.specs.Records.{fields_of, field_at}
use Rattle.order_reader.specs.declared.fields.Field.TheVariants.{PalletX}
use Rattle.order_reader.specs.Faults.{id_in}
use Rattle.order_reader.proofs.RowFacts.{field-there, header-start, header-more}
use Rattle.order_reader.proofs.rows.is_header_over.Goals as goal

pub returns-then-ne : goal.returns-then-ne
returns-then-ne c =
    let fields = fields_of c.args.fields.now in
    let size : length fields ≡ length c.args.columns.now + 1 = sym c.len.ensures ∙ c.if-len-columns.false in
    let differ : bytes_eq c.id_of.result.now c.as_slice.result.now ≡ false = search rules in
    let own : bytes_eq (id_in fields) (codes "id") ≡ false = rw (c.id_of.ensures, c.as_slice.ensures) at differ in
    sym (header-start fields c.args.columns.now size ∙ rw own refl)

pub loop-place-init : goal.loop-place-init
loop-place-init c =
    let fields = fields_of c.args.fields.now in
    let size : length fields ≡ length c.args.columns.now + 1 = sym c.len.ensures ∙ c.if-len-columns.false in
    let same : bytes_eq c.id_of.result.now c.as_slice.result.now ≡ true = search rules in
    let own : bytes_eq (id_in fields) (codes "id") ≡ true = rw (c.id_of.ensures, c.as_slice.ensures) at same in
    header-start fields c.args.columns.now size ∙ rw own refl

pub returns-in_default : goal.returns-in_default
returns-in_default c =
    let fields = fields_of c.args.fields.now in
    let size : length fields ≡ length c.args.columns.now + 1 = sym c.len.ensures ∙ c.if-len-columns.false in
    let none = rw c.in_default.is at c.get.ensures.value in
    absurd (field-there fields (c.loop-place.place + 1) (omega arith) (sym none))

pub returns-then-ne-2 : goal.returns-then-ne-2
returns-then-ne-2 c =
    let fields = fields_of c.args.fields.now in
    let there : field_at fields (c.loop-place.place + 1) ≡ Some c.in-Some.text.now = sym (rw c.in-Some.is at c.get.ensures.value) in
    let step = header-more fields c.args.columns.now c.loop-place.place PalletX c.in-Some.text.now c.loop-place-test.true there in
    let differ : bytes_eq c.in-Some.text.now c.as_bytes.result.now ≡ false = search rules in
    let own = rw (c.as_bytes.ensures.value, c.name.ensures) at differ in
    sym (c.loop-place.invariant ∙ step ∙ rw own refl)

pub loop-place-preserved : goal.loop-place-preserved
loop-place-preserved c =
    let fields = fields_of c.args.fields.now in
    let there : field_at fields (c.loop-place.place + 1) ≡ Some c.in-Some.text.now = sym (rw c.in-Some.is at c.get.ensures.value) in
    let step = header-more fields c.args.columns.now c.loop-place.place PalletX c.in-Some.text.now c.loop-place-test.true there in
    let same : bytes_eq c.in-Some.text.now c.as_bytes.result.now ≡ true = search rules in
    let own = rw (c.as_bytes.ensures.value, c.name.ensures) at same in
    c.loop-place.invariant ∙ step ∙ rw own refl
