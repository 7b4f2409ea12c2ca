use Rattle.std.proofs.Common.{rules, refl, sym, ◌≡◌, ◌∙◌, ℕ, Bool, List, [], length, Bor, Some, true, false, get_or, arith}
use Rattle.std.specs.Prelude.{not}
use Rattle.std.specs.Str.{bytes_eq}
use Rattle.csv.specs.Records.{fields_of, field_at}
use Rattle.order_reader.proofs.RowFacts.{field-there, fields-more}
use Rattle.order_reader.proofs.records.has_fields.Goals as goal

abbrev text : Bor (List ℕ) → List ℕ
text f = f.now

abbrev none : Bor (List ℕ)
none = record { ref_ptr = (0, 0); now = [] }

differ : (a b : List ℕ) (answer : Bool) → answer ≡ not (bytes_eq a b) → answer ≡ true → bytes_eq a b ≡ false
differ a b answer is told = search rules

same : (a b : List ℕ) (answer : Bool) → answer ≡ not (bytes_eq a b) → answer ≡ false → bytes_eq a b ≡ true
same a b answer is told = search rules

pub returns-in_default : goal.returns-in_default
returns-in_default c =
    let fields = fields_of c.args.fields.now in
    let size : length fields ≡ length c.args.wanted.now = sym c.len.ensures ∙ c.if-len-wanted.false in
    let absent = rw c.in_default.is at c.get.ensures.value in
    absurd (field-there fields c.loop-place.place (omega arith) (sym absent))

pub returns-then-ne : goal.returns-then-ne
returns-then-ne c =
    let fields = fields_of c.args.fields.now in
    let there : field_at fields c.loop-place.place ≡ Some c.in-Some.text.now = sym (rw c.in-Some.is at c.get.ensures.value) in
    let step = fields-more text fields c.args.wanted.now c.loop-place.place none c.in-Some.text.now c.loop-place-test.true there in
    let own = differ c.in-Some.text.now (get_or c.args.wanted.now c.loop-place.place none).now c.ne.result c.ne.ensures c.if-ne.true in
    sym (c.loop-place.invariant ∙ step ∙ rw own refl)

pub loop-place-preserved : goal.loop-place-preserved
loop-place-preserved c =
    let fields = fields_of c.args.fields.now in
    let there : field_at fields c.loop-place.place ≡ Some c.in-Some.text.now = sym (rw c.in-Some.is at c.get.ensures.value) in
    let step = fields-more text fields c.args.wanted.now c.loop-place.place none c.in-Some.text.now c.loop-place-test.true there in
    let own = same c.in-Some.text.now (get_or c.args.wanted.now c.loop-place.place none).now c.ne.result c.ne.ensures c.if-ne.false in
    c.loop-place.invariant ∙ step ∙ rw own refl
