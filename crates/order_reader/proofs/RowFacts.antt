-- The fields of a row, its header and its faults.
use Rattle.std.proofs.Common.{◌≡◌, ℕ, zero, suc, ◌+◌, ◌<◌, List, [], ◌∷◌, ◌++◌, length, map, drop, get_or, Some, None, refl, sym, ap, ◌∙◌, arith, add-one, drop-cons, true}
use Rattle.std.specs.Prelude.{not, find, ◌&&◌, codes}
use Rattle.std.specs.List.{enumerate_from}
use Rattle.std.specs.Str.{bytes_eq}
use Rattle.std.specs.Cmp.Lexicographic.{pointwise}
use Rattle.std.proofs.lemmas.Bool.Decides.{nat_tests}
use Rattle.csv.specs.Records.{field_at}
use Rattle.order_reader.specs.declared.fields.Field.{Field}
use Rattle.std.proofs.lemmas.List.{map-append, length-map}
use Rattle.std.proofs.lemmas.List.FromFn.{length-enumerate_from}
use Rattle.order_reader.specs.Records.{Fields, records_of}
use Rattle.order_reader.specs.Rows.{row_of, rows_of_records, rows_of}
use Rattle.order_reader.specs.Columns.{column_name, header_over, columns_under, same_fields, all_columns}
use Rattle.order_reader.specs.Orders.{order_with}
use Rattle.order_reader.specs.Faults.{first_of, is_id, id_in, id_fault, has_number, number_fault, value_under, order_in, field_count_fault, numbers_fault, range_fault, fit_fault, case_count_fault, order_fault, row_fault}
use Rattle.order_reader.proofs.OrderFacts.{first_of-next, first_of-none}

-- a field that is there
pub field-there : (fields : Fields) (at : ℕ) → at < length fields → field_at fields at ≡ None → ⊥
unfolding field_at
field-there [] at lt none = absurd (omega arith)
field-there (f ∷ fs) zero lt none = cc
field-there (f ∷ fs) (suc at) lt none = field-there fs at (omega arith) none

-- the fields from a place on begin with the field at the place
drop-field : (fields : Fields) (at : ℕ) (f : List ℕ) → field_at fields at ≡ Some f → drop at fields ≡ f ∷ drop (at + 1) fields
unfolding field_at
drop-field [] at f is = absurd (cc)
drop-field (g ∷ gs) zero f is = let e : g ≡ f = cc in ap (λ x. x ∷ gs) e
drop-field (g ∷ gs) (suc at) f is = rw (add-one (suc at)) (drop-field gs at f is ∙ rw (add-one at) refl)

-- a header begins with the column of the id
pub header-start : (fields : Fields) (columns : List Field) → length fields ≡ length columns + 1
    → same_fields fields (header_over columns) ≡ (bytes_eq (id_in fields) (codes "id") && pointwise bytes_eq (drop 1 fields) (map column_name columns))
unfolding field_at
header-start [] columns size = absurd (omega arith)
header-start (f ∷ fs) columns size = refl

-- one more field is compared with its column's name
pub header-more : (fields : Fields) (columns : List Field) (at : ℕ) (d : Field) (f : List ℕ) → at < length columns → field_at fields (at + 1) ≡ Some f
    → pointwise bytes_eq (drop (at + 1) fields) (map column_name (drop at columns))
    ≡ (bytes_eq f (column_name (get_or columns at d)) && pointwise bytes_eq (drop (at + 1 + 1) fields) (map column_name (drop (at + 1) columns)))
header-more fields columns at d f lt there = rw (drop-field fields (at + 1) f there, drop-cons columns at d, add-one at) refl

-- one more field is compared with what it is to be
pub fields-more : {X : Type 0} (text : X → List ℕ) (fields : Fields) (wanted : List X) (at : ℕ) (d : X) (f : List ℕ) → at < length wanted → field_at fields at ≡ Some f
    → pointwise bytes_eq (drop at fields) (map text (drop at wanted))
    ≡ (bytes_eq f (text (get_or wanted at d)) && pointwise bytes_eq (drop (at + 1) fields) (map text (drop (at + 1) wanted)))
fields-more text fields wanted at d f lt there = rw (drop-field fields at f there, drop-cons wanted at d, add-one at) refl

-- the elements so far and one more, each with its number
pub enumerate-more : {X : Type 0} (n : ℕ) (xs : List X) (x : X) → enumerate_from n (xs ++ x ∷ []) ≡ enumerate_from n xs ++ (n + length xs, x) ∷ []
enumerate-more n [] x = ap (λ (k : ℕ). (k, x) ∷ []) (omega arith)
enumerate-more n (y ∷ ys) x =
    let e : n + 1 + length ys ≡ n + length (y ∷ ys) = omega arith in
    ap (λ l. (n, y) ∷ l) (rw (← e) (enumerate-more (n + 1) ys x))

-- the rows so far and one more
pub rows-more : (columns : List Field) (records : List Fields) (fields : Fields)
    → rows_of_records columns (records ++ fields ∷ []) ≡ rows_of_records columns records ++ row_of columns (length records + 1) fields ∷ []
rows-more columns records fields =
    let number : 1 + length records ≡ length records + 1 = omega arith in
    rw (enumerate-more 1 records fields, map-append (λ (p : ℕ × Fields). row_of columns p.0 p.1) (enumerate_from 1 records) ((1 + length records, fields) ∷ []), number) refl

-- each record gives one row
pub rows-length : (columns : List Field) (records : List Fields) → length (rows_of_records columns records) ≡ length records
rows-length columns records = length-map (enumerate_from 1 records) (λ (p : ℕ × Fields). row_of columns p.0 p.1) ∙ length-enumerate_from 1 records

-- the rows of a file by its first record and the others
pub rows-are : (bytes : List ℕ) (first : Fields) (rest : List Fields) (columns : List Field) → records_of bytes ≡ first ∷ rest → columns_under first ≡ Some columns
    → rows_of bytes ≡ Some (rows_of_records columns rest)
rows-are bytes first rest columns all header = rw (all, header) refl

-- a row with all its fields, an id and numbers: what is left to test
pub row-numbers : (columns : List Field) (fields : Fields) (numbers : List ℕ) → length fields ≡ length columns + 1 → is_id (id_in fields) ≡ true
    → find (λ field. not (has_number fields field)) columns ≡ None → numbers ≡ map (value_under fields) all_columns
    → numbers_fault (order_with [] numbers) ≡ row_fault columns fields
row-numbers columns fields numbers size good none same =
    let count : field_count_fault columns fields ≡ None = rw size (grind (arith, nat_tests)) in
    let id : id_fault (order_in fields) ≡ None = rw good refl in
    let number : number_fault columns fields ≡ None = rw none refl in
    let o = order_in fields in
    let rest = range_fault o ∷ fit_fault o ∷ case_count_fault o ∷ [] in
    let skipped : row_fault columns fields ≡ first_of rest
    = first_of-next (field_count_fault columns fields) (id_fault o ∷ number_fault columns fields ∷ rest) count
    ∙ first_of-next (id_fault o) (number_fault columns fields ∷ rest) id
    ∙ first_of-next (number_fault columns fields) rest number in
    rw same (sym skipped)

-- a row without a fault is an order
pub row-order : (columns : List Field) (fields : Fields) → row_fault columns fields ≡ None → order_fault (order_in fields) ≡ None
row-order columns fields is =
    let o = order_in fields in
    let rest = range_fault o ∷ fit_fault o ∷ case_count_fault o ∷ [] in
    let first = first_of-none (field_count_fault columns fields) (id_fault o ∷ number_fault columns fields ∷ rest) is in
    let second = first_of-none (id_fault o) (number_fault columns fields ∷ rest) first.1 in
    let third = first_of-none (number_fault columns fields) rest second.1 in
    first_of-next (id_fault o) rest second.0 ∙ third.1

pub numbers-twelve : (fields : Fields) → length (order_in fields).numbers ≡ 12
unfolding all_columns
numbers-twelve fields = refl
