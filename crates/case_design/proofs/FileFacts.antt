-- The header of a file, and the rows behind it.
use Rattle.std.proofs.Common.{◌≡◌, ◌∙◌, ℕ, ◌≤◌, ◌<◌, true, false, List, [], ◌∷◌, length, map, get_or, refl, sym, ap, arith}
use Rattle.std.proofs.lemmas.List.{length-map}
use Rattle.std.proofs.lemmas.Slice.Eq.{bytes_eq-Decides, slice_eq-Decides}
use Rattle.csv.specs.Records.{Row, fields_of}
use Rattle.order_reader.specs.Records.{Fields, records_of}
use Rattle.order_reader.specs.Columns.{same_fields}
use Rattle.case_design.specs.declared.designs.Design.{Design}
use Rattle.case_design.specs.declared.designs.Design.TheVariants.{Nothing, Refused, Rows}
use Rattle.case_design.specs.Columns.{header}
use Rattle.case_design.specs.Designs.{HasRows, IsDesignOf, IsDesignOfRow, HasNoHeader, HasManyRows, rows_in}
use Rattle.case_design.specs.declared.sizes.Size.{Size}
use Rattle.case_design.specs.Sizes.{size_row}
use Rattle.std.specs.List.{enumerate_from}
use Rattle.std.proofs.lemmas.List.FromFn.{length-enumerate_from}

-- the first record, and those behind it
pub all_records : (bytes : List ℕ) (records slice rows : List Row) (first : Row) → map fields_of records ≡ records_of bytes → slice ≡ records → slice ≡ first ∷ rows → records_of bytes ≡ fields_of first ∷ map fields_of rows
all_records bytes records slice rows first read same split = sym read ∙ ap (map fields_of) (sym same ∙ split)

fields_same : (a b : Fields) → same_fields a b ≡ true → a ≡ b
fields_same a b is = (slice_eq-Decides bytes_eq-Decides a b (same_fields a b) refl).0 is

same_itself : (a b : Fields) → a ≡ b → same_fields a b ≡ true
same_itself a b is = (slice_eq-Decides bytes_eq-Decides a b (same_fields a b) refl).1 is

pub no_header : (bytes : List ℕ) (first : Fields) (rest : List Fields) → records_of bytes ≡ first ∷ rest → same_fields first header ≡ false → HasNoHeader bytes
no_header bytes first rest all other = λ rows has.
    let both : first ∷ rest ≡ header ∷ rows = sym all ∙ has in
    let same : first ≡ header = cc in
    let is = same_itself first header same in
    absurd cc

pub has_rows : (bytes : List ℕ) (first : Fields) (rest : List Fields) → records_of bytes ≡ first ∷ rest → same_fields first header ≡ true → HasRows bytes rest
has_rows bytes first rest all is = all ∙ ap (λ (f : Fields). f ∷ rest) (fields_same first header is)

pub many_rows : (bytes : List ℕ) (rows : List Row) → HasRows bytes (map fields_of rows) → 2 ≤ length rows → HasManyRows bytes
many_rows bytes rows has many = record { rows = map fields_of rows; has_rows = has; many = omega (arith, length-map rows fields_of) }

pub one_row : (bytes : List ℕ) (row : Fields) (design : Design) → HasRows bytes (row ∷ []) → IsDesignOfRow row design → IsDesignOf bytes design
one_row bytes row Nothing has is = absurd is
one_row bytes row (Refused fault) has is = record { row = row; has_row = has; has_fault = is }
one_row bytes row (Rows id rows) has is = record { row = row; has_row = has; gives = is }

pub few_rows : (row : Fields) (design : Design) → IsDesignOfRow row design → length (rows_in design) ≤ 256
few_rows row Nothing is = absurd is
few_rows row (Refused fault) is = omega arith
few_rows row (Rows id rows) is =
    let few = is.few in
    let own = ap length is.are_rows in
    omega (arith, own, length-map (enumerate_from 1 is.sizes) (λ (p : ℕ × Size). size_row id.items is.brief p.0 p.1), length-enumerate_from 1 is.sizes)

-- ---- the same by what the code read

pub one_is : (rows : List Row) (row : Row) → 1 ≤ length rows → length rows < 2 → row ≡ get_or rows 0 row → rows ≡ row ∷ []
one_is [] row some few is = absurd (omega arith)
one_is (a ∷ []) row some few is = ap (λ (r : Row). r ∷ []) (sym is)
one_is (a ∷ b ∷ rows) row some few is = absurd (omega arith)

pub rows_behind : (bytes : List ℕ) (records slice rows : List Row) (first : Row) → map fields_of records ≡ records_of bytes → slice ≡ records → slice ≡ first ∷ rows → same_fields (fields_of first) header ≡ true → HasRows bytes (map fields_of rows)
rows_behind bytes records slice rows first read same split is =
    has_rows bytes (fields_of first) (map fields_of rows) (all_records bytes records slice rows first read same split) is
