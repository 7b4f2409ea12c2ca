-- No file has two answers.
use Rattle.std.proofs.Common.{◌≡◌, ◌∙◌, ℕ, zero, suc, ◌≤◌, List, [], ◌∷◌, length, Some, refl, sym, ap, subst, inl, inr, arith}
use Rattle.std.specs.Prelude.{⊤}
use Rattle.std.proofs.lemmas.Bool.{cases_order}
use Rattle.texts.proofs.Parsers.{some_is}
use Rattle.order_reader.specs.Records.{Fields}
use Rattle.order_reader.specs.declared.rows.Row.{Row}
use Rattle.case_design.specs.declared.briefs.Brief.{Brief}
use Rattle.case_design.specs.declared.sizes.Size.{Size}
use Rattle.case_design.specs.declared.faults.DesignFault.{DesignFault}
use Rattle.case_design.specs.declared.faults.DesignFault.TheVariants.{FieldCount, BadId, BadNumber, OutOfRange, NoSize, TooManySizes}
use Rattle.case_design.specs.declared.designs.Design.{Design}
use Rattle.case_design.specs.declared.designs.Design.TheVariants.{Nothing, Refused, Rows}
use Rattle.case_design.specs.Columns.{header, number_in, HasNumber, HasNumberInRange}
use Rattle.case_design.specs.Briefs.{HasForm, HasNumbers, HasRanges, IsLeftmostWithout, IsBriefOf}
use Rattle.case_design.specs.Sizes.{IsSize, AreSizes, size_rows}
use Rattle.case_design.specs.Designs.{HasFault, GivesRows, HasRows, IsDesignOf, IsRefused, IsAccepted}
use Rattle.case_design.specs.Laws.{SayTheSame, FilesHaveOneAnswer}
use Rattle.case_design.proofs.ColumnFacts.{number_there}
use Rattle.case_design.proofs.SizeLists.{lists_are_one}

-- ---- a row has one brief, and one list of sizes

one_number : (row : Fields) (column m n : ℕ) → number_in row column ≡ Some m → number_in row column ≡ Some n → m ≡ n
one_number row column m n is other = some_is m n (sym is ∙ other)

abbrev brief_with : ℕ → ℕ → ℕ → ℕ → ℕ → ℕ → ℕ → Brief
brief_with pallet_x pallet_y long_from long_to short_from short_to least_area = record {
  pallet_x = pallet_x;
  pallet_y = pallet_y;
  long_from = long_from;
  long_to = long_to;
  short_from = short_from;
  short_to = short_to;
  least_area = least_area;
}

by_sides : (a a' b b' c c' d d' e e' f f' g g' : ℕ) → a ≡ a' → b ≡ b' → c ≡ c' → d ≡ d' → e ≡ e' → f ≡ f' → g ≡ g' → brief_with a b c d e f g ≡ brief_with a' b' c' d' e' f' g'
by_sides a a' b b' c c' d d' e e' f f' g g' p q r s t u v =
    ap (λ (n : ℕ). brief_with n b c d e f g) p
    ∙ ap (λ (n : ℕ). brief_with a' n c d e f g) q
    ∙ ap (λ (n : ℕ). brief_with a' b' n d e f g) r
    ∙ ap (λ (n : ℕ). brief_with a' b' c' n e f g) s
    ∙ ap (λ (n : ℕ). brief_with a' b' c' d' n f g) t
    ∙ ap (λ (n : ℕ). brief_with a' b' c' d' e' n g) u
    ∙ ap (λ (n : ℕ). brief_with a' b' c' d' e' f' n) v

brief_is_one : (row : Fields) (b c : Brief) → IsBriefOf row b → IsBriefOf row c → b ≡ c
brief_is_one row b c f g =
    by_sides b.pallet_x c.pallet_x b.pallet_y c.pallet_y b.long_from c.long_from b.long_to c.long_to b.short_from c.short_from b.short_to c.short_to b.least_area c.least_area
    (one_number row 2 b.pallet_x c.pallet_x f.pallet_x g.pallet_x)
    (one_number row 3 b.pallet_y c.pallet_y f.pallet_y g.pallet_y)
    (one_number row 4 b.long_from c.long_from f.long_from g.long_from)
    (one_number row 5 b.long_to c.long_to f.long_to g.long_to)
    (one_number row 6 b.short_from c.short_from f.short_from g.short_from)
    (one_number row 7 b.short_to c.short_to f.short_to g.short_to)
    (one_number row 8 b.least_area c.least_area f.least_area g.least_area)

-- the sizes of the brief of a row
record HasSizes (row : Fields) (sizes : List Size) : Type 0 where
  pub brief : Brief
  pub is_brief : IsBriefOf row brief
  pub are_sizes : AreSizes brief sizes

sizes_are_one : (row : Fields) (sizes others : List Size) → HasSizes row sizes → HasSizes row others → sizes ≡ others
sizes_are_one row sizes others f g =
    lists_are_one (IsSize g.brief) sizes others (subst (λ (b : Brief). AreSizes b sizes) (brief_is_one row f.brief g.brief f.is_brief g.is_brief) f.are_sizes) g.are_sizes

-- ---- how many of the six tests a row passes, one after another

record HasSome (row : Fields) : Type 0 where
  pub sizes : List Size
  pub has_sizes : HasSizes row sizes
  pub some : 1 ≤ length sizes

record HasFew (row : Fields) : Type 0 where
  pub sizes : List Size
  pub has_sizes : HasSizes row sizes
  pub some : 1 ≤ length sizes
  pub few : length sizes ≤ 256

abbrev Passes : Fields → ℕ → Type 0
Passes row zero = ⊤
Passes row (suc zero) = length row ≡ 8
Passes row (suc (suc zero)) = HasForm row
Passes row (suc (suc (suc zero))) = HasNumbers row
Passes row (suc (suc (suc (suc zero)))) = HasRanges row
Passes row (suc (suc (suc (suc (suc zero))))) = HasSome row
Passes row (suc (suc (suc (suc (suc (suc n)))))) = HasFew row

one_fewer : (row : Fields) (n : ℕ) → Passes row (suc n) → Passes row n
one_fewer row zero p = tt
one_fewer row (suc zero) p = p.eight
one_fewer row (suc (suc zero)) p = p.form
one_fewer row (suc (suc (suc zero))) p = record { form = p.form; each = λ column is. number_there row column (p.each column is) }
one_fewer row (suc (suc (suc (suc zero)))) p = p.has_sizes.is_brief.ranges
one_fewer row (suc (suc (suc (suc (suc zero))))) p = record { sizes = p.sizes; has_sizes = p.has_sizes; some = p.some }
one_fewer row (suc (suc (suc (suc (suc (suc n)))))) p = p

fewer : (row : Fields) (m n : ℕ) → m ≤ n → Passes row n → Passes row m
fewer row zero n le p = tt
fewer row (suc m) zero le p = absurd (omega arith)
fewer row (suc m) (suc n) le p = elim (cases_order m n) [
  | inl same ↦ subst (λ (k : ℕ). Passes row (suc k)) (sym same) p
  | inr other ↦ elim other [
    | inl below ↦ fewer row (suc m) n (omega arith) (one_fewer row n p)
    | inr above ↦ absurd (omega arith)
  ]
]

-- the tests before the one that names the fault
abbrev tests_before : DesignFault → ℕ
tests_before FieldCount = 0
tests_before BadId = 1
tests_before (BadNumber column) = 2
tests_before (OutOfRange column) = 3
tests_before NoSize = 4
tests_before TooManySizes = 5

-- the row passes these, and not the next
passed : (row : Fields) (fault : DesignFault) → HasFault row fault → Passes row (tests_before fault)
passed row FieldCount h = tt
passed row BadId h = h.0
passed row (BadNumber column) h = h.0
passed row (OutOfRange column) h = h.0
passed row NoSize h = h.is_brief.ranges
passed row TooManySizes h = record { sizes = h.sizes; has_sizes = record { brief = h.brief; is_brief = h.is_brief; are_sizes = h.are_sizes }; some = let many = h.many in omega arith }

not_passed : (row : Fields) (fault : DesignFault) → HasFault row fault → Passes row (suc (tests_before fault)) → ⊥
not_passed row FieldCount h p = h p
not_passed row BadId h p = let good = p.id in let bad = h.1 in absurd cc
not_passed row (BadNumber column) h p = h.1.without (p.each column h.1.number_column)
not_passed row (OutOfRange column) h p = h.1.without (p.each column h.1.number_column)
not_passed row NoSize h p =
    let same = sizes_are_one row [] p.sizes (record { brief = h.brief; is_brief = h.is_brief; are_sizes = h.none }) p.has_sizes in
    let some = p.some in
    absurd (omega (arith, ap length same))
not_passed row TooManySizes h p =
    let same = sizes_are_one row h.sizes p.sizes (record { brief = h.brief; is_brief = h.is_brief; are_sizes = h.are_sizes }) p.has_sizes in
    let few = p.few in
    let many = h.many in
    absurd (omega (arith, ap length same))

same_tests : (row : Fields) (f g : DesignFault) → HasFault row f → HasFault row g → tests_before f ≡ tests_before g
same_tests row f g h k = elim (cases_order (tests_before f) (tests_before g)) [
  | inl same ↦ same
  | inr other ↦ elim other [
    | inl below ↦ absurd (not_passed row f h (fewer row (suc (tests_before f)) (tests_before g) (omega arith) (passed row g k)))
    | inr above ↦ absurd (not_passed row g k (fewer row (suc (tests_before g)) (tests_before f) (omega arith) (passed row f h)))
  ]
]

-- ---- and the column is one too

leftmost_is_one : (Has : ℕ → Type 0) (c d : ℕ) → IsLeftmostWithout Has c → IsLeftmostWithout Has d → c ≡ d
leftmost_is_one Has c d f g = elim (cases_order c d) [
  | inl same ↦ same
  | inr other ↦ elim other [
    | inl below ↦ absurd (f.without (g.left c (f.number_column.0) below))
    | inr above ↦ absurd (g.without (f.left d (g.number_column.0) above))
  ]
]

-- the column that a fault names, or 0
abbrev column_of : DesignFault → ℕ
column_of FieldCount = 0
column_of BadId = 0
column_of (BadNumber column) = column
column_of (OutOfRange column) = column
column_of NoSize = 0
column_of TooManySizes = 0

-- the column, by the tests before the fault
abbrev Names : Fields → ℕ → ℕ → Type 0
Names row zero column = column ≡ 0
Names row (suc zero) column = column ≡ 0
Names row (suc (suc zero)) column = IsLeftmostWithout (HasNumber row) column
Names row (suc (suc (suc zero))) column = IsLeftmostWithout (HasNumberInRange row) column
Names row (suc (suc (suc (suc n)))) column = column ≡ 0

names : (row : Fields) (fault : DesignFault) → HasFault row fault → Names row (tests_before fault) (column_of fault)
names row FieldCount h = refl
names row BadId h = refl
names row (BadNumber column) h = h.1
names row (OutOfRange column) h = h.1
names row NoSize h = refl
names row TooManySizes h = refl

names_one : (row : Fields) (n c d : ℕ) → Names row n c → Names row n d → c ≡ d
names_one row zero c d f g = f ∙ sym g
names_one row (suc zero) c d f g = f ∙ sym g
names_one row (suc (suc zero)) c d f g = leftmost_is_one (HasNumber row) c d f g
names_one row (suc (suc (suc zero))) c d f g = leftmost_is_one (HasNumberInRange row) c d f g
names_one row (suc (suc (suc (suc n)))) c d f g = f ∙ sym g

fault_by : ℕ → ℕ → DesignFault
fault_by zero column = FieldCount
fault_by (suc zero) column = BadId
fault_by (suc (suc zero)) column = BadNumber column
fault_by (suc (suc (suc zero))) column = OutOfRange column
fault_by (suc (suc (suc (suc zero)))) column = NoSize
fault_by (suc (suc (suc (suc (suc n))))) column = TooManySizes

fault_back : (fault : DesignFault) → fault_by (tests_before fault) (column_of fault) ≡ fault
unfolding fault_by
fault_back FieldCount = refl
fault_back BadId = refl
fault_back (BadNumber column) = refl
fault_back (OutOfRange column) = refl
fault_back NoSize = refl
fault_back TooManySizes = refl

fault_is_one : (row : Fields) (f g : DesignFault) → HasFault row f → HasFault row g → f ≡ g
fault_is_one row f g h k =
    let tests = same_tests row f g h k in
    let column = names_one row (tests_before g) (column_of f) (column_of g) (subst (λ (n : ℕ). Names row n (column_of f)) tests (names row f h)) (names row g k) in
    sym (fault_back f) ∙ ap (λ (n : ℕ). fault_by n (column_of f)) tests ∙ ap (fault_by (tests_before g)) column ∙ fault_back g

-- ---- what a row gives

own_sizes : (row : Fields) (id : List ℕ) (rows : List Row) (g : GivesRows row id rows) → HasSizes row g.sizes
own_sizes row id rows g = record { brief = g.brief; is_brief = g.is_brief; are_sizes = g.are_sizes }

has_few : (row : Fields) (id : List ℕ) (rows : List Row) → GivesRows row id rows → HasFew row
has_few row id rows g = record { sizes = g.sizes; has_sizes = own_sizes row id rows g; some = g.some; few = g.few }

few_before : (fault : DesignFault) → tests_before fault ≤ 5
few_before FieldCount = omega arith
few_before BadId = omega arith
few_before (BadNumber column) = omega arith
few_before (OutOfRange column) = omega arith
few_before NoSize = omega arith
few_before TooManySizes = omega arith

gives_or_fault : (row : Fields) (fault : DesignFault) (id : List ℕ) (rows : List Row) → GivesRows row id rows → HasFault row fault → ⊥
gives_or_fault row fault id rows g h = not_passed row fault h (fewer row (suc (tests_before fault)) 6 (omega (arith, few_before fault)) (has_few row id rows g))

gives_one : (row : Fields) (i j : List ℕ) (r s : List Row) → GivesRows row i r → GivesRows row j s → (i ≡ j) × (r ≡ s)
gives_one row i j r s g h =
    let id : i ≡ j = g.is_id ∙ sym h.is_id in
    let brief = brief_is_one row g.brief h.brief g.is_brief h.is_brief in
    let sizes = sizes_are_one row g.sizes h.sizes (own_sizes row i r g) (own_sizes row j s h) in
    (id, g.are_rows ∙ ap (λ (k : List ℕ). size_rows k g.brief g.sizes) id ∙ ap (λ (b : Brief). size_rows j b g.sizes) brief ∙ ap (size_rows j h.brief) sizes ∙ sym h.are_rows)

-- ---- what a file has

rows_are_one : (bytes : List ℕ) (rows others : List Fields) → HasRows bytes rows → HasRows bytes others → rows ≡ others
rows_are_one bytes rows others f g = let both : header ∷ rows ≡ header ∷ others = sym f ∙ g in cc

one_row : (row other : Fields) → row ∷ [] ≡ other ∷ [] → row ≡ other
one_row row other same = cc

none_or_one : (row : Fields) → [] ≡ row ∷ [] → ⊥
none_or_one row same = absurd cc

row_is_one : (bytes : List ℕ) (row other : Fields) → HasRows bytes (row ∷ []) → HasRows bytes (other ∷ []) → other ≡ row
row_is_one bytes row other f g = one_row other row (rows_are_one bytes (other ∷ []) (row ∷ []) g f)

no_row : (bytes : List ℕ) (row : Fields) → HasRows bytes [] → HasRows bytes (row ∷ []) → ⊥
no_row bytes row f g = none_or_one row (rows_are_one bytes [] (row ∷ []) f g)

refused_or_rows : (bytes : List ℕ) (fault : DesignFault) (id : List ℕ) (rows : List Row) → IsRefused bytes fault → IsAccepted bytes id rows → ⊥
refused_or_rows bytes fault id rows a b =
    gives_or_fault b.row fault id rows b.gives (subst (λ (r : Fields). HasFault r fault) (row_is_one bytes b.row a.row b.has_row a.has_row) a.has_fault)

one : (bytes : List ℕ) (a b : Design) → IsDesignOf bytes a → IsDesignOf bytes b → SayTheSame a b
one bytes Nothing Nothing f g = tt
one bytes Nothing (Refused fault) f g = absurd (no_row bytes g.row f g.has_row)
one bytes Nothing (Rows id rows) f g = absurd (no_row bytes g.row f g.has_row)
one bytes (Refused fault) Nothing f g = absurd (no_row bytes f.row g f.has_row)
one bytes (Refused fault) (Refused other) f g =
    fault_is_one g.row fault other (subst (λ (r : Fields). HasFault r fault) (row_is_one bytes g.row f.row g.has_row f.has_row) f.has_fault) g.has_fault
one bytes (Refused fault) (Rows id rows) f g = absurd (refused_or_rows bytes fault id.items rows.items f g)
one bytes (Rows id rows) Nothing f g = absurd (no_row bytes f.row g f.has_row)
one bytes (Rows id rows) (Refused fault) f g = absurd (refused_or_rows bytes fault id.items rows.items g f)
one bytes (Rows i r) (Rows j s) f g =
    gives_one g.row i.items j.items r.items s.items (subst (λ (row : Fields). GivesRows row i.items r.items) (row_is_one bytes g.row f.row g.has_row f.has_row) f.gives) g.gives

-- the one row or none of a design
record HasAtMostOne (bytes : List ℕ) : Type 0 where
  pub rows : List Fields
  pub has_rows : HasRows bytes rows
  pub few : length rows ≤ 1

at_most_one : (bytes : List ℕ) (a : Design) → IsDesignOf bytes a → HasAtMostOne bytes
at_most_one bytes Nothing f = record { rows = []; has_rows = f; few = omega arith }
at_most_one bytes (Refused fault) f = record { rows = f.row ∷ []; has_rows = f.has_row; few = omega arith }
at_most_one bytes (Rows id rows) f = record { rows = f.row ∷ []; has_rows = f.has_row; few = omega arith }

pub one_answer : FilesHaveOneAnswer
one_answer bytes = record {
  one = one bytes;
  header = λ a f none. let m = at_most_one bytes a f in none m.rows m.has_rows;
  rows = λ a f many. let m = at_most_one bytes a f in let few = m.few in let more = many.many in absurd (omega (arith, ap length (rows_are_one bytes m.rows many.rows m.has_rows many.has_rows)));
  stop = λ many none. none many.rows many.has_rows;
}
