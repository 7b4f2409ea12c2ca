-- The row of a size is that of the order for its cases.
use Rattle.std.proofs.Common.{◌≡◌, ℕ, ◌-◌, ◌≤◌, min, max, Bool, true, false, List, [], ◌∷◌, map, Option, Some, None, refl, sym, ap, ◌∙◌, arith}
use Rattle.std.specs.Prelude.{decimal, unwrap_or, not, find, is_some, option_map, nat_le, ◌&&◌}
use Rattle.std.specs.List.{AllByRecursion}
use Rattle.std.proofs.lemmas.Bool.Decides.{nat_tests}
use Rattle.csv.specs.Records.{field_at}
use Rattle.plan_io.specs.Numbers.{number_of}
use Rattle.plan_io.proofs.NumberTexts.{number_back}
use Rattle.order_reader.specs.Records.{Fields}
use Rattle.order_reader.specs.Columns.{all_columns}
use Rattle.order_reader.specs.Orders.{OrderValue, order_with}
use Rattle.order_reader.specs.Faults.{first_of, order_in, order_fault, row_fault, sides_fault, id_in, is_id, id_fault, has_number, number_fault, is_in_range, range_fault, fit_fault, case_count_fault, field_count_fault}
use Rattle.order_reader.specs.Rows.{row_with, row_of}
use Rattle.order_reader.specs.declared.faults.RowFault.{RowFault}
use Rattle.order_reader.specs.declared.faults.RowFault.TheVariants.{BadNumber, OutOfRange}
use Rattle.order_reader.proofs.OrderFacts.{first_of-next}
use Rattle.case_design.specs.declared.briefs.Brief.{Brief}
use Rattle.case_design.specs.declared.sizes.Size.{Size}
use Rattle.case_design.specs.Briefs.{IsBriefOf}
use Rattle.case_design.specs.Sizes.{IsSize, size_numbers, size_row}
use Rattle.case_design.specs.Laws.{row_with_fault, size_order, SizeRowsAreOrders}
use Rattle.case_design.proofs.ColumnFacts.{number_within}

-- ---- the fields of a size's row are read as the numbers that they were made of

both : {X : Type 0} (x y : X) (xs ys : List X) → x ≡ y → xs ≡ ys → x ∷ xs ≡ y ∷ ys
both x y xs ys e f = cc

value_back : (n : ℕ) → n ≤ 9999999999 → unwrap_or (number_of (decimal n)) 0 ≡ n
value_back n le = ap (λ (o : Option ℕ). unwrap_or o 0) (number_back n le)

number_there : (n : ℕ) → n ≤ 9999999999 → not (is_some (number_of (decimal n))) ≡ false
number_there n le = ap (λ (o : Option ℕ). not (is_some o)) (number_back n le)

abbrev size_fields : List ℕ → Brief → Size → Fields
size_fields id brief size = id ∷ map decimal (size_numbers brief size)

-- the numbers of a size's row have at most ten digits each
pub record IsWritten (brief : Brief) (size : Size) : Type 0 where
  pub pallet_x : brief.pallet_x ≤ 9999999999
  pub pallet_y : brief.pallet_y ≤ 9999999999
  pub long : size.long ≤ 9999999999
  pub short : size.short ≤ 9999999999

order_back : (id : List ℕ) (brief : Brief) (size : Size) → IsWritten brief size → order_in (size_fields id brief size) ≡ size_order id brief size
unfolding all_columns field_at
order_back id brief size w =
    ap (order_with id)
    (both _ _ _ _ (value_back brief.pallet_x w.pallet_x)
    (both _ _ _ _ (value_back brief.pallet_y w.pallet_y)
    (both _ _ _ _ (value_back size.long w.long)
    (both _ _ _ _ (value_back size.short w.short)
    (both _ _ _ _ (value_back 1 (omega arith))
    (both _ _ _ _ (value_back 1 (omega arith))
    (both _ _ _ _ (value_back 1 (omega arith))
    (both _ _ _ _ (value_back 100000000 (omega arith))
    (both _ _ _ _ (value_back 0 (omega arith))
    (both _ _ _ _ (value_back 0 (omega arith))
    (both _ _ _ _ (value_back 100 (omega arith))
    (both _ _ _ _ (value_back 0 (omega arith)) refl))))))))))))

find_none : {X : Type 0} (p : X → Bool) (xs : List X) → AllByRecursion (λ x. p x ≡ false) xs → find p xs ≡ None
find_none p [] all = refl
find_none p (x ∷ xs) all = rw all.0 (find_none p xs all.1)

numbers_there : (id : List ℕ) (brief : Brief) (size : Size) → IsWritten brief size → number_fault all_columns (size_fields id brief size) ≡ None
unfolding all_columns field_at
numbers_there id brief size w =
    ap (option_map (λ field. BadNumber field)) (find_none (λ field. not (has_number (size_fields id brief size) field)) all_columns (
      number_there brief.pallet_x w.pallet_x,
      (
        number_there brief.pallet_y w.pallet_y,
        (
          number_there size.long w.long,
          (
            number_there size.short w.short,
            (
              number_there 1 (omega arith),
              (
                number_there 1 (omega arith),
                (
                  number_there 1 (omega arith),
                  (
                    number_there 100000000 (omega arith),
                    (number_there 0 (omega arith), (number_there 0 (omega arith), (number_there 100 (omega arith), (number_there 0 (omega arith), tt)))),
                  ),
                ),
              ),
            ),
          ),
        ),
      ),
    ))

fields_there : (id : List ℕ) (brief : Brief) (size : Size) → field_count_fault all_columns (size_fields id brief size) ≡ None
unfolding all_columns
fields_there id brief size = refl

skip_second : (first second : Option RowFault) (tests : List (Option RowFault)) → second ≡ None → first_of (first ∷ second ∷ tests) ≡ first_of (first ∷ tests)
skip_second None second tests none = first_of-next second tests none
skip_second (Some fault) second tests none = refl

fault_back : (id : List ℕ) (brief : Brief) (size : Size) → IsWritten brief size → row_fault all_columns (size_fields id brief size) ≡ order_fault (order_in (size_fields id brief size))
fault_back id brief size w =
    let fields = size_fields id brief size in
    let o = order_in fields in
    let rest = range_fault o ∷ fit_fault o ∷ case_count_fault o ∷ [] in
    first_of-next (field_count_fault all_columns fields) (id_fault o ∷ number_fault all_columns fields ∷ rest) (fields_there id brief size)
    ∙ skip_second (id_fault o) (number_fault all_columns fields) rest (numbers_there id brief size w)

by_fault : (number : ℕ) (fields : Fields) (fault : Option RowFault) → row_with number fields fault ≡ row_with_fault number (order_in fields) fault
by_fault number fields None = refl
by_fault number fields (Some fault) = refl

-- the row of a size, by the tests of the order for its cases
pub row_back : (id : List ℕ) (brief : Brief) (number : ℕ) (size : Size) → IsWritten brief size → size_row id brief number size ≡ row_with_fault number (size_order id brief size) (order_fault (size_order id brief size))
unfolding row_of
row_back id brief number size w =
    let fields = size_fields id brief size in
    ap (row_with number fields) (fault_back id brief size w)
    ∙ by_fault number fields (order_fault (order_in fields))
    ∙ ap (λ (o : OrderValue). row_with_fault number o (order_fault o)) (order_back id brief size w)

-- ---- a size of a brief passes the tests of the id and of the ranges

within : (least own greatest : ℕ) → least ≤ own → own ≤ greatest → not (nat_le least own && nat_le own greatest) ≡ false
within least own greatest from to = grind (arith, nat_tests)

-- the four numbers that a brief and its size give an order
record HasOrderSides (brief : Brief) (size : Size) : Type 0 where
  pub pallet_x : (1 ≤ brief.pallet_x) × (brief.pallet_x ≤ 4000)
  pub pallet_y : (1 ≤ brief.pallet_y) × (brief.pallet_y ≤ 4000)
  pub long : (1 ≤ size.long) × (size.long ≤ 4000)
  pub short : (1 ≤ size.short) × (size.short ≤ 4000)

order_sides : (row : Fields) (brief : Brief) (size : Size) → IsBriefOf row brief → IsSize brief size → HasOrderSides brief size
order_sides row brief size b s =
    let long_from = number_within row 4 brief.long_from (b.ranges.each 4 (omega arith, omega arith)) b.long_from in
    let long_to = number_within row 5 brief.long_to (b.ranges.each 5 (omega arith, omega arith)) b.long_to in
    let short_from = number_within row 6 brief.short_from (b.ranges.each 6 (omega arith, omega arith)) b.short_from in
    let short_to = number_within row 7 brief.short_to (b.ranges.each 7 (omega arith, omega arith)) b.short_to in
    let from = s.long_from in
    let to = s.long_to in
    let low = s.short_from in
    let high = s.short_to in
    record {
      pallet_x = number_within row 2 brief.pallet_x (b.ranges.each 2 (omega arith, omega arith)) b.pallet_x;
      pallet_y = number_within row 3 brief.pallet_y (b.ranges.each 3 (omega arith, omega arith)) b.pallet_y;
      long = (omega (arith, long_from.0), omega (arith, long_to.1));
      short = (omega (arith, short_from.0), omega (arith, short_to.1));
    }

in_ranges : (id : List ℕ) (brief : Brief) (size : Size) → HasOrderSides brief size → range_fault (size_order id brief size) ≡ None
unfolding all_columns
in_ranges id brief size h =
    ap (option_map (λ field. OutOfRange field)) (find_none (λ field. not (is_in_range (size_order id brief size) field)) all_columns (
      within 1 brief.pallet_x 4000 h.pallet_x.0 h.pallet_x.1,
      (
        within 1 brief.pallet_y 4000 h.pallet_y.0 h.pallet_y.1,
        (
          within 1 size.long 4000 h.long.0 h.long.1,
          (
            within 1 size.short 4000 h.short.0 h.short.1,
            (refl, (refl, (refl, (refl, (refl, (refl, (refl, (within 0 0 (min 100 (4000 - max brief.pallet_x brief.pallet_y)) (omega arith) (omega arith), tt)))))))),
          ),
        ),
      ),
    ))

of_sides : (o : OrderValue) → is_id o.id ≡ true → range_fault o ≡ None → order_fault o ≡ sides_fault o
of_sides o good none =
    let rest = fit_fault o ∷ case_count_fault o ∷ [] in
    first_of-next (id_fault o) (range_fault o ∷ rest) (rw good refl) ∙ first_of-next (range_fault o) rest none

written : (row : Fields) (brief : Brief) (size : Size) → IsBriefOf row brief → IsSize brief size → IsWritten brief size
written row brief size b s =
    let h = order_sides row brief size b s in record {
      pallet_x = omega (arith, h.pallet_x.1);
      pallet_y = omega (arith, h.pallet_y.1);
      long = omega (arith, h.long.1);
      short = omega (arith, h.short.1);
    }

-- the row of a size, by the fault of its order
pub row_by_fault : (row : Fields) (brief : Brief) (number : ℕ) (size : Size) (fault : Option RowFault) → IsBriefOf row brief → IsSize brief size → order_fault (size_order (id_in row) brief size) ≡ fault → row_with_fault number (size_order (id_in row) brief size) fault ≡ size_row (id_in row) brief number size
row_by_fault row brief number size fault b s is =
    let o = size_order (id_in row) brief size in
    sym (row_back (id_in row) brief number size (written row brief size b s) ∙ ap (row_with_fault number o) is)

pub size_rows_of_sides : SizeRowsAreOrders
size_rows_of_sides row brief size number b s =
    let o = size_order (id_in row) brief size in
    let none = in_ranges (id_in row) brief size (order_sides row brief size b s) in
    row_back (id_in row) brief number size (written row brief size b s) ∙ ap (row_with_fault number o) (of_sides o b.ranges.form.id none)
