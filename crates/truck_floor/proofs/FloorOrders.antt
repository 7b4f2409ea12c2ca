-- The two orders of a row go together.
use Rattle.std.proofs.Common.{◌≡◌, ℕ, ◌+◌, ◌-◌, ◌*◌, List, [], ◌∷◌, ◌++◌, length, Option, Some, None, Bool, true, false, refl, sym, ap, subst, ◌∙◌, ◌⊎◌, inl, inr, arith, eqb, append_assoc}
use Rattle.std.specs.Prelude.{if◌then◌else◌}
use Rattle.std.specs.List.{enumerate_from, flat_map}
use Rattle.std.proofs.lemmas.List.Concat.{flat_map-append}
use Rattle.std.proofs.lemmas.Bool.{eqb-true}
use Rattle.csv.specs.Records.{field_at}
use Rattle.order_reader.specs.Records.{Fields}
use Rattle.order_reader.specs.Columns.{all_columns}
use Rattle.order_reader.specs.Orders.{OrderValue}
use Rattle.order_reader.specs.Faults.{order_in, row_fault}
use Rattle.order_reader.specs.Rows.{row_with, row_of}
use Rattle.order_reader.proofs.RowFacts.{enumerate-more}
use Rattle.order_reader.specs.declared.rows.Row.{Row}
use Rattle.order_reader.specs.declared.rows.Row.TheVariants.{Order, Refused}
use Rattle.order_reader.specs.declared.faults.RowFault.{RowFault}
use Rattle.order_reader.specs.declared.faults.RowFault.TheVariants.{FieldCount}
use Rattle.truck_floor.specs.FloorRows.{floor_fields, load_fields, row_by, both_rows, rows_of_floors, IsFloorFor}
use Rattle.truck_floor.specs.Laws.{FloorsFitTheirLoads}

order_by_fault : (number : ℕ) (own : Fields) (fault : Option RowFault) (o : OrderValue) → row_with number own fault ≡ Order o → order_in own ≡ o
order_by_fault number own None o is = cc
order_by_fault number own (Some fault) o is = absurd cc

pick : (b : Bool) (row other : Row) (o : OrderValue) → (if b then row else other) ≡ Order o → ((b ≡ true) × (row ≡ Order o)) ⊎ ((b ≡ false) × (other ≡ Order o))
pick true row other o is = inl (refl, is)
pick false row other o is = inr (refl, is)

-- an order of a row has its fields, and the row has fifteen
order_by : (fields : Fields) (number : ℕ) (own : Fields) (o : OrderValue) → row_by fields number own ≡ Order o → (length fields ≡ 15) × (order_in own ≡ o)
unfolding row_of
order_by fields number own o is = elim (pick (eqb (length fields) 15) (row_of all_columns number own) (Refused number FieldCount) o is) [
  | inl whole ↦ (eqb-true (length fields) 15 whole.0, order_by_fault number own (row_fault all_columns own) o whole.1)
  | inr other ↦ let e = other.1 in absurd cc
]

fit : (fields : Fields) → length fields ≡ 15 → IsFloorFor (order_in (floor_fields fields)) (order_in (load_fields fields))
unfolding all_columns field_at
fit (id ∷ x ∷ y ∷ pallet_x ∷ pallet_y ∷ more) size = refl
fit [] size = absurd (omega (arith, size))
fit (a ∷ []) size = absurd (omega (arith, size))
fit (a ∷ b ∷ []) size = absurd (omega (arith, size))
fit (a ∷ b ∷ c ∷ []) size = absurd (omega (arith, size))
fit (a ∷ b ∷ c ∷ d ∷ []) size = absurd (omega (arith, size))

first_row : (a b c d : Row) → a ∷ b ∷ [] ≡ c ∷ d ∷ [] → (a ≡ c) × (b ≡ d)
first_row a b c d is = (cc, cc)

pub orders_fit : FloorsFitTheirLoads
orders_fit k fields f o is =
    let rows = first_row (row_by fields (2 * k - 1) (floor_fields fields)) (row_by fields (2 * k) (load_fields fields)) (Order f) (Order o) is in
    let floor = order_by fields (2 * k - 1) (floor_fields fields) f rows.0 in
    let load = order_by fields (2 * k) (load_fields fields) o rows.1 in
    subst (λ (g : OrderValue). IsFloorFor g o) floor.1 (subst (λ (g : OrderValue). IsFloorFor (order_in (floor_fields fields)) g) load.1 (fit fields floor.0))

-- the rows so far, and the two of one more
pub rows-more : (floors : List Fields) (fields : Fields) → rows_of_floors (floors ++ fields ∷ []) ≡ rows_of_floors floors ++ both_rows (length floors + 1) fields
rows-more floors fields =
    let number : 1 + length floors ≡ length floors + 1 = omega arith in
    ap (flat_map (λ p. both_rows p.0 p.1)) (enumerate-more 1 floors fields) ∙ flat_map-append (λ (p : ℕ × Fields). both_rows p.0 p.1) (enumerate_from 1 floors) ((1 + length floors, fields) ∷ [])
    ∙ ap (λ n. rows_of_floors floors ++ both_rows n fields) number

-- the rows so far with these two behind them
pub both-pushed : (floors : List Fields) (fields : Fields) (place : ℕ) (rows one two : List Row) (floor load : Row) → length floors ≡ place → rows ≡ rows_of_floors floors
    → floor ≡ row_by fields (2 * place + 1) (floor_fields fields) → load ≡ row_by fields (2 * place + 1 + 1) (load_fields fields)
    → one ≡ rows ++ floor ∷ [] → two ≡ one ++ load ∷ [] → two ≡ rows_of_floors (floors ++ fields ∷ [])
both-pushed floors fields place rows one two floor load size before is_floor is_load first second =
    let odd : 2 * place + 1 ≡ 2 * (length floors + 1) - 1 = omega arith in
    let even : 2 * place + 1 + 1 ≡ 2 * (length floors + 1) = omega arith in
    let own_floor = is_floor ∙ ap (λ n. row_by fields n (floor_fields fields)) odd in
    let own_load = is_load ∙ ap (λ n. row_by fields n (load_fields fields)) even in
    second ∙ ap (λ (rs : List Row). rs ++ load ∷ []) first ∙ append_assoc rows (floor ∷ []) (load ∷ [])
    ∙ ap (λ (rs : List Row). rs ++ floor ∷ load ∷ []) before ∙ ap (λ (r : Row). rows_of_floors floors ++ r ∷ load ∷ []) own_floor
    ∙ ap (λ (r : Row). rows_of_floors floors ++ row_by fields (2 * (length floors + 1) - 1) (floor_fields fields) ∷ r ∷ []) own_load
    ∙ sym (rows-more floors fields)
