-- Each made order passes all tests of a row.
use Rattle.std.proofs.Common.{◌≡◌, ◌∙◌, ℕ, zero, suc, ◌+◌, ◌*◌, ◌/◌, ◌<◌, ◌≤◌, true, List, [], ◌∷◌, ◌++◌, length, min, max, Some, None, refl, sym, ap, subst, arith}
use Rattle.std.specs.Prelude.{decimal, find, nat_le, not, ◌&&◌, option_map}
use Rattle.std.specs.List.{All, list_all}
use Rattle.std.proofs.Math.Nat.{div-le_of_le-mul, mod-lt}
use Rattle.std.proofs.lemmas.Nat.{mul-le}
use Rattle.std.proofs.lemmas.List.FromFn.{map-range_with_len_more, length-map-range_with_len, get_or-map-range_with_len}
use Rattle.std.specs.Str.Parse.{AllDigits}
use Rattle.std.proofs.lemmas.Fmt.{digits_decimal, length-decimal-le}
use Rattle.std.proofs.lemmas.Str.Parse.{digit_from_value, numerals_by_value, tells_digits}
use Rattle.std.proofs.lemmas.Bool.Decides.{nat_tests}
use Rattle.order_reader.specs.declared.fields.Field.{Field}
use Rattle.order_reader.specs.declared.fields.Field.TheVariants.{PalletX, PalletY, CaseX, CaseY, CaseZ, Weight, MaxHeight, MaxWeight, Contact, Support, Cut, Gap}
use Rattle.order_reader.specs.declared.faults.RowFault.{RowFault}
use Rattle.order_reader.specs.declared.faults.RowFault.TheVariants.{OutOfRange}
use Rattle.order_reader.specs.declared.faults.OrderFail.{OrderFail}
use Rattle.order_reader.specs.declared.faults.OrderFail.TheVariants.{Fault}
use Rattle.order_reader.specs.Columns.{all_columns}
use Rattle.order_reader.specs.Orders.{OrderValue, order_with}
use Rattle.order_reader.specs.declared.rows.Row.TheVariants as row
use Rattle.order_reader.specs.Faults.{IsOrder, TellsFault, is_id, is_in_range, greatest_gap_of, range_fault, fits, is_small, order_fault}
use Rattle.made_orders.specs.Draws.{next_state, state_after, given_by, drawn}
use Rattle.made_orders.specs.Made.{short_side, long_side, pallet_x, pallet_y, made_id, made_numbers, made_order, first_made_rows, made_rows_of, IsAccepted}

-- the order of an id and of the sides of pallet and case
abbrev pub order_of_sides : List ℕ → ℕ → ℕ → ℕ → ℕ → OrderValue
order_of_sides id x y long short = order_with id (x ∷ y ∷ long ∷ short ∷ 100 ∷ 1000 ∷ 1000 ∷ 1000000 ∷ 60 ∷ 1 ∷ 100 ∷ 0 ∷ [])

within : (least own greatest : ℕ) → least ≤ own → own ≤ greatest → (nat_le least own && nat_le own greatest) ≡ true
within least own greatest low high = grind (arith, nat_tests)

none_outside : (o : OrderValue) → ((field : Field) → is_in_range o field ≡ true) → (fields : List Field) → find (λ f. not (is_in_range o f)) fields ≡ None
none_outside o each [] = refl
none_outside o each (field ∷ fields) = rw (each field) (none_outside o each fields)

-- how small the sides of a made order are
pub record AreMadeSides (x y long short : ℕ) : Type 0 where
  pub short_low : 2 ≤ short
  pub short_high : short ≤ 4
  pub long_low : short + 1 ≤ long
  pub long_high : long ≤ 7
  pub x_low : long ≤ x
  pub x_high : x ≤ 49
  pub y_low : long ≤ y
  pub y_high : y ≤ 35

in_range : (id : List ℕ) (x y long short : ℕ) → AreMadeSides x y long short → (field : Field) → is_in_range (order_of_sides id x y long short) field ≡ true
in_range id x y long short sides PalletX = within 1 x 4000 (omega (arith, sides.x_low, sides.long_low)) (omega (arith, sides.x_high))
in_range id x y long short sides PalletY = within 1 y 4000 (omega (arith, sides.y_low, sides.long_low)) (omega (arith, sides.y_high))
in_range id x y long short sides CaseX = within 1 long 4000 (omega (arith, sides.long_low)) (omega (arith, sides.long_high))
in_range id x y long short sides CaseY = within 1 short 4000 (omega (arith, sides.short_low)) (omega (arith, sides.short_high))
in_range id x y long short sides CaseZ = refl
in_range id x y long short sides Weight = refl
in_range id x y long short sides MaxHeight = refl
in_range id x y long short sides MaxWeight = refl
in_range id x y long short sides Contact = refl
in_range id x y long short sides Support = refl
in_range id x y long short sides Cut = refl
in_range id x y long short sides Gap = within 0 0 (greatest_gap_of (order_of_sides id x y long short)) (omega arith) (omega arith)

in_ranges : (id : List ℕ) (x y long short : ℕ) → AreMadeSides x y long short → range_fault (order_of_sides id x y long short) ≡ None
in_ranges id x y long short sides =
    ap (option_map (λ field. OutOfRange field)) (none_outside (order_of_sides id x y long short) (in_range id x y long short sides) all_columns)

fits_there : (x y long short : ℕ) → long ≤ x → short ≤ y → fits x y long short ≡ true
unfolding fits
fits_there x y long short l s = grind (arith, nat_tests)

few_cases : (x y long short : ℕ) → x ≤ 49 → y ≤ 35 → 3 ≤ long → 2 ≤ short → is_small x y long short ≡ true
unfolding is_small
few_cases x y long short x_high y_high long_low short_low =
    let cells : x * y ≤ 49 * 35 = mul-le x y 49 35 x_high y_high in
    let case : 3 * 2 ≤ long * short = mul-le 3 2 long short long_low short_low in
    let few : (x * y) / (long * short) ≤ 1000 = div-le_of_le-mul (long * short) (omega arith) in
    grind (arith, nat_tests)

plain_digits : (ds : List ℕ) → AllDigits 10 ds → list_all (λ b. nat_le 32 b && nat_le b 126) ds ≡ true
plain_digits [] digits = refl
plain_digits (d ∷ ds) digits =
    let first = digit_from_value d digits.0 in
    let here : (nat_le 32 d && nat_le d 126) ≡ true = within 32 d 126 (omega (arith, first)) (omega (arith, first)) in
    rw here (plain_digits ds digits.1)

-- `t` and a number below 100 is an id
plain_id : (number : ℕ) → number < 100 → is_id (made_id number) ≡ true
unfolding is_id made_id
plain_id number small =
    let digits = digits_decimal (numerals_by_value (AllDigits 10) tells_digits) number (omega arith) in
    let plain = plain_digits (decimal number) digits in
    let few : length (decimal number) ≤ 2 = length-decimal-le 2 number (omega arith) small (omega arith) in
    grind (arith, nat_tests)

-- an order of such sides passes
order_of_sides-passes : (id : List ℕ) (x y long short : ℕ) → is_id id ≡ true → AreMadeSides x y long short → order_fault (order_of_sides id x y long short) ≡ None
order_of_sides-passes id x y long short id_is sides =
    let o = order_of_sides id x y long short in
    let longer : max long short ≡ long = omega (arith, sides.long_low) in
    let shorter : min long short ≡ short = omega (arith, sides.long_low) in
    let fitting : fits x y (max long short) (min long short) ≡ true =
    rw (longer, shorter) (fits_there x y long short sides.x_low (omega (arith, sides.y_low, sides.long_low))) in
    let small : is_small (x + 0) (y + 0) (max long short + 0) (min long short + 0) ≡ true =
    few_cases _ _ _ _ (omega (arith, sides.x_high)) (omega (arith, sides.y_high)) (omega (arith, sides.short_low, sides.long_low)) (omega (arith, sides.short_low, sides.long_low)) in
    rw (id_is, in_ranges id x y long short sides, fitting, small) refl

-- a draw is below its bound
drawn-below : (start draw below : ℕ) → 1 ≤ below → drawn start draw below < below
unfolding given_by
drawn-below start draw below some = mod-lt _ (omega arith)

made_sides : (start : ℕ) → AreMadeSides (pallet_x start) (pallet_y start) (long_side start) (short_side start)
made_sides start =
    let short_more = drawn-below start 1 3 (omega arith) in
    let long_more = drawn-below start 2 3 (omega arith) in
    let x_more = drawn-below start 3 4 (omega arith) in
    let x_rest = drawn-below start 4 (short_side start) (omega arith) in
    let y_more = drawn-below start 5 3 (omega arith) in
    let y_rest = drawn-below start 6 (short_side start) (omega arith) in
    let x_most : long_side start * (3 + drawn start 3 4) ≤ 7 * 6 = mul-le _ _ 7 6 (omega arith) (omega arith) in
    let x_least : long_side start * 1 ≤ long_side start * (3 + drawn start 3 4) = mul-le (long_side start) 1 _ _ (omega arith) (omega arith) in
    let y_most : long_side start * (2 + drawn start 5 3) ≤ 7 * 4 = mul-le _ _ 7 4 (omega arith) (omega arith) in
    let y_least : long_side start * 1 ≤ long_side start * (2 + drawn start 5 3) = mul-le (long_side start) 1 _ _ (omega arith) (omega arith) in
    record {
      short_low = omega arith;
      short_high = omega arith;
      long_low = omega arith;
      long_high = omega arith;
      x_low = omega arith;
      x_high = omega arith;
      y_low = omega arith;
      y_high = omega arith;
    }

pub made-is-order : (number start : ℕ) → number < 100 → IsOrder (order_with (made_id number) (made_numbers start))
unfolding made_numbers
made-is-order number start small = record {
  twelve = refl;
  passes = order_of_sides-passes (made_id number) (pallet_x start) (pallet_y start) (long_side start) (short_side start) (plain_id number small) (made_sides start);
}

-- so its making tells no fault
pub no-fault : (o made : OrderValue) (fail : OrderFail) (fault : RowFault) → o ≡ made → IsOrder made → fail ≡ Fault fault → TellsFault (order_fault o) fail → ⊥
no-fault o made fail fault same is_order is tells =
    let told : order_fault o ≡ Some fault = subst (TellsFault (order_fault o)) is tells in
    let bad : None ≡ Some fault = sym is_order.passes ∙ ap order_fault (sym same) ∙ told in
    cc

pub rows-accepted : (seed : ℕ) → All IsAccepted (made_rows_of seed)
unfolding first_made_rows
rows-accepted seed place d lt =
    let few : place < 16 = subst (λ (n : ℕ). place < n) (length-map-range_with_len (λ p. row.Order (made_order seed p)) 0 16) lt in
    let is = get_or-map-range_with_len (λ p. row.Order (made_order seed p)) 0 16 place place d few (omega arith) in
    subst IsAccepted (sym is) (made-is-order (place + 1) (state_after seed (6 * place)) (omega arith))

-- one row more
pub first_made_rows-more : (seed place : ℕ) → first_made_rows seed (place + 1) ≡ first_made_rows seed place ++ row.Order (made_order seed place) ∷ []
unfolding first_made_rows
first_made_rows-more seed place = map-range_with_len_more (λ p. row.Order (made_order seed p)) 0 place place (omega arith)

-- draws after draws
pub state_after-more : (start first more : ℕ) → state_after (state_after start first) more ≡ state_after start (first + more)
state_after-more start first zero = ap (state_after start) (omega arith)
state_after-more start first (suc more) =
    let next : suc (first + more) ≡ first + suc more = omega arith in
    ap next_state (state_after-more start first more) ∙ ap (state_after start) next
