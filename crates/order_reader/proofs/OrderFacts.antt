-- What the tests say of an order that passes them.
use Rattle.std.proofs.Common.{◌≡◌, ℕ, zero, suc, ◌+◌, ◌-◌, ◌*◌, ◌/◌, ◌<◌, ◌≤◌, ◌⊎◌, inl, inr, Bool, true, false, List, [], ◌∷◌, length, get_or, min, max, Option, Some, None, refl, subst, arith}
use Rattle.std.specs.Prelude.{if◌then◌else◌, not, nat_le, ◌&&◌, find, option_map}
use Rattle.std.specs.List.{list_all}
use Rattle.std.proofs.lemmas.Bool.Decides.{nat_tests}
use Rattle.order_reader.specs.declared.fields.Field.{Field}
use Rattle.order_reader.specs.declared.fields.Field.TheVariants.{PalletX, PalletY, CaseX, CaseY, CaseZ, Weight, MaxHeight, MaxWeight, Contact, Support, Cut, Gap}
use Rattle.order_reader.specs.declared.faults.RowFault.{RowFault}
use Rattle.order_reader.specs.declared.faults.RowFault.TheVariants.{BadId, OutOfRange, DoesNotFit, TooManyCases}
use Rattle.order_reader.specs.Columns.{place_of, all_columns}
use Rattle.order_reader.specs.Orders.{OrderValue, order_with, number_in, pallet_x_of, pallet_y_of, case_x_of, case_y_of, long_of, short_of, gap_of}
use Rattle.order_reader.specs.Faults.{first_of, numbers_fault, is_id, id_fault, least_in, greatest_in, greatest_gap_of, is_in_range, range_fault, fits, fit_fault, is_small, case_count_fault, order_fault, IsOrder}
use Rattle.order_reader.specs.Instances.{AreInRange}
use Rattle.order_reader.proofs.FindFacts.{find-none}

-- each column stands at its place
column-at : (field d : Field) → get_or all_columns (place_of field) d ≡ field
unfolding all_columns
column-at PalletX d = refl
column-at PalletY d = refl
column-at CaseX d = refl
column-at CaseY d = refl
column-at CaseZ d = refl
column-at Weight d = refl
column-at MaxHeight d = refl
column-at MaxWeight d = refl
column-at Contact d = refl
column-at Support d = refl
column-at Cut d = refl
column-at Gap d = refl

pub column-within : (field : Field) → place_of field < length all_columns
unfolding all_columns
column-within PalletX = omega arith
column-within PalletY = omega arith
column-within CaseX = omega arith
column-within CaseY = omega arith
column-within CaseZ = omega arith
column-within Weight = omega arith
column-within MaxHeight = omega arith
column-within MaxWeight = omega arith
column-within Contact = omega arith
column-within Support = omega arith
column-within Cut = omega arith
column-within Gap = omega arith

-- each place below twelve has its column
column-of : (k : ℕ) → k < 12 → (field : Field) × (place_of field ≡ k)
column-of zero lt = (PalletX, refl)
column-of (suc zero) lt = (PalletY, refl)
column-of (suc (suc zero)) lt = (CaseX, refl)
column-of (suc (suc (suc zero))) lt = (CaseY, refl)
column-of (suc (suc (suc (suc zero)))) lt = (CaseZ, refl)
column-of (suc (suc (suc (suc (suc zero))))) lt = (Weight, refl)
column-of (suc (suc (suc (suc (suc (suc zero)))))) lt = (MaxHeight, refl)
column-of (suc (suc (suc (suc (suc (suc (suc zero))))))) lt = (MaxWeight, refl)
column-of (suc (suc (suc (suc (suc (suc (suc (suc zero)))))))) lt = (Contact, refl)
column-of (suc (suc (suc (suc (suc (suc (suc (suc (suc zero))))))))) lt = (Support, refl)
column-of (suc (suc (suc (suc (suc (suc (suc (suc (suc (suc zero)))))))))) lt = (Cut, refl)
column-of (suc (suc (suc (suc (suc (suc (suc (suc (suc (suc (suc zero))))))))))) lt = (Gap, refl)
column-of (suc (suc (suc (suc (suc (suc (suc (suc (suc (suc (suc (suc k)))))))))))) lt = absurd (omega arith)

no-field : (o : Option Field) → option_map (λ field. OutOfRange field) o ≡ None → o ≡ None
no-field None is = refl
no-field (Some field) is = cc

passed : (b : Bool) → not b ≡ false → b ≡ true
passed true is = refl
passed false is = cc

in-range : (least own greatest : ℕ) → (nat_le least own && nat_le own greatest) ≡ true → (least ≤ own) × (own ≤ greatest)
in-range least own greatest is = (grind (arith, nat_tests), grind (arith, nat_tests))

-- where the test of the ranges finds nothing, each number is within its range
pub ranges-hold : (o : OrderValue) → range_fault o ≡ None → AreInRange o
ranges-hold o is field =
    let none = no-field (find (λ f. not (is_in_range o f)) all_columns) is in
    let own = find-none (λ f. not (is_in_range o f)) all_columns none (place_of field) field (column-within field) in
    let test : not (is_in_range o field) ≡ false = subst (λ (f : Field). not (is_in_range o f) ≡ false) (column-at field field) own in
    in-range (least_in field) (number_in o field) (greatest_in (greatest_gap_of o) field) (passed (is_in_range o field) test)

-- no range goes beyond a hundred million
greatest-limited : (gap : ℕ) (field : Field) → gap ≤ 100 → greatest_in gap field ≤ 100000000
greatest-limited gap PalletX le = omega arith
greatest-limited gap PalletY le = omega arith
greatest-limited gap CaseX le = omega arith
greatest-limited gap CaseY le = omega arith
greatest-limited gap CaseZ le = omega arith
greatest-limited gap Weight le = omega arith
greatest-limited gap MaxHeight le = omega arith
greatest-limited gap MaxWeight le = omega arith
greatest-limited gap Contact le = omega arith
greatest-limited gap Support le = omega arith
greatest-limited gap Cut le = omega arith
greatest-limited gap Gap le = omega arith

-- the default makes no difference at a place that is there
get-same : (xs : List ℕ) (k d e : ℕ) → k < length xs → get_or xs k d ≡ get_or xs k e
get-same [] k d e lt = absurd (omega arith)
get-same (x ∷ xs) zero d e lt = refl
get-same (x ∷ xs) (suc k) d e lt = get-same xs k d e (omega arith)

pub number-limited : (o : OrderValue) → AreInRange o → length o.numbers ≡ 12 → (k d : ℕ) → k < length o.numbers → get_or o.numbers k d ≤ 100000000
number-limited o ranges twelve k d lt =
    let at = column-of k (omega arith) in
    let own = ranges at.0 in
    let most = greatest-limited (greatest_gap_of o) at.0 (omega arith) in
    let limited : number_in o at.0 ≤ 100000000 = omega arith in
    rw (get-same o.numbers k d 0 lt) (subst (λ (n : ℕ). get_or o.numbers n 0 ≤ 100000000) at.1 limited)

-- the sides of an order's pallet and case, and its gap
pub record HasSides (o : OrderValue) : Type 0 where
  pub pallet_x_min : 1 ≤ pallet_x_of o
  pub pallet_x_max : pallet_x_of o + gap_of o ≤ 4000
  pub pallet_y_min : 1 ≤ pallet_y_of o
  pub pallet_y_max : pallet_y_of o + gap_of o ≤ 4000
  pub case_x_min : 1 ≤ case_x_of o
  pub case_x_max : case_x_of o ≤ 4000
  pub case_y_min : 1 ≤ case_y_of o
  pub case_y_max : case_y_of o ≤ 4000
  pub gap_max : gap_of o ≤ 100

pub sides-hold : (o : OrderValue) → AreInRange o → HasSides o
sides-hold o ranges =
    let x : (1 ≤ pallet_x_of o) × (pallet_x_of o ≤ 4000) = ranges PalletX in
    let y : (1 ≤ pallet_y_of o) × (pallet_y_of o ≤ 4000) = ranges PalletY in
    let a : (1 ≤ case_x_of o) × (case_x_of o ≤ 4000) = ranges CaseX in
    let b : (1 ≤ case_y_of o) × (case_y_of o ≤ 4000) = ranges CaseY in
    let g : (0 ≤ gap_of o) × (gap_of o ≤ min 100 (4000 - max (pallet_x_of o) (pallet_y_of o))) = ranges Gap in
    record {
      pallet_x_min = x.0;
      pallet_x_max = omega arith;
      pallet_y_min = y.0;
      pallet_y_max = omega arith;
      case_x_min = a.0;
      case_x_max = a.1;
      case_y_min = b.0;
      case_y_max = b.1;
      gap_max = omega arith;
    }

-- the first of two parts of a list of tests, and the rest
pub first_of-none : (test : Option RowFault) (tests : List (Option RowFault)) → first_of (test ∷ tests) ≡ None → (test ≡ None) × (first_of tests ≡ None)
first_of-none None tests is = (refl, is)
first_of-none (Some fault) tests is = cc

held : (b : Bool) (fault : RowFault) → (if b then None else Some fault) ≡ None → b ≡ true
held true fault is = refl
held false fault is = cc

-- what each test of an order says
pub record Passes (o : OrderValue) : Type 0 where
  pub id : is_id o.id ≡ true
  pub ranges : AreInRange o
  pub fitting : fits (pallet_x_of o) (pallet_y_of o) (long_of o) (short_of o) ≡ true
  pub small : is_small (pallet_x_of o + gap_of o) (pallet_y_of o + gap_of o) (long_of o + gap_of o) (short_of o + gap_of o) ≡ true

pub passes : (o : OrderValue) → IsOrder o → Passes o
passes o is =
    let first = first_of-none (id_fault o) (range_fault o ∷ fit_fault o ∷ case_count_fault o ∷ []) is.passes in
    let second = first_of-none (range_fault o) (fit_fault o ∷ case_count_fault o ∷ []) first.1 in
    let third = first_of-none (fit_fault o) (case_count_fault o ∷ []) second.1 in
    let fourth = first_of-none (case_count_fault o) [] third.1 in
    record {
      id = held (is_id o.id) BadId first.0;
      ranges = ranges-hold o second.0;
      fitting = held (fits (pallet_x_of o) (pallet_y_of o) (long_of o) (short_of o)) DoesNotFit third.0;
      small = held (is_small (pallet_x_of o + gap_of o) (pallet_y_of o + gap_of o) (long_of o + gap_of o) (short_of o + gap_of o)) TooManyCases fourth.0;
    }

pub fits-ways : (x y l s : ℕ) → fits x y l s ≡ true → ((l ≤ x) × (s ≤ y)) ⊎ ((s ≤ x) × (l ≤ y))
unfolding fits
fits-ways x y l s is = grind (arith, nat_tests)

pub small-bound : (x y l s : ℕ) → is_small x y l s ≡ true → (x * y) / (l * s) ≤ 1000
unfolding is_small
small-bound x y l s is = grind (arith, nat_tests)

-- an id's length and bytes
pub record HasId (id : List ℕ) : Type 0 where
  pub some : 1 ≤ length id
  pub few : length id ≤ 40
  pub plain : list_all (λ b. nat_le 32 b && nat_le b 126) id ≡ true

pub id-holds : (id : List ℕ) → is_id id ≡ true → HasId id
unfolding is_id
id-holds id is = record { some = grind (arith, nat_tests); few = grind (arith, nat_tests); plain = grind (arith, nat_tests) }

pub plain-each : (id : List ℕ) → list_all (λ b. nat_le 32 b && nat_le b 126) id ≡ true → (k d : ℕ) → k < length id → (32 ≤ get_or id k d) × (get_or id k d ≤ 126)
plain-each [] is k d lt = absurd (omega arith)
plain-each (b ∷ bs) is zero d lt = (grind (arith, nat_tests), grind (arith, nat_tests))
plain-each (b ∷ bs) is (suc k) d lt = plain-each bs (grind (arith, nat_tests)) k d (omega arith)

-- a test that finds nothing leaves the answer to the rest, and one that finds a fault is the answer
pub first_of-next : (test : Option RowFault) (tests : List (Option RowFault)) → test ≡ None → first_of (test ∷ tests) ≡ first_of tests
first_of-next None tests is = refl
first_of-next (Some fault) tests is = cc

pub first_of-here : (test : Option RowFault) (tests : List (Option RowFault)) (fault : RowFault) → test ≡ Some fault → first_of (test ∷ tests) ≡ Some fault
first_of-here None tests fault is = cc
first_of-here (Some told) tests fault is = is

-- the tests of the numbers do not look at the id
pub numbers-of_order : (id numbers own : List ℕ) → is_id id ≡ true → own ≡ numbers → numbers_fault (order_with [] own) ≡ order_fault (order_with id numbers)
numbers-of_order id numbers own good same = rw (good, same) refl

-- a case that fits is no longer than the pallet
pub long-limited : (o : OrderValue) → IsOrder o → long_of o + gap_of o ≤ 4000
long-limited o is =
    let all = passes o is in
    let sides = sides-hold o all.ranges in
    elim (fits-ways (pallet_x_of o) (pallet_y_of o) (long_of o) (short_of o) all.fitting) [ inl lying ↦ omega (arith, lying.0) | inr standing ↦ omega (arith, standing.1) ]
