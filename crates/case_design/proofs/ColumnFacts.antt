-- The number in a column.
use Rattle.std.proofs.Common.{◌≡◌, ℕ, ◌≤◌, Bool, true, false, Option, Some, None, refl, subst, arith}
use Rattle.std.specs.Prelude.{if◌then◌else◌, is_some, IsSomeAnd, ◌==◌}
use Rattle.order_reader.specs.Records.{Fields}
use Rattle.case_design.specs.declared.briefs.Brief.{Brief}
use Rattle.case_design.specs.Columns.{number_in, greatest_in, HasNumber, HasNumberInRange}
use Rattle.case_design.specs.Briefs.{IsBriefOf}

some_there : {X : Type 0} (P : X → Type 0) (o : Option X) → IsSomeAnd o P → is_some o ≡ true
some_there P None h = absurd h
some_there P (Some x) h = refl

-- a number in its range is a number
pub number_there : (row : Fields) (column : ℕ) → HasNumberInRange row column → HasNumber row column
number_there row column h = some_there (λ n. (1 ≤ n) × (n ≤ greatest_in column)) (number_in row column) h

pub number_within : (row : Fields) (column n : ℕ) → HasNumberInRange row column → number_in row column ≡ Some n → (1 ≤ n) × (n ≤ greatest_in column)
number_within row column n h is = subst (λ (o : Option ℕ). IsSomeAnd o (λ m. (1 ≤ m) × (m ≤ greatest_in column))) is h

either : (b : Bool) (m n most : ℕ) → m ≤ most → n ≤ most → (if b then m else n) ≤ most
either true m n most p q = p
either false m n most p q = q

pub greatest_of_all : (column : ℕ) → greatest_in column ≤ 16000000
greatest_of_all column = either (column == 8) 16000000 4000 16000000 (omega arith) (omega arith)

-- ---- the ranges of a brief

pub long_side : (row : Fields) (brief : Brief) → IsBriefOf row brief → (1 ≤ brief.long_from) × (brief.long_to ≤ 4000)
long_side row brief b =
    let from = number_within row 4 brief.long_from (b.ranges.each 4 (omega arith, omega arith)) b.long_from in
    let to = number_within row 5 brief.long_to (b.ranges.each 5 (omega arith, omega arith)) b.long_to in
    (from.0, to.1)
