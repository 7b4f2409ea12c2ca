-- The ranges of a plan.
use Rattle.std.proofs.Common.{◌≡◌, ℕ, ◌≤◌, true, leb}
use Rattle.std.specs.Int.{IsInRange}
use Rattle.std.proofs.lemmas.Bool.{leb-true}
use Rattle.texts.proofs.Parsers.{both_true}
use Rattle.cert_text.specs.declared.forms.Form.TheVariants.{Two}
use Rattle.plan_entries.specs.Ranges.{is_within, plan_in_range}
use Rattle.plan_entries.specs.declared.entries.Plan.{Plan}

within : (most n : ℕ) → is_within most n ≡ true → IsInRange 1 most n
within most n e = let p = both_true (leb 1 n) (leb n most) e in (leb-true 1 n p.0, leb-true n most p.1)

pub record HasRanges (p : Plan) : Type 0 where
  pub count : IsInRange 1 1000 p.count
  pub bound : IsInRange 1 1000 p.bound
  pub allowed : p.allowed ≤ 10000

pub plan_ranges : (p : Plan) → plan_in_range Two p ≡ true → HasRanges p
plan_ranges p e =
    let numbers = (both_true _ _ e).0 in
    let first = both_true (is_within 256 p.number) _ numbers in
    let second = both_true (is_within 1000 p.count) _ first.1 in
    let third = both_true (is_within 1000 p.bound) (leb p.allowed 10000) second.1 in
    record { count = within 1000 p.count second.0; bound = within 1000 p.bound third.0; allowed = leb-true p.allowed 10000 third.1 }
