use Rattle.std.proofs.Common.{◌≡◌, ℕ, ◌*◌, ◌↔◌, refl, sym, ap, ◌∙◌, eqb, eq-eqb}
use Rattle.std.specs.Prelude.{IsTrue}
use Rattle.std.proofs.lemmas.Bool.{eqb-true}
use Rattle.truck_floor.proofs.PlanRanges.{plan_ranges}
use Rattle.truck_floor.proofs.totals.floor_total.Goals as goal

-- the same products of wider numbers
products : (a b c d w x y z : ℕ) → w ≡ a → x ≡ b → y ≡ c → z ≡ d → IsTrue (eqb (w * x) (y * z)) ↔ (a * b ≡ c * d)
products a b c d w x y z e f g h =
    let left : w * x ≡ a * b = ap (λ n. n * x) e ∙ ap (λ n. a * n) f in
    let right : y * z ≡ c * d = ap (λ n. n * z) g ∙ ap (λ n. c * n) h in
    (λ is. sym left ∙ eqb-true (w * x) (y * z) is ∙ right, λ is. eq-eqb (w * x) (y * z) (left ∙ is ∙ sym right))

pub returns-clause-total : goal.returns-clause-total
returns-clause-total c = record {
  pallets = refl;
  cases = c.stacked_cases-cases.ensures.cases;
  pallet_bound = refl;
  case_bound = c.greatest_load-case_bound.ensures.bound;
  optimal = products c.args.floor.now.count c.stacked_cases-cases.result c.args.floor.now.bound c.greatest_load-case_bound.result c.from.result c.from-2.result c.from-3.result c.from-4.result
      c.from.ensures c.from-2.ensures c.from-3.ensures c.from-4.ensures;
}

pub returns-clause-within : goal.returns-clause-within
returns-clause-within c =
    let floor = plan_ranges c.args.floor.now c.requires.floor in
    record {
      pallets = floor.count;
      cases = c.stacked_cases-cases.ensures.few;
      pallet_bound = floor.bound;
      case_bound = c.greatest_load-case_bound.ensures.few;
    }
