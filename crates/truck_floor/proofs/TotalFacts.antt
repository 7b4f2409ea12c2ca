-- A total is one.
use Rattle.std.proofs.Common.{◌≡◌, ℕ, ◌*◌, ◌↔◌, Bool, true, false, refl, sym, ap, ◌∙◌}
use Rattle.std.specs.Prelude.{IsTrue}
use Rattle.truck_floor.specs.declared.totals.Total.{Total}
use Rattle.truck_floor.specs.Laws.{TotalsAreOne}

abbrev total : ℕ → ℕ → ℕ → ℕ → Bool → Total
total pallets cases pallet_bound case_bound optimal =
    record { pallets = pallets; cases = cases; pallet_bound = pallet_bound; case_bound = case_bound; optimal = optimal }

same_answers : {P : Type 0} (a b : Bool) → IsTrue a ↔ P → IsTrue b ↔ P → a ≡ b
same_answers true true f g = refl
same_answers true false f g = let e : false ≡ true = g.1 (f.0 refl) in absurd cc
same_answers false true f g = let e : false ≡ true = f.1 (g.0 refl) in absurd cc
same_answers false false f g = refl

pub one : TotalsAreOne
one p q a b f g =
    let pallets : a.pallets ≡ b.pallets = f.pallets ∙ sym g.pallets in
    let cases : a.cases ≡ b.cases = f.cases ∙ sym g.cases in
    let pallet_bound : a.pallet_bound ≡ b.pallet_bound = f.pallet_bound ∙ sym g.pallet_bound in
    let case_bound : a.case_bound ≡ b.case_bound = f.case_bound ∙ sym g.case_bound in
    let products : IsTrue b.optimal ↔ (a.pallets * a.cases ≡ a.pallet_bound * a.case_bound) = rw (pallets, cases, pallet_bound, case_bound) g.optimal in
    let optimal = same_answers a.optimal b.optimal f.optimal products in
    ap (λ n. total n a.cases a.pallet_bound a.case_bound a.optimal) pallets
    ∙ ap (λ n. total b.pallets n a.pallet_bound a.case_bound a.optimal) cases
    ∙ ap (λ n. total b.pallets b.cases n a.case_bound a.optimal) pallet_bound
    ∙ ap (λ n. total b.pallets b.cases b.pallet_bound n a.optimal) case_bound
    ∙ ap (λ n. total b.pallets b.cases b.pallet_bound b.case_bound n) optimal
