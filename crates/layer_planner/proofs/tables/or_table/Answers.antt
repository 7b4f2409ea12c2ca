use Rattle.std.proofs.Common.{◌≡◌, ℕ, ◌≤◌, ◌∷◌, [], sym, subst, arith}
use Rattle.std.proofs.lemmas.Result.{IfOk-weaker}
use Rattle.weightings.specs.Weighting.{weight_of, IsWeightBound}
use Rattle.weightings.specs.declared.certs.Mark.TheVariants.{Leaf}
use Rattle.weightings.specs.declared.certs.Cert.TheVariants as certs
use Rattle.weightings.proofs.LeadSteps.{IsWeightBound-unique}
use Rattle.layer_planner.specs.declared.bounds.Known.{Known}
use Rattle.layer_planner.specs.Known.{IsKnown}
use Rattle.layer_planner.proofs.TableLemmas.{table-known}
use Rattle.layer_planner.proofs.tables.or_table.Goals as goal

pub returns-clause-known : goal.returns-clause-known
returns-clause-known c =
    let told : Known = record { bound = c.in-Some.bound; cert = certs.Weighted c.args.table (Leaf ∷ []) } in
    let known : IsKnown c.args.given c.args.reduced told =
    table-known c.args.given c.args.reduced c.args.table c.in-Some.bound c.requires.same c.requires.table c.requires.lawful c.requires.text c.in-Some.ensures.value in
    IfOk-weaker c.by_weights.result (λ k. k ≡ told) (λ k. IsKnown c.args.given c.args.reduced k) (λ k e. subst (λ z. IsKnown c.args.given c.args.reduced z) (sym e) known) c.by_weights.ensures

pub returns-clause-value : goal.returns-clause-value
returns-clause-value c =
    let told : Known = record { bound = c.in-Some.bound; cert = certs.Weighted c.args.table (Leaf ∷ []) } in
    let value : (n : ℕ) → IsWeightBound c.args.reduced (weight_of c.args.table) n → told.bound ≤ n =
    λ n w. let same = IsWeightBound-unique c.args.reduced (weight_of c.args.table) told.bound n c.in-Some.ensures.value w in omega (arith, same) in
    IfOk-weaker c.by_weights.result (λ k. k ≡ told) (λ k. (n : ℕ) → IsWeightBound c.args.reduced (weight_of c.args.table) n → k.bound ≤ n) (λ k e. subst (λ (z : Known). (n : ℕ) → IsWeightBound c.args.reduced (weight_of c.args.table) n → z.bound ≤ n) (sym e) value) c.by_weights.ensures
