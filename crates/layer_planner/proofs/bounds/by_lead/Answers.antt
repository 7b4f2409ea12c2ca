use Rattle.std.proofs.Common.{◌≡◌, ◌∷◌, [], refl, sym, subst, arith}
use Rattle.std.proofs.lemmas.Result.{IfOk-weaker}
use Rattle.weightings.specs.declared.certs.Mark.TheVariants.{Leaf}
use Rattle.weightings.specs.declared.certs.Cert.TheVariants as certs
use Rattle.layer_planner.specs.declared.bounds.Known.{Known}
use Rattle.layer_planner.specs.Quality.{IsAtMostFamily}
use Rattle.layer_planner.specs.Known.{IsKnown}
use Rattle.layer_planner.proofs.CertLemmas.{lead-family}
use Rattle.layer_planner.proofs.KnownLemmas.{lead-known}
use Rattle.plan_geometry.specs.Layout.{area_bound_of}
use Rattle.weightings.specs.declared.kinds.Weighting.TheVariants.{Area}
use Rattle.weightings.proofs.LeadSteps.{best-start}
use Rattle.layer_planner.proofs.bounds.by_lead.Goals as goal

pub returns-clause-known : goal.returns-clause-known
returns-clause-known c =
    let told : Known = record { bound = c.in-Some.bound; cert = certs.Weighted c.in_ok-weighting.weighting (Leaf ∷ []) } in
    let known : IsKnown c.args.given c.args.reduced told =
    lead-known c.args.given c.args.reduced c.args.lead.now c.in_ok-weighting.weighting (Leaf ∷ []) c.in-Some.bound c.requires.same c.requires.lead c.in-Some.ensures.value c.in_ok-weighting.ensures refl in
    IfOk-weaker c.by_weights.result (λ k. k ≡ told) (λ k. IsKnown c.args.given c.args.reduced k) (λ k e. subst (λ z. IsKnown c.args.given c.args.reduced z) (sym e) known) c.by_weights.ensures

pub returns-clause-family : goal.returns-clause-family
returns-clause-family c =
    let told : Known = record { bound = c.in-Some.bound; cert = certs.Weighted c.in_ok-weighting.weighting (Leaf ∷ []) } in
    let family : IsAtMostFamily c.args.reduced told.bound = lead-family c.args.reduced c.args.lead.now c.in-Some.bound c.requires.lead c.in-Some.ensures.value in
    IfOk-weaker c.by_weights.result (λ k. k ≡ told) (λ k. IsAtMostFamily c.args.reduced k.bound) (λ k e. subst (λ z. IsAtMostFamily c.args.reduced z.bound) (sym e) family) c.by_weights.ensures

pub overflow_cast-bound : goal.overflow_cast-bound
overflow_cast-bound c =
    let le = lead-family c.args.reduced c.args.lead.now c.in-Some.bound c.requires.lead c.in-Some.ensures.value Area (area_bound_of c.args.reduced) tt (best-start c.args.reduced c.requires.fits).is_bound in
    omega (arith, le, c.requires.few)
