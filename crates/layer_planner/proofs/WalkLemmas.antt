-- What the answer of a walk tells, and how a search ends.
use Rattle.std.proofs.Common.{◌≡◌, ℕ, ◌+◌, ◌≤◌, List, length, sym, subst}
use Rattle.plan_geometry.specs.declared.instances.Inst.{Inst}
use Rattle.plan_geometry.specs.Placed.{Placed, IsLayer}
use Rattle.weightings.specs.declared.certs.Mark.{Mark}
use Rattle.cert_rules.specs.Refute.{IsRefutation}
use Rattle.cert_rules.specs.Walk.{IsLonger}
use Rattle.corner_search.specs.Search.{IsAnswer, Tells}
use Rattle.corner_search.specs.declared.search.Walk.{Walk}
use Rattle.corner_search.specs.declared.search.Walk.TheVariants as walks
use Rattle.layer_planner.specs.Quality.{most_states}
use Rattle.layer_planner.specs.Searched.{IsGrown, IsTooLong, HasSearched}
use Rattle.layer_planner.specs.declared.search.Searched.{Searched}
use Rattle.layer_planner.specs.declared.search.Searched.TheVariants as ends

pub found-tells : (I : Inst) (g : ℕ → ℕ → ℕ) (n budget : ℕ) (layer : Placed) (w : Walk) → w ≡ walks.Found layer → Tells I g n budget w → IsLayer layer.inst layer.spots × (layer.inst ≡ I) × (length layer.spots ≡ n + 1)
found-tells I g n budget layer w e t = subst (λ v. Tells I g n budget v) e t

pub refuted-tells : (I : Inst) (g : ℕ → ℕ → ℕ) (n count budget : ℕ) (marks : List Mark) (w : Walk) → w ≡ walks.Refuted marks → Tells I g n budget w → count ≡ n → IsRefutation I g count marks × (length marks ≤ budget)
refuted-tells I g n count budget marks w e t c =
    let r : Tells I g n budget (walks.Refuted marks) = subst (λ v. Tells I g n budget v) e t in
    (subst (λ m. IsRefutation I g m marks) (sym c) r.0, r.2)

pub spent-long : (I : Inst) (g : ℕ → ℕ → ℕ) (n count budget nodes : ℕ) (w : Walk) → w ≡ walks.Spent nodes → IsAnswer I g n budget w → count ≡ n → IsTooLong I g count budget
spent-long I g n count budget nodes w e a c =
    let b : IsAnswer I g n budget (walks.Spent nodes) = subst (λ v. IsAnswer I g n budget v) e a in
    record { least = b.least; is_least = b.is_least; longer = subst (λ m. IsLonger I g b.least m budget) (sym c) b.ends.1 }

pub reached-tells : (I : Inst) (g : ℕ → ℕ → ℕ) (count most : ℕ) (layer : Placed) (s : Searched) → s ≡ ends.Reached layer → HasSearched I g count most s → IsGrown I count most layer × (length layer.spots ≡ most)
reached-tells I g count most layer s e h = subst (λ r. HasSearched I g count most r) e h

pub refuted-ends : (I : Inst) (g : ℕ → ℕ → ℕ) (count most : ℕ) (layer : Placed) (marks : List Mark) (s : Searched) → s ≡ ends.Refuted layer marks → HasSearched I g count most s
    → IsGrown I count most layer × IsRefutation I g (length layer.spots) marks × (length marks ≤ most_states)
refuted-ends I g count most layer marks s e h = subst (λ r. HasSearched I g count most r) e h

pub spent-ends : (I : Inst) (g : ℕ → ℕ → ℕ) (count most : ℕ) (layer : Placed) (s : Searched) → s ≡ ends.Spent layer → HasSearched I g count most s → IsGrown I count most layer × IsTooLong I g (length layer.spots) most_states
spent-ends I g count most layer s e h = subst (λ r. HasSearched I g count most r) e h
