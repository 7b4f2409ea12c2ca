-- How a search for layers of more cases ends.
use Rattle.std.specs.Prelude.{◌≡◌, ℕ, ◌≤◌, length}
use Rattle.plan_geometry.specs.declared.instances.Inst.{Inst}
use Rattle.plan_geometry.specs.Placed.{Placed, IsLayer}
use Rattle.weightings.specs.Weighting.{IsLeastWeight}
use Rattle.cert_rules.specs.Refute.{IsRefutation}
use Rattle.cert_rules.specs.Walk.{IsLonger}
use Rattle.layer_planner.specs.Quality.{most_states}
use Rattle.layer_planner.specs.declared.search.Searched.{Searched}
use Rattle.layer_planner.specs.declared.search.Searched.TheVariants.{Reached, Refuted, Spent}

-- a layer of the instance with at least so many cases, and no more than so many
pub record IsGrown (I : Inst) (count most : ℕ) (found : Placed) : Type 0 where
  pub inst : found.inst ≡ I
  pub layer : IsLayer found.inst found.spots
  pub grown : count ≤ length found.spots
  pub within : length found.spots ≤ most

-- the walk for more than so many cases has more than so many states
pub record IsTooLong (I : Inst) (g : ℕ → ℕ → ℕ) (count states : ℕ) : Type 0 where
  pub least : ℕ
  pub is_least : IsLeastWeight I g least
  pub longer : IsLonger I g least count states

-- what each way to end says
abbrev pub HasSearched : Inst → (ℕ → ℕ → ℕ) → ℕ → ℕ → Searched → Type 0
HasSearched I g count most (Reached layer) = IsGrown I count most layer × (length layer.spots ≡ most)
HasSearched I g count most (Refuted layer tree) =
    IsGrown I count most layer × IsRefutation I g (length layer.spots) tree × (length tree ≤ most_states)
HasSearched I g count most (Spent layer) = IsGrown I count most layer × IsTooLong I g (length layer.spots) most_states
