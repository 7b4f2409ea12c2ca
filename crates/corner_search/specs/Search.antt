-- How the walk over the corner states of an instance ends, within a budget of states.
use Rattle.std.specs.Prelude.{◌≡◌, ℕ, ◌+◌, ◌≤◌, List, [], ◌∷◌, ◌++◌, length, map, IsPermutation}
use Rattle.plan_geometry.specs.declared.instances.Inst.{Inst}
use Rattle.plan_geometry.specs.Layout.{IsBounded}
use Rattle.plan_geometry.specs.Placed.{Placed, IsLayer}
use Rattle.weightings.specs.declared.certs.Mark.{Mark}
use Rattle.weightings.specs.Weighting.{IsLeastWeight}
use Rattle.cert_rules.specs.Corner.{State}
use Rattle.cert_rules.specs.Refute.{IsRefutation}
use Rattle.cert_rules.specs.Walk.{walked, mark_of, IsLonger, NoneHas}
use Rattle.corner_search.specs.declared.search.Walk.{Walk}
use Rattle.corner_search.specs.declared.search.Walk.TheVariants.{Refuted, Found, Spent}

-- the walk ends within the budget in this state, which has n + 1 cases
pub record EndsIn (i : Inst) (g : ℕ → ℕ → ℕ) (q n budget : ℕ) (last : State) : Type 0 where
  pub states : ℕ
  pub within : states ≤ budget
  pub before : List State
  pub whole : walked i g q n states ≡ record { met = before ++ last ∷ []; left = [] }
  pub enough : length last.spots ≡ n + 1

-- the walk ends within the budget and meets no state with n + 1 cases; the marks are those of all its states
pub record EndsWith (i : Inst) (g : ℕ → ℕ → ℕ) (q n budget : ℕ) (marks : List Mark) : Type 0 where
  pub states : ℕ
  pub within : states ≤ budget
  pub met : List State
  pub whole : walked i g q n states ≡ record { met = met; left = [] }
  pub noted : marks ≡ map (mark_of i g q n) met
  pub none : NoneHas (n + 1) met

-- the layer has the cases of the state in which the walk ends
pub record HasLast (i : Inst) (g : ℕ → ℕ → ℕ) (q n budget : ℕ) (layer : Placed) : Type 0 where
  pub last : State
  pub ends : EndsIn i g q n budget last
  pub of_inst : layer.inst ≡ i
  pub cases : IsPermutation last.spots layer.spots

-- what each way to end says of the walk
abbrev pub Ends : Inst → (ℕ → ℕ → ℕ) → ℕ → ℕ → ℕ → Walk → Type 0
Ends i g q n budget (Refuted marks) = EndsWith i g q n budget marks
Ends i g q n budget (Found layer) = HasLast i g q n budget layer
Ends i g q n budget (Spent nodes) = (nodes ≡ budget + 1) × IsLonger i g q n budget

-- the same for the least weight of a case
pub record IsAnswer (i : Inst) (g : ℕ → ℕ → ℕ) (n budget : ℕ) (walk : Walk) : Type 0 where
  pub least : ℕ
  pub is_least : IsLeastWeight i g least
  pub ends : Ends i g least n budget walk

-- what follows for layouts: the marks refute n, and are no more than the budget; or the layer has n + 1 cases
abbrev pub Tells : Inst → (ℕ → ℕ → ℕ) → ℕ → ℕ → Walk → Type 0
Tells i g n budget (Refuted marks) = IsRefutation i g n marks × IsBounded i n × (length marks ≤ budget)
Tells i g n budget (Found layer) = IsLayer layer.inst layer.spots × (layer.inst ≡ i) × (length layer.spots ≡ n + 1)
Tells i g n budget (Spent nodes) = nodes ≡ budget + 1
