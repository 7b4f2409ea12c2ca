-- The walk over the states of an instance, in preorder.
use Rattle.std.specs.Prelude.{◌≢◌, ℕ, ◌+◌, ◌/◌, ◌==◌, Bool, nat_le, if◌then◌else◌, List, [], ◌∷◌, ◌++◌, length}
use Rattle.std.proofs.Common.{zero, suc}
use Rattle.cert_rules.specs.Corner.{State, start, children, above}
use Rattle.plan_geometry.specs.declared.instances.Inst.{Inst}
use Rattle.weightings.specs.declared.certs.Mark.{Mark}
use Rattle.weightings.specs.declared.certs.Mark.TheVariants.{Branch, Leaf}

-- whether the state is a leaf
abbrev pub is_leaf : Inst → (ℕ → ℕ → ℕ) → ℕ → ℕ → State → Bool
is_leaf i g q n s = nat_le (length s.spots + above i g s / q) n

-- the states met so far, in order, and those still to be met, the next one first
pub record Progress : Type 0 where
  pub met : List State
  pub left : List State

-- the states to be met after a state with others behind it: none where it has n + 1 cases,
-- only the others where it is a leaf, else first its children
abbrev pub left_after : Inst → (ℕ → ℕ → ℕ) → ℕ → ℕ → State → List State → List State
left_after i g q n s others =
    if length s.spots == n + 1 then [] else (if is_leaf i g q n s then others else children i s ++ others)

-- one more state is met, where one is left
abbrev pub met_one : Inst → (ℕ → ℕ → ℕ) → ℕ → ℕ → List State → List State → Progress
met_one i g q n met [] = record { met = met; left = [] }
met_one i g q n met (s ∷ others) = record { met = met ++ s ∷ []; left = left_after i g q n s others }

-- the walk after k states
abbrev pub walked : Inst → (ℕ → ℕ → ℕ) → ℕ → ℕ → ℕ → Progress
walked i g q n zero = record { met = []; left = start i ∷ [] }
walked i g q n (suc k) = met_one i g q n (walked i g q n k).met (walked i g q n k).left

-- the walk has more than k states
abbrev pub IsLonger : Inst → (ℕ → ℕ → ℕ) → ℕ → ℕ → ℕ → Type 0
IsLonger i g q n k = (walked i g q n k).left ≢ []

-- the mark of a state
abbrev pub mark_of : Inst → (ℕ → ℕ → ℕ) → ℕ → ℕ → State → Mark
mark_of i g q n s = if is_leaf i g q n s then Leaf else Branch

-- no state of the list has m cases
abbrev pub NoneHas : ℕ → List State → Type 0
NoneHas m [] = Unit {0}
NoneHas m (s ∷ ss) = (length s.spots ≢ m) × NoneHas m ss
