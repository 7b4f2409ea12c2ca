-- What contracts see of a skyline.
use Rattle.std.specs.Prelude.{ℕ, ◌<◌, IsTrue, List, [], ◌∷◌}
use Rattle.plan_geometry.specs.declared.instances.Inst.{Inst}
use Rattle.weightings.specs.declared.kinds.Weighting.{Weighting}
use Rattle.weightings.specs.Weighting.{weight_of, IsLeastWeight}
use Rattle.cert_rules.specs.declared.steps.Step.{Step}
use Rattle.cert_rules.specs.Corner.{State, state_of, allows}

-- an instance, a weighting with the least weight of a case, and the list of steps, the newest first
pub record Path : Type 0 where
  pub inst : Inst
  pub weighting : Weighting
  pub least : ℕ
  pub steps : List Step

-- each step is a move of the state before it
abbrev pub IsLawfulPath : Inst → List Step → Type 0
IsLawfulPath i [] = Unit {0}
IsLawfulPath i (m ∷ older) = IsTrue (allows i (state_of i older).heights m) × IsLawfulPath i older

-- what each skyline is
pub record IsPath (p : Path) : Type 0 where
  pub is_least : IsLeastWeight p.inst (weight_of p.weighting) p.least
  pub some : 0 < p.least
  pub lawful : IsLawfulPath p.inst p.steps

-- the state of a path
abbrev pub state : Path → State
state p = state_of p.inst p.steps
