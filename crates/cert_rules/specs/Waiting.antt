-- The states that wait while a walk stands at the end of a path.
use Rattle.std.specs.Prelude.{◌≡◌, IsTrue, Option, Some, None, List, [], ◌∷◌, ◌++◌, map, filter}
use Rattle.cert_rules.specs.Corner.{State, state_of, allows, after}
use Rattle.cert_rules.specs.Path.{Path}
use Rattle.plan_geometry.specs.declared.instances.Inst.{Inst}
use Rattle.cert_rules.specs.declared.steps.Step.{Step}
use Rattle.cert_rules.specs.declared.steps.Step.TheVariants.{Lying, Standing, Waste}

-- the moves behind a move
abbrev pub later : Step → List Step
later Lying = Standing ∷ Waste ∷ []
later Standing = Waste ∷ []
later Waste = []

-- the states after those moves of a list that the state has
abbrev pub children_by : Inst → State → List Step → List State
children_by i s ms = map (after i s) (filter (allows i s.heights) ms)

-- the states that wait behind the end of a path: the later children along it, the deepest first
abbrev pub waiting : Inst → List Step → List State
waiting i [] = []
waiting i (m ∷ older) = children_by i (state_of i older) (later m) ++ waiting i older

-- the state at the end of the path, and those that wait
abbrev pub todo : Inst → List Step → List State
todo i steps = state_of i steps ∷ waiting i steps

-- the first of the moves that the state has, all of them being from one move on
abbrev pub IsFirstMove : Inst → State → List Step → Option Step → Type 0
IsFirstMove i s ms None = children_by i s ms ≡ []
IsFirstMove i s ms (Some m) =
    IsTrue (allows i s.heights m) × (children_by i s ms ≡ after i s m ∷ children_by i s (later m))

-- the same but for the steps
pub record SameButSteps (old new : Path) : Type 0 where
  pub inst : new.inst ≡ old.inst
  pub weighting : new.weighting ≡ old.weighting
  pub least : new.least ≡ old.least
