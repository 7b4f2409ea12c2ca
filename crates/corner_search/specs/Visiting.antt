-- What a visit, and the visits within a budget, tell.
use Rattle.std.specs.Prelude.{◌≡◌, ◌≢◌, ℕ, ◌+◌, List, [], ◌∷◌, ◌++◌, length}
use Rattle.weightings.specs.declared.certs.Mark.{Mark}
use Rattle.weightings.specs.Weighting.{weight_of}
use Rattle.cert_rules.specs.Corner.{State}
use Rattle.cert_rules.specs.Path.{Path, state}
use Rattle.cert_rules.specs.Waiting.{todo, waiting}
use Rattle.cert_rules.specs.Walk.{left_after, mark_of, IsLonger}
use Rattle.corner_search.specs.Search.{EndsIn, EndsWith}
use Rattle.corner_search.specs.declared.search.Visit.{Visit}
use Rattle.corner_search.specs.declared.search.Visit.TheVariants.{Enough, More, Ended}
use Rattle.corner_search.specs.declared.search.Outcome.{Outcome}
use Rattle.corner_search.specs.declared.search.Outcome.TheVariants.{Enough as HadEnough, Ended as HasEnded, Spent as HasSpent}

-- the states that are left after the state of a path
abbrev pub left_behind : Path → ℕ → List State
left_behind p n = left_after p.inst (weight_of p.weighting) p.least n (state p) (waiting p.inst p.steps)

-- the marks with that of the state behind them
abbrev pub marked : Path → ℕ → List Mark → List Mark
marked p n marks = marks ++ mark_of p.inst (weight_of p.weighting) p.least n (state p) ∷ []

-- what the visit of the state of a path tells
abbrev pub Visits : Path → Path → ℕ → List Mark → List Mark → Visit → Type 0
Visits old new n marks all Enough = (length (state old).spots ≡ n + 1) × (new ≡ old)
Visits old new n marks all More =
    (length (state old).spots ≢ n + 1) × (left_behind old n ≡ todo new.inst new.steps) × (all ≡ marked old n marks)
Visits old new n marks all Ended =
    (length (state old).spots ≢ n + 1) × (left_behind old n ≡ []) × (all ≡ marked old n marks)

-- how the visits from the start on end
abbrev pub Concludes : Path → Path → ℕ → ℕ → List Mark → Outcome → Type 0
Concludes old new n budget marks HadEnough = EndsIn old.inst (weight_of old.weighting) old.least n budget (state new)
Concludes old new n budget marks HasEnded = EndsWith old.inst (weight_of old.weighting) old.least n budget marks
Concludes old new n budget marks HasSpent = IsLonger old.inst (weight_of old.weighting) old.least n budget
