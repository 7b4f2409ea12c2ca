-- What reading a mark tells.
use Rattle.std.specs.Prelude.{ℕ, ◌↔◌, List, [], ◌∷◌}
use Rattle.cert_rules.specs.Corner.{State}
use Rattle.cert_rules.specs.Path.{Path}
use Rattle.weightings.specs.Weighting.{weight_of}
use Rattle.cert_rules.specs.Waiting.{todo}
use Rattle.cert_rules.specs.Refute.{RefutesEach}
use Rattle.weightings.specs.declared.certs.Mark.{Mark}
use Rattle.cert_rules.specs.declared.marks.Reading.{Reading}
use Rattle.cert_rules.specs.declared.marks.Reading.TheVariants.{Wrong, More, Ended}

-- the marks refute the states that a path has to do
abbrev pub RefuteTodo : Path → ℕ → List State → List Mark → Type 0
RefuteTodo p n ss ms = RefutesEach p.inst (weight_of p.weighting) p.least n ss ms

-- whatever marks follow, what the mark refutes of the states to do
abbrev pub Reads : Path → Path → ℕ → Mark → Reading → Type 0
Reads old new n m Wrong = (ms : List Mark) → RefuteTodo old n (todo old.inst old.steps) (m ∷ ms) → ⊥
Reads old new n m More =
    (ms : List Mark)
    → RefuteTodo old n (todo old.inst old.steps) (m ∷ ms) ↔ RefuteTodo old n (todo new.inst new.steps) ms
Reads old new n m Ended =
    (ms : List Mark) → RefuteTodo old n (todo old.inst old.steps) (m ∷ ms) ↔ RefuteTodo old n [] ms
