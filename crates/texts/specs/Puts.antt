-- What a function that appends a text did.
use Rattle.std.specs.Prelude.{◌≡◌, ℕ, List, ◌++◌, Result, Ok, Err}

-- the new text is the old one, and something more
abbrev pub Grows : List ℕ → List ℕ → Type 0
Grows old new = (more : List ℕ) × (new ≡ old ++ more)

-- it appended this text, or something where it failed
abbrev pub Puts : {X E : Type 0} → List ℕ → List ℕ → List ℕ → Result X E → Type 0
Puts old new text (Ok x) = new ≡ old ++ text
Puts old new text (Err e) = Grows old new
