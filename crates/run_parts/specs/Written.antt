-- What was written of a text.
use Rattle.std.specs.Prelude.{ℕ, ◌≡◌, List, ◌++◌}
use Rattle.plan_io.specs.Streams.{Outlet, with_bytes}

-- the whole text was written
abbrev pub Wrote : Outlet → Outlet → List ℕ → Type 0
Wrote old new text = new ≡ with_bytes old text

-- these are the first bytes of a text
abbrev pub IsPrefixOf : List ℕ → List ℕ → Type 0
IsPrefixOf text front = (rest : List ℕ) × (text ≡ front ++ rest)

-- some first bytes of the text were written
pub record WrotePart (old new : Outlet) (text : List ℕ) : Type 0 where
  pub sent : List ℕ
  pub front : IsPrefixOf text sent
  pub wrote : new.taken ≡ old.taken ++ sent
