-- What passed the streams of a run, against what its reader and its writer tell.
use Rattle.std.specs.Prelude.{ℕ, ◌≡◌, true, List, Option}
use Rattle.std.specs.Io.KnownBytes.{Consumes, Appends, IsAtEnd}
use Rattle.plan_io.specs.Streams.{Intake, Outlet}

-- the bytes that were given are the first of those that were left, and all of them where the end of input was found
pub record WasFed (start now : Option (List ℕ)) (past : Intake) : Type 0 where
  pub first : Consumes start now past.given
  pub end : past.ended ≡ true → IsAtEnd now

-- the bytes that were taken stand after those that were held
abbrev pub HasFed : Option (List ℕ) → Option (List ℕ) → Outlet → Type 0
HasFed start now past = Appends start now past.taken
