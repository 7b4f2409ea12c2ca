-- Sources and sinks in memory, and what one call of each does.
use Rattle.std.specs.Prelude.{ℕ, ◌-◌, ◌≤◌, ◌<◌, ◌≡◌, ◌==◌, ◌&&◌, ◌⊎◌, nat_lt, min, Bool, false, List, ◌++◌, length, take, drop, Contains, Result, Ok, Err}
use Rattle.plan_io.specs.Causes.{one_more}
use Rattle.plan_io.specs.Streams.{Intake, Outlet}
use Rattle.plan_io.specs.declared.streams.Failed.{Failed}

-- A source in memory: the bytes that it gave, those that are left, how many it gives a call at most, the numbers of the
-- calls that fail (from 1), how many calls there were, whether the last of them found the end of input, and how many of
-- them failed.
pub record Feed : Type 0 where
  pub given : List ℕ
  pub left : List ℕ
  pub piece : ℕ
  pub failing : List ℕ
  pub calls : ℕ
  pub ended : Bool
  pub faults : ℕ

-- A sink in memory: the bytes that it took, how many there is room for in all, and the rest as for a source.
pub record Store : Type 0 where
  pub taken : List ℕ
  pub room : ℕ
  pub piece : ℕ
  pub failing : List ℕ
  pub calls : ℕ
  pub faults : ℕ

abbrev pub feed_past : Feed → Intake
feed_past f = record { given = f.given; ended = f.ended; faults = f.faults }

abbrev pub store_past : Store → Outlet
store_past s = record { taken = s.taken; faults = s.faults }

-- A read into a place of this length fails exactly where the call's number is listed, and takes nothing then. Else
-- it gives the least of the piece, the place and what is left.
abbrev pub IsRead : Feed → ℕ → Feed → Result ℕ Failed → Type 0
IsRead old place new (Ok n) = (Contains old.failing (one_more old.calls) → ⊥)
    × (n ≡ min (min old.piece place) (length old.left))
    × (new ≡ record old { given = old.given ++ take n old.left; left = drop n old.left; calls = one_more old.calls; ended = (n == 0) && nat_lt 0 place })
IsRead old place new (Err e) = Contains old.failing (one_more old.calls)
    × (new ≡ record old { calls = one_more old.calls; ended = false; faults = one_more old.faults })

-- there are bytes to write, and room for none of them
abbrev pub IsFull : Store → List ℕ → Type 0
IsFull store bytes = (store.room ≤ length store.taken) × (0 < length bytes)

-- A write of these bytes fails exactly where the call's number is listed or there is no room for any of them, and
-- takes nothing then. Else it takes the least of the piece, the bytes and the room that is left.
abbrev pub IsWrite : Store → List ℕ → Store → Result ℕ Failed → Type 0
IsWrite old bytes new (Ok n) = (Contains old.failing (one_more old.calls) → ⊥)
    × (IsFull old bytes → ⊥)
    × (n ≡ min (min old.piece (length bytes)) (old.room - length old.taken))
    × (new ≡ record old { taken = old.taken ++ take n bytes; calls = one_more old.calls })
IsWrite old bytes new (Err e) = (Contains old.failing (one_more old.calls) ⊎ IsFull old bytes)
    × (new ≡ record old { calls = one_more old.calls; faults = one_more old.faults })
