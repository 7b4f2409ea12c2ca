-- What a source or a sink did so far, by its calls alone, and what one more call does.
use Rattle.std.specs.Prelude.{ℕ, ◌<◌, ◌≤◌, ◌≡◌, ◌==◌, ◌&&◌, Bool, true, false, nat_lt, List, [], ◌++◌, length, take, Result, Ok, Err, IfOk}
use Rattle.plan_io.specs.Causes.{one_more}

-- all bytes that its calls gave, in order; whether the last call found the end of input; how many calls failed
pub record Intake : Type 0 where
  pub given : List ℕ
  pub ended : Bool
  pub faults : ℕ

-- all bytes that its calls took, in order; how many calls failed
pub record Outlet : Type 0 where
  pub taken : List ℕ
  pub faults : ℕ

abbrev pub new_intake : Intake
new_intake = record { given = []; ended = false; faults = 0 }

abbrev pub new_outlet : Outlet
new_outlet = record { taken = []; faults = 0 }

-- a read of no byte is the end of input, unless its place had no room
abbrev pub is_end : ℕ → List ℕ → Bool
is_end n place = (n == 0) && nat_lt 0 (length place)

-- after a read with this answer, which left these bytes in its place
abbrev pub after_read : {E : Type 0} → Intake → List ℕ → Result ℕ E → Intake
after_read past place (Ok n) = record { given = past.given ++ take n place; ended = is_end n place; faults = past.faults }
after_read past place (Err e) = record { given = past.given; ended = false; faults = one_more past.faults }

-- after a write of this piece with this answer
abbrev pub after_write : {E : Type 0} → Outlet → List ℕ → Result ℕ E → Outlet
after_write past piece (Ok n) = record { taken = past.taken ++ take n piece; faults = past.faults }
after_write past piece (Err e) = record { taken = past.taken; faults = one_more past.faults }

-- a write that works takes at most the whole piece, and at least one byte of a piece that has one
abbrev pub TakesSome : {E : Type 0} → Result ℕ E → List ℕ → Type 0
TakesSome result piece = IfOk result (λ n. (n ≤ length piece) × (0 < length piece → 1 ≤ n))

-- after these bytes were given, and then the end of input
abbrev pub at_end : Intake → List ℕ → Intake
at_end past bytes = record { given = past.given ++ bytes; ended = true; faults = past.faults }

-- so many bytes were given
pub record GaveCount (old new : Intake) (n : ℕ) : Type 0 where
  pub bytes : List ℕ
  pub gave : new.given ≡ old.given ++ bytes
  pub count : length bytes ≡ n

-- at most so many bytes were given
pub record GaveAtMost (old new : Intake) (n : ℕ) : Type 0 where
  pub bytes : List ℕ
  pub gave : new.given ≡ old.given ++ bytes
  pub few : length bytes ≤ n

-- after these bytes were taken
abbrev pub with_bytes : Outlet → List ℕ → Outlet
with_bytes past bytes = record { taken = past.taken ++ bytes; faults = past.faults }

-- after these bytes were taken, and then a write failed
abbrev pub broken_off : Outlet → List ℕ → Outlet
broken_off past bytes = record { taken = past.taken ++ bytes; faults = one_more past.faults }
