-- What follows from what a run did, mode by mode and code by code.
use Rattle.std.proofs.Common.{◌≡◌, ◌≤◌, ℕ, [], inl, refl, sym, arith}
use Rattle.std.proofs.lemmas.List.{append-nil}
use Rattle.plan_io.specs.Causes.{Rose}
use Rattle.plan_io.specs.Streams.{Intake, Outlet}
use Rattle.run_parts.specs.declared.codes.Code.{Code}
use Rattle.run_parts.specs.declared.codes.Code.TheVariants.{Done, Findings, Usage, TooLong, NoHeader, TooManyRows, BadReport, ReadFault, WriteFault, Memory}
use Rattle.command_words.specs.declared.modes.Mode.{Mode}
use Rattle.command_words.specs.declared.modes.Mode.TheVariants.{Plan, Check, Upgrade, Choose, CheckChoice, Design, Floor, CheckFloor, Trial}
use Rattle.pallet_top.specs.Runs.{Ran, NothingIsWritten, FaultsHaveTheirCause, LinesAreOfBadReports}

-- a run that is refused memory before it touches its streams
pub memory_ran : (mode : Mode) (from : Intake) (to : Outlet) → Ran mode from to Memory 0 from to
memory_ran (Plan draw workers) from to = (record { read = []; wrote = []; given = sym (append-nil from.given); taken = sym (append-nil to.taken); source_later = omega arith; sink_later = omega arith; means = (inl refl, refl, omega arith) }, refl)
memory_ran (Check workers) from to = record { read = []; wrote = []; given = sym (append-nil from.given); taken = sym (append-nil to.taken); source_later = omega arith; sink_later = omega arith; means = (inl refl, refl, refl, omega arith, refl) }
memory_ran Upgrade from to = record { read = []; wrote = []; given = sym (append-nil from.given); taken = sym (append-nil to.taken); source_later = omega arith; sink_later = omega arith; means = (inl refl, refl, refl, omega arith, refl) }
memory_ran Choose from to = (record { read = []; wrote = []; given = sym (append-nil from.given); taken = sym (append-nil to.taken); source_later = omega arith; sink_later = omega arith; means = (inl refl, refl, omega arith) }, refl)
memory_ran CheckChoice from to = record { read = []; wrote = []; given = sym (append-nil from.given); taken = sym (append-nil to.taken); source_later = omega arith; sink_later = omega arith; means = (inl refl, refl, refl, omega arith, refl) }
memory_ran (Design workers) from to = (record { read = []; wrote = []; given = sym (append-nil from.given); taken = sym (append-nil to.taken); source_later = omega arith; sink_later = omega arith; means = (inl refl, refl, omega arith) }, refl)
memory_ran Floor from to = (record { read = []; wrote = []; given = sym (append-nil from.given); taken = sym (append-nil to.taken); source_later = omega arith; sink_later = omega arith; means = (inl refl, refl, omega arith) }, refl)
memory_ran CheckFloor from to = record { read = []; wrote = []; given = sym (append-nil from.given); taken = sym (append-nil to.taken); source_later = omega arith; sink_later = omega arith; means = (inl refl, refl, refl, omega arith, refl) }
memory_ran (Trial number) from to = (record { wrote = []; taken = sym (append-nil to.taken); sink_later = omega arith; means = refl }, (refl, refl))

pub nothing : NothingIsWritten
nothing (Plan draw workers) from to Done line from' to' ran w = absurd w
nothing (Plan draw workers) from to Findings line from' to' ran w = absurd w
nothing (Plan draw workers) from to Usage line from' to' ran w = absurd ran.0.means
nothing (Plan draw workers) from to TooLong line from' to' ran w = ran.0.means.1
nothing (Plan draw workers) from to NoHeader line from' to' ran w = ran.0.means.2
nothing (Plan draw workers) from to TooManyRows line from' to' ran w = ran.0.means.2
nothing (Plan draw workers) from to BadReport line from' to' ran w = absurd ran.0.means
nothing (Plan draw workers) from to ReadFault line from' to' ran w = ran.0.means.2
nothing (Plan draw workers) from to WriteFault line from' to' ran w = absurd w
nothing (Plan draw workers) from to Memory line from' to' ran w = absurd w
nothing (Check workers) from to Done line from' to' ran w = absurd w
nothing (Check workers) from to Findings line from' to' ran w = absurd w
nothing (Check workers) from to Usage line from' to' ran w = absurd ran.means
nothing (Check workers) from to TooLong line from' to' ran w = ran.means.1
nothing (Check workers) from to NoHeader line from' to' ran w = absurd ran.means
nothing (Check workers) from to TooManyRows line from' to' ran w = absurd ran.means
nothing (Check workers) from to BadReport line from' to' ran w = ran.means.1
nothing (Check workers) from to ReadFault line from' to' ran w = ran.means.2
nothing (Check workers) from to WriteFault line from' to' ran w = absurd w
nothing (Check workers) from to Memory line from' to' ran w = absurd w
nothing Upgrade from to Done line from' to' ran w = absurd w
nothing Upgrade from to Findings line from' to' ran w = absurd w
nothing Upgrade from to Usage line from' to' ran w = absurd ran.means
nothing Upgrade from to TooLong line from' to' ran w = ran.means.1
nothing Upgrade from to NoHeader line from' to' ran w = absurd ran.means
nothing Upgrade from to TooManyRows line from' to' ran w = absurd ran.means
nothing Upgrade from to BadReport line from' to' ran w = ran.means.1
nothing Upgrade from to ReadFault line from' to' ran w = ran.means.2
nothing Upgrade from to WriteFault line from' to' ran w = absurd w
nothing Upgrade from to Memory line from' to' ran w = absurd w
nothing Choose from to Done line from' to' ran w = absurd w
nothing Choose from to Findings line from' to' ran w = absurd w
nothing Choose from to Usage line from' to' ran w = absurd ran.0.means
nothing Choose from to TooLong line from' to' ran w = ran.0.means.1
nothing Choose from to NoHeader line from' to' ran w = ran.0.means.2
nothing Choose from to TooManyRows line from' to' ran w = ran.0.means.2
nothing Choose from to BadReport line from' to' ran w = absurd ran.0.means
nothing Choose from to ReadFault line from' to' ran w = ran.0.means.2
nothing Choose from to WriteFault line from' to' ran w = absurd w
nothing Choose from to Memory line from' to' ran w = absurd w
nothing CheckChoice from to Done line from' to' ran w = absurd w
nothing CheckChoice from to Findings line from' to' ran w = absurd w
nothing CheckChoice from to Usage line from' to' ran w = absurd ran.means
nothing CheckChoice from to TooLong line from' to' ran w = ran.means.1
nothing CheckChoice from to NoHeader line from' to' ran w = absurd ran.means
nothing CheckChoice from to TooManyRows line from' to' ran w = absurd ran.means
nothing CheckChoice from to BadReport line from' to' ran w = ran.means.1
nothing CheckChoice from to ReadFault line from' to' ran w = ran.means.2
nothing CheckChoice from to WriteFault line from' to' ran w = absurd w
nothing CheckChoice from to Memory line from' to' ran w = absurd w
nothing (Design workers) from to Done line from' to' ran w = absurd w
nothing (Design workers) from to Findings line from' to' ran w = absurd w
nothing (Design workers) from to Usage line from' to' ran w = absurd ran.0.means
nothing (Design workers) from to TooLong line from' to' ran w = ran.0.means.1
nothing (Design workers) from to NoHeader line from' to' ran w = ran.0.means.2
nothing (Design workers) from to TooManyRows line from' to' ran w = ran.0.means.2
nothing (Design workers) from to BadReport line from' to' ran w = absurd ran.0.means
nothing (Design workers) from to ReadFault line from' to' ran w = ran.0.means.2
nothing (Design workers) from to WriteFault line from' to' ran w = absurd w
nothing (Design workers) from to Memory line from' to' ran w = absurd w
nothing Floor from to Done line from' to' ran w = absurd w
nothing Floor from to Findings line from' to' ran w = absurd w
nothing Floor from to Usage line from' to' ran w = absurd ran.0.means
nothing Floor from to TooLong line from' to' ran w = ran.0.means.1
nothing Floor from to NoHeader line from' to' ran w = ran.0.means.2
nothing Floor from to TooManyRows line from' to' ran w = ran.0.means.2
nothing Floor from to BadReport line from' to' ran w = absurd ran.0.means
nothing Floor from to ReadFault line from' to' ran w = ran.0.means.2
nothing Floor from to WriteFault line from' to' ran w = absurd w
nothing Floor from to Memory line from' to' ran w = absurd w
nothing CheckFloor from to Done line from' to' ran w = absurd w
nothing CheckFloor from to Findings line from' to' ran w = absurd w
nothing CheckFloor from to Usage line from' to' ran w = absurd ran.means
nothing CheckFloor from to TooLong line from' to' ran w = ran.means.1
nothing CheckFloor from to NoHeader line from' to' ran w = absurd ran.means
nothing CheckFloor from to TooManyRows line from' to' ran w = absurd ran.means
nothing CheckFloor from to BadReport line from' to' ran w = ran.means.1
nothing CheckFloor from to ReadFault line from' to' ran w = ran.means.2
nothing CheckFloor from to WriteFault line from' to' ran w = absurd w
nothing CheckFloor from to Memory line from' to' ran w = absurd w
nothing (Trial number) from to Done line from' to' ran w = absurd w
nothing (Trial number) from to Findings line from' to' ran w = absurd w
nothing (Trial number) from to Usage line from' to' ran w = absurd ran.0.means
nothing (Trial number) from to TooLong line from' to' ran w = absurd ran.0.means
nothing (Trial number) from to NoHeader line from' to' ran w = absurd ran.0.means
nothing (Trial number) from to TooManyRows line from' to' ran w = absurd ran.0.means
nothing (Trial number) from to BadReport line from' to' ran w = absurd ran.0.means
nothing (Trial number) from to ReadFault line from' to' ran w = absurd ran.0.means
nothing (Trial number) from to WriteFault line from' to' ran w = absurd w
nothing (Trial number) from to Memory line from' to' ran w = absurd w

-- the cause of a fault, by the mode
read_cause : (mode : Mode) (from : Intake) (to : Outlet) (line : ℕ) (from' : Intake) (to' : Outlet) → Ran mode from to ReadFault line from' to' → Rose from.faults from'.faults
read_cause (Plan draw workers) from to line from' to' ran = ran.0.means.1
read_cause (Check workers) from to line from' to' ran = ran.means.1
read_cause Upgrade from to line from' to' ran = ran.means.1
read_cause Choose from to line from' to' ran = ran.0.means.1
read_cause CheckChoice from to line from' to' ran = ran.means.1
read_cause (Design workers) from to line from' to' ran = ran.0.means.1
read_cause Floor from to line from' to' ran = ran.0.means.1
read_cause CheckFloor from to line from' to' ran = ran.means.1
read_cause (Trial number) from to line from' to' ran = absurd ran.0.means

write_cause : (mode : Mode) (from : Intake) (to : Outlet) (line : ℕ) (from' : Intake) (to' : Outlet) → Ran mode from to WriteFault line from' to' → Rose to.faults to'.faults
write_cause (Plan draw workers) from to line from' to' ran = ran.0.means.2
write_cause (Check workers) from to line from' to' ran = ran.means.2
write_cause Upgrade from to line from' to' ran = ran.means.2
write_cause Choose from to line from' to' ran = ran.0.means.2
write_cause CheckChoice from to line from' to' ran = ran.means.2
write_cause (Design workers) from to line from' to' ran = ran.0.means.2
write_cause Floor from to line from' to' ran = ran.0.means.2
write_cause CheckFloor from to line from' to' ran = ran.means.2
write_cause (Trial number) from to line from' to' ran = ran.0.means.1

source_later : (mode : Mode) (from : Intake) (to : Outlet) (code : Code) (line : ℕ) (from' : Intake) (to' : Outlet) → Ran mode from to code line from' to' → from.faults ≤ from'.faults
source_later (Plan draw workers) from to code line from' to' ran = ran.0.source_later
source_later (Check workers) from to code line from' to' ran = ran.source_later
source_later Upgrade from to code line from' to' ran = ran.source_later
source_later Choose from to code line from' to' ran = ran.0.source_later
source_later CheckChoice from to code line from' to' ran = ran.source_later
source_later (Design workers) from to code line from' to' ran = ran.0.source_later
source_later Floor from to code line from' to' ran = ran.0.source_later
source_later CheckFloor from to code line from' to' ran = ran.source_later
source_later (Trial number) from to code line from' to' ran = rw ran.1.0 (omega arith)

sink_later : (mode : Mode) (from : Intake) (to : Outlet) (code : Code) (line : ℕ) (from' : Intake) (to' : Outlet) → Ran mode from to code line from' to' → to.faults ≤ to'.faults
sink_later (Plan draw workers) from to code line from' to' ran = ran.0.sink_later
sink_later (Check workers) from to code line from' to' ran = ran.sink_later
sink_later Upgrade from to code line from' to' ran = ran.sink_later
sink_later Choose from to code line from' to' ran = ran.0.sink_later
sink_later CheckChoice from to code line from' to' ran = ran.sink_later
sink_later (Design workers) from to code line from' to' ran = ran.0.sink_later
sink_later Floor from to code line from' to' ran = ran.0.sink_later
sink_later CheckFloor from to code line from' to' ran = ran.sink_later
sink_later (Trial number) from to code line from' to' ran = ran.0.sink_later

read_of : (mode : Mode) (from : Intake) (to : Outlet) (code : Code) (line : ℕ) (from' : Intake) (to' : Outlet) → Ran mode from to code line from' to' → code ≡ ReadFault → Rose from.faults from'.faults
read_of mode from to Done line from' to' ran e = absurd cc
read_of mode from to Findings line from' to' ran e = absurd cc
read_of mode from to Usage line from' to' ran e = absurd cc
read_of mode from to TooLong line from' to' ran e = absurd cc
read_of mode from to NoHeader line from' to' ran e = absurd cc
read_of mode from to TooManyRows line from' to' ran e = absurd cc
read_of mode from to BadReport line from' to' ran e = absurd cc
read_of mode from to ReadFault line from' to' ran e = read_cause mode from to line from' to' ran
read_of mode from to WriteFault line from' to' ran e = absurd cc
read_of mode from to Memory line from' to' ran e = absurd cc

write_of : (mode : Mode) (from : Intake) (to : Outlet) (code : Code) (line : ℕ) (from' : Intake) (to' : Outlet) → Ran mode from to code line from' to' → code ≡ WriteFault → Rose to.faults to'.faults
write_of mode from to Done line from' to' ran e = absurd cc
write_of mode from to Findings line from' to' ran e = absurd cc
write_of mode from to Usage line from' to' ran e = absurd cc
write_of mode from to TooLong line from' to' ran e = absurd cc
write_of mode from to NoHeader line from' to' ran e = absurd cc
write_of mode from to TooManyRows line from' to' ran e = absurd cc
write_of mode from to BadReport line from' to' ran e = absurd cc
write_of mode from to ReadFault line from' to' ran e = absurd cc
write_of mode from to WriteFault line from' to' ran e = write_cause mode from to line from' to' ran
write_of mode from to Memory line from' to' ran e = absurd cc

pub causes : FaultsHaveTheirCause
causes mode from to code line from' to' ran = record {
  read = read_of mode from to code line from' to' ran;
  write = write_of mode from to code line from' to' ran;
  source_later = source_later mode from to code line from' to' ran;
  sink_later = sink_later mode from to code line from' to' ran;
}

pub lines : LinesAreOfBadReports
lines (Plan draw workers) from to code line from' to' ran other = ran.1
lines (Check workers) from to Done line from' to' ran other = ran.means.2
lines (Check workers) from to Findings line from' to' ran other = ran.means.2
lines (Check workers) from to Usage line from' to' ran other = absurd ran.means
lines (Check workers) from to TooLong line from' to' ran other = ran.means.2
lines (Check workers) from to NoHeader line from' to' ran other = absurd ran.means
lines (Check workers) from to TooManyRows line from' to' ran other = absurd ran.means
lines (Check workers) from to BadReport line from' to' ran other = absurd (other refl)
lines (Check workers) from to ReadFault line from' to' ran other = ran.means.3
lines (Check workers) from to WriteFault line from' to' ran other = ran.means.3
lines (Check workers) from to Memory line from' to' ran other = ran.means.4
lines Upgrade from to Done line from' to' ran other = ran.means.2
lines Upgrade from to Findings line from' to' ran other = absurd ran.means
lines Upgrade from to Usage line from' to' ran other = absurd ran.means
lines Upgrade from to TooLong line from' to' ran other = ran.means.2
lines Upgrade from to NoHeader line from' to' ran other = absurd ran.means
lines Upgrade from to TooManyRows line from' to' ran other = absurd ran.means
lines Upgrade from to BadReport line from' to' ran other = absurd (other refl)
lines Upgrade from to ReadFault line from' to' ran other = ran.means.3
lines Upgrade from to WriteFault line from' to' ran other = ran.means.3
lines Upgrade from to Memory line from' to' ran other = ran.means.4
lines Choose from to code line from' to' ran other = ran.1
lines CheckChoice from to Done line from' to' ran other = ran.means.2
lines CheckChoice from to Findings line from' to' ran other = ran.means.2
lines CheckChoice from to Usage line from' to' ran other = absurd ran.means
lines CheckChoice from to TooLong line from' to' ran other = ran.means.2
lines CheckChoice from to NoHeader line from' to' ran other = absurd ran.means
lines CheckChoice from to TooManyRows line from' to' ran other = absurd ran.means
lines CheckChoice from to BadReport line from' to' ran other = absurd (other refl)
lines CheckChoice from to ReadFault line from' to' ran other = ran.means.3
lines CheckChoice from to WriteFault line from' to' ran other = ran.means.3
lines CheckChoice from to Memory line from' to' ran other = ran.means.4
lines (Design workers) from to code line from' to' ran other = ran.1
lines Floor from to code line from' to' ran other = ran.1
lines CheckFloor from to Done line from' to' ran other = ran.means.2
lines CheckFloor from to Findings line from' to' ran other = ran.means.2
lines CheckFloor from to Usage line from' to' ran other = absurd ran.means
lines CheckFloor from to TooLong line from' to' ran other = ran.means.2
lines CheckFloor from to NoHeader line from' to' ran other = absurd ran.means
lines CheckFloor from to TooManyRows line from' to' ran other = absurd ran.means
lines CheckFloor from to BadReport line from' to' ran other = absurd (other refl)
lines CheckFloor from to ReadFault line from' to' ran other = ran.means.3
lines CheckFloor from to WriteFault line from' to' ran other = ran.means.3
lines CheckFloor from to Memory line from' to' ran other = ran.means.4
lines (Trial number) from to code line from' to' ran other = ran.1.1
