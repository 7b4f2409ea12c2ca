-- A run that got no report, as a run of each mode.
use Rattle.std.proofs.Common.{ℕ, List, [], sym, refl, inl, arith}
use Rattle.std.proofs.lemmas.List.{append-nil}
use Rattle.plan_io.specs.Streams.{Intake, Outlet}
use Rattle.run_parts.specs.declared.codes.Code.{Code}
use Rattle.run_parts.specs.declared.codes.Code.TheVariants.{Done, Findings, Usage, TooLong, NoHeader, TooManyRows, BadReport, ReadFault, WriteFault, Memory}
use Rattle.report_reading.specs.Reading.{NoReportMeans, GotNoReport}
use Rattle.check_mode.specs.Checks.{CheckMeans, CheckRan}
use Rattle.check_mode.specs.Upgrades.{UpgradeMeans, UpgradeRan}

check-means : (from : Intake) (to : Outlet) (code : Code) (line : ℕ) (from' : Intake) (read : List ℕ) → NoReportMeans code line read from from' → CheckMeans code line read [] from from' to to
check-means from to Done line from' read m = absurd m
check-means from to Findings line from' read m = absurd m
check-means from to Usage line from' read m = absurd m
check-means from to TooLong line from' read m = (m.0, refl, m.1)
check-means from to NoHeader line from' read m = absurd m
check-means from to TooManyRows line from' read m = absurd m
check-means from to BadReport line from' read m = (m.0, refl, m.1)
check-means from to ReadFault line from' read m = (m.0, m.1, refl, m.2)
check-means from to WriteFault line from' read m = absurd m
check-means from to Memory line from' read m = (inl refl, refl, m.0, m.1, m.2)

pub check-none : (from : Intake) (to : Outlet) (code : Code) (line : ℕ) (from' : Intake) → GotNoReport from code line from' → CheckRan from to code line from' to
check-none from to code line from' none = record {
  read = none.read;
  wrote = [];
  given = none.given;
  taken = sym (append-nil to.taken);
  source_later = none.later;
  sink_later = omega arith;
  means = check-means from to code line from' none.read none.means;
}

upgrade-means : (from : Intake) (to : Outlet) (code : Code) (line : ℕ) (from' : Intake) (read : List ℕ) → NoReportMeans code line read from from' → UpgradeMeans code line read [] from from' to to
upgrade-means from to Done line from' read m = absurd m
upgrade-means from to Findings line from' read m = absurd m
upgrade-means from to Usage line from' read m = absurd m
upgrade-means from to TooLong line from' read m = (m.0, refl, m.1)
upgrade-means from to NoHeader line from' read m = absurd m
upgrade-means from to TooManyRows line from' read m = absurd m
upgrade-means from to BadReport line from' read m = (m.0, refl, m.1)
upgrade-means from to ReadFault line from' read m = (m.0, m.1, refl, m.2)
upgrade-means from to WriteFault line from' read m = absurd m
upgrade-means from to Memory line from' read m = (inl refl, refl, m.0, m.1, m.2)

pub upgrade-none : (from : Intake) (to : Outlet) (code : Code) (line : ℕ) (from' : Intake) → GotNoReport from code line from' → UpgradeRan from to code line from' to
upgrade-none from to code line from' none = record {
  read = none.read;
  wrote = [];
  given = none.given;
  taken = sym (append-nil to.taken);
  source_later = none.later;
  sink_later = omega arith;
  means = upgrade-means from to code line from' none.read none.means;
}
