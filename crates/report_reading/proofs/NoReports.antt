-- A run that got no report.
use Rattle.std.proofs.Common.{◌≡◌, ℕ, List, sym, subst}
use Rattle.plan_io.specs.Streams.{Intake, at_end}
use Rattle.run_parts.specs.declared.codes.Code.{Code}
use Rattle.report_reading.specs.Reading.{GotNoReport}

-- the same of bytes that were read to their end
pub none-at-end : (from : Intake) (code : Code) (line : ℕ) (from' : Intake) (bytes same : List ℕ) → same ≡ bytes → from' ≡ at_end from bytes
    → ((start : Intake) → GotNoReport start code line (at_end start same)) → GotNoReport from code line from'
none-at-end from code line from' bytes same is past none =
    subst (λ p. GotNoReport from code line p) (sym past) (subst (λ bs. GotNoReport from code line (at_end from bs)) is (none from))
