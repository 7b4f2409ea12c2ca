use Rattle.std.proofs.Common.{inl, inr, refl, arith}
use Rattle.run_parts.specs.declared.codes.Code.TheVariants.{Done, Findings, Usage, TooLong, NoHeader, TooManyRows, BadReport, ReadFault, WriteFault, Memory}
use Rattle.check_mode.specs.Upgrades.{UpgradesAreComplete}
use Rattle.check_mode.proofs.laws.upgrades_are_complete.Goals as goal

complete : UpgradesAreComplete
complete from to Done line from' to' ran calm still (r, has) = inl refl
complete from to Findings line from' to' ran calm still (r, has) = absurd ran.means
complete from to Usage line from' to' ran calm still (r, has) = absurd ran.means
complete from to TooLong line from' to' ran calm still (r, has) = absurd (omega (arith, ran.means.0, has.few_bytes))
complete from to NoHeader line from' to' ran calm still (r, has) = absurd ran.means
complete from to TooManyRows line from' to' ran calm still (r, has) = absurd ran.means
complete from to BadReport line from' to' ran calm still (r, has) = absurd (ran.means.2.none r has.is_report)
complete from to ReadFault line from' to' ran calm still (r, has) = absurd (calm ran.means.1)
complete from to WriteFault line from' to' ran calm still (r, has) = absurd (still ran.means.2)
complete from to Memory line from' to' ran calm still (r, has) = inr refl

pub returns : goal.returns
returns c = complete
