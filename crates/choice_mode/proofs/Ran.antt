-- A run of `check-choice` that read the text of a choice to its end.
use Rattle.std.proofs.Common.{◌≡◌, ◌≤◌, ℕ, true, List, ◌++◌, ap, arith, refl}
use Rattle.std.specs.Prelude.{Bool, not}
use Rattle.plan_io.specs.Streams.{Intake, Outlet, at_end}
use Rattle.run_parts.specs.declared.codes.Code.{Code}
use Rattle.report_checker.specs.declared.verdicts.Verdict.{Verdict}
use Rattle.par_judge.specs.Judged.{AreVerdicts}
use Rattle.choice_text.specs.Text.{ChoiceFile}
use Rattle.choice_mode.specs.Reading.{HasChoice}
use Rattle.choice_mode.specs.Judging.{TellsRight, ChoiceJudged, judgement_text}
use Rattle.choice_mode.specs.CheckRuns.{CheckChoiceMeans, CheckChoiceRan}

pub choice-read : (from : Intake) (to : Outlet) (code : Code) (from' : Intake) (to' : Outlet) (bytes wrote : List ℕ)
    → from' ≡ at_end from bytes → to'.taken ≡ to.taken ++ wrote → to.faults ≤ to'.faults
    → (from'.ended ≡ true → CheckChoiceMeans code 0 bytes wrote from from' to to') → CheckChoiceRan from to code 0 from' to'
choice-read from to code from' to' bytes wrote past taken later means = record {
  read = bytes;
  wrote = wrote;
  given = ap (λ p. p.given) past;
  taken = taken;
  source_later = omega (arith, ap (λ p. p.faults) past);
  sink_later = later;
  means = means (ap (λ p. p.ended) past);
}

pub judged : (bytes : List ℕ) (f : ChoiceFile) (vs : List Verdict) (right : Bool) → HasChoice bytes f → AreVerdicts f.entries vs → TellsRight f vs right → ChoiceJudged bytes (judgement_text f.entries vs right) (not right)
judged bytes f vs right has are tells = record {
  file = f;
  has_choice = has;
  verdicts = vs;
  are_verdicts = are;
  right = right;
  is_right = tells;
  text = refl;
  finding = refl;
}
