-- The right verdicts of entries.
use Rattle.std.specs.Prelude.{◌≡◌, List}
use Rattle.plan_entries.specs.declared.entries.Entry.{Entry}
use Rattle.report_checker.specs.declared.verdicts.Verdict.{Verdict}
use Rattle.report_checker.specs.Verdicts.{IsVerdict}
use Rattle.par_judge.specs.Paired.{ArePaired}

-- as many verdicts as entries, each that of the entry at its place
abbrev pub AreVerdicts : List Entry → List Verdict → Type 0
AreVerdicts entries verdicts = ArePaired IsVerdict entries verdicts

-- no other list is right, whoever and however many judge
abbrev pub AreOnlyVerdicts : List Entry → List Verdict → Type 0
AreOnlyVerdicts entries verdicts = (others : List Verdict) → AreVerdicts entries others → others ≡ verdicts
