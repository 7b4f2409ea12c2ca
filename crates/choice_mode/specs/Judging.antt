-- What `check-choice` says of the text of a choice: the verdicts of its entries, and whether the choice is right.
use Rattle.std.specs.Prelude.{ℕ, ◌≡◌, ◌⊎◌, ◌↔◌, Bool, true, false, not, List, [], ◌++◌, length, codes, Option}
use Rattle.texts.specs.Lines.{ended}
use Rattle.run_parts.specs.Written.{IsPrefixOf}
use Rattle.plan_entries.specs.declared.entries.Entry.{Entry}
use Rattle.report_text.specs.Reports.{done_text}
use Rattle.report_checker.specs.declared.verdicts.Verdict.{Verdict}
use Rattle.par_judge.specs.Judged.{AreVerdicts}
use Rattle.pallet_choice.specs.declared.choices.Score.{Score}
use Rattle.pallet_choice.specs.Choices.{IsChoice}
use Rattle.pallet_choice.specs.Text.{told_of_both}
use Rattle.choice_text.specs.Text.{ChoiceFile}
use Rattle.check_mode.specs.Verdicts.{AreFirstVerdicts, any_no, verdict_lines}
use Rattle.choice_mode.specs.Scores.{scores_of}
use Rattle.choice_mode.specs.Reading.{HasChoice}

-- no verdict is no, and what the text tells is the choice among its planned entries
pub record IsRightChoice (f : ChoiceFile) (verdicts : List Verdict) : Type 0 where
  pub no_no : any_no verdicts ≡ false
  pub chosen : Option Score
  pub rivals : List Score
  pub is_choice : IsChoice (scores_of f.entries) chosen rivals
  pub tail : f.tail ≡ told_of_both chosen rivals

-- so says the judge of it
abbrev pub TellsRight : ChoiceFile → List Verdict → Bool → Type 0
TellsRight f verdicts right = IsRightChoice f verdicts ↔ (right ≡ true)

-- the line that says it
abbrev pub choice_line : Bool → List ℕ
choice_line true = ended (codes "choice yes")
choice_line false = ended (codes "choice no")

-- what stands behind the verdicts: that line, and the number of entries
abbrev pub choice_end : List Entry → Bool → List ℕ
choice_end entries right = choice_line right ++ done_text (length entries)

-- the whole text
abbrev pub judgement_text : List Entry → List Verdict → Bool → List ℕ
judgement_text entries verdicts right = verdict_lines entries verdicts ++ choice_end entries right

-- What was read is the text of a choice; the verdicts of all its entries were written, then whether it is right, and then
-- the number of entries. `found` says whether it is not.
pub record ChoiceJudged (read wrote : List ℕ) (found : Bool) : Type 0 where
  pub file : ChoiceFile
  pub has_choice : HasChoice read file
  pub verdicts : List Verdict
  pub are_verdicts : AreVerdicts file.entries verdicts
  pub right : Bool
  pub is_right : TellsRight file verdicts right
  pub text : wrote ≡ judgement_text file.entries verdicts right
  pub finding : not right ≡ found

-- what stands behind the verdicts of the first entries: nothing, or, only behind those of all, what is due there
abbrev pub MayEnd : ChoiceFile → List Verdict → List ℕ → Type 0
MayEnd f verdicts end = (end ≡ [])
    ⊎ ((length verdicts ≡ length f.entries) × ((right : Bool) × TellsRight f verdicts right × (end ≡ choice_end f.entries right)))

-- What was read is the text of a choice, and the first bytes were written of the verdicts of some first entries, and, only
-- behind those of all, of what stands there. So they are the first bytes of the text that is due.
pub record ChoiceJudgedInPart (read wrote : List ℕ) : Type 0 where
  pub file : ChoiceFile
  pub has_choice : HasChoice read file
  pub verdicts : List Verdict
  pub are_verdicts : AreFirstVerdicts file.entries verdicts
  pub end : List ℕ
  pub may_end : MayEnd file verdicts end
  pub front : IsPrefixOf (verdict_lines file.entries verdicts ++ end) wrote
  pub due : (all : List Verdict) (right : Bool) → AreVerdicts file.entries all → TellsRight file all right
      → IsPrefixOf (judgement_text file.entries all right) wrote

-- What was read is the text of a choice, and the whole lines of the verdicts of its first entries were written. What stands
-- behind them is one piece, of which nothing was written.
pub record ChoiceJudgedFirst (read wrote : List ℕ) : Type 0 where
  pub file : ChoiceFile
  pub has_choice : HasChoice read file
  pub verdicts : List Verdict
  pub are_verdicts : AreFirstVerdicts file.entries verdicts
  pub text : wrote ≡ verdict_lines file.entries verdicts
