-- Whether the bytes that were read are the text of a choice.
use Rattle.std.specs.Prelude.{ℕ, ◌+◌, ◌≤◌, ◌≡◌, true, List, ◌++◌, length}
use Rattle.texts.specs.Spelling.{FaultsAt}
use Rattle.plan_io.specs.Causes.{Rose}
use Rattle.plan_io.specs.Streams.{Intake}
use Rattle.run_parts.specs.declared.codes.Code.{Code}
use Rattle.run_parts.specs.declared.codes.Code.TheVariants.{Done, Findings, Usage, TooLong, NoHeader, TooManyRows, BadReport, ReadFault, WriteFault, Memory}
use Rattle.choice_text.specs.Text.{ChoiceFile, file_lines, IsChoiceFile, IsChoiceIn}
use Rattle.report_reading.specs.Reading.{most_bytes}

-- the bytes are the text of this choice, and no longer than a report may be
pub record HasChoice (bytes : List ℕ) (f : ChoiceFile) : Type 0 where
  pub few_bytes : length bytes ≤ most_bytes
  pub is_choice : IsChoiceIn bytes f

-- the bytes are the text of some choice
abbrev pub IsChoiceBytes : List ℕ → Type 0
IsChoiceBytes bytes = (f : ChoiceFile) × HasChoice bytes f

-- the bytes, no more than a report may have, are the text of no choice, and this is the first line, from 1, with which
-- none goes on
pub record HasNoChoice (bytes : List ℕ) (line : ℕ) : Type 0 where
  pub few_bytes : length bytes ≤ most_bytes
  pub none : (f : ChoiceFile) → IsChoiceIn bytes f → ⊥
  pub fault : FaultsAt file_lines IsChoiceFile bytes line

-- What each code says of a run that got no choice, of the bytes that it read, and of how the source stood before and
-- stands now.
abbrev pub NoChoiceMeans : Code → ℕ → List ℕ → Intake → Intake → Type 0
NoChoiceMeans Done line read from from' = ⊥
NoChoiceMeans Findings line read from from' = ⊥
NoChoiceMeans Usage line read from from' = ⊥
NoChoiceMeans TooLong line read from from' = (length read ≡ most_bytes + 1) × (line ≡ 0)
NoChoiceMeans NoHeader line read from from' = ⊥
NoChoiceMeans TooManyRows line read from from' = ⊥
NoChoiceMeans BadReport line read from from' = (from'.ended ≡ true) × HasNoChoice read line
NoChoiceMeans ReadFault line read from from' = (length read ≤ most_bytes) × Rose from.faults from'.faults × (line ≡ 0)
NoChoiceMeans WriteFault line read from from' = ⊥
NoChoiceMeans Memory line read from from' = (from'.faults ≡ from.faults) × (length read ≤ most_bytes + 1) × (line ≡ 0)

-- what a run did that got no choice, between two moments of its source
pub record GotNoChoice (from : Intake) (code : Code) (line : ℕ) (from' : Intake) : Type 0 where
  pub read : List ℕ
  pub given : from'.given ≡ from.given ++ read
  pub later : from.faults ≤ from'.faults
  pub means : NoChoiceMeans code line read from from'
