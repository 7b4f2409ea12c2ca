-- What `check-floor` says of the text of a floor: for each row the verdicts of its two entries, and whether its total is
-- right.
use Rattle.std.specs.Prelude.{ℕ, ◌≡◌, ◌==◌, ◌↔◌, ◌||◌, ◌*◌, ⊤, Bool, true, false, not, List, [], ◌∷◌, ◌++◌, length, take, codes}
use Rattle.std.specs.List.{list_any}
use Rattle.texts.specs.Lines.{ended}
use Rattle.run_parts.specs.Written.{IsPrefixOf}
use Rattle.report_text.specs.Reports.{done_text}
use Rattle.report_checker.specs.declared.verdicts.Verdict.{Verdict}
use Rattle.report_checker.specs.Verdicts.{IsVerdict}
use Rattle.plan_mode.specs.Pieces.{done_if}
use Rattle.check_mode.specs.Verdicts.{is_no, line_of}
use Rattle.floor_text.specs.declared.rows.FloorRow.{FloorRow}
use Rattle.floor_mode.specs.declared.judging.RowJudgement.{RowJudgement}
use Rattle.floor_mode.specs.Totals.{IsTotalLineOf, GoTogether}
use Rattle.floor_mode.specs.Reading.{HasFloorText}

-- the orders of a row go together, and the total line is that of its two entries
pub record HasRightTotal (r : FloorRow) : Type 0 where
  pub together : GoTogether r.floor r.load
  pub total : IsTotalLineOf r.floor r.load r.total

-- neither verdict is no, and the total is right
pub record IsRightRow (r : FloorRow) (floor load : Verdict) : Type 0 where
  pub no_no : (is_no floor || is_no load) ≡ false
  pub total : HasRightTotal r

-- what is right to tell of a row
pub record IsJudgement (r : FloorRow) (j : RowJudgement) : Type 0 where
  pub floor : IsVerdict r.floor j.floor
  pub load : IsVerdict r.load j.load
  pub right : IsRightRow r j.floor j.load ↔ (j.right ≡ true)

-- a judgement for each row, in order
abbrev pub AreJudgements : List FloorRow → List RowJudgement → Type 0
AreJudgements [] [] = ⊤
AreJudgements [] (j ∷ js) = ⊥
AreJudgements (r ∷ rs) [] = ⊥
AreJudgements (r ∷ rs) (j ∷ js) = IsJudgement r j × AreJudgements rs js

-- those of the first rows
abbrev pub AreFirstJudgements : List FloorRow → List RowJudgement → Type 0
AreFirstJudgements rows js = AreJudgements (take (length js) rows) js

-- a verdict is no, or the total is not right
abbrev pub is_wrong : RowJudgement → Bool
is_wrong j = (is_no j.floor || is_no j.load) || not j.right

abbrev pub any_wrong : List RowJudgement → Bool
any_wrong = list_any is_wrong

-- the line that tells whether a total is right
abbrev pub total_said : Bool → List ℕ
total_said true = ended (codes "total yes")
total_said false = ended (codes "total no")

-- the lines of a row: both verdicts, and that line
abbrev pub row_judged : FloorRow → RowJudgement → List ℕ
row_judged r j = line_of r.floor j.floor ++ (line_of r.load j.load ++ total_said j.right)

-- the lines of the first rows
abbrev pub rows_judged : List FloorRow → List RowJudgement → List ℕ
rows_judged rs [] = []
rows_judged [] (j ∷ js) = []
rows_judged (r ∷ rs) (j ∷ js) = row_judged r j ++ rows_judged rs js

-- the whole text: the lines of each row, and the number of entries
abbrev pub judged_text : List FloorRow → List RowJudgement → List ℕ
judged_text rows js = rows_judged rows js ++ done_text (2 * length rows)

-- the lines of the first rows; the last line only behind those of all
abbrev pub begun_text : List FloorRow → List RowJudgement → List ℕ
begun_text rows js = rows_judged rows js ++ done_if (length js == length rows) (2 * length rows)

-- What was read is the text of a floor, and all that is right to tell of its rows was written, and then the number of
-- entries. `found` says whether a verdict is no or a total is not right.
pub record FloorJudged (read wrote : List ℕ) (found : Bool) : Type 0 where
  pub rows : List FloorRow
  pub has_floor : HasFloorText read rows
  pub judgements : List RowJudgement
  pub are_judgements : AreJudgements rows judgements
  pub text : wrote ≡ judged_text rows judgements
  pub finding : any_wrong judgements ≡ found

-- What was read is the text of a floor, and the first bytes were written of what is told of some first rows, and of the last
-- line only behind all. So they are the first bytes of the text that is due.
pub record FloorJudgedInPart (read wrote : List ℕ) : Type 0 where
  pub rows : List FloorRow
  pub has_floor : HasFloorText read rows
  pub judgements : List RowJudgement
  pub are_judgements : AreFirstJudgements rows judgements
  pub front : IsPrefixOf (begun_text rows judgements) wrote
  pub due : (all : List RowJudgement) → AreJudgements rows all → IsPrefixOf (judged_text rows all) wrote

-- what was read is the text of a floor, and the whole lines of its first rows were written
pub record FloorJudgedFirst (read wrote : List ℕ) : Type 0 where
  pub rows : List FloorRow
  pub has_floor : HasFloorText read rows
  pub judgements : List RowJudgement
  pub are_judgements : AreFirstJudgements rows judgements
  pub text : wrote ≡ rows_judged rows judgements
