-- What `choose` wrote of the rows that were read: the whole text of the choice among their entries, the first bytes of one,
-- or its first whole entries.
use Rattle.std.specs.Prelude.{ℕ, ◌≡◌, ◌⊎◌, Bool, List, [], ◌++◌, length, Option}
use Rattle.run_parts.specs.Written.{IsPrefixOf}
use Rattle.order_reader.specs.declared.rows.Row.{Row}
use Rattle.cert_text.specs.declared.forms.Form.TheVariants.{Two}
use Rattle.plan_entries.specs.declared.entries.Entry.{Entry}
use Rattle.plan_entries.specs.Entries.{any_refused}
use Rattle.report_text.specs.Reports.{entries_text, done_text}
use Rattle.pallet_choice.specs.declared.choices.Score.{Score}
use Rattle.pallet_choice.specs.Choices.{IsChoice}
use Rattle.pallet_choice.specs.Text.{told_of_both, tail_text}
use Rattle.choice_text.specs.Text.{ChoiceFile, head_text, file_text}
use Rattle.plan_mode.specs.OrdersFiles.{HasRows}
use Rattle.plan_mode.specs.Entries.{AreEntriesOf, AreFirstEntriesOf}
use Rattle.plan_mode.specs.Accepted.{AreAccepted}
use Rattle.choice_mode.specs.Scores.{scores_of}

-- these entries, and what is told of the choice among them
abbrev pub file_of : List Entry → Option Score → List Score → ChoiceFile
file_of entries chosen rivals = record { entries = entries; tail = told_of_both chosen rivals }

-- What was read has rows, and what was written is the text of their entries and of the choice among those that are
-- planned; the entries are such as `check` accepts. `found` says whether a row was refused.
pub record ChoiceReported (read wrote : List ℕ) (found : Bool) : Type 0 where
  pub rows : List Row
  pub has_rows : HasRows read rows
  pub entries : List Entry
  pub are_entries : AreEntriesOf rows entries
  pub accepted : AreAccepted entries
  pub chosen : Option Score
  pub rivals : List Score
  pub is_choice : IsChoice (scores_of entries) chosen rivals
  pub text : wrote ≡ file_text (file_of entries chosen rivals)
  pub finding : any_refused entries ≡ found

-- what stands behind the entries: the choice among those that are planned, and the number of all
pub record IsEndOf (entries : List Entry) (end : List ℕ) : Type 0 where
  pub chosen : Option Score
  pub rivals : List Score
  pub is_choice : IsChoice (scores_of entries) chosen rivals
  pub text : end ≡ tail_text (told_of_both chosen rivals) ++ done_text (length entries)

-- it stands there only where each row has its entry
abbrev pub MayEnd : List Row → List Entry → List ℕ → Type 0
MayEnd rows entries end = (end ≡ []) ⊎ ((length entries ≡ length rows) × IsEndOf entries end)

-- What was read has rows, and what was written are the first bytes of a text that has the entries of the first rows, and,
-- only where each row has its entry, the choice among them and the last line.
pub record ChoiceBegun (read wrote : List ℕ) : Type 0 where
  pub rows : List Row
  pub has_rows : HasRows read rows
  pub entries : List Entry
  pub are_entries : AreFirstEntriesOf rows entries
  pub end : List ℕ
  pub may_end : MayEnd rows entries end
  pub front : IsPrefixOf (head_text ++ (entries_text Two entries ++ end)) wrote

-- What was read has rows, and what was written is the first line and the whole entries of the first rows. The choice and
-- the last line are one piece, of which nothing was written.
pub record ChoiceBrokeOff (read wrote : List ℕ) : Type 0 where
  pub rows : List Row
  pub has_rows : HasRows read rows
  pub entries : List Entry
  pub are_entries : AreFirstEntriesOf rows entries
  pub text : wrote ≡ head_text ++ entries_text Two entries
