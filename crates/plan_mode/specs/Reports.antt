-- What was written of the rows that were read: a whole report, the first bytes of one, or its first whole pieces.
use Rattle.std.specs.Prelude.{ℕ, ◌≡◌, Bool, List, length}
use Rattle.run_parts.specs.Written.{IsPrefixOf}
use Rattle.order_reader.specs.declared.rows.Row.{Row}
use Rattle.plan_entries.specs.declared.entries.Entry.{Entry}
use Rattle.plan_entries.specs.Entries.{any_refused}
use Rattle.plan_mode.specs.OrdersFiles.{HasRows}
use Rattle.plan_mode.specs.Entries.{AreEntriesOf, AreFirstEntriesOf}
use Rattle.plan_mode.specs.Accepted.{AreAccepted}
use Rattle.plan_mode.specs.Pieces.{IsTextOf, IsPlainReport, IsBegunText, IsBrokenText}

-- What was read has rows, and what was written is the whole text of their entries, which are such as `check` accepts;
-- `found` says whether a row was refused.
pub record Reported (draw : Bool) (read wrote : List ℕ) (found : Bool) : Type 0 where
  pub rows : List Row
  pub has_rows : HasRows read rows
  pub entries : List Entry
  pub are_entries : AreEntriesOf rows entries
  pub accepted : AreAccepted entries
  pub is_text : IsTextOf draw entries wrote
  pub plain : IsPlainReport draw entries wrote
  pub finding : any_refused entries ≡ found

-- What was read has rows, and what was written are the first bytes of a text that has the entries of the first rows.
pub record Begun (draw : Bool) (read wrote : List ℕ) : Type 0 where
  pub rows : List Row
  pub has_rows : HasRows read rows
  pub entries : List Entry
  pub are_entries : AreFirstEntriesOf rows entries
  pub text : List ℕ
  pub is_text : IsBegunText draw (length rows) entries text
  pub front : IsPrefixOf text wrote

-- What was read has rows, and what was written is the first line and the whole pieces of the entries of the first rows.
pub record BrokeOff (draw : Bool) (read wrote : List ℕ) : Type 0 where
  pub rows : List Row
  pub has_rows : HasRows read rows
  pub entries : List Entry
  pub are_entries : AreFirstEntriesOf rows entries
  pub is_text : IsBrokenText draw entries wrote
