-- What `design` wrote of the file that was read: the whole text of its sizes' entries and of the best among them, the first
-- bytes of one, or its first whole entries.
use Rattle.std.specs.Prelude.{ℕ, ◌≡◌, ◌⊎◌, ◌||◌, Bool, true, false, List, [], ◌++◌, length, Option}
use Rattle.run_parts.specs.Written.{IsPrefixOf}
use Rattle.cert_text.specs.declared.forms.Form.TheVariants.{Two}
use Rattle.plan_entries.specs.declared.entries.Entry.{Entry}
use Rattle.plan_entries.specs.Entries.{any_refused}
use Rattle.report_text.specs.Reports.{entries_text, done_text}
use Rattle.case_design.specs.declared.designs.Design.{Design}
use Rattle.case_design.specs.declared.designs.Design.TheVariants.{Nothing, Refused, Rows}
use Rattle.case_design.specs.declared.best.Cover.{Cover}
use Rattle.case_design.specs.Designs.{rows_in}
use Rattle.case_design.specs.Bests.{IsBest}
use Rattle.case_design.specs.Text.{head_text, best_text}
use Rattle.plan_mode.specs.Entries.{AreEntriesOf, AreFirstEntriesOf}
use Rattle.plan_mode.specs.Accepted.{AreAccepted}
use Rattle.design_mode.specs.Covers.{covers_of}
use Rattle.design_mode.specs.DesignFiles.{HasDesign}

-- the file's one row is refused
abbrev pub is_row_refused : Design → Bool
is_row_refused Nothing = false
is_row_refused (Refused fault) = true
is_row_refused (Rows id rows) = false

-- what is told of the best size, where there are sizes
abbrev pub best_part : Design → Option Cover → List Cover → List ℕ
best_part Nothing best rivals = []
best_part (Refused fault) best rivals = []
best_part (Rows id rows) best rivals = best_text best rivals

-- what stands after the entries: the best of them, and the number of all
abbrev pub end_text : Design → Option Cover → List Cover → ℕ → List ℕ
end_text design best rivals count = best_part design best rivals ++ done_text count

-- the whole text
abbrev pub design_text : Design → List Entry → Option Cover → List Cover → List ℕ
design_text design entries best rivals = head_text design ++ (entries_text Two entries ++ end_text design best rivals (length entries))

-- What was read asks for a design, and what was written is the text of the entries of its sizes and of the best among those
-- that are planned; the entries are such as `check` accepts. `found` says whether the row or an entry was refused.
pub record DesignReported (read wrote : List ℕ) (found : Bool) : Type 0 where
  pub design : Design
  pub has_design : HasDesign read design
  pub entries : List Entry
  pub are_entries : AreEntriesOf (rows_in design) entries
  pub accepted : AreAccepted entries
  pub best : Option Cover
  pub rivals : List Cover
  pub is_best : IsBest (covers_of entries) best rivals
  pub text : wrote ≡ design_text design entries best rivals
  pub finding : (is_row_refused design || any_refused entries) ≡ found

-- what stands after these entries, where they are all
pub record IsEndOf (design : Design) (entries : List Entry) (end : List ℕ) : Type 0 where
  pub best : Option Cover
  pub rivals : List Cover
  pub is_best : IsBest (covers_of entries) best rivals
  pub text : end ≡ end_text design best rivals (length entries)

-- it stands there only where each size has its entry
abbrev pub MayEnd : Design → List Entry → List ℕ → Type 0
MayEnd design entries end = (end ≡ []) ⊎ ((length entries ≡ length (rows_in design)) × IsEndOf design entries end)

-- What was read asks for a design, and what was written are the first bytes of a text that has the entries of the first
-- sizes, and, only where each size has its entry, the best of them and the last line.
pub record DesignBegun (read wrote : List ℕ) : Type 0 where
  pub design : Design
  pub has_design : HasDesign read design
  pub entries : List Entry
  pub are_entries : AreFirstEntriesOf (rows_in design) entries
  pub end : List ℕ
  pub may_end : MayEnd design entries end
  pub front : IsPrefixOf (head_text design ++ (entries_text Two entries ++ end)) wrote

-- What was read asks for a design, and what was written is its head and the whole entries of the first sizes. The best size
-- and the last line are one piece, of which nothing was written; and so are the first line and that of the row.
pub record DesignBrokeOff (read wrote : List ℕ) : Type 0 where
  pub design : Design
  pub has_design : HasDesign read design
  pub entries : List Entry
  pub are_entries : AreFirstEntriesOf (rows_in design) entries
  pub text : wrote ≡ head_text design ++ entries_text Two entries
