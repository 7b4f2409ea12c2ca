-- What `get_entry` answers.
use Rattle.std.specs.Prelude.{◌≡◌, ℕ, Result, Ok, Err}
use Rattle.plan_entries.specs.declared.entries.Entry.{Entry}
use Rattle.report_text.specs.declared.entries.EntryFault.{EntryFault}
use Rattle.report_text.specs.declared.entries.EntryFault.TheVariants as faults

abbrev pub IfLine : {X : Type 0} → Result X EntryFault → (ℕ → Type 0) → Type 0
IfLine (Ok x) P = Unit {0}
IfLine (Err faults.Memory) P = Unit {0}
IfLine (Err (faults.Line k)) P = P k

-- this entry and this length, unless memory was refused
abbrev pub GivesEntry : Entry → ℕ → Result (Entry × ℕ) EntryFault → Type 0
GivesEntry e n (Ok x) = (x.0 ≡ e) × (x.1 ≡ n)
GivesEntry e n (Err faults.Memory) = Unit {0}
GivesEntry e n (Err (faults.Line k)) = ⊥
