-- The entries of a report: what each row of an orders file has in it.
use Rattle.std.specs.Prelude.{ℕ, ◌+◌, ◌≡◌, ⊤, List, [], ◌∷◌, length, take}
use Rattle.order_reader.specs.declared.rows.Row.{Row}
use Rattle.order_reader.specs.declared.rows.Row.TheVariants as row
use Rattle.plan_entries.specs.declared.entries.Entry.{Entry}
use Rattle.plan_entries.specs.declared.entries.Entry.TheVariants.{Planned, Refused}
use Rattle.par_judge.specs.Planned.{IsPlanOf}

-- the entry of the row of this number: a plan of the very order, or the very fault
abbrev pub IsEntryOf : ℕ → Row → Entry → Type 0
IsEntryOf n (row.Order o) (Planned p) = IsPlanOf n o p
IsEntryOf n (row.Order o) (Refused m fault) = ⊥
IsEntryOf n (row.Refused k fault) (Planned p) = ⊥
IsEntryOf n (row.Refused k fault) (Refused m told) = (m ≡ n) × (told ≡ fault)

-- one entry for each row, in order, numbered from n
abbrev pub AreEntriesFrom : ℕ → List Row → List Entry → Type 0
AreEntriesFrom n [] [] = ⊤
AreEntriesFrom n [] (e ∷ es) = ⊥
AreEntriesFrom n (r ∷ rs) [] = ⊥
AreEntriesFrom n (r ∷ rs) (e ∷ es) = IsEntryOf n r e × AreEntriesFrom (n + 1) rs es

-- the entries of all rows
abbrev pub AreEntriesOf : List Row → List Entry → Type 0
AreEntriesOf rows entries = AreEntriesFrom 1 rows entries

-- the entries of the first rows
abbrev pub AreFirstEntriesOf : List Row → List Entry → Type 0
AreFirstEntriesOf rows entries = AreEntriesFrom 1 (take (length entries) rows) entries
