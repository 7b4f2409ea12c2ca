-- Rows that are planned together, before their entries are written one by one.
use Rattle.std.specs.Prelude.{ℕ, ◌+◌, ◌-◌, ◌≤◌, List, [], ◌∷◌, length, take, drop}
use Rattle.order_reader.specs.declared.rows.Row.{Row}
use Rattle.order_reader.specs.declared.rows.Row.TheVariants as row
use Rattle.plan_entries.specs.declared.entries.Entry.{Entry}
use Rattle.par_judge.specs.declared.plans.Numbered.{Numbered}
use Rattle.plan_mode.specs.Entries.{AreEntriesFrom}

-- the orders of rows, of which the first has this number, each under its row's number
abbrev pub orders_from : ℕ → List Row → List Numbered
orders_from n [] = []
orders_from n (row.Order o ∷ rs) = record { number = n; order = o } ∷ orders_from (n + 1) rs
orders_from n (row.Refused k fault ∷ rs) = orders_from (n + 1) rs

-- the entries of the next rows, of which the first has this number
abbrev pub AreNextEntries : ℕ → List Row → List Entry → Type 0
AreNextEntries n rows entries = AreEntriesFrom n (take (length entries) (drop (n - 1) rows)) entries
