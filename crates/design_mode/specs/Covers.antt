-- What each entry covers of its pallet, and what it may cover, in cells: squares of the length's unit.
use Rattle.std.specs.Prelude.{ℕ, ◌*◌, List, Option, Some, None, filter_map}
use Rattle.order_reader.specs.Orders.{OrderValue, long_of, short_of}
use Rattle.plan_entries.specs.declared.entries.Plan.{Plan}
use Rattle.plan_entries.specs.declared.entries.Entry.{Entry}
use Rattle.plan_entries.specs.declared.entries.Entry.TheVariants.{Planned, Refused}
use Rattle.case_design.specs.declared.best.Cover.{Cover}

-- the cells under one case of an order
abbrev pub case_area : OrderValue → ℕ
case_area o = long_of o * short_of o

-- a plan covers as many cells as its cases do, and may cover as many as its bound's
abbrev pub cover_of : Plan → Cover
cover_of p = record { number = p.number; covers = p.count * case_area p.order; may = p.bound * case_area p.order }

-- an entry of a refused row covers none
abbrev pub cover_in : Entry → Option Cover
cover_in (Planned p) = Some (cover_of p)
cover_in (Refused n fault) = None

-- those of the planned entries, in order
abbrev pub covers_of : List Entry → List Cover
covers_of entries = filter_map cover_in entries
