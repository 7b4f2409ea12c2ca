-- What a sheet says in words of an order, and the sheet of a refused row.
use Rattle.std.specs.Prelude.{ℕ, List, ◌++◌, codes}
use Rattle.order_reader.specs.declared.faults.RowFault.{RowFault}
use Rattle.plan_entries.specs.declared.entries.Plan.{Plan}
use Rattle.page_words.specs.Table.{sheet_head, order_table}
use Rattle.page_words.specs.Counts.{count_line, cover_line}
use Rattle.page_words.specs.Refused.{refused_head, fault_words}

-- how many cases a layer of the plan has, and how much of the pallet they cover
unfoldable pub count_words : Plan → List ℕ
count_words p = count_line p.count p.bound p.status ++ cover_line p.order p.count

-- The sheet at this place in the report, as far as its words of the order go: the row, what was ordered, and the count
-- of a layer. The sheet is not closed.
unfoldable pub order_words : ℕ → Plan → List ℕ
order_words sheet p = sheet_head sheet p.number p.order.id ++ (order_table p.order ++ count_words p)

-- the whole sheet at this place in the report of the row of this number, which was refused
unfoldable pub refused_sheet : ℕ → ℕ → RowFault → List ℕ
refused_sheet sheet number fault = refused_head sheet number ++ (fault_words fault ++ codes "</p></section>\n")
