use Rattle.std.proofs.Common.{subst}
use Rattle.plan_entries.specs.declared.entries.Entry.{Entry}
use Rattle.plan_mode.specs.Entries.{IsEntryOf}
use Rattle.design_mode.proofs.Areas.{may-fits, covers-fits, has-quality, is-sound}
use Rattle.design_mode.proofs.covers.keep_cover.Goals as goal

pub cover_of-requires-clause-covers : goal.cover_of-requires-clause-covers
cover_of-requires-clause-covers c =
    let (number, row, of_row) = c.requires in
    let plan = c.in-Planned.plan in
    let planned = subst (λ (e : Entry). IsEntryOf number row e) c.in-Planned.is of_row in
    covers-fits plan (has-quality number row plan planned) (is-sound number row plan planned)

pub cover_of-requires-clause-may : goal.cover_of-requires-clause-may
cover_of-requires-clause-may c =
    let (number, row, of_row) = c.requires in
    let plan = c.in-Planned.plan in
    let planned = subst (λ (e : Entry). IsEntryOf number row e) c.in-Planned.is of_row in
    may-fits plan (has-quality number row plan planned)
