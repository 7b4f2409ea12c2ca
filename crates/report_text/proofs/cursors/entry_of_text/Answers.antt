use Rattle.report_text.proofs.EntryBytes.{no_entry_fault, this_entry}
use Rattle.report_text.proofs.cursors.entry_of_text.Goals as goal

pub unreachable-requires : goal.unreachable-requires
unreachable-requires c =
    let r = c.requires in
    no_entry_fault c.args.form c.args.bytes.now r.behind r.entry _ r.fits r.parts (rw c.in-Err-Left.field-0-is at c.in-Err-Left.ensures.read)

pub returns-in-Ok : goal.returns-in-Ok
returns-in-Ok c = λ e behind fits parts. this_entry c.args.form c.args.bytes.now c.in-Ok.rest.now behind c.in-Ok.entry e c.in-Ok.ensures.read c.in-Ok.ensures.rest fits parts
