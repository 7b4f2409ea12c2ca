use Rattle.std.proofs.Common.{◌≡◌, ap, length, arith}
use Rattle.report_text.specs.Text.{entry_text}
use Rattle.plan_entries.specs.declared.entries.Entry.{Entry}
use Rattle.report_text.proofs.EntryBytes.{got_entry, same_entry, no_entry_fault, entry_stopped}
use Rattle.report_text.proofs.entries.get_entry.Goals as goal

pub overflow_sub-len : goal.overflow_sub-len
overflow_sub-len c =
    let g = got_entry c.args.form c.args.bytes.now c.in-Ok.rest.now c.in-Ok.entry c.in-Ok.ensures.read c.in-Ok.ensures.rest in
    let n = g.len in
    omega arith

pub overflow_sub-line : goal.overflow_sub-line
overflow_sub-line c =
    let s = entry_stopped c.args.form c.args.bytes.now c.in-Err-Left.left (rw c.in-Err-Left.field-0-is at c.in-Err-Left.ensures.read) in
    let n = s.count in
    let m = c.count_lines.ensures in
    omega arith

pub overflow_add-line : goal.overflow_add-line
overflow_add-line c =
    let s = entry_stopped c.args.form c.args.bytes.now c.in-Err-Left.left (rw c.in-Err-Left.field-0-is at c.in-Err-Left.ensures.read) in
    let n = s.count in
    let m = c.count_lines.ensures in
    let k = s.few in
    omega arith

pub overflow_cast-result : goal.overflow_cast-result
overflow_cast-result c =
    let s = entry_stopped c.args.form c.args.bytes.now c.in-Err-Left.left (rw c.in-Err-Left.field-0-is at c.in-Err-Left.ensures.read) in
    let n = s.count in
    let m = c.count_lines.ensures in
    let k = s.few in
    omega arith

pub returns-in-Ok-clause-found : goal.returns-in-Ok-clause-found
returns-in-Ok-clause-found c =
    let g = got_entry c.args.form c.args.bytes.now c.in-Ok.rest.now c.in-Ok.entry c.in-Ok.ensures.read c.in-Ok.ensures.rest in
    let n = g.len in
    record { fits = g.fits; behind = c.in-Ok.rest.now; parts = g.parts; len_is = omega arith }

pub returns-in-Ok-clause-only : goal.returns-in-Ok-clause-only
returns-in-Ok-clause-only c = λ d rest fits e.
    let g = got_entry c.args.form c.args.bytes.now c.in-Ok.rest.now c.in-Ok.entry c.in-Ok.ensures.read c.in-Ok.ensures.rest in
    let n = g.len in
    let same = same_entry c.args.form c.args.bytes.now rest c.in-Ok.rest.now d c.in-Ok.entry fits e c.in-Ok.ensures.read in
    let same_len : length (entry_text c.args.form c.in-Ok.entry) ≡ length (entry_text c.args.form d) = ap (λ (x : Entry). length (entry_text c.args.form x)) same in
    (same, omega arith)

pub returns-in-Err-Left-clause-only : goal.returns-in-Err-Left-clause-only
returns-in-Err-Left-clause-only c = λ d rest fits e. no_entry_fault c.args.form c.args.bytes.now rest d c.in-Err-Left.left fits e (rw c.in-Err-Left.field-0-is at c.in-Err-Left.ensures.read)

pub returns-in-Err-Left-clause-fault : goal.returns-in-Err-Left-clause-fault
returns-in-Err-Left-clause-fault c =
    let s = entry_stopped c.args.form c.args.bytes.now c.in-Err-Left.left (rw c.in-Err-Left.field-0-is at c.in-Err-Left.ensures.read) in
    let n = s.count in
    let m = c.count_lines.ensures in
    record { before = s.front; rest = s.rest; stops = s.stops; number_is = omega arith }
