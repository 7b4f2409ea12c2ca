use Rattle.std.proofs.Common.{◌≡◌, ◌∙◌, [], length, sym, ap, arith, eq-eqb}
use Rattle.std.proofs.lemmas.Bool.{eqb-true, false≢true}
use Rattle.std.proofs.lemmas.List.{nil_from_length}
use Rattle.floor_text.proofs.FloorBytes.{floor_found, these_rows, floor_stopped, faults_at, no_floor_fault, front_lines}
use Rattle.floor_text.proofs.floors.check_floor_text.Goals as goal

pub returns-then-is_empty-clause-found : goal.returns-then-is_empty-clause-found
returns-then-is_empty-clause-found c =
    let nil : c.in-Ok.rest.now ≡ [] = nil_from_length c.in-Ok.rest.now (eqb-true (length c.in-Ok.rest.now) 0 (sym c.is_empty.ensures ∙ c.if-is_empty.true)) in
    floor_found c.args.bytes.now c.in-Ok.rest.now c.in-Ok.rows c.in-Ok.ensures.read c.in-Ok.ensures.rest nil

pub returns-then-is_empty-clause-only : goal.returns-then-is_empty-clause-only
returns-then-is_empty-clause-only c = λ f fits e. (these_rows c.args.bytes.now c.in-Ok.rest.now c.in-Ok.rows f c.in-Ok.ensures.read c.in-Ok.ensures.rest fits e).0

pub line_before-requires : goal.line_before-requires
line_before-requires c =
    let n = front_lines c.args.bytes.now c.in-Ok.rest.now c.in-Ok.rows c.in-Ok.ensures.read in
    let m = c.count_lines.ensures in
    let w = n.within in
    let f = n.few in
    record { within = omega arith; few = omega arith }

pub returns-else-is_empty-clause-only : goal.returns-else-is_empty-clause-only
returns-else-is_empty-clause-only c = λ f fits e.
    let nil = (these_rows c.args.bytes.now c.in-Ok.rest.now c.in-Ok.rows f c.in-Ok.ensures.read c.in-Ok.ensures.rest fits e).1 in
    false≢true (sym c.if-is_empty.false ∙ c.is_empty.ensures ∙ eq-eqb (length c.in-Ok.rest.now) 0 (ap length nil))

pub returns-else-is_empty-clause-fault : goal.returns-else-is_empty-clause-fault
returns-else-is_empty-clause-fault c =
    let m = c.count_lines.ensures in
    let n = c.line_before.ensures in
    (front_lines c.args.bytes.now c.in-Ok.rest.now c.in-Ok.rows c.in-Ok.ensures.read).faults c.line_before.result (omega arith)

pub line_before-requires-in-Err-Left : goal.line_before-requires-in-Err-Left
line_before-requires-in-Err-Left c =
    let s = floor_stopped c.args.bytes.now c.in-Err-Left.left (rw c.in-Err-Left.field-0-is at c.in-Err-Left.ensures.read) in
    let n = s.count in
    let f = s.few in
    let v = c.in-Err-Left.left-is in
    record { within = omega arith; few = omega arith }

pub returns-in-Err-Left-clause-only : goal.returns-in-Err-Left-clause-only
returns-in-Err-Left-clause-only c = λ f fits e. no_floor_fault c.args.bytes.now f c.in-Err-Left.left fits e (rw c.in-Err-Left.field-0-is at c.in-Err-Left.ensures.read)

pub returns-in-Err-Left-clause-fault : goal.returns-in-Err-Left-clause-fault
returns-in-Err-Left-clause-fault c =
    let v = c.in-Err-Left.left-is in
    let m = c.line_before-in-Err-Left.ensures in
    faults_at c.args.bytes.now c.in-Err-Left.left c.line_before-in-Err-Left.result (rw c.in-Err-Left.field-0-is at c.in-Err-Left.ensures.read) (omega arith)
