use Rattle.std.proofs.Common.{arith}
use Rattle.report_text.proofs.ReportBytes.{form_fault, report_stopped, faults_at, no_report_fault}
use Rattle.report_text.proofs.reports.check_text.Goals as goal

pub returns-in-Err-clause-only : goal.returns-in-Err-clause-only
returns-in-Err-clause-only c = λ form es fits e. no_report_fault c.args.bytes.now form es c.in-Err.left.count fits e (form_fault c.args.bytes.now c.in-Err.left.count c.in-Err.ensures.read)

pub returns-in-Err-clause-fault : goal.returns-in-Err-clause-fault
returns-in-Err-clause-fault c =
    let m = c.line_before.ensures in
    faults_at c.args.bytes.now c.in-Err.left.count c.line_before.result (form_fault c.args.bytes.now c.in-Err.left.count c.in-Err.ensures.read) (omega arith)

pub line_before-requires : goal.line_before-requires
line_before-requires c =
    let e = form_fault c.args.bytes.now c.in-Err.left.count c.in-Err.ensures.read in
    let s = report_stopped c.args.bytes.now c.in-Err.left.count e in
    let n = s.count in
    let f = s.few in
    record { within = omega arith; few = omega arith }
