use Rattle.std.proofs.Common.{◌≡◌, ◌∙◌, [], List, ℕ, length, sym, ap, subst, arith, eq-eqb, Ok}
use Rattle.std.proofs.lemmas.Bool.{eqb-true, false≢true}
use Rattle.std.proofs.lemmas.List.{nil_from_length}
use Rattle.texts.specs.Lines.{whole_lines, unfinished}
use Rattle.report_text.specs.ReportLines.{entries_counted}
use Rattle.report_text.proofs.ReportBytes.{entries_fault, report_stopped, faults_at, no_report_fault, was_counted, all_ahead, report_found, report_only, more_behind, few_before, nothing_behind}
use Rattle.report_text.proofs.reports.check_entries.Goals as goal

pub new-requires : goal.new-requires
new-requires c =
    let a = c.args in
    let nil : c.in-Ok.rest.now ≡ [] = nil_from_length c.in-Ok.rest.now (eqb-true (length c.in-Ok.rest.now) 0 (sym c.is_empty.ensures ∙ c.if-is_empty.true)) in
    let read : entries_counted a.form (whole_lines a.entries.now) ≡ Ok (c.in-Ok.left, whole_lines []) = subst (λ (r : List ℕ). entries_counted a.form (whole_lines a.entries.now) ≡ Ok (c.in-Ok.left, whole_lines r)) nil c.in-Ok.ensures.read in
    let k = was_counted a.form a.bytes.now a.entries.now [] c.in-Ok.left c.requires.form read in
    (all_ahead a.form a.bytes.now a.entries.now c.in-Ok.left k (ap unfinished (sym nil) ∙ c.in-Ok.ensures.rest)).is_rest

pub returns-then-is_empty-clause-found : goal.returns-then-is_empty-clause-found
returns-then-is_empty-clause-found c =
    let a = c.args in
    let nil : c.in-Ok.rest.now ≡ [] = nil_from_length c.in-Ok.rest.now (eqb-true (length c.in-Ok.rest.now) 0 (sym c.is_empty.ensures ∙ c.if-is_empty.true)) in
    let read : entries_counted a.form (whole_lines a.entries.now) ≡ Ok (c.in-Ok.left, whole_lines []) = subst (λ (r : List ℕ). entries_counted a.form (whole_lines a.entries.now) ≡ Ok (c.in-Ok.left, whole_lines r)) nil c.in-Ok.ensures.read in
    let k = was_counted a.form a.bytes.now a.entries.now [] c.in-Ok.left c.requires.form read in
    let h = all_ahead a.form a.bytes.now a.entries.now c.in-Ok.left k (ap unfinished (sym nil) ∙ c.in-Ok.ensures.rest) in
    report_found a.bytes.now a.form k.es c.new.result k.whole (ap unfinished (sym nil) ∙ c.in-Ok.ensures.rest ∙ c.requires.rest) c.new.ensures.form (c.new.ensures.entries ∙ h.entries)

pub returns-then-is_empty-clause-only : goal.returns-then-is_empty-clause-only
returns-then-is_empty-clause-only c = λ form es fits e.
    let a = c.args in
    let nil : c.in-Ok.rest.now ≡ [] = nil_from_length c.in-Ok.rest.now (eqb-true (length c.in-Ok.rest.now) 0 (sym c.is_empty.ensures ∙ c.if-is_empty.true)) in
    let read : entries_counted a.form (whole_lines a.entries.now) ≡ Ok (c.in-Ok.left, whole_lines []) = subst (λ (r : List ℕ). entries_counted a.form (whole_lines a.entries.now) ≡ Ok (c.in-Ok.left, whole_lines r)) nil c.in-Ok.ensures.read in
    let k = was_counted a.form a.bytes.now a.entries.now [] c.in-Ok.left c.requires.form read in
    let h = all_ahead a.form a.bytes.now a.entries.now c.in-Ok.left k (ap unfinished (sym nil) ∙ c.in-Ok.ensures.rest) in
    report_only a.bytes.now a.form form k.es es c.new.result k.whole c.new.ensures.form (c.new.ensures.entries ∙ h.entries) fits e

pub line_before-requires : goal.line_before-requires
line_before-requires c =
    let k = was_counted c.args.form c.args.bytes.now c.args.entries.now c.in-Ok.rest.now c.in-Ok.left c.requires.form c.in-Ok.ensures.read in
    let n = few_before c.args.bytes.now c.in-Ok.rest.now _ k.whole in
    let m = c.count_lines.ensures in
    let w = n.within in
    let f = n.few in
    record { within = omega arith; few = omega arith }

pub returns-else-is_empty-clause-only : goal.returns-else-is_empty-clause-only
returns-else-is_empty-clause-only c = λ form es fits e.
    let k = was_counted c.args.form c.args.bytes.now c.args.entries.now c.in-Ok.rest.now c.in-Ok.left c.requires.form c.in-Ok.ensures.read in
    let nil = nothing_behind c.args.bytes.now c.in-Ok.rest.now form es _ fits e k.whole (c.in-Ok.ensures.rest ∙ c.requires.rest) in
    false≢true (sym c.if-is_empty.false ∙ c.is_empty.ensures ∙ eq-eqb (length c.in-Ok.rest.now) 0 (ap length nil))

pub returns-else-is_empty-clause-fault : goal.returns-else-is_empty-clause-fault
returns-else-is_empty-clause-fault c =
    let k = was_counted c.args.form c.args.bytes.now c.args.entries.now c.in-Ok.rest.now c.in-Ok.left c.requires.form c.in-Ok.ensures.read in
    let m = c.count_lines.ensures in
    let n = c.line_before.ensures in
    more_behind c.args.bytes.now c.in-Ok.rest.now _ c.line_before.result k.whole (omega arith)

pub line_before-requires-in-Err-Left : goal.line_before-requires-in-Err-Left
line_before-requires-in-Err-Left c =
    let e = entries_fault c.args.form c.args.bytes.now c.args.entries.now c.in-Err-Left.left c.requires.form (rw c.in-Err-Left.field-0-is at c.in-Err-Left.ensures.read) in
    let s = report_stopped c.args.bytes.now c.in-Err-Left.left e in
    let n = s.count in
    let f = s.few in
    let v = c.in-Err-Left.left-is in
    record { within = omega arith; few = omega arith }

pub returns-in-Err-Left-clause-only : goal.returns-in-Err-Left-clause-only
returns-in-Err-Left-clause-only c = λ form es fits e.
    no_report_fault c.args.bytes.now form es c.in-Err-Left.left fits e (entries_fault c.args.form c.args.bytes.now c.args.entries.now c.in-Err-Left.left c.requires.form (rw c.in-Err-Left.field-0-is at c.in-Err-Left.ensures.read))

pub returns-in-Err-Left-clause-fault : goal.returns-in-Err-Left-clause-fault
returns-in-Err-Left-clause-fault c =
    let e = entries_fault c.args.form c.args.bytes.now c.args.entries.now c.in-Err-Left.left c.requires.form (rw c.in-Err-Left.field-0-is at c.in-Err-Left.ensures.read) in
    let v = c.in-Err-Left.left-is in
    let m = c.line_before-in-Err-Left.ensures in
    faults_at c.args.bytes.now c.in-Err-Left.left c.line_before-in-Err-Left.result e (omega arith)
