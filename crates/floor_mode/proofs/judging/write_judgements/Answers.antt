use Rattle.std.proofs.Common.{◌*◌, length, rules, sym, subst}
use Rattle.std.specs.Prelude.{◌==◌, IsErrOf}
use Rattle.run_parts.specs.declared.parts.WriteStop.TheVariants.{Fault}
use Rattle.run_parts.specs.Written.{WrotePart}
use Rattle.run_parts.proofs.Pieces.{part-then, part-more}
use Rattle.report_text.specs.Reports.{done_text}
use Rattle.plan_mode.specs.Pieces.{done_if}
use Rattle.floor_mode.specs.Judging.{rows_judged}
use Rattle.floor_mode.proofs.JudgedRows.{all-first, begun-whole}
use Rattle.floor_mode.proofs.judging.write_judgements.Goals as goal

pub returns-in_err-found-clause-part : goal.returns-in_err-found-clause-part
returns-in_err-found-clause-part g c = λ is.
    let rows = c.args.rows.now in
    let failed : IsErrOf c.judge_rows.result Fault = search rules in
    let (js, first, part) = c.judge_rows.ensures.part failed in
    (js, first, part-more _ _ (rows_judged rows js) (done_if (length js == length rows) (2 * length rows)) part)

pub returns-in_default-clause-memory : goal.returns-in_default-clause-memory
returns-in_default-clause-memory g c = λ is.
    let (js, are, found, wrote) = c.in_ok-found.ensures.ok in
    (js, all-first c.args.rows.now js are, wrote)

pub returns-in_err-send-clause-part : goal.returns-in_err-send-clause-part
returns-in_err-send-clause-part g c = λ is.
    let rows = c.args.rows.now in
    let (js, are, found, wrote) = c.in_ok-found.ensures.ok in
    let old = g.K.Sink.past c.args.sink.now in
    let mid = g.K.Sink.past c.judge_rows.new.sink in
    let new = g.K.Sink.past c.send.new.sink in
    let last : WrotePart mid new (done_text (2 * length rows)) = search rules in
    (js, all-first rows js are, subst (WrotePart old new) (sym (begun-whole rows js are)) (part-then old mid new (rows_judged rows js) (done_text (2 * length rows)) wrote last))
