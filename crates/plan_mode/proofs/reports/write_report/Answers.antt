use Rattle.std.proofs.Common.{◌≡◌, ◌++◌, [], length, ap, inr, refl, sym, rules}
use Rattle.std.specs.Prelude.{◌==◌, IsErrOf}
use Rattle.run_parts.specs.declared.parts.WriteStop.TheVariants.{Fault, Memory}
use Rattle.run_parts.specs.Written.{Wrote, WrotePart}
use Rattle.run_parts.proofs.Pieces.{wrote-trans, part-then, part-more}
use Rattle.report_text.specs.Reports.{done_text}
use Rattle.plan_mode.specs.Pieces.{joined, head_of, done_if}
use Rattle.plan_mode.proofs.EntryFacts.{none-first, all-first, done-begun}
use Rattle.plan_mode.proofs.Acceptance.{are_accepted}
use Rattle.plan_mode.proofs.PlainText.{plain}
use Rattle.plan_mode.proofs.reports.write_report.Goals as goal

pub returns-in_err-send-clause-part : goal.returns-in_err-send-clause-part
returns-in_err-send-clause-part g c = λ is.
    let draw = c.args.draw in
    let part : WrotePart (g.K.Sink.past c.args.sink.now) (g.K.Sink.past c.send.new.sink) (head_of draw) = search rules in
    ([], _, none-first c.args.rows.now, record { pieces = []; are_pieces = tt; text_is = refl }, part-more _ _ (head_of draw) _ part)

pub returns-in_err-found-clause-part : goal.returns-in_err-found-clause-part
returns-in_err-found-clause-part g c = λ is.
    let draw = c.args.draw in
    let failed : IsErrOf c.write_entries.result Fault = search rules in
    let (es, ts, first, pieces, part) = c.write_entries.ensures.part failed in
    let head : Wrote (g.K.Sink.past c.args.sink.now) (g.K.Sink.past c.send.new.sink) (head_of draw) = search rules in
    let last = done_if (length es == length c.args.rows.now) (length c.args.rows.now) in (
      es,
      head_of draw ++ (joined ts ++ last),
      first,
      record { pieces = ts; are_pieces = pieces; text_is = refl },
      part-then _ _ _ (head_of draw) _ head (part-more _ _ (joined ts) last part),
    )

pub returns-in_err-found-clause-memory : goal.returns-in_err-found-clause-memory
returns-in_err-found-clause-memory g c = λ is.
    let draw = c.args.draw in
    let failed : IsErrOf c.write_entries.result Memory = search rules in
    let (es, ts, first, pieces, wrote) = c.write_entries.ensures.memory failed in
    let head : Wrote (g.K.Sink.past c.args.sink.now) (g.K.Sink.past c.send.new.sink) (head_of draw) = search rules in
    inr (es, head_of draw ++ joined ts, first, record { pieces = ts; are_pieces = pieces; text_is = refl }, wrote-trans _ _ _ (head_of draw) (joined ts) head wrote)

pub returns-in_default-done-clause-memory : goal.returns-in_default-done-clause-memory
returns-in_default-done-clause-memory g c = λ is.
    let draw = c.args.draw in
    let (es, ts, are, found, count, pieces, wrote) = c.in_ok-found.ensures.ok in
    let head : Wrote (g.K.Sink.past c.args.sink.now) (g.K.Sink.past c.send.new.sink) (head_of draw) = search rules in
    inr (es, head_of draw ++ joined ts, all-first c.args.rows.now es are, record { pieces = ts; are_pieces = pieces; text_is = refl }, wrote-trans _ _ _ (head_of draw) (joined ts) head wrote)

pub returns-in_err-send-2-clause-part : goal.returns-in_err-send-2-clause-part
returns-in_err-send-2-clause-part g c = λ is.
    let draw = c.args.draw in
    let rows = c.args.rows.now in
    let (es, ts, are, found, count, pieces, wrote) = c.in_ok-found.ensures.ok in
    let head : Wrote (g.K.Sink.past c.args.sink.now) (g.K.Sink.past c.send.new.sink) (head_of draw) = search rules in
    let last : WrotePart (g.K.Sink.past c.write_entries.new.sink) (g.K.Sink.past c.send-2.new.sink) (done_text (length rows)) = search rules in (
      es,
      head_of draw ++ (joined ts ++ done_text (length rows)),
      all-first rows es are,
      record { pieces = ts; are_pieces = pieces; text_is = ap (λ t. head_of draw ++ (joined ts ++ t)) (sym (done-begun (length rows) es count)) },
      part-then _ _ _ (head_of draw) _ head (part-then _ _ _ (joined ts) _ wrote last),
    )

pub returns-clause-ok : goal.returns-clause-ok
returns-clause-ok g c =
    let draw = c.args.draw in
    let rows = c.args.rows.now in
    let (es, ts, are, found, count, pieces, wrote) = c.in_ok-found.ensures.ok in
    let head : Wrote (g.K.Sink.past c.args.sink.now) (g.K.Sink.past c.send.new.sink) (head_of draw) = search rules in
    let last : Wrote (g.K.Sink.past c.write_entries.new.sink) (g.K.Sink.past c.send-2.new.sink) (done_text (length rows)) = search rules in
    let whole : head_of draw ++ (joined ts ++ done_text (length rows)) ≡ head_of draw ++ (joined ts ++ done_text (length es)) = ap (λ n. head_of draw ++ (joined ts ++ done_text n)) (sym count) in (
      es,
      head_of draw ++ (joined ts ++ done_text (length rows)),
      are,
      are_accepted rows es c.requires.few are,
      found,
      record { pieces = ts; are_pieces = pieces; text_is = whole },
      plain draw es ts _ pieces whole,
      wrote-trans _ _ _ (head_of draw) _ head (wrote-trans _ _ _ (joined ts) _ wrote last),
    )
