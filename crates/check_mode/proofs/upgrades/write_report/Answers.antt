use Rattle.std.proofs.Common.{[], ◌++◌, length, inr, rules, sym, subst}
use Rattle.std.specs.Prelude.{IsErrOf, OnOk}
use Rattle.std.proofs.lemmas.List.{append-nil}
use Rattle.cert_text.specs.declared.forms.Form.TheVariants.{Two}
use Rattle.run_parts.specs.declared.parts.WriteStop.TheVariants.{Fault, Memory}
use Rattle.run_parts.specs.Written.{Wrote, WrotePart}
use Rattle.run_parts.proofs.Pieces.{wrote-trans, part-then, part-more}
use Rattle.report_text.specs.Reports.{head_text, entries_text, done_text}
use Rattle.check_mode.proofs.Copies.{on-ok}
use Rattle.check_mode.proofs.upgrades.write_report.Goals as goal

pub returns-in_err-send-clause-part : goal.returns-in_err-send-clause-part
returns-in_err-send-clause-part g c = λ is.
    let part : WrotePart (g.K.Sink.past c.args.sink.now) (g.K.Sink.past c.send.new.sink) (head_text Two) = search rules in
    part-more _ _ (head_text Two) _ part

pub returns-in_err-write_entries-clause-part : goal.returns-in_err-write_entries-clause-part
returns-in_err-write_entries-clause-part g c = λ is.
    let es = c.args.entries.now.entries in
    let failed : IsErrOf c.write_entries.result Fault = search rules in
    let part = c.write_entries.ensures.part failed in
    let head : Wrote (g.K.Sink.past c.args.sink.now) (g.K.Sink.past c.send.new.sink) (head_text Two) = search rules in
    part-then _ _ _ (head_text Two) _ head (part-more _ _ (entries_text Two es) _ part)

pub returns-in_err-write_entries-clause-memory : goal.returns-in_err-write_entries-clause-memory
returns-in_err-write_entries-clause-memory g c = λ is.
    let failed : IsErrOf c.write_entries.result Memory = search rules in
    let (first, rest, parts, wrote) = c.write_entries.ensures.memory failed in
    let head : Wrote (g.K.Sink.past c.args.sink.now) (g.K.Sink.past c.send.new.sink) (head_text Two) = search rules in
    inr (first, rest, parts, wrote-trans _ _ _ (head_text Two) _ head wrote)

pub returns-clause-memory : goal.returns-clause-memory
returns-clause-memory g c = λ is.
    let es = c.args.entries.now.entries in
    let head : Wrote (g.K.Sink.past c.args.sink.now) (g.K.Sink.past c.send.new.sink) (head_text Two) = search rules in
    let all : Wrote (g.K.Sink.past c.send.new.sink) (g.K.Sink.past c.write_entries.new.sink) (entries_text Two es) = search rules in
    let old = g.K.Sink.past c.args.sink.now in
    let whole : Wrote old (g.K.Sink.past c.write_entries.new.sink) (head_text Two ++ entries_text Two es) = wrote-trans _ _ _ (head_text Two) _ head all in
    inr (es, [], sym (append-nil es), subst (λ k. Wrote old (g.K.Sink.past k) (head_text Two ++ entries_text Two es)) (sym (c.write_done.ensures.memory is)) whole)

pub returns-clause-ok : goal.returns-clause-ok
returns-clause-ok g c =
    let es = c.args.entries.now.entries in
    let head : Wrote (g.K.Sink.past c.args.sink.now) (g.K.Sink.past c.send.new.sink) (head_text Two) = search rules in
    let all : Wrote (g.K.Sink.past c.send.new.sink) (g.K.Sink.past c.write_entries.new.sink) (entries_text Two es) = search rules in
    let last : OnOk c.write_done.result (Wrote (g.K.Sink.past c.write_entries.new.sink) (g.K.Sink.past c.write_done.new.sink) (done_text (length es))) = search rules in
    on-ok c.write_done.result (λ more. wrote-trans _ _ _ (head_text Two) _ head (wrote-trans _ _ _ (entries_text Two es) _ all more)) last

pub returns-clause-part : goal.returns-clause-part
returns-clause-part g c = λ is.
    let es = c.args.entries.now.entries in
    let head : Wrote (g.K.Sink.past c.args.sink.now) (g.K.Sink.past c.send.new.sink) (head_text Two) = search rules in
    let all : Wrote (g.K.Sink.past c.send.new.sink) (g.K.Sink.past c.write_entries.new.sink) (entries_text Two es) = search rules in
    let last : WrotePart (g.K.Sink.past c.write_entries.new.sink) (g.K.Sink.past c.write_done.new.sink) (done_text (length es)) = search rules in
    part-then _ _ _ (head_text Two) _ head (part-then _ _ _ (entries_text Two es) _ all last)
