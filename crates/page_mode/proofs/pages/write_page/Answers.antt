use Rattle.std.proofs.Common.{◌≡◌, ◌∙◌, suc, ◌++◌, ◌∷◌, [], length, take, ap, inr, refl, rules, sym, subst}
use Rattle.std.specs.Prelude.{IsErrOf, OnOk}
use Rattle.std.specs.List.{concat}
use Rattle.std.proofs.lemmas.List.{append-nil}
use Rattle.std.proofs.lemmas.Result.{on_ok_weaker}
use Rattle.run_parts.specs.declared.parts.WriteStop.TheVariants.{Fault, Memory}
use Rattle.run_parts.specs.Written.{Wrote, WrotePart}
use Rattle.run_parts.proofs.Pieces.{wrote-trans, part-then, part-more}
use Rattle.page_text.specs.Page.{top_text, sheets_from, closing_text, pieces_of, page_of, IsSummaryOf}
use Rattle.page_mode.proofs.Sheets.{page-is, first-pieces}
use Rattle.page_mode.proofs.pages.write_page.Goals as goal

pub returns-in_err-write_top-clause-part : goal.returns-in_err-write_top-clause-part
returns-in_err-write_top-clause-part g c = λ is.
    let es = c.args.entries.now.entries in
    let old = g.K.Sink.past c.args.sink.now in
    let new = g.K.Sink.past c.write_top.new.sink in
    let part : WrotePart old new top_text = search rules in
    subst (WrotePart old new) (sym (page-is es)) (part-more old new top_text (concat (sheets_from 1 es) ++ closing_text es) part)

pub returns-in_err-write_sheets-clause-part : goal.returns-in_err-write_sheets-clause-part
returns-in_err-write_sheets-clause-part g c = λ is.
    let es = c.args.entries.now.entries in
    let old = g.K.Sink.past c.args.sink.now in
    let mid = g.K.Sink.past c.write_top.new.sink in
    let new = g.K.Sink.past c.write_sheets.new.sink in
    let failed : IsErrOf c.write_sheets.result Fault = search rules in
    let part = c.write_sheets.ensures.part failed in
    let top : Wrote old mid top_text = search rules in
    subst (WrotePart old new) (sym (page-is es)) (part-then old mid new top_text (concat (sheets_from 1 es) ++ closing_text es) top (part-more mid new (concat (sheets_from 1 es)) (closing_text es) part))

pub returns-in_err-write_sheets-clause-memory : goal.returns-in_err-write_sheets-clause-memory
returns-in_err-write_sheets-clause-memory g c = λ is.
    let old = g.K.Sink.past c.args.sink.now in
    let mid = g.K.Sink.past c.write_top.new.sink in
    let new = g.K.Sink.past c.write_sheets.new.sink in
    let failed : IsErrOf c.write_sheets.result Memory = search rules in
    let (first, rest, parts, wrote) = c.write_sheets.ensures.memory failed in
    let top : Wrote old mid top_text = search rules in
    let pieces = ap (λ l. concat (take (suc (length first)) (pieces_of l))) parts ∙ first-pieces first rest in
    inr (length first, subst (Wrote old new) (sym pieces) (wrote-trans old mid new top_text (concat (sheets_from 1 first)) top wrote))

pub returns-clause-memory : goal.returns-clause-memory
returns-clause-memory g c = λ is.
    let es = c.args.entries.now.entries in
    let old = g.K.Sink.past c.args.sink.now in
    let mid = g.K.Sink.past c.write_top.new.sink in
    let new = g.K.Sink.past c.write_sheets.new.sink in
    let top : Wrote old mid top_text = search rules in
    let all : Wrote mid new (concat (sheets_from 1 es)) = search rules in
    let pieces = ap (λ l. concat (take (suc (length es)) (pieces_of l))) (sym (append-nil es)) ∙ first-pieces es [] in
    let whole = subst (Wrote old new) (sym pieces) (wrote-trans old mid new top_text (concat (sheets_from 1 es)) top all) in
    inr (length es, subst (λ k. Wrote old (g.K.Sink.past k) (concat (take (suc (length es)) (pieces_of es)))) (sym (c.write_closing.ensures.memory is)) whole)

pub returns-clause-ok : goal.returns-clause-ok
returns-clause-ok g c =
    let es = c.args.entries.now.entries in
    let old = g.K.Sink.past c.args.sink.now in
    let mid = g.K.Sink.past c.write_top.new.sink in
    let after = g.K.Sink.past c.write_sheets.new.sink in
    let new = g.K.Sink.past c.write_closing.new.sink in
    let top : Wrote old mid top_text = search rules in
    let all : Wrote mid after (concat (sheets_from 1 es)) = search rules in
    let summed : IsSummaryOf c.write_sheets.new.summary es = search rules in
    on_ok_weaker c.write_closing.result (λ closes. subst (Wrote old new) (sym (page-is es)) (wrote-trans old mid new top_text (concat (sheets_from 1 es) ++ closing_text es) top (wrote-trans mid after new (concat (sheets_from 1 es)) (closing_text es) all (closes es summed)))) c.write_closing.ensures.ok

pub returns-clause-part : goal.returns-clause-part
returns-clause-part g c = λ is.
    let es = c.args.entries.now.entries in
    let old = g.K.Sink.past c.args.sink.now in
    let mid = g.K.Sink.past c.write_top.new.sink in
    let after = g.K.Sink.past c.write_sheets.new.sink in
    let new = g.K.Sink.past c.write_closing.new.sink in
    let top : Wrote old mid top_text = search rules in
    let all : Wrote mid after (concat (sheets_from 1 es)) = search rules in
    let summed : IsSummaryOf c.write_sheets.new.summary es = search rules in
    let last = c.write_closing.ensures.part is es summed in
    subst (WrotePart old new) (sym (page-is es)) (part-then old mid new top_text (concat (sheets_from 1 es) ++ closing_text es) top (part-then mid after new (concat (sheets_from 1 es)) (closing_text es) all last))
