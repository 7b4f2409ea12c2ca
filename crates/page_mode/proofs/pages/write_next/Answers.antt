use Rattle.std.proofs.Common.{◌≡◌, ◌∷◌, ◌++◌, ◌+◌, [], List, ap, rules, sym, subst}
use Rattle.std.specs.Prelude.{All}
use Rattle.std.specs.List.{concat}
use Rattle.std.proofs.lemmas.List.Elements.{All-head}
use Rattle.std.proofs.lemmas.Result.{on_ok_weaker}
use Rattle.cert_text.specs.declared.forms.Form.TheVariants.{Two}
use Rattle.plan_entries.specs.Ranges.{IsInRange}
use Rattle.plan_entries.specs.declared.entries.Entry.{Entry}
use Rattle.run_parts.specs.Written.{WrotePart}
use Rattle.run_parts.proofs.Pieces.{part-more}
use Rattle.page_text.specs.Page.{sheet_text, sheets_from, IsSummaryOf}
use Rattle.page_mode.proofs.pages.write_next.Goals as goal

pub write_sheet-requires : goal.write_sheet-requires
write_sheet-requires g c =
    let e = c.in-Some.entry in
    let rest = c.next_entry.new.entries.entries in
    let next : c.args.entries.now.entries ≡ e ∷ rest = search rules in
    All-head (IsInRange Two) e rest (subst (λ (l : List Entry). All (IsInRange Two) l) next c.requires.ranges)

pub returns-clause-ok : goal.returns-clause-ok
returns-clause-ok g c =
    let e = c.in-Some.entry in
    let rest = c.next_entry.new.entries.entries in
    let next : c.args.entries.now.entries ≡ e ∷ rest = search rules in
    let added : (es : List Entry) → IsSummaryOf c.args.summary.now es → IsSummaryOf c.add.new.self (es ++ e ∷ []) = search rules in
    on_ok_weaker c.write_sheet.result (λ wrote. (e, next, wrote, added)) c.write_sheet.ensures.ok

pub returns-clause-part : goal.returns-clause-part
returns-clause-part g c = λ is.
    let e = c.in-Some.entry in
    let rest = c.next_entry.new.entries.entries in
    let next : c.args.entries.now.entries ≡ e ∷ rest = search rules in
    let old = g.K.Sink.past c.args.sink.now in
    let new = g.K.Sink.past c.write_sheet.new.sink in
    let part : WrotePart old new (sheet_text c.args.number e) = c.write_sheet.ensures.part is in
    subst (WrotePart old new) (sym (ap (λ (l : List Entry). concat (sheets_from c.args.number l)) next)) (part-more old new (sheet_text c.args.number e) (concat (sheets_from (c.args.number + 1) rest)) part)
