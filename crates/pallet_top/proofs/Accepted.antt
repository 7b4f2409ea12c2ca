-- The verdicts on a report that `plan` wrote.
use Rattle.std.proofs.Common.{◌≡◌, false, List, [], ◌∷◌, ◌++◌, refl, sym, ap, subst, ◌∙◌}
use Rattle.std.specs.Prelude.{map}
use Rattle.std.specs.List.{All}
use Rattle.std.proofs.lemmas.List.Elements.{All-head, All-tail}
use Rattle.cert_text.specs.declared.forms.Form.TheVariants.{Two}
use Rattle.plan_entries.specs.declared.entries.Entry.{Entry}
use Rattle.plan_entries.specs.declared.entries.Entry.TheVariants.{Planned, Refused}
use Rattle.report_text.specs.Reports.{Report, report_lines, report_text, AreReported, IsReport}
use Rattle.report_text.proofs.ReportBytes.{report_text_is, reports_one_spelling}
use Rattle.texts.specs.Lines.{text_of}
use Rattle.par_judge.specs.Judged.{AreVerdicts}
use Rattle.par_judge.proofs.Joined.{verdicts-none, verdicts-cons, one-list}
use Rattle.plan_mode.specs.Accepted.{verdict_due, IsAcceptedEntry}
use Rattle.check_mode.specs.Verdicts.{any_no}
use Rattle.pallet_top.specs.Laws.{PlansAreAccepted}

-- the verdicts that are due are right
due : (es : List Entry) → All IsAcceptedEntry es → AreVerdicts es (map verdict_due es)
due [] all = verdicts-none
due (e ∷ es) all = verdicts-cons e (verdict_due e) es (map verdict_due es) (All-head IsAcceptedEntry e es all).0 (due es (All-tail IsAcceptedEntry e es all))

-- none of them is no
none_no : (es : List Entry) → any_no (map verdict_due es) ≡ false
none_no [] = refl
none_no (Planned p ∷ es) = none_no es
none_no (Refused n fault ∷ es) = none_no es

-- the report of a text has these entries
same_entries : (es : List Entry) (r : Report) → AreReported Two es → IsReport r → report_text r.form r.entries ≡ report_text Two es → r.entries ≡ es
same_entries es r fits is e =
    let two : Report = record { form = Two; entries = es } in
    let texts : text_of (report_lines r) ++ [] ≡ text_of (report_lines two) ++ [] = ap (λ t. t ++ []) (report_text_is r ∙ e ∙ sym (report_text_is two)) in
    ap (λ (x : Report). x.entries) (reports_one_spelling r two [] [] is fits texts).0

pub accepted : PlansAreAccepted
accepted orders report refused wrote found p j =
    let r = j.has_report.is_report in
    let same : j.report.entries ≡ p.entries = same_entries p.entries j.report p.accepted.reported r.reported (sym r.text ∙ p.plain) in
    let right : AreVerdicts p.entries j.verdicts = subst (λ es. AreVerdicts es j.verdicts) same j.are_verdicts in
    let are : j.verdicts ≡ map verdict_due p.entries = one-list p.entries (map verdict_due p.entries) (due p.entries p.accepted.verdicts) j.verdicts right in (
      record {
        rows = p.rows;
        has_rows = p.has_rows;
        entries = p.entries;
        are_entries = p.are_entries;
        verdicts = rw (are, same) at j.text;
      },
      sym j.finding ∙ ap any_no are ∙ none_no p.entries,
    )
