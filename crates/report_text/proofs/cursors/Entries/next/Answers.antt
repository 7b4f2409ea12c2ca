use Rattle.std.proofs.Common.{◌≡◌, ◌∷◌, ◌+◌, ◌-◌, ◌∙◌, sym, ap, subst, arith, List}
use Rattle.plan_entries.specs.declared.entries.Entry.{Entry}
use Rattle.report_text.specs.Cursors.{entries_in, IsRest}
use Rattle.report_text.specs.Reports.{Report}
use Rattle.report_text.proofs.ReportBytes.{parted, begins}
use Rattle.report_text.proofs.cursors.Entries.next.Goals as goal

pub entry_of_text-requires : goal.entry_of_text-requires
entry_of_text-requires c =
    let s = c.self.inside in
    let no = c.if-self-eq0.false in
    begins s.form s.left s.before s.rest.now (omega arith) c.self.invariant

pub invariant_of-self : goal.invariant_of-self
invariant_of-self c =
    let s = c.self.inside in
    let no = c.if-self-eq0.false in
    let p = parted s.form s.left s.before s.rest.now (omega arith) c.self.invariant in
    let got = c.in_ok-entry.ensures p.entry p.behind p.fits p.parts in
    subst (IsRest s.form (s.left - 1) (s.before + 1)) (sym got.1) p.next.is_rest

pub returns : goal.returns
returns c =
    let s = c.self.inside in
    let no = c.if-self-eq0.false in
    let p = parted s.form s.left s.before s.rest.now (omega arith) c.self.invariant in
    let got = c.in_ok-entry.ensures p.entry p.behind p.fits p.parts in
    let v = c.self.view_is in
    let rest : p.others ≡ entries_in s.form (s.left - 1) (s.before + 1) c.in_ok-entry.rest.now = sym p.next.entries ∙ ap (entries_in s.form (s.left - 1) (s.before + 1)) (sym got.1) in
    (ap (λ (r : Report). r.entries) (sym v) ∙ p.entries ∙ ap (λ (e : Entry). e ∷ p.others) (sym got.0) ∙ ap (λ (es : List Entry). c.in_ok-entry.entry ∷ es) rest, ap (λ (r : Report). r.form) v)
