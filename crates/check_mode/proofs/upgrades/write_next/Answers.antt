use Rattle.std.proofs.Common.{◌≡◌, ◌∷◌, List, ap, rules, sym, subst}
use Rattle.std.specs.Prelude.{All}
use Rattle.std.proofs.lemmas.List.Elements.{All-head}
use Rattle.cert_text.specs.declared.forms.Form.TheVariants.{Two}
use Rattle.plan_entries.specs.Ranges.{IsInRange}
use Rattle.plan_entries.specs.declared.entries.Entry.{Entry}
use Rattle.run_parts.specs.Written.{WrotePart}
use Rattle.run_parts.proofs.Pieces.{part-more}
use Rattle.report_text.specs.Text.{entry_text}
use Rattle.report_text.specs.Reports.{entries_text}
use Rattle.check_mode.proofs.upgrades.write_next.Goals as goal

pub write_entry-requires : goal.write_entry-requires
write_entry-requires g c =
    let e = c.in-Some.entry in
    let rest = c.next_entry.new.entries.entries in
    let next : c.args.entries.now.entries ≡ e ∷ rest = search rules in
    All-head (IsInRange Two) e rest (subst (λ (l : List Entry). All (IsInRange Two) l) next c.requires.ranges)

pub returns-clause-part : goal.returns-clause-part
returns-clause-part g c = λ is.
    let e = c.in-Some.entry in
    let rest = c.next_entry.new.entries.entries in
    let next : c.args.entries.now.entries ≡ e ∷ rest = search rules in
    let old = g.K.Sink.past c.args.sink.now in
    let new = g.K.Sink.past c.write_entry.new.sink in
    let part : WrotePart old new (entry_text Two e) = c.write_entry.ensures.part is in
    subst (WrotePart old new) (sym (ap (λ (l : List Entry). entries_text Two l) next)) (part-more old new (entry_text Two e) (entries_text Two rest) part)
