use Rattle.std.proofs.Common.{◌≡◌, ◌∷◌, List, rules, subst}
use Rattle.std.specs.Prelude.{All}
use Rattle.std.proofs.lemmas.List.Elements.{All-head}
use Rattle.cert_text.specs.declared.forms.Form.TheVariants.{Two}
use Rattle.plan_entries.specs.Ranges.{IsInRange}
use Rattle.plan_entries.specs.declared.entries.Entry.{Entry}
use Rattle.choice_mode.proofs.judging.judge_next.Goals as goal

pub judge_entry-requires : goal.judge_entry-requires
judge_entry-requires g c =
    let e = c.in-Some.entry in
    let rest = c.next_entry.new.entries in
    let next : c.args.entries.now ≡ e ∷ rest = search rules in
    All-head (IsInRange Two) e rest (subst (λ (l : List Entry). All (IsInRange Two) l) next c.requires.ranges)
