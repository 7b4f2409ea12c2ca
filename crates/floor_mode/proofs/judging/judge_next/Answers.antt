use Rattle.std.proofs.Common.{◌≡◌, ◌∷◌, List, rules, subst}
use Rattle.std.specs.Prelude.{All}
use Rattle.std.proofs.lemmas.List.Elements.{All-head, All-tail}
use Rattle.cert_text.specs.declared.forms.Form.TheVariants.{Two}
use Rattle.plan_entries.specs.Ranges.{IsInRange}
use Rattle.floor_text.specs.declared.rows.FloorRow.{FloorRow}
use Rattle.floor_text.specs.Text.{entries_in}
use Rattle.floor_mode.proofs.judging.judge_next.Goals as goal

pub judge_row-requires-clause-floor : goal.judge_row-requires-clause-floor
judge_row-requires-clause-floor g c =
    let r = c.in-Some.row in
    let rest = c.next_row.new.rows in
    let next : c.args.rows.now ≡ r ∷ rest = search rules in
    let ranges = subst (λ (rs : List FloorRow). All (IsInRange Two) (entries_in rs)) next c.requires.ranges in
    All-head (IsInRange Two) r.floor (r.load ∷ entries_in rest) ranges

pub judge_row-requires-clause-load : goal.judge_row-requires-clause-load
judge_row-requires-clause-load g c =
    let r = c.in-Some.row in
    let rest = c.next_row.new.rows in
    let next : c.args.rows.now ≡ r ∷ rest = search rules in
    let ranges = subst (λ (rs : List FloorRow). All (IsInRange Two) (entries_in rs)) next c.requires.ranges in
    All-head (IsInRange Two) r.load (entries_in rest) (All-tail (IsInRange Two) r.floor (r.load ∷ entries_in rest) ranges)
