use Rattle.std.proofs.Common.{◌∙◌, sym, ap, List, Ok}
use Rattle.texts.specs.Lines.{whole_lines}
use Rattle.plan_entries.specs.declared.entries.Entry.{Entry}
use Rattle.choice_text.proofs.TakenEntries.{all_ahead}
use Rattle.choice_text.proofs.entries.entries_at.Goals as goal

pub new-requires : goal.new-requires
new-requires c = (all_ahead c.in_ok-count.count c.args.bytes.now (whole_lines c.in_ok-count.rest.now) c.in_ok-count.ensures.read).in_front

pub returns-clause-read : goal.returns-clause-read
returns-clause-read c =
    (all_ahead c.in_ok-count.count c.args.bytes.now (whole_lines c.in_ok-count.rest.now) c.in_ok-count.ensures.read).read ∙ ap (λ (es : List Entry). Ok (es, whole_lines c.in_ok-count.rest.now)) (sym c.new.ensures)
