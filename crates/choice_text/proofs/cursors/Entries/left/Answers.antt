use Rattle.std.proofs.Common.{sym, ap, ◌∙◌, length}
use Rattle.choice_text.proofs.TakenEntries.{left_is}
use Rattle.choice_text.proofs.cursors.Entries.left.Goals as goal

pub returns : goal.returns
returns c = sym (left_is c.self.inside.left c.self.inside.rest.now c.self.invariant) ∙ ap length c.self.view_is
