use Rattle.std.proofs.Common.{sym, ap, ◌∙◌, length}
use Rattle.floor_text.proofs.TakenRows.{left_is}
use Rattle.floor_text.proofs.cursors.Rows.left.Goals as goal

pub returns : goal.returns
returns c = sym (left_is c.self.inside.left c.self.inside.before c.self.inside.rest.now c.self.invariant) ∙ ap length c.self.view_is
