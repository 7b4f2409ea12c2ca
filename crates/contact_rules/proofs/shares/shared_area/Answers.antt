use Rattle.std.proofs.Common.{sym}
use Rattle.contact_rules.proofs.CellSteps.{shared-product}
use Rattle.contact_rules.proofs.AreaSteps.{area-small}
use Rattle.contact_rules.proofs.shares.shared_area.Goals as goal

pub returns-clause-value : goal.returns-clause-value
returns-clause-value c =
    rw (c.overlap_along.ensures.value, c.overlap_along-2.ensures.value) (sym (shared-product c.args.inst c.args.gap c.args.s c.args.t c.requires.gap c.requires.s_inside))

pub returns-clause-small : goal.returns-clause-small
returns-clause-small c =
    area-small c.args.inst c.args.gap c.args.t.way c.overlap_along.result c.overlap_along-2.result c.overlap_along.ensures.small c.overlap_along-2.ensures.small
