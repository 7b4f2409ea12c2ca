use Rattle.std.proofs.Common.{rules}
use Rattle.strip_bound.proofs.ListSteps.{cuts-all}
use Rattle.strip_bound.proofs.lists.cuts_of.Goals as goal

pub returns : goal.returns
returns c =
    cuts-all c.args.inst c.push.new.self.items c.push_axis.new.cuts.items c.push_axis-2.new.cuts.items (search rules) c.in_ok-push_axis.ensures c.in_ok-push_axis-2.ensures
