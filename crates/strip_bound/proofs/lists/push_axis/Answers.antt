use Rattle.std.proofs.Common.{◌∷◌, [], subst}
use Rattle.std.proofs.lemmas.Result.{IfOk-weaker}
use Rattle.strip_bound.specs.CutLists.{Counts, each_two}
use Rattle.strip_bound.specs.Kept.{Adds}
use Rattle.strip_bound.proofs.ListSteps.{adds-one, adds-join, adds-axis}
use Rattle.strip_bound.proofs.lists.push_axis.Goals as goal

pub returns : goal.returns
returns c =
    let a = c.args in
    let xs = c.in_ok-shorts.shorts.items in
    let long : Counts = record { a = 1; b = 0 } in
    let short : Counts = record { a = 0; b = 1 } in
    let one = adds-one a.axis a.inst long c.line_cut.result a.cuts.now.items c.push.new.self.items c.line_cut.ensures c.in_ok-push.ensures.items in
    let two = adds-one a.axis a.inst short c.line_cut-2.result c.push.new.self.items c.push-2.new.self.items c.line_cut-2.ensures c.in_ok-push-2.ensures.items in
    let first = adds-join a.axis a.inst (long ∷ []) (short ∷ []) a.cuts.now.items c.push.new.self.items c.push-2.new.self.items one two in
    IfOk-weaker c.push_each_two.result _ _
    (λ _ rest. adds-axis a.axis a.inst xs a.cuts.now.items c.push_each_two.new.cuts.items c.in_ok-shorts.ensures.are_shorts
    (adds-join a.axis a.inst (long ∷ short ∷ []) (each_two xs) a.cuts.now.items c.push-2.new.self.items c.push_each_two.new.cuts.items first
    (subst (λ ys. Adds a.axis a.inst (each_two ys) c.push-2.new.self.items c.push_each_two.new.cuts.items) c.as_slice.ensures.value rest)))
    c.push_each_two.ensures
