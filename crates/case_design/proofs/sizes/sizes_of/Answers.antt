use Rattle.std.proofs.Common.{◌+◌, List, sym, subst}
use Rattle.case_design.specs.declared.sizes.Size.{Size}
use Rattle.case_design.specs.Sizes.{Lists}
use Rattle.case_design.proofs.SizeSteps.{IsSizeUpTo, one_long_more}
use Rattle.case_design.proofs.sizes.sizes_of.Goals as goal

pub loop-long-preserved : goal.loop-long-preserved
loop-long-preserved c =
    let shorts = c.shorts_with-shorts.result in
    subst (λ (sizes : List Size). Lists (IsSizeUpTo c.args.brief.now (c.loop-long.long + 1) 0) sizes) (sym c.in_ok-push_sizes.ensures)
    (one_long_more c.args.brief.now c.loop-long.long shorts.start shorts.end c.loop-long.sizes.items c.shorts_with-shorts.ensures.sizes c.loop-long.invariant)
