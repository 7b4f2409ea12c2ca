use Rattle.std.proofs.Common.{ℕ, ◌+◌, sym, subst, arith}
use Rattle.case_design.proofs.SizeSteps.{IsCounted, counted_more, counted_all}
use Rattle.case_design.proofs.sizes.count_sizes.Goals as goal

pub loop-long-preserved : goal.loop-long-preserved
loop-long-preserved c =
    let long = c.loop-long.long in
    let count = c.loop-long.count in
    let shorts = c.shorts_with-shorts.result in
    let before = c.loop-long.invariant in
    record {
      counted = subst (λ (n : ℕ). IsCounted c.args.brief.now (long + 1) (count + n)) (sym c.saturating_sub-count.ensures) (counted_more c.args.brief.now long shorts.start shorts.end count c.shorts_with-shorts.ensures.sizes before.counted);
      few = omega (arith, before.few, c.shorts_with-shorts.ensures.short, c.saturating_sub-count.ensures);
    }

pub returns : goal.returns
returns c = λ sizes are. counted_all c.args.brief.now c.loop-long.long c.loop-long.count sizes (omega arith) c.loop-long.invariant.counted are
