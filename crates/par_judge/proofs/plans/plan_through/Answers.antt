use Rattle.std.proofs.Common.{◌≡◌, ◌+◌, ◌-◌, ◌++◌, length, take, drop, min, sym, subst, arith}
use Rattle.par_judge.specs.Planned.{IsPlanOfNumbered, ArePlansOf}
use Rattle.par_judge.proofs.Joined.{paired-join, paired-whole}
use Rattle.par_judge.proofs.plans.plan_through.Goals as goal

pub loop-before-preserved : goal.loop-before-preserved
loop-before-preserved g c =
    let all = c.args.orders.now in
    let i = c.loop-before.before in
    let end = c.min-end.result in
    let up : i + (end - i) ≡ end = omega (arith, c.min-end.ensures, c.loop-before-test.true) in
    let here : ArePlansOf (take (end - i) (drop i all)) c.in_ok-group.group.items = c.in_ok-group.ensures in
    let next : ArePlansOf (take (i + (end - i)) all) (c.loop-before.plans.items ++ c.in_ok-group.group.items) =
    paired-join IsPlanOfNumbered all i (end - i) c.loop-before.plans.items c.in_ok-group.group.items c.loop-before.invariant.made here in
    record {
      within = omega (arith, c.min-end.ensures);
      made = rw (c.in_ok-append.ensures.items) (subst (λ n. ArePlansOf (take n all) (c.loop-before.plans.items ++ c.in_ok-group.group.items)) up next);
    }

pub returns : goal.returns
returns g c = paired-whole IsPlanOfNumbered c.args.orders.now c.loop-before.before c.loop-before.plans.items (omega (arith, c.loop-before-test.false)) c.loop-before.invariant.made
