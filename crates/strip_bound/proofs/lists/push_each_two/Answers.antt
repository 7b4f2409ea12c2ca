use Rattle.std.proofs.Common.{◌+◌, drop, get_or, arith}
use Rattle.strip_bound.specs.CutLists.{beside, each_two}
use Rattle.strip_bound.proofs.ListSteps.{left-more, two-next}
use Rattle.strip_bound.proofs.lists.push_each_two.Goals as goal

pub loop-i-preserved : goal.loop-i-preserved
loop-i-preserved c =
    let a = c.args in
    let xs = a.shorts.now in
    let i = c.loop-i.i in
    record {
      left = left-more a.axis a.inst (each_two xs) (each_two (drop i xs)) (beside (get_or xs i 0) 1 (drop (i + 1) xs)) (each_two (drop (i + 1) xs))
          a.cuts.now.items c.loop-i.cuts.items c.push_beside.new.cuts.items c.loop-i.invariant.left (two-next i xs c.loop-i-test.true) c.in_ok-push_beside.ensures.adds;
      kept = c.in_ok-push_beside.ensures.kept;
      distances = omega arith;
    }
