use Rattle.std.proofs.Common.{◌≡◌, ◌+◌, ◌-◌, ◌∷◌, [], drop, get_or, arith, ap, ◌∙◌}
use Rattle.strip_bound.specs.CutLists.{Counts, beside}
use Rattle.strip_bound.specs.Kept.{Adds}
use Rattle.strip_bound.proofs.ListSteps.{left-more, beside-next}
use Rattle.strip_bound.proofs.lists.push_beside.Goals as goal

pub loop-k-preserved : goal.loop-k-preserved
loop-k-preserved c =
    let a = c.args in
    let xs = a.shorts.now in
    let k = c.loop-k.k in
    let j = get_or xs a.i 0 in
    let n : Counts = record { a = j - get_or xs k 0; b = k - a.i } in
    let adds : Adds a.axis a.inst (n ∷ []) c.loop-k.cuts.items c.push_new.new.cuts.items = rw c.saturating_sub.ensures at c.in_ok-push_new.ensures.adds in
    let e : beside j (k - a.i) (drop k xs) ≡ n ∷ beside j ((k + 1) - a.i) (drop (k + 1) xs) =
    beside-next j (k - a.i) k xs c.loop-k-test.true
    ∙ ap (λ d. n ∷ beside j d (drop (k + 1) xs)) (omega (arith, c.loop-k.auto.k)) in
    record {
      left = left-more a.axis a.inst (beside j 1 (drop (a.i + 1) xs)) (beside j (k - a.i) (drop k xs)) (n ∷ [])
          (beside j ((k + 1) - a.i) (drop (k + 1) xs)) a.cuts.now.items c.loop-k.cuts.items c.push_new.new.cuts.items c.loop-k.invariant.left e adds;
      kept = c.in_ok-push_new.ensures.kept;
    }
