use Rattle.std.proofs.Common.{arith, ◌≡◌, ◌+◌}
use Rattle.g4_patterns.specs.Scan.{first_at, second_at}
use Rattle.g4_patterns.proofs.TopLemmas.{top-more, covers-more}
use Rattle.g4_patterns.proofs.scanning.scan_y.Goals as goal

pub loop-k-preserved : goal.loop-k-preserved
loop-k-preserved c =
    let q = c.args.q in
    let x1 = c.args.x1 in
    let x2 = c.args.x2 in
    let k = c.loop-k.k in
    let old = c.loop-k.invariant in
    let f : c.look_from.result + c.look_from-in-loop-k.result ≡ first_at q x1 x2 k = omega (arith, c.look_from.ensures.value, c.look_from-in-loop-k.ensures.value) in
    let g : c.look_from-in-loop-k-2.result + c.look_from-in-loop-k-3.result ≡ second_at q x1 x2 k = omega (arith, c.look_from-in-loop-k-2.ensures.value, c.look_from-in-loop-k-3.ensures.value) in
    let t = top-more q x1 x2 k _ c.loop-k.top c.better_top-top.result old.3 f (omega (arith, c.look_from.ensures.small, c.look_from-in-loop-k.ensures.small)) c.better_top-top.ensures.up c.better_top-top.ensures.covers c.better_top-top.ensures.which in
    let new = c.try_cut-best.ensures in
    (omega (arith, old.0, new.above), covers-more q x1 x2 k _ _ c.better_top-top.result new.above old.1 t (omega (arith, new.covers, g)), new.reached, t)

pub returns-clause-covers : goal.returns-clause-covers
returns-clause-covers c = λ j k h l. c.loop-k.invariant.1 j k h (omega arith)
