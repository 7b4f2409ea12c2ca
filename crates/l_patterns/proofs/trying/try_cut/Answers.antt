use Rattle.std.proofs.Common.{arith, ◌<◌, ◌+◌, ◌/◌, ◌*◌}
use Rattle.block_tree.specs.Regions.{area}
use Rattle.l_patterns.proofs.PartLemmas.{fails-first, fails-second, fails-cells}
use Rattle.l_patterns.proofs.trying.try_cut.Goals as goal
use Rattle.l_patterns.proofs.trying.try_cut.Goals.{then-area_1-whole-via-then-area_1-whole, then-area_1-whole-via-else-area_1-whole+then-area_2-whole}

pub returns-then-area_1-whole : goal.returns-then-area_1-whole
returns-then-area_1-whole c =
    let a = c.args in
    let t = c.split.ensures.parts in
    elim c.then-area_1-whole.branch [
      | then-area_1-whole-via-then-area_1-whole w ↦
          fails-first a.q a.r c.requires.fits a.cut _ _ t a.need
          (omega (arith, w.if-area_1-whole.true, c.area_of-whole.ensures.value, c.area_of-area_1.ensures.value))
      | then-area_1-whole-via-else-area_1-whole+then-area_2-whole w ↦
          fails-second a.q a.r c.requires.fits a.cut _ _ t a.need
          (omega (arith, w.if-area_2-whole.true, c.area_of-whole.ensures.value, c.area_of-area_2.ensures.value))
    ]

pub returns-then-area_1-case : goal.returns-then-area_1-case
returns-then-area_1-case c =
    let q = c.args.q in
    let k : area c.split.result.0 / (q.inst.long * q.inst.short) + area c.split.result.1 / (q.inst.long * q.inst.short) < c.args.need =
    rw (c.area_of-area_1.ensures.value, c.area_of-area_2.ensures.value) at c.if-area_1-case.true in
    fails-cells q c.args.r c.requires.fits c.args.cut _ _ c.split.ensures.parts c.args.need k
