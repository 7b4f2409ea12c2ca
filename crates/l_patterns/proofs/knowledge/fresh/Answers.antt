use Rattle.std.proofs.Common.{arith, ◌*◌}
use Rattle.std.proofs.Math.Nat.{div-le_self, le_refl}
use Rattle.block_tree.specs.Regions.{area}
use Rattle.l_patterns.specs.Keys.{base}
use Rattle.l_patterns.proofs.PartLemmas.{cells-bound, base-bound}
use Rattle.l_patterns.proofs.knowledge.fresh.Goals as goal

pub returns-clause-bounds : goal.returns-clause-bounds
returns-clause-bounds c =
    let i = c.args.q.inst in
    let r = c.args.r in
    let o = c.requires.fits.region.ordered in
    let e = c.area_of.ensures.value in
    let small = c.area_of.ensures.small in
    let d = div-le_self (area r) (i.long * i.short) in
    rw (e, c.base_of.ensures) (record {
      upper = λ n h. cells-bound i r n o h;
      order = base-bound i r o;
      from = le_refl (base i r);
      cells = d;
      small = omega (arith, d, e, small);
    })
