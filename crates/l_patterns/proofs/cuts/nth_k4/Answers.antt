use Rattle.std.proofs.Common.{arith, ◌/◌, ◌%◌}
use Rattle.l_patterns.specs.Cuts.{count_up_to}
use Rattle.l_patterns.proofs.NumberLemmas.{quotient, remainder, point-in, point-sum}
use Rattle.l_patterns.proofs.cuts.nth_k4.Goals as goal

pub bounds-q-k : goal.bounds-q-k
bounds-q-k c =
    let q = c.args.q in
    let f = c.requires.fits in
    let o = f.region.ordered in
    rw c.count_up_to-rows.ensures.value (point-in q.inst q.x q.inst.l_side c.requires.sides.on_x c.args.r.small_x (c.args.k / count_up_to q.y c.args.r.big_y) (omega (arith, o.0, f.wide))
    (quotient c.args.k (count_up_to q.x c.args.r.small_x) (count_up_to q.y c.args.r.big_y) c.requires.within))

pub returns-clause-normal : goal.returns-clause-normal
returns-clause-normal c =
    let q = c.args.q in
    let f = c.requires.fits in
    let o = f.region.ordered in
    rw c.count_up_to-rows.ensures.value (
      point-sum q.inst q.x q.inst.l_side c.requires.sides.on_x c.args.r.small_x (c.args.k / count_up_to q.y c.args.r.big_y) (omega (arith, o.0, f.wide))
          (quotient c.args.k (count_up_to q.x c.args.r.small_x) (count_up_to q.y c.args.r.big_y) c.requires.within),
      point-sum q.inst q.y q.inst.w_side c.requires.sides.on_y c.args.r.big_y (c.args.k % count_up_to q.y c.args.r.big_y) (f.tall)
          (remainder c.args.k (count_up_to q.x c.args.r.small_x) (count_up_to q.y c.args.r.big_y) c.requires.within),
    )
