use Rattle.std.proofs.Common.{◌/◌, ◌%◌, ◌*◌}
use Rattle.std.proofs.Math.Nat.{le_trans}
use Rattle.block_tree.specs.Regions.{side_x, side_y}
use Rattle.block_tree.proofs.AreaLemmas.{side-le_x, side-le_y}
use Rattle.l_patterns.specs.Cuts.{count_up_to}
use Rattle.l_patterns.proofs.NumberLemmas.{quotient, remainder, point-in, point-sum}
use Rattle.l_patterns.proofs.cuts.nth_k1.Goals as goal

pub bounds-q-pair : goal.bounds-q-pair
bounds-q-pair c =
    let q = c.args.q in
    let r = c.args.r in
    let f = c.requires.fits in
    let n = count_up_to q.x (side_x r) in
    let m = count_up_to q.y (side_y r) in
    rw (c.count_up_to-rows.ensures.value, c.count_up_to-columns.ensures.value, c.side_x.ensures, c.side_y.ensures)
    (point-in q.inst q.x q.inst.l_side c.requires.sides.on_x (side_x r) (c.args.k / m / n) (le_trans (side-le_x r f.region.ordered) f.wide)
    (quotient (c.args.k / m) n n (quotient c.args.k (n * n) m c.requires.within)))

pub bounds-q-pair-2 : goal.bounds-q-pair-2
bounds-q-pair-2 c =
    let q = c.args.q in
    let r = c.args.r in
    let f = c.requires.fits in
    let n = count_up_to q.x (side_x r) in
    let m = count_up_to q.y (side_y r) in
    rw (c.count_up_to-rows.ensures.value, c.count_up_to-columns.ensures.value, c.side_x.ensures, c.side_y.ensures)
    (point-in q.inst q.x q.inst.l_side c.requires.sides.on_x (side_x r) (c.args.k / m % n) (le_trans (side-le_x r f.region.ordered) f.wide)
    (remainder (c.args.k / m) n n (quotient c.args.k (n * n) m c.requires.within)))

pub bounds-q-k : goal.bounds-q-k
bounds-q-k c =
    let q = c.args.q in
    let r = c.args.r in
    let f = c.requires.fits in
    let n = count_up_to q.x (side_x r) in
    let m = count_up_to q.y (side_y r) in
    rw (c.count_up_to-rows.ensures.value, c.side_y.ensures)
    (point-in q.inst q.y q.inst.w_side c.requires.sides.on_y (side_y r) (c.args.k % m) (le_trans (side-le_y r f.region.ordered) f.tall)
    (remainder c.args.k (n * n) m c.requires.within))

pub returns-clause-normal : goal.returns-clause-normal
returns-clause-normal c =
    let q = c.args.q in
    let r = c.args.r in
    let f = c.requires.fits in
    let n = count_up_to q.x (side_x r) in
    let m = count_up_to q.y (side_y r) in
    let wide = le_trans (side-le_x r f.region.ordered) f.wide in
    let tall = le_trans (side-le_y r f.region.ordered) f.tall in
    rw (c.count_up_to-rows.ensures.value, c.count_up_to-columns.ensures.value, c.side_x.ensures, c.side_y.ensures) (
      point-sum q.inst q.x q.inst.l_side c.requires.sides.on_x (side_x r) (c.args.k / m / n) wide (quotient (c.args.k / m) n n (quotient c.args.k (n * n) m c.requires.within)),
      point-sum q.inst q.x q.inst.l_side c.requires.sides.on_x (side_x r) (c.args.k / m % n) wide (remainder (c.args.k / m) n n (quotient c.args.k (n * n) m c.requires.within)),
      point-sum q.inst q.y q.inst.w_side c.requires.sides.on_y (side_y r) (c.args.k % m) tall (remainder c.args.k (n * n) m c.requires.within),
    )
