use Rattle.std.proofs.Common.{arith, ◌≤◌, ◌*◌}
use Rattle.std.proofs.Math.Nat.{mul-le-mul, le_trans}
use Rattle.block_tree.proofs.AreaLemmas.{side-le_x, side-le_y}
use Rattle.l_patterns.proofs.NumberLemmas.{few-up-to}
use Rattle.l_patterns.proofs.cuts.cut_count.Goals as goal

pub overflow_mul-result-then-is_rectangle : goal.overflow_mul-result-then-is_rectangle
overflow_mul-result-then-is_rectangle c =
    let q = c.args.q in
    let f = c.requires.fits in
    let o = f.region.ordered in
    let n : c.count_up_to-columns.result ≤ 200 = rw (c.count_up_to-columns.ensures.value, c.side_x.ensures) (few-up-to q.inst q.x q.inst.l_side _ c.requires.sides.on_x (le_trans (side-le_x c.args.r o) f.wide)) in
    let m : c.count_up_to.result ≤ 200 = rw (c.count_up_to.ensures.value, c.side_y.ensures) (few-up-to q.inst q.y q.inst.w_side _ c.requires.sides.on_y (le_trans (side-le_y c.args.r o) f.tall)) in
    let a : c.count_up_to-columns.result * c.count_up_to-columns.result ≤ 200 * 200 = mul-le-mul n n in
    let b : c.count_up_to-columns.result * c.count_up_to-columns.result * c.count_up_to.result ≤ 200 * 200 * 200 = mul-le-mul a m in
    omega arith

pub overflow_mul-result-else-is_rectangle : goal.overflow_mul-result-else-is_rectangle
overflow_mul-result-else-is_rectangle c =
    let q = c.args.q in
    let f = c.requires.fits in
    let o = f.region.ordered in
    let n : c.count_up_to-small_columns.result ≤ 200 = rw c.count_up_to-small_columns.ensures.value (few-up-to q.inst q.x q.inst.l_side _ c.requires.sides.on_x (le_trans o.0 f.wide)) in
    let m : c.count_up_to-small_rows.result ≤ 200 = rw c.count_up_to-small_rows.ensures.value (few-up-to q.inst q.y q.inst.w_side _ c.requires.sides.on_y (le_trans o.1 f.tall)) in
    let a : c.count_up_to-small_columns.result * c.count_up_to-small_rows.result ≤ 200 * 200 = mul-le-mul n m in
    omega arith

pub overflow_mul-result-else-is_rectangle-2 : goal.overflow_mul-result-else-is_rectangle-2
overflow_mul-result-else-is_rectangle-2 c =
    let q = c.args.q in
    let f = c.requires.fits in
    let o = f.region.ordered in
    let n : c.count_up_to-columns-else-is_rectangle.result ≤ 200 = rw c.count_up_to-columns-else-is_rectangle.ensures.value (few-up-to q.inst q.x q.inst.l_side _ c.requires.sides.on_x f.wide) in
    let m : c.count_up_to-small_rows.result ≤ 200 = rw c.count_up_to-small_rows.ensures.value (few-up-to q.inst q.y q.inst.w_side _ c.requires.sides.on_y (le_trans o.1 f.tall)) in
    let a : c.count_up_to-columns-else-is_rectangle.result * c.count_up_to-small_rows.result ≤ 200 * 200 = mul-le-mul n m in
    omega arith

pub overflow_add-result : goal.overflow_add-result
overflow_add-result c =
    let q = c.args.q in
    let f = c.requires.fits in
    let o = f.region.ordered in
    let l : c.count_up_to-small_columns.result ≤ 200 = rw c.count_up_to-small_columns.ensures.value (few-up-to q.inst q.x q.inst.l_side _ c.requires.sides.on_x (le_trans o.0 f.wide)) in
    let n : c.count_up_to-columns-else-is_rectangle.result ≤ 200 = rw c.count_up_to-columns-else-is_rectangle.ensures.value (few-up-to q.inst q.x q.inst.l_side _ c.requires.sides.on_x f.wide) in
    let m : c.count_up_to-small_rows.result ≤ 200 = rw c.count_up_to-small_rows.ensures.value (few-up-to q.inst q.y q.inst.w_side _ c.requires.sides.on_y (le_trans o.1 f.tall)) in
    let a : c.count_up_to-columns-else-is_rectangle.result * c.count_up_to-small_rows.result ≤ 200 * 200 = mul-le-mul n m in
    let b : c.count_up_to-small_columns.result * c.count_up_to-small_rows.result ≤ 200 * 200 = mul-le-mul l m in
    omega arith

pub overflow_add-result-else-is_rectangle : goal.overflow_add-result-else-is_rectangle
overflow_add-result-else-is_rectangle c =
    let q = c.args.q in
    let f = c.requires.fits in
    let o = f.region.ordered in
    let k : c.count_up_to-rows.result ≤ 200 = rw c.count_up_to-rows.ensures.value (few-up-to q.inst q.y q.inst.w_side _ c.requires.sides.on_y f.tall) in
    let l : c.count_up_to-small_columns.result ≤ 200 = rw c.count_up_to-small_columns.ensures.value (few-up-to q.inst q.x q.inst.l_side _ c.requires.sides.on_x (le_trans o.0 f.wide)) in
    let n : c.count_up_to-columns-else-is_rectangle.result ≤ 200 = rw c.count_up_to-columns-else-is_rectangle.ensures.value (few-up-to q.inst q.x q.inst.l_side _ c.requires.sides.on_x f.wide) in
    let m : c.count_up_to-small_rows.result ≤ 200 = rw c.count_up_to-small_rows.ensures.value (few-up-to q.inst q.y q.inst.w_side _ c.requires.sides.on_y (le_trans o.1 f.tall)) in
    let a : c.count_up_to-columns-else-is_rectangle.result * c.count_up_to-small_rows.result ≤ 200 * 200 = mul-le-mul n m in
    let b : c.count_up_to-small_columns.result * c.count_up_to-small_rows.result ≤ 200 * 200 = mul-le-mul l m in
    let d : c.count_up_to-small_columns.result * c.count_up_to-rows.result ≤ 200 * 200 = mul-le-mul l k in
    omega arith
