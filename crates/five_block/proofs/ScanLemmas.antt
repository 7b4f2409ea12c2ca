-- Cuts that were tried stay covered by a greater number.
use Rattle.std.proofs.Common.{ℕ, ◌≤◌, arith, length, slice_index}
use Rattle.block_tables.specs.declared.patterns.Pattern.TheVariants.{Five}
use Rattle.block_tables.specs.Tables.{CoversAll}
use Rattle.block_tables.specs.declared.tables.Job.{Job}
use Rattle.five_block.specs.Scan.{CoversY2, CoversY1, CoversX2, CoversX1}

pub wider_y2 : (q : Job) (x1 x2 y1 upto n m : ℕ) → n ≤ m → CoversY2 q x1 x2 y1 upto n → CoversY2 q x1 x2 y1 upto m
wider_y2 q x1 x2 y1 upto n m h c = λ k a b. let d = c k a b in omega arith

pub wider_y1 : (q : Job) (x1 x2 upto n m : ℕ) → n ≤ m → CoversY1 q x1 x2 upto n → CoversY1 q x1 x2 upto m
wider_y1 q x1 x2 upto n m h c = λ k a. wider_y2 q x1 x2 _ _ n m h (c k a)

pub wider_x2 : (q : Job) (x1 upto n m : ℕ) → n ≤ m → CoversX2 q x1 upto n → CoversX2 q x1 upto m
wider_x2 q x1 upto n m h c = λ k a b. wider_y1 q x1 _ _ n m h (c k a b)

pub wider_x1 : (q : Job) (upto n m : ℕ) → n ≤ m → CoversX1 q upto n → CoversX1 q upto m
wider_x1 q upto n m h c = λ k a. wider_x2 q _ _ n m h (c k a)

pub covers-all : (q : Job) (n : ℕ) → CoversX1 q (length q.xs.now) n → CoversAll Five q n
covers-all q n k x1 x2 y1 y2 h1 h2 h3 h4 lx ly =
    let e1 = h1.2 in
    let e2 = h2.2 in
    let e3 = h3.2 in
    let e4 = h4.2 in
    let ox : slice_index q.xs.now h1.0 ≤ slice_index q.xs.now h2.0 = omega arith in
    let oy : slice_index q.ys.now h3.0 ≤ slice_index q.ys.now h4.0 = omega arith in
    rw (e1, e2, e3, e4) at (k h1.0 h1.1 h2.0 h2.1 ox h3.0 h3.1 h4.0 h4.1 oy)
