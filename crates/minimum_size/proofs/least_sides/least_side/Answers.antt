use Rattle.std.proofs.Common.{arith, ℕ, ◌≤◌, ◌+◌, ◌*◌, below_more, sym, subst}
use Rattle.partitions.specs.Partitions.{IsFeasible}
use Rattle.minimum_size.proofs.LeastSides.{Reached, reached_by, least_side_at, row_covers}
use Rattle.minimum_size.proofs.least_sides.least_side.Goals as goal
use Rattle.minimum_size.proofs.least_sides.least_side.Goals.{then-total-least, else-total-least}

pub loop-i-preserved : goal.loop-i-preserved
loop-i-preserved c =
    let a = c.args in
    let i = c.loop-i.i in
    let m = c.most_short.result in
    let least = c.if-total-least.least in
    let grown : (c.loop-i.least ≤ least) × (i * a.new_long + m * a.new_short ≤ least) × Reached a.side a.long a.short a.new_long a.new_short least =
    elim c.if-total-least.branch [
      | then-total-least w ↦ (
        omega arith,
        omega arith,
        subst (Reached a.side a.long a.short a.new_long a.new_short) (sym w.least-is)
            (reached_by a.side a.long a.short a.new_long a.new_short i m c.most_short.ensures.feasible),
      )
      | else-total-least w ↦ (omega arith, omega arith, subst (Reached a.side a.long a.short a.new_long a.new_short) (sym w.least-is) c.loop-i.invariant.reached)
    ] in
    record {
      covers = below_more (λ i. (j : ℕ) → IsFeasible a.side a.long a.short i j → i * a.new_long + j * a.new_short ≤ least) i
          (λ k h j f. let b = c.loop-i.invariant.covers k h j f in let g = grown.0 in omega (arith, b, g))
          (λ j f. let b = row_covers a.side a.long a.short a.new_long a.new_short i m c.most_short.ensures.greatest j f in
          let g = grown.1 in omega (arith, b, g));
      reached = grown.2;
    }

pub returns-clause-least : goal.returns-clause-least
returns-clause-least c =
    let a = c.args in
    least_side_at a.side a.long a.short a.new_long a.new_short c.loop-i.least (omega arith)
    (λ i h j f. c.loop-i.invariant.covers i (omega arith) j f) c.loop-i.invariant.reached
