use Rattle.std.proofs.Common.{◌≡◌, ◌+◌, ◌-◌, ◌≤◌, ℕ, ap, ◌∙◌, arith}
use Rattle.line_tables.specs.Lines.{Lines, crossing}
use Rattle.line_tables.specs.Sums.{first_weights}
use Rattle.plan_geometry.specs.Weight.{block_weight}
use Rattle.line_tables.proofs.SumSteps.{Corners, corners}
use Rattle.line_tables.proofs.tables.LineTable.crossings_weight.Goals as goal

-- the sums at the corners of a block
record Read (t : Lines) (left right low high : ℕ) : Type 0 where
  strip : ℕ
  upper : first_weights t right high ≡ first_weights t left high + (strip + block_weight (crossing t) left low (right - left) (high - low))
  lower : first_weights t right low ≡ first_weights t left low + strip

read : (t : Lines) (left right low high : ℕ) → left ≤ right → low ≤ high → Read t left right low high
read t left right low high p q =
    let c : Corners t left low (right - left) (high - low) = corners t left low (right - left) (high - low) in
    let i : left + (right - left) ≡ right = omega arith in
    let j : low + (high - low) ≡ high = omega arith in
    let upper : first_weights t (left + (right - left)) (low + (high - low)) ≡ first_weights t right high = ap (λ m. first_weights t m (low + (high - low))) i ∙ ap (λ n. first_weights t right n) j in
    let across : first_weights t left (low + (high - low)) ≡ first_weights t left high = ap (λ n. first_weights t left n) j in
    let lower : first_weights t (left + (right - left)) low ≡ first_weights t right low = ap (λ m. first_weights t m low) i in
    record { strip = c.strip; upper = omega (arith, upper, across, c.upper); lower = omega (arith, lower, c.lower) }

pub overflow_sub-above : goal.overflow_sub-above
overflow_sub-above c =
    let a = c.args in
    let r : Read a.self.now a.left a.right a.low a.high = read a.self.now a.left a.right a.low a.high c.requires.columns c.requires.rows in
    omega (arith, r.upper, c.first_weight.ensures, c.first_weight-2.ensures)

pub overflow_sub-under : goal.overflow_sub-under
overflow_sub-under c =
    let a = c.args in
    let r : Read a.self.now a.left a.right a.low a.high = read a.self.now a.left a.right a.low a.high c.requires.columns c.requires.rows in
    omega (arith, r.lower, c.first_weight-3.ensures, c.first_weight-4.ensures)

pub overflow_sub-result : goal.overflow_sub-result
overflow_sub-result c =
    let a = c.args in
    let r : Read a.self.now a.left a.right a.low a.high = read a.self.now a.left a.right a.low a.high c.requires.columns c.requires.rows in
    omega (arith, r.upper, r.lower, c.first_weight.ensures, c.first_weight-2.ensures, c.first_weight-3.ensures, c.first_weight-4.ensures)

pub returns : goal.returns
returns c =
    let a = c.args in
    let r : Read a.self.now a.left a.right a.low a.high = read a.self.now a.left a.right a.low a.high c.requires.columns c.requires.rows in
    omega (arith, r.upper, r.lower, c.first_weight.ensures, c.first_weight-2.ensures, c.first_weight-3.ensures, c.first_weight-4.ensures)
