-- What blocks of cells weigh, and what the whole pallet weighs.
use Rattle.std.proofs.Common.{◌≡◌, ℕ, ◌+◌, ◌-◌, length, sym, ap, ◌∙◌}
use Rattle.plan_geometry.specs.declared.instances.Inst.{Inst}
use Rattle.plan_geometry.specs.Weight.{sum_below, block_weight, total_weight}
use Rattle.plan_geometry.proofs.Counting.{sum_below-same}
use Rattle.line_tables.specs.Lines.{Lines, crossing, line_at, on_line, weight_at, IsLineTable, BelongsTo}
use Rattle.line_tables.specs.Laws.{lines_below, lines_among, BlocksWeighTheirCrossings}
use Rattle.line_tables.specs.Sums.{first_weights}
use Rattle.line_tables.proofs.LineSteps.{lines_below-all, sum-lines_below, sum-lines_among, on_line-same, sum-on_line}

pub block-crossings : BlocksWeighTheirCrossings
block-crossings t h x y a b =
    let m = lines_below t.rows y in
    let n = lines_among t.rows y b in
    let S : ℕ → ℕ = λ i. sum_below n (λ j. crossing t i (m + j)) in
    let column : (i : ℕ) → sum_below b (λ j. weight_at t (x + i) (y + j)) ≡ on_line (line_at t.columns (x + i)) S =
    λ i. sum-on_line (line_at t.columns (x + i)) b (λ p j. on_line (line_at t.rows (y + j)) (λ q. crossing t p q)) ∙ on_line-same (line_at t.columns (x + i)) (λ p. sum_below b (λ j. on_line (line_at t.rows (y + j)) (λ q. crossing t p q))) S (λ p. sum-lines_among t.rows (λ q. crossing t p q) y b h.rows.rising) in
    sum_below-same a (λ i. sum_below b (λ j. weight_at t (x + i) (y + j))) (λ i. on_line (line_at t.columns (x + i)) S) (λ i p. column i) ∙ sum-lines_among t.columns S x a h.columns.rising

-- the same, read from where the lines begin and end
pub crossings-block : (t : Lines) (x y a b left right low high : ℕ) → IsLineTable t → left ≡ lines_below t.columns x → right ≡ lines_below t.columns (x + a) → low ≡ lines_below t.rows y → high ≡ lines_below t.rows (y + b) → block_weight (crossing t) left low (right - left) (high - low) ≡ block_weight (weight_at t) x y a b
crossings-block t x y a b left right low high h e f g k =
    let g' = crossing t in
    ap (λ n. block_weight g' n low (right - n) (high - low)) e ∙ ap (λ n. block_weight g' (lines_below t.columns x) low (n - lines_below t.columns x) (high - low)) f ∙ ap (λ n. block_weight g' (lines_below t.columns x) n (lines_among t.columns x a) (high - n)) g ∙ ap (λ n. block_weight g' (lines_below t.columns x) (lines_below t.rows y) (lines_among t.columns x a) (n - lines_below t.rows y)) k ∙ sym (block-crossings t h x y a b)

-- a pallet that has all lines weighs what all crossings weigh
pub total-crossings : (t : Lines) (I : Inst) → IsLineTable t → BelongsTo t I → total_weight (weight_at t) I ≡ first_weights t (length t.columns) (length t.rows)
total-crossings t I h b =
    let rows : lines_below t.rows I.w_side ≡ length t.rows = lines_below-all t.rows I.w_side (λ k p. b.rows k 0 p) in
    let columns : lines_below t.columns I.l_side ≡ length t.columns = lines_below-all t.columns I.l_side (λ k p. b.columns k 0 p) in
    let S : ℕ → ℕ = λ i. sum_below (length t.rows) (λ j. crossing t i j) in
    let column : (i : ℕ) → sum_below I.w_side (λ j. weight_at t i j) ≡ on_line (line_at t.columns i) S =
    λ i. sum-on_line (line_at t.columns i) I.w_side (λ p j. on_line (line_at t.rows j) (λ q. crossing t p q)) ∙ on_line-same (line_at t.columns i) (λ p. sum_below I.w_side (λ j. on_line (line_at t.rows j) (λ q. crossing t p q))) S (λ p. sum-lines_below t.rows (λ q. crossing t p q) I.w_side h.rows.rising ∙ ap (λ n. sum_below n (λ j. crossing t p j)) rows) in
    sum_below-same I.l_side (λ i. sum_below I.w_side (λ j. weight_at t i j)) (λ i. on_line (line_at t.columns i) S) (λ i p. column i) ∙ sum-lines_below t.columns S I.l_side h.columns.rising ∙ ap (λ n. sum_below n S) columns
