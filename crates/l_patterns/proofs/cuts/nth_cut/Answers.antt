use Rattle.std.proofs.Common.{arith, refl, sym, ◌∙◌, ◌-◌, ◌*◌, ◌≡◌}
use Rattle.l_patterns.specs.Cuts.{by_k3, by_k4, count_k2, count_k3}
use Rattle.l_patterns.proofs.cuts.nth_cut.Goals as goal

pub returns-then-k-k2-2-clause-value : goal.returns-then-k-k2-2-clause-value
returns-then-k-k2-2-clause-value c =
    let e2 : c.count_up_to-small_columns.result * c.count_up_to-small_rows.result ≡ count_k2 c.args.q c.args.r = rw (c.count_up_to-small_columns.ensures.value, c.count_up_to-small_rows.ensures.value) refl in
    let e3 : c.count_up_to-columns.result * c.count_up_to-small_rows.result ≡ count_k3 c.args.q c.args.r = rw (c.count_up_to-columns.ensures.value, c.count_up_to-small_rows.ensures.value) refl in
    by_k3 (c.args.k - c.count_up_to-small_columns.result * c.count_up_to-small_rows.result) (sym c.is_rectangle.ensures ∙ c.if-is_rectangle.false)
    (omega (arith, e2, c.if-k-k2.false)) (omega (arith, e3, c.if-k-k2-2.true)) c.nth_k3.ensures.value

pub returns-else-k-k2-2-clause-value : goal.returns-else-k-k2-2-clause-value
returns-else-k-k2-2-clause-value c =
    let e2 : c.count_up_to-small_columns.result * c.count_up_to-small_rows.result ≡ count_k2 c.args.q c.args.r = rw (c.count_up_to-small_columns.ensures.value, c.count_up_to-small_rows.ensures.value) refl in
    let e3 : c.count_up_to-columns.result * c.count_up_to-small_rows.result ≡ count_k3 c.args.q c.args.r = rw (c.count_up_to-columns.ensures.value, c.count_up_to-small_rows.ensures.value) refl in
    by_k4 (c.args.k - c.count_up_to-small_columns.result * c.count_up_to-small_rows.result - c.count_up_to-columns.result * c.count_up_to-small_rows.result) (sym c.is_rectangle.ensures ∙ c.if-is_rectangle.false)
    (omega (arith, e2, e3, c.if-k-k2.false, c.if-k-k2-2.false)) c.nth_k4.ensures.value
