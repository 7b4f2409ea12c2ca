use Rattle.std.proofs.Common.{◌≤◌, ◌*◌, length, arith}
use Rattle.std.proofs.Math.Nat.{mul-le-mul}
use Rattle.l_patterns.proofs.answers.ell_search.Goals as goal

pub returns-clause-ell_size : goal.returns-clause-ell_size
returns-clause-ell_size c = λ w.
    let xs = c.args.px.now.normal in
    let ys = c.args.py.now.normal in
    let h : length xs * length ys * (length xs * length ys) ≤ 400 * 400 = mul-le-mul w w in
    c.ell_search_within.ensures.few (omega arith)
