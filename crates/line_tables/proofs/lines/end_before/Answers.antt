use Rattle.std.proofs.Common.{◌-◌, ◌<◌, length, ltb-true, arith}
use Rattle.std.proofs.lemmas.Bool.{lt-ltb}
use Rattle.line_tables.proofs.LineSteps.{all-by_last}
use Rattle.line_tables.proofs.lines.end_before.Goals as goal

pub returns-in-len1-up : goal.returns-in-len1-up
returns-in-len1-up c =
    let lines = c.args.lines.now in
    let last : length lines - 1 < length lines = omega (arith, c.in-len1-up.len_at_least) in
    (λ e. all-by_last lines c.args.end c.requires.rising (ltb-true _ _ e), λ all. lt-ltb _ _ (all (length lines - 1) 0 last))
