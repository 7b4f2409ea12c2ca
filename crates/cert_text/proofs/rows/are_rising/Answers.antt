use Rattle.std.proofs.Common.{ltb, rules}
use Rattle.std.proofs.lemmas.List.Sorted.{answers_always}
use Rattle.line_tables.proofs.LineSteps.{IsStrictlyIncreasing-tested}
use Rattle.cert_text.proofs.LineWords.{rising_tested}
use Rattle.cert_text.proofs.rows.are_rising.Goals as goal

pub returns : goal.returns
returns c =
    rising_tested c.args.lines.now c.is_sorted_by.result (IsStrictlyIncreasing-tested c.args.lines.now c.is_sorted_by.result (c.is_sorted_by.ensures.cases (λ x y. ltb x y) (answers_always _ _ _ (λ f a r q k. search rules))))
