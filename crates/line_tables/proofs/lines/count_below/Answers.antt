use Rattle.std.proofs.Common.{ℕ, ltb, ltb-true, sym, rules, arith}
use Rattle.std.proofs.lemmas.Bool.{ltb-false}
use Rattle.std.proofs.lemmas.List.Sorted.{IsPartitionPoint-from_clause, IsPartitionedBy-ltb}
use Rattle.line_tables.proofs.LineSteps.{lines_below-split, rising-le}
use Rattle.line_tables.proofs.lines.count_below.Goals as goal

pub returns-clause-value : goal.returns-clause-value
returns-clause-value c =
    let lines = c.args.lines.now in
    let v = c.args.place in
    let parted = IsPartitionedBy-ltb (λ (line : ℕ). line) lines v (λ i j d le lt. rising-le lines i j d c.requires.rising le lt) in
    let point = IsPartitionPoint-from_clause (λ (line : ℕ). ltb line v) lines c.partition_point.result c.partition_point.ensures.partitioned parted (λ a r q k. search rules) in
    sym (lines_below-split lines v c.partition_point.result (record {
      few = c.partition_point.ensures.bound;
      before = λ k lt. ltb-true _ _ (point.0 k 0 (omega arith) lt);
      after = λ k le lt. ltb-false _ _ (point.1 k 0 le lt);
    }))
