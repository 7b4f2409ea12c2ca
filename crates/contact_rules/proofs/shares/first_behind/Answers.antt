use Rattle.std.proofs.Common.{ltb, ltb-true, rules}
use Rattle.std.proofs.lemmas.Bool.{ltb-false}
use Rattle.std.proofs.lemmas.List.Sorted.{IsPartitionPoint-from_clause, IsPartitionedBy-ltb}
use Rattle.plan_geometry.specs.declared.spots.Spot.{Spot}
use Rattle.contact_rules.proofs.SweepSteps.{in_order-y}
use Rattle.contact_rules.proofs.shares.first_behind.Goals as goal

pub returns : goal.returns
returns c =
    let xs = c.args.spots.now in
    let row = c.args.row in
    let parted = IsPartitionedBy-ltb (λ (s : Spot). s.y) xs row (λ i j d le lt. in_order-y xs i j d c.requires.order le lt) in
    let point = IsPartitionPoint-from_clause (λ (s : Spot). ltb s.y row) xs c.partition_point.result c.partition_point.ensures.partitioned parted (λ a r q k. search rules) in
    record {
      within = c.partition_point.ensures.bound;
      before = λ k d le lt. ltb-true _ _ (point.0 k d le lt);
      from = λ k d le lt. ltb-false _ _ (point.1 k d le lt);
    }
