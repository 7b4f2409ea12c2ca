use Rattle.std.proofs.Common.{◌-◌, ◌<◌, ◌≤◌, get_or, leb, leb-true, arith, rules}
use Rattle.std.proofs.lemmas.Bool.Decides.{nat_tests}
use Rattle.std.proofs.lemmas.List.Sorted.{IsPartitionPoint-from_clause, IsPartitionedBy-leb}
use Rattle.plan_geometry.specs.declared.spots.Spot.{Spot}
use Rattle.contact_rules.proofs.SweepSteps.{in_order-y}
use Rattle.contact_rules.proofs.shares.first_near.Goals as goal

pub returns : goal.returns
returns c =
    let xs = c.args.spots.now in
    let last = c.args.row - c.args.reach in
    let parted = IsPartitionedBy-leb (λ (s : Spot). s.y) xs last (λ i j d le lt. in_order-y xs i j d c.requires.order le lt) in
    let point = IsPartitionPoint-from_clause (λ (s : Spot). leb s.y last) xs c.partition_point.result c.partition_point.ensures.partitioned parted (λ a r q k. search rules) in
    record {
      within = c.partition_point.ensures.bound;
      before = λ k d le lt. let z : (get_or xs k d).y ≤ last = leb-true (get_or xs k d).y last (point.0 k d le lt) in omega (arith, c.if-row-reach.false);
      from = λ k d le lt.
          let e = point.1 k d le lt in
          let z : last < (get_or xs k d).y = grind (arith, nat_tests, e) in
          omega (arith, c.if-row-reach.false);
    }
