use Rattle.std.proofs.Common.{◌≡◌, ◌+◌, ◌≤◌, ◌<◌, get_or, nat_le, true, false, rules, arith}
use Rattle.std.proofs.lemmas.Bool.Decides.{nat_tests}
use Rattle.std.proofs.lemmas.List.Sorted.{IsPartitionedBy-leb, IsPartitionPoint-from_clause}
use Rattle.std.specs.List.Sorted.{IsPartitionPoint}
use Rattle.latest_writes.specs.declared.range.LastRange.{LastRange}
use Rattle.latest_writes.proofs.latest_writes.range_after.Goals as goal

module _ (c : goal.After-partition_point) where
  point : IsPartitionPoint (λ (range : LastRange). nat_le (range.first + range.blocks) c.args.block ≡ true) (λ (range : LastRange). nat_le (range.first + range.blocks) c.args.block ≡ false) c.args.ranges.now c.partition_point.result
  point =
      IsPartitionPoint-from_clause (λ (range : LastRange). nat_le (range.first + range.blocks) c.args.block) c.args.ranges.now c.partition_point.result c.partition_point.ensures.partitioned
      (IsPartitionedBy-leb (λ (range : LastRange). range.first + range.blocks) c.args.ranges.now c.args.block c.requires) (λ a r q k. search rules)

pub returns-clause-before : goal.returns-clause-before
returns-clause-before c = λ k d low high.
    let ends = (point c).0 k d low high in
    let by : (get_or c.args.ranges.now k d).first + (get_or c.args.ranges.now k d).blocks ≤ c.args.block = grind (arith, nat_tests, ends) in by

pub returns-clause-behind : goal.returns-clause-behind
returns-clause-behind c = λ k d low high.
    let ends = (point c).1 k d low high in
    let behind : c.args.block < (get_or c.args.ranges.now k d).first + (get_or c.args.ranges.now k d).blocks = grind (arith, nat_tests, ends) in behind
