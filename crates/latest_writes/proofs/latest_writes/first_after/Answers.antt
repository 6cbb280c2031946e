use Rattle.std.proofs.Common.{◌≡◌, ◌+◌, ◌≤◌, ◌<◌, get_or, nat_le, true, false, rules, arith}
use Rattle.std.proofs.lemmas.Bool.Decides.{nat_tests}
use Rattle.std.proofs.lemmas.List.Sorted.{IsPartitionedBy-leb, IsPartitionPoint-from_clause}
use Rattle.std.specs.List.Sorted.{IsPartitionPoint}
use Rattle.latest_writes.specs.declared.range.PutRange.{PutRange}
use Rattle.latest_writes.proofs.latest_writes.first_after.Goals as goal

module _ (c : goal.After-partition_point) where
  point : IsPartitionPoint (λ (put : PutRange). nat_le (put.first + put.blocks) c.args.block ≡ true) (λ (put : PutRange). nat_le (put.first + put.blocks) c.args.block ≡ false) c.args.puts.now c.partition_point.result
  point =
      IsPartitionPoint-from_clause (λ (put : PutRange). nat_le (put.first + put.blocks) c.args.block) c.args.puts.now c.partition_point.result c.partition_point.ensures.partitioned
      (IsPartitionedBy-leb (λ (put : PutRange). put.first + put.blocks) c.args.puts.now c.args.block c.requires) (λ a r q k. search rules)

pub returns-clause-before : goal.returns-clause-before
returns-clause-before c = λ k d low high.
    let ends = (point c).0 k d low high in
    let by : (get_or c.args.puts.now k d).first + (get_or c.args.puts.now k d).blocks ≤ c.args.block = grind (arith, nat_tests, ends) in by

pub returns-clause-behind : goal.returns-clause-behind
returns-clause-behind c = λ k d low high.
    let ends = (point c).1 k d low high in
    let behind : c.args.block < (get_or c.args.puts.now k d).first + (get_or c.args.puts.now k d).blocks = grind (arith, nat_tests, ends) in behind
