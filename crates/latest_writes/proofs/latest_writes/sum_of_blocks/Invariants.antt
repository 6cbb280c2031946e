use Rattle.std.proofs.Common.{◌≡◌, sum_by, take}
use Rattle.latest_writes.proofs.latest_writes.sum_of_blocks.Given as goal

abbrev pub invariant-loop-put : goal.invariant-loop-put
invariant-loop-put l = l.sum ≡ sum_by (λ put. put.blocks) (take l.put-index l.puts)
