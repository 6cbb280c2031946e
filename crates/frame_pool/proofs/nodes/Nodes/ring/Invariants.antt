use Rattle.std.proofs.Common.{◌≡◌, length}
use Rattle.frame_pool.proofs.RingInMemory.{AreFresh}
use Rattle.frame_pool.proofs.nodes.Nodes.ring.Given as goal

abbrev pub invariant-loop-node : goal.invariant-loop-node
invariant-loop-node l = record {
  size : length l.region ≡ l.count;
  fresh : AreFresh l.count l.node l.region;
}
