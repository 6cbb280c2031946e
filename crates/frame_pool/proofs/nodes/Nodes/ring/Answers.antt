use Rattle.std.proofs.Common.{arith}
use Rattle.frame_pool.proofs.RingInMemory.{AreFresh, AreWritten-fresh, nodes_fresh}
use Rattle.frame_pool.proofs.nodes.Nodes.ring.Goals as goal

-- all nodes at the loop's end
fresh_all : (c : goal.After-loop-node) → AreFresh c.args.count c.args.count c.loop-node.region
fresh_all c node below = c.loop-node.invariant.fresh node (omega (arith, c.loop-node-test.false, c.loop-node.auto.node-end))

pub invariant_of-result : goal.invariant_of-result
invariant_of-result c = AreWritten-fresh c.args.count c.loop-node.region c.loop-node.invariant.size (fresh_all c)

pub returns : goal.returns
returns c = nodes_fresh c.args.count c.loop-node.region c.loop-node.invariant.size (fresh_all c)
