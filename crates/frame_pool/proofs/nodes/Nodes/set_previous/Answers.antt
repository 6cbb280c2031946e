use Rattle.std.proofs.Common.{rules}
use Rattle.frame_pool.proofs.RingInMemory.{AreWritten-set, previous_set}
use Rattle.frame_pool.proofs.nodes.Nodes.set_previous.Goals as goal

pub invariant_of-self : goal.invariant_of-self
invariant_of-self c = AreWritten-set _ _ c.args.node _ c.write.ensures c.self.invariant

pub returns : goal.returns
returns c = previous_set _ _ c.args.node _ _ c.get-kept.ensures c.self.view_is c.args.previous (search rules)
