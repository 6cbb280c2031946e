use Rattle.std.proofs.Common.{ap, ◌∙◌, rules}
use Rattle.frame_pool.specs.Numbers.{option_of}
use Rattle.frame_pool.proofs.RingInMemory.{AreWritten-set, number_set, option_of-unwrap_or}
use Rattle.frame_pool.proofs.nodes.Nodes.set_number.Goals as goal

pub invariant_of-self : goal.invariant_of-self
invariant_of-self c = AreWritten-set _ _ c.args.node _ c.write.ensures c.self.invariant

pub returns : goal.returns
returns c =
    number_set _ _ c.args.node _ _ c.get-kept.ensures c.self.view_is c.args.number c.unwrap_or-number.result
    (ap option_of c.unwrap_or-number.ensures ∙ option_of-unwrap_or c.args.number c.requires.some) (search rules)
