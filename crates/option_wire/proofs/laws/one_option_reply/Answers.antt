use Rattle.option_wire.proofs.Replies.{one_reply_lem}
use Rattle.option_wire.proofs.laws.one_option_reply.Goals as goal

pub returns : goal.returns
returns c = one_reply_lem
