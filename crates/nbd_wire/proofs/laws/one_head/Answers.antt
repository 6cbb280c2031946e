use Rattle.nbd_wire.specs.laws.Heads.{one_head_lem}
use Rattle.nbd_wire.proofs.laws.one_head.Goals as goal

pub returns : goal.returns
returns c = one_head_lem
