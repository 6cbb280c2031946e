use Rattle.nbd_wire.proofs.Decoding.{reads_back_lem}
use Rattle.nbd_wire.proofs.laws.reads_back.Goals as goal

pub returns : goal.returns
returns c = reads_back_lem
