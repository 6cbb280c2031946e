use Rattle.nbd_wire.proofs.Decoding.{one_reply_lem}
use Rattle.nbd_wire.proofs.Spelling.{one_spelling_lem}
use Rattle.nbd_wire.proofs.laws.one_reply.Goals as goal

pub returns-clause-one : goal.returns-clause-one
returns-clause-one c = one_reply_lem

pub returns-clause-spelling : goal.returns-clause-spelling
returns-clause-spelling c = one_spelling_lem
