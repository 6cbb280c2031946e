use Rattle.option_wire.specs.laws.Heads.{no_room}
use Rattle.option_wire.proofs.reply.encode_option_reply.Goals as goal

pub returns-in_err-reserve-clause-full : goal.returns-in_err-reserve-clause-full
returns-in_err-reserve-clause-full c = no_room c.from_residual.result _ _ c.data_len-size.result _ _ _ _ c.in_err-reserve.ensures.full c.data_len-size.ensures
