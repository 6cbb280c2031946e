use Rattle.std.proofs.Common.{◌+◌, ◌<◌, true, Bool, OnErr, sym, subst, length, vec_len, vec_capacity, arith, length-append}
use Rattle.std.specs.Int.{w64, to_be_bytes}
use Rattle.nbd_wire.specs.Chunk.{offset_data}
use Rattle.nbd_wire.specs.inner.Reply.{whole_text}
use Rattle.nbd_wire.proofs.Appends.{length-chunk, on_err}
use Rattle.nbd_wire.proofs.reply.encode_head.Goals as goal

pub returns-in_err-reserve-clause-full : goal.returns-in_err-reserve-clause-full
returns-in_err-reserve-clause-full c =
    let read = c.args.read.now in
    let text = whole_text c.args.cookie true read in
    subst (λ (chunked : Bool). OnErr c.from_residual.result (vec_capacity c.args.out.now < vec_len c.args.out.now + length (whole_text c.args.cookie chunked read))) (sym c.if-chunked.true)
    (on_err c.from_residual.result (vec_capacity c.args.out.now < vec_len c.args.out.now + length text)
    (omega (arith, c.in_err-reserve.ensures.full, length-chunk true c.args.cookie (offset_data read.offset read.bytes), length-append (to_be_bytes w64 read.offset) read.bytes)))
