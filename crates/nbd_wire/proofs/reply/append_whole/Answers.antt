use Rattle.std.proofs.Common.{◌≡◌, ◌+◌, ◌<◌, true, length, vec_len, vec_capacity, ap, arith, length-append}
use Rattle.std.specs.Int.{w64, to_be_bytes}
use Rattle.nbd_wire.specs.Chunk.{offset_data, chunk_bytes}
use Rattle.nbd_wire.proofs.Appends.{no_room, length-chunk}
use Rattle.nbd_wire.proofs.reply.append_whole.Goals as goal

pub returns-in_err-reserve-clause-full : goal.returns-in_err-reserve-clause-full
returns-in_err-reserve-clause-full c =
    let read = c.args.read.now in
    let len : 28 + length read.bytes ≡ length (chunk_bytes true c.args.cookie (offset_data read.offset read.bytes)) =
    omega (arith, length-chunk true c.args.cookie (offset_data read.offset read.bytes), length-append (to_be_bytes w64 read.offset) read.bytes) in
    let same = ap length c.bytes-bytes.ensures.value in
    let full : vec_capacity c.args.out.now < vec_len c.args.out.now + (28 + length read.bytes) = omega (arith, c.in_err-reserve.ensures.full, same) in
    no_room c.from_residual.result _ _ _ _ full len
