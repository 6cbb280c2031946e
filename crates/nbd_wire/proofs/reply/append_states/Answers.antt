use Rattle.std.proofs.Common.{◌≡◌, ◌+◌, ◌*◌, ◌<◌, true, length, vec_len, vec_capacity, ap, arith, length-append}
use Rattle.std.specs.Int.{w32, to_be_bytes}
use Rattle.std.specs.List.{flat_map}
use Rattle.nbd_wire.specs.Chunk.{block_status, chunk_bytes, run_bytes}
use Rattle.nbd_wire.proofs.Appends.{no_room, length-chunk, length-runs}
use Rattle.nbd_wire.proofs.reply.append_states.Goals as goal

pub returns-in_err-reserve-clause-full : goal.returns-in_err-reserve-clause-full
returns-in_err-reserve-clause-full c =
    let len : 24 + 8 * length c.args.states.now ≡ length (chunk_bytes true c.args.cookie (block_status c.args.states.now)) =
    omega (arith, length-chunk true c.args.cookie (block_status c.args.states.now), length-append (to_be_bytes w32 1) (flat_map run_bytes c.args.states.now), length-runs c.args.states.now) in
    let same = ap length c.runs-runs.ensures.value in
    let full : vec_capacity c.args.out.now < vec_len c.args.out.now + (24 + 8 * length c.args.states.now) = omega (arith, c.in_err-reserve.ensures.full, same) in
    no_room c.from_residual.result _ _ _ _ full len
