use Rattle.std.proofs.Common.{◌≡◌, ℕ, ◌+◌, ◌*◌, List, length, refl, ap, ◌∙◌, arith, length-append}
use Rattle.std.specs.Int.{w32, to_be_bytes}
use Rattle.std.specs.List.{flat_map}
use Rattle.nbd_wire.specs.Chunk.{chunk_head, block_status, payload, run_bytes}
use Rattle.nbd_wire.proofs.Appends.{in_three, length-runs}
use Rattle.nbd_wire.proofs.chunk.put_states.Goals as goal

pub returns : goal.returns
returns c =
    let runs : List ℕ = flat_map run_bytes c.args.runs.now in
    let size : 4 + 8 * length c.args.runs.now ≡ length (payload (block_status c.args.runs.now)) =
    omega (arith, length-append (to_be_bytes w32 1) runs, length-runs c.args.runs.now) in
    in_three _ _ _ _ _ _ _ _ _ _ c.put.ensures.items (c.encode_head.ensures ∙ ap (chunk_head _ 5 c.args.cookie) size) c.put-2.ensures.items c.to_be_bytes.ensures c.put_runs.ensures refl
