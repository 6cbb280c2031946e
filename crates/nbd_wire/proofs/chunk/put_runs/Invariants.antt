use Rattle.std.proofs.Common.{◌≡◌, ◌≤◌, ◌+◌, ◌*◌, ◌++◌, take, vec_len, vec_capacity}
use Rattle.std.specs.List.{flat_map}
use Rattle.nbd_wire.specs.Chunk.{run_bytes}
use Rattle.nbd_wire.proofs.chunk.put_runs.Given as goal

abbrev pub invariant-loop-run : goal.invariant-loop-run
invariant-loop-run l = record {
  items : l.out.items ≡ l.fn.out.items ++ flat_map run_bytes (take l.run-index l.runs);
  len : vec_len l.out ≡ vec_len l.fn.out + 8 * l.run-index;
  room : vec_capacity l.fn.out ≤ vec_capacity l.out;
}
