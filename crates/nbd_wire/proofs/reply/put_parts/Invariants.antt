use Rattle.std.proofs.Common.{◌≡◌, ◌<◌, ◌≤◌, ◌+◌, ◌^◌, ◌++◌, length, vec_len, vec_capacity}
use Rattle.std.specs.List.{sum_by}
use Rattle.nbd_wire.specs.Answer.{PartsBytes}
use Rattle.nbd_wire.specs.Chunk.{chunks_bytes}
use Rattle.nbd_wire.specs.Reply.{part_chunks}
use Rattle.nbd_wire.specs.inner.Reply.{part_len}
use Rattle.nbd_wire.proofs.reply.put_parts.Given as goal

abbrev pub invariant-loop-run : goal.invariant-loop-run
invariant-loop-run l = record {
  parts : PartsBytes l.runs l.bytes;
  most : length l.bytes ≤ 1048576;
  inside : l.offset + length l.bytes < 2 ^ 64;
  room : vec_len l.out + sum_by part_len l.runs ≤ vec_capacity l.out;
  items : l.out.items ++ chunks_bytes l.cookie (part_chunks l.offset l.runs l.bytes)
      ≡ l.fn.out.items ++ chunks_bytes l.cookie (part_chunks l.read.offset l.read.runs l.read.bytes);
}

abbrev pub decreases-loop-run : goal.decreases-loop-run
decreases-loop-run l = length l.runs
