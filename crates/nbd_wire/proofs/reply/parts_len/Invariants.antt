use Rattle.std.proofs.Common.{◌≡◌, ◌≤◌, ◌*◌, take}
use Rattle.std.specs.List.{sum_by}
use Rattle.nbd_wire.specs.inner.Reply.{part_len}
use Rattle.nbd_wire.proofs.reply.parts_len.Given as goal

abbrev pub invariant-loop-run : goal.invariant-loop-run
invariant-loop-run l = record {
  total : l.total ≡ sum_by part_len (take l.run-index l.runs);
  bound : l.total ≤ 4294967323 * l.run-index;
}
