use Rattle.std.proofs.Common.{◌-◌, ◌≤◌, ◌≡◌, length}
use Rattle.image_transfer.proofs.exporting.export.Given as goal

abbrev pub invariant-loop-block : goal.invariant-loop-block
invariant-loop-block g l = record {
  order : l.block ≤ l.blocks;
  next : g.S.Source.block l.source ≡ l.block;
  buffer : length l.buffer.items ≡ 1048576;
}

abbrev pub decreases-loop-block : goal.decreases-loop-block
decreases-loop-block g l = l.blocks - l.block
