use Rattle.std.proofs.Common.{◌≡◌, ◌↔◌, ◌-◌, ◌≤◌, length}
use Rattle.checkpoint.specs.Format.{AreClosed}
use Rattle.disk_model.specs.Disk.{LeavesOnly}
use Rattle.image_transfer.specs.inner.Import.{IsFilled, LeavesNone}
use Rattle.image_transfer.proofs.importing.fill.Given as goal

abbrev pub invariant-loop-block : goal.invariant-loop-block
invariant-loop-block g l = record {
  order : l.block ≤ l.geometry.blocks;
  buffer : length l.buffer.items ≡ 1048576;
  block : g.S.Source.block l.source ≡ l.block;
  trusted : g.S.Source.honest l.source ↔ g.S.Source.honest l.fn.source;
  byte : g.S.Source.honest l.fn.source → g.S.Source.byte l.source ≡ g.S.Source.byte l.fn.source;
  extent : g.D.Disk.extent l.disk ≡ g.D.Disk.extent l.fn.disk;
  faults : g.D.Disk.faults l.disk ≡ g.D.Disk.faults l.fn.disk;
  honest : g.D.Disk.honest l.disk ↔ g.D.Disk.honest l.fn.disk;
  blocks : length l.map ≡ l.geometry.blocks;
  closed : g.D.Disk.honest l.fn.disk → AreClosed (g.D.Disk.state l.fn.disk) → AreClosed (g.D.Disk.state l.disk);
  filled : g.D.Disk.honest l.fn.disk → AreClosed (g.D.Disk.state l.fn.disk) → g.S.Source.honest l.fn.source
      → IsFilled (g.S.Source.byte l.fn.source) l.geometry (g.D.Disk.state l.disk).seen l.map l.block;
  any_moment : g.D.Disk.honest l.fn.disk → AreClosed (g.D.Disk.state l.fn.disk) → LeavesOnly (g.D.Disk.state l.fn.disk) (g.D.Disk.state l.disk) LeavesNone;
}

abbrev pub decreases-loop-block : goal.decreases-loop-block
decreases-loop-block g l = l.geometry.blocks - l.block
