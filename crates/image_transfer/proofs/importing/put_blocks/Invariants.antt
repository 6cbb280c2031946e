use Rattle.std.proofs.Common.{◌≡◌, ◌↔◌, ◌+◌, ◌-◌, ◌/◌, ◌≤◌, ℕ, length}
use Rattle.checkpoint.specs.Format.{AreClosed}
use Rattle.disk_model.specs.Disk.{LeavesOnly}
use Rattle.image_transfer.specs.inner.Import.{AreBytesOf, IsFilled, LeavesNone}
use Rattle.image_transfer.proofs.importing.put_blocks.Given as goal

abbrev pub invariant-loop-at : goal.invariant-loop-at
invariant-loop-at g l = record {
  order : l.at ≤ l.count;
  all : l.count ≡ length l.bytes / 4096;
  extent : g.D.Disk.extent l.disk ≡ g.D.Disk.extent l.fn.disk;
  faults : g.D.Disk.faults l.disk ≡ g.D.Disk.faults l.fn.disk;
  honest : g.D.Disk.honest l.disk ↔ g.D.Disk.honest l.fn.disk;
  blocks : length l.map ≡ l.geometry.blocks;
  closed : g.D.Disk.honest l.fn.disk → AreClosed (g.D.Disk.state l.fn.disk) → AreClosed (g.D.Disk.state l.disk);
  filled : g.D.Disk.honest l.fn.disk → AreClosed (g.D.Disk.state l.fn.disk) → (byte : ℕ → ℕ) → AreBytesOf byte l.first l.bytes
      → IsFilled byte l.geometry (g.D.Disk.state l.fn.disk).seen l.fn.map l.first → IsFilled byte l.geometry (g.D.Disk.state l.disk).seen l.map (l.first + l.at);
  any_moment : g.D.Disk.honest l.fn.disk → AreClosed (g.D.Disk.state l.fn.disk) → LeavesOnly (g.D.Disk.state l.fn.disk) (g.D.Disk.state l.disk) LeavesNone;
}

abbrev pub decreases-loop-at : goal.decreases-loop-at
decreases-loop-at g l = l.count - l.at
