use Rattle.std.proofs.Common.{◌≡◌, ◌↔◌, ◌+◌, ℕ, false, length}
use Rattle.disk_model.specs.Disk.{LeavesOnly}
use Rattle.image_model.specs.Image.{Image}
use Rattle.device_image.specs.Keeper.{One}
use Rattle.device_image.specs.Keeps.{Keeps}
use Rattle.device_image.specs.Stands.{StandsFor}
use Rattle.checkpoint.specs.Headers.{HeadersFollow}
use Rattle.checkpoint.specs.inner.Recovery.{IsBegun}
use Rattle.checkpoint.proofs.keeper.Keeper.complete_begun.Given as goal

abbrev pub invariant-loop-self : goal.invariant-loop-self
invariant-loop-self g l = record {
  works : l.self.failed ≡ false;
  begun : IsBegun l.self.phase;
  sizes : l.self.geometry ≡ l.fn.self.geometry;
  used : l.self.used ≡ l.fn.self.used;
  generation : l.self.generation + length l.self.turned ≡ l.fn.self.generation + length l.fn.self.turned;
  idle : l.fn.self.phase ≡ One → l.self ≡ l.fn.self;
  extent : g.D.Disk.extent l.self.disk ≡ g.D.Disk.extent l.fn.self.disk;
  faults : g.D.Disk.faults l.self.disk ≡ g.D.Disk.faults l.fn.self.disk;
  honest : g.D.Disk.honest l.self.disk ↔ g.D.Disk.honest l.fn.self.disk;
  kept : g.D.Disk.honest l.fn.self.disk → (image : Image) (number : ℕ) → Keeps l.fn.self (g.D.Disk.state l.fn.self.disk) image number
      → Keeps l.self (g.D.Disk.state l.self.disk) image number;
  any_moment : g.D.Disk.honest l.fn.self.disk → (image : Image) (number : ℕ) → Keeps l.fn.self (g.D.Disk.state l.fn.self.disk) image number
      → LeavesOnly (g.D.Disk.state l.fn.self.disk) (g.D.Disk.state l.self.disk) (λ content. StandsFor content image number);
  headers : g.D.Disk.honest l.fn.self.disk → (image : Image) (number : ℕ) → Keeps l.fn.self (g.D.Disk.state l.fn.self.disk) image number
      → (headers : ℕ) × (headers + length l.self.turned ≡ length l.fn.self.turned) × HeadersFollow g.D.Disk.state l.fn.self.geometry l.fn.self.generation headers (g.D.Disk.state l.fn.self.disk) (g.D.Disk.state l.self.disk);
}

abbrev pub decreases-loop-self : goal.decreases-loop-self
decreases-loop-self g l = length l.self.turned
