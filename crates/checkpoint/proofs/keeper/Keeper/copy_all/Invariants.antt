use Rattle.std.proofs.Common.{◌≡◌, ◌↔◌, ◌-◌, ◌≤◌, ℕ, List}
use Rattle.disk_model.specs.Disk.{LeavesOnly}
use Rattle.image_model.specs.Image.{Image}
use Rattle.device_image.specs.Keeps.{Keeps}
use Rattle.device_image.specs.Stands.{StandsFor}
use Rattle.checkpoint.specs.Headers.{HasHeader}
use Rattle.checkpoint.specs.Steps.{fewer, left_in}
use Rattle.checkpoint.proofs.RecoveryKeepsImage.{copied_to}
use Rattle.checkpoint.proofs.keeper.Keeper.copy_all.Given as goal
use Rattle.device_image.specs.Remembers.{Remembers}
use Rattle.image_model.specs.Change.{Change}

abbrev pub invariant-loop-self : goal.invariant-loop-self
invariant-loop-self g l = record {
  below : left_in l.self.phase ≤ left_in l.fn.self.phase;
  copied : l.self ≡ copied_to l.fn.self l.self.disk (left_in l.self.phase) (fewer (left_in l.fn.self.phase - left_in l.self.phase) l.fn.self.lefts) l.self.memory;
  extent : g.D.Disk.extent l.self.disk ≡ g.D.Disk.extent l.fn.self.disk;
  faults : g.D.Disk.faults l.self.disk ≡ g.D.Disk.faults l.fn.self.disk;
  honest : g.D.Disk.honest l.self.disk ↔ g.D.Disk.honest l.fn.self.disk;
  remembered : (commands : List Change) → Remembers l.fn.self commands → Remembers l.self commands;
  kept : g.D.Disk.honest l.fn.self.disk → (image : Image) (number : ℕ) → Keeps l.fn.self (g.D.Disk.state l.fn.self.disk) image number
      → Keeps l.self (g.D.Disk.state l.self.disk) image number;
  any_moment : g.D.Disk.honest l.fn.self.disk → (image : Image) (number : ℕ) → Keeps l.fn.self (g.D.Disk.state l.fn.self.disk) image number
      → LeavesOnly (g.D.Disk.state l.fn.self.disk) (g.D.Disk.state l.self.disk) (λ content. StandsFor content image number);
  header : g.D.Disk.honest l.fn.self.disk → (image : Image) (number : ℕ) → Keeps l.fn.self (g.D.Disk.state l.fn.self.disk) image number
      → LeavesOnly (g.D.Disk.state l.fn.self.disk) (g.D.Disk.state l.self.disk) (HasHeader l.fn.self.geometry l.fn.self.generation);
}

abbrev pub decreases-loop-self : goal.decreases-loop-self
decreases-loop-self g l = left_in l.self.phase
