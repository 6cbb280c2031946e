use Rattle.std.proofs.Common.{◌≡◌, ◌↔◌, length}
use Rattle.disk_model.specs.Disk.{IsAllSynced}
use Rattle.journal_format.specs.Reading.{IsOnlyRead}
use Rattle.device_image.specs.Keeper.{AreUncopied, last_turned, turned_of}
use Rattle.device_image.specs.Stands.{next_number}
use Rattle.checkpoint.specs.Keeper.{AreSized}
use Rattle.checkpoint.proofs.AreasReadInTurn.{AreHeldSoFar}
use Rattle.checkpoint.proofs.opening.read_areas.Given as goal

abbrev pub invariant-loop-place : goal.invariant-loop-place
invariant-loop-place g l = record {
  extent : g.D.Disk.extent l.disk ≡ g.D.Disk.extent l.fn.disk;
  faults : g.D.Disk.faults l.disk ≡ g.D.Disk.faults l.fn.disk;
  honest : g.D.Disk.honest l.disk ↔ g.D.Disk.honest l.fn.disk;
  sized : AreSized l.plans.items l.header.geometry (g.D.Disk.extent l.fn.disk);
  uncopied : AreUncopied l.plans.items;
  many : l.place ≡ length l.plans.items;
  following : l.next ≡ next_number (last_turned l.header.base (turned_of l.plans.items));
  only_read : g.D.Disk.honest l.fn.disk → IsOnlyRead (g.D.Disk.state l.fn.disk) (g.D.Disk.state l.disk);
  held : g.D.Disk.honest l.fn.disk → IsAllSynced (g.D.Disk.state l.fn.disk) → AreHeldSoFar (g.D.Disk.state l.disk) l.header l.place l.plans.items l.next;
}
