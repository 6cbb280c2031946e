use Rattle.std.proofs.Common.{◌≡◌, ◌≤◌, ◌+◌, ◌↔◌, List, ℕ}
use Rattle.journal_format.specs.Reading.{IsOnlyRead}
use Rattle.journal_format.specs.inner.Scanning.{IsReadAs, FoundChanges}
use Rattle.journal_format.specs.Touches.{AreWithin}
use Rattle.journal_format.specs.laws.Found.{AreLeft}
use Rattle.journal_format.proofs.scan.Place.commands.Given as goal

abbrev pub invariant-loop : goal.invariant-loop
invariant-loop g l = record {
  extent : g.D.Disk.extent l.disk ≡ g.D.Disk.extent l.fn.disk;
  faults : g.D.Disk.faults l.disk ≡ g.D.Disk.faults l.fn.disk;
  honest : g.D.Disk.honest l.disk ↔ g.D.Disk.honest l.fn.disk;
  only_read : g.D.Disk.honest l.fn.disk → IsOnlyRead (g.D.Disk.state l.fn.disk) (g.D.Disk.state l.disk);
  order : l.place ≤ l.end;
  within : AreWithin l.self.from (l.self.from + l.self.bytes) l.fn.touched.items → AreWithin l.self.from (l.self.from + l.self.bytes) l.touched.items;
  read_as : g.D.Disk.honest l.fn.disk → (content : List ℕ) → IsReadAs content (g.D.Disk.state l.fn.disk) l.self.from l.self.bytes l.fn.window → IsReadAs content (g.D.Disk.state l.disk) l.self.from l.self.bytes l.window;
  found : g.D.Disk.honest l.fn.disk → (content : List ℕ) → IsReadAs content (g.D.Disk.state l.fn.disk) l.self.from l.self.bytes l.fn.window
      → FoundChanges l.self.blocks content (l.self.from + l.from) (l.self.from + l.place) l.counter l.fn.touched.items l.touched.items;
  left : g.D.Disk.honest l.fn.disk → (content : List ℕ) → IsReadAs content (g.D.Disk.state l.fn.disk) l.self.from l.self.bytes l.fn.window
      → AreLeft l.self.blocks content (l.self.from + l.from) (l.self.from + l.place) (l.self.from + l.end) l.counter l.count;
}
