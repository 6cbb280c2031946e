use Rattle.std.proofs.Common.{◌≡◌, ◌+◌, ◌-◌, ◌<◌, ◌↔◌, List, [], ℕ}
use Rattle.journal_format.specs.Reading.{IsOnlyRead}
use Rattle.journal_format.specs.Scanning.{IsScanned}
use Rattle.journal_format.specs.inner.Scanning.{IsReadAs}
use Rattle.journal_format.specs.Touches.{AreWithin}
use Rattle.journal_format.specs.laws.Groups.{FoundLead}
use Rattle.journal_format.proofs.scan.Place.list_end.Given as goal

abbrev pub invariant-loop-window : goal.invariant-loop-window
invariant-loop-window g l = record {
  extent : g.D.Disk.extent l.disk ≡ g.D.Disk.extent l.fn.disk;
  faults : g.D.Disk.faults l.disk ≡ g.D.Disk.faults l.fn.disk;
  honest : g.D.Disk.honest l.disk ↔ g.D.Disk.honest l.fn.disk;
  only_read : g.D.Disk.honest l.fn.disk → IsOnlyRead (g.D.Disk.state l.fn.disk) (g.D.Disk.state l.disk);
  within : l.end.gate < l.self.bytes;
  none : l.end.gate ≡ 0 → (l.touched.items ≡ []) × (l.end.next ≡ l.next);
  noted : AreWithin l.self.from (l.self.from + l.self.bytes) l.touched.items;
  read_as : g.D.Disk.honest l.fn.disk → (content : List ℕ) → IsScanned content (g.D.Disk.state l.fn.disk) l.self.from l.self.bytes → IsReadAs content (g.D.Disk.state l.disk) l.self.from l.self.bytes l.window;
  found : g.D.Disk.honest l.fn.disk → (content : List ℕ) → IsScanned content (g.D.Disk.state l.fn.disk) l.self.from l.self.bytes
      → FoundLead l.self.blocks content l.self.from l.next l.end.gate l.end.next l.touched.items;
}

abbrev pub decreases-loop-window : goal.decreases-loop-window
decreases-loop-window g l = l.self.bytes - l.end.gate
