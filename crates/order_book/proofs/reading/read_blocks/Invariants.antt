use Rattle.std.proofs.Common.{◌≡◌, ◌⊎◌, ◌↔◌, ◌≤◌, ◌<◌, ◌+◌, ◌*◌, ◌-◌, ℕ, false, List, Some, None, length, get_or}
use Rattle.device_image.specs.Holds.{Holds, is_written, joined}
use Rattle.image_model.specs.Change.{Change}
use Rattle.image_model.specs.Image.{Image}
use Rattle.image_model.specs.declared.command.Kind.TheVariants.{Data}
use Rattle.journal_format.specs.Reading.{IsOnlyRead}
use Rattle.shared_cache.specs.Cache.{bytes_seen}
use Rattle.order_book.proofs.reading.read_blocks.Given as goal

abbrev pub invariant-loop-done : goal.invariant-loop-done
invariant-loop-done g l = record {
  size : length l.into ≡ length l.fn.into;
  inside : 4096 * l.done ≤ length l.into;
  missing : 4096 * l.done < length l.into → bytes_seen l.cache (l.first + l.done) ≡ None;
  only : l.keeper ≡ record l.fn.keeper { disk = l.keeper.disk };
  begun : ((l.done ≡ l.held) × (l.keeper ≡ l.fn.keeper)) ⊎ ((l.held < l.done) × (l.fn.keeper.failed ≡ false));
  extent : g.D.Disk.extent l.keeper.disk ≡ g.D.Disk.extent l.fn.keeper.disk;
  faults : g.D.Disk.faults l.keeper.disk ≡ g.D.Disk.faults l.fn.keeper.disk;
  honest : g.D.Disk.honest l.keeper.disk ↔ g.D.Disk.honest l.fn.keeper.disk;
  only_read : g.D.Disk.honest l.fn.keeper.disk → IsOnlyRead (g.D.Disk.state l.fn.keeper.disk) (g.D.Disk.state l.keeper.disk);
  holds : g.D.Disk.honest l.fn.keeper.disk → (base : Image) (fronts : List (List Change)) (last : List Change) → Holds l.fn.keeper (g.D.Disk.state l.fn.keeper.disk) base fronts last
      → Holds l.keeper (g.D.Disk.state l.keeper.disk) base fronts last;
  in_memory : (j k : ℕ) (bytes : List ℕ) → j < l.done → k < 4096 → bytes_seen l.cache (l.first + j) ≡ Some bytes
      → get_or l.into (4096 * j + k) 0 ≡ get_or bytes k 0;
  from_base : g.D.Disk.honest l.fn.keeper.disk → (base : Image) (fronts : List (List Change)) (last : List Change) → Holds l.fn.keeper (g.D.Disk.state l.fn.keeper.disk) base fronts last
      → (j k : ℕ) → j < l.done → k < 4096 → bytes_seen l.cache (l.first + j) ≡ None → base.kind (l.first + j) ≡ Data → is_written (l.first + j) (joined fronts) ≡ false
      → get_or l.into (4096 * j + k) 0 ≡ base.byte (4096 * (l.first + j) + k);
}

abbrev pub decreases-loop-done : goal.decreases-loop-done
decreases-loop-done g l = l.blocks - l.done
