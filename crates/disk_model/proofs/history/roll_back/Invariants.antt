use Rattle.std.proofs.Common.{◌≡◌, length, reverse}
use Rattle.disk_model.specs.History.{synced_content}
use Rattle.disk_model.proofs.Unwinding.{Unwinds}
use Rattle.disk_model.proofs.history.roll_back.Given as goal

abbrev pub invariant-loop-write : goal.invariant-loop-write
invariant-loop-write l = record {
  unwinds : Unwinds l.initial.history.items l.initial.bytes.items l.history.items l.bytes.items;
  content : synced_content (reverse l.history.items) l.bytes.items ≡ synced_content (reverse l.initial.history.items) l.initial.bytes.items;
}

abbrev pub decreases-loop-write : goal.decreases-loop-write
decreases-loop-write l = length l.history.items
