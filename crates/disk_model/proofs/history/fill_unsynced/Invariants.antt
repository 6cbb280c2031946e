use Rattle.std.proofs.Common.{◌≡◌, ◌⊎◌, ℕ, length, reverse, slice_index}
use Rattle.disk_model.specs.History.{unsynced_by}
use Rattle.disk_model.proofs.Unwinding.{Unwinds}
use Rattle.disk_model.proofs.history.fill_unsynced.Given as goal

abbrev pub invariant-loop-write : goal.invariant-loop-write
invariant-loop-write l = record {
  unwinds : Unwinds l.initial.history.items l.initial.bytes.items l.history.items l.bytes.items;
  filled : (place : ℕ) → unsynced_by (reverse l.initial.history.items) place → (slice_index l.bytes.items place ≡ l.byte) ⊎ unsynced_by (reverse l.history.items) place;
}

abbrev pub decreases-loop-write : goal.decreases-loop-write
decreases-loop-write l = length l.history.items
