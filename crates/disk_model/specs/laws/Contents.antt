-- What a device reads and what a crash leaves, place by place, as crates above use it:
-- `use Rattle.disk_model.specs.laws.Contents.{leaves_seen, ..}`.
use Rattle.std.proofs.Common.{length, ◌≡◌, ℕ, ◌<◌, List, slice_index, subst, add-zero}
use Rattle.std.proofs.lemmas.List.{ext_get_or}
use Rattle.disk_model.specs.Disk.{State, IsAllSynced, MayLeave, IsStored}

-- where nothing is unsynced, a crash leaves what a read gives
pub leaves_seen : (state : State) (content : List ℕ) → IsAllSynced state → MayLeave state content → content ≡ state.seen
leaves_seen state content synced left = ext_get_or 0 content state.seen left.size (λ place below. left.same place (synced place))

-- the first byte of what was written, with no sum in its place
pub stored_first : (before after : State) (offset : ℕ) (bytes : List ℕ) → IsStored before offset bytes after → 0 < length bytes → (before.loose offset → ⊥) → slice_index after.seen offset ≡ slice_index bytes 0
stored_first before after offset bytes stored some sure =
    subst (λ (place : ℕ). (before.loose place → ⊥) → slice_index after.seen place ≡ slice_index bytes 0) (add-zero offset) (stored.written 0 some) sure
