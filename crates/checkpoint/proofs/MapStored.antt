-- A map slot after it was written and the device was synced.
use Rattle.std.proofs.Common.{◌≡◌, ℕ, List, sym, ◌∙◌}
use Rattle.disk_model.specs.Disk.{State, IsSound, IsSteady, IsSynced}
use Rattle.image_model.specs.Geometry.{map_bytes_of}
use Rattle.image_model.specs.declared.command.Kind.{Kind}
use Rattle.image_model.specs.declared.geometry.Geometry.{Geometry}
use Rattle.image_model.specs.declared.side.Side.{Side}
use Rattle.regions.specs.Layout.{map_at}
use Rattle.regions.specs.Map.{HoldsMap}
use Rattle.regions.specs.Writes.{IsMapWritten, IsSameOutside}
use Rattle.device_image.specs.inner.Copied.{IsMapStored}
use Rattle.device_image.specs.laws.HeaderReplaced.{slot_kept}

pub map_stored : (before mid after : State) (geometry : Geometry) (slot : Side) (states : List Kind) {extent other : ℕ} → IsSound extent before → IsSound other mid → other ≡ extent → IsSteady before
    → HoldsMap mid.seen (map_at geometry slot) geometry.blocks states → IsMapWritten before (map_at geometry slot) states mid
    → IsSameOutside before (map_at geometry slot) (map_bytes_of geometry.blocks) mid
    → IsSynced mid after → IsMapStored before (map_at geometry slot) geometry.blocks states after
map_stored before mid after geometry slot states sound mid_sound same_extent steady holds written outside synced =
    let sure : (place : ℕ) → mid.loose place → ⊥ = λ place loose. steady place (written.written.loose place loose) in
    record {
      size = synced.seen.size ∙ mid_sound.size ∙ same_extent ∙ sym sound.size;
      map = slot_kept mid.seen after.seen states geometry slot (λ place within. synced.seen.same place (sure place)) holds;
      others = λ place apart. synced.seen.same place (sure place) ∙ outside place apart (steady place);
      synced = synced.synced;
    }
