-- What a device is while an area comes into use.
use Rattle.std.proofs.Common.{◌≡◌, ◌≢◌, ⊎_elim, inl, inr, ℕ, ◌<◌, ◌≤◌, List, [], ◌∷◌, slice_index, Ok, sym, ◌∙◌, arith}
use Rattle.disk_model.specs.Disk.{State, IsSound, IsSteady, IsStored, IsSyncedIn, MayLeaveTorn}
use Rattle.disk_model.specs.laws.Contents.{stored_first}
use Rattle.header_slots.specs.Change.{IsInPlace, LeavesEither}
use Rattle.header_slots.specs.Slots.{HoldsHeader}
use Rattle.header_slots.specs.declared.header.Header.{Header}
use Rattle.header_slots.specs.laws.Frame.{same_reading}
use Rattle.image_model.specs.declared.side.Side.{Side}
use Rattle.device_image.specs.inner.Copied.{IsAreaStarted, LeavesAreaStart}

module _ (before : State) (extent from : ℕ) (calm : IsSteady before) (synced : IsSyncedIn before 0 8192) (behind : 8192 ≤ from) (current : Header) (slot : Side) (held : HoldsHeader before.seen extent current slot) (header : Header) where
  in_slots : (place : ℕ) → place < 8192 → before.unsynced place → ⊥
  in_slots place below = synced place (omega arith, omega (arith, below))

  -- while the gate is closed
  pub closing_left : (content : List ℕ) → MayLeaveTorn before from 1 content → LeavesAreaStart before extent from current slot header content
  closing_left content left = record {
    size = left.size;
    others = λ place above other stable. left.same place stable (λ within. other (omega (arith, within)));
    either = inl (same_reading before.seen content (λ k below. sym (left.same k (in_slots k (omega (arith, below))) (λ within. omega (arith, below, within.0, behind)))) extent (Ok (current, slot)) held);
  }

  module _ (mid : State) (sound : IsSound extent before) (mid_sound : IsSound extent mid) (stored : IsStored before from (0 ∷ []) mid) where
    mid_same : (place : ℕ) → place ≢ from → slice_index mid.seen place ≡ slice_index before.seen place
    mid_same place other = stored.others place (λ within. other (omega (arith, within))) (calm place)

    mid_closed : slice_index mid.seen from ≡ 0
    mid_closed = stored_first before mid from (0 ∷ []) stored (omega arith) (calm from)

    pub held_still : HoldsHeader mid.seen extent current slot
    held_still = same_reading before.seen mid.seen (λ k below. sym (mid_same k (λ is. omega (arith, below, is, behind)))) extent (Ok (current, slot)) held

    pub slots_synced : IsSyncedIn mid 0 8192
    slots_synced place within = stored.synced place

    -- while the header changes
    pub change_left : (content : List ℕ) → LeavesEither mid extent current slot header content → LeavesAreaStart before extent from current slot header content
    change_left content left = record {
      size = left.outside.size ∙ mid_sound.size ∙ sym sound.size;
      others = λ place above other stable. left.outside.same place above (stored.synced place) ∙ mid_same place other;
      either = ⊎_elim (λ old. inl old) (λ new. inr (left.outside.same from behind (stored.synced from) ∙ mid_closed, new)) left.either;
    }

    pub begun_at : (after : State) (other : Side) → IsInPlace mid extent header other after → IsAreaStarted before extent from header other after
    begun_at after other placed = record {
      held = placed.held;
      closed = placed.others from behind (λ loose. stored.synced from (mid_sound.loose from loose)) ∙ mid_closed;
      others = λ place above apart. placed.others place above (λ loose. stored.synced place (mid_sound.loose place loose)) ∙ mid_same place apart;
      synced = placed.synced;
    }
