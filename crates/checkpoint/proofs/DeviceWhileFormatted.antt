-- What stands on a device while it is formatted.
use Rattle.std.proofs.Common.{◌≡◌, inl, inr, ℕ, ◌+◌, ◌-◌, ◌/◌, ◌≤◌, ◌⊎◌, ⊎_elim, if◌then◌else◌, List, [], ◌∷◌, length, slice_index, replicate, refl, sym, ◌∙◌, ap, subst, arith}
use Rattle.std.proofs.lemmas.Bool.{cases_eq, cases_lt}
use Rattle.std.proofs.lemmas.List.{get_or-replicate, get_or_past, length-replicate}
use Rattle.alloc_map.specs.Codes.{state_at}
use Rattle.alloc_map.specs.Map.{IsMapOf}
use Rattle.disk_model.specs.Disk.{State, InRange, IsSound, IsSteady, IsSynced, IsWritten, LeavesOnly, MayLeave, MayLeaveTorn}
use Rattle.disk_model.specs.laws.Moments.{goes_on, weakens}
use Rattle.header_slots.specs.Slots.{HoldsHeader, HoldsNone, IsBodyWritten, IsOpen}
use Rattle.image_model.specs.declared.side.Side.{Side}
use Rattle.image_model.specs.declared.side.Side.TheVariants.{Zero, One}
use Rattle.header_slots.specs.laws.Frame.{moved_spelling}
use Rattle.image_model.specs.Geometry.{device_bytes_of, map_bytes_of}
use Rattle.image_model.specs.declared.command.Kind.{Kind}
use Rattle.image_model.specs.declared.command.Kind.TheVariants.{Hole}
use Rattle.image_model.specs.declared.geometry.Geometry.{Geometry}
use Rattle.regions.specs.Layout.{area_at, map_at, block_at}
use Rattle.checkpoint.specs.Format.{AreClosed, IsMade, LeavesButGates, first_header}
use Rattle.checkpoint.specs.inner.Format.{IsFresh}
use Rattle.checkpoint.specs.laws.Closed.{closed_left, closed_torn, closed_written}
use Rattle.device_image.specs.Stands.{StandsFor, holes, is_data, stored_image}

-- a block of an image of holes is a hole
hole_at : (blocks block : ℕ) → Hole ≡ state_at (replicate blocks Hole) block
hole_at blocks block = ⊎_elim
    (λ below. sym (get_or-replicate blocks block Hole Hole below))
    (λ past. sym (get_or_past (replicate blocks Hole) block Hole (omega (arith, past, length-replicate blocks Hole))))
    (cases_lt block blocks)

pub holes_stored : (content : List ℕ) (geometry : Geometry) → holes geometry.blocks ≡ stored_image content geometry (replicate geometry.blocks Hole)
holes_stored content geometry = λ i. record {
  blocks = geometry.blocks;
  byte = λ place. if is_data (hole_at geometry.blocks (place / 4096) i) then slice_index content (block_at geometry 0 + place) else 0;
  kind = λ block. hole_at geometry.blocks block i;
}

-- a fresh device with the gate of its header open has its header in force
fresh_holds : (content : List ℕ) (geometry : Geometry) (states : List Kind) → length content ≡ device_bytes_of geometry.blocks geometry.area → slice_index content 0 ≡ 1 → slice_index content 4096 ≡ 0 → IsFresh content geometry states
    → HoldsHeader content (length content) (first_header geometry) Zero
fresh_holds content geometry states size zero_open one_closed fresh = record {
  room = omega (arith, size);
  in_force = record { gate = zero_open; greatest = λ is_open. absurd (omega (arith, one_closed, is_open)) };
  spelled = fresh.spelled;
  whole = size;
}

-- the image that map and data hold is that of a content with the same data
stored_same : (old content : List ℕ) (geometry : Geometry) (states : List Kind) → ((place : ℕ) → block_at geometry 0 ≤ place → slice_index content place ≡ slice_index old place)
    → stored_image old geometry states ≡ stored_image content geometry states
stored_same old content geometry states same = λ i. record {
  blocks = geometry.blocks;
  byte = λ place. if is_data (state_at states (place / 4096)) then sym (same (block_at geometry 0 + place) (omega arith)) i else 0;
  kind = λ block. state_at states block;
}

-- and stands for the image that map and data hold
fresh_stands : (content : List ℕ) (geometry : Geometry) (states : List Kind) → length content ≡ device_bytes_of geometry.blocks geometry.area → slice_index content 0 ≡ 1 → slice_index content 4096 ≡ 0 → IsFresh content geometry states
    → StandsFor content (stored_image content geometry states) 0
fresh_stands content geometry states size zero_open one_closed fresh = record {
  header = first_header geometry;
  slot = Zero;
  states = states;
  lists = [] ∷ [];
  in_force = fresh_holds content geometry states size zero_open one_closed fresh;
  map = fresh.map;
  held = (record { stand = λ is_open. absurd (omega (arith, fresh.gate, is_open)); inside = omega (arith, geometry.areas_not_too_small) }, tt);
  count = refl;
  shows = refl;
}

fresh_made : (content : List ℕ) (geometry : Geometry) (states : List Kind) → length content ≡ device_bytes_of geometry.blocks geometry.area → slice_index content 0 ≡ 1 → slice_index content 4096 ≡ 0 → IsFresh content geometry states
    → IsMade content geometry (stored_image content geometry states)
fresh_made content geometry states size zero_open one_closed fresh = record {
  header = fresh_holds content geometry states size zero_open one_closed fresh;
  rest = fresh.rest;
  stands = fresh_stands content geometry states size zero_open one_closed fresh;
}

-- the same by an earlier content with the same data
pub made_over : (old mid content : List ℕ) (geometry : Geometry) (states : List Kind) → ((place : ℕ) → block_at geometry 0 ≤ place → slice_index mid place ≡ slice_index old place)
    → IsMade content geometry (stored_image mid geometry states) → IsMade content geometry (stored_image old geometry states)
made_over old mid content geometry states same made = subst (IsMade content geometry) (sym (stored_same old mid geometry states same)) made

-- the gates are closed and synced
module _ (extent : ℕ) (before mid both after : State) (sound : IsSound extent before) (steady : IsSteady before) (zero : IsWritten before 0 (0 ∷ []) mid) (one : IsWritten mid 4096 (0 ∷ []) both) (synced : IsSynced both after) (sound_after : IsSound extent after) where
  both_steady : IsSteady both
  both_steady place loose = steady place (zero.loose place (one.loose place loose))

  pub closed_after : AreClosed after
  closed_after = record {
    zero_closed = synced.seen.same 0 (both_steady 0) ∙ one.others 0 (λ within. omega (arith, within.0)) (λ loose. steady 0 (zero.loose 0 loose)) ∙ zero.written 0 (omega arith) (steady 0);
    one_closed = synced.seen.same 4096 (both_steady 4096) ∙ one.written 0 (omega arith) (λ loose. steady 4096 (zero.loose 4096 loose));
    zero_synced = synced.synced 0;
    one_synced = synced.synced 4096;
    steady = λ place loose. synced.synced place (sound_after.loose place loose);
  }

-- before they are, a crash may leave what differs in them alone
pub but_zero : (before : State) (content : List ℕ) → MayLeaveTorn before 0 1 content → LeavesButGates before content
but_zero before content left = record {
  size = left.size;
  bytes = left.bytes;
  same = λ place synced zero one. left.same place synced (λ within. zero (omega (arith, within.1)));
}

module _ (extent : ℕ) (before mid : State) (sound : IsSound extent before) (sound_mid : IsSound extent mid) (zero : IsWritten before 0 (0 ∷ []) mid) where
  pub but_both : (content : List ℕ) → MayLeaveTorn mid 4096 1 content → LeavesButGates before content
  but_both content left = record {
    size = left.size ∙ sound_mid.size ∙ sym sound.size;
    bytes = left.bytes;
    same = λ place synced not_zero not_one.
        let outside : InRange 0 1 place → ⊥ = λ within. not_zero (omega (arith, within.1)) in
        left.same place (λ unsynced. ⊎_elim synced outside (zero.unsynced place unsynced)) (λ within. not_one (omega (arith, within.0, within.1)))
        ∙ zero.others place outside (λ loose. synced (sound.loose place loose));
  }

-- the parts of a fresh device that were written one after another
module _ (geometry : Geometry) (before one two three : State) (steady : IsSteady before) (states : List Kind) (bytes : List ℕ) (map_is : IsMapOf bytes states) (count : length states ≡ geometry.blocks)
    (gate : IsWritten before (area_at geometry 0) (0 ∷ []) one) (map : IsWritten one (map_at geometry Zero) bytes two) (body : IsBodyWritten two Zero (first_header geometry) three) where
  one_steady : IsSteady one
  one_steady place loose = steady place (gate.loose place loose)

  two_steady : IsSteady two
  two_steady place loose = one_steady place (map.loose place loose)

  long : length bytes ≡ map_bytes_of geometry.blocks
  long = map_is.size ∙ ap map_bytes_of count

  behind_body : (place : ℕ) → 4096 ≤ place → slice_index three.seen place ≡ slice_index two.seen place
  behind_body place behind = body.written.others place (λ within. omega (arith, within.1, behind, body.body.size)) (two_steady place)

  -- the data stay
  pub data_stay : (place : ℕ) → block_at geometry 0 ≤ place → slice_index three.seen place ≡ slice_index before.seen place
  data_stay place behind =
      behind_body place (omega (arith, behind))
      ∙ map.others place (λ within. omega (arith, within.1, behind, long)) (one_steady place)
      ∙ gate.others place (λ within. omega (arith, within.1, behind)) (steady place)

  pub parts_written : IsFresh three.seen geometry states
  parts_written = record {
    spelled = moved_spelling body.bytes three.seen 0 1 (λ k below.
        let at : 1 + k ≡ 0 + 1 + k = omega arith in
        let k0 : 0 + k ≡ k = omega arith in
        ap (slice_index body.bytes) k0 ∙ sym (ap (slice_index three.seen) at ∙ body.written.written k (omega (arith, below, body.body.size)) (two_steady (0 + 1 + k)))) (first_header geometry) body.body.spelled;
    rest = λ place from below.
        let at : place ≡ 0 + 1 + (place - 1) = omega (arith, from) in
        ap (slice_index three.seen) at ∙ body.written.written (place - 1) (omega (arith, from, below, body.body.size)) (two_steady (0 + 1 + (place - 1)))
        ∙ body.body.rest (place - 1) (omega (arith, from));
    gate = behind_body (area_at geometry 0) (omega arith)
        ∙ map.others (area_at geometry 0) (λ within. omega (arith, within.0, geometry.area_not_too_small)) (one_steady (area_at geometry 0))
        ∙ first_of (gate.written 0 (omega arith));
    map = record {
      bytes = bytes;
      slot = record {
        size = long;
        same = λ k below. sym (behind_body (map_at geometry Zero + k) (omega arith) ∙ map.written k (omega (arith, below, long)) (one_steady (map_at geometry Zero + k)));
      };
      count = count;
      map = map_is;
    };
  }
    where
      first_of : ((before.loose (area_at geometry 0 + 0) → ⊥) → slice_index one.seen (area_at geometry 0 + 0) ≡ 0) → slice_index one.seen (area_at geometry 0) ≡ 0
      first_of read = let at : area_at geometry 0 + 0 ≡ area_at geometry 0 = omega arith in
          ap (slice_index one.seen) (sym at) ∙ read (steady (area_at geometry 0 + 0))

-- a fresh device whose first gate alone has changed
pub fresh_kept : (old content : List ℕ) (geometry : Geometry) (states : List Kind) → ((place : ℕ) → 1 ≤ place → slice_index content place ≡ slice_index old place) → IsFresh old geometry states → IsFresh content geometry states
fresh_kept old content geometry states same fresh = record {
  spelled = moved_spelling old content 1 1 (λ k below. sym (same (1 + k) (omega arith))) (first_header geometry) fresh.spelled;
  rest = λ place from below. same place (omega (arith, from)) ∙ fresh.rest place from below;
  gate = same (area_at geometry 0) (omega arith) ∙ fresh.gate;
  map = record {
    bytes = fresh.map.bytes;
    slot = record { size = fresh.map.slot.size; same = λ k below. fresh.map.slot.same k below ∙ sym (same (map_at geometry Zero + k) (omega arith)) };
    count = fresh.map.count;
    map = fresh.map.map;
  };
}

-- the header's gate is opened on the synced device
module _ (extent : ℕ) (geometry : Geometry) (states : List Kind) (before synced : State) (sound : IsSound extent before) (sound_synced : IsSound extent synced) (size : extent ≡ device_bytes_of geometry.blocks geometry.area) (closed : AreClosed before) (fresh : IsFresh before.seen geometry states) (good : IsSynced before synced) where
  stays : (place : ℕ) → slice_index synced.seen place ≡ slice_index before.seen place
  stays place = good.seen.same place (closed.steady place)

  -- a crash leaves its byte as it was, or torn in any way
  pub opened_torn : (content : List ℕ) → MayLeaveTorn synced 0 1 content → HoldsNone content (length content) ⊎ IsMade content geometry (stored_image before.seen geometry states)
  opened_torn content left =
      let same : (place : ℕ) → 1 ≤ place → slice_index content place ≡ slice_index before.seen place =
      λ place behind. left.same place (good.synced place) (λ within. omega (arith, within.1, behind)) ∙ stays place in
      let one : slice_index content 4096 ≡ 0 = same 4096 (omega arith) ∙ closed.one_closed in
      ⊎_elim
      (λ is_open. inr (made_over before.seen content content geometry states (λ place behind. same place (omega (arith, behind)))
      (fresh_made content geometry states (left.size ∙ sound_synced.size ∙ size) is_open one (fresh_kept before.seen content geometry states same fresh))))
      (λ shut. inl (inr (none_but content one shut)))
      (cases_eq (slice_index content 0) 1)
    where
      none_but : (content : List ℕ) → slice_index content 4096 ≡ 0 → (slice_index content 0 ≡ 1 → ⊥) → (slot : Side) → ¬ (IsOpen content slot)
      none_but content one shut Zero = shut
      none_but content one shut One = λ is_open. omega (arith, one, is_open)

  module _ (written after : State) (gate : IsWritten synced 0 (1 ∷ []) written) (done : IsSynced written after) (sound_after : IsSound extent after) where
    sure : IsSteady synced
    sure place loose = good.synced place (sound_synced.loose place loose)

    kept : (place : ℕ) → slice_index after.seen place ≡ slice_index written.seen place
    kept place = done.seen.same place (λ loose. sure place (gate.loose place loose))

    pub opened_made : IsMade after.seen geometry (stored_image before.seen geometry states)
    opened_made =
        let same : (place : ℕ) → 1 ≤ place → slice_index after.seen place ≡ slice_index before.seen place =
        λ place behind. kept place ∙ gate.others place (λ within. omega (arith, within.1, behind)) (sure place) ∙ stays place in
        made_over before.seen after.seen after.seen geometry states (λ place behind. same place (omega (arith, behind)))
        (fresh_made after.seen geometry states (sound_after.size ∙ size) (kept 0 ∙ gate.written 0 (omega arith) (sure 0)) (same 4096 (omega arith) ∙ closed.one_closed) (fresh_kept before.seen after.seen geometry states same fresh))

-- the moments at which the gates of the headers are closed
pub gates_moments : {extent : ℕ} {before mid both : State} → IsSound extent before → IsSound extent mid → LeavesOnly before mid (MayLeaveTorn before 0 1) → IsWritten before 0 (0 ∷ []) mid
    → LeavesOnly mid both (MayLeaveTorn mid 4096 1) → LeavesOnly before both (LeavesButGates before)
gates_moments {extent} {before} {mid} sound sound_mid first zero second = goes_on (weakens first (but_zero before)) second (but_both extent before mid sound sound_mid zero)

-- and those at which the parts are written, where they are closed
module _ (before : State) (closed : AreClosed before) (area : ℕ) (behind : 8192 ≤ area) where
  misses : (place count : ℕ) → 8192 ≤ place → InRange place count 4096 → ⊥
  misses place count above within = omega (arith, within.0, above)

  pub gate_moments : {one : State} → LeavesOnly before one (MayLeaveTorn before area 1) → LeavesOnly before one (λ content. HoldsNone content (length content))
  gate_moments first = weakens first (closed_torn before closed area 1 (omega (arith, behind)) (misses area 1 behind))

  module _ (one : State) (gate : IsWritten before area (0 ∷ []) one) (map : ℕ) (also : 8192 ≤ map) where
    one_closed : AreClosed one
    one_closed = closed_written before closed area (0 ∷ []) one (omega (arith, behind)) (misses area 1 behind) gate

    pub map_moments : {two : State} (count : ℕ) → LeavesOnly before one (MayLeaveTorn before area 1) → LeavesOnly one two (MayLeaveTorn one map count)
        → LeavesOnly before two (λ content. HoldsNone content (length content))
    map_moments count first second = goes_on (gate_moments first) second (closed_torn one one_closed map count (omega (arith, also)) (misses map count also))

    pub body_moments : {two three : State} (bytes : List ℕ) → LeavesOnly before one (MayLeaveTorn before area 1) → LeavesOnly one two (MayLeaveTorn one map (length bytes)) → IsWritten one map bytes two
        → LeavesOnly two three (MayLeaveTorn two 1 4095) → LeavesOnly before three (λ content. HoldsNone content (length content))
    body_moments {two} bytes first second written third = goes_on (map_moments (length bytes) first second) third
        (closed_torn two (closed_written one one_closed map bytes two (omega (arith, also)) (misses map (length bytes) also) written) 1 4095 (omega arith) (λ within. omega (arith, within.1)))

-- a device that was made an image of a map of holes is formatted
pub made_of_holes : (old content : List ℕ) (geometry : Geometry) (states : List Kind) → states ≡ replicate geometry.blocks Hole → IsMade content geometry (stored_image old geometry states) → IsMade content geometry (holes geometry.blocks)
made_of_holes old content geometry states are made =
    subst (IsMade content geometry) (ap (stored_image old geometry) are ∙ sym (holes_stored old geometry)) made
