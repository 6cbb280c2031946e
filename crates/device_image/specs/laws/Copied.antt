-- A keeper after more blocks were copied, and after the map was written.
use Rattle.std.proofs.Common.{◌≡◌, ⊎_elim, ℕ, ◌+◌, ◌-◌, ◌*◌, ◌/◌, ◌≤◌, ◌<◌, Bool, true, false, Option, Some, None, List, [], ◌∷◌, slice_index, sym, ◌∙◌, ap, subst, arith}
use Rattle.std.proofs.lemmas.Bool.{cases_lt}
use Rattle.disk_model.specs.Disk.{State, InRange, IsAllSynced}
use Rattle.header_slots.specs.declared.header.Header.{Header}
use Rattle.image_model.specs.Image.{Image}
use Rattle.image_model.specs.Side.{other_of}
use Rattle.image_model.specs.declared.command.Kind.{Kind}
use Rattle.journal_format.specs.Spelling.{StoredGroup}
use Rattle.journal_format.specs.Touches.{last_touch}
use Rattle.journal_format.specs.declared.touch.Touch.{Touch}
use Rattle.journal_format.specs.declared.touch.Touch.TheVariants.{Put}
use Rattle.regions.specs.Layout.{area_at, area_size, areas_in, block_at}
use Rattle.device_image.specs.inner.Copied.{IsCopiedOver}
use Rattle.device_image.specs.inner.Free.{to_be_copied}
use Rattle.device_image.specs.Keeper.{AreUncopied, KeeperState, PlanState, count_puts, earlier_of, is_put, phase_of}
use Rattle.device_image.specs.Keeps.{AreCopied, IsCopyPlace, IsCopying, IsInPhase, IsMapWritten, Keeps, touched_first}
use Rattle.device_image.specs.Stands.{HoldLists, areas_before_last, next_number}
use Rattle.device_image.specs.laws.Frame.{first_high, map_low}
use Rattle.device_image.specs.laws.AfterWrite.{first_list}
use Rattle.device_image.specs.laws.Kept.{held}
use Rattle.device_image.specs.laws.Lists.{KeepsLists}
use Rattle.device_image.specs.laws.Steps.{keeps_after}
use Rattle.device_image.specs.laws.Touched.{IsSoundTouch, groups_sound}
use Rattle.device_image.specs.laws.HeaderReplaced.{slot_kept}

none_is_some : {touch : Touch} → None ≡ Some touch → ⊥
none_is_some is = cc

not_put : {b : Bool} → b ≡ false → b ≡ true → ⊥
not_put is other = cc

-- a block that was put last by the first area: it is one of the image, and its bytes stand in that area
pub sound_put : (content : List ℕ) (header : Header) (front : List (List StoredGroup)) → HoldLists (areas_before_last header) content header.geometry (next_number header.base) front
    → (block from : ℕ) → last_touch block (touched_first header front) ≡ Some (Put from)
    → (block < header.geometry.blocks) × (area_at header.geometry header.first_area ≤ from) × (from + 4096 ≤ area_at header.geometry header.first_area + area_size header.geometry)
sound_put content header [] holds block from is = absurd (none_is_some is)
sound_put content header (groups ∷ front) holds block from is =
    let geometry = header.geometry in
    let start = area_at geometry header.first_area in
    let list = first_list (areas_in geometry) header.before_last header.first_area geometry content (next_number header.base) groups front holds in
    subst (λ (touch : Option Touch). IsSoundTouch geometry.blocks start (start + area_size geometry) block touch) is
    (groups_sound geometry.blocks start (start + area_size geometry) block content start (next_number header.base) groups list.stand (omega arith) (omega (arith, list.inside)))

is_put_some : (touch : Option Touch) (from : ℕ) → touch ≡ Some (Put from) → is_put touch ≡ true
is_put_some touch from is = ap is_put is

module _ {D : Type 0} (keeper : KeeperState D) (before : State) (image : Image) (number : ℕ) (keeps : Keeps keeper before image number) where
  abbrev pub first_puts : (block from : ℕ) → last_touch block (touched_first keeps.stands.header keeps.areas.front) ≡ Some (Put from)
      → (block < keeps.stands.header.geometry.blocks) × (area_at keeps.stands.header.geometry keeps.stands.header.first_area ≤ from)
      × (from + 4096 ≤ area_at keeps.stands.header.geometry keeps.stands.header.first_area + area_size keeps.stands.header.geometry)
  first_puts = sound_put before.seen keeps.stands.header keeps.areas.front (held keeper before image number keeps)

  -- the phase stays where the first area, the data and the maps stay
  module _ (after : State)
      (first_same : (place : ℕ) → InRange (area_at keeps.stands.header.geometry keeps.stands.header.first_area) (area_size keeps.stands.header.geometry) place → slice_index after.seen place ≡ slice_index before.seen place)
      (high_same : (place : ℕ) → 8192 + 2 * keeps.stands.header.geometry.area ≤ place → slice_index after.seen place ≡ slice_index before.seen place)
      (synced : IsAllSynced before → IsAllSynced after) where
    copied_on : (copied : ℕ) → AreCopied before.seen keeps.stands.header keeps.areas.front copied → AreCopied after.seen keeps.stands.header keeps.areas.front copied
    copied_on copied are block from below is k small =
        let there = first_puts block from is in
        high_same (block_at keeps.stands.header.geometry block + k) (omega arith)
        ∙ are block from below is k small
        ∙ sym (first_same (from + k) (omega (arith, there.1), omega (arith, there.2, small)))

    map_on : (mapped : Option (List Kind)) (left : ℕ) → IsMapWritten mapped before keeps.stands.header keeps.stands.states keeps.areas.front left → IsMapWritten mapped after keeps.stands.header keeps.stands.states keeps.areas.front left
    map_on None left written = tt
    map_on (Some states) left written = (
      written.0,
      written.1,
      slot_kept before.seen after.seen states keeps.stands.header.geometry (other_of keeps.stands.header.map_slot)
          (λ place within. high_same place (omega (arith, within.0, map_low keeps.stands.header.geometry (other_of keeps.stands.header.map_slot)))) written.2,
      synced written.3,
    )

    pub phase_on : (plans : List PlanState) → IsInPhase plans before keeps.stands.header keeps.stands.states keeps.areas.front → IsInPhase plans after keeps.stands.header keeps.stands.states keeps.areas.front
    phase_on [] phased = tt
    phase_on (plan ∷ plans) phased = (
      record {
        within = phased.0.within;
        counted = phased.0.counted;
        are_copied = copied_on plan.copied phased.0.are_copied;
        map_written = map_on plan.mapped plan.left phased.0.map_written;
      },
      phased.1,
    )

  -- blocks that are put last by the first area, from `first` on, whose bytes follow one another there
  module _ (plan : PlanState) (phased : IsCopying plan before keeps.stands.header keeps.stands.states keeps.areas.front) (unmapped : plan.mapped ≡ None) (first blocks from left : ℕ)
      (some : 1 ≤ blocks) (behind_is : plan.copied ≤ first) (inside : first + blocks ≤ keeps.stands.header.geometry.blocks)
      (none : (block : ℕ) → plan.copied ≤ block → block < first → is_put (last_touch block (touched_first keeps.stands.header keeps.areas.front)) ≡ false)
      (puts : (k : ℕ) → k < blocks → last_touch (first + k) (touched_first keeps.stands.header keeps.areas.front) ≡ Some (Put (from + 4096 * k)))
      (counted : left + count_puts (first + blocks) (touched_first keeps.stands.header keeps.areas.front) ≡ count_puts keeps.stands.header.geometry.blocks (touched_first keeps.stands.header keeps.areas.front)) where
    -- the data that are written are to be copied
    pub copy_places : (place : ℕ) → InRange (block_at keeps.stands.header.geometry first) (4096 * blocks) place → IsCopyPlace keeps.stands.header keeps.areas.front place
    copy_places place within =
        let geometry = keeps.stands.header.geometry in
        let k = (place - block_at geometry first) / 4096 in
        let put = is_put_some _ _ (puts k (omega (arith, within.0, within.1))) in
        record {
          block = first + k;
          inside = (omega (arith, within.0), omega (arith, within.0, within.1));
          put = put;
        }

    pub source : (area_at keeps.stands.header.geometry keeps.stands.header.first_area ≤ from) × (from + 4096 * blocks ≤ area_at keeps.stands.header.geometry keeps.stands.header.first_area + area_size keeps.stands.header.geometry)
    source =
        let one = first_puts (first + 0) (from + 4096 * 0) (puts 0 (omega (arith, some))) in
        let last = first_puts (first + (blocks - 1)) (from + 4096 * (blocks - 1)) (puts (blocks - 1) (omega (arith, some))) in
        (omega (arith, one.1), omega (arith, last.2, some))

    module _ (after : State) (done : IsCopiedOver before from (block_at keeps.stands.header.geometry first) (4096 * blocks) after) where
      outside : (place : ℕ) → place < 8192 + 2 * keeps.stands.header.geometry.area → slice_index after.seen place ≡ slice_index before.seen place
      outside place below = done.others place (λ within. omega (arith, below, within.0))

      more_copied : AreCopied after.seen keeps.stands.header keeps.areas.front (first + blocks)
      more_copied block at below is k small =
          let geometry = keeps.stands.header.geometry in
          let there = first_puts block at is in
          let read : slice_index before.seen (at + k) ≡ slice_index after.seen (at + k) = sym (outside (at + k) (omega (arith, there.2, small, first_high keeps.stands.header))) in
          ⊎_elim
          (λ early. done.others (block_at geometry block + k) (λ within. omega (arith, within.0, early, behind_is, small))
          ∙ phased.are_copied block at early is k small ∙ read)
          (λ late. ⊎_elim
          (λ between. absurd (not_put (none block late between) (is_put_some _ at is)))
          (λ here.
          let n = block - first in
          let block_is : first + n ≡ block = omega (arith, here) in
          let same : Some (Put (from + 4096 * n)) ≡ Some (Put at) = sym (puts n (omega (arith, below, here))) ∙ ap (λ (b : ℕ). last_touch b (touched_first keeps.stands.header keeps.areas.front)) block_is ∙ is in
          let at_is : from + 4096 * n ≡ at = cc in
          let target : block_at geometry first + (4096 * n + k) ≡ block_at geometry block + k = omega (arith, block_is) in
          let source_is : from + (4096 * n + k) ≡ at + k = omega (arith, at_is) in
          ap (slice_index after.seen) (sym target)
          ∙ done.written (4096 * n + k) (omega (arith, below, here, small))
          ∙ ap (slice_index before.seen) source_is ∙ read)
          (cases_lt block first))
          (cases_lt block plan.copied)

      pub keeps_copied : (now : KeeperState D) (rest : List PlanState) → keeper.memory.plans ≡ plan ∷ rest → AreUncopied rest
          → now ≡ record keeper {
            disk = now.disk;
            turned = now.turned;
            lefts = now.lefts;
            phase = phase_of (record plan { copied = first + blocks; left = left } ∷ rest);
            memory = record keeper.memory { plans = record plan { copied = first + blocks; left = left } ∷ rest };
          } → KeepsLists now after image number keeps.areas.front keeps.areas.groups
      keeps_copied now rest were uncopied is =
          keeps_after keeper before image number keeps after done.size
          (λ place used. done.others place (λ within. used (to_be_copied (copy_places place within))))
          (λ place unsynced. ⊎_elim (λ was. keeps.unsynced place was) (λ within. copy_places place within) (done.unsynced place unsynced))
          done.steady now (record plan { copied = first + blocks; left = left } ∷ rest) (sym (ap earlier_of were)) (
            record {
              within = inside;
              counted = counted;
              are_copied = more_copied;
              map_written = subst (λ (mapped : Option (List Kind)). IsMapWritten mapped after keeps.stands.header keeps.stands.states keeps.areas.front left) (sym unmapped) tt;
            },
            uncopied,
          )
          is
