-- A keeper after reads of its device, and what they gave of the base.
use Rattle.std.proofs.Common.{◌≡◌, ℕ, ◌+◌, ◌*◌, ◌/◌, ◌%◌, ◌<◌, false, if◌then◌else◌, List, length, slice_index, refl, sym, ◌∙◌, ap, subst, arith}
use Rattle.alloc_map.specs.Codes.{state_at}
use Rattle.disk_model.specs.Disk.{State}
use Rattle.header_slots.specs.Slots.{HoldsHeader}
use Rattle.image_model.specs.Change.{Change}
use Rattle.image_model.specs.Image.{Image, apply_all}
use Rattle.image_model.specs.declared.command.Kind.TheVariants.{Data}
use Rattle.journal_format.specs.Reading.{IsOnlyRead}
use Rattle.regions.specs.Layout.{block_at, map_at}
use Rattle.regions.specs.Map.{HoldsMap}
use Rattle.device_image.specs.Holds.{Holds, IsBase, is_written, joined}
use Rattle.device_image.specs.Keeper.{KeeperState, earlier_of}
use Rattle.device_image.specs.Keeps.{Keeps}
use Rattle.device_image.specs.Stands.{StandsFor, HoldLists, all_changes, in_use, is_data, last_area, next_number, stored_image}
use Rattle.device_image.specs.laws.Copied.{phase_on}
use Rattle.device_image.specs.laws.Frame.{held_kept, last_high, one_kept, others_in_use}
use Rattle.device_image.specs.laws.AfterWrite.{holds_lists}
use Rattle.device_image.specs.laws.Kept.{low_synced}
use Rattle.device_image.specs.laws.Lists.{KeepsLists}
use Rattle.checkpoint.proofs.SyncedReads.{seen_steady}

-- what stands for an image still does where the content is the same
abbrev pub stands_there : (content other : List ℕ) (image : Image) (number : ℕ) → content ≡ other → StandsFor content image number → StandsFor other image number
stands_there content other image number same stands = record {
  header = stands.header;
  slot = stands.slot;
  states = stands.states;
  lists = stands.lists;
  in_force = subst (λ (c : List ℕ). HoldsHeader c (length c) stands.header stands.slot) same stands.in_force;
  map = subst (λ (c : List ℕ). HoldsMap c (map_at stands.header.geometry stands.header.map_slot) stands.header.geometry.blocks stands.states) same stands.map;
  held = subst (λ (c : List ℕ). HoldLists (in_use stands.header) c stands.header.geometry (next_number stands.header.base) stands.lists) same stands.held;
  count = stands.count;
  shows = stands.shows ∙ ap (λ (c : List ℕ). apply_all (all_changes stands.lists) (stored_image c stands.header.geometry stands.states)) same;
}

-- reads change nothing of what a keeper keeps
keeps_reading : {D : Type 0} (keeper : KeeperState D) (disk : D) (state after : State) (image : Image) (number : ℕ) → IsOnlyRead state after → (keeps : Keeps keeper state image number)
    → KeepsLists (record keeper { disk = disk }) after image number keeps.areas.front keeps.areas.groups
keeps_reading keeper disk state after image number read keeps =
    let same = seen_steady keeps.steady read in
    let header = keeps.stands.header in
    let last = last_area header in
    record {
      keeps = record {
        works = keeps.works;
        steady = λ place loose. keeps.steady place (read.kept.loose place loose);
        stands = stands_there state.seen after.seen image number same keeps.stands;
        sizes = keeps.sizes;
        generation = keeps.generation;
        from_base = keeps.from_base;
        headed = keeps.headed;
        slotted = keeps.slotted;
        counted = keeps.counted;
        mapped = keeps.mapped;
        areas = record {
          front = keeps.areas.front;
          groups = keeps.areas.groups;
          are = keeps.areas.are;
          earlier_held = held_kept _ last header.geometry _ keeps.areas.front (earlier_of keeper.memory.plans) state after (others_in_use header)
              (λ place below outside. read.kept.seen.same place (keeps.steady place))
              (λ place below unsynced. low_synced keeper state image number keeps place below (read.kept.unsynced place unsynced)) keeps.areas.earlier_held;
          placed = keeps.areas.placed;
          held = one_kept keeper.memory.area header.geometry last _ keeps.areas.groups state after keeps.areas.placed
              (λ place within. read.kept.seen.same place (keeps.steady place))
              (λ place within unsynced. low_synced keeper state image number keeps place (omega (arith, last_high header, within.1)) (read.kept.unsynced place unsynced)) keeps.areas.held;
        };
        taken = keeps.taken;
        phase = keeps.phase;
        phased = phase_on keeper state image number keeps after (λ place here. read.kept.seen.same place (keeps.steady place)) (λ place above. read.kept.seen.same place (keeps.steady place))
            (λ synced place unsynced. synced place (read.kept.unsynced place unsynced)) keeper.memory.plans keeps.phased;
        unsynced = λ place unsynced. keeps.unsynced place (read.kept.unsynced place unsynced);
      };
      front_is = refl;
      groups_are = refl;
    }

module _ {D : Type 0} (keeper : KeeperState D) (state : State) (base : Image) (fronts : List (List Change)) (last : List Change) (holds : Holds keeper state base fronts last) where
  -- nor of what it holds
  pub holds_reading : (disk : D) (after : State) → IsOnlyRead state after → Holds (record keeper { disk = disk }) after base fronts last
  holds_reading disk after read =
      holds_lists (record keeper { disk = disk }) after (apply_all last (apply_all (joined fronts) base)) (keeper.base + length (joined fronts) + length last) holds.keeps.areas.front holds.keeps.areas.groups
      (keeps_reading keeper disk state after (apply_all last (apply_all (joined fronts) base)) (keeper.base + length (joined fronts) + length last) read holds.keeps) base fronts last refl refl holds.before_last holds.in_last
      (subst (λ (content : List ℕ). IsBase base content keeper.geometry keeper.memory.map (joined fronts)) (seen_steady holds.keeps.steady read) holds.is_base)

  -- the data region has the bytes of blocks that are data at the base
  pub base_byte : (first k : ℕ) → base.kind (first + k / 4096) ≡ Data → is_written (first + k / 4096) (joined fronts) ≡ false → slice_index state.seen (block_at keeper.geometry first + k) ≡ base.byte (4096 * first + k)
  base_byte first k kind none =
      let block = first + k / 4096 in
      let offset = k % 4096 in
      let small : offset < 4096 = omega arith in
      let at : 4096 * block + offset ≡ 4096 * first + k = omega arith in
      let which : (4096 * block + offset) / 4096 ≡ block = omega (arith, small) in
      let place : block_at keeper.geometry 0 + (4096 * block + offset) ≡ block_at keeper.geometry first + k = omega (arith, at) in
      let data_is : is_data (state_at keeper.memory.map ((4096 * block + offset) / 4096)) ≡ is_data Data =
      ap (λ (b : ℕ). is_data (state_at keeper.memory.map b)) which ∙ ap is_data (sym (holds.is_base.kinds block) ∙ kind) in
      ap (slice_index state.seen) (sym place)
      ∙ sym (ap (λ test. if test then slice_index state.seen (block_at keeper.geometry 0 + (4096 * block + offset)) else 0) data_is)
      ∙ sym (holds.is_base.bytes block offset small none)
      ∙ ap base.byte at
