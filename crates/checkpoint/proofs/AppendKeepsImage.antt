-- What a keeper keeps while a group is added, and then.
use Rattle.std.proofs.Common.{◌≡◌, inl, inr, ℕ, ◌+◌, ◌%◌, ◌<◌, ◌≤◌, ◌⊎◌, ⊎_elim, List, [], ◌∷◌, ◌++◌, length, slice_index, refl, sym, ◌∙◌, ap, subst, arith}
use Rattle.std.proofs.lemmas.Bool.{cases_eq, cases_lt}
use Rattle.disk_model.specs.Disk.{State, InRange, IsAllSynced, IsSound, MayLeaveTorn}
use Rattle.image_model.specs.Image.{Image, apply_all}
use Rattle.checkpoint.specs.declared.fault.KeeperFault.TheVariants.{AreaFull, Failed, OutOfOrder}
use Rattle.journal_format.specs.declared.fault.JournalFault.{JournalFault}
use Rattle.journal_format.specs.declared.fault.JournalFault.TheVariants as journals
use Rattle.journal_format.specs.Area.{AreaState}
use Rattle.journal_format.specs.GroupList.{IsListStored, LeavesEither, size_of}
use Rattle.journal_format.specs.Spelling.{StoredGroup}
use Rattle.journal_format.specs.laws.Spelled.{sizes-push}
use Rattle.regions.specs.Layout.{areas_in, behind, block_at}
use Rattle.regions.specs.laws.Ring.{apart, behind_apart}
use Rattle.journal_format.specs.Faults as counts
use Rattle.checkpoint.specs.Faults.{of_journal}
use Rattle.checkpoint.specs.Keeper.{IsAppendFault, faults_by}
use Rattle.device_image.specs.Keeper.{KeeperState, PlanState, earlier_of, phase_of}
use Rattle.device_image.specs.Keeps.{AreHeld, IsCopyPlace, IsInPhase, Keeps}
use Rattle.device_image.specs.Stands.{StandsFor, last_area, next_number}
use Rattle.device_image.specs.laws.CheckpointBounds.{fronts_many}
use Rattle.device_image.specs.laws.Copied.{phase_on}
use Rattle.device_image.specs.laws.Frame.{fronts_of, held_kept, last_high, last_of, moved_list, others_in_use}
use Rattle.device_image.specs.laws.Kept.{first, in_area, stands_more, stands_same}
use Rattle.device_image.specs.laws.Lists.{KeepsLists}
use Rattle.image_model.specs.Change.{Change}
use Rattle.device_image.specs.Holds.{Holds, joined}
use Rattle.device_image.specs.laws.AfterCall.{holds_more}

module _ {D : Type 0} (keeper : KeeperState D) (state : State) (image : Image) (number : ℕ) (keeps : Keeps keeper state image number) where
  torn_same : (content : List ℕ) → MayLeaveTorn state keeper.memory.area.from keeper.memory.area.bytes content → (place : ℕ)
      → (InRange (last_of keeps.stands).from (last_of keeps.stands).bytes place → ⊥) → (IsCopyPlace keeps.stands.header keeps.areas.front place → ⊥) → slice_index content place ≡ slice_index state.seen place
  torn_same content others place outside none = others.same place (λ unsynced. none (keeps.unsynced place unsynced)) (λ within. outside (in_area keeper state image number keeps place within))

  -- the phase stays where all but the last area stays
  phase_more : (after : State) → ((place : ℕ) → (InRange keeper.memory.area.from keeper.memory.area.bytes place → ⊥) → slice_index after.seen place ≡ slice_index state.seen place) → IsAllSynced after
      → (plans : List PlanState) → keeper.memory.plans ≡ plans → IsInPhase plans state keeps.stands.header keeps.stands.states keeps.areas.front → IsInPhase plans after keeps.stands.header keeps.stands.states keeps.areas.front
  phase_more after same synced [] is phased = tt
  phase_more after same synced (plan ∷ plans) is phased =
      let header = keeps.stands.header in
      let many = fronts_many (areas_in header.geometry) header.before_last header.first_area header.geometry (next_number header.base) keeps.areas.front keeper.memory.plans state keeps.areas.earlier_held in
      let some : 0 < header.before_last = omega (arith, many, ap (λ (p : List PlanState). length p) is) in
      let other = behind_apart (areas_in header.geometry) 0 header.before_last header.first_area header.first_inside some header.few_areas in
      let in_last = in_area keeper state image number keeps in
      phase_on keeper state image number keeps after
      (λ place here. same place (λ within. apart header.geometry header.first_area (last_area header) place other here (in_last place within)))
      (λ place above. same place (λ within. let there = in_last place within in omega (arith, above, there.1, last_high header)))
      (λ all. synced) (plan ∷ plans) phased

  module _ (group : StoredGroup) where
    -- a crash while the group is added leaves the image without or with its commands
    pub leaves_either : (count : ℕ) (content : List ℕ) → count ≡ number + length group.changes
        → LeavesEither keeper.memory.area (first keeper state image number keeps) keeps.areas.groups group state content
        → StandsFor content image number ⊎ StandsFor content (apply_all group.changes image) count
    leaves_either count content count_is left = ⊎_elim
        (λ list. inl (stands_same keeper state image number keeps content left.others.size (torn_same content left.others) list))
        (λ list. inr (stands_more keeper state image number keeps content left.others.size (torn_same content left.others) group count count_is list))
        left.list

    -- once the group is added the keeper keeps the image with its commands
    pub keeps_more : {extent : ℕ} (after : State) (now : KeeperState D) (count : ℕ) → IsSound extent after → count ≡ number + length group.changes
        → IsListStored now.memory.area (first keeper state image number keeps) (keeps.areas.groups ++ group ∷ []) state after
        → now.memory.area.from ≡ keeper.memory.area.from → now.memory.area.bytes ≡ keeper.memory.area.bytes → now.memory.area.blocks ≡ keeper.memory.area.blocks
        → now.geometry ≡ keeper.geometry → now.generation ≡ keeper.generation → now.base ≡ keeper.base → now.phase ≡ keeper.phase → now.memory.header ≡ keeper.memory.header → now.memory.slot ≡ keeper.memory.slot → now.memory.map ≡ keeper.memory.map → now.memory.plans ≡ keeper.memory.plans
        → now.count ≡ count → now.used ≡ keeper.used + size_of group → now.failed ≡ keeper.failed
        → KeepsLists now after (apply_all group.changes image) count keeps.areas.front (keeps.areas.groups ++ group ∷ [])
    keeps_more after now count sound count_is stored from bytes blocks geometry generation base phase header slot map plan counted used failed =
        let placed = keeps.areas.placed in
        let others : MayLeaveTorn state keeper.memory.area.from keeper.memory.area.bytes after.seen = record {
          size = stored.others.size;
          bytes = stored.others.bytes;
          same = λ place synced outside. stored.others.same place synced (λ within. outside (omega (arith, within.0, from), omega (arith, within.1, from, bytes)));
        } in
        let list = moved_list now.memory.area keeper.memory.area _ _ after.seen from bytes blocks stored.held.list in
        record {
          keeps = record {
            works = failed ∙ keeps.works;
            steady = λ place loose. stored.synced place (sound.loose place loose);
            stands = stands_more keeper state image number keeps after.seen others.size (torn_same after.seen others) group count count_is list;
            sizes = geometry ∙ keeps.sizes;
            generation = generation ∙ keeps.generation;
            from_base = base ∙ keeps.from_base;
            headed = header ∙ keeps.headed;
            slotted = slot ∙ keeps.slotted;
            counted = counted;
            mapped = map ∙ keeps.mapped;
            areas = record {
              front = keeps.areas.front;
              groups = keeps.areas.groups ++ group ∷ [];
              are = refl;
              earlier_held = subst (λ (areas : List AreaState). AreHeld (fronts_of keeps.stands) keeps.stands.header.geometry (next_number keeps.stands.header.base) keeps.areas.front areas after) (ap earlier_of (sym plan))
                  (held_kept (fronts_of keeps.stands) (last_area keeps.stands.header) keeps.stands.header.geometry (next_number keeps.stands.header.base) keeps.areas.front
                  (earlier_of keeper.memory.plans) state after (others_in_use keeps.stands.header)
                  (λ place below outside. torn_same after.seen others place outside (λ copy. omega (arith, below, copy.inside.0)))
                  (λ place below unsynced. stored.synced place unsynced) keeps.areas.earlier_held);
              placed = record { from = from ∙ placed.from; bytes = bytes ∙ placed.bytes; blocks = blocks ∙ placed.blocks };
              held = stored.held;
            };
            taken = omega (arith, used, keeps.taken, sizes-push keeps.areas.groups group);
            phase = phase ∙ keeps.phase ∙ ap phase_of (sym plan);
            phased = subst (λ (p : List PlanState). IsInPhase p after keeps.stands.header keeps.stands.states keeps.areas.front) (sym plan)
                (phase_more after
                (λ place outside. stored.same place (λ within. outside (omega (arith, within.0, from), omega (arith, within.1, from, bytes))) (keeps.steady place))
                stored.synced keeper.memory.plans refl keeps.phased);
            unsynced = λ place unsynced. absurd (stored.synced place unsynced);
          };
          front_is = refl;
          groups_are = refl;
        }

    -- the data stay
    pub more_stay : (after : State) (now : KeeperState D) → IsListStored now.memory.area (first keeper state image number keeps) (keeps.areas.groups ++ group ∷ []) state after
        → now.memory.area.from ≡ keeper.memory.area.from → now.memory.area.bytes ≡ keeper.memory.area.bytes
        → (place : ℕ) → block_at keeps.stands.header.geometry 0 ≤ place → slice_index after.seen place ≡ slice_index state.seen place
    more_stay after now stored from bytes place above =
        stored.same place (λ within.
        let there = in_area keeper state image number keeps place (omega (arith, within.0, from), omega (arith, within.1, from, bytes)) in
        omega (arith, there.1, above, last_high keeps.stands.header))
        (keeps.steady place)

-- and what the keeper then holds
pub more_held : {D : Type 0} (keeper : KeeperState D) (state : State) (base : Image) (fronts : List (List Change)) (last : List Change) (holds : Holds keeper state base fronts last) (group : StoredGroup) {extent : ℕ} (after : State) (now : KeeperState D) (count : ℕ)
    → IsSound extent after → count ≡ keeper.base + length (joined fronts) + length last + length group.changes
    → IsListStored now.memory.area (first keeper state _ _ holds.keeps) (holds.keeps.areas.groups ++ group ∷ []) state after
    → now.memory.area.from ≡ keeper.memory.area.from → now.memory.area.bytes ≡ keeper.memory.area.bytes → now.memory.area.blocks ≡ keeper.memory.area.blocks
    → now.geometry ≡ keeper.geometry → now.generation ≡ keeper.generation → now.base ≡ keeper.base → now.phase ≡ keeper.phase → now.memory.header ≡ keeper.memory.header → now.memory.slot ≡ keeper.memory.slot → now.memory.map ≡ keeper.memory.map → now.memory.plans ≡ keeper.memory.plans
    → now.count ≡ count → now.used ≡ keeper.used + size_of group → now.failed ≡ keeper.failed
    → Holds now after base fronts (last ++ group.changes)
more_held keeper state base fronts last holds group after now count sound count_is stored from bytes blocks geometry generation base_is phase header slot map plan counted used failed =
    holds_more keeper state base fronts last holds now after group count
    (keeps_more keeper state _ _ holds.keeps group after now count sound count_is stored from bytes blocks geometry generation base_is phase header slot map plan counted used failed)
    count_is base_is geometry map
    (λ block offset small none. more_stay keeper state _ _ holds.keeps group after now stored from bytes (block_at holds.keeps.stands.header.geometry block + offset) (omega arith))

-- the number after the count is the next, where there is one
pub count_below : (next first count : ℕ) → next ≡ next_number count → first < 18446744073709551616 → first ≡ count + 1 → (1 ≤ next) × (first ≡ next)
count_below next first count is small same = (omega (arith, is), omega (arith, is))

pub count_above : (next first count : ℕ) → next ≡ next_number count → count < 18446744073709551616 → (1 ≤ next) × (first ≡ next) → first ≡ count + 1
count_above next first count is fits follows = omega (arith, is, follows.0, follows.1)

-- a number that isn't refused as out of order is the next one
pub is_next : (next first : ℕ) → (((1 ≤ next) × (first ≡ next) → ⊥) → ⊥) → (1 ≤ next) × (first ≡ next)
is_next next first follows = ⊎_elim
    (λ none. absurd (follows (λ both. omega (arith, none, both.0))))
    (λ some. ⊎_elim (λ same. (omega (arith, some), same)) (λ other. absurd (follows (λ both. other both.1))) (cases_eq first next))
    (cases_lt next 1)

-- the count that the keeper then reads off the next number
pub count_on : (next first added count number behind : ℕ) → next ≡ next_number count → count < 18446744073709551616 → (1 ≤ next) × (first ≡ next) → 1 ≤ added → first + added ≤ 18446744073709551616
    → behind ≡ (first + added) % 18446744073709551616 → count ≡ number → (behind + 18446744073709551615) % 18446744073709551616 ≡ number + added
count_on next first added count number behind is fits follows some numbers behind_is counted = omega (arith, follows.0, follows.1)

-- the journal's refusal of an order is the keeper's
pub ordered : (fault : JournalFault) → of_journal fault ≡ OutOfOrder → fault ≡ journals.OutOfOrder
ordered journals.NoMemory same = cc
ordered journals.DeviceFault same = cc
ordered journals.AreaFull same = cc
ordered journals.OutOfOrder same = refl
ordered journals.DamagedGroup same = cc

-- so is that of a full area
pub filled : (fault : JournalFault) → of_journal fault ≡ AreaFull → fault ≡ journals.AreaFull
filled journals.NoMemory same = cc
filled journals.DeviceFault same = cc
filled journals.AreaFull same = refl
filled journals.OutOfOrder same = cc
filled journals.DamagedGroup same = cc

-- and none of the journal's is that of a keeper that has failed
pub never_failed : (fault : JournalFault) → of_journal fault ≡ Failed → ⊥
never_failed journals.NoMemory same = cc
never_failed journals.DeviceFault same = cc
never_failed journals.AreaFull same = cc
never_failed journals.OutOfOrder same = cc
never_failed journals.DamagedGroup same = cc

-- what the journal refuses, but for a damaged group, a call of `append` may
pub allowed : (fault : JournalFault) → (fault ≡ journals.DamagedGroup → ⊥) → IsAppendFault (of_journal fault)
allowed journals.NoMemory undamaged = tt
allowed journals.DeviceFault undamaged = tt
allowed journals.AreaFull undamaged = tt
allowed journals.OutOfOrder undamaged = tt
allowed journals.DamagedGroup undamaged = undamaged refl

-- and it counts as many faults of the device
pub same_count : (fault : JournalFault) (faults : ℕ) → counts.faults_by fault faults ≡ faults_by (of_journal fault) faults
same_count journals.NoMemory faults = refl
same_count journals.DeviceFault faults = refl
same_count journals.AreaFull faults = refl
same_count journals.OutOfOrder faults = refl
same_count journals.DamagedGroup faults = refl
