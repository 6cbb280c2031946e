-- what the steps of a checkpoint make of the world and of its device
use Rattle.std.proofs.Common.{◌≡◌, ℕ, ◌+◌, ◌-◌, ◌↔◌, Bool, true, false, if◌then◌else◌, IsTrue, Option, Some, None, Result, Ok, Err, List, [], ◌∷◌, ◌++◌, length, take, sym, ◌∙◌, ap, subst, refl, arith}
use Rattle.std.proofs.lemmas.Bool.{eq-eqb, eqb-true}
use Rattle.std.specs.FinMap.{len}
use Rattle.checkpoint.specs.Keeper.{refused_by, faults_by}
use Rattle.checkpoint.specs.Steps.{IsCopyTime, IsFinishTime, IsMapTime, IsRotateTime, IsStepFault, behind_first, copied_by, fewer, finished_by, first_turned, left_in, mapped_by, phase_left, phase_with, rotated_by}
use Rattle.checkpoint.specs.declared.fault.KeeperFault.{KeeperFault}
use Rattle.checkpoint.specs.declared.fault.KeeperFault.TheVariants as fault
use Rattle.device_image.specs.Holds.{Holds}
use Rattle.device_image.specs.Keeper.{KeeperState, Phase, Copying}
use Rattle.device_image.specs.Keeps.{Keeps}
use Rattle.device_image.specs.Remembers.{Remembers}
use Rattle.device_image.specs.Stands.{StandsFor}
use Rattle.device_image.specs.laws.Counted.{remembers_still}
use Rattle.disk_model.specs.Disk.{State, LeavesOnly, IsSound, MayLeave}
use Rattle.disk_model.specs.Faults.{counted}
use Rattle.disk_model.specs.laws.Moments.{begins, ends, weakens}
use Rattle.image_model.specs.Layout.{areas_of}
use Rattle.image_model.specs.declared.geometry.Geometry.{Geometry}
use Rattle.image_model.specs.Change.{Change}
use Rattle.image_model.specs.Dirty.{dirty_blocks}
use Rattle.image_model.specs.Image.{Image, apply_all}
use Rattle.image_model.specs.laws.DirtyCounts.{dirty_count}
use Rattle.journal_format.specs.Group.{Numbered}
use Rattle.order_book.specs.Order.{OrderState, with_group}
use Rattle.export_steps.specs.inner.Steps.{IsAppended}
use Rattle.export_steps.specs.Parts.{IsDiskOf, IsKeeperOf, IsOrderOf, StandsAfter, fronts_at, fronts_of, last_commands, lefts_by, numbers_of, part, phase_at, turned_at}
use Rattle.export_steps.specs.inner.Storing.{hand_refused, order_refused, step_event, stopped_with}
use Rattle.export_steps.specs.laws.Lives.{IsOrdered, keeps_of, ordered, part_none, take_part, through_turned}
use Rattle.request_core.specs.laws.Commands.{apply_append}
use Rattle.export_steps.specs.laws.Orders.{order_puts_back, order_stops}
use Rattle.export_steps.proofs.StoringSteps.{not_true_is}
use Rattle.export_steps.proofs.CheckpointTimes.{copy_lefts, copy_phase, copy_sound, copy_whole, finish_lefts, finish_phase, finish_some, finish_sound, finish_whole, fronts_more, map_phase, map_sound, map_whole, numbers_length, numbers_more, rotate_lefts, rotate_phase, rotate_some, rotate_sound, rotate_whole, phase_by}
use Rattle.export_model.specs.Checkpoint.{can_copy, can_finish, can_map, can_rotate, finished, is_full, is_turned, last_turned, left_behind, rotated, to_copy}
use Rattle.export_model.specs.declared.event.Event.{Event}
use Rattle.export_model.specs.declared.event.Event.TheVariants.{Took, Skipped, Failed}
use Rattle.export_model.specs.declared.event.StepFault.TheVariants.{NoMemory, DeviceFault, NumbersFull, FailedBefore}
use Rattle.export_model.specs.Serve.{Failure, Nothing, OutOfMemory, DeviceFailure, held, logged, faulted, staged}
use Rattle.export_model.specs.Step.{copy_block, finish, in_time, out_of_memory, rotate, without_memory, write_map, written}
use Rattle.export_model.specs.World.{World, Stage, areas_at, image_after}
use Rattle.export_model.specs.Law.{IsRising, IsWithin}
use Rattle.export_model.specs.laws.Within.{last_of_more, rising_end, turned_through}

pub not_true : (b : Bool) → (b ≡ true → ⊥) → b ≡ false
not_true true none = absurd (none refl)
not_true false none = refl

pub not_false : (b : Bool) → (b ≡ false → ⊥) → b ≡ true
not_false true none = refl
not_false false none = absurd (none refl)

-- the order where the device has failed
pub order_stopped : (stage : Stage) (order : OrderState) (hand : Option Numbered) (failures : ℕ) → IsOrderOf stage order hand
    → IsOrderOf (record stage { sealed = stage.stored; stopped = true; faults = failures }) (stopped_with hand order) None
order_stopped stage order (Some group) failures of =
    order_stops (record stage { sealed = stage.stored }) (with_group order group) None failures (order_puts_back stage order group of)
order_stopped stage order None failures of =
    order_stops (record stage { sealed = stage.stored }) order None failures
    (subst (λ (n : ℕ). IsOrderOf (record stage { sealed = n }) order None) (let hand = of.hand in let same : stage.sealed ≡ stage.stored = omega (arith, hand) in same) of)

module _ {D : Type 0} (state : D → State) (faults extent : D → ℕ) (honest : D → Type 0) (sound : (disk : D) → honest disk → IsSound (extent disk) (state disk))
    (world : World) (order : OrderState) (hand : Option Numbered) (old : KeeperState D) (within : IsWithin world) (of : IsOrderOf world.stage order hand) (kept : IsKeeperOf world.stage old (faults old.disk)) where
  abbrev pub Leaves : World → Event → OrderState → Option Numbered → KeeperState D → Type 0
  Leaves next event o h new = IsAppended world next event o h old new (faults new.disk) (honest old.disk) (state old.disk) (state new.disk)

  -- whatever a crash may leave meanwhile stands for what the keeper kept
  abbrev pub Stays : KeeperState D → Type 0
  Stays new = honest old.disk → (image : Image) (number : ℕ) → Keeps old (state old.disk) image number → LeavesOnly (state old.disk) (state new.disk) (λ content. StandsFor content image number)

  -- nothing was asked of the device, and the step only leaves its event
  nothing_done : (event : Event) (new : KeeperState D) → new ≡ old → Leaves (logged world event) event order hand new
  nothing_done event new same =
      subst (Leaves (logged world event) event order hand) (sym same)
      (record {
        kept = record { connections = refl; log = refl; of_order = of; of_keeper = kept };
        disk = λ is_honest disk. (disk, begins (sound old.disk is_honest) disk.leaves);
      })

  crash_stays : (new : KeeperState D) → Stays new → honest old.disk → old.failed ≡ false → IsDiskOf world.stage old (state old.disk)
      → LeavesOnly (state old.disk) (state new.disk) (StandsAfter world.stage.order world.stage.setting.image world.stage.setting.opening world.stage.stored)
  crash_stays new stays is_honest works disk =
      weakens (stays is_honest (image_after world.stage.order world.stage.stored world.stage.setting.image) (world.stage.setting.opening + world.stage.stored)
      (keeps_of world.stage (ordered world within) old (faults old.disk) (state old.disk) kept (disk.holds (sym kept.failed ∙ works))))
      (λ content stands. record { count = world.stage.stored; reaches = omega arith; within = (ordered world within).stored; stands = stands })

  faulted_step : (new : KeeperState D) → old.failed ≡ false → new ≡ record old { disk = new.disk; failed = true } → faults new.disk ≡ counted (faults old.disk) → (honest old.disk → honest new.disk) → Stays new
      → Leaves (logged (faulted world) (Failed DeviceFault)) (Failed DeviceFault) (stopped_with hand order) None new
  faulted_step new works same level stays_honest stays = record {
    kept = record {
      connections = refl;
      log = refl;
      of_order = order_stopped world.stage order hand (counted world.stage.faults) of;
      of_keeper = subst (λ (k : KeeperState D). IsKeeperOf (faulted world).stage k (faults new.disk)) (sym same) (record {
        geometry = kept.geometry;
        count = kept.count;
        base = kept.base;
        turned = kept.turned;
        lefts = kept.lefts;
        generation = kept.generation;
        phase = kept.phase;
        used = kept.used;
        failed = refl;
        faults = level ∙ ap counted kept.faults;
        takes = kept.takes;
        remembers = remembers_still old (record old { disk = new.disk; failed = true }) _ refl refl kept.remembers;
      });
    };
    disk = λ is_honest disk.
        let leaves = crash_stays new stays is_honest works disk in
        (record { holds = λ going. absurd (never going); leaves = λ content left. ends leaves (sound new.disk (stays_honest is_honest)) content left }, leaves);
  }
    where
      never : true ≡ false → ⊥
      never is = cc

  -- the checkpoint comes to this
  module _ (base : ℕ) (turned : List ℕ) (left : ℕ) (mapped : Bool) (at generation : ℕ) where
    abbrev pub next_stage : Stage
    next_stage = record world.stage { base = base; turned = turned; left = left; mapped = mapped; at = at; generation = generation }

    order_turned : IsOrderOf next_stage order hand
    order_turned = record {
      opening = of.opening;
      durable = of.durable;
      sealed = of.sealed;
      mark = of.mark;
      behind = of.behind;
      hand = of.hand;
      first = of.first;
      some = of.some;
      bodies = of.bodies;
      dirty = of.dirty;
      frames = of.frames;
      blocks = of.blocks;
      area = of.area;
      stopped = of.stopped;
      fits = of.fits;
    }

    pub moved_on : (new : KeeperState D) → ((keeper : KeeperState D) (image : Image) (number : ℕ) (content : List ℕ) → Keeps keeper (state keeper.disk) image number → MayLeave (state keeper.disk) content → StandsFor content image number)
        → old.failed ≡ false → IsOrdered next_stage → IsKeeperOf next_stage new (faults new.disk) → Stays new
        → (honest old.disk → Holds old (state old.disk) (image_after world.stage.order world.stage.base world.stage.setting.image) (fronts_at world.stage) (last_commands world.stage)
        → Holds new (state new.disk) (image_after world.stage.order base world.stage.setting.image) (fronts_at next_stage) (last_commands next_stage))
        → Leaves (logged (staged world next_stage) Took) Took order hand new
    moved_on new crash works next_ordered next_kept stays holding = record {
      kept = record { connections = refl; log = refl; of_order = order_turned; of_keeper = next_kept };
      disk = λ is_honest disk.
          let holds = holding is_honest (disk.holds (sym kept.failed ∙ works)) in
          let keeps = keeps_of next_stage next_ordered new (faults new.disk) (state new.disk) next_kept holds in (
            record {
              holds = λ going. holds;
              leaves = λ content given. record {
                count = world.stage.stored;
                reaches = omega arith;
                within = (ordered world within).stored;
                stands = crash new (image_after world.stage.order world.stage.stored world.stage.setting.image) (world.stage.setting.opening + world.stage.stored) content keeps given;
              };
            },
            crash_stays new stays is_honest works disk,
          );
    }

  -- a step in its time, where it writes a header only where a generation is left
  abbrev pub told : KeeperFault → Result (Unit {0}) KeeperFault
  told refusal = Err refusal

  module _ (time brim : Bool) (inner : Failure → World) (Time : Type 0) (sound_time : time ≡ true → Time) (whole_time : Time → time ≡ true) where
    abbrev pub goes : Failure → World
    goes failure = in_time time world (if brim then logged world (Failed NumbersFull) else inner failure)

    stopped_is : (b : Bool) → old.failed ≡ b → world.stage.stopped ≡ b
    stopped_is b is = sym kept.failed ∙ is

    goes_working : (failure : Failure) → old.failed ≡ false → goes failure ≡ (if time then (if brim then logged world (Failed NumbersFull) else inner failure) else held world)
    goes_working failure works = ap (λ b. if b then logged world (Failed FailedBefore) else (if time then (if brim then logged world (Failed NumbersFull) else inner failure) else held world)) (stopped_is false works)

    goes_in_time : (failure : Failure) → old.failed ≡ false → time ≡ true → goes failure ≡ (if brim then logged world (Failed NumbersFull) else inner failure)
    goes_in_time failure works now = goes_working failure works ∙ ap (λ b. if b then (if brim then logged world (Failed NumbersFull) else inner failure) else held world) now

    goes_on : (failure : Failure) → old.failed ≡ false → time ≡ true → brim ≡ false → goes failure ≡ inner failure
    goes_on failure works now room = goes_in_time failure works now ∙ ap (λ b. if b then logged world (Failed NumbersFull) else inner failure) room

    pub step_done : (new : KeeperState D) → ((Time → ⊥) → ⊥) → (Time → brim ≡ true → ⊥) → old.failed ≡ false → (Time → Leaves (inner Nothing) Took order hand new)
        → (failure : Failure) × Leaves (goes failure) Took order hand new
    step_done new now room works done =
        let is_now = not_false time (λ late. now (λ here. absurd (both (sym late ∙ whole_time here)))) in
        let here = sound_time is_now in (
          Nothing,
          subst (λ (w : World). Leaves w Took order hand new) (sym (goes_on Nothing works is_now (not_true brim (room here)))) (done here),
        )
      where
        both : false ≡ true → ⊥
        both is = cc

    pub step_refused : (refusal : KeeperFault) (new : KeeperState D) → IsStepFault refusal → ((told refusal ≡ told fault.Failed) ↔ IsTrue old.failed)
        → ((told refusal ≡ told fault.NotNow) ↔ ((old.failed ≡ false) × (Time → ⊥)))
        → (told refusal ≡ told fault.NumbersFull → (old.failed ≡ false) × Time × (brim ≡ true)) → (old.failed ≡ false → Time → brim ≡ true → told refusal ≡ told fault.NumbersFull)
        → (refusal ≡ fault.NoMemory → inner OutOfMemory ≡ out_of_memory world) → inner DeviceFailure ≡ logged (faulted world) (Failed DeviceFault)
        → new ≡ refused_by refusal old new.disk → faults new.disk ≡ faults_by refusal (faults old.disk) → (honest old.disk → honest new.disk) → Stays new
        → (failure : Failure) × Leaves (goes failure) (step_event refusal) (order_refused refusal hand order) (hand_refused refusal hand) new
    step_refused fault.NoMemory new only failed not_now full fills memory device same level stays_honest stays =
        let works = not_true_is old.failed (λ is. unlike_failed (failed.1 is)) in
        let now = not_false time (λ late. unlike_late (not_now.1 (works, λ here. both (sym late ∙ whole_time here)))) in
        let room = not_true brim (λ is. unlike_full (fills works (sound_time now) is)) in (
          OutOfMemory,
          subst (λ (w : World). Leaves w (Failed NoMemory) order hand new) (sym (goes_on OutOfMemory works now room ∙ memory refl)) (nothing_done (Failed NoMemory) new same),
        )
      where
        both : false ≡ true → ⊥
        both is = cc

        unlike_failed : told fault.NoMemory ≡ told fault.Failed → ⊥
        unlike_failed is = cc

        unlike_late : told fault.NoMemory ≡ told fault.NotNow → ⊥
        unlike_late is = cc

        unlike_full : told fault.NoMemory ≡ told fault.NumbersFull → ⊥
        unlike_full is = cc
    step_refused fault.DeviceFault new only failed not_now full fills memory device same level stays_honest stays =
        let works = not_true_is old.failed (λ is. unlike_failed (failed.1 is)) in
        let now = not_false time (λ late. unlike_late (not_now.1 (works, λ here. both (sym late ∙ whole_time here)))) in
        let room = not_true brim (λ is. unlike_full (fills works (sound_time now) is)) in (
          DeviceFailure,
          subst (λ (w : World). Leaves w (Failed DeviceFault) (stopped_with hand order) None new) (sym (goes_on DeviceFailure works now room ∙ device)) (faulted_step new works same level stays_honest stays),
        )
      where
        both : false ≡ true → ⊥
        both is = cc

        unlike_failed : told fault.DeviceFault ≡ told fault.Failed → ⊥
        unlike_failed is = cc

        unlike_late : told fault.DeviceFault ≡ told fault.NotNow → ⊥
        unlike_late is = cc

        unlike_full : told fault.DeviceFault ≡ told fault.NumbersFull → ⊥
        unlike_full is = cc
    step_refused fault.BadMap new only failed not_now full fills memory device same level stays_honest stays = absurd only
    step_refused fault.NoHeader new only failed not_now full fills memory device same level stays_honest stays = absurd only
    step_refused fault.BadHeader new only failed not_now full fills memory device same level stays_honest stays = absurd only
    step_refused fault.NumbersFull new only failed not_now full fills memory device same level stays_honest stays =
        let is = full refl in (
          Nothing,
          subst (λ (w : World). Leaves w (Failed NumbersFull) order hand new)
              (sym (goes_in_time Nothing is.0 (whole_time is.1) ∙ ap (λ b. if b then logged world (Failed NumbersFull) else inner Nothing) is.2)) (nothing_done (Failed NumbersFull) new same),
        )
    step_refused fault.AreaFull new only failed not_now full fills memory device same level stays_honest stays = absurd only
    step_refused fault.OutOfOrder new only failed not_now full fills memory device same level stays_honest stays = absurd only
    step_refused fault.DamagedGroup new only failed not_now full fills memory device same level stays_honest stays = absurd only
    step_refused fault.AreaSmall new only failed not_now full fills memory device same level stays_honest stays = absurd only
    step_refused fault.NotNow new only failed not_now full fills memory device same level stays_honest stays =
        let is = not_now.0 refl in
        let late = not_true time (λ now. is.1 (sound_time now)) in (
          Nothing,
          subst (λ (w : World). Leaves w Skipped order hand new)
              (sym (goes_working Nothing is.0 ∙ ap (λ b. if b then (if brim then logged world (Failed NumbersFull) else inner Nothing) else held world) late)) (nothing_done Skipped new same),
        )
    step_refused fault.Failed new only failed not_now full fills memory device same level stays_honest stays = (
      Nothing,
      subst (λ (w : World). Leaves w (Failed FailedBefore) order hand new)
          (sym (ap (λ b. if b then logged world (Failed FailedBefore) else (if time then (if brim then logged world (Failed NumbersFull) else inner Nothing) else held world)) (stopped_is true (failed.0 refl))))
          (nothing_done (Failed FailedBefore) new same),
    )

  -- what holds of the phase that the world shows holds of the keeper's, and the other way round
  of_keeper_phase : (P : Phase → Type 0) → P old.phase → P (phase_at world.stage)
  of_keeper_phase P is = subst P kept.phase is

  to_keeper_phase : (P : Phase → Type 0) → P (phase_at world.stage) → P old.phase
  to_keeper_phase P is = subst P (sym kept.phase) is

  full_generation : is_full world.stage ≡ true → old.generation ≡ 18446744073709551615
  full_generation full = kept.generation ∙ eqb-true world.stage.generation 18446744073709551615 full

  generation_full : old.generation ≡ 18446744073709551615 → is_full world.stage ≡ true
  generation_full is = eq-eqb world.stage.generation 18446744073709551615 (sym kept.generation ∙ is)

  never_full : false ≡ true → ⊥
  never_full is = cc

  -- the times of the steps, by the keeper and by the world
  as_many : length old.turned ≡ length world.stage.turned
  as_many = ap length kept.turned ∙ numbers_length world.stage.setting.opening world.stage.turned

  rotate_here : can_rotate world.stage ≡ true → IsRotateTime old
  rotate_here now =
      let is = rotate_sound (areas_at world.stage) world.stage.turned world.stage.at world.stage.base world.stage.stored within.taken now in
      let few = is.0 in let some = is.1 in let used = kept.used in let areas = ap (λ (g : Geometry). areas_of g.layout) kept.geometry in
      (omega (arith, few, as_many, areas), omega (arith, some, used))

  rotate_there : IsRotateTime old → can_rotate world.stage ≡ true
  rotate_there now =
      let few = now.0 in let some = now.1 in let used = kept.used in let areas = ap (λ (g : Geometry). areas_of g.layout) kept.geometry in
      rotate_whole (areas_at world.stage) world.stage.turned world.stage.at world.stage.base world.stage.stored (ordered world within).turned within.taken (omega (arith, few, as_many, areas)) (omega (arith, some, used))

  copy_here : can_copy world.stage ≡ true → IsCopyTime old.phase
  copy_here now = to_keeper_phase IsCopyTime (copy_sound world.stage.turned world.stage.mapped world.stage.left now)

  copy_there : IsCopyTime old.phase → can_copy world.stage ≡ true
  copy_there now = copy_whole world.stage.turned world.stage.mapped world.stage.left (of_keeper_phase IsCopyTime now)

  map_here : can_map world.stage ≡ true → IsMapTime old.phase
  map_here now = to_keeper_phase IsMapTime (map_sound world.stage.turned world.stage.mapped world.stage.left now)

  map_there : IsMapTime old.phase → can_map world.stage ≡ true
  map_there now = map_whole world.stage.turned world.stage.mapped world.stage.left (of_keeper_phase IsMapTime now)

  finish_here : can_finish world.stage ≡ true → IsFinishTime old.phase
  finish_here now = to_keeper_phase IsFinishTime (finish_sound world.stage.turned world.stage.mapped world.stage.left now)

  finish_there : IsFinishTime old.phase → can_finish world.stage ≡ true
  finish_there now = finish_whole world.stage.turned world.stage.mapped world.stage.left (of_keeper_phase IsFinishTime now)

  abbrev pub CrashLaw : Type 0
  CrashLaw = (keeper : KeeperState D) (image : Image) (number : ℕ) (content : List ℕ) → Keeps keeper (state keeper.disk) image number → MayLeave (state keeper.disk) content → StandsFor content image number

  module _ (new : KeeperState D) (crash : CrashLaw) (works : old.failed ≡ false) (level : faults new.disk ≡ faults old.disk) (stays : Stays new) where
    -- another area comes into use
    module _ (same : new ≡ rotated_by old new.disk new.memory) (fresh : Remembers new [])
        (left : (commands : List Change) → Remembers old commands → new.lefts ≡ old.lefts ++ len (dirty_blocks 0 commands) ∷ [])
        (phase : (commands : List Change) → Remembers old commands → new.phase ≡ phase_with old.phase (len (dirty_blocks 0 commands)))
        (holding : honest old.disk → (base : Image) (fronts : List (List Change)) (last : List Change) → Holds old (state old.disk) base fronts last
        → Holds new (state new.disk) base (fronts ++ last ∷ []) []) where
      module _ (now : IsRotateTime old) where
        mapped_turned : world.stage.mapped ≡ true → is_turned world.stage.turned ≡ true
        mapped_turned is = (within.mapped is).0

        at_stored : last_turned world.stage.base (world.stage.turned ++ world.stage.stored ∷ []) ≡ world.stage.stored
        at_stored = last_of_more world.stage.base world.stage.turned world.stage.stored

        last_none : last_commands (rotated world.stage) ≡ []
        last_none = part_none world.stage.order (turned_at (rotated world.stage)) world.stage.stored at_stored

        abbrev copies : ℕ
        copies = to_copy (turned_at world.stage) world.stage.stored world.stage.order

        copies_are : len (dirty_blocks 0 (last_commands world.stage)) ≡ copies
        copies_are = dirty_count 0 (turned_at world.stage) (last_commands world.stage)

        abbrev left_next : ℕ
        left_next = if is_turned world.stage.turned then world.stage.left else to_copy world.stage.base world.stage.stored world.stage.order

        -- where no area stood before the last, what is left to copy is what that one has
        same_left : (turned : List ℕ) → (if is_turned turned then world.stage.left else to_copy (last_turned world.stage.base turned) world.stage.stored world.stage.order)
            ≡ (if is_turned turned then world.stage.left else to_copy world.stage.base world.stage.stored world.stage.order)
        same_left [] = refl
        same_left (first ∷ rest) = refl

        phase_is : new.phase ≡ phase_at (rotated world.stage)
        phase_is = phase (last_commands world.stage) kept.remembers ∙ ap (phase_with old.phase) copies_are ∙ ap (λ (p : Phase). phase_with p copies) kept.phase
            ∙ rotate_phase world.stage.turned world.stage.mapped world.stage.stored world.stage.left copies mapped_turned
            ∙ ap (λ (n : ℕ). phase_by (world.stage.turned ++ world.stage.stored ∷ []) world.stage.mapped n) (same_left world.stage.turned)

        lefts_are : new.lefts ≡ lefts_by world.stage.order left_next (world.stage.turned ++ world.stage.stored ∷ [])
        lefts_are = left (last_commands world.stage) kept.remembers ∙ ap (λ (n : ℕ). old.lefts ++ n ∷ []) copies_are ∙ ap (λ (l : List ℕ). l ++ copies ∷ []) kept.lefts
            ∙ rotate_lefts world.stage.order world.stage.left world.stage.base world.stage.turned world.stage.stored

        turned_are : new.turned ≡ numbers_of world.stage.setting.opening (world.stage.turned ++ world.stage.stored ∷ [])
        turned_are = ap (λ (k : KeeperState D). k.turned) same ∙ ap (λ (n : ℕ). old.turned ++ n ∷ []) kept.count ∙ ap (λ (l : List ℕ). l ++ (world.stage.setting.opening + world.stage.stored) ∷ []) kept.turned
            ∙ numbers_more world.stage.setting.opening world.stage.turned world.stage.stored

        kept_rotated : IsKeeperOf (rotated world.stage) new (faults new.disk)
        kept_rotated = record {
          geometry = ap (λ (k : KeeperState D). k.geometry) same ∙ kept.geometry;
          count = ap (λ (k : KeeperState D). k.count) same ∙ kept.count;
          base = ap (λ (k : KeeperState D). k.base) same ∙ kept.base;
          turned = turned_are;
          lefts = lefts_are;
          generation = ap (λ (k : KeeperState D). k.generation) same ∙ ap (λ (n : ℕ). n + 1) kept.generation;
          phase = phase_is;
          used = ap (λ (k : KeeperState D). k.used) same;
          failed = ap (λ (k : KeeperState D). k.failed) same ∙ kept.failed;
          faults = level ∙ kept.faults;
          takes = kept.takes;
          remembers = subst (Remembers new) (sym last_none) fresh;
        }

        ordered_rotated : IsOrdered (rotated world.stage)
        ordered_rotated =
            let base = (ordered world within).base in let turned = (ordered world within).turned in let some = now.1 in let used = kept.used in
            record {
              rising = rising_end world.stage.base world.stage.turned world.stage.stored
                  (rotate_some world.stage.turned world.stage.at world.stage.base world.stage.stored turned within.taken (omega (arith, some, used))) within.rising;
              base = omega (arith, base, turned, at_stored);
              turned = omega (arith, at_stored);
              stored = (ordered world within).stored;
            }

        rotated_leaves : Leaves (logged (staged world (rotated world.stage)) Took) Took order hand new
        rotated_leaves =
            let image = image_after world.stage.order world.stage.base world.stage.setting.image in
            moved_on world.stage.base (world.stage.turned ++ world.stage.stored ∷ []) left_next
            world.stage.mapped 0 (world.stage.generation + 1) new crash works ordered_rotated kept_rotated stays
            (λ is_honest holds.
            subst (λ (l : List Change). Holds new (state new.disk) image (fronts_at (rotated world.stage)) l) (sym last_none)
            (subst (λ (f : List (List Change)). Holds new (state new.disk) image f []) (fronts_more world.stage.order world.stage.base world.stage.turned world.stage.stored)
            (holding is_honest image (fronts_at world.stage) (last_commands world.stage) holds)))

      pub rotate_done : ((IsRotateTime old → ⊥) → ⊥) → (IsRotateTime old → old.generation ≡ 18446744073709551615 → ⊥) → (failure : Failure) × Leaves (rotate failure world) Took order hand new
      rotate_done now room =
          step_done (can_rotate world.stage) (is_full world.stage) (λ failure. written failure world (rotated world.stage)) (IsRotateTime old) rotate_here rotate_there
          new now (λ here full. room here (full_generation full)) works rotated_leaves

    -- blocks more are copied
    module _ (blocks : ℕ) (same : new ≡ copied_by old blocks new.disk new.memory) (remembered : (commands : List Change) → Remembers old commands → Remembers new commands)
        (holding : honest old.disk → (base : Image) (fronts : List (List Change)) (last : List Change) → Holds old (state old.disk) base fronts last → Holds new (state new.disk) base fronts last) where
      pub copied_leaves : IsCopyTime old.phase → Leaves (logged (staged world (record world.stage { left = world.stage.left - blocks })) Took) Took order hand new
      copied_leaves now =
          let here = of_keeper_phase IsCopyTime now in
          moved_on world.stage.base world.stage.turned (world.stage.left - blocks) world.stage.mapped world.stage.at world.stage.generation new crash works (let is = ordered world within in record { rising = is.rising; base = is.base; turned = is.turned; stored = is.stored })
          (record {
            geometry = ap (λ (k : KeeperState D). k.geometry) same ∙ kept.geometry;
            count = ap (λ (k : KeeperState D). k.count) same ∙ kept.count;
            base = ap (λ (k : KeeperState D). k.base) same ∙ kept.base;
            turned = ap (λ (k : KeeperState D). k.turned) same ∙ kept.turned;
            lefts = ap (λ (k : KeeperState D). k.lefts) same ∙ ap (fewer blocks) kept.lefts ∙ copy_lefts world.stage.order world.stage.turned world.stage.left blocks;
            generation = ap (λ (k : KeeperState D). k.generation) same ∙ kept.generation;
            phase = ap (λ (k : KeeperState D). k.phase) same ∙ ap (λ (p : Phase). Copying (left_in p - blocks)) kept.phase ∙ copy_phase world.stage.turned world.stage.mapped world.stage.left blocks here;
            used = ap (λ (k : KeeperState D). k.used) same ∙ kept.used;
            failed = ap (λ (k : KeeperState D). k.failed) same ∙ kept.failed;
            faults = level ∙ kept.faults;
            takes = kept.takes;
            remembers = remembered (last_commands world.stage) kept.remembers;
          })
          stays (λ is_honest. holding is_honest (image_after world.stage.order world.stage.base world.stage.setting.image) (fronts_at world.stage) (last_commands world.stage))

    -- one block more is copied
    module _ (same : new ≡ copied_by old 1 new.disk new.memory) (remembered : (commands : List Change) → Remembers old commands → Remembers new commands)
        (holding : honest old.disk → (base : Image) (fronts : List (List Change)) (last : List Change) → Holds old (state old.disk) base fronts last → Holds new (state new.disk) base fronts last) where
      pub copy_done : ((IsCopyTime old.phase → ⊥) → ⊥) → (failure : Failure) × Leaves (copy_block failure world) Took order hand new
      copy_done now =
          step_done (can_copy world.stage) false (λ failure. written failure world (record world.stage { left = world.stage.left - 1 })) (IsCopyTime old.phase) copy_here copy_there
          new now (λ here. never_full) works (copied_leaves 1 same remembered holding)

    -- the map is written
    module _ (same : new ≡ mapped_by old new.disk new.memory) (remembered : (commands : List Change) → Remembers old commands → Remembers new commands)
        (holding : honest old.disk → (base : Image) (fronts : List (List Change)) (last : List Change) → Holds old (state old.disk) base fronts last → Holds new (state new.disk) base fronts last) where
      mapped_leaves : IsMapTime old.phase → Leaves (logged (staged world (record world.stage { mapped = true })) Took) Took order hand new
      mapped_leaves now =
          let here = of_keeper_phase IsMapTime now in
          moved_on world.stage.base world.stage.turned world.stage.left true world.stage.at world.stage.generation new crash works (let is = ordered world within in record { rising = is.rising; base = is.base; turned = is.turned; stored = is.stored })
          (record {
            geometry = ap (λ (k : KeeperState D). k.geometry) same ∙ kept.geometry;
            count = ap (λ (k : KeeperState D). k.count) same ∙ kept.count;
            base = ap (λ (k : KeeperState D). k.base) same ∙ kept.base;
            turned = ap (λ (k : KeeperState D). k.turned) same ∙ kept.turned;
            lefts = ap (λ (k : KeeperState D). k.lefts) same ∙ kept.lefts;
            generation = ap (λ (k : KeeperState D). k.generation) same ∙ kept.generation;
            phase = ap (λ (k : KeeperState D). k.phase) same ∙ map_phase world.stage.turned world.stage.mapped world.stage.left here;
            used = ap (λ (k : KeeperState D). k.used) same ∙ kept.used;
            failed = ap (λ (k : KeeperState D). k.failed) same ∙ kept.failed;
            faults = level ∙ kept.faults;
            takes = kept.takes;
            remembers = remembered (last_commands world.stage) kept.remembers;
          })
          stays (λ is_honest. holding is_honest (image_after world.stage.order world.stage.base world.stage.setting.image) (fronts_at world.stage) (last_commands world.stage))

      pub map_done : ((IsMapTime old.phase → ⊥) → ⊥) → (failure : Failure) × Leaves (write_map failure world) Took order hand new
      map_done now =
          step_done (can_map world.stage) false (λ failure. written failure world (record world.stage { mapped = true })) (IsMapTime old.phase) map_here map_there
          new now (λ here. never_full) works mapped_leaves

    -- the first area is no longer in use
    module _ (same : new ≡ finished_by old new.disk new.memory) (remembered : (commands : List Change) → Remembers old commands → Remembers new commands)
        (holding : honest old.disk → (base : Image) (first : List Change) (others : List (List Change)) (last : List Change) → Holds old (state old.disk) base (first ∷ others) last
        → Holds new (state new.disk) (apply_all first base) others last) where
      module _ (first : ℕ) (rest : List ℕ) (some : world.stage.turned ≡ first ∷ rest) where
        rising_first : IsRising world.stage.base (first ∷ rest) world.stage.stored
        rising_first = subst (λ (t : List ℕ). IsRising world.stage.base t world.stage.stored) some within.rising

        image_is : image_after world.stage.order first world.stage.setting.image
            ≡ apply_all (part world.stage.order world.stage.base first) (image_after world.stage.order world.stage.base world.stage.setting.image)
        image_is =
            let below = rising_first.0 in
            ap (λ (l : List Change). apply_all l world.stage.setting.image) (take_part world.stage.order world.stage.base first (omega (arith, below)))
            ∙ apply_append (take world.stage.base world.stage.order) (part world.stage.order world.stage.base first) world.stage.setting.image

        last_is : part world.stage.order (last_turned first rest) world.stage.stored ≡ last_commands world.stage
        last_is = ap (λ (t : List ℕ). part world.stage.order (last_turned world.stage.base t) world.stage.stored) (sym some)

        ends_are : old.turned ≡ (world.stage.setting.opening + first) ∷ numbers_of world.stage.setting.opening rest
        ends_are = kept.turned ∙ ap (numbers_of world.stage.setting.opening) some

        finished_first : Leaves (logged (staged world (finished world.stage (first ∷ rest))) Took) Took order hand new
        finished_first =
            let is = ordered world within in
            let lefts_are = kept.lefts ∙ ap (lefts_by world.stage.order world.stage.left) some in
            moved_on first rest (left_behind first rest world.stage.order) false world.stage.at (world.stage.generation + 1) new crash works
            (record {
              rising = rising_first.1;
              base = through_turned first rest world.stage.stored rising_first.1;
              turned = turned_through first rest world.stage.stored rising_first.1;
              stored = is.stored;
            })
            (record {
              geometry = ap (λ (k : KeeperState D). k.geometry) same ∙ kept.geometry;
              count = ap (λ (k : KeeperState D). k.count) same ∙ kept.count;
              base = ap (λ (k : KeeperState D). k.base) same ∙ ap (first_turned old.base) ends_are;
              turned = ap (λ (k : KeeperState D). k.turned) same ∙ ap behind_first ends_are;
              lefts = ap (λ (k : KeeperState D). k.lefts) same ∙ ap behind_first lefts_are ∙ finish_lefts world.stage.order first rest;
              generation = ap (λ (k : KeeperState D). k.generation) same ∙ ap (λ (n : ℕ). n + 1) kept.generation;
              phase = ap (λ (k : KeeperState D). k.phase) same ∙ ap (λ (l : List ℕ). phase_left (behind_first l)) lefts_are ∙ finish_phase world.stage.order first rest;
              used = ap (λ (k : KeeperState D). k.used) same ∙ kept.used;
              failed = ap (λ (k : KeeperState D). k.failed) same ∙ kept.failed;
              faults = level ∙ kept.faults;
              takes = kept.takes;
              remembers = subst (Remembers new) (sym last_is) (remembered (last_commands world.stage) kept.remembers);
            })
            stays
            (λ is_honest holds.
            subst (λ (l : List Change). Holds new (state new.disk) (image_after world.stage.order first world.stage.setting.image) (fronts_of world.stage.order first rest) l) (sym last_is)
            (subst (λ (i : Image). Holds new (state new.disk) i (fronts_of world.stage.order first rest) (last_commands world.stage)) (sym image_is)
            (holding is_honest (image_after world.stage.order world.stage.base world.stage.setting.image) (part world.stage.order world.stage.base first) (fronts_of world.stage.order first rest) (last_commands world.stage)
            (subst (λ (t : List ℕ). Holds old (state old.disk) (image_after world.stage.order world.stage.base world.stage.setting.image) (fronts_of world.stage.order world.stage.base t) (last_commands world.stage)) some holds))))

      finished_leaves : IsFinishTime old.phase → Leaves (logged (staged world (finished world.stage world.stage.turned)) Took) Took order hand new
      finished_leaves now =
          let is = finish_some world.stage.turned world.stage.mapped world.stage.left (of_keeper_phase IsFinishTime now) in
          subst (λ (t : List ℕ). Leaves (logged (staged world (finished world.stage t)) Took) Took order hand new) (sym is.2) (finished_first is.0 is.1 is.2)

      pub finish_done : ((IsFinishTime old.phase → ⊥) → ⊥) → (IsFinishTime old.phase → old.generation ≡ 18446744073709551615 → ⊥) → (failure : Failure) × Leaves (finish failure world) Took order hand new
      finish_done now room =
          step_done (can_finish world.stage) (is_full world.stage) (λ failure. written (without_memory failure) world (finished world.stage world.stage.turned)) (IsFinishTime old.phase) finish_here finish_there
          new now (λ here full. room here (full_generation full)) works finished_leaves

  -- refusals
  module _ (refusal : KeeperFault) (new : KeeperState D) (only : IsStepFault refusal) (failed : (told refusal ≡ told fault.Failed) ↔ IsTrue old.failed)
      (same : new ≡ refused_by refusal old new.disk) (level : faults new.disk ≡ faults_by refusal (faults old.disk)) (stays_honest : honest old.disk → honest new.disk) (stays : Stays new) where
    abbrev Refused : (Failure → World) → Type 0
    Refused step = (failure : Failure) × Leaves (step failure) (step_event refusal) (order_refused refusal hand order) (hand_refused refusal hand) new

    abbrev OnlyIn : Type 0 → Type 0
    OnlyIn Time = (told refusal ≡ told fault.NotNow) ↔ ((old.failed ≡ false) × (Time → ⊥))

    abbrev OnlyFull : Type 0 → Type 0
    OnlyFull Time = (told refusal ≡ told fault.NumbersFull) ↔ ((old.failed ≡ false) × Time × (old.generation ≡ 18446744073709551615))

    pub rotate_refused : OnlyIn (IsRotateTime old) → OnlyFull (IsRotateTime old) → Refused (λ failure. rotate failure world)
    rotate_refused not_now full =
        step_refused (can_rotate world.stage) (is_full world.stage) (λ failure. written failure world (rotated world.stage)) (IsRotateTime old) rotate_here rotate_there
        refusal new only failed not_now
        (λ is. let due = full.0 is in (due.0, due.1, generation_full due.2)) (λ works now is. full.1 (works, now, full_generation is))
        (λ memory. refl) refl same level stays_honest stays

    pub copy_refused : OnlyIn (IsCopyTime old.phase) → (told refusal ≡ told fault.NumbersFull → ⊥) → Refused (λ failure. copy_block failure world)
    copy_refused not_now not_full =
        step_refused (can_copy world.stage) false (λ failure. written failure world (record world.stage { left = world.stage.left - 1 })) (IsCopyTime old.phase) copy_here copy_there
        refusal new only failed not_now (λ is. absurd (not_full is)) (λ works now is. absurd (never_full is))
        (λ memory. refl) refl same level stays_honest stays

    pub map_refused : OnlyIn (IsMapTime old.phase) → (told refusal ≡ told fault.NumbersFull → ⊥) → Refused (λ failure. write_map failure world)
    map_refused not_now not_full =
        step_refused (can_map world.stage) false (λ failure. written failure world (record world.stage { mapped = true })) (IsMapTime old.phase) map_here map_there
        refusal new only failed not_now (λ is. absurd (not_full is)) (λ works now is. absurd (never_full is))
        (λ memory. refl) refl same level stays_honest stays

    pub finish_refused : OnlyIn (IsFinishTime old.phase) → OnlyFull (IsFinishTime old.phase) → (told refusal ≡ told fault.NoMemory → ⊥) → Refused (λ failure. finish failure world)
    finish_refused not_now full no_memory =
        step_refused (can_finish world.stage) (is_full world.stage) (λ failure. written (without_memory failure) world (finished world.stage world.stage.turned)) (IsFinishTime old.phase) finish_here finish_there
        refusal new only failed not_now
        (λ is. let due = full.0 is in (due.0, due.1, generation_full due.2)) (λ works now is. full.1 (works, now, full_generation is))
        (λ memory. absurd (no_memory (ap told memory))) refl same level stays_honest stays

  -- the same of an event, an order and a hand that are those
  pub as_told : (refusal : KeeperFault) (new : KeeperState D) (next : World) (event : Event) (o : OrderState) (h : Option Numbered) → event ≡ step_event refusal → o ≡ order_refused refusal hand order → h ≡ hand_refused refusal hand
      → Leaves next (step_event refusal) (order_refused refusal hand order) (hand_refused refusal hand) new → Leaves next event o h new
  as_told refusal new next event o h event_is order_is hand_is leaves =
      subst (λ (e : Event). Leaves next e o h new) (sym event_is)
      (subst (λ (b : OrderState). Leaves next (step_event refusal) b h new) (sym order_is)
      (subst (λ (g : Option Numbered). Leaves next (step_event refusal) (order_refused refusal hand order) g new) (sym hand_is) leaves))

pub ok_unlike : (done : Unit {0}) (refusal : KeeperFault) → let said : Result (Unit {0}) KeeperFault = Ok done in said ≡ Err refusal → ⊥
ok_unlike done refusal is = cc

pub count_unlike : (count : ℕ) (refusal : KeeperFault) → let said : Result ℕ KeeperFault = Ok count in said ≡ Err refusal → ⊥
count_unlike count refusal is = cc
