-- what the keeper's answer to a group makes of the world and of its device
use Rattle.std.proofs.Common.{◌≡◌, ◌≢◌, ◌⊎◌, inl, inr, ℕ, ◌+◌, ◌<◌, ◌≤◌, ◌↔◌, true, false, IsTrue, Option, Some, None, List, length, map, sym, ◌∙◌, subst, refl, arith, ◌++◌}
use Rattle.std.proofs.lemmas.Bool.{cases_lt}
use Rattle.device_image.specs.Keeper.{KeeperState}
use Rattle.checkpoint.specs.Keeper.{end_after, grown_by, refused_by, faults_by, IsAppendFault}
use Rattle.device_image.specs.Keeps.{Keeps}
use Rattle.device_image.specs.Stands.{StandsFor}
use Rattle.checkpoint.specs.declared.fault.KeeperFault.{KeeperFault}
use Rattle.checkpoint.specs.declared.fault.KeeperFault.TheVariants as fault
use Rattle.disk_model.specs.Disk.{State, LeavesOnly, IsSound, MayLeave}
use Rattle.disk_model.specs.Faults.{counted}
use Rattle.disk_model.specs.laws.Moments.{begins, ends, weakens}
use Rattle.image_model.specs.Change.{AreChanges, change_of, Change}
use Rattle.image_model.specs.Image.{Image, apply_all}
use Rattle.journal_format.specs.Group.{Numbered}
use Rattle.regions.specs.Layout.{area_size}
use Rattle.order_book.specs.Order.{OrderState, with_group}
use Rattle.export_steps.specs.inner.Steps.{IsAppended}
use Rattle.export_steps.specs.Parts.{IsDiskOf, IsKeeperOf, IsOrderOf, StandsAfter, fronts_at, last_commands, turned_at}
use Rattle.export_steps.specs.inner.Storing.{IsKept, event_of, hand_after, order_after}
use Rattle.export_steps.specs.laws.Lives.{either_stands, group_takes, IsOrdered, keeps_of, last_grows, ordered}
use Rattle.export_steps.proofs.StoringSteps.{goes_failed, goes_full, goes_none, goes_on_to, kept_back, kept_faulted, kept_held, kept_out_of_memory, kept_stored, not_true_is}
use Rattle.export_model.specs.declared.event.Event.{Event}
use Rattle.export_model.specs.declared.event.Event.TheVariants.{Took, Skipped, Failed}
use Rattle.export_model.specs.declared.event.StepFault.TheVariants.{NoMemory, DeviceFault, FailedBefore}
use Rattle.export_model.specs.Serve.{Failure, Nothing, OutOfMemory, DeviceFailure, held, logged, faulted}
use Rattle.export_model.specs.Step.{append, put_back, out_of_memory, stored_more}
use Rattle.export_model.specs.World.{World, image_after}
use Rattle.export_model.specs.Law.{IsWithin}
use Rattle.export_model.specs.laws.Within.{rising_more}
use Rattle.device_image.specs.Holds.{Holds}
use Rattle.device_image.specs.Remembers.{Remembers}

module _ {D : Type 0} (state : D → State) (faults extent : D → ℕ) (honest : D → Type 0) (sound : (disk : D) → honest disk → IsSound (extent disk) (state disk)) where
  -- nothing was asked of the device
  same_disk : (world next : World) (event : Event) (order : OrderState) (group : Option Numbered) (old new : KeeperState D) → new ≡ old
      → (IsDiskOf world.stage old (state old.disk) → IsDiskOf next.stage old (state old.disk))
      → IsKept world next event order group old (faults old.disk)
      → IsAppended world next event order group old new (faults new.disk) (honest old.disk) (state old.disk) (state new.disk)
  same_disk world next event order group old new same here kept =
      subst (λ (k : KeeperState D). IsAppended world next event order group old k (faults k.disk) (honest old.disk) (state old.disk) (state k.disk)) (sym same)
      (record { kept = kept; disk = λ is_honest disk. (here disk, begins (sound old.disk is_honest) disk.leaves) })

  pub appended_none : (world : World) (order : OrderState) (old : KeeperState D) → IsOrderOf world.stage order None → IsKeeperOf world.stage old (faults old.disk)
      → IsAppended world (append Nothing world) Skipped order None old old (faults old.disk) (honest old.disk) (state old.disk) (state old.disk)
  appended_none world order old of kept =
      goes_none world old (faults old.disk) kept order (λ next. IsAppended world next Skipped order None old old (faults old.disk) (honest old.disk) (state old.disk) (state old.disk)) of
      (same_disk world (held world) Skipped order None old old refl (λ disk. disk) (kept_held world old (faults old.disk) kept order None of))

  module _ (world : World) (order : OrderState) (group : Numbered) (old : KeeperState D) (within : IsWithin world)
      (of : IsOrderOf world.stage order (Some group)) (kept : IsKeeperOf world.stage old (faults old.disk)) where
    put_back_here : (event : Event) → IsDiskOf world.stage old (state old.disk) → IsDiskOf (logged (put_back world) event).stage old (state old.disk)
    put_back_here event disk = record { holds = disk.holds; leaves = disk.leaves }

    pub appended_failed : (new : KeeperState D) → old.failed ≡ true → new ≡ old
        → IsAppended world (append Nothing world) (Failed FailedBefore) (with_group order group) None old new (faults new.disk) (honest old.disk) (state old.disk) (state new.disk)
    appended_failed new failed same =
        goes_failed world old (faults old.disk) kept order group of
        (λ next. IsAppended world next (Failed FailedBefore) (with_group order group) None old new (faults new.disk) (honest old.disk) (state old.disk) (state new.disk)) failed
        (same_disk world (logged (put_back world) (Failed FailedBefore)) (Failed FailedBefore) (with_group order group) None old new same (put_back_here (Failed FailedBefore))
        (kept_back world old (faults old.disk) kept order group of (Failed FailedBefore)))

    pub appended_full : (new : KeeperState D) → old.failed ≡ false → area_size old.geometry < end_after old group → new ≡ old
        → IsAppended world (append Nothing world) Skipped (with_group order group) None old new (faults new.disk) (honest old.disk) (state old.disk) (state new.disk)
    appended_full new failed full same =
        goes_full world old (faults old.disk) kept order group of
        (λ next. IsAppended world next Skipped (with_group order group) None old new (faults new.disk) (honest old.disk) (state old.disk) (state new.disk)) failed full
        (same_disk world (held (put_back world)) Skipped (with_group order group) None old new same (put_back_here Skipped)
        (kept_back world old (faults old.disk) kept order group of Skipped))

    pub appended_out_of_memory : (new : KeeperState D) → old.failed ≡ false → end_after old group ≤ area_size old.geometry → new ≡ old
        → IsAppended world (append OutOfMemory world) (Failed NoMemory) order (Some group) old new (faults new.disk) (honest old.disk) (state old.disk) (state new.disk)
    appended_out_of_memory new failed fit same =
        goes_on_to world old (faults old.disk) kept order group of OutOfMemory
        (λ next. IsAppended world next (Failed NoMemory) order (Some group) old new (faults new.disk) (honest old.disk) (state old.disk) (state new.disk)) failed fit
        (same_disk world (out_of_memory world) (Failed NoMemory) order (Some group) old new same (λ disk. disk)
        (kept_out_of_memory world old (faults old.disk) kept order (Some group) of))

    -- every crash while the group was stored leaves what reaches all that was stored before
    chain : (new : KeeperState D) → IsOrderOf world.stage order (Some group)
        → ((image : Image) (number : ℕ) → Keeps old (state old.disk) image number → AreChanges old.geometry.blocks (map change_of group.commands)
        → LeavesOnly (state old.disk) (state new.disk) (λ content. StandsFor content image number
        ⊎ StandsFor content (apply_all (map change_of group.commands) image) (number + length group.commands)))
        → old.failed ≡ false → IsDiskOf world.stage old (state old.disk)
        → LeavesOnly (state old.disk) (state new.disk) (StandsAfter world.stage.order world.stage.setting.image world.stage.setting.opening world.stage.stored)
    chain new of any failed disk =
        weakens (any (image_after world.stage.order world.stage.stored world.stage.setting.image) (world.stage.setting.opening + world.stage.stored) (keeps_of world.stage (ordered world within) old (faults old.disk) (state old.disk) kept (disk.holds (sym kept.failed ∙ failed))) (group_takes world.stage order group of within.sealed old (faults old.disk) kept))
        (either_stands world.stage order group of within.sealed)

    pub appended_faulted : (new : KeeperState D) → old.failed ≡ false → end_after old group ≤ area_size old.geometry → new ≡ record old { disk = new.disk; failed = true }
        → faults new.disk ≡ counted (faults old.disk) → (honest old.disk → honest new.disk)
        → (honest old.disk → (image : Image) (number : ℕ) → Keeps old (state old.disk) image number → AreChanges old.geometry.blocks (map change_of group.commands)
        → LeavesOnly (state old.disk) (state new.disk) (λ content. StandsFor content image number
        ⊎ StandsFor content (apply_all (map change_of group.commands) image) (number + length group.commands)))
        → IsAppended world (append DeviceFailure world) (Failed DeviceFault) (record (with_group order group) { stopped = true }) None old new (faults new.disk) (honest old.disk) (state old.disk) (state new.disk)
    appended_faulted new failed fit same level stays_honest any =
        goes_on_to world old (faults old.disk) kept order group of DeviceFailure
        (λ next. IsAppended world next (Failed DeviceFault) (record (with_group order group) { stopped = true }) None old new (faults new.disk) (honest old.disk) (state old.disk) (state new.disk)) failed fit
        (record {
          kept = subst (λ (k : KeeperState D). IsKept world (logged (faulted world) (Failed DeviceFault)) (Failed DeviceFault) (record (with_group order group) { stopped = true }) None k (faults new.disk)) (sym same)
              (subst (λ (n : ℕ). IsKept world (logged (faulted world) (Failed DeviceFault)) (Failed DeviceFault) (record (with_group order group) { stopped = true }) None (record old { disk = new.disk; failed = true }) n) (sym level)
              (kept_faulted world old (faults old.disk) kept order group of new.disk));
          disk = λ is_honest disk.
              let leaves = chain new of (any is_honest) failed disk in
              (record { holds = λ works. absurd (works_unlike works); leaves = λ content left. ends leaves (sound new.disk (stays_honest is_honest)) content left }, leaves);
        })
      where
        works_unlike : true ≡ false → ⊥
        works_unlike is = cc

    pub appended : (new : KeeperState D)
        → ((keeper : KeeperState D) (image : Image) (number : ℕ) (content : List ℕ) → Keeps keeper (state keeper.disk) image number → MayLeave (state keeper.disk) content → StandsFor content image number)
        → old.failed ≡ false → end_after old group ≤ area_size old.geometry → new ≡ grown_by old group new.disk new.memory
        → faults new.disk ≡ faults old.disk → (honest old.disk → honest new.disk)
        → ((commands : List Change) → Remembers old commands → AreChanges old.geometry.blocks (map change_of group.commands) → Remembers new (commands ++ map change_of group.commands))
        → (honest old.disk → (base : Image) (fronts : List (List Change)) (last : List Change) → Holds old (state old.disk) base fronts last → AreChanges old.geometry.blocks (map change_of group.commands)
        → Holds new (state new.disk) base fronts (last ++ map change_of group.commands))
        → (honest old.disk → (image : Image) (number : ℕ) → Keeps old (state old.disk) image number → AreChanges old.geometry.blocks (map change_of group.commands)
        → LeavesOnly (state old.disk) (state new.disk) (λ content. StandsFor content image number
        ⊎ StandsFor content (apply_all (map change_of group.commands) image) (number + length group.commands)))
        → IsAppended world (append Nothing world) Took order None old new (faults new.disk) (honest old.disk) (state old.disk) (state new.disk)
    appended new crash failed fit same level stays_honest remembered held any =
        goes_on_to world old (faults old.disk) kept order group of Nothing
        (λ next. IsAppended world next Took order None old new (faults new.disk) (honest old.disk) (state old.disk) (state new.disk)) failed fit
        (record {
          kept = kept_next;
          disk = λ is_honest disk.
              let holds = subst (λ (l : List Change). Holds new (state new.disk) (image_after world.stage.order world.stage.base world.stage.setting.image) (fronts_at world.stage) l)
              (sym (last_grows world.stage order group of within.sealed behind))
              (held is_honest (image_after world.stage.order world.stage.base world.stage.setting.image) (fronts_at world.stage) (last_commands world.stage) (disk.holds (sym kept.failed ∙ failed)) takes) in
              let keeps = keeps_of (stored_more Nothing world).stage next_ordered new (faults new.disk) (state new.disk) kept_next.of_keeper holds in (
                record {
                  holds = λ still. holds;
                  leaves = λ content left. record {
                    count = world.stage.sealed;
                    reaches = omega arith;
                    within = within.sealed;
                    stands = crash new (image_after world.stage.order world.stage.sealed world.stage.setting.image) (world.stage.setting.opening + world.stage.sealed) content keeps left;
                  };
                },
                chain new of (any is_honest) failed disk,
              );
        })
      where
        takes : AreChanges old.geometry.blocks (map change_of group.commands)
        takes = group_takes world.stage order group of within.sealed old (faults old.disk) kept

        behind : turned_at world.stage ≤ world.stage.stored
        behind = (ordered world within).turned

        next_ordered : IsOrdered (stored_more Nothing world).stage
        next_ordered =
            let hand = of.hand in
            record {
              rising = rising_more world.stage.base world.stage.turned world.stage.stored world.stage.sealed within.stored within.rising;
              base = (ordered world within).base;
              turned = omega (arith, behind, hand);
              stored = within.sealed;
            }

        kept_next : IsKept world (stored_more Nothing world) Took order None new (faults new.disk)
        kept_next =
            subst (λ (k : KeeperState D). IsKept world (stored_more Nothing world) Took order None k (faults new.disk)) (sym same)
            (subst (λ (n : ℕ). IsKept world (stored_more Nothing world) Took order None (grown_by old group new.disk new.memory) n) (sym level)
            (kept_stored world old (faults old.disk) kept order group of new.disk new.memory behind within.sealed
            (subst (λ (k : KeeperState D). Remembers k (last_commands world.stage ++ map change_of group.commands)) same
            (remembered (last_commands world.stage) kept.remembers takes))))

    -- any refusal
    pub appended_refused : (refusal : KeeperFault) (new : KeeperState D) → IsAppendFault refusal
        → ((refusal ≡ fault.Failed) ↔ IsTrue old.failed)
        → ((refusal ≡ fault.AreaFull) ↔ ((old.failed ≡ false) × (area_size old.geometry < end_after old group)))
        → ((refusal ≡ fault.OutOfOrder) ↔ ((old.failed ≡ false) × (end_after old group ≤ area_size old.geometry) × (group.first ≢ old.count + 1)))
        → new ≡ refused_by refusal old new.disk → faults new.disk ≡ faults_by refusal (faults old.disk) → (honest old.disk → honest new.disk)
        → (honest old.disk → (image : Image) (number : ℕ) → Keeps old (state old.disk) image number → AreChanges old.geometry.blocks (map change_of group.commands)
        → LeavesOnly (state old.disk) (state new.disk) (λ content. StandsFor content image number
        ⊎ StandsFor content (apply_all (map change_of group.commands) image) (number + length group.commands)))
        → (failure : Failure) × IsAppended world (append failure world) (event_of refusal) (order_after refusal order group) (hand_after refusal group) old new (faults new.disk) (honest old.disk) (state old.disk) (state new.disk)
    appended_refused fault.NoMemory new only failed full out_of_order same level stays_honest any =
        let works = not_true_is old.failed (λ is. memory_unlike_failed (failed.1 is)) in
        (OutOfMemory, appended_out_of_memory new works (fit (cases_lt (area_size old.geometry) (end_after old group)) works) same)
      where
        memory_unlike_failed : fault.NoMemory ≡ fault.Failed → ⊥
        memory_unlike_failed is = cc

        memory_unlike_full : fault.NoMemory ≡ fault.AreaFull → ⊥
        memory_unlike_full is = cc

        fit : (area_size old.geometry < end_after old group) ⊎ (end_after old group ≤ area_size old.geometry) → old.failed ≡ false → end_after old group ≤ area_size old.geometry
        fit (inl over) works = absurd (memory_unlike_full (full.1 (works, over)))
        fit (inr within_area) works = within_area
    appended_refused fault.DeviceFault new only failed full out_of_order same level stays_honest any =
        let works = not_true_is old.failed (λ is. device_unlike_failed (failed.1 is)) in
        (DeviceFailure, appended_faulted new works (fit (cases_lt (area_size old.geometry) (end_after old group)) works) same level stays_honest any)
      where
        device_unlike_failed : fault.DeviceFault ≡ fault.Failed → ⊥
        device_unlike_failed is = cc

        device_unlike_full : fault.DeviceFault ≡ fault.AreaFull → ⊥
        device_unlike_full is = cc

        fit : (area_size old.geometry < end_after old group) ⊎ (end_after old group ≤ area_size old.geometry) → old.failed ≡ false → end_after old group ≤ area_size old.geometry
        fit (inl over) works = absurd (device_unlike_full (full.1 (works, over)))
        fit (inr within_area) works = within_area
    appended_refused fault.BadMap new only failed full out_of_order same level stays_honest any = absurd only
    appended_refused fault.NoHeader new only failed full out_of_order same level stays_honest any = absurd only
    appended_refused fault.BadHeader new only failed full out_of_order same level stays_honest any = absurd only
    appended_refused fault.NumbersFull new only failed full out_of_order same level stays_honest any = absurd only
    appended_refused fault.AreaFull new only failed full out_of_order same level stays_honest any =
        let is = full.0 refl in (Nothing, appended_full new is.0 is.1 same)
    appended_refused fault.OutOfOrder new only failed full out_of_order same level stays_honest any =
        let is = out_of_order.0 refl in
        let first = of.first in
        let count = kept.count in
        absurd (is.2 (omega (arith, first, count)))
    appended_refused fault.DamagedGroup new only failed full out_of_order same level stays_honest any = absurd only
    appended_refused fault.AreaSmall new only failed full out_of_order same level stays_honest any = absurd only
    appended_refused fault.NotNow new only failed full out_of_order same level stays_honest any = absurd only
    appended_refused fault.Failed new only failed full out_of_order same level stays_honest any =
        (Nothing, appended_failed new (failed.0 refl) same)
