-- that a header was wanted where no generation is left for one
use Rattle.std.proofs.Common.{◌≡◌, ◌⊎◌, inl, inr, ◌+◌, ◌-◌, ◌==◌, ◌&&◌, Bool, true, false, nat_lt, List, [], ◌∷◌, ◌++◌, length}
use Rattle.export_model.specs.declared.event.Event.{Event}
use Rattle.export_model.specs.declared.event.Event.TheVariants.{Took, Skipped, Failed}
use Rattle.export_model.specs.declared.event.StepFault.TheVariants as fault
use Rattle.export_model.specs.declared.step.Step.{Step}
use Rattle.export_model.specs.declared.step.Step.TheVariants.{Send, Serve, Answer, Seal, Append, Publish, Rotate, Copy, Map, Finish, Clean}
use Rattle.export_model.specs.Checkpoint.{can_clean, can_copy, can_finish, can_map, can_rotate, finished, is_full, rotated}
use Rattle.export_model.specs.Serve.{Failure, Nothing, OutOfMemory, DeviceFailure, Misread}
use Rattle.export_model.specs.Step.{after_step, append_in_hand, in_time, sealed_more, with_generation, without_memory, written}
use Rattle.image_model.specs.Bodies.{bodies_bytes}
use Rattle.export_model.specs.World.{Stage, World, fits, in_hand}
use Rattle.nbdj_pipe.specs.Causes.{HasNoGeneration}
use Rattle.nbdj_pipe.specs.inner.Export.{IsStoring}
use Rattle.nbdj_pipe.proofs.Steps.{last_same, of_test}

module _ (world : World) where
  -- a log in which a step that wanted a header ended so shows that it did
  abbrev ShowsIn : List Event → Type 0
  ShowsIn log = log ≡ world.log ++ Failed fault.NumbersFull ∷ [] → HasNoGeneration world

  abbrev Shows : World → Type 0
  Shows next = ShowsIn next.log

  -- a step with another event
  other : (event : Event) → (event ≡ Failed fault.NumbersFull → ⊥) → ShowsIn (world.log ++ event ∷ [])
  other event unlike is = absurd (unlike (last_same world.log event (Failed fault.NumbersFull) is))

  took : ShowsIn (world.log ++ Took ∷ [])
  took = other Took (λ e. cc)

  held_so : ShowsIn (world.log ++ Skipped ∷ [])
  held_so = other Skipped (λ e. cc)

  starved : ShowsIn (world.log ++ Failed fault.NoMemory ∷ [])
  starved = other (Failed fault.NoMemory) (λ e. cc)

  faulty : ShowsIn (world.log ++ Failed fault.DeviceFault ∷ [])
  faulty = other (Failed fault.DeviceFault) (λ e. cc)

  failed_before : ShowsIn (world.log ++ Failed fault.FailedBefore ∷ [])
  failed_before = other (Failed fault.FailedBefore) (λ e. cc)

  by_written : (failure : Failure) (stage : Stage) → Shows (written failure world stage)
  by_written Nothing stage = took
  by_written OutOfMemory stage = starved
  by_written DeviceFailure stage = faulty
  by_written (Misread given image) stage = took

  by_seal : (failure : Failure) → Shows (sealed_more failure world)
  by_seal Nothing = took
  by_seal OutOfMemory = starved
  by_seal DeviceFailure = took
  by_seal (Misread given image) = took

  by_append : (failure : Failure) → Shows (append_in_hand failure world)
  by_append failure = of_test Shows world.stage.stopped _ _ (λ is. failed_before) (λ is. of_test Shows (fits world) _ _ (λ here. by_written failure (record world.stage { stored = world.stage.sealed; at = world.stage.at + 17 + bodies_bytes (in_hand world) })) (λ late. held_so))

  -- a step that takes place in its time
  timed : (is_time : Bool) (next : World) → (world.stage.stopped ≡ false → is_time ≡ true → Shows next) → Shows (in_time is_time world next)
  timed is_time next is = of_test Shows world.stage.stopped _ _ (λ stopped. failed_before) (λ works. of_test Shows is_time _ _ (is works) (λ late. held_so))

  -- a step that writes a header
  headed : (next : World) → world.stage.stopped ≡ false → (can_rotate world.stage ≡ true) ⊎ (can_finish world.stage ≡ true) → Shows next → Shows (with_generation world next)
  headed next works wanted is = of_test Shows (is_full world.stage) _ _ (λ full log. record { works = works; wanted = wanted; full = full }) (λ left. is)

  pub header_wanted : (step : Step) (failure : Failure) → IsStoring step → Shows (after_step world step failure)
  header_wanted (Send connection request) failure storing = absurd storing
  header_wanted (Serve connection) failure storing = absurd storing
  header_wanted (Answer connection) failure storing = absurd storing
  header_wanted Seal failure storing = of_test Shows (nat_lt world.stage.sealed (length world.stage.order) && (world.stage.sealed == world.stage.durable)) _ _ (λ is. by_seal failure) (λ is. held_so)
  header_wanted Append failure storing = of_test Shows (nat_lt world.stage.stored world.stage.sealed) _ _ (λ is. by_append failure) (λ is. held_so)
  header_wanted Publish failure storing = of_test Shows (nat_lt world.stage.durable world.stage.stored) _ _ (λ is. took) (λ is. held_so)
  header_wanted Rotate failure storing = timed (can_rotate world.stage) _ (λ works now. headed _ works (inl now) (by_written failure (rotated world.stage)))
  header_wanted Copy failure storing = timed (can_copy world.stage) _ (λ works now. by_written failure (record world.stage { left = world.stage.left - 1 }))
  header_wanted Map failure storing = timed (can_map world.stage) _ (λ works now. by_written failure (record world.stage { mapped = true }))
  header_wanted Finish failure storing = timed (can_finish world.stage) _ (λ works now. headed _ works (inr now) (by_written (without_memory failure) (finished world.stage world.stage.turned)))
  header_wanted Clean failure storing = of_test Shows (can_clean world.stage) _ _ (λ is. took) (λ is. held_so)
