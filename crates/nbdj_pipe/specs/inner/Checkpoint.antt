-- what a checkpoint that is carried to its end makes of the world of an export
use Rattle.std.specs.Prelude.{ℕ, ◌≡◌, ◌≢◌, ◌-◌, ◌<◌, ◌≤◌, ◌⊎◌, ◌∷◌, ◌++◌, true, false, [], length, Result, Ok, Err}
use Rattle.std.specs.FinMap.{len}
use Rattle.export_steps.specs.Copies.{copied}
use Rattle.export_model.specs.declared.event.Event.{Event}
use Rattle.export_model.specs.declared.event.Event.TheVariants.{Failed}
use Rattle.export_model.specs.declared.event.StepFault.TheVariants as fault
use Rattle.export_model.specs.declared.step.Step.TheVariants.{Copy}
use Rattle.export_model.specs.Checkpoint.{can_copy, last_turned}
use Rattle.export_model.specs.Serve.{Failure}
use Rattle.export_model.specs.Step.{after_step, seal}
use Rattle.export_model.specs.World.{Stage, World, dirty_behind, fits}
use Rattle.front_end.specs.declared.refusal.Refusal.{Refusal}
use Rattle.front_end.specs.declared.refusal.Refusal.TheVariants.{NoMemory, NumbersFull}

-- the event of a step for which no memory was refused and no generation was wanting: it took place, or it had nothing to
-- do, or the device has failed
abbrev pub IsFine : Event → Type 0
IsFine event = (event ≢ Failed fault.NoMemory) × (event ≢ Failed fault.NumbersFull)

-- what ends a checkpoint early, by the event of its step
abbrev pub EndsBy : Event → Result (Unit {0}) Refusal → Type 0
EndsBy event (Ok done) = IsFine event
EndsBy event (Err refusal) = ((refusal ≡ NoMemory) × (event ≡ Failed fault.NoMemory)) ⊎ ((refusal ≡ NumbersFull) × (event ≡ Failed fault.NumbersFull))

-- a step that ended so
pub record IsDone (world next : World) : Type 0 where
  pub event : Event
  pub log : next.log ≡ world.log ++ event ∷ []
  pub fine : IsFine event

-- Copying came to an end: as many blocks were copied, or a step that copies one had this event.
abbrev pub IsCopied : World → World → Result ℕ Event → Type 0
IsCopied world next (Ok blocks) = next ≡ copied world blocks
IsCopied world next (Err event) = (failure : Failure) × (next ≡ after_step world Copy failure) × (next.log ≡ world.log ++ event ∷ [])

-- what a checkpoint leaves as it is: the order, and how much of it is in groups, stored and durable
pub record KeepsOrder (old new : Stage) : Type 0 where
  pub order : new.order ≡ old.order
  pub sealed : new.sealed ≡ old.sealed
  pub stored : new.stored ≡ old.stored
  pub durable : new.durable ≡ old.durable

-- blocks were copied, and nothing else has changed
pub record HasCopied (old new : Stage) : Type 0 where
  pub keeps : KeepsOrder old new
  pub at : new.at ≡ old.at
  pub base : new.base ≡ old.base
  pub turned : new.turned ≡ old.turned
  pub mapped : new.mapped ≡ old.mapped
  pub works : new.stopped ≡ old.stopped

-- all that was left was copied, or it isn't the time to copy
pub record HasCopiedAll (old new : Stage) : Type 0 where
  pub copied : HasCopied old new
  pub none : can_copy new ≡ false

-- the first of several areas in use is no longer, and map and data hold what it held; nothing where one is in use
pub record HasFinished (old new : Stage) : Type 0 where
  pub keeps : KeepsOrder old new
  pub at : new.at ≡ old.at
  pub last : last_turned new.base new.turned ≡ last_turned old.base old.turned
  pub fewer : length new.turned ≡ length old.turned - 1

-- checkpoints that had begun are at their end: one area is in use, and map and data hold what the others held
pub record IsFinished (old new : Stage) : Type 0 where
  pub keeps : KeepsOrder old new
  pub at : new.at ≡ old.at
  pub base : new.base ≡ last_turned old.base old.turned
  pub turned : new.turned ≡ []

-- after a whole checkpoint the area is empty, map and data hold all that was stored, and no frame of it is dirty
pub record IsEmptied (old new : Stage) : Type 0 where
  pub keeps : KeepsOrder old new
  pub at : new.at ≡ 0
  pub base : new.base ≡ old.stored
  pub clean : len (dirty_behind new.cleaned new) ≤ len (dirty_behind new.base new)

-- The device works, and the group in hand, with the gate after it, doesn't fit the rest of the area.
pub record HasFullArea (world : World) : Type 0 where
  pub works : world.stage.stopped ≡ false
  pub hand : world.stage.stored < world.stage.sealed
  pub full : fits world ≡ false

-- The next group doesn't fit the area. It was sealed, and is pending again.
pub record IsUnfit (old new : World) : Type 0 where
  pub failure : Failure
  pub full : HasFullArea (seal failure old)
  pub back : new.stage.sealed ≡ new.stage.stored

-- the same, where no call of the device has failed
abbrev pub OrStopped : (Stage → Stage → Type 0) → World → World → Type 0
OrStopped P old new = (new.stage.stopped ≡ true) ⊎ P old.stage new.stage
