-- What no schedule changes, and what the log tells of the device.
use Rattle.std.specs.Prelude.{ℕ, ◌≡◌, ◌<◌, ◌≤◌, ◌↔◌, true, false, List, [], ◌∷◌, ◌++◌, length}
use Rattle.disk_model.specs.Faults.{HasRisen}
use Rattle.image_model.specs.Change.{Change}
use Rattle.nbd_wire.specs.declared.error.Errno.TheVariants.{Io}
use Rattle.export_model.specs.declared.event.Event.{Event}
use Rattle.export_model.specs.declared.event.Event.TheVariants.{Sent, Answered, Numbered, Took, Skipped, Failed}
use Rattle.nbd_wire.specs.declared.message.Answer.TheVariants.{Refused}
use Rattle.export_model.specs.declared.event.StepFault.TheVariants as fault
use Rattle.export_model.specs.Checkpoint.{is_full, is_turned, last_turned, left_behind}
use Rattle.export_model.specs.Log.{StandsAt}
use Rattle.export_model.specs.World.{World, Stage, areas_at}

-- Each area in use but the last holds something: after the commands in map and data more were stored each time that the
-- next one came into use, and all of these are stored.
abbrev pub IsRising : ℕ → List ℕ → ℕ → Type 0
IsRising base [] stored = base ≤ stored
IsRising base (first ∷ rest) stored = (base < first) × IsRising first rest stored

-- what is durable is stored, what is stored is in groups, and what is in groups is ordered
pub record IsWithin (world : World) : Type 0 where
  pub durable : world.stage.durable ≤ world.stage.stored
  pub stored : world.stage.stored ≤ world.stage.sealed
  pub sealed : world.stage.sealed ≤ length world.stage.order
  -- what was let go of the frames is in map and data, and what is there or stands in an area before the last is stored
  pub cleaned : world.stage.cleaned ≤ world.stage.base
  pub rising : IsRising world.stage.base world.stage.turned world.stage.stored
  -- no more areas are in use than there are
  pub areas : length world.stage.turned < areas_at world.stage
  -- the last area is empty exactly where its first gate is the next
  pub taken : (world.stage.at ≡ 0) ↔ (world.stage.stored ≡ last_turned world.stage.base world.stage.turned)
  -- no more is left to copy than goes into data, and nothing once the map after it is written
  pub left : world.stage.left ≤ left_behind world.stage.base world.stage.turned world.stage.order
  pub mapped : world.stage.mapped ≡ true → (is_turned world.stage.turned ≡ true) × (world.stage.left ≡ 0)

-- log, order and numbers only grow, and after a device fault nothing else is forgotten
pub record Grows (old new : World) : Type 0 where
  pub setting : new.stage.setting ≡ old.stage.setting
  pub log : (events : List Event) × (new.log ≡ old.log ++ events)
  pub order : (commands : List Change) × (new.stage.order ≡ old.stage.order ++ commands)
  pub paired : (k : ℕ) → k < length old.stage.order → new.paired k ≡ old.paired k
  pub stored : old.stage.stored ≤ new.stage.stored
  pub durable : old.stage.durable ≤ new.stage.durable
  pub base : IsWithin old → old.stage.base ≤ new.stage.base
  pub cleaned : IsWithin old → old.stage.cleaned ≤ new.stage.cleaned
  pub generation : old.stage.generation ≤ new.stage.generation
  pub stopped : old.stage.stopped ≡ true → new.stage.stopped ≡ true

-- the device has counted a fault since the life began
abbrev pub HasFailed : Stage → Type 0
HasFailed stage = HasRisen stage.setting.failures stage.faults

-- an event that tells of a fault of the device: an answer EIO, and a step that failed for it
abbrev pub TellsFault : Event → Type 0
TellsFault (Answered connection outcome) = outcome ≡ Refused Io
TellsFault (Failed fault.DeviceFault) = Unit {0}
TellsFault (Failed fault.FailedBefore) = Unit {0}
TellsFault (Failed fault.NoMemory) = ⊥
TellsFault (Failed fault.NumbersFull) = ⊥
TellsFault (Sent connection request) = ⊥
TellsFault (Numbered connection number) = ⊥
TellsFault Took = ⊥
TellsFault Skipped = ⊥

-- A fault of the device is told, or stops the export, only where the device has counted one since the life began; and it has
-- counted none as long as the export works. That no generation is left is told only where none is.
pub record TellsTruth (world : World) : Type 0 where
  pub told : (place : ℕ) (event : Event) → StandsAt world.log place event → TellsFault event → HasFailed world.stage
  pub stopped : world.stage.stopped ≡ true → HasFailed world.stage
  pub quiet : world.stage.stopped ≡ false → world.stage.faults ≡ world.stage.setting.failures
  pub full : (place : ℕ) → StandsAt world.log place (Failed fault.NumbersFull) → is_full world.stage ≡ true
