-- Why a session ends before its input does, by a world that its run passes (docs/FORMATS.md, "Refusals").
use Rattle.std.specs.Prelude.{◌≡◌, ◌⊎◌, true, false, List}
use Rattle.export_model.specs.declared.step.Step.{Step}
use Rattle.export_model.specs.Run.{IsRun}
use Rattle.export_model.specs.Checkpoint.{can_finish, can_rotate, is_full}
use Rattle.export_model.specs.World.{World}
use Rattle.front_end.specs.declared.refusal.Refusal.{Refusal}
use Rattle.front_end.specs.declared.refusal.Refusal.TheVariants.{NoMemory, DeviceFault, BadMap, NoHeader, BadHeader, NumbersFull, AreaFull, OutOfOrder, DamagedGroup, NotNow, Failed, NoRoom, PeerClosed, ProtocolEnd, StreamFault, AreaSmall}

-- a run from one world to another passes one of which this holds
pub record Passes (P : World → Type 0) (first last : World) : Type 0 where
  pub passed : World
  pub before : List Step
  pub behind : List Step
  pub to : IsRun first before passed
  pub on : IsRun passed behind last
  pub holds : P passed

-- The device works, the next step of a checkpoint writes a header, and no generation is left for it.
pub record HasNoGeneration (world : World) : Type 0 where
  pub works : world.stage.stopped ≡ false
  pub wanted : (can_rotate world.stage ≡ true) ⊎ (can_finish world.stage ≡ true)
  pub full : is_full world.stage ≡ true

-- What a run says of a refusal that ends its session: that a header was wanted and no generation is left for it. No area stays
-- full, for no command is there no room in the end, and storing never fails to come to an end. Of the others it says nothing.
abbrev pub HasCause : Refusal → World → World → Type 0
HasCause NoMemory first last = Unit {0}
HasCause DeviceFault first last = Unit {0}
HasCause BadMap first last = Unit {0}
HasCause NoHeader first last = Unit {0}
HasCause BadHeader first last = Unit {0}
HasCause AreaSmall first last = Unit {0}
HasCause NumbersFull first last = Passes HasNoGeneration first last
HasCause AreaFull first last = ⊥
HasCause OutOfOrder first last = Unit {0}
HasCause DamagedGroup first last = Unit {0}
HasCause NotNow first last = Unit {0}
HasCause Failed first last = ⊥
HasCause NoRoom first last = ⊥
HasCause PeerClosed first last = Unit {0}
HasCause ProtocolEnd first last = Unit {0}
HasCause StreamFault first last = Unit {0}
