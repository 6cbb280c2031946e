-- What steps make of an export and its device. A crash ends a life; the next one begins with the image and the number that
-- its content stands for.
use Rattle.std.specs.Prelude.{ℕ, ◌≡◌, ◌+◌, ◌≤◌, Bool, true, false, List, [], ◌∷◌, ◌++◌, length}
use Rattle.device_image.specs.Keeper.{KeeperState}
use Rattle.device_image.specs.Stands.{StandsFor}
use Rattle.disk_model.specs.Disk.{State, LeavesOnly, MayLeave}
use Rattle.image_model.specs.Change.{Change}
use Rattle.image_model.specs.Image.{Image}
use Rattle.nbd_wire.specs.declared.message.SessionFlags.{SessionFlags}
use Rattle.order_book.specs.Order.{OrderState}
use Rattle.export_steps.specs.Bench.{BenchState, ConnectionsState, sent_state}
use Rattle.export_steps.specs.Parts.{IsExportOf, IsWorldOf, StandsAfter}
use Rattle.export_model.specs.declared.event.Event.{Event}
use Rattle.export_model.specs.declared.step.Mode.{Mode}
use Rattle.nbd_wire.specs.Request.{Message}
use Rattle.export_model.specs.declared.connection.Connection.TheVariants.{Idle}
use Rattle.export_model.specs.declared.step.Step.{Step}
use Rattle.export_model.specs.declared.step.Step.TheVariants.{Send}
use Rattle.export_model.specs.Covered.{Covers}
use Rattle.export_model.specs.Fits.{EditsFit, ReadsFit}
use Rattle.export_model.specs.Log.{IsLegal}
use Rattle.export_model.specs.Run.{IsReached, IsRun}
use Rattle.export_model.specs.Serve.{Failure, Nothing}
use Rattle.export_model.specs.Step.{after_step, sent}
use Rattle.export_model.specs.World.{World, fresh, image_after}

-- the world in which a life begins, with a keeper that found this image and whose device counts this many faults; whether it trusts
-- that device comes first
abbrev pub first_world : {D : Type 0} → Bool → KeeperState D → Image → ℕ → ℕ → ℕ → SessionFlags → Mode → World
first_world trusts keeper found faults most count given kept =
    fresh (record {
      geometry = keeper.geometry;
      flags = given;
      mode = kept;
      connections = count;
      frames = most;
      image = found;
      opening = keeper.count;
      generation = keeper.generation;
      failures = faults;
      trusted = trusts;
    })

-- What is said of a device's content has its honesty as a premise. If the device isn't trusted, nothing is said of it,
-- and nothing has to be known.
abbrev pub Trusts : Bool → Type 0 → Type 0
Trusts true honest = honest
Trusts false honest = ⊥

-- A step leads from one world to the next and has this event; the parts are then of the next world, and on an honest
-- device a crash at any moment since before leaves what reaches all that was stored then.
pub record IsStepped {D : Type 0} (world next : World) (event : Event) (order : OrderState) (keeper : KeeperState D) (failures : ℕ) (connections : ConnectionsState)
    (honest : Type 0) (before after : State) : Type 0 where
  pub of_export : IsExportOf next order keeper failures connections honest after
  pub log : next.log ≡ world.log ++ event ∷ []
  pub crash : honest → LeavesOnly before after (StandsAfter world.stage.order world.stage.setting.image world.stage.setting.opening world.stage.stored)

-- Steps lead from one world to another; the parts are then of that one, and on an honest device a crash at any moment
-- since before leaves what reaches all that was durable then.
pub record Leads {D : Type 0} (world next : World) (steps : List Step) (order : OrderState) (keeper : KeeperState D) (failures : ℕ) (connections : ConnectionsState)
    (honest : Type 0) (before after : State) : Type 0 where
  pub run : IsRun world steps next
  pub of_export : IsExportOf next order keeper failures connections honest after
  pub crash : honest → LeavesOnly before after (StandsAfter next.stage.order world.stage.setting.image world.stage.setting.opening world.stage.durable)

-- The content stands for the image after some first commands of the order, and for the number of the last of these, and
-- all that the log of a world covers is among them.
pub record KeepsCovered (order : List Change) (world : World) (content : List ℕ) : Type 0 where
  pub count : ℕ
  pub within : count ≤ length order
  pub stands : StandsFor content (image_after order count world.stage.setting.image) (world.stage.setting.opening + count)
  pub covers : Covers world count

-- What the log of a world covers is not lost: whatever a crash since then may leave keeps what was covered at first, and
-- whatever a crash at the end may leave keeps what is covered by then.
pub record IsDurable (world next : World) (before after : State) : Type 0 where
  pub any_moment : LeavesOnly before after (KeepsCovered next.stage.order world)
  pub at_end : (content : List ℕ) → MayLeave after content → KeepsCovered next.stage.order next content

-- The steps that are done lead from one world to the next, of which the parts are; the log of the bench is legal, and what
-- it covers is not lost where the device is honest. If the world trusts the device, each answer to a READ and a BLOCK_STATUS
-- shows the image after some first commands, and each command is what its request's edit becomes over the image after those before it.
pub record IsRehearsed {D : Type 0} (world next : World) (done : List Step) (order : OrderState) (keeper : KeeperState D) (failures : ℕ) (bench : BenchState)
    (honest : Type 0) (before after : State) : Type 0 where
  pub run : IsRun world done next
  pub of_world : IsWorldOf next order keeper failures bench honest after
  pub legal : IsLegal bench.log next.stage.order next.paired
  pub fits : next.stage.setting.trusted ≡ true → ReadsFit bench.log next.stage.order next.paired next.shown next.stage.setting.image
  pub edits : next.stage.setting.trusted ≡ true → EditsFit bench.log next.stage.order next.paired next.stage.setting.image
  pub durable : honest → IsDurable world next before after

-- The image and the number with which a next life begins: those after some first commands of the order, all that the log
-- covers among them.
pub record IsNextLife (world : World) (found : Image) (number : ℕ) : Type 0 where
  pub count : ℕ
  pub within : count ≤ length world.stage.order
  pub covers : Covers world count
  pub image : found ≡ image_after world.stage.order count world.stage.setting.image
  pub last : number ≡ world.stage.setting.opening + count

-- How steps go together into runs, of keepers whose devices have these states, counts of faults, and honesty.
pub record LeadsLaw {D : Type 0} (state : D → State) (faults : D → ℕ) (honest : D → Type 0) : Type 0 where
  -- no step leads from a world to itself
  pub none : (world : World) (trusted : Bool) (order : OrderState) (keeper : KeeperState D) (connections : ConnectionsState)
      → IsExportOf world order keeper (faults keeper.disk) connections (Trusts trusted (honest keeper.disk)) (state keeper.disk)
      → Leads world world [] order keeper (faults keeper.disk) connections (Trusts trusted (honest keeper.disk)) (state keeper.disk) (state keeper.disk)
  -- one step leads as it does
  pub one : (world : World) (trusted : Bool) (step : Step) (failure : Failure) (event : Event) (order : OrderState) (keeper : KeeperState D) (connections : ConnectionsState) (start : D) → IsReached world
      → IsStepped world (after_step world step failure) event order keeper (faults keeper.disk) connections (Trusts trusted (honest keeper.disk)) (state start) (state keeper.disk)
      → Leads world (after_step world step failure) (step ∷ []) order keeper (faults keeper.disk) connections (Trusts trusted (honest keeper.disk)) (state start) (state keeper.disk)
  -- a request that is sent leads too
  pub sends : (world : World) (trusted : Bool) (connection : ℕ) (request : Message) (order : OrderState) (keeper : KeeperState D) (connections : ConnectionsState)
      → world.connections connection ≡ Idle
      → IsExportOf world order keeper (faults keeper.disk) connections (Trusts trusted (honest keeper.disk)) (state keeper.disk)
      → Leads world (sent Nothing world connection request) (Send connection request ∷ []) order keeper (faults keeper.disk)
      (record connections { states = sent_state connections.states connection request }) (Trusts trusted (honest keeper.disk)) (state keeper.disk) (state keeper.disk)
  -- where one run leads to a world from which another leads on, both together lead
  pub on : (world mid next : World) (trusted : Bool) (first more : List Step) (order order' : OrderState) (keeper keeper' : KeeperState D) (connections connections' : ConnectionsState) (start : D)
      → (honest keeper'.disk → honest keeper.disk)
      → Leads world mid first order keeper (faults keeper.disk) connections (Trusts trusted (honest keeper.disk)) (state start) (state keeper.disk)
      → Leads mid next more order' keeper' (faults keeper'.disk) connections' (Trusts trusted (honest keeper'.disk)) (state keeper.disk) (state keeper'.disk)
      → Leads world next (first ++ more) order' keeper' (faults keeper'.disk) connections' (Trusts trusted (honest keeper'.disk)) (state start) (state keeper'.disk)
  -- what the log of a world covers is not lost on the way
  pub durable : (world next : World) (trusted : Bool) (steps : List Step) (order : OrderState) (keeper : KeeperState D) (connections : ConnectionsState) (start : D) → IsReached world
      → Leads world next steps order keeper (faults keeper.disk) connections (Trusts trusted (honest keeper.disk)) (state start) (state keeper.disk)
      → Trusts trusted (honest keeper.disk) → IsDurable world next (state start) (state keeper.disk)
