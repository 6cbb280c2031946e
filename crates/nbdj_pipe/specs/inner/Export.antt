-- what the calls of an export make of the world that it is of
use Rattle.std.specs.Prelude.{ℕ, ◌≡◌, ◌≢◌, ◌<◌, ◌+◌, ◌⊎◌, Bool, true, false, List, [], ◌∷◌, ◌++◌, Option, Some, None, Result, Ok, Err}
use Rattle.device_image.specs.Keeper.{KeeperState}
use Rattle.disk_model.specs.Disk.{State}
use Rattle.nbd_wire.specs.Request.{Message}
use Rattle.nbd_wire.specs.declared.error.Errno.{Errno}
use Rattle.nbd_wire.specs.declared.head.RequestHead.{RequestHead}
use Rattle.nbd_wire.specs.declared.message.Answer.{Answer}
use Rattle.nbd_wire.specs.declared.message.Answer.TheVariants.{Done, Refused}
use Rattle.order_book.specs.Order.{OrderState}
use Rattle.export_steps.specs.Bench.{ConnectionsState}
use Rattle.export_steps.specs.Life.{Leads}
use Rattle.export_model.specs.declared.action.Action.{Action}
use Rattle.export_model.specs.declared.action.Action.TheVariants.{End}
use Rattle.export_model.specs.declared.connection.Connection.{Connection}
use Rattle.export_model.specs.declared.connection.Connection.TheVariants.{Idle, Requested, Waiting, Ready, Closed}
use Rattle.export_model.specs.declared.event.Event.{Event}
use Rattle.export_model.specs.declared.step.Step.{Step}
use Rattle.export_model.specs.declared.step.Step.TheVariants as steps
use Rattle.export_model.specs.declared.step.Step.TheVariants.{Send, Serve, Seal, Append, Publish, Rotate, Copy, Map, Finish, Clean}
use Rattle.export_model.specs.World.{World}
use Rattle.export_model.specs.declared.event.Event.TheVariants.{Answered}
use Rattle.export_model.specs.declared.event.StepFault.{StepFault}
use Rattle.front_end.specs.declared.refusal.Refusal.{Refusal}
use Rattle.front_end.specs.declared.refusal.Refusal.TheVariants.{NoMemory}
use Rattle.nbdj_pipe.specs.inner.Checkpoint.{IsUnfit}
use Rattle.nbdj_pipe.specs.Talk.{IsAnswerOf, IsAnswered, spoken}

-- Steps lead from one world to another, and this was said on the way.
pub record Follows {D : Type 0} (world next : World) (said : List Event) (order : OrderState) (keeper : KeeperState D) (failures : ℕ) (connections : ConnectionsState)
    (honest : Type 0) (before after : State) : Type 0 where
  pub steps : List Step
  pub leads : Leads world next steps order keeper failures connections honest before after
  pub said_is : spoken next.log ≡ spoken world.log ++ said
  pub setting : next.stage.setting ≡ world.stage.setting

-- Steps lead from one world to another in which every connection is at what it was, and nothing was said.
pub record Settles {D : Type 0} (world next : World) (order : OrderState) (keeper : KeeperState D) (failures : ℕ) (connections : ConnectionsState)
    (honest : Type 0) (before after : State) : Type 0 where
  pub follows : Follows world next [] order keeper failures connections honest before after
  pub connections_are : next.connections ≡ world.connections

-- nothing is left to store, or nothing more can be
abbrev pub IsSettled : OrderState → Type 0
IsSettled order = (order.stopped ≡ true) ⊎ (order.durable ≡ order.mark)

-- Whether a group fits the area, by the events of sealing it, appending it and publishing it: it doesn't where neither of the
-- last two had anything to do, and else it is stored or the device has failed; or memory was refused.
abbrev pub StoredBy : Event → Event → Event → Result Bool Refusal → Type 0
StoredBy sealed appended published (Ok true) =
    ((fault : StepFault) → sealed ≢ Event.Failed fault) × (appended ≢ Event.Failed StepFault.NoMemory) × (appended ≡ Event.Skipped → published ≢ Event.Skipped)
StoredBy sealed appended published (Ok false) = ((fault : StepFault) → sealed ≢ Event.Failed fault) × (appended ≡ Event.Skipped) × (published ≡ Event.Skipped)
StoredBy sealed appended published (Err refusal) = refusal ≡ NoMemory

-- Storing got on: a call of the device has failed, or more is durable.
abbrev pub GetsOn : World → World → Type 0
GetsOn old new = (new.stage.stopped ≡ true) ⊎ (old.stage.durable < new.stage.durable)

-- what storing a group came to: it got on, or the group doesn't fit the area, or memory was refused
abbrev pub CameTo : World → World → Result Bool Refusal → Type 0
CameTo old new (Ok true) = GetsOn old new
CameTo old new (Ok false) = IsUnfit old new
CameTo old new (Err refusal) = refusal ≡ NoMemory

-- The connection waits for more than is durable, and the device works.
pub record IsWaiting (world : World) : Type 0 where
  pub works : world.stage.stopped ≡ false
  pub number : ℕ
  pub waits : world.connections 0 ≡ Waiting number
  pub above : world.stage.setting.opening + world.stage.durable < number

-- a step of order and keeper alone
abbrev pub IsStoring : Step → Type 0
IsStoring (Send connection request) = ⊥
IsStoring (Serve connection) = ⊥
IsStoring (steps.Answer connection) = ⊥
IsStoring Seal = Unit {0}
IsStoring Append = Unit {0}
IsStoring Publish = Unit {0}
IsStoring Rotate = Unit {0}
IsStoring Copy = Unit {0}
IsStoring Map = Unit {0}
IsStoring Finish = Unit {0}
IsStoring Clean = Unit {0}

-- a state in which an answer to the request is due, or may come to be due
abbrev pub AwaitsAnswer : RequestHead → Connection → Type 0
AwaitsAnswer head Idle = ⊥
AwaitsAnswer head (Requested request) = ⊥
AwaitsAnswer head (Waiting number) = IsAnswerOf head Done
AwaitsAnswer head (Ready answer) = IsAnswerOf head answer
AwaitsAnswer head Closed = ⊥

-- What a request that was served came to, by the verdict on it: a DISC closes the connection, one that is refused is
-- ready with that error, and any other awaits its answer.
abbrev pub IsJudged : RequestHead → Result Action Errno → Connection → Type 0
IsJudged head (Ok End) state = state ≡ Closed
IsJudged head (Ok Action.Serve) state = AwaitsAnswer head state
IsJudged head (Err errno) state = state ≡ Ready (Refused errno)

-- an answer that is given in a state
abbrev pub IsGiven : Connection → Answer → Type 0
IsGiven Idle answer = ⊥
IsGiven (Requested request) answer = ⊥
IsGiven (Waiting number) answer = (answer ≡ Done) ⊎ ((errno : Errno) × (answer ≡ Refused errno))
IsGiven (Ready given) answer = answer ≡ given
IsGiven Closed answer = ⊥

-- what an answer says in a log
abbrev pub told : Option Answer → List Event
told None = []
told (Some answer) = Answered 0 answer ∷ []

abbrev pub told_by : Result Answer Refusal → List Event
told_by (Ok answer) = Answered 0 answer ∷ []
told_by (Err refusal) = []

abbrev pub said_of : Result (Option Answer) Refusal → List Event
said_of (Ok answer) = told answer
said_of (Err refusal) = []

-- A request was served: a DISC has no answer, any other one the answer that it may have, and no request is open.
abbrev pub HasAnswer : World → World → Message → Option Answer → Type 0
HasAnswer world next request None = request.head.kind ≡ 2
HasAnswer world next request (Some given) =
    IsAnswered world.stage.setting.geometry (record { request = request; answer = given }) × (next.connections 0 ≡ Idle)

-- only a DISC has no answer
abbrev pub IsOfKind : Message → Option Answer → Type 0
IsOfKind request None = request.head.kind ≡ 2
IsOfKind request (Some given) = request.head.kind ≢ 2
