-- Definitions for contracts between functions of this crate.
use Rattle.std.specs.Prelude.{ℕ, ◌≡◌, ◌⊎◌, MatchBool, MatchOption, slice_index_or, slice_set, Bool, nat_le, nat_lt, Result, Ok, Err, if◌then◌else◌, Option, Some, None, List, [], ◌∷◌, ◌++◌}
use Rattle.image_model.specs.Change.{Change, AreChanges}
use Rattle.image_model.specs.declared.geometry.Geometry.{Geometry}
use Rattle.journal_format.specs.Group.{Numbered}
use Rattle.nbd_wire.specs.Request.{Message}
use Rattle.nbd_wire.specs.declared.error.Errno.TheVariants.{Io}
use Rattle.nbd_wire.specs.declared.message.SessionFlags.{SessionFlags}
use Rattle.order_book.specs.Order.{OrderState}
use Rattle.request_core.specs.declared.serving.Served.{Served}
use Rattle.request_core.specs.declared.serving.Served.TheVariants as served
use Rattle.export_steps.specs.Parts.{AreConnectionsOf, IsOrderOf}
use Rattle.export_model.specs.declared.connection.Connection.{Connection}
use Rattle.export_model.specs.declared.connection.Connection.TheVariants.{Idle, Requested, Waiting, Ready, Closed}
use Rattle.export_model.specs.declared.event.Event.{Event}
use Rattle.export_model.specs.declared.event.Event.TheVariants.{Sent, Answered, Numbered as numbered, Took, Skipped, Failed}
use Rattle.export_model.specs.declared.event.StepFault.TheVariants.{NoMemory}
use Rattle.nbd_wire.specs.declared.message.Answer.{Answer}
use Rattle.nbd_wire.specs.declared.message.Answer.TheVariants.{Done, Refused}
use Rattle.export_model.specs.declared.step.Mode.{Mode}
use Rattle.export_model.specs.World.{World, put, Stage}
use Rattle.export_steps.specs.Bench.{is_idle}

-- what a connection comes to whose request was served
abbrev pub state_of : Served → Connection
state_of (served.Ready reply) = Ready reply.answer
state_of (served.Wait number) = Waiting number
state_of (served.NoRoom request) = Requested request

abbrev pub quiet_event : Served → Event
quiet_event (served.Ready reply) = Took
quiet_event (served.Wait number) = Took
quiet_event (served.NoRoom request) = Skipped

-- the event of a request that was served, where the last number of the order went from one to another
abbrev pub event_for : ℕ → ℕ → ℕ → Served → Event
event_for connection before after result = if nat_lt before after then numbered connection after else quiet_event result

-- the group that was sealed last stays as it is
pub record IsSameHand (old new : OrderState) : Type 0 where
  pub sealed : new.sealed ≡ old.sealed
  pub in_hand : new.in_hand ≡ old.in_hand

-- the request that wasn't served yet
abbrev pub request_in : Connection → Option Message
request_in Idle = None
request_in (Requested request) = Some request
request_in (Waiting number) = None
request_in (Ready outcome) = None
request_in Closed = None

-- the answer that is due, once all up to a number is durable, before or after a device fault
abbrev pub due_of : ℕ → Bool → Connection → Option Answer
due_of durable stopped Idle = None
due_of durable stopped (Requested request) = None
due_of durable stopped (Waiting number) = if nat_le number durable then Some Done else (if stopped then Some (Refused Io) else None)
due_of durable stopped (Ready outcome) = Some outcome
due_of durable stopped Closed = None

-- the answer that is due, or else the state
abbrev pub answer_due : ℕ → Bool → Connection → Result Answer Connection
answer_due durable stopped Idle = Err Idle
answer_due durable stopped (Requested request) = Err (Requested request)
answer_due durable stopped (Waiting number) = if nat_le number durable then Ok Done else (if stopped then Ok (Refused Io) else Err (Waiting number))
answer_due durable stopped (Ready outcome) = Ok outcome
answer_due durable stopped Closed = Err Closed

-- A connection to which an answer is due gets it, and another one stays as it is.
abbrev pub IsAnsweredBy : ℕ → Bool → List Connection → ℕ → List Connection → Event → Type 0
IsAnsweredBy durable stopped old connection new event =
    MatchOption (due_of durable stopped (slice_index_or old connection Closed))
    ((new ≡ old) × (event ≡ Skipped))
    (λ outcome. (new ≡ slice_set old connection Idle) × (event ≡ Answered connection outcome))

-- A connection that has no request open sends one, or memory is refused; another one sends nothing.
abbrev pub IsSentBy : List Connection → ℕ → Message → List Connection → Event → Type 0
IsSentBy old connection request new event =
    MatchBool (is_idle (slice_index_or old connection Closed))
    (((new ≡ slice_set old connection (Requested request)) × (event ≡ Sent connection request)) ⊎ ((new ≡ old) × (event ≡ Failed NoMemory)))
    ((new ≡ old) × (event ≡ Skipped))

-- what every request is judged by is the world's
pub record AreTermsOf (world : World) (geometry : Geometry) (flags : SessionFlags) (mode : Mode) : Type 0 where
  pub geometry_is : geometry ≡ world.stage.setting.geometry
  pub flags_is : flags ≡ world.stage.setting.flags
  pub mode_is : mode ≡ world.stage.setting.mode

-- the stage with commands more
abbrev pub with_commands : Stage → List Change → Stage
with_commands stage commands = record stage { order = stage.order ++ commands }

-- The stage is as it was, but for commands more that the image takes.
pub record IsGrown (old new : Stage) : Type 0 where
  pub commands : List Change
  pub is : new ≡ with_commands old commands
  pub takes : AreChanges old.setting.geometry.blocks commands

-- A connection that is served comes to this state.
pub record IsServed (world next : World) (connection : ℕ) (state : Connection) (event : Event) (order : OrderState) (group : Option Numbered) : Type 0 where
  pub connections : (other : ℕ) → put world.connections connection state other ≡ next.connections other
  pub log : next.log ≡ world.log ++ event ∷ []
  pub grown : IsGrown world.stage next.stage
  pub of_order : IsOrderOf next.stage order group

-- The connections and the order are those of the next world.
pub record IsTalked (world next : World) (connections : List Connection) (event : Event) (order : OrderState) (group : Option Numbered) : Type 0 where
  pub of_connections : AreConnectionsOf next connections
  pub log : next.log ≡ world.log ++ event ∷ []
  pub grown : IsGrown world.stage next.stage
  pub of_order : IsOrderOf next.stage order group
