-- What the steps of a pipe's session do to its replies, its streams, and the world of its export.
use Rattle.std.specs.Prelude.{ℕ, ◌≡◌, ◌≢◌, ◌≤◌, ◌⊎◌, Bool, true, List, [], ◌∷◌, ◌++◌, Option, Some, None, Result, Ok, Err, IfErr}
use Rattle.device_image.specs.Keeper.{KeeperState}
use Rattle.disk_model.specs.Disk.{State}
use Rattle.nbd_wire.specs.Request.{Message}
use Rattle.nbd_wire.specs.Stream.{Reader}
use Rattle.nbd_wire.specs.declared.message.Answer.{Answer}
use Rattle.order_book.specs.Order.{OrderState}
use Rattle.export_steps.specs.Bench.{ConnectionsState}
use Rattle.export_steps.specs.Life.{Trusts}
use Rattle.export_steps.specs.Parts.{IsExportOf}
use Rattle.export_model.specs.World.{World}
use Rattle.export_model.specs.declared.connection.Connection.TheVariants.{Idle}
use Rattle.nbdj_pipe.specs.Causes.{HasCause}
use Rattle.nbdj_pipe.specs.inner.Export.{Follows}
use Rattle.nbdj_pipe.specs.Pipe.{Conversation, IsFaulty, IsOpen, IsOrderly, IsServed, IsToDisc, IsWhole, ReadsTo}
use Rattle.nbdj_pipe.specs.Refusals.{IsOfSession}
use Rattle.nbdj_pipe.specs.inner.Refusals.{IsEarly}
use Rattle.nbdj_pipe.specs.Talk.{AreAnswered, Exchange, plain, reply_to, talk_to}
use Rattle.nbdj_pipe.specs.declared.session.Flow.{Flow}
use Rattle.front_end.specs.declared.refusal.Refusal.{Refusal}
use Rattle.front_end.specs.declared.refusal.Refusal.TheVariants.{DeviceFault, PeerClosed, ProtocolEnd}

-- A session that stored what was pending ends as its input did, or its run shows why not.
abbrev pub IsEndShown : Result (Unit {0}) Refusal → Result (Unit {0}) Refusal → World → World → Type 0
IsEndShown end outcome first last = (outcome ≡ end) ⊎ IfErr outcome (λ refusal. HasCause refusal first last)

-- What a session answers at its end: how its input ended, or a refusal that comes before, or where the input had come to its
-- end that the device failed, which has stopped the order.
abbrev pub IsEndOr : Result (Unit {0}) Refusal → Result (Unit {0}) Refusal → Bool → Type 0
IsEndOr end outcome stopped =
    (outcome ≡ end) ⊎ ((refusal : Refusal) × IsEarly refusal × (outcome ≡ Err refusal)) ⊎ (IsOrderly end × (outcome ≡ Err DeviceFault) × (stopped ≡ true))

-- no request is open, on the one connection, which has agreed on nothing, and the frames take any command
pub record IsAwaiting (world : World) : Type 0 where
  pub idle : world.connections 0 ≡ Idle
  pub flags : world.stage.setting.flags ≡ plain
  pub frames : 512 ≤ world.stage.setting.frames

-- what became of the connection of a world once these requests were answered, and the last one perhaps was sent
pub record HasTalked (world next : World) (exchanges : List Exchange) (last : Option Message) : Type 0 where
  pub answered : AreAnswered world.stage.setting.geometry exchanges
  pub idle : last ≡ None → next.connections 0 ≡ Idle

-- From any world that an export is of, with no request open, steps lead to one in which these requests were sent and
-- answered in turn, and the last one was sent; they show why it ended, where that was early. The export is given by its
-- parts, before and after.
abbrev pub Runs : {D : Type 0} → (D → State) → (D → ℕ) → (D → Type 0) → OrderState → KeeperState D → ConnectionsState → OrderState → KeeperState D → ConnectionsState
    → List Exchange → Option Message → Result (Unit {0}) Refusal → Type 0
Runs state faults honest order keeper connections order' keeper' connections' exchanges last outcome =
    (world : World) (trusted : Bool) → IsExportOf world order keeper (faults keeper.disk) connections (Trusts trusted (honest keeper.disk)) (state keeper.disk)
    → IsAwaiting world
    → (next : World) × HasTalked world next exchanges last
    × Follows world next (talk_to exchanges last) order' keeper' (faults keeper'.disk) connections' (Trusts trusted (honest keeper'.disk)) (state keeper.disk) (state keeper'.disk)
    × IfErr outcome (λ refusal. HasCause refusal world next)

-- A request got its reply; a DISC gets none. A refusal may come before the answer or after it, and no reply is due then.
abbrev pub Serves : Message → List ℕ → List ℕ → Result Flow Refusal → (List Exchange → Option Message → Result (Unit {0}) Refusal → Type 0) → Type 0
Serves request old new (Ok Flow.Ended) run = (request.head.kind ≡ 2) × (new ≡ old) × run [] (Some request) (Ok tt)
Serves request old new (Ok Flow.Open) run =
    (answer : Answer) × (request.head.kind ≢ 2) × (new ≡ old ++ reply_to request.head.cookie answer) × run (record { request = request; answer = answer } ∷ []) None (Ok tt)
Serves request old new (Err refusal) run = IsEarly refusal × (new ≡ old)
    × (run [] (Some request) (Err refusal) ⊎ ((answer : Answer) × (request.head.kind ≢ 2) × run (record { request = request; answer = answer } ∷ []) None (Err refusal)))

-- a piece was fed to a reader that had been handed out these requests
abbrev pub TakesOn : Reader → List ℕ → List Message → Reader → Type 0
TakesOn old piece requests new =
    (stream : List ℕ) (before : List Message) → ReadsTo stream before old → ReadsTo (stream ++ piece) (before ++ requests) new

-- A reader that was fed this piece hadn't ended before; it may have since where it handed out requests.
abbrev pub IsFed : Reader → List ℕ → Reader → Result Flow Refusal → Type 0
IsFed old piece new outcome =
    outcome ≡ Ok Flow.Open → IsOpen old × (requests : List Message) × TakesOn old piece requests new × (requests ≡ [] → IsOpen new)

-- a reader that stands in a stream hasn't ended
abbrev pub StaysOpen : Reader → Reader → Result Flow Refusal → Type 0
StaysOpen old new outcome = outcome ≡ Ok Flow.Open → (stream : List ℕ) (before : List Message) → ReadsTo stream before old → IsOpen new

-- what was answered, by what a piece of the input came to
pub record IsTaken (told : Conversation) (reader : Reader) (outcome : Result Flow Refusal) : Type 0 where
  pub going : outcome ≡ Ok Flow.Open → IsWhole told
  pub disc : outcome ≡ Ok Flow.Ended → IsToDisc told
  pub fault : outcome ≡ Err ProtocolEnd → IsWhole told × IsFaulty reader
  pub closed : outcome ≢ Err PeerClosed
  pub device : outcome ≢ Err DeviceFault
  pub session : IfErr outcome IsOfSession

-- how a session ended, where it did early
abbrev pub ended_by : Result Flow Refusal → Result (Unit {0}) Refusal
ended_by (Ok flow) = Ok tt
ended_by (Err refusal) = Err refusal

-- a piece of the input was read, and its requests were answered
pub record Takes (old : Reader) (piece : List ℕ) (new : Reader) (before after : List ℕ) (outcome : Result Flow Refusal) (run : List Exchange → Option Message → Result (Unit {0}) Refusal → Type 0) : Type 0 where
  pub requests : List Message
  pub told : Conversation
  pub reads : TakesOn old piece requests new
  pub due : after ≡ before ++ told.text
  pub served : IsServed requests told
  pub taken : IsTaken told new outcome
  pub runs : run told.exchanges told.last (ended_by outcome)
