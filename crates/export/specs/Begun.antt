-- requests that wait while their client goes on with others
use Rattle.std.specs.Prelude.{ℕ, ◌≡◌, true}
use Rattle.export.specs.Submits.{IsReplied}
use Rattle.export.specs.inner.Submits.{IsWaitedFor}
use Rattle.export_model.specs.declared.connection.Connection.TheVariants.{Waiting}
use Rattle.export_model.specs.declared.step.Mode.{Mode}
use Rattle.image_model.specs.Image.{Image}
use Rattle.image_model.specs.declared.geometry.Geometry.{Geometry}
use Rattle.marks.specs.Client.{answering}
use Rattle.marks.specs.Known.{PassState}
use Rattle.marks.specs.declared.view.Client.{Client}
use Rattle.nbd_wire.specs.Request.{Message}
use Rattle.nbd_wire.specs.declared.message.Answer.{Answer}
use Rattle.nbd_wire.specs.declared.message.SessionFlags.{SessionFlags}

-- the pass of a request that waits, the number that has to be durable, and the request's cookie
pub record WaitingState : Type 0 where
  pub pass : PassState
  pub number : ℕ
  pub cookie : ℕ

-- it is a client, and if there is a log, its open request waits for this number
pub record IsWaitingClient (logs : Type 0) (number : ℕ) (client : Client) : Type 0 where
  pub speaks : client.speaks ≡ true
  pub waits : logs → client.state ≡ Waiting number

-- A request of a pass has begun, and waits for a number: once that is durable Ok is its reply, and otherwise EIO, as they are if it is submitted.
pub record IsBegun (opening : ℕ) (first : Image) (Sure : Type 0 → Type 0) (request : Message) (kept : Mode) (geometry : Geometry) (flags : SessionFlags) (old : PassState) (waiting : WaitingState) : Type 0 where
  pub cookie : waiting.cookie ≡ request.head.cookie
  pub replied : (after : PassState) (answer : Answer) → IsWaitedFor waiting.number waiting.pass after answer
      → IsReplied opening first Sure request kept geometry flags old (record after { client = answering after.client answer }) (record { cookie = request.head.cookie; answer = answer })
