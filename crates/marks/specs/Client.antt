-- clients: what they are at, and what a step of theirs asks
use Rattle.std.specs.Prelude.{ℕ, ◌≡◌, Bool, true, false, List, [], ◌∷◌, ◌++◌}
use Rattle.image_model.specs.Change.{Change}
use Rattle.image_model.specs.Edit.{becomes}
use Rattle.image_model.specs.Image.{Image, apply_all}
use Rattle.nbd_wire.specs.Request.{Message}
use Rattle.nbd_wire.specs.declared.message.Answer.{Answer}
use Rattle.export_model.specs.Log.{edit_asked, flush_waits, is_flush, is_write, waits_for_store}
use Rattle.export_model.specs.Serve.{state_after}
use Rattle.export_model.specs.declared.connection.Connection.{Connection}
use Rattle.export_model.specs.declared.connection.Connection.TheVariants.{Idle, Requested, Waiting, Ready, Closed}
use Rattle.export_model.specs.declared.event.Event.TheVariants.{Sent, Answered}
use Rattle.export_model.specs.declared.step.Mode.{Mode}
use Rattle.marks.specs.declared.view.Client.{Client}

-- one that is no client
abbrev pub nobody : Client
nobody = record { by = 0; speaks = false; mine = []; state = Idle }

-- the client with this number, which has sent nothing
abbrev pub new_client : ℕ → Client
new_client number = record nobody { by = number; speaks = true }

abbrev pub sending : Client → Message → Client
sending client request = record client { mine = client.mine ++ Sent client.by request ∷ []; state = Requested request }

abbrev pub answering : Client → Answer → Client
answering client outcome = record client { mine = client.mine ++ Answered client.by outcome ∷ []; state = Idle }

-- what a connection is at whose open request waits for this number in the mode, or is done at once
abbrev pub waiting_by : (Message → Bool) → ℕ → Connection → Connection
waiting_by waits number Idle = Idle
waiting_by waits number (Requested request) = state_after (waits request) number
waiting_by waits number (Waiting other) = Waiting other
waiting_by waits number (Ready outcome) = Ready outcome
waiting_by waits number Closed = Closed

-- its command was accepted under this number
abbrev pub accepting : Mode → ℕ → Client → Client
accepting mode number client = record client { state = waiting_by (waits_for_store mode) number client.state }

-- its FLUSH found this number
abbrev pub flushing : Mode → ℕ → Client → Client
flushing mode number client = record client { state = waiting_by (λ request. flush_waits mode) number client.state }

-- A client has asked for this change, after this history: it is what its request's edit becomes over some image, and over that of the
-- history where the device is trusted.
pub record HasAsked (trusted : Type 0) (image : Image) (history : List Change) (change : Change) (client : Client) : Type 0 where
  pub speaks : client.speaks ≡ true
  pub request : Message
  pub asks : client.state ≡ Requested request
  pub write : is_write request ≡ true
  pub own : (given : Image) × (becomes (edit_asked request) given ≡ change)
  pub right : trusted → becomes (edit_asked request) (apply_all history image) ≡ change

-- a client has sent a FLUSH
pub record HasFlushed (client : Client) : Type 0 where
  pub request : Message
  pub asks : client.state ≡ Requested request
  pub flush : is_flush request ≡ true
