-- What the log of a run must be. A request is known by the place in the log where it was sent; what was sent and what was
-- answered, read in the log's order, is the transcript.
use Rattle.std.specs.Prelude.{◌≡◌, ◌≢◌, ℕ, ◌<◌, ◌==◌, ◌&&◌, ◌||◌, if◌then◌else◌, Bool, true, false, Some, List, length, slice_get, bit_and}
use Rattle.image_model.specs.Change.{Change}
use Rattle.image_model.specs.Edit.{ByteEdit, BytesPut, BytesTrimmed, BytesZeroed, becomes}
use Rattle.image_model.specs.Image.{Image}
use Rattle.image_model.specs.declared.command.Kind.{Kind}
use Rattle.image_model.specs.declared.command.Kind.TheVariants.{Zero, Hole}
use Rattle.nbd_wire.specs.Request.{Message}
use Rattle.nbd_wire.specs.declared.error.Errno.{Errno}
use Rattle.nbd_wire.specs.declared.head.RequestHead.{RequestHead}
use Rattle.nbd_wire.specs.declared.error.Errno.TheVariants.{Io}
use Rattle.export_model.specs.declared.event.Event.{Event}
use Rattle.export_model.specs.declared.event.Event.TheVariants.{Sent, Answered}
use Rattle.nbd_wire.specs.declared.message.Answer.{Answer}
use Rattle.nbd_wire.specs.declared.message.Answer.TheVariants.{Done, Refused}
use Rattle.export_model.specs.declared.step.Mode.{Mode}
use Rattle.export_model.specs.declared.step.Mode.TheVariants.{Writeback, Writethrough, Ordered}

-- the event at this place of the log
abbrev pub StandsAt : List Event → ℕ → Event → Type 0
StandsAt log place event = slice_get log place ≡ Some event

-- the request that the connection sent at `place` is answered at `answer`: the first answer to the connection from there on
pub record IsAnswered (log : List Event) (connection place : ℕ) (request : Message) (answer : ℕ) (outcome : Answer) : Type 0 where
  pub sent : StandsAt log place (Sent connection request)
  pub later : place < answer
  pub answered : StandsAt log answer (Answered connection outcome)
  pub first : (between : ℕ) (other : Answer) → place < between → between < answer → StandsAt log between (Answered connection other) → ⊥

-- the types of write commands: WRITE, TRIM and WRITE_ZEROES ("Request types" of NBD's proto.md)
abbrev pub is_write_type : ℕ → Bool
is_write_type kind = (kind == 1) || (kind == 4) || (kind == 6)

-- what becomes of the blocks of a TRIM or a WRITE_ZEROES: allocated zero where a WRITE_ZEROES has NO_HOLE, else holes
abbrev pub cleared_as : RequestHead → Kind
cleared_as head = if (head.kind == 6) && (bit_and head.flags 2 == 2) then Zero else Hole

-- a request that asks for a write command, and the edit that it asks for
abbrev pub is_write : Message → Bool
is_write request = is_write_type request.head.kind

abbrev pub edit_asked : Message → ByteEdit
edit_asked request =
    if request.head.kind == 1 then BytesPut request.head.offset request.bytes
    else (if request.head.kind == 6 then BytesZeroed request.head.offset request.head.length (cleared_as request.head)
    else BytesTrimmed request.head.offset request.head.length)

-- a READ or a BLOCK_STATUS, which are answered with what an image holds
abbrev pub is_read_type : ℕ → Bool
is_read_type kind = (kind == 0) || (kind == 7)

abbrev pub is_read : Message → Bool
is_read request = is_read_type request.head.kind

abbrev pub is_flush : Message → Bool
is_flush request = request.head.kind == 3

-- whether the answer to a write command waits until it is durable: with FUA, and always in writethrough; never in ordered
abbrev pub waits_for_store : Mode → Message → Bool
waits_for_store Writethrough request = true
waits_for_store Writeback request = bit_and request.head.flags 1 == 1
waits_for_store Ordered request = false

-- whether the answer to a FLUSH waits until what it covers is durable: not in ordered, where a FLUSH makes nothing durable
abbrev pub flush_waits : Mode → Bool
flush_waits Writeback = true
flush_waits Writethrough = true
flush_waits Ordered = false

-- the request whose command has a place in the order: what its edit becomes over some image
pub record IsPaired (log : List Event) (command : Change) (place : ℕ) : Type 0 where
  pub connection : ℕ
  pub request : Message
  pub sent : StandsAt log place (Sent connection request)
  pub write : is_write request ≡ true
  pub own : (image : Image) × (becomes (edit_asked request) image ≡ command)

-- The log agrees with the order of commands, under a pairing of each command with the place of its request.
pub record IsLegal (log : List Event) (order : List Change) (paired : ℕ → ℕ) : Type 0 where
  -- each command is that of the request it is paired with, and no two are paired with one
  pub own : (k : ℕ) (command : Change) → slice_get order k ≡ Some command → IsPaired log command (paired k)
  pub apart : (k m : ℕ) → k < m → m < length order → paired k ≢ paired m
  -- a write command that is answered Ok is paired, and a request that is answered with an error other than EIO isn't
  pub done : (connection place answer : ℕ) (request : Message) → IsAnswered log connection place request answer Done
      → is_write request ≡ true → (k : ℕ) × (k < length order) × (paired k ≡ place)
  pub refused : (connection place answer k : ℕ) (request : Message) (errno : Errno) → IsAnswered log connection place request answer (Refused errno)
      → errno ≢ Io → k < length order → paired k ≢ place
  -- a command that is answered before another one is sent stands before it
  pub in_order : (connection answer k m : ℕ) (request : Message) (outcome : Answer) → k < length order → m < length order
      → IsAnswered log connection (paired k) request answer outcome → answer < paired m → k < m
  -- a connection sends no request before its last one is answered
  pub one_open : (connection place next : ℕ) (request other : Message) → place < next
      → StandsAt log place (Sent connection request) → StandsAt log next (Sent connection other)
      → (answer : ℕ) × (outcome : Answer) × (place < answer) × (answer < next) × StandsAt log answer (Answered connection outcome)
