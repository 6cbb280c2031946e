-- How serving a connection changes the world. Each step changes the world and adds its event to the log.
use Rattle.std.specs.Prelude.{ℕ, ◌+◌, ◌/◌, Bool, true, false, ◌==◌, ◌||◌, nat_le, if◌then◌else◌, Result, Ok, Err, [], ◌∷◌, ◌++◌, length}
use Rattle.disk_model.specs.Faults.{counted}
use Rattle.image_model.specs.Change.{Change}
use Rattle.image_model.specs.Edit.{ByteEdit, BytesPut, BytesTrimmed, BytesZeroed, becomes, blocks_met, is_partial_data}
use Rattle.image_model.specs.Image.{Image, last_of}
use Rattle.nbd_wire.specs.Request.{Message}
use Rattle.nbd_wire.specs.declared.error.Errno.{Errno}
use Rattle.nbd_wire.specs.declared.error.Errno.TheVariants.{Io, NoMemory, NoSpace}
use Rattle.export_model.specs.declared.action.Action.{Action}
use Rattle.export_model.specs.declared.action.Action.TheVariants.{End, Serve}
use Rattle.export_model.specs.declared.connection.Connection.{Connection}
use Rattle.export_model.specs.declared.connection.Connection.TheVariants.{Idle, Requested, Waiting, Ready, Closed}
use Rattle.export_model.specs.declared.event.Event.{Event}
use Rattle.export_model.specs.declared.event.Event.TheVariants.{Answered, Numbered, Took, Skipped}
use Rattle.nbd_wire.specs.declared.message.Answer.{Answer}
use Rattle.nbd_wire.specs.declared.message.Answer.TheVariants.{Done, Refused}
use Rattle.export_model.specs.Log.{edit_asked, flush_waits, is_flush, waits_for_store}
use Rattle.export_model.specs.Verdict.{verdict}
use Rattle.export_model.specs.Shown.{shown_by}
use Rattle.export_model.specs.World.{World, Stage, put, last_number, has_room, image_after}

-- The faults of a step: none, memory runs out, or a call of the device fails. A device that isn't trusted may also show another
-- image, in a step of any of these. Nothing else in a step is left open.
pub data Failure : Type 0 where
  Nothing : Failure
  OutOfMemory : Failure
  DeviceFailure : Failure
  Misread : (given : Failure) (image : Image) → Failure

-- the world in which order and keeper come to this
abbrev pub staged : World → Stage → World
staged world stage = record world { stage = stage }

-- what a call of the device that fails leaves: no command is accepted any more, and the group in hand is pending again
abbrev pub faulted : World → World
faulted world = staged world (record world.stage { sealed = world.stage.stored; stopped = true; faults = counted world.stage.faults })

abbrev pub logged : World → Event → World
logged world event = record world { log = world.log ++ event ∷ [] }

abbrev pub held : World → World
held world = logged world Skipped

-- the connection comes to this state, and nothing else changes
abbrev pub moved : World → ℕ → Connection → World
moved world connection state = record world { connections = put world.connections connection state }

abbrev pub ready : World → ℕ → Answer → World
ready world connection outcome = logged (moved world connection (Ready outcome)) Took

-- a command goes to the end of the order, paired with the connection's request
abbrev pub ordered : World → ℕ → Change → World
ordered world connection command = record world {
  stage = record world.stage { order = world.stage.order ++ command ∷ [] };
  paired = put world.paired (length world.stage.order) (world.places connection);
}

-- what a request is at that waits for this number, or is answered at once
abbrev pub state_after : Bool → ℕ → Connection
state_after true number = Waiting number
state_after false number = Ready Done

-- a write request whose command gets the next number
abbrev pub numbered : World → ℕ → Message → Change → World
numbered world connection request command =
    let number = last_number world + 1 in
    logged (moved (ordered world connection command) connection (state_after (waits_for_store world.stage.setting.mode request) number))
    (Numbered connection number)

-- whether the first or the last block that bytes touch is data and covered in part
abbrev pub covers_data_in_part : ℕ → ℕ → Image → Bool
covers_data_in_part offset count image =
    let first = offset / 4096 in
    let last = last_of first (blocks_met offset count) in
    is_partial_data offset count first (image.kind first) || is_partial_data offset count last (image.kind last)

-- whether an edit takes old bytes, for which the device may be needed
abbrev pub takes_old_bytes : ByteEdit → Image → Bool
takes_old_bytes (BytesPut offset bytes) image = covers_data_in_part offset (length bytes) image
takes_old_bytes (BytesZeroed offset count kind) image = covers_data_in_part offset count image
takes_old_bytes (BytesTrimmed offset count) image = false

-- a write request over this image, whose command nothing holds or refuses: EIO where a call of the device fails
abbrev pub accepted : Failure → Image → World → ℕ → Message → World
accepted OutOfMemory image world connection request = ready world connection (Refused NoMemory)
accepted DeviceFailure image world connection request =
    if takes_old_bytes (edit_asked request) image then ready (faulted world) connection (Refused Io)
    else numbered world connection request (becomes (edit_asked request) image)
accepted Nothing image world connection request = numbered world connection request (becomes (edit_asked request) image)
accepted (Misread given other) image world connection request = accepted given image world connection request

-- A write request asks for the command that its edit becomes over this image: it is refused where no number is left, and held
-- where there is no room.
abbrev pub write_served : Failure → Image → World → ℕ → Message → World
write_served failure image world connection request =
    if last_number world == 18446744073709551615 then ready world connection (Refused NoSpace)
    else (if has_room world (becomes (edit_asked request) image) then accepted failure image world connection request else held world)

-- what a request shows or is carried out over: the image after all of the order, but where the device isn't trusted and shows
-- another
abbrev pub image_shown : Failure → Stage → Image
image_shown (Misread given image) stage = if stage.setting.trusted then image_after stage.order (length stage.order) stage.setting.image else image
image_shown Nothing stage = image_after stage.order (length stage.order) stage.setting.image
image_shown OutOfMemory stage = image_after stage.order (length stage.order) stage.setting.image
image_shown DeviceFailure stage = image_after stage.order (length stage.order) stage.setting.image

-- it is answered with that, and it is kept of how many commands the image is
abbrev pub shown : Image → World → ℕ → Message → World
shown image world connection request =
    ready (record world { shown = put world.shown (world.places connection) (length world.stage.order) }) connection (shown_by image request.head)

-- a READ, for which the device may be needed: EIO where a call of it fails
abbrev pub read_served : Failure → World → ℕ → Message → World
read_served OutOfMemory world connection request = ready world connection (Refused NoMemory)
read_served DeviceFailure world connection request = ready (faulted world) connection (Refused Io)
read_served failure world connection request = shown (image_shown failure world.stage) world connection request

-- a BLOCK_STATUS, which needs no device
abbrev pub status_served : Failure → World → ℕ → Message → World
status_served OutOfMemory world connection request = ready world connection (Refused NoMemory)
status_served failure world connection request = shown (image_shown failure world.stage) world connection request

-- a request that passes judgement: it gets EIO after a device fault; a FLUSH waits for the last number, unless the mode is ordered; a READ
-- and a BLOCK_STATUS show the image
abbrev pub passed : Failure → World → ℕ → Message → World
passed failure world connection request =
    if world.stage.stopped then ready world connection (Refused Io)
    else (if is_flush request then logged (moved world connection (state_after (flush_waits world.stage.setting.mode) (last_number world))) Took
    else (if request.head.kind == 0 then read_served failure world connection request
    else (if request.head.kind == 7 then status_served failure world connection request
    else write_served failure (image_shown failure world.stage) world connection request)))

-- a request that is judged: DISC closes the connection
abbrev pub judged : Result Action Errno → Failure → World → ℕ → Message → World
judged (Ok End) failure world connection request = logged (moved world connection Closed) Took
judged (Ok Serve) failure world connection request = passed failure world connection request
judged (Err errno) failure world connection request = ready world connection (Refused errno)

-- serving a connection in this state
abbrev pub serve : Failure → World → ℕ → Connection → World
serve failure world connection (Requested request) =
    judged (verdict request.head world.stage.setting.geometry world.stage.setting.flags) failure world connection request
serve failure world connection Idle = held world
serve failure world connection (Waiting number) = held world
serve failure world connection (Ready outcome) = held world
serve failure world connection Closed = held world

abbrev pub answered : World → ℕ → Answer → World
answered world connection outcome = logged (moved world connection Idle) (Answered connection outcome)

-- answering a connection in this state: one that waits is answered once its number is durable, or gets EIO after a device fault
abbrev pub answer : World → ℕ → Connection → World
answer world connection (Ready outcome) = answered world connection outcome
answer world connection (Waiting number) =
    if nat_le number (world.stage.setting.opening + world.stage.durable) then answered world connection Done
    else (if world.stage.stopped then answered world connection (Refused Io) else held world)
answer world connection Idle = held world
answer world connection (Requested request) = held world
answer world connection Closed = held world
