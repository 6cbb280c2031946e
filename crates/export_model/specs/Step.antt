-- how each step changes the world
use Rattle.std.specs.Prelude.{ℕ, ◌+◌, ◌-◌, Bool, true, ◌&&◌, ◌==◌, nat_lt, if◌then◌else◌, length, drop}
use Rattle.image_model.specs.Bodies.{bodies_bytes, body_limit, longest}
use Rattle.nbd_wire.specs.Request.{Message}
use Rattle.export_model.specs.declared.connection.Connection.{Connection}
use Rattle.export_model.specs.declared.connection.Connection.TheVariants.{Idle, Requested, Waiting, Ready, Closed}
use Rattle.export_model.specs.declared.event.Event.TheVariants.{Sent, Took, Failed}
use Rattle.export_model.specs.declared.event.StepFault.TheVariants.{NoMemory, DeviceFault, NumbersFull, FailedBefore}
use Rattle.export_model.specs.declared.step.Step.{Step}
use Rattle.export_model.specs.declared.step.Step.TheVariants.{Send, Serve, Answer, Seal, Append, Publish, Rotate, Copy, Map, Finish, Clean}
use Rattle.export_model.specs.Checkpoint.{can_rotate, can_copy, can_map, can_finish, can_clean, is_full, rotated, finished}
use Rattle.export_model.specs.Serve.{Failure, Nothing, OutOfMemory, DeviceFailure, Misread, logged, held, moved, staged, faulted, serve, answer}
use Rattle.export_model.specs.World.{World, Stage, area_bytes, put, in_hand, fits}

-- a growth of memory was refused, and nothing else has changed
abbrev pub out_of_memory : World → World
out_of_memory world = logged world (Failed NoMemory)

-- a connection sends a request
abbrev pub sent : Failure → World → ℕ → Message → World
sent OutOfMemory world connection request = out_of_memory world
sent _ world connection request =
    logged (record (moved world connection (Requested request)) { places = put world.places connection (length world.log) })
    (Sent connection request)

-- sending, from a connection in this state
abbrev pub send : Failure → World → ℕ → Message → Connection → World
send failure world connection request Idle = sent failure world connection request
send failure world connection request (Requested other) = held world
send failure world connection request (Waiting number) = held world
send failure world connection request (Ready outcome) = held world
send failure world connection request Closed = held world

-- the longest beginning of what is pending is in a group
abbrev pub sealed_more : Failure → World → World
sealed_more OutOfMemory world = out_of_memory world
sealed_more _ world =
    let count = longest (body_limit (area_bytes world.stage)) (drop world.stage.sealed world.stage.order) in
    logged (staged world (record world.stage { sealed = world.stage.sealed + count })) Took

-- sealing, where something is pending and all that was sealed is durable
abbrev pub seal : Failure → World → World
seal failure world =
    if nat_lt world.stage.sealed (length world.stage.order) && (world.stage.sealed == world.stage.durable) then sealed_more failure world else held world

-- the group in hand is pending again
abbrev pub put_back : World → World
put_back world = staged world (record world.stage { sealed = world.stage.stored })

-- a step that writes the device, and what order and keeper come to where nothing fails
abbrev pub written : Failure → World → Stage → World
written Nothing world stage = logged (staged world stage) Took
written OutOfMemory world stage = out_of_memory world
written DeviceFailure world stage = logged (faulted world) (Failed DeviceFault)
written (Misread given image) world stage = logged (staged world stage) Took

-- the group in hand is stored
abbrev pub stored_more : Failure → World → World
stored_more failure world =
    written failure world (record world.stage { stored = world.stage.sealed; at = world.stage.at + 17 + bodies_bytes (in_hand world) })

-- appending the group in hand: pending again where the device has failed before, or where it doesn't fit
abbrev pub append_in_hand : Failure → World → World
append_in_hand failure world =
    if world.stage.stopped then logged (put_back world) (Failed FailedBefore)
    else (if fits world then stored_more failure world else held (put_back world))

abbrev pub append : Failure → World → World
append failure world = if nat_lt world.stage.stored world.stage.sealed then append_in_hand failure world else held world

-- what is stored counts as durable
abbrev pub publish : World → World
publish world = if nat_lt world.stage.durable world.stage.stored then logged (staged world (record world.stage { durable = world.stage.stored })) Took else held world

-- a step of a checkpoint, which takes place in its time and where no call of the device has failed
abbrev pub in_time : Bool → World → World → World
in_time is_time world next =
    if world.stage.stopped then logged world (Failed FailedBefore) else (if is_time then next else held world)

-- a step that writes a header, which takes a greater generation
abbrev pub with_generation : World → World → World
with_generation world next = if is_full world.stage then logged world (Failed NumbersFull) else next

-- the next area comes into use
abbrev pub rotate : Failure → World → World
rotate failure world = in_time (can_rotate world.stage) world (with_generation world (written failure world (rotated world.stage)))

-- a block of the first area in use is copied
abbrev pub copy_block : Failure → World → World
copy_block failure world = in_time (can_copy world.stage) world (written failure world (record world.stage { left = world.stage.left - 1 }))

-- the map after the first area in use is written
abbrev pub write_map : Failure → World → World
write_map failure world = in_time (can_map world.stage) world (written failure world (record world.stage { mapped = true }))

-- what fails in a step that takes no memory
abbrev pub without_memory : Failure → Failure
without_memory Nothing = Nothing
without_memory OutOfMemory = Nothing
without_memory DeviceFailure = DeviceFailure
without_memory (Misread given image) = Nothing

-- the first area is no longer in use
abbrev pub finish : Failure → World → World
finish failure world =
    in_time (can_finish world.stage) world (with_generation world (written (without_memory failure) world (finished world.stage world.stage.turned)))

-- the frames of dirty blocks that map and data hold are let go
abbrev pub clean : World → World
clean world = if can_clean world.stage then logged (staged world (record world.stage { cleaned = world.stage.base })) Took else held world

abbrev pub after_step : World → Step → Failure → World
after_step world (Send connection request) failure = send failure world connection request (world.connections connection)
after_step world (Serve connection) failure = serve failure world connection (world.connections connection)
after_step world (Answer connection) failure = answer world connection (world.connections connection)
after_step world Seal failure = seal failure world
after_step world Append failure = append failure world
after_step world Publish failure = publish world
after_step world Rotate failure = rotate failure world
after_step world Copy failure = copy_block failure world
after_step world Map failure = write_map failure world
after_step world Finish failure = finish failure world
after_step world Clean failure = clean world
