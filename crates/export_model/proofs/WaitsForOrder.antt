-- a connection waits for a number of the order
use Rattle.std.proofs.Common.{◌≡◌, ℕ, ◌+◌, ◌-◌, ◌≤◌, ◌==◌, ◌&&◌, Bool, true, false, nat_le, nat_lt, Result, Ok, Err, List, [], ◌∷◌, ◌++◌, length, length-append, subst, arith}
use Rattle.nbd_wire.specs.Request.{Message}
use Rattle.nbd_wire.specs.declared.error.Errno.{Errno}
use Rattle.nbd_wire.specs.declared.error.Errno.TheVariants.{Io, NoMemory, NoSpace}
use Rattle.nbd_wire.specs.declared.message.Answer.TheVariants.{Refused}
use Rattle.export_model.specs.declared.action.Action.{Action}
use Rattle.export_model.specs.declared.action.Action.TheVariants.{End, Serve}
use Rattle.export_model.specs.declared.connection.Connection.{Connection}
use Rattle.export_model.specs.declared.connection.Connection.TheVariants.{Idle, Requested, Waiting, Ready, Closed}
use Rattle.export_model.specs.declared.step.Step.{Step}
use Rattle.export_model.specs.declared.step.Step.TheVariants as steps
use Rattle.image_model.specs.Bodies.{bodies_bytes}
use Rattle.image_model.specs.Change.{Change}
use Rattle.image_model.specs.Edit.{becomes}
use Rattle.export_model.specs.Log.{edit_asked, flush_waits, is_flush, waits_for_store}
use Rattle.export_model.specs.Run.{IsReached, Fresh, After}
use Rattle.export_model.specs.Serve.{Failure, Nothing, OutOfMemory, DeviceFailure, accepted, answer, judged, passed, serve, state_after, Misread, image_shown, shown, read_served, status_served, takes_old_bytes}
use Rattle.export_model.specs.Checkpoint.{can_rotate, can_copy, can_map, can_finish, can_clean, is_full, rotated, finished}
use Rattle.export_model.specs.Step.{after_step, append, in_time, with_generation, sealed_more, send, sent, without_memory, written}
use Rattle.export_model.specs.Verdict.{verdict}
use Rattle.image_model.specs.Image.{Image}
use Rattle.export_model.specs.Shown.{shown_by}
use Rattle.export_model.specs.World.{World, Stage, Setting, fits, fresh, has_room, in_hand, last_number, put}
use Rattle.export_model.specs.laws.Steps.{of_either}

-- where a connection in this state waits for a number, it is no greater than the last one
abbrev WaitsWithin : ℕ → Connection → Type 0
WaitsWithin last Idle = Unit {0}
WaitsWithin last (Requested request) = Unit {0}
WaitsWithin last (Waiting number) = number ≤ last
WaitsWithin last (Ready outcome) = Unit {0}
WaitsWithin last Closed = Unit {0}

abbrev AllWait : World → Type 0
AllWait world = (connection : ℕ) → WaitsWithin (last_number world) (world.connections connection)

waits_more : (last more : ℕ) (state : Connection) → last ≤ more → WaitsWithin last state → WaitsWithin more state
waits_more last more Idle le is = tt
waits_more last more (Requested request) le is = tt
waits_more last more (Waiting number) le is = omega (arith, le, is)
waits_more last more (Ready outcome) le is = tt
waits_more last more Closed le is = tt

module _ (world : World) (all : AllWait world) where
  -- a connection comes to another state
  wait_put : (c last : ℕ) (state : Connection) → last_number world ≤ last → WaitsWithin last state → (d : ℕ) → WaitsWithin last (put world.connections c state d)
  wait_put c last state le is d = of_either (WaitsWithin last) (d == c) state (world.connections d) (λ here. is) (λ other. waits_more (last_number world) last (world.connections d) le (all d))

  wait_moved : (c : ℕ) (state : Connection) → WaitsWithin (last_number world) state → (d : ℕ) → WaitsWithin (last_number world) (put world.connections c state d)
  wait_moved c state is = wait_put c (last_number world) state (omega arith) is

  wait_sent : (failure : Failure) (c : ℕ) (request : Message) → AllWait (sent failure world c request)
  wait_sent OutOfMemory c request = all
  wait_sent Nothing c request = wait_moved c (Requested request) tt
  wait_sent DeviceFailure c request = wait_moved c (Requested request) tt
  wait_sent (Misread given image) c request = wait_moved c (Requested request) tt

  wait_send : (failure : Failure) (c : ℕ) (request : Message) (state : Connection) → AllWait (send failure world c request state)
  wait_send failure c request Idle = wait_sent failure c request
  wait_send failure c request (Requested other) = all
  wait_send failure c request (Waiting number) = all
  wait_send failure c request (Ready outcome) = all
  wait_send failure c request Closed = all

  state_within : (waits : Bool) (last number : ℕ) → number ≤ last → WaitsWithin last (state_after waits number)
  state_within true last number le = le
  state_within false last number le = tt

  -- a command gets the next number
  wait_ordered : (c : ℕ) (request : Message) (command : Change) (d : ℕ)
      → WaitsWithin (world.stage.setting.opening + length (world.stage.order ++ command ∷ []))
      (put world.connections c (state_after (waits_for_store world.stage.setting.mode request) (last_number world + 1)) d)
  wait_ordered c request command =
      let more = length-append world.stage.order (command ∷ []) in
      wait_put c (world.stage.setting.opening + length (world.stage.order ++ command ∷ [])) (state_after (waits_for_store world.stage.setting.mode request) (last_number world + 1)) (omega (arith, more))
      (state_within (waits_for_store world.stage.setting.mode request) _ (last_number world + 1) (omega (arith, more)))

  wait_accepted : (failure : Failure) (image : Image) (c : ℕ) (request : Message) → AllWait (accepted failure image world c request)
  wait_accepted OutOfMemory image c request = wait_moved c (Ready (Refused NoMemory)) tt
  wait_accepted Nothing image c request = wait_ordered c request (becomes (edit_asked request) image)
  wait_accepted DeviceFailure image c request = of_either AllWait (takes_old_bytes (edit_asked request) image) _ _ (λ wants. wait_moved c (Ready (Refused Io)) tt) (λ none. wait_ordered c request (becomes (edit_asked request) image))
  wait_accepted (Misread given other) image c request = wait_accepted given image c request

  wait_shown : (image : Image) (c : ℕ) (request : Message) → AllWait (shown image world c request)
  wait_shown image c request = wait_moved c (Ready (shown_by image request.head)) tt

  wait_read : (failure : Failure) (c : ℕ) (request : Message) → AllWait (read_served failure world c request)
  wait_read OutOfMemory c request = wait_moved c (Ready (Refused NoMemory)) tt
  wait_read DeviceFailure c request = wait_moved c (Ready (Refused Io)) tt
  wait_read Nothing c request = wait_shown (image_shown Nothing world.stage) c request
  wait_read (Misread given image) c request = wait_shown (image_shown (Misread given image) world.stage) c request

  wait_status : (failure : Failure) (c : ℕ) (request : Message) → AllWait (status_served failure world c request)
  wait_status OutOfMemory c request = wait_moved c (Ready (Refused NoMemory)) tt
  wait_status DeviceFailure c request = wait_shown (image_shown DeviceFailure world.stage) c request
  wait_status Nothing c request = wait_shown (image_shown Nothing world.stage) c request
  wait_status (Misread given image) c request = wait_shown (image_shown (Misread given image) world.stage) c request

  wait_passed : (failure : Failure) (c : ℕ) (request : Message) → AllWait (passed failure world c request)
  wait_passed failure c request = of_either AllWait world.stage.stopped _ _ (λ stopped. wait_moved c (Ready (Refused Io)) tt)
      (λ works. of_either AllWait (is_flush request) _ _ (λ flush. wait_moved c (state_after (flush_waits world.stage.setting.mode) (last_number world)) (state_within (flush_waits world.stage.setting.mode) (last_number world) (last_number world) (omega arith)))
      (λ other. of_either AllWait (request.head.kind == 0) _ _ (λ read. wait_read failure c request)
      (λ no_read. of_either AllWait (request.head.kind == 7) _ _ (λ status. wait_status failure c request)
      (λ no_status. of_either AllWait (last_number world == 18446744073709551615) _ _ (λ full. wait_moved c (Ready (Refused NoSpace)) tt)
      (λ left. of_either AllWait (has_room world (becomes (edit_asked request) (image_shown failure world.stage))) _ _ (λ room. wait_accepted failure (image_shown failure world.stage) c request) (λ none. all))))))

  wait_judged : (given : Result Action Errno) (failure : Failure) (c : ℕ) (request : Message) → AllWait (judged given failure world c request)
  wait_judged (Ok End) failure c request = wait_moved c Closed tt
  wait_judged (Ok Serve) failure c request = wait_passed failure c request
  wait_judged (Err errno) failure c request = wait_moved c (Ready (Refused errno)) tt

  wait_serve : (failure : Failure) (c : ℕ) (state : Connection) → AllWait (serve failure world c state)
  wait_serve failure c (Requested request) = wait_judged (verdict request.head world.stage.setting.geometry world.stage.setting.flags) failure c request
  wait_serve failure c Idle = all
  wait_serve failure c (Waiting number) = all
  wait_serve failure c (Ready outcome) = all
  wait_serve failure c Closed = all

  wait_answer : (c : ℕ) (state : Connection) → AllWait (answer world c state)
  wait_answer c (Ready outcome) = wait_moved c Idle tt
  wait_answer c (Waiting number) = of_either AllWait (nat_le number (world.stage.setting.opening + world.stage.durable)) _ _ (λ reached. wait_moved c Idle tt)
      (λ above. of_either AllWait world.stage.stopped _ _ (λ stopped. wait_moved c Idle tt) (λ works. all))
  wait_answer c Idle = all
  wait_answer c (Requested request) = all
  wait_answer c Closed = all

  wait_sealed : (failure : Failure) → AllWait (sealed_more failure world)
  wait_sealed OutOfMemory = all
  wait_sealed Nothing = all
  wait_sealed DeviceFailure = all
  wait_sealed (Misread given image) = all

  wait_written : (failure : Failure) (stage : Stage) → AllWait (written failure world (record stage { setting = world.stage.setting; order = world.stage.order }))
  wait_written OutOfMemory stage = all
  wait_written Nothing stage = all
  wait_written DeviceFailure stage = all
  wait_written (Misread given image) stage = all

  wait_append : (failure : Failure) → AllWait (append failure world)
  wait_append failure = of_either AllWait (nat_lt world.stage.stored world.stage.sealed) _ _
      (λ hand. of_either AllWait world.stage.stopped _ _ (λ stopped. all)
      (λ works. of_either AllWait (fits world) _ _ (λ fit. wait_written failure (record world.stage { stored = world.stage.sealed; at = world.stage.at + 17 + bodies_bytes (in_hand world) })) (λ full. all))) (λ none. all)

  wait_in_time : (is_time : Bool) (next : World) → AllWait next → AllWait (in_time is_time world next)
  wait_in_time is_time next is = of_either AllWait world.stage.stopped _ _ (λ stopped. all) (λ works. of_either AllWait is_time next _ (λ now. is) (λ not_now. all))

  wait_full : (next : World) → AllWait next → AllWait (with_generation world next)
  wait_full next is = of_either AllWait (is_full world.stage) _ next (λ full. all) (λ room. is)

  wait_finished : (failure : Failure) (turned : List ℕ) → AllWait (written failure world (finished world.stage turned))
  wait_finished failure [] = wait_written failure world.stage
  wait_finished failure (first ∷ rest) = wait_written failure (finished world.stage (first ∷ rest))

  wait_step : (step : Step) (failure : Failure) → AllWait (after_step world step failure)
  wait_step (steps.Send c request) failure = wait_send failure c request (world.connections c)
  wait_step (steps.Serve c) failure = wait_serve failure c (world.connections c)
  wait_step (steps.Answer c) failure = wait_answer c (world.connections c)
  wait_step steps.Seal failure = of_either AllWait (nat_lt world.stage.sealed (length world.stage.order) && (world.stage.sealed == world.stage.durable)) _ _
      (λ pending. wait_sealed failure) (λ none. all)
  wait_step steps.Append failure = wait_append failure
  wait_step steps.Publish failure = of_either AllWait (nat_lt world.stage.durable world.stage.stored) _ _ (λ more. all) (λ none. all)
  wait_step steps.Rotate failure = wait_in_time (can_rotate world.stage) _ (wait_full _ (wait_written failure (rotated world.stage)))
  wait_step steps.Copy failure = wait_in_time (can_copy world.stage) _ (wait_written failure (record world.stage { left = world.stage.left - 1 }))
  wait_step steps.Map failure = wait_in_time (can_map world.stage) _ (wait_written failure (record world.stage { mapped = true }))
  wait_step steps.Finish failure = wait_in_time (can_finish world.stage) _ (wait_full _ (wait_finished (without_memory failure) world.stage.turned))
  wait_step steps.Clean failure = of_either AllWait (can_clean world.stage) _ _ (λ more. all) (λ none. all)

wait_fresh : (setting : Setting) → AllWait (fresh setting)
wait_fresh setting c = of_either (WaitsWithin (last_number (fresh setting))) (nat_lt c setting.connections) Idle Closed (λ inside. tt) (λ outside. tt)

all_wait : (world : World) → IsReached world → AllWait world
all_wait world (Fresh setting) = wait_fresh setting
all_wait world (After {world = before} step failure reached) = wait_step before (all_wait before reached) step failure

-- a client that waits, in a world that schedules lead to, waits for a number of its order
pub waiting_reached : (world : World) → IsReached world → (connection number : ℕ) → world.connections connection ≡ Waiting number → number ≤ last_number world
waiting_reached world reached connection number is = subst (WaitsWithin (last_number world)) is (all_wait world reached connection)
