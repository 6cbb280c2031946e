-- what schedules lead to
use Rattle.std.proofs.Common.{◌≡◌, ℕ, ◌+◌, ◌≤◌, ◌==◌, ◌&&◌, Bool, true, nat_le, nat_lt, Result, Ok, Err, List, [], ◌∷◌, ◌++◌, append_assoc, append-nil, length, length-append, sym, ◌∙◌, ap, subst, refl, arith}
use Rattle.std.proofs.lemmas.Bool.{ltb-true}
use Rattle.image_model.specs.Change.{Change}
use Rattle.image_model.specs.Edit.{becomes}
use Rattle.nbd_wire.specs.Request.{Message}
use Rattle.nbd_wire.specs.declared.error.Errno.{Errno}
use Rattle.nbd_wire.specs.declared.error.Errno.TheVariants.{Io, NoMemory, NoSpace}
use Rattle.export_model.specs.declared.action.Action.{Action}
use Rattle.export_model.specs.declared.action.Action.TheVariants.{End, Serve}
use Rattle.export_model.specs.declared.connection.Connection.{Connection}
use Rattle.export_model.specs.declared.connection.Connection.TheVariants.{Idle, Requested, Waiting, Ready, Closed}
use Rattle.export_model.specs.declared.event.Event.{Event}
use Rattle.export_model.specs.declared.event.Event.TheVariants.{Answered, Took, Skipped, Failed}
use Rattle.export_model.specs.declared.event.StepFault.{StepFault}
use Rattle.export_model.specs.declared.event.StepFault.TheVariants as fault
use Rattle.nbd_wire.specs.declared.message.Answer.TheVariants.{Done, Refused}
use Rattle.export_model.specs.declared.step.Step.{Step}
use Rattle.export_model.specs.declared.step.Step.TheVariants as steps
use Rattle.export_model.specs.Log.{edit_asked, flush_waits, is_flush}
use Rattle.export_model.specs.Run.{IsReached, IsRun, Fresh, After}
use Rattle.export_model.specs.Serve.{Failure, Nothing, OutOfMemory, DeviceFailure, logged, held, moved, ready, ordered, accepted, passed, judged, serve, answer, staged, faulted, Misread, image_shown, shown, read_served, state_after, status_served, takes_old_bytes}
use Rattle.export_model.specs.Checkpoint.{can_rotate, can_copy, can_map, can_finish, can_clean, is_full, finished}
use Rattle.export_model.specs.Step.{sent, send, sealed_more, put_back, written, append, publish, in_time, with_generation, without_memory, after_step}
use Rattle.export_model.specs.Verdict.{verdict}
use Rattle.image_model.specs.Image.{Image}
use Rattle.export_model.specs.World.{World, Stage, last_number, has_room, fits}
use Rattle.export_model.specs.Law.{Grows, IsRising, IsWithin}
use Rattle.export_model.specs.laws.Logged.{put_other}
use Rattle.export_model.specs.laws.Sound.{IsSound}
use Rattle.export_model.specs.laws.Steps.{of_either, sound_fresh, sound_step}
use Rattle.export_model.specs.laws.Within.{within_step}

-- what schedules lead to is sound
pub sound_reached : (world : World) → IsReached world → IsSound world
sound_reached world (Fresh setting) = sound_fresh setting
sound_reached world (After {world = before} step failure reached) = sound_step before (sound_reached before reached) step failure

-- where a run goes on
pub reached_run : (world last : World) (steps : List Step) → IsRun world steps last → IsReached world → IsReached last
reached_run world last [] is reached = subst IsReached (sym is) reached
reached_run world last (step ∷ steps) run reached = reached_run (after_step world step run.0) last steps run.1 (After step run.0 reached)

-- a step that orders no command
grows_plain : (world next : World) (event : Event) → next.stage.setting ≡ world.stage.setting → next.log ≡ world.log ++ event ∷ [] → next.stage.order ≡ world.stage.order
    → next.paired ≡ world.paired → world.stage.stored ≤ next.stage.stored → world.stage.durable ≤ next.stage.durable → (IsWithin world → world.stage.base ≤ next.stage.base)
    → (IsWithin world → world.stage.cleaned ≤ next.stage.cleaned) → world.stage.generation ≤ next.stage.generation → (world.stage.stopped ≡ true → next.stage.stopped ≡ true) → Grows world next
grows_plain world next event setting log order paired stored durable base cleaned generation stopped = record {
  setting = setting;
  log = (event ∷ [], log);
  order = ([], order ∙ sym (append-nil world.stage.order));
  paired = λ k below. ap (λ (f : ℕ → ℕ). f k) paired;
  stored = stored;
  durable = durable;
  base = base;
  cleaned = cleaned;
  generation = generation;
  stopped = stopped;
}

module _ (world : World) where
  grows_held : Grows world (held world)
  grows_held = grows_plain world (held world) Skipped refl refl refl refl (omega arith) (omega arith) (λ within. omega arith) (λ within. omega arith) (omega arith) (λ is. is)

  module _ (c : ℕ) where
    grows_moved : (state : Connection) (event : Event) → Grows world (logged (moved world c state) event)
    grows_moved state event = grows_plain world (logged (moved world c state) event) event refl refl refl refl (omega arith) (omega arith) (λ within. omega arith) (λ within. omega arith) (omega arith) (λ is. is)

    grows_sent : (failure : Failure) (request : Message) → Grows world (sent failure world c request)
    grows_sent OutOfMemory request = grows_plain world (sent OutOfMemory world c request) _ refl refl refl refl (omega arith) (omega arith) (λ within. omega arith) (λ within. omega arith) (omega arith) (λ is. is)
    grows_sent Nothing request = grows_plain world (sent Nothing world c request) _ refl refl refl refl (omega arith) (omega arith) (λ within. omega arith) (λ within. omega arith) (omega arith) (λ is. is)
    grows_sent DeviceFailure request = grows_plain world (sent DeviceFailure world c request) _ refl refl refl refl (omega arith) (omega arith) (λ within. omega arith) (λ within. omega arith) (omega arith) (λ is. is)
    grows_sent (Misread given image) request = grows_plain world (sent (Misread given image) world c request) _ refl refl refl refl (omega arith) (omega arith) (λ within. omega arith) (λ within. omega arith) (omega arith) (λ is. is)

    grows_send : (failure : Failure) (request : Message) (state : Connection) → Grows world (send failure world c request state)
    grows_send failure request Idle = grows_sent failure request
    grows_send failure request (Requested other) = grows_held
    grows_send failure request (Waiting number) = grows_held
    grows_send failure request (Ready outcome) = grows_held
    grows_send failure request Closed = grows_held

    grows_numbered : (command : Change) (state : Connection) (event : Event) → Grows world (logged (moved (ordered world c command) c state) event)
    grows_numbered command state event = record {
      setting = refl;
      log = (event ∷ [], refl);
      order = (command ∷ [], refl);
      paired = λ k below. put_other world.paired (length world.stage.order) (world.places c) k (λ is. omega (arith, is, below));
      stored = omega arith;
      durable = omega arith;
      base = λ within. omega arith;
      cleaned = λ within. omega arith;
      generation = omega arith;
      stopped = λ is. is;
    }

    grows_fault : Grows world (ready (faulted world) c (Refused Io))
    grows_fault = grows_plain world (ready (faulted world) c (Refused Io)) _ refl refl refl refl (omega arith) (omega arith) (λ within. omega arith) (λ within. omega arith) (omega arith) (λ is. refl)

    grows_accepted : (failure : Failure) (image : Image) (request : Message) → Grows world (accepted failure image world c request)
    grows_accepted OutOfMemory image request = grows_moved (Ready (Refused NoMemory)) Took
    grows_accepted Nothing image request = grows_numbered (becomes (edit_asked request) image) _ _
    grows_accepted DeviceFailure image request = of_either (Grows world) (takes_old_bytes (edit_asked request) image) _ _ (λ wants. grows_fault) (λ none. grows_numbered (becomes (edit_asked request) image) _ _)
    grows_accepted (Misread given other) image request = grows_accepted given image request

    grows_shown : (image : Image) (request : Message) → Grows world (shown image world c request)
    grows_shown image request = grows_plain world (shown image world c request) _ refl refl refl refl (omega arith) (omega arith) (λ within. omega arith) (λ within. omega arith) (omega arith) (λ is. is)

    grows_read : (failure : Failure) (request : Message) → Grows world (read_served failure world c request)
    grows_read OutOfMemory request = grows_moved (Ready (Refused NoMemory)) Took
    grows_read DeviceFailure request = grows_fault
    grows_read Nothing request = grows_shown (image_shown Nothing world.stage) request
    grows_read (Misread given image) request = grows_shown (image_shown (Misread given image) world.stage) request

    grows_status : (failure : Failure) (request : Message) → Grows world (status_served failure world c request)
    grows_status OutOfMemory request = grows_moved (Ready (Refused NoMemory)) Took
    grows_status DeviceFailure request = grows_shown (image_shown DeviceFailure world.stage) request
    grows_status Nothing request = grows_shown (image_shown Nothing world.stage) request
    grows_status (Misread given image) request = grows_shown (image_shown (Misread given image) world.stage) request

    grows_passed : (failure : Failure) (request : Message) → Grows world (passed failure world c request)
    grows_passed failure request = of_either (Grows world) world.stage.stopped _ _ (λ stopped. grows_moved (Ready (Refused Io)) Took)
        (λ works. of_either (Grows world) (is_flush request) _ _ (λ flush. grows_moved (state_after (flush_waits world.stage.setting.mode) (last_number world)) Took)
        (λ other. of_either (Grows world) (request.head.kind == 0) _ _ (λ read. grows_read failure request)
        (λ no_read. of_either (Grows world) (request.head.kind == 7) _ _ (λ status. grows_status failure request)
        (λ no_status. of_either (Grows world) (last_number world == 18446744073709551615) _ _ (λ full. grows_moved (Ready (Refused NoSpace)) Took)
        (λ left. of_either (Grows world) (has_room world (becomes (edit_asked request) (image_shown failure world.stage))) _ _ (λ room. grows_accepted failure (image_shown failure world.stage) request) (λ none. grows_held))))))

    grows_judged : (result : Result Action Errno) (failure : Failure) (request : Message) → Grows world (judged result failure world c request)
    grows_judged (Ok End) failure request = grows_moved Closed Took
    grows_judged (Ok Serve) failure request = grows_passed failure request
    grows_judged (Err errno) failure request = grows_moved (Ready (Refused errno)) Took

    grows_serve : (failure : Failure) (state : Connection) → Grows world (serve failure world c state)
    grows_serve failure (Requested request) = grows_judged (verdict request.head world.stage.setting.geometry world.stage.setting.flags) failure request
    grows_serve failure Idle = grows_held
    grows_serve failure (Waiting number) = grows_held
    grows_serve failure (Ready outcome) = grows_held
    grows_serve failure Closed = grows_held

    grows_answer : (state : Connection) → Grows world (answer world c state)
    grows_answer (Ready outcome) = grows_moved Idle (Answered c outcome)
    grows_answer (Waiting number) = of_either (Grows world) (nat_le number (world.stage.setting.opening + world.stage.durable)) _ _ (λ reached. grows_moved Idle (Answered c Done))
        (λ above. of_either (Grows world) world.stage.stopped _ _ (λ stopped. grows_moved Idle (Answered c (Refused Io))) (λ works. grows_held))
    grows_answer Idle = grows_held
    grows_answer (Requested request) = grows_held
    grows_answer Closed = grows_held

  grows_sealed : (failure : Failure) → Grows world (sealed_more failure world)
  grows_sealed OutOfMemory = grows_plain world (sealed_more OutOfMemory world) _ refl refl refl refl (omega arith) (omega arith) (λ within. omega arith) (λ within. omega arith) (omega arith) (λ is. is)
  grows_sealed Nothing = grows_plain world (sealed_more Nothing world) Took refl refl refl refl (omega arith) (omega arith) (λ within. omega arith) (λ within. omega arith) (omega arith) (λ is. is)
  grows_sealed DeviceFailure = grows_plain world (sealed_more DeviceFailure world) Took refl refl refl refl (omega arith) (omega arith) (λ within. omega arith) (λ within. omega arith) (omega arith) (λ is. is)
  grows_sealed (Misread given image) = grows_plain world (sealed_more (Misread given image) world) Took refl refl refl refl (omega arith) (omega arith) (λ within. omega arith) (λ within. omega arith) (omega arith) (λ is. is)

  grows_failed : (fault : StepFault) → Grows world (logged world (Failed fault))
  grows_failed fault = grows_plain world (logged world (Failed fault)) _ refl refl refl refl (omega arith) (omega arith) (λ within. omega arith) (λ within. omega arith) (omega arith) (λ is. is)

  grows_written : (failure : Failure) (stage : Stage) → Grows world (logged (staged world stage) Took) → Grows world (written failure world stage)
  grows_written Nothing stage is = is
  grows_written OutOfMemory stage is = grows_failed fault.NoMemory
  grows_written (Misread given image) stage is = is
  grows_written DeviceFailure stage is = grows_plain world (logged (faulted world) (Failed fault.DeviceFault)) _ refl refl refl refl (omega arith) (omega arith) (λ within. omega arith) (λ within. omega arith) (omega arith) (λ is. refl)

  grows_back : (event : Event) → Grows world (logged (put_back world) event)
  grows_back event = grows_plain world (logged (put_back world) event) event refl refl refl refl (omega arith) (omega arith) (λ within. omega arith) (λ within. omega arith) (omega arith) (λ is. is)

  grows_append : (failure : Failure) → Grows world (append failure world)
  grows_append failure = of_either (Grows world) (nat_lt world.stage.stored world.stage.sealed) _ _
      (λ hand. of_either (Grows world) world.stage.stopped _ _ (λ stopped. grows_back _)
      (λ works. of_either (Grows world) (fits world) _ _ (λ fit. let more = ltb-true world.stage.stored world.stage.sealed hand in
      grows_written failure _ (grows_plain world _ Took refl refl refl refl (omega (arith, more)) (omega arith) (λ within. omega arith) (λ within. omega arith) (omega arith) (λ is. is))) (λ full. grows_back Skipped)))
      (λ none. grows_held)

  -- what a checkpoint comes to
  grows_turned : (base : ℕ) (turned : List ℕ) (left : ℕ) (mapped : Bool) (cleaned at generation : ℕ) → (IsWithin world → world.stage.base ≤ base)
      → (IsWithin world → world.stage.cleaned ≤ cleaned) → world.stage.generation ≤ generation
      → Grows world (logged (staged world (record world.stage { base = base; turned = turned; left = left; mapped = mapped; cleaned = cleaned; at = at; generation = generation })) Took)
  grows_turned base turned left mapped cleaned at generation first second third = grows_plain world _ Took refl refl refl refl (omega arith) (omega arith) first second third (λ is. is)

  grows_in_time : (is_time : Bool) (next : World) → Grows world next → Grows world (in_time is_time world next)
  grows_in_time is_time next is = of_either (Grows world) world.stage.stopped _ _ (λ stopped. grows_failed fault.FailedBefore)
      (λ works. of_either (Grows world) is_time next _ (λ now. is) (λ not_now. grows_held))

  grows_full : (next : World) → Grows world next → Grows world (with_generation world next)
  grows_full next is = of_either (Grows world) (is_full world.stage) _ next (λ full. grows_failed fault.NumbersFull) (λ room. is)

  grows_finished : (turned : List ℕ) → world.stage.turned ≡ turned → Grows world (logged (staged world (finished world.stage turned)) Took)
  grows_finished [] is = grows_plain world _ Took refl refl refl refl (omega arith) (omega arith) (λ within. omega arith) (λ within. omega arith) (omega arith) (λ is. is)
  grows_finished (first ∷ rest) is = grows_turned _ _ _ _ _ _ _ through (λ within. omega arith) (omega arith)
    where
      through : IsWithin world → world.stage.base ≤ first
      through within = let above = (subst (λ (turned : List ℕ). IsRising world.stage.base turned world.stage.stored) is within.rising).0 in omega (arith, above)

  grows_publish : Grows world (publish world)
  grows_publish = of_either (Grows world) (nat_lt world.stage.durable world.stage.stored) _ _
      (λ more. let above = ltb-true world.stage.durable world.stage.stored more in
      grows_plain world (logged (staged world (record world.stage { durable = world.stage.stored })) Took) Took refl refl refl refl (omega arith) (omega (arith, above)) (λ within. omega arith) (λ within. omega arith) (omega arith) (λ is. is))
      (λ none. grows_held)

  pub grows_step : (step : Step) (failure : Failure) → Grows world (after_step world step failure)
  grows_step (steps.Send c request) failure = grows_send c failure request (world.connections c)
  grows_step (steps.Serve c) failure = grows_serve c failure (world.connections c)
  grows_step (steps.Answer c) failure = grows_answer c (world.connections c)
  grows_step steps.Seal failure = of_either (Grows world) (nat_lt world.stage.sealed (length world.stage.order) && (world.stage.sealed == world.stage.durable)) _ _
      (λ pending. grows_sealed failure) (λ none. grows_held)
  grows_step steps.Append failure = grows_append failure
  grows_step steps.Publish failure = grows_publish
  grows_step steps.Rotate failure = grows_in_time (can_rotate world.stage) _ (grows_full _ (grows_written failure _ (grows_turned _ _ _ _ _ _ _ (λ within. omega arith) (λ within. omega arith) (omega arith))))
  grows_step steps.Copy failure = grows_in_time (can_copy world.stage) _ (grows_written failure _ (grows_turned _ _ _ _ _ _ _ (λ within. omega arith) (λ within. omega arith) (omega arith)))
  grows_step steps.Map failure = grows_in_time (can_map world.stage) _ (grows_written failure _ (grows_turned _ _ _ _ _ _ _ (λ within. omega arith) (λ within. omega arith) (omega arith)))
  grows_step steps.Finish failure = grows_in_time (can_finish world.stage) _ (grows_full _ (grows_written (without_memory failure) _ (grows_finished world.stage.turned refl)))
  grows_step steps.Clean failure = of_either (Grows world) (can_clean world.stage) _ _ (λ more. grows_turned _ _ _ _ _ _ _ (λ within. omega arith) (λ within. within.cleaned) (omega arith)) (λ none. grows_held)

grows_same : (world last : World) → last ≡ world → Grows world last
grows_same world last is = subst (Grows world) (sym is) (record {
  setting = refl;
  log = ([], sym (append-nil world.log));
  order = ([], sym (append-nil world.stage.order));
  paired = λ k below. refl;
  stored = omega arith;
  durable = omega arith;
  base = λ within. omega arith;
  cleaned = λ within. omega arith;
  generation = omega arith;
  stopped = λ stopped. stopped;
})

grows_on : (world next last : World) → (IsWithin world → IsWithin next) → Grows world next → Grows next last → Grows world last
grows_on world next last on one two = record {
  setting = two.setting ∙ one.setting;
  log = (one.log.0 ++ two.log.0, two.log.1 ∙ (ap (λ (l : List Event). l ++ two.log.0) one.log.1 ∙ append_assoc world.log one.log.0 two.log.0));
  order = (one.order.0 ++ two.order.0, two.order.1 ∙ (ap (λ (l : List Change). l ++ two.order.0) one.order.1 ∙ append_assoc world.stage.order one.order.0 two.order.0));
  paired = λ k below. two.paired k (let longer = ap length one.order.1 in omega (arith, longer, length-append world.stage.order one.order.0, below)) ∙ one.paired k below;
  stored = let a = one.stored in let b = two.stored in omega arith;
  durable = let a = one.durable in let b = two.durable in omega arith;
  base = λ within. let a = one.base within in let b = two.base (on within) in omega (arith, a, b);
  cleaned = λ within. let a = one.cleaned within in let b = two.cleaned (on within) in omega (arith, a, b);
  generation = let a = one.generation in let b = two.generation in omega (arith, a, b);
  stopped = λ is. two.stopped (one.stopped is);
}

pub grows_run : (world last : World) (steps : List Step) → IsRun world steps last → Grows world last
grows_run world last [] is = grows_same world last is
grows_run world last (step ∷ steps) run = grows_on world (after_step world step run.0) last (λ within. within_step world within step run.0) (grows_step world step run.0) (grows_run (after_step world step run.0) last steps run.1)
