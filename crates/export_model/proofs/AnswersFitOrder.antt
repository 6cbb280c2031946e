-- the answers that show an image fit the order
use Rattle.std.proofs.Common.{◌≡◌, ℕ, ◌+◌, ◌-◌, ◌==◌, ◌&&◌, Bool, true, false, if◌then◌else◌, nat_le, nat_lt, Result, Ok, Err, List, [], ◌∷◌, length, sym, ◌∙◌, ap, subst, refl, arith}
use Rattle.std.proofs.lemmas.Bool.{both_ways, false_from_ne_true, or_from}
use Rattle.image_model.specs.Bodies.{bodies_bytes}
use Rattle.image_model.specs.Change.{Change}
use Rattle.image_model.specs.Edit.{becomes}
use Rattle.image_model.specs.Image.{Image}
use Rattle.nbd_wire.specs.Request.{Message}
use Rattle.nbd_wire.specs.declared.error.Errno.{Errno}
use Rattle.nbd_wire.specs.declared.error.Errno.TheVariants.{Io, NoMemory, NoSpace}
use Rattle.nbd_wire.specs.declared.message.Answer.{Answer}
use Rattle.nbd_wire.specs.declared.message.Answer.TheVariants.{Done, Refused, Bytes, States}
use Rattle.export_model.specs.declared.action.Action.{Action}
use Rattle.export_model.specs.declared.action.Action.TheVariants.{End, Serve}
use Rattle.export_model.specs.declared.connection.Connection.{Connection}
use Rattle.export_model.specs.declared.connection.Connection.TheVariants.{Idle, Requested, Waiting, Ready, Closed}
use Rattle.export_model.specs.declared.event.Event.{Event}
use Rattle.export_model.specs.declared.event.Event.TheVariants.{Sent, Numbered, Took, Skipped, Failed}
use Rattle.export_model.specs.declared.event.StepFault.{StepFault}
use Rattle.export_model.specs.declared.event.StepFault.TheVariants as fault
use Rattle.export_model.specs.declared.step.Step.{Step}
use Rattle.export_model.specs.declared.step.Step.TheVariants as steps
use Rattle.export_model.specs.Checkpoint.{can_rotate, can_copy, can_map, can_finish, can_clean, is_full, finished, rotated}
use Rattle.export_model.specs.Fits.{ReadsFit}
use Rattle.export_model.specs.Log.{StandsAt, IsAnswered, edit_asked, flush_waits, is_flush, is_read, waits_for_store}
use Rattle.export_model.specs.Run.{IsReached, Fresh, After}
use Rattle.export_model.specs.Serve.{Failure, Nothing, OutOfMemory, DeviceFailure, Misread, accepted, answer, answered, faulted, held, image_shown, judged, logged, moved, ordered, passed, read_served, ready, serve, shown, state_after, status_served, write_served, takes_old_bytes}
use Rattle.export_model.specs.Shown.{shown_by}
use Rattle.export_model.specs.Step.{after_step, in_time, put_back, send, with_generation, written, without_memory, sealed_more, append}
use Rattle.export_model.specs.Verdict.{verdict}
use Rattle.export_model.specs.World.{World, Stage, Setting, fits, fresh, has_room, image_after, in_hand, last_number, put}
use Rattle.export_model.specs.laws.Fit as law
use Rattle.export_model.specs.laws.Logged.{IsQuiet, put_same}
use Rattle.export_model.proofs.SchedulesKeepWorld.{sound_reached}
use Rattle.export_model.specs.laws.Sound.{IsOpen, IsSound, IsRight, facts_of, one_event}
use Rattle.export_model.specs.laws.Steps.{of_either, quiet_failed, quiet_held, quiet_numbered, quiet_took}
use Rattle.export_model.specs.laws.Talk.{flush_no_read}

-- whether the device is trusted is told by the setting, which no step changes
abbrev Trusted : World → Type 0
Trusted world = world.stage.setting.trusted ≡ true

abbrev Fits : World → Type 0
Fits world = law.Fits (Trusted world) world

abbrev IsDue : World → ℕ → Connection → Type 0
IsDue world c state = law.IsDue (Trusted world) (law.facts (Trusted world) world) c (world.places c) state

fit_quiet : (world : World) (event : Event) → IsQuiet event → Fits world → Fits (logged world event)
fit_quiet world event quiet fit = law.fit_quiet (Trusted world) world event quiet fit

fit_moved : (world : World) (c : ℕ) (state : Connection) → Fits world → IsDue world c state → Fits (moved world c state)
fit_moved world c state fit is = law.fit_moved (Trusted world) world c state fit is

-- an open request is answered with what an image shows
module _ (world : World) (c : ℕ) (request : Message) (is_open : IsOpen world.log c (world.places c) request) (asks : world.connections c ≡ Requested request) where
  -- the count of the open request is that of all commands
  abbrev counted : World
  counted = record world { shown = put world.shown (world.places c) (length world.stage.order) }

  fit_shown : (image : Image) → (Trusted world → image ≡ image_after world.stage.order (length world.stage.order) world.stage.setting.image)
      → Fits world → Fits (shown image world c request)
  fit_shown image true_image fit =
      fit_quiet (moved counted c (Ready (shown_by image request.head))) Took quiet_took (fit_moved counted c (Ready (shown_by image request.head)) fit_counted own)
    where
      fit_counted : Fits counted
      fit_counted = law.fit_counted (Trusted world) world c request (length world.stage.order) (omega arith) is_open asks fit

      here : counted.shown (world.places c) ≡ length world.stage.order
      here = put_same world.shown (world.places c) (length world.stage.order)

      own : IsDue counted c (Ready (shown_by image request.head))
      own asked at read given =
          let same = one_event world.log (world.places c) (Sent c request) (Sent c asked) is_open.sent at in
          let asked_is : request ≡ asked = cc in
          subst (λ (r : Message). law.Shows (Trusted world) (law.facts (Trusted world) counted) (world.places c) r (shown_by image request.head)) asked_is (record {
            shows = λ trusted. ap (λ (i : Image). shown_by i request.head) (true_image trusted ∙ ap (λ (n : ℕ). image_after world.stage.order n world.stage.setting.image) (sym here));
            after = λ k connection answer other below told before. omega (arith, here, below);
            rising = λ earlier told before. let most = fit_counted.within earlier in omega (arith, here, most);
          })

-- where the device is trusted what is shown is the image after all of the order
pub shown_true : (failure : Failure) (stage : Stage) → stage.setting.trusted ≡ true → image_shown failure stage ≡ image_after stage.order (length stage.order) stage.setting.image
shown_true Nothing stage trusted = refl
shown_true OutOfMemory stage trusted = refl
shown_true DeviceFailure stage trusted = refl
shown_true (Misread given image) stage trusted = ap (λ (b : Bool). if b then image_after stage.order (length stage.order) stage.setting.image else image) trusted

module _ (world : World) (c : ℕ) (sound : IsSound world) (fit : Fits world) where
  fit_held : Fits (held world)
  fit_held = fit_quiet world Skipped quiet_held fit

  fit_ready : (errno : Errno) → Fits (ready world c (Refused errno))
  fit_ready errno = fit_quiet (moved world c (Ready (Refused errno))) Took quiet_took (fit_moved world c (Ready (Refused errno)) fit (λ request at read given. absurd (given errno refl)))

  module _ (request : Message) (is_open : IsOpen world.log c (world.places c) request) (asks : world.connections c ≡ Requested request) where
    asked_own : (asked : Message) → StandsAt world.log (world.places c) (Sent c asked) → asked ≡ request
    asked_own asked at = let same = one_event world.log (world.places c) (Sent c asked) (Sent c request) at is_open.sent in cc

    stands : (next : World) → next.log ≡ world.log → next.places c ≡ world.places c → (asked : Message) → StandsAt next.log (next.places c) (Sent c asked) → StandsAt world.log (world.places c) (Sent c asked)
    stands next log place asked at = subst (λ (p : ℕ). StandsAt world.log p (Sent c asked)) place (subst (λ (l : List Event). StandsAt l (next.places c) (Sent c asked)) log at)

    no_read : (asked : Message) → StandsAt world.log (world.places c) (Sent c asked) → is_read request ≡ false → is_read asked ≡ true → ⊥
    no_read asked at other read = both_ways (is_read request) other (subst (λ (r : Message). is_read r ≡ true) (asked_own asked at) read)

    -- a request that is none of the two is answered otherwise
    due_after : (next : World) (waits : Bool) (number : ℕ) → next.log ≡ world.log → next.places c ≡ world.places c → is_read request ≡ false → IsDue next c (state_after waits number)
    due_after next true number log place other = λ asked at read. no_read asked (stands next log place asked at) other read
    due_after next false number log place other = λ asked at read told. absurd (no_read asked (stands next log place asked at) other read)

    fit_numbered : (command : Change) → is_read request ≡ false → Fits (logged (moved (ordered world c command) c (state_after (waits_for_store world.stage.setting.mode request) (last_number world + 1))) (Numbered c (last_number world + 1)))
    fit_numbered command other =
        let state = state_after (waits_for_store world.stage.setting.mode request) (last_number world + 1) in
        fit_quiet (moved (ordered world c command) c state) (Numbered c (last_number world + 1)) (quiet_numbered c (last_number world + 1))
        (fit_moved (ordered world c command) c state (law.fit_ordered (Trusted world) world c request command is_open fit)
        (due_after (ordered world c command) (waits_for_store world.stage.setting.mode request) (last_number world + 1) refl refl other))

    fit_fault : Fits (ready (faulted world) c (Refused Io))
    fit_fault = fit_quiet (moved (faulted world) c (Ready (Refused Io))) Took quiet_took (fit_moved (faulted world) c (Ready (Refused Io)) fit (λ asked at read given. absurd (given Io refl)))

    fit_accepted : (failure : Failure) (image : Image) → is_read request ≡ false → Fits (accepted failure image world c request)
    fit_accepted OutOfMemory image other = fit_ready NoMemory
    fit_accepted Nothing image other = fit_numbered (becomes (edit_asked request) image) other
    fit_accepted DeviceFailure image other = of_either Fits (takes_old_bytes (edit_asked request) image) _ _ (λ wants. fit_fault) (λ none. fit_numbered (becomes (edit_asked request) image) other)
    fit_accepted (Misread given shown) image other = fit_accepted given image other

    fit_read : (failure : Failure) → Fits (read_served failure world c request)
    fit_read OutOfMemory = fit_ready NoMemory
    fit_read DeviceFailure = fit_fault
    fit_read Nothing = fit_shown world c request is_open asks (image_shown Nothing world.stage) (shown_true Nothing world.stage) fit
    fit_read (Misread given image) = fit_shown world c request is_open asks (image_shown (Misread given image) world.stage) (shown_true (Misread given image) world.stage) fit

    fit_status : (failure : Failure) → Fits (status_served failure world c request)
    fit_status OutOfMemory = fit_ready NoMemory
    fit_status DeviceFailure = fit_shown world c request is_open asks (image_shown DeviceFailure world.stage) (shown_true DeviceFailure world.stage) fit
    fit_status Nothing = fit_shown world c request is_open asks (image_shown Nothing world.stage) (shown_true Nothing world.stage) fit
    fit_status (Misread given image) = fit_shown world c request is_open asks (image_shown (Misread given image) world.stage) (shown_true (Misread given image) world.stage) fit

    fit_write : (failure : Failure) (image : Image) → is_read request ≡ false → Fits (write_served failure image world c request)
    fit_write failure image other = of_either Fits (last_number world == 18446744073709551615) (ready world c (Refused NoSpace)) (if has_room world (becomes (edit_asked request) image) then accepted failure image world c request else held world)
        (λ full. fit_ready NoSpace)
        (λ left. of_either Fits (has_room world (becomes (edit_asked request) image)) (accepted failure image world c request) (held world) (λ room. fit_accepted failure image other) (λ none. fit_held))

    -- a request that is no FLUSH
    abbrev asked : Failure → World
    asked failure = if request.head.kind == 0 then read_served failure world c request
        else (if request.head.kind == 7 then status_served failure world c request else write_served failure (image_shown failure world.stage) world c request)

    fit_asked : (failure : Failure) → Fits (asked failure)
    fit_asked failure = of_either Fits (request.head.kind == 0) (read_served failure world c request) (if request.head.kind == 7 then status_served failure world c request else write_served failure (image_shown failure world.stage) world c request)
        (λ read. fit_read failure)
        (λ no_bytes. of_either Fits (request.head.kind == 7) (status_served failure world c request) (write_served failure (image_shown failure world.stage) world c request) (λ status. fit_status failure)
        (λ no_status. fit_write failure (image_shown failure world.stage) (or_from (request.head.kind == 0) (request.head.kind == 7) no_bytes no_status)))

    abbrev flushed_state : Connection
    flushed_state = state_after (flush_waits world.stage.setting.mode) (last_number world)

    abbrev flushed : World
    flushed = logged (moved world c flushed_state) Took

    fit_flushed : is_flush request ≡ true → Fits flushed
    fit_flushed flush = fit_quiet (moved world c flushed_state) Took quiet_took
        (fit_moved world c flushed_state fit (due_after world (flush_waits world.stage.setting.mode) (last_number world) refl refl (false_from_ne_true (is_read request) (flush_no_read request flush))))

    fit_passed : (failure : Failure) → Fits (passed failure world c request)
    fit_passed failure = of_either Fits world.stage.stopped (ready world c (Refused Io)) (if is_flush request then flushed else asked failure) (λ stopped. fit_ready Io)
        (λ works. of_either Fits (is_flush request) flushed (asked failure) fit_flushed (λ no_flush. fit_asked failure))

    fit_judged : (result : Result Action Errno) (failure : Failure) → Fits (judged result failure world c request)
    fit_judged (Ok End) failure = fit_quiet (moved world c Closed) Took quiet_took (fit_moved world c Closed fit tt)
    fit_judged (Ok Serve) failure = fit_passed failure
    fit_judged (Err errno) failure = fit_ready errno

  fit_serve : (failure : Failure) (state : Connection) → world.connections c ≡ state → IsRight (facts_of world) c (world.places c) state → Fits (serve failure world c state)
  fit_serve failure (Requested request) is right = fit_judged request right.0 is (verdict request.head world.stage.setting.geometry world.stage.setting.flags) failure
  fit_serve failure Idle is right = fit_held
  fit_serve failure (Waiting number) is right = fit_held
  fit_serve failure (Ready outcome) is right = fit_held
  fit_serve failure Closed is right = fit_held

  fit_told : (request : Message) (outcome : Answer) → IsOpen world.log c (world.places c) request → IsDue world c (Ready outcome) → Fits (answered world c outcome)
  fit_told request outcome is_open due = law.fit_answered (Trusted world) world c request outcome sound is_open fit (due request is_open.sent)

  fit_answer : (state : Connection) → IsRight (facts_of world) c (world.places c) state → IsDue world c state → Fits (answer world c state)
  fit_answer (Ready Done) right due = fit_told right.0 Done right.1 due
  fit_answer (Ready (Refused errno)) right due = fit_told right.0 (Refused errno) right.1 due
  fit_answer (Ready (Bytes read)) right due = fit_told right.0 _ right.1 due
  fit_answer (Ready (States runs)) right due = fit_told right.0 _ right.1 due
  fit_answer (Waiting number) right due = of_either Fits (nat_le number (world.stage.setting.opening + world.stage.durable)) _ _
      (λ reached. law.fit_answered (Trusted world) world c right.0 Done sound right.1 fit (λ read given. absurd (due right.0 right.1.sent read)))
      (λ above. of_either Fits world.stage.stopped _ _
      (λ stopped. law.fit_answered (Trusted world) world c right.0 (Refused Io) sound right.1 fit (λ read given. absurd (given Io refl)))
      (λ works. fit_held))
  fit_answer Idle right due = fit_held
  fit_answer (Requested request) right due = fit_held
  fit_answer Closed right due = fit_held

  fit_send : (failure : Failure) (request : Message) (state : Connection) → Fits (send failure world c request state)
  fit_send OutOfMemory request Idle = fit_quiet world (Failed fault.NoMemory) (quiet_failed fault.NoMemory) fit
  fit_send Nothing request Idle = law.fit_sent (Trusted world) world c request fit
  fit_send DeviceFailure request Idle = law.fit_sent (Trusted world) world c request fit
  fit_send (Misread given image) request Idle = law.fit_sent (Trusted world) world c request fit
  fit_send failure request (Requested other) = fit_held
  fit_send failure request (Waiting number) = fit_held
  fit_send failure request (Ready outcome) = fit_held
  fit_send failure request Closed = fit_held

module _ (world : World) (fit : Fits world) where
  -- order and keeper come to a stage with the same order
  fit_staged : (event : Event) → IsQuiet event → (stage : Stage) → Fits (logged (record world { stage = record stage { setting = world.stage.setting; order = world.stage.order } }) event)
  fit_staged event quiet stage = fit_quiet (record world { stage = record stage { setting = world.stage.setting; order = world.stage.order } }) event quiet fit

  fit_failed : (fault : StepFault) → Fits (logged world (Failed fault))
  fit_failed fault = fit_quiet world (Failed fault) (quiet_failed fault) fit

  fit_none : Fits (held world)
  fit_none = fit_quiet world Skipped quiet_held fit

  fit_sealed : (failure : Failure) → Fits (sealed_more failure world)
  fit_sealed OutOfMemory = fit_failed fault.NoMemory
  fit_sealed Nothing = fit_staged Took quiet_took (sealed_more Nothing world).stage
  fit_sealed DeviceFailure = fit_staged Took quiet_took (sealed_more DeviceFailure world).stage
  fit_sealed (Misread given image) = fit_staged Took quiet_took (sealed_more (Misread given image) world).stage

  fit_written : (failure : Failure) (stage : Stage) → Fits (written failure world (record stage { setting = world.stage.setting; order = world.stage.order }))
  fit_written Nothing stage = fit_staged Took quiet_took stage
  fit_written OutOfMemory stage = fit_failed fault.NoMemory
  fit_written DeviceFailure stage = fit_staged (Failed fault.DeviceFault) (quiet_failed fault.DeviceFault) (faulted world).stage
  fit_written (Misread given image) stage = fit_staged Took quiet_took stage

  fit_append : (failure : Failure) → Fits (append failure world)
  fit_append failure = of_either Fits (nat_lt world.stage.stored world.stage.sealed) _ _
      (λ hand. of_either Fits world.stage.stopped _ _ (λ stopped. fit_staged (Failed fault.FailedBefore) (quiet_failed fault.FailedBefore) (put_back world).stage)
      (λ works. of_either Fits (fits world) _ _ (λ room. fit_written failure (record world.stage { stored = world.stage.sealed; at = world.stage.at + 17 + bodies_bytes (in_hand world) })) (λ full. fit_staged Skipped quiet_held (put_back world).stage)))
      (λ none. fit_none)

  fit_in_time : (is_time : Bool) (next : World) → Fits next → Fits (in_time is_time world next)
  fit_in_time is_time next is = of_either Fits world.stage.stopped _ _ (λ stopped. fit_failed fault.FailedBefore) (λ works. of_either Fits is_time next _ (λ now. is) (λ not_now. fit_none))

  fit_full : (next : World) → Fits next → Fits (with_generation world next)
  fit_full next is = of_either Fits (is_full world.stage) _ next (λ full. fit_failed fault.NumbersFull) (λ room. is)

  fit_finished : (failure : Failure) (turned : List ℕ) → Fits (written failure world (finished world.stage turned))
  fit_finished failure [] = fit_written failure world.stage
  fit_finished failure (first ∷ rest) = fit_written failure (finished world.stage (first ∷ rest))

  fit_step : IsSound world → (step : Step) (failure : Failure) → Fits (after_step world step failure)
  fit_step sound (steps.Send c request) failure = fit_send world c sound fit failure request (world.connections c)
  fit_step sound (steps.Serve c) failure = fit_serve world c sound fit failure (world.connections c) refl (sound.right c)
  fit_step sound (steps.Answer c) failure = fit_answer world c sound fit (world.connections c) (sound.right c) (fit.due c)
  fit_step sound steps.Seal failure = of_either Fits (nat_lt world.stage.sealed (length world.stage.order) && (world.stage.sealed == world.stage.durable)) _ _ (λ pending. fit_sealed failure) (λ none. fit_none)
  fit_step sound steps.Append failure = fit_append failure
  fit_step sound steps.Publish failure = of_either Fits (nat_lt world.stage.durable world.stage.stored) _ _ (λ more. fit_staged Took quiet_took (record world.stage { durable = world.stage.stored })) (λ none. fit_none)
  fit_step sound steps.Rotate failure = fit_in_time (can_rotate world.stage) _ (fit_full _ (fit_written failure (rotated world.stage)))
  fit_step sound steps.Copy failure = fit_in_time (can_copy world.stage) _ (fit_written failure (record world.stage { left = world.stage.left - 1 }))
  fit_step sound steps.Map failure = fit_in_time (can_map world.stage) _ (fit_written failure (record world.stage { mapped = true }))
  fit_step sound steps.Finish failure = fit_in_time (can_finish world.stage) _ (fit_full _ (fit_finished (without_memory failure) world.stage.turned))
  fit_step sound steps.Clean failure = of_either Fits (can_clean world.stage) _ _ (λ more. fit_staged Took quiet_took (record world.stage { cleaned = world.stage.base })) (λ none. fit_none)

fit_fresh : (setting : Setting) → Fits (fresh setting)
fit_fresh setting = record {
  within = λ place. omega arith;
  due = λ c. of_either (λ (s : Connection). IsDue (fresh setting) c s) (nat_lt c setting.connections) Idle Closed (λ inside. tt) (λ outside. tt);
  answered = λ place is. absurd (none is.connection place is.answer is.request is.outcome is.answered);
  before = λ place is k below. absurd (none is.connection place is.answer is.request is.outcome is.answered);
}
  where
    none : (c place answer : ℕ) (request : Message) (outcome : Answer) → IsAnswered [] c place request answer outcome → ⊥
    none c place answer request outcome is = let at = is.sent in cc

fit_reached : (world : World) → IsReached world → Fits world
fit_reached world (Fresh setting) = fit_fresh setting
fit_reached world (After {world = before} step failure reached) = fit_step before (fit_reached before reached) (sound_reached before reached) step failure

-- in a world that schedules lead to the answers that show an image fit the order
pub reads_fit : (world : World) → IsReached world → world.stage.setting.trusted ≡ true
    → ReadsFit world.log world.stage.order world.paired world.shown world.stage.setting.image
reads_fit world reached trusted =
    let fit = fit_reached world reached in
    record {
      shows = λ place is. (fit.answered place is).shows trusted;
      within = fit.within;
      after = λ place is k connection answer request below told before. (fit.answered place is).after k connection answer request below told before;
      before = fit.before;
      rising = λ place later is next before. (fit.answered later next).rising place is before;
    }
