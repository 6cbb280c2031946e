-- what a log tells of the device is true
use Rattle.std.proofs.Common.{◌≡◌, ◌⊎◌, inl, inr, ℕ, ◌+◌, ◌-◌, ◌<◌, ◌≤◌, ◌==◌, ◌&&◌, ◌||◌, ◌*◌, Bool, true, false, nat_le, nat_lt, not, Result, Ok, Err, List, [], ◌∷◌, ◌++◌, drop, length, sym, ◌∙◌, ap, if◌then◌else◌, subst, refl, arith, bit_and}
use Rattle.std.proofs.lemmas.Bool.{both_ways, cases_eq, cases_lt}
use Rattle.image_model.specs.Bodies.{bodies_bytes, body_limit, longest}
use Rattle.image_model.specs.Change.{Change}
use Rattle.image_model.specs.Edit.{becomes}
use Rattle.image_model.specs.declared.geometry.Geometry.{Geometry}
use Rattle.nbd_wire.specs.Request.{Message}
use Rattle.nbd_wire.specs.declared.error.Errno.{Errno}
use Rattle.nbd_wire.specs.declared.error.Errno.TheVariants.{Io, NoMemory, NoSpace, Invalid}
use Rattle.nbd_wire.specs.declared.head.RequestHead.{RequestHead}
use Rattle.nbd_wire.specs.declared.message.SessionFlags.{SessionFlags}
use Rattle.export_model.specs.declared.action.Action.{Action}
use Rattle.export_model.specs.declared.action.Action.TheVariants.{End, Serve}
use Rattle.export_model.specs.declared.connection.Connection.{Connection}
use Rattle.export_model.specs.declared.connection.Connection.TheVariants.{Idle, Requested, Waiting, Ready, Closed}
use Rattle.export_model.specs.declared.event.Event.{Event}
use Rattle.export_model.specs.declared.event.Event.TheVariants.{Sent, Answered, Numbered, Took, Skipped, Failed}
use Rattle.nbd_wire.specs.declared.message.Answer.{Answer}
use Rattle.nbd_wire.specs.declared.message.Answer.TheVariants.{Done, Refused}
use Rattle.export_model.specs.declared.event.StepFault.TheVariants as fault
use Rattle.export_model.specs.declared.step.Step.{Step}
use Rattle.export_model.specs.declared.step.Step.TheVariants as steps
use Rattle.export_model.specs.Log.{StandsAt, edit_asked, flush_waits, is_flush}
use Rattle.export_model.specs.Run.{IsReached, Fresh, After}
use Rattle.export_model.specs.Serve.{Failure, Nothing, OutOfMemory, DeviceFailure, logged, held, moved, ready, ordered, state_after, accepted, passed, judged, serve, answered, answer, staged, faulted, Misread, image_shown, shown, read_served, status_served, takes_old_bytes}
use Rattle.export_model.specs.Checkpoint.{can_rotate, can_copy, can_map, can_finish, can_clean, is_full, rotated, finished}
use Rattle.export_model.specs.Step.{send, sent, sealed_more, put_back, written, append, publish, in_time, with_generation, without_memory, after_step}
use Rattle.export_model.specs.Verdict.{verdict, first_of_rules, is_known, allowed_flags, past_end}
use Rattle.image_model.specs.Image.{Image}
use Rattle.export_model.specs.Shown.{shown_by}
use Rattle.export_model.specs.World.{World, Stage, Setting, area_bytes, fresh, put, last_number, has_room, in_hand, fits}
use Rattle.export_model.specs.Law.{HasFailed, TellsFault, TellsTruth}
use Rattle.export_model.specs.laws.Events.{get_split}
use Rattle.export_model.specs.laws.Logged.{put_same, put_other}
use Rattle.export_model.specs.laws.Steps.{of_either}

-- what an event tells is so: an order that was stopped where it tells of a fault, and no generation left where it says so
abbrev IsBacked : Stage → Event → Type 0
IsBacked stage (Answered connection outcome) = outcome ≡ Refused Io → stage.stopped ≡ true
IsBacked stage (Failed fault.DeviceFault) = stage.stopped ≡ true
IsBacked stage (Failed fault.FailedBefore) = stage.stopped ≡ true
IsBacked stage (Failed fault.NumbersFull) = is_full stage ≡ true
IsBacked stage (Failed fault.NoMemory) = Unit {0}
IsBacked stage (Sent connection request) = Unit {0}
IsBacked stage (Numbered connection number) = Unit {0}
IsBacked stage Took = Unit {0}
IsBacked stage Skipped = Unit {0}

backed_more : (old new : Stage) (event : Event) → (old.stopped ≡ true → new.stopped ≡ true) → (is_full old ≡ true → is_full new ≡ true) → IsBacked old event → IsBacked new event
backed_more old new (Answered connection outcome) stopped full is = λ fault. stopped (is fault)
backed_more old new (Failed fault.DeviceFault) stopped full is = stopped is
backed_more old new (Failed fault.FailedBefore) stopped full is = stopped is
backed_more old new (Failed fault.NumbersFull) stopped full is = full is
backed_more old new (Failed fault.NoMemory) stopped full is = tt
backed_more old new (Sent connection request) stopped full is = tt
backed_more old new (Numbered connection number) stopped full is = tt
backed_more old new Took stopped full is = tt
backed_more old new Skipped stopped full is = tt

backed_stopped : (stage : Stage) (event : Event) → IsBacked stage event → TellsFault event → stage.stopped ≡ true
backed_stopped stage (Answered connection outcome) is tells = is tells
backed_stopped stage (Failed fault.DeviceFault) is tells = is
backed_stopped stage (Failed fault.FailedBefore) is tells = is
backed_stopped stage (Failed fault.NumbersFull) is tells = absurd tells
backed_stopped stage (Failed fault.NoMemory) is tells = absurd tells
backed_stopped stage (Sent connection request) is tells = absurd tells
backed_stopped stage (Numbered connection number) is tells = absurd tells
backed_stopped stage Took is tells = absurd tells
backed_stopped stage Skipped is tells = absurd tells

-- What events tell is so, and an order was stopped only after a fault.
record IsTruthful (world : World) : Type 0 where
  told : (place : ℕ) (event : Event) → StandsAt world.log place event → IsBacked world.stage event
  due : (connection : ℕ) → world.connections connection ≡ Ready (Refused Io) → world.stage.stopped ≡ true
  failed : world.stage.stopped ≡ true → HasFailed world.stage
  -- the count doesn't fall
  since : (world.stage.setting.failures ≤ world.stage.faults) ⊎ (18446744073709551615 ≤ world.stage.faults)
  quiet : world.stage.stopped ≡ false → world.stage.faults ≡ world.stage.setting.failures

-- a rule that doesn't answer EIO leaves the rest
skip : (test : Bool) (errno : Errno) (rest : Result Action Errno) → (errno ≡ Io → ⊥) → (if test then Err errno else rest) ≡ Err Io → rest ≡ Err Io
skip true errno rest unlike is = absurd (unlike (same_error errno is))
  where
    same_error : (errno : Errno) → (let result : Result Action Errno = Err errno in result ≡ Err Io) → errno ≡ Io
    same_error errno is = cc
skip false errno rest unlike is = is

pass : (test : Bool) (action : Action) (rest : Result Action Errno) → (if test then Ok action else rest) ≡ Err Io → rest ≡ Err Io
pass true action rest is = cc
pass false action rest is = is

invalid_unlike : Invalid ≡ Io → ⊥
invalid_unlike is = cc

-- no rule of judgement answers EIO
no_rule : (disc unknown flagged empty flush context unaligned long beyond : Bool) (errno : Errno) → (errno ≡ Io → ⊥)
    → first_of_rules ((disc, Ok End) ∷ (unknown, Err Invalid) ∷ (flagged, Err Invalid) ∷ (empty, Ok Serve) ∷ (flush, Err Invalid) ∷ (context, Err Invalid) ∷ [])
    (first_of_rules ((unaligned, Err Invalid) ∷ (long, Err Invalid) ∷ (beyond, Err errno) ∷ []) (Ok Serve)) ≡ Err Io → ⊥
no_rule disc unknown flagged empty flush context unaligned long beyond errno unlike is =
    let a = pass disc End _ is in
    let b = skip unknown Invalid _ invalid_unlike a in
    let c = skip flagged Invalid _ invalid_unlike b in
    let d = pass empty Serve _ c in
    let e = skip flush Invalid _ invalid_unlike d in
    let f = skip context Invalid _ invalid_unlike e in
    let g = skip unaligned Invalid _ invalid_unlike f in
    let h = skip long Invalid _ invalid_unlike g in
    let i = skip beyond errno _ unlike h in
    ok_unlike i
  where
    ok_unlike : (let result : Result Action Errno = Ok Serve in result ≡ Err Io) → ⊥
    ok_unlike is = cc

past_unlike : (kind : ℕ) → past_end kind ≡ Io → ⊥
past_unlike kind = of_either (λ (errno : Errno). errno ≡ Io → ⊥) ((kind == 1) || (kind == 6)) NoSpace Invalid (λ _ is. cc) (λ _ is. cc)

verdict_unlike : (head : RequestHead) (geometry : Geometry) (flags : SessionFlags) → verdict head geometry flags ≡ Err Io → ⊥
verdict_unlike head geometry flags is =
    no_rule (head.kind == 2) (not (is_known head.kind)) (not (bit_and head.flags (allowed_flags head.kind flags.structured) == head.flags))
    ((head.kind == 3) && (head.offset == 0) && (head.length == 0)) (head.kind == 3) ((head.kind == 7) && not (flags.structured && flags.context))
    (head.length == 0) (((head.kind == 0) || (head.kind == 1)) && nat_lt 1048576 head.length) (nat_lt (4096 * geometry.blocks) (head.offset + head.length))
    (past_end head.kind) (past_unlike head.kind) is

refused_inside : (errno : Errno) → Ready (Refused errno) ≡ Ready (Refused Io) → errno ≡ Io
refused_inside errno is = cc

module _ (world : World) (true_so_far : IsTruthful world) where
  told_more : (stage : Stage) (event : Event) → (world.stage.stopped ≡ true → stage.stopped ≡ true) → (is_full world.stage ≡ true → is_full stage ≡ true) → IsBacked stage event
      → (place : ℕ) (other : Event) → StandsAt (world.log ++ event ∷ []) place other → IsBacked stage other
  told_more stage event stopped full backed place other at = by_place (get_split world.log event place other at)
    where
      by_place : StandsAt world.log place other ⊎ ((place ≡ length world.log) × (other ≡ event)) → IsBacked stage other
      by_place (inl before) = backed_more world.stage stage other stopped full (true_so_far.told place other before)
      by_place (inr last) = subst (IsBacked stage) (sym last.1) backed

  -- a step after which order and keeper have met no fault more
  calm : (next : World) (event : Event) → next.log ≡ world.log ++ event ∷ [] → next.stage.stopped ≡ world.stage.stopped → next.stage.faults ≡ world.stage.faults
      → next.stage.setting ≡ world.stage.setting → (is_full world.stage ≡ true → is_full next.stage ≡ true) → IsBacked world.stage event
      → ((connection : ℕ) → next.connections connection ≡ Ready (Refused Io) → world.stage.stopped ≡ true) → IsTruthful next
  calm next event log stopped faults setting full backed due = record {
    told = λ place other at. told_more next.stage event (λ is. stopped ∙ is) full (backed_more world.stage next.stage event (λ is. stopped ∙ is) full backed) place other
        (subst (λ (l : List Event). StandsAt l place other) log at);
    due = λ connection is. stopped ∙ due connection is;
    failed = λ is. still (true_so_far.failed (sym stopped ∙ is));
    since = going true_so_far.since;
    quiet = λ works. faults ∙ true_so_far.quiet (sym stopped ∙ works) ∙ sym given;
  }
    where
      given : next.stage.setting.failures ≡ world.stage.setting.failures
      given = ap (λ (s : Setting). s.failures) setting

      still : HasFailed world.stage → HasFailed next.stage
      still (inl more) = inl (omega (arith, more, faults, given))
      still (inr most) = inr (omega (arith, most, faults))

      going : (world.stage.setting.failures ≤ world.stage.faults) ⊎ (18446744073709551615 ≤ world.stage.faults)
          → (next.stage.setting.failures ≤ next.stage.faults) ⊎ (18446744073709551615 ≤ next.stage.faults)
      going (inl more) = inl (omega (arith, more, faults, given))
      going (inr most) = inr (omega (arith, most, faults))

  calm_held : IsTruthful (held world)
  calm_held = calm (held world) Skipped refl refl refl refl (λ is. is) tt true_so_far.due

  calm_failed : IsTruthful (logged world (Failed fault.NoMemory))
  calm_failed = calm (logged world (Failed fault.NoMemory)) (Failed fault.NoMemory) refl refl refl refl (λ is. is) tt true_so_far.due

  due_put : (c : ℕ) (state : Connection) → (state ≡ Ready (Refused Io) → world.stage.stopped ≡ true)
      → (d : ℕ) → put world.connections c state d ≡ Ready (Refused Io) → world.stage.stopped ≡ true
  due_put c state here d = by_case (cases_eq d c)
    where
      by_case : (d ≡ c) ⊎ (d ≡ c → ⊥) → put world.connections c state d ≡ Ready (Refused Io) → world.stage.stopped ≡ true
      by_case (inl is) there = here (sym (put_same world.connections c state) ∙ (sym (ap (put world.connections c state) is) ∙ there))
      by_case (inr other) there = true_so_far.due d (sym (put_other world.connections c state d other) ∙ there)

  -- a fault more is counted, if the count isn't at its end
  rises : (world.stage.setting.failures ≤ world.stage.faults) ⊎ (18446744073709551615 ≤ world.stage.faults)
      → HasFailed (faulted world).stage
  rises (inl more) = by_room (cases_lt world.stage.faults 18446744073709551615)
    where
      by_room : (world.stage.faults < 18446744073709551615) ⊎ (18446744073709551615 ≤ world.stage.faults) → HasFailed (faulted world).stage
      by_room (inl room) = inl (omega (arith, more, room))
      by_room (inr full) = inr (omega (arith, full))
  rises (inr most) = inr (omega (arith, most))

  risen_since : HasFailed (faulted world).stage
      → ((faulted world).stage.setting.failures ≤ (faulted world).stage.faults) ⊎ (18446744073709551615 ≤ (faulted world).stage.faults)
  risen_since (inl more) = inl (omega (arith, more))
  risen_since (inr most) = inr most

  module _ (c : ℕ) where
    calm_moved : (state : Connection) (event : Event) → IsBacked world.stage event → (state ≡ Ready (Refused Io) → world.stage.stopped ≡ true)
        → IsTruthful (logged (moved world c state) event)
    calm_moved state event tells here = calm (logged (moved world c state) event) event refl refl refl refl (λ is. is) tells (due_put c state here)

    calm_ready : (errno : Errno) → (errno ≡ Io → world.stage.stopped ≡ true) → IsTruthful (ready world c (Refused errno))
    calm_ready errno here = calm_moved (Ready (Refused errno)) Took tt (λ is. here (refused_inside errno is))

    calm_sent : (failure : Failure) (request : Message) → IsTruthful (sent failure world c request)
    calm_sent OutOfMemory request = calm_failed
    calm_sent Nothing request = calm (sent Nothing world c request) (Sent c request) refl refl refl refl (λ is. is) tt (due_put c (Requested request) (λ is. cc))
    calm_sent DeviceFailure request = calm (sent DeviceFailure world c request) (Sent c request) refl refl refl refl (λ is. is) tt (due_put c (Requested request) (λ is. cc))
    calm_sent (Misread given image) request = calm (sent (Misread given image) world c request) (Sent c request) refl refl refl refl (λ is. is) tt (due_put c (Requested request) (λ is. cc))

    calm_send : (failure : Failure) (request : Message) (state : Connection) → IsTruthful (send failure world c request state)
    calm_send failure request Idle = calm_sent failure request
    calm_send failure request (Requested other) = calm_held
    calm_send failure request (Waiting number) = calm_held
    calm_send failure request (Ready outcome) = calm_held
    calm_send failure request Closed = calm_held

    after_unlike : (waits : Bool) (number : ℕ) → state_after waits number ≡ Ready (Refused Io) → ⊥
    after_unlike true number is = cc
    after_unlike false number is = cc

    calm_numbered : (command : Change) (waits : Bool) (number : ℕ) → IsTruthful (logged (moved (ordered world c command) c (state_after waits number)) (Numbered c number))
    calm_numbered command waits number = calm (logged (moved (ordered world c command) c (state_after waits number)) (Numbered c number)) (Numbered c number) refl refl refl refl
        (λ is. is) tt (due_put c (state_after waits number) (λ is. absurd (after_unlike waits number is)))

    memory_unlike : NoMemory ≡ Io → ⊥
    memory_unlike is = cc

    space_unlike : NoSpace ≡ Io → ⊥
    space_unlike is = cc

    told_fault : IsTruthful (ready (faulted world) c (Refused Io))
    told_fault = record {
      told = told_more (faulted world).stage Took (λ is. refl) (λ is. is) tt;
      due = λ connection is. refl;
      failed = λ is. rises true_so_far.since;
      since = risen_since (rises true_so_far.since);
      quiet = λ works. cc;
    }

    calm_accepted : (failure : Failure) (image : Image) (request : Message) → IsTruthful (accepted failure image world c request)
    calm_accepted OutOfMemory image request = calm_ready NoMemory (λ is. absurd (memory_unlike is))
    calm_accepted Nothing image request = calm_numbered (becomes (edit_asked request) image) _ _
    calm_accepted DeviceFailure image request = of_either IsTruthful (takes_old_bytes (edit_asked request) image) _ _ (λ wants. told_fault) (λ none. calm_numbered (becomes (edit_asked request) image) _ _)
    calm_accepted (Misread given other) image request = calm_accepted given image request

    shown_unlike : (image : Image) (head : RequestHead) → Ready (shown_by image head) ≡ Ready (Refused Io) → ⊥
    shown_unlike image head = of_either (λ (outcome : Answer). Ready outcome ≡ Ready (Refused Io) → ⊥) (head.kind == 0) _ _ (λ read is. cc) (λ status is. cc)

    calm_shown : (image : Image) (request : Message) → IsTruthful (shown image world c request)
    calm_shown image request = calm (shown image world c request) Took refl refl refl refl (λ is. is) tt
        (due_put c (Ready (shown_by image request.head)) (λ is. absurd (shown_unlike image request.head is)))

    calm_read : (failure : Failure) (request : Message) → IsTruthful (read_served failure world c request)
    calm_read OutOfMemory request = calm_ready NoMemory (λ is. absurd (memory_unlike is))
    calm_read DeviceFailure request = told_fault
    calm_read Nothing request = calm_shown (image_shown Nothing world.stage) request
    calm_read (Misread given image) request = calm_shown (image_shown (Misread given image) world.stage) request

    calm_status : (failure : Failure) (request : Message) → IsTruthful (status_served failure world c request)
    calm_status OutOfMemory request = calm_ready NoMemory (λ is. absurd (memory_unlike is))
    calm_status DeviceFailure request = calm_shown (image_shown DeviceFailure world.stage) request
    calm_status Nothing request = calm_shown (image_shown Nothing world.stage) request
    calm_status (Misread given image) request = calm_shown (image_shown (Misread given image) world.stage) request

    calm_passed : (failure : Failure) (request : Message) → IsTruthful (passed failure world c request)
    calm_passed failure request = of_either IsTruthful world.stage.stopped _ _ (λ stopped. calm_ready Io (λ is. stopped))
        (λ works. of_either IsTruthful (is_flush request) _ _ (λ flush. calm_moved (state_after (flush_waits world.stage.setting.mode) (last_number world)) Took tt
        (λ is. absurd (after_unlike (flush_waits world.stage.setting.mode) (last_number world) is)))
        (λ other. of_either IsTruthful (request.head.kind == 0) _ _ (λ read. calm_read failure request)
        (λ no_read. of_either IsTruthful (request.head.kind == 7) _ _ (λ status. calm_status failure request)
        (λ no_status. of_either IsTruthful (last_number world == 18446744073709551615) _ _ (λ full. calm_ready NoSpace (λ is. absurd (space_unlike is)))
        (λ left. of_either IsTruthful (has_room world (becomes (edit_asked request) (image_shown failure world.stage))) _ _ (λ room. calm_accepted failure (image_shown failure world.stage) request) (λ none. calm_held))))))

    calm_judged : (result : Result Action Errno) → (result ≡ Err Io → ⊥) → (failure : Failure) (request : Message) → IsTruthful (judged result failure world c request)
    calm_judged (Ok End) unlike failure request = calm_moved Closed Took tt (λ is. cc)
    calm_judged (Ok Serve) unlike failure request = calm_passed failure request
    calm_judged (Err errno) unlike failure request = calm_ready errno (λ is. absurd (unlike (ap (λ (e : Errno). let result : Result Action Errno = Err e in result) is)))

    calm_serve : (failure : Failure) (state : Connection) → IsTruthful (serve failure world c state)
    calm_serve failure (Requested request) = calm_judged (verdict request.head world.stage.setting.geometry world.stage.setting.flags)
        (verdict_unlike request.head world.stage.setting.geometry world.stage.setting.flags) failure request
    calm_serve failure Idle = calm_held
    calm_serve failure (Waiting number) = calm_held
    calm_serve failure (Ready outcome) = calm_held
    calm_serve failure Closed = calm_held

    calm_answered : (outcome : Answer) → (outcome ≡ Refused Io → world.stage.stopped ≡ true) → IsTruthful (answered world c outcome)
    calm_answered outcome tells = calm_moved Idle (Answered c outcome) tells (λ is. cc)

    done_unlike : Done ≡ Refused Io → ⊥
    done_unlike is = cc

    calm_answer : (state : Connection) → world.connections c ≡ state → IsTruthful (answer world c state)
    calm_answer (Ready outcome) at = calm_answered outcome (λ is. true_so_far.due c (at ∙ ap Ready is))
    calm_answer (Waiting number) at = of_either IsTruthful (nat_le number (world.stage.setting.opening + world.stage.durable)) _ _ (λ reached. calm_answered Done (λ is. absurd (done_unlike is)))
        (λ above. of_either IsTruthful world.stage.stopped _ _ (λ stopped. calm_answered (Refused Io) (λ is. stopped)) (λ works. calm_held))
    calm_answer Idle at = calm_held
    calm_answer (Requested request) at = calm_held
    calm_answer Closed at = calm_held

  -- a step of order and keeper that meets no fault
  calm_staged : (stage : Stage) (event : Event) → (is_full world.stage ≡ true → is_full stage ≡ true) → IsBacked world.stage event
      → IsTruthful (logged (staged world (record stage { setting = world.stage.setting; stopped = world.stage.stopped; faults = world.stage.faults })) event)
  calm_staged stage event full backed =
      calm (logged (staged world (record stage { setting = world.stage.setting; stopped = world.stage.stopped; faults = world.stage.faults })) event) event refl refl refl refl full backed true_so_far.due

  calm_grouped : IsTruthful (sealed_more Nothing world)
  calm_grouped = calm_staged (record world.stage { sealed = world.stage.sealed + longest (body_limit (area_bytes world.stage)) (drop world.stage.sealed world.stage.order) }) Took (λ is. is) tt

  calm_sealed : (failure : Failure) → IsTruthful (sealed_more failure world)
  calm_sealed OutOfMemory = calm_failed
  calm_sealed Nothing = calm_grouped
  calm_sealed DeviceFailure = calm_grouped
  calm_sealed (Misread given image) = calm_grouped

  calm_written : (failure : Failure) (stage : Stage) → (is_full world.stage ≡ true → is_full stage ≡ true)
      → IsTruthful (written failure world (record stage { setting = world.stage.setting; stopped = world.stage.stopped; faults = world.stage.faults }))
  calm_written OutOfMemory stage full = calm_failed
  calm_written Nothing stage full = calm_staged stage Took full tt
  calm_written (Misread given image) stage full = calm_staged stage Took full tt
  calm_written DeviceFailure stage full = record {
    told = told_more (faulted world).stage (Failed fault.DeviceFault) (λ is. refl) (λ is. is) refl;
    due = λ connection is. refl;
    failed = λ is. rises true_so_far.since;
    since = risen_since (rises true_so_far.since);
    quiet = λ works. cc;
  }

  calm_back : (event : Event) → IsBacked world.stage event → IsTruthful (logged (put_back world) event)
  calm_back event backed = calm_staged (put_back world).stage event (λ is. is) backed

  calm_append : (failure : Failure) → IsTruthful (append failure world)
  calm_append failure = of_either IsTruthful (nat_lt world.stage.stored world.stage.sealed) _ _
      (λ hand. of_either IsTruthful world.stage.stopped _ _ (λ stopped. calm_back (Failed fault.FailedBefore) stopped)
      (λ works. of_either IsTruthful (fits world) _ _
      (λ fit. calm_written failure (record world.stage { stored = world.stage.sealed; at = world.stage.at + 17 + bodies_bytes (in_hand world) }) (λ is. is)) (λ full. calm_back Skipped tt)))
      (λ none. calm_held)

  calm_publish : IsTruthful (publish world)
  calm_publish = of_either IsTruthful (nat_lt world.stage.durable world.stage.stored) _ _ (λ more. calm_staged (record world.stage { durable = world.stage.stored }) Took (λ is. is) tt) (λ none. calm_held)

  calm_in_time : (is_time : Bool) (next : World) → IsTruthful next → IsTruthful (in_time is_time world next)
  calm_in_time is_time next is = of_either IsTruthful world.stage.stopped _ _
      (λ stopped. calm (logged world (Failed fault.FailedBefore)) (Failed fault.FailedBefore) refl refl refl refl (λ same. same) stopped true_so_far.due)
      (λ works. of_either IsTruthful is_time next _ (λ now. is) (λ not_now. calm_held))

  calm_full : (next : World) → (is_full world.stage ≡ false → IsTruthful next) → IsTruthful (with_generation world next)
  calm_full next is = of_either IsTruthful (is_full world.stage) _ next
      (λ full. calm (logged world (Failed fault.NumbersFull)) (Failed fault.NumbersFull) refl refl refl refl (λ same. same) full true_so_far.due) is

  calm_finished : (failure : Failure) (turned : List ℕ) → is_full world.stage ≡ false → IsTruthful (written failure world (finished world.stage turned))
  calm_finished failure [] room = calm_written failure world.stage (λ is. is)
  calm_finished failure (first ∷ rest) room = calm_written failure (finished world.stage (first ∷ rest)) (λ is. absurd (both_ways (is_full world.stage) room is))

  true_step : (step : Step) (failure : Failure) → IsTruthful (after_step world step failure)
  true_step (steps.Send c request) failure = calm_send c failure request (world.connections c)
  true_step (steps.Serve c) failure = calm_serve c failure (world.connections c)
  true_step (steps.Answer c) failure = calm_answer c (world.connections c) refl
  true_step steps.Seal failure = of_either IsTruthful (nat_lt world.stage.sealed (length world.stage.order) && (world.stage.sealed == world.stage.durable)) _ _
      (λ pending. calm_sealed failure) (λ none. calm_held)
  true_step steps.Append failure = calm_append failure
  true_step steps.Publish failure = calm_publish
  true_step steps.Rotate failure = calm_in_time (can_rotate world.stage) _
      (calm_full _ (λ room. calm_written failure (rotated world.stage) (λ is. absurd (both_ways (is_full world.stage) room is))))
  true_step steps.Copy failure = calm_in_time (can_copy world.stage) _ (calm_written failure (record world.stage { left = world.stage.left - 1 }) (λ is. is))
  true_step steps.Map failure = calm_in_time (can_map world.stage) _ (calm_written failure (record world.stage { mapped = true }) (λ is. is))
  true_step steps.Finish failure = calm_in_time (can_finish world.stage) _ (calm_full _ (λ room. calm_finished (without_memory failure) world.stage.turned room))
  true_step steps.Clean failure = of_either IsTruthful (can_clean world.stage) _ _ (λ more. calm_staged (record world.stage { cleaned = world.stage.base }) Took (λ is. is) tt) (λ none. calm_held)

true_fresh : (setting : Setting) → IsTruthful (fresh setting)
true_fresh setting = record {
  told = λ place event at. cc;
  due = λ c is. absurd (of_either (λ (s : Connection). s ≡ Ready (Refused Io) → ⊥) (nat_lt c setting.connections) Idle Closed (λ inside idle. cc) (λ outside closed. cc) is);
  failed = λ is. cc;
  since = inl (omega arith);
  quiet = λ works. refl;
}

true_reached : (world : World) → IsReached world → IsTruthful world
true_reached world (Fresh setting) = true_fresh setting
true_reached world (After {world = before} step failure reached) = true_step before (true_reached before reached) step failure

-- what schedules lead to tells the truth
pub truth_reached : (world : World) → IsReached world → TellsTruth world
truth_reached world reached =
    let is = true_reached world reached in
    record {
      told = λ place event at tells. is.failed (backed_stopped world.stage event (is.told place event at) tells);
      stopped = is.failed;
      quiet = is.quiet;
      full = λ place at. is.told place (Failed fault.NumbersFull) at;
    }
