-- each step leaves a world sound
use Rattle.std.proofs.Common.{◌≡◌, ◌⊎◌, inl, inr, ℕ, ◌+◌, ◌-◌, ◌<◌, ◌≤◌, ◌==◌, ◌&&◌, ◌||◌, ◌*◌, Bool, true, false, if◌then◌else◌, nat_le, nat_lt, not, Result, Ok, Err, List, [], ◌∷◌, ◌++◌, length, length-append, drop, refl, arith, bit_and}
use Rattle.std.proofs.lemmas.Bool.{and_parts, both_ways, cases_Bool, eqb-false, ltb-true, leb-true, not-false, not-true, or_parts}
use Rattle.nbd_wire.specs.Request.{Message}
use Rattle.nbd_wire.specs.declared.error.Errno.{Errno}
use Rattle.nbd_wire.specs.declared.error.Errno.TheVariants.{Io, NoMemory, NoSpace, Invalid}
use Rattle.nbd_wire.specs.declared.head.RequestHead.{RequestHead}
use Rattle.nbd_wire.specs.declared.message.SessionFlags.{SessionFlags}
use Rattle.image_model.specs.declared.geometry.Geometry.{Geometry}
use Rattle.export_model.specs.declared.action.Action.{Action}
use Rattle.export_model.specs.declared.action.Action.TheVariants.{End, Serve}
use Rattle.export_model.specs.declared.connection.Connection.{Connection}
use Rattle.export_model.specs.declared.connection.Connection.TheVariants.{Idle, Requested, Waiting, Ready, Closed}
use Rattle.export_model.specs.declared.event.Event.{Event}
use Rattle.export_model.specs.declared.event.Event.TheVariants.{Numbered, Took, Skipped, Failed}
use Rattle.export_model.specs.declared.event.StepFault.{StepFault}
use Rattle.export_model.specs.declared.event.StepFault.TheVariants as fault
use Rattle.nbd_wire.specs.declared.message.Answer.{Answer}
use Rattle.nbd_wire.specs.declared.message.Answer.TheVariants.{Done, Refused, Bytes, States}
use Rattle.export_model.specs.declared.step.Step.{Step}
use Rattle.export_model.specs.declared.step.Step.TheVariants as steps
use Rattle.image_model.specs.Bodies.{bodies_bytes, body_limit, longest}
use Rattle.image_model.specs.Change.{Change}
use Rattle.image_model.specs.Edit.{becomes}
use Rattle.export_model.specs.Log.{edit_asked, is_write, is_write_type, is_flush, flush_waits, waits_for_store, IsAnswered}
use Rattle.export_model.specs.Serve.{Failure, Nothing, OutOfMemory, DeviceFailure, logged, held, moved, ready, ordered, state_after, accepted, write_served, passed, judged, serve, answer, staged, faulted, Misread, image_shown, shown, read_served, status_served, takes_old_bytes}
use Rattle.export_model.specs.Checkpoint.{can_rotate, can_copy, can_map, can_finish, can_clean, is_full, rotated, finished}
use Rattle.export_model.specs.Step.{send, sealed_more, seal, put_back, written, stored_more, append, publish, in_time, with_generation, without_memory, clean, after_step}
use Rattle.export_model.specs.Verdict.{verdict, first_of_rules, is_known, allowed_flags, past_end}
use Rattle.image_model.specs.Image.{Image}
use Rattle.export_model.specs.Shown.{shown_by}
use Rattle.export_model.specs.World.{World, Stage, Setting, area_bytes, fresh, last_number, has_room, fits, in_hand, put}
use Rattle.export_model.specs.laws.Logged.{IsQuiet, put_same, sound_quiet, sound_moved}
use Rattle.export_model.specs.laws.Ordered.{sound_ordered}
use Rattle.export_model.specs.laws.Sound.{AwaitsOthers, IsRight, IsSound, facts_of}
use Rattle.export_model.specs.laws.Talk.{sound_sent, sound_answered, allowed_ready_done, allowed_refused, allowed_fault, allowed_other, allowed_waiting, flush_no_write}

-- what holds of both sides of a choice holds of the choice
pub of_either : {X : Type 0} (P : X → Type 0) (test : Bool) (x y : X) → (test ≡ true → P x) → (test ≡ false → P y) → P (if test then x else y)
of_either P true x y here there = here refl
of_either P false x y here there = there refl

pub quiet_took : IsQuiet Took
quiet_took = record { unsent = λ connection request is. cc; unanswered = λ connection outcome is. cc }

pub quiet_held : IsQuiet Skipped
quiet_held = record { unsent = λ connection request is. cc; unanswered = λ connection outcome is. cc }

pub quiet_failed : (fault : StepFault) → IsQuiet (Failed fault)
quiet_failed fault = record { unsent = λ connection request is. cc; unanswered = λ connection outcome is. cc }

pub quiet_numbered : (c number : ℕ) → IsQuiet (Numbered c number)
quiet_numbered c number = record { unsent = λ connection request is. cc; unanswered = λ connection outcome is. cc }

sound_held : (world : World) → IsSound world → IsSound (held world)
sound_held world sound = sound_quiet world Skipped quiet_held sound

-- a test that isn't met leaves the rest
past : {X : Type 0} (test : Bool) (x y z : X) → (if test then x else y) ≡ z → (x ≡ z → ⊥) → (test ≡ false) × (y ≡ z)
past true x y z is unlike = absurd (unlike is)
past false x y z is unlike = (refl, is)

err_unlike : (errno : Errno) → (let result : Result Action Errno = Err errno in result ≡ Ok Serve) → ⊥
err_unlike errno is = cc

end_unlike : (let result : Result Action Errno = Ok End in result ≡ Ok Serve) → ⊥
end_unlike is = cc

-- where the rules of judgement let a request that is no FLUSH through, none of them applies
passes : (disc unknown flagged empty flush context none long beyond : Bool) (errno : Errno) → (empty ≡ true → flush ≡ true)
    → first_of_rules ((disc, Ok End) ∷ (unknown, Err Invalid) ∷ (flagged, Err Invalid) ∷ (empty, Ok Serve) ∷ (flush, Err Invalid) ∷ (context, Err Invalid) ∷ [])
    (first_of_rules ((none, Err Invalid) ∷ (long, Err Invalid) ∷ (beyond, Err errno) ∷ []) (Ok Serve)) ≡ Ok Serve
    → flush ≡ false → (disc ≡ false) × (unknown ≡ false)
passes disc unknown flagged true flush context none long beyond errno flushes is no_flush = absurd (both_ways flush no_flush (flushes refl))
passes disc unknown flagged false flush context none long beyond errno flushes is no_flush =
    let a = past disc (Ok End) _ (Ok Serve) is end_unlike in
    let b = past unknown (Err Invalid) _ (Ok Serve) a.1 (err_unlike Invalid) in
    (a.0, b.0)

-- a type that a request may have, and that is no DISC, FLUSH, READ and BLOCK_STATUS, is that of a write command
other_types : (kind : ℕ) → is_known kind ≡ true → (kind == 2) ≡ false → (kind == 3) ≡ false → (kind == 0) ≡ false → (kind == 7) ≡ false → is_write_type kind ≡ true
other_types kind known disc flush read status = not-not (is_write_type kind) none
  where
    none : is_write_type kind ≡ false → ⊥
    none is_none =
        let parts = or_parts ((kind == 1) || (kind == 4)) (kind == 6) is_none in
        let first = or_parts (kind == 1) (kind == 4) parts.0 in
        let both = and_parts (nat_lt kind 8) (not (kind == 5)) known in
        let below = ltb-true kind 8 both.0 in
        outside kind below (eqb-false kind 0 read) (eqb-false kind 1 first.0) (eqb-false kind 2 disc) (eqb-false kind 3 flush) (eqb-false kind 4 first.1)
        (eqb-false kind 5 (not-true (kind == 5) both.1)) (eqb-false kind 6 parts.1) (eqb-false kind 7 status)
      where
        outside : (n : ℕ) → n < 8 → (n ≡ 0 → ⊥) → (n ≡ 1 → ⊥) → (n ≡ 2 → ⊥) → (n ≡ 3 → ⊥) → (n ≡ 4 → ⊥) → (n ≡ 5 → ⊥) → (n ≡ 6 → ⊥) → (n ≡ 7 → ⊥) → ⊥
        outside n below a b c d e f g h = omega (arith, below, a, b, c, d, e, f, g, h)

    not-not : (test : Bool) → (test ≡ false → ⊥) → test ≡ true
    not-not true unlike = refl
    not-not false unlike = absurd (unlike refl)

-- a request that passes judgement and isn't a FLUSH, a READ or a BLOCK_STATUS asks for a write command
pub passes_write : (head : RequestHead) (geometry : Geometry) (flags : SessionFlags) → verdict head geometry flags ≡ Ok Serve
    → (head.kind == 3) ≡ false → (head.kind == 0) ≡ false → (head.kind == 7) ≡ false → is_write_type head.kind ≡ true
passes_write head geometry flags is no_flush no_read no_status =
    let parts = passes (head.kind == 2) (not (is_known head.kind)) (not (bit_and head.flags (allowed_flags head.kind flags.structured) == head.flags))
    ((head.kind == 3) && (head.offset == 0) && (head.length == 0)) (head.kind == 3) ((head.kind == 7) && not (flags.structured && flags.context))
    (head.length == 0) (((head.kind == 0) || (head.kind == 1)) && nat_lt 1048576 head.length) (nat_lt (4096 * geometry.blocks) (head.offset + head.length))
    (past_end head.kind)
    (λ all. (and_parts (head.kind == 3) (head.offset == 0) (and_parts ((head.kind == 3) && (head.offset == 0)) (head.length == 0) all).0).0)
    is no_flush in
    other_types head.kind (not-false (is_known head.kind) parts.1) parts.0 no_flush no_read no_status

-- order and keeper come to this, and no fewer commands are durable
sound_staged : (world : World) (stage : Stage) → IsSound world → world.stage.durable ≤ stage.durable
    → IsSound (staged world (record stage { setting = world.stage.setting; order = world.stage.order }))
sound_staged world stage sound more = record {
  legal = sound.legal;
  durable = λ k below covered. let before = sound.durable k below covered in omega (arith, before, more);
  right = sound.right;
}

module _ (world : World) (c : ℕ) (sound : IsSound world) where
  module _ (request : Message) (right : IsRight (facts_of world) c (world.places c) (Requested request)) where
    sound_ready : (errno : Errno) → IsSound (ready world c (Refused errno))
    sound_ready errno = sound_quiet (moved world c (Ready (Refused errno))) Took quiet_took (sound_moved world c (Ready (Refused errno)) sound (request, right.0, right.1))

    new_below : (command : Change) → length world.stage.order < length (world.stage.order ++ command ∷ [])
    new_below command = omega (arith, length-append world.stage.order (command ∷ []))

    right_after : (command : Change) (waits : Bool) → waits_for_store world.stage.setting.mode request ≡ waits → is_write request ≡ true
        → IsRight (facts_of (ordered world c command)) c (world.places c) (state_after waits (last_number world + 1))
    right_after command true waits write = (
      request,
      right.0,
      inl (record {
        write = write;
        k = length world.stage.order;
        below = new_below command;
        own = put_same world.paired (length world.stage.order) (world.places c);
        reached = omega arith;
      }),
    )
    right_after command false waits write = (request, right.0, inl (write, waits, (length world.stage.order, new_below command, put_same world.paired (length world.stage.order) (world.places c))))

    sound_numbered : (command : Change) → is_write request ≡ true → (image : Image) × (becomes (edit_asked request) image ≡ command) → IsSound (logged (moved (ordered world c command) c (state_after (waits_for_store world.stage.setting.mode request) (last_number world + 1))) (Numbered c (last_number world + 1)))
    sound_numbered command write asked = sound_quiet _ (Numbered c (last_number world + 1)) (quiet_numbered c (last_number world + 1))
        (sound_ordered world c request command sound right.0 right.1 write asked (state_after (waits_for_store world.stage.setting.mode request) (last_number world + 1))
        (right_after command (waits_for_store world.stage.setting.mode request) refl write))

    -- a device fault is no more than that nothing more is durable
    sound_fault : IsSound (ready (faulted world) c (Refused Io))
    sound_fault = sound_quiet (moved (faulted world) c (Ready (Refused Io))) Took quiet_took
        (sound_moved (faulted world) c (Ready (Refused Io)) (sound_staged world (faulted world).stage sound (omega arith)) (request, right.0, right.1))

    sound_accepted : (failure : Failure) (image : Image) → is_write request ≡ true → IsSound (accepted failure image world c request)
    sound_accepted OutOfMemory image write = sound_ready NoMemory
    sound_accepted Nothing image write = sound_numbered (becomes (edit_asked request) image) write (image, refl)
    sound_accepted DeviceFailure image write = of_either IsSound (takes_old_bytes (edit_asked request) image) _ _ (λ wants. sound_fault) (λ none. sound_numbered (becomes (edit_asked request) image) write (image, refl))
    sound_accepted (Misread given other) image write = sound_accepted given image write

    sound_write : (failure : Failure) (image : Image) → is_write request ≡ true → IsSound (write_served failure image world c request)
    sound_write failure image write = of_either IsSound (last_number world == 18446744073709551615) _ _
        (λ full. sound_ready NoSpace)
        (λ left. of_either IsSound (has_room world (becomes (edit_asked request) image)) _ _ (λ room. sound_accepted failure image write) (λ none. sound_held world sound))

    others_before : is_flush request ≡ true → AwaitsOthers (facts_of world) (world.places c) (last_number world) request
    others_before flush = record {
      no_write = no_write (cases_Bool (is_write request));
      reached = λ from k answer other below answered before. omega (arith, below);
    }
      where
        no_write : (is_write request ≡ true) ⊎ (is_write request ≡ false) → is_write request ≡ false
        no_write (inl write) = absurd (flush_no_write request flush write)
        no_write (inr is) = is

    -- a FLUSH waits for all before it, or is done at once
    right_flushed : (waits : Bool) → flush_waits world.stage.setting.mode ≡ waits → is_flush request ≡ true
        → IsRight (facts_of world) c (world.places c) (state_after waits (last_number world))
    right_flushed true waits flush = (request, right.0, inr (others_before flush))
    right_flushed false waits flush = (request, right.0, inr ((others_before flush).no_write, waits))

    right_shown : (image : Image) (head : RequestHead) → IsRight (facts_of world) c (world.places c) (Ready (shown_by image head))
    right_shown image head = of_either (λ (outcome : Answer). IsRight (facts_of world) c (world.places c) (Ready outcome)) (head.kind == 0) _ _ (λ read. (request, right.0)) (λ status. (request, right.0))

    sound_shown : (image : Image) → IsSound (shown image world c request)
    sound_shown image =
        let counted = put world.shown (world.places c) (length world.stage.order) in
        let next = record world { shown = counted } in
        sound_quiet (moved next c (Ready (shown_by image request.head))) Took quiet_took
        (sound_moved next c (Ready (shown_by image request.head)) (record { legal = sound.legal; durable = sound.durable; right = sound.right }) (right_shown image request.head))

    sound_read : (failure : Failure) → IsSound (read_served failure world c request)
    sound_read OutOfMemory = sound_ready NoMemory
    sound_read DeviceFailure = sound_fault
    sound_read Nothing = sound_shown (image_shown Nothing world.stage)
    sound_read (Misread given image) = sound_shown (image_shown (Misread given image) world.stage)

    sound_status : (failure : Failure) → IsSound (status_served failure world c request)
    sound_status OutOfMemory = sound_ready NoMemory
    sound_status DeviceFailure = sound_shown (image_shown DeviceFailure world.stage)
    sound_status Nothing = sound_shown (image_shown Nothing world.stage)
    sound_status (Misread given image) = sound_shown (image_shown (Misread given image) world.stage)

    -- what a request that is no FLUSH, READ or BLOCK_STATUS asks for
    abbrev AsksToWrite : Type 0
    AsksToWrite = is_flush request ≡ false → (request.head.kind == 0) ≡ false → (request.head.kind == 7) ≡ false → is_write request ≡ true

    sound_passed : (failure : Failure) → AsksToWrite → IsSound (passed failure world c request)
    sound_passed failure writes = of_either IsSound world.stage.stopped _ _
        (λ stopped. sound_ready Io)
        (λ works. of_either IsSound (is_flush request) _ _
        (λ flush. let state = state_after (flush_waits world.stage.setting.mode) (last_number world) in
        sound_quiet (moved world c state) Took quiet_took (sound_moved world c state sound (right_flushed (flush_waits world.stage.setting.mode) refl flush)))
        (λ other. of_either IsSound (request.head.kind == 0) _ _ (λ read. sound_read failure)
        (λ no_read. of_either IsSound (request.head.kind == 7) _ _ (λ status. sound_status failure)
        (λ no_status. sound_write failure (image_shown failure world.stage) (writes other no_read no_status)))))

    sound_judged : (result : Result Action Errno) → (result ≡ Ok Serve → AsksToWrite) → (failure : Failure) → IsSound (judged result failure world c request)
    sound_judged (Ok End) writes failure = sound_quiet (moved world c Closed) Took quiet_took (sound_moved world c Closed sound tt)
    sound_judged (Ok Serve) writes failure = sound_passed failure (writes refl)
    sound_judged (Err errno) writes failure = sound_ready errno

  sound_serve : (failure : Failure) (state : Connection) → IsRight (facts_of world) c (world.places c) state → IsSound (serve failure world c state)
  sound_serve failure (Requested request) right =
      sound_judged request right (verdict request.head world.stage.setting.geometry world.stage.setting.flags) (passes_write request.head world.stage.setting.geometry world.stage.setting.flags) failure
  sound_serve failure Idle right = sound_held world sound
  sound_serve failure (Waiting number) right = sound_held world sound
  sound_serve failure (Ready outcome) right = sound_held world sound
  sound_serve failure Closed right = sound_held world sound

  sound_answer : (state : Connection) → IsRight (facts_of world) c (world.places c) state → IsSound (answer world c state)
  sound_answer (Ready Done) right = sound_answered world c right.0 Done sound right.1 (allowed_ready_done world c right)
  sound_answer (Ready (Refused errno)) right = sound_answered world c right.0 (Refused errno) sound right.1 (allowed_refused world c right.0 errno right.2)
  sound_answer (Ready (Bytes read)) right = sound_answered world c right.0 (Bytes read) sound right.1 (allowed_other world c right.0 (Bytes read) (λ is. cc) (λ errno is. cc))
  sound_answer (Ready (States runs)) right = sound_answered world c right.0 (States runs) sound right.1 (allowed_other world c right.0 (States runs) (λ is. cc) (λ errno is. cc))
  sound_answer (Waiting number) right = of_either IsSound (nat_le number (world.stage.setting.opening + world.stage.durable)) _ _
      (λ reached. sound_answered world c right.0 Done sound right.1
      (allowed_waiting world c number right.0 sound (leb-true number (world.stage.setting.opening + world.stage.durable) reached) right.2))
      (λ above. of_either IsSound world.stage.stopped _ _
      (λ stopped. sound_answered world c right.0 (Refused Io) sound right.1 (allowed_fault world c right.0))
      (λ works. sound_held world sound))
  sound_answer Idle right = sound_held world sound
  sound_answer (Requested request) right = sound_held world sound
  sound_answer Closed right = sound_held world sound

  sound_send : (failure : Failure) (request : Message) (state : Connection) → IsRight (facts_of world) c (world.places c) state → IsSound (send failure world c request state)
  sound_send OutOfMemory request Idle right = sound_quiet world (Failed fault.NoMemory) (quiet_failed fault.NoMemory) sound
  sound_send Nothing request Idle right = sound_sent world c request sound right
  sound_send DeviceFailure request Idle right = sound_sent world c request sound right
  sound_send (Misread given image) request Idle right = sound_sent world c request sound right
  sound_send failure request (Requested other) right = sound_held world sound
  sound_send failure request (Waiting number) right = sound_held world sound
  sound_send failure request (Ready outcome) right = sound_held world sound
  sound_send failure request Closed right = sound_held world sound

module _ (world : World) (sound : IsSound world) where
  sound_took : (stage : Stage) (event : Event) → IsQuiet event → world.stage.durable ≤ stage.durable
      → IsSound (logged (staged world (record stage { setting = world.stage.setting; order = world.stage.order })) event)
  sound_took stage event quiet more =
      sound_quiet (staged world (record stage { setting = world.stage.setting; order = world.stage.order })) event quiet (sound_staged world stage sound more)

  sound_failed : (fault : StepFault) → IsSound (logged world (Failed fault))
  sound_failed fault = sound_quiet world (Failed fault) (quiet_failed fault) sound

  sound_grouped : IsSound (sealed_more Nothing world)
  sound_grouped = sound_took (record world.stage { sealed = world.stage.sealed + longest (body_limit (area_bytes world.stage)) (drop world.stage.sealed world.stage.order) }) Took quiet_took (omega arith)

  sound_sealed_more : (failure : Failure) → IsSound (sealed_more failure world)
  sound_sealed_more OutOfMemory = sound_failed fault.NoMemory
  sound_sealed_more Nothing = sound_grouped
  sound_sealed_more DeviceFailure = sound_grouped
  sound_sealed_more (Misread given image) = sound_grouped

  sound_seal : (failure : Failure) → IsSound (seal failure world)
  sound_seal failure = of_either IsSound (nat_lt world.stage.sealed (length world.stage.order) && (world.stage.sealed == world.stage.durable)) _ _
      (λ pending. sound_sealed_more failure) (λ none. sound_held world sound)

  sound_put_back : (event : Event) → IsQuiet event → IsSound (logged (put_back world) event)
  sound_put_back event quiet = sound_took (put_back world).stage event quiet (omega arith)

  sound_written : (failure : Failure) (stage : Stage) → world.stage.durable ≤ stage.durable
      → IsSound (written failure world (record stage { setting = world.stage.setting; order = world.stage.order }))
  sound_written Nothing stage more = sound_took stage Took quiet_took more
  sound_written OutOfMemory stage more = sound_failed fault.NoMemory
  sound_written (Misread given image) stage more = sound_took stage Took quiet_took more
  sound_written DeviceFailure stage more = sound_took (faulted world).stage (Failed fault.DeviceFault) (quiet_failed fault.DeviceFault) (omega arith)

  sound_stored_more : (failure : Failure) → IsSound (stored_more failure world)
  sound_stored_more failure = sound_written failure (record world.stage { stored = world.stage.sealed; at = world.stage.at + 17 + bodies_bytes (in_hand world) }) (omega arith)

  sound_append : (failure : Failure) → IsSound (append failure world)
  sound_append failure = of_either IsSound (nat_lt world.stage.stored world.stage.sealed) _ _
      (λ hand. of_either IsSound world.stage.stopped _ _
      (λ stopped. sound_put_back (Failed fault.FailedBefore) (quiet_failed fault.FailedBefore))
      (λ works. of_either IsSound (fits world) _ _ (λ fit. sound_stored_more failure) (λ full. sound_put_back Skipped quiet_held)))
      (λ none. sound_held world sound)

  sound_publish : IsSound (publish world)
  sound_publish = of_either IsSound (nat_lt world.stage.durable world.stage.stored) _ _
      (λ more. sound_took (record world.stage { durable = world.stage.stored }) Took quiet_took (let above = ltb-true world.stage.durable world.stage.stored more in omega (arith, above)))
      (λ none. sound_held world sound)

  sound_in_time : (is_time : Bool) (next : World) → IsSound next → IsSound (in_time is_time world next)
  sound_in_time is_time next is = of_either IsSound world.stage.stopped _ _ (λ stopped. sound_failed fault.FailedBefore)
      (λ works. of_either IsSound is_time next (held world) (λ now. is) (λ not_now. sound_held world sound))

  sound_full : (next : World) → IsSound next → IsSound (with_generation world next)
  sound_full next is = of_either IsSound (is_full world.stage) _ next (λ full. sound_failed fault.NumbersFull) (λ room. is)

  sound_finished : (failure : Failure) (turned : List ℕ) → IsSound (written failure world (finished world.stage turned))
  sound_finished failure [] = sound_written failure world.stage (omega arith)
  sound_finished failure (first ∷ rest) = sound_written failure (finished world.stage (first ∷ rest)) (omega arith)

  sound_clean : IsSound (clean world)
  sound_clean = of_either IsSound (can_clean world.stage) _ _ (λ more. sound_took (record world.stage { cleaned = world.stage.base }) Took quiet_took (omega arith)) (λ none. sound_held world sound)

  -- each step leaves the world sound
  pub sound_step : (step : Step) (failure : Failure) → IsSound (after_step world step failure)
  sound_step (steps.Send c request) failure = sound_send world c sound failure request (world.connections c) (sound.right c)
  sound_step (steps.Serve c) failure = sound_serve world c sound failure (world.connections c) (sound.right c)
  sound_step (steps.Answer c) failure = sound_answer world c sound (world.connections c) (sound.right c)
  sound_step steps.Seal failure = sound_seal failure
  sound_step steps.Append failure = sound_append failure
  sound_step steps.Publish failure = sound_publish
  sound_step steps.Rotate failure = sound_in_time (can_rotate world.stage) _ (sound_full _ (sound_written failure (rotated world.stage) (omega arith)))
  sound_step steps.Copy failure = sound_in_time (can_copy world.stage) _ (sound_written failure (record world.stage { left = world.stage.left - 1 }) (omega arith))
  sound_step steps.Map failure = sound_in_time (can_map world.stage) _ (sound_written failure (record world.stage { mapped = true }) (omega arith))
  sound_step steps.Finish failure = sound_in_time (can_finish world.stage) _ (sound_full _ (sound_finished (without_memory failure) world.stage.turned))
  sound_step steps.Clean failure = sound_clean

-- a fresh world is sound
pub sound_fresh : (setting : Setting) → IsSound (fresh setting)
sound_fresh setting = record {
  legal = record {
    own = λ k command at. cc;
    apart = λ k m before below. absurd (omega (arith, below));
    done = λ c place answer request is write. none c place answer request Done is;
    refused = λ c place answer k request errno is unlike below. absurd (omega (arith, below));
    in_order = λ c answer k m request outcome k_below m_below is before. absurd (omega (arith, k_below));
    one_open = λ c place next request other before at later. cc;
  };
  durable = λ k below covered. absurd (omega (arith, below));
  right = λ c. of_either (λ (s : Connection). IsRight (facts_of (fresh setting)) c 0 s) (nat_lt c setting.connections) Idle Closed
      (λ inside place request at. cc) (λ outside. tt);
}
  where
    none : (c place answer : ℕ) (request : Message) (outcome : Answer) → IsAnswered [] c place request answer outcome
        → (k : ℕ) × (k < 0) × (0 ≡ place)
    none c place answer request outcome is = let at = is.sent in cc
