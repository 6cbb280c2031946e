-- in each world the numbers stand within one another
use Rattle.std.proofs.Common.{◌≡◌, ℕ, ◌+◌, ◌-◌, ◌<◌, ◌≤◌, ◌==◌, ◌&&◌, Bool, true, false, if◌then◌else◌, nat_le, nat_lt, not, Result, Ok, Err, List, [], ◌∷◌, ◌++◌, length, length-append, length-drop, drop, subst, refl, arith, ◌↔◌, sym, ap}
use Rattle.std.proofs.lemmas.Bool.{and_parts, both_ways, not-true, ltb-true, eqb-true}
use Rattle.image_model.specs.Bodies.{body_bytes, body_limit, longest}
use Rattle.image_model.specs.Change.{Change}
use Rattle.image_model.specs.Edit.{becomes}
use Rattle.image_model.specs.Image.{Image}
use Rattle.image_model.specs.laws.Layouts.{areas_some}
use Rattle.nbd_wire.specs.Request.{Message}
use Rattle.nbd_wire.specs.declared.error.Errno.{Errno}
use Rattle.nbd_wire.specs.declared.error.Errno.TheVariants.{Io}
use Rattle.nbd_wire.specs.declared.message.Answer.TheVariants.{Refused}
use Rattle.export_model.specs.declared.action.Action.{Action}
use Rattle.export_model.specs.declared.action.Action.TheVariants.{End, Serve}
use Rattle.export_model.specs.declared.connection.Connection.{Connection}
use Rattle.export_model.specs.declared.connection.Connection.TheVariants.{Idle, Requested, Waiting, Ready, Closed}
use Rattle.export_model.specs.declared.event.Event.{Event}
use Rattle.export_model.specs.declared.event.Event.TheVariants.{Took}
use Rattle.export_model.specs.declared.step.Step.{Step}
use Rattle.export_model.specs.declared.step.Step.TheVariants as steps
use Rattle.export_model.specs.Checkpoint.{can_clean, can_copy, can_finish, can_map, can_rotate, finished, is_full, is_turned, last_turned, left_behind, rotated, to_copy}
use Rattle.export_model.specs.Log.{edit_asked, is_flush}
use Rattle.export_model.specs.Run.{IsReached, Fresh, After}
use Rattle.export_model.specs.Serve.{Failure, Nothing, OutOfMemory, DeviceFailure, accepted, answer, judged, logged, passed, ready, serve, staged, Misread, image_shown, shown, read_served, status_served, faulted, takes_old_bytes}
use Rattle.export_model.specs.Step.{after_step, append, in_time, with_generation, sealed_more, send, sent, without_memory, written}
use Rattle.export_model.specs.Verdict.{verdict}
use Rattle.export_model.specs.World.{World, Stage, Setting, area_bytes, areas_at, fits, fresh, has_room, last_number}
use Rattle.export_model.specs.Law.{IsRising, IsWithin}
use Rattle.export_model.specs.laws.Parts.{copied_same}
use Rattle.export_model.specs.laws.Steps.{of_either}

-- no more commands fit a group than there are
longest-le : (limit : ℕ) (commands : List Change) → longest limit commands ≤ length commands
longest-le limit [] = omega arith
longest-le limit (command ∷ commands) =
    of_either (λ (n : ℕ). n ≤ length (command ∷ commands)) (nat_le (body_bytes command) limit) _ _
    (λ fit. let rest = longest-le (limit - body_bytes command) commands in omega (arith, rest))
    (λ none. omega arith)

-- areas stay in use while more is stored
pub rising_more : (base : ℕ) (turned : List ℕ) (stored more : ℕ) → stored ≤ more → IsRising base turned stored → IsRising base turned more
rising_more base [] stored more le is = omega (arith, le, is)
rising_more base (first ∷ rest) stored more le is = (is.0, rising_more first rest stored more le is.1)

-- what is in map and data is stored
pub rising_through : (base : ℕ) (turned : List ℕ) (stored : ℕ) → IsRising base turned stored → base ≤ stored
rising_through base [] stored is = is
rising_through base (first ∷ rest) stored is = let first_in = is.0 in let rest_in = rising_through first rest stored is.1 in omega (arith, first_in, rest_in)

-- the next area comes into use after one that holds something
pub rising_end : (base : ℕ) (turned : List ℕ) (stored : ℕ) → last_turned base turned < stored → IsRising base turned stored → IsRising base (turned ++ stored ∷ []) stored
rising_end base [] stored some is = (some, omega arith)
rising_end base (first ∷ rest) stored some is = (is.0, rising_end first rest stored some is.1)

-- the last area in use stands after what is stored
pub turned_through : (base : ℕ) (turned : List ℕ) (stored : ℕ) → IsRising base turned stored → last_turned base turned ≤ stored
turned_through base [] stored is = is
turned_through base (first ∷ rest) stored is = turned_through first rest stored is.1

pub last_of_more : (base : ℕ) (turned : List ℕ) (stored : ℕ) → last_turned base (turned ++ stored ∷ []) ≡ stored
last_of_more base [] stored = refl
last_of_more base (first ∷ rest) stored = last_of_more first rest stored

-- what goes into data stays the same while commands come to the end of the order
pub behind_same : (base : ℕ) (turned : List ℕ) (stored : ℕ) (order more : List Change) → IsRising base turned stored → stored ≤ length order
    → left_behind base turned (order ++ more) ≡ left_behind base turned order
behind_same base [] stored order more is within = refl
behind_same base (first ∷ rest) stored order more is within =
    let first_in = is.0 in let rest_in = rising_through first rest stored is.1 in
    copied_same base first order more (omega (arith, first_in)) (omega (arith, rest_in, within))

-- where nothing before the last area is turned nothing is left to copy, so after the first all of it is
rotated_left : (stage : Stage) (turned : List ℕ) → stage.left ≤ left_behind stage.base turned stage.order
    → (if is_turned turned then stage.left else to_copy stage.base stage.stored stage.order) ≤ left_behind stage.base (turned ++ stage.stored ∷ []) stage.order
rotated_left stage [] is = omega arith
rotated_left stage (first ∷ rest) is = is

-- the next area leaves the map written
rotated_mapped : (stage : Stage) (turned : List ℕ) → (is_turned turned ≡ true) × (stage.left ≡ 0)
    → (is_turned (turned ++ stage.stored ∷ []) ≡ true) × ((if is_turned turned then stage.left else to_copy stage.base stage.stored stage.order) ≡ 0)
rotated_mapped stage [] is = absurd (both_ways false refl is.0)
rotated_mapped stage (first ∷ rest) is = is

-- whatever log and connections come to
elsewhere : (world : World) (log : List Event) (places paired shown : ℕ → ℕ) (connections : ℕ → Connection) → IsWithin world
    → IsWithin (record world { log = log; places = places; paired = paired; shown = shown; connections = connections })
elsewhere world log places paired shown connections within = record {
  durable = within.durable;
  stored = within.stored;
  sealed = within.sealed;
  cleaned = within.cleaned;
  rising = within.rising;
  areas = within.areas;
  taken = within.taken;
  left = within.left;
  mapped = within.mapped;
}

module _ (world : World) (within : IsWithin world) where
  within_elsewhere : (log : List Event) (places paired shown : ℕ → ℕ) (connections : ℕ → Connection)
      → IsWithin (record world { log = log; places = places; paired = paired; shown = shown; connections = connections })
  within_elsewhere log places paired shown connections = elsewhere world log places paired shown connections within

  within_ordered : (commands : List Change) (log : List Event) (paired : ℕ → ℕ) (connections : ℕ → Connection)
      → IsWithin (record world { stage = record world.stage { order = world.stage.order ++ commands }; log = log; paired = paired; connections = connections })
  within_ordered commands log paired connections =
      let stored = within.stored in let sealed = within.sealed in
      record {
        durable = within.durable;
        stored = within.stored;
        sealed = omega (arith, length-append world.stage.order commands, sealed);
        cleaned = within.cleaned;
        rising = within.rising;
        areas = within.areas;
        taken = within.taken;
        left = let left = within.left in omega (arith, left, behind_same world.stage.base world.stage.turned world.stage.stored world.stage.order commands within.rising (omega (arith, stored, sealed)));
        mapped = within.mapped;
      }

  -- the numbers of what is in groups, stored and durable come to others that are in order
  within_counts : (sealed stored durable at faults : ℕ) (stopped : Bool) (event : Event) → durable ≤ stored → world.stage.stored ≤ stored → stored ≤ sealed → sealed ≤ length world.stage.order
      → ((at ≡ 0) ↔ (stored ≡ last_turned world.stage.base world.stage.turned))
      → IsWithin (logged (staged world (record world.stage { sealed = sealed; stored = stored; durable = durable; at = at; faults = faults; stopped = stopped })) event)
  within_counts sealed stored durable at faults stopped event first more second third taken = record {
    durable = first;
    stored = second;
    sealed = third;
    cleaned = within.cleaned;
    rising = rising_more world.stage.base world.stage.turned world.stage.stored stored more within.rising;
    areas = within.areas;
    taken = taken;
    left = within.left;
    mapped = within.mapped;
  }

  within_back : (faults : ℕ) (stopped : Bool) (event : Event)
      → IsWithin (logged (staged world (record world.stage { sealed = world.stage.stored; faults = faults; stopped = stopped })) event)
  within_back faults stopped event =
      let stored = within.stored in let sealed = within.sealed in
      within_counts world.stage.stored world.stage.stored world.stage.durable world.stage.at faults stopped event within.durable (omega arith) (omega arith) (omega (arith, stored, sealed)) within.taken

  -- what a checkpoint comes to
  within_turned : (base : ℕ) (turned : List ℕ) (left : ℕ) (mapped : Bool) (cleaned at generation : ℕ) (event : Event)
      → cleaned ≤ base → IsRising base turned world.stage.stored → length turned < areas_at world.stage → ((at ≡ 0) ↔ (world.stage.stored ≡ last_turned base turned)) → left ≤ left_behind base turned world.stage.order
      → (mapped ≡ true → (is_turned turned ≡ true) × (left ≡ 0))
      → IsWithin (logged (staged world (record world.stage { base = base; turned = turned; left = left; mapped = mapped; cleaned = cleaned; at = at; generation = generation })) event)
  within_turned base turned left mapped cleaned at generation event first second areas taken third fourth = record {
    durable = within.durable;
    stored = within.stored;
    sealed = within.sealed;
    cleaned = first;
    rising = second;
    areas = areas;
    taken = taken;
    left = third;
    mapped = fourth;
  }

  within_sent : (failure : Failure) (c : ℕ) (request : Message) → IsWithin (sent failure world c request)
  within_sent OutOfMemory c request = within_elsewhere _ _ _ _ _
  within_sent Nothing c request = within_elsewhere _ _ _ _ _
  within_sent DeviceFailure c request = within_elsewhere _ _ _ _ _
  within_sent (Misread given image) c request = within_elsewhere _ _ _ _ _

  within_send : (failure : Failure) (c : ℕ) (request : Message) (state : Connection) → IsWithin (send failure world c request state)
  within_send failure c request Idle = within_sent failure c request
  within_send failure c request (Requested other) = within_elsewhere _ _ _ _ _
  within_send failure c request (Waiting number) = within_elsewhere _ _ _ _ _
  within_send failure c request (Ready outcome) = within_elsewhere _ _ _ _ _
  within_send failure c request Closed = within_elsewhere _ _ _ _ _

  within_fault : (c : ℕ) → IsWithin (ready (faulted world) c (Refused Io))
  within_fault c = elsewhere (logged (faulted world) Took) _ _ _ _ _ (within_back _ _ _)

  within_accepted : (failure : Failure) (image : Image) (c : ℕ) (request : Message) → IsWithin (accepted failure image world c request)
  within_accepted OutOfMemory image c request = within_elsewhere _ _ _ _ _
  within_accepted Nothing image c request = within_ordered _ _ _ _
  within_accepted DeviceFailure image c request = of_either IsWithin (takes_old_bytes (edit_asked request) image) _ _ (λ wants. within_fault c) (λ none. within_ordered _ _ _ _)
  within_accepted (Misread given other) image c request = within_accepted given image c request

  within_read : (failure : Failure) (c : ℕ) (request : Message) → IsWithin (read_served failure world c request)
  within_read OutOfMemory c request = within_elsewhere _ _ _ _ _
  within_read DeviceFailure c request = within_fault c
  within_read Nothing c request = within_elsewhere _ _ _ _ _
  within_read (Misread given image) c request = within_elsewhere _ _ _ _ _

  within_status : (failure : Failure) (c : ℕ) (request : Message) → IsWithin (status_served failure world c request)
  within_status OutOfMemory c request = within_elsewhere _ _ _ _ _
  within_status DeviceFailure c request = within_elsewhere _ _ _ _ _
  within_status Nothing c request = within_elsewhere _ _ _ _ _
  within_status (Misread given image) c request = within_elsewhere _ _ _ _ _

  within_passed : (failure : Failure) (c : ℕ) (request : Message) → IsWithin (passed failure world c request)
  within_passed failure c request = of_either IsWithin world.stage.stopped _ _ (λ stopped. within_elsewhere _ _ _ _ _)
      (λ works. of_either IsWithin (is_flush request) _ _ (λ flush. within_elsewhere _ _ _ _ _)
      (λ other. of_either IsWithin (request.head.kind == 0) _ _ (λ read. within_read failure c request)
      (λ no_read. of_either IsWithin (request.head.kind == 7) _ _ (λ status. within_status failure c request)
      (λ no_status. of_either IsWithin (last_number world == 18446744073709551615) _ _ (λ full. within_elsewhere _ _ _ _ _)
      (λ left. of_either IsWithin (has_room world (becomes (edit_asked request) (image_shown failure world.stage))) _ _ (λ room. within_accepted failure (image_shown failure world.stage) c request) (λ none. within_elsewhere _ _ _ _ _))))))

  within_judged : (given : Result Action Errno) (failure : Failure) (c : ℕ) (request : Message) → IsWithin (judged given failure world c request)
  within_judged (Ok End) failure c request = within_elsewhere _ _ _ _ _
  within_judged (Ok Serve) failure c request = within_passed failure c request
  within_judged (Err errno) failure c request = within_elsewhere _ _ _ _ _

  within_serve : (failure : Failure) (c : ℕ) (state : Connection) → IsWithin (serve failure world c state)
  within_serve failure c (Requested request) = within_judged (verdict request.head world.stage.setting.geometry world.stage.setting.flags) failure c request
  within_serve failure c Idle = within_elsewhere _ _ _ _ _
  within_serve failure c (Waiting number) = within_elsewhere _ _ _ _ _
  within_serve failure c (Ready outcome) = within_elsewhere _ _ _ _ _
  within_serve failure c Closed = within_elsewhere _ _ _ _ _

  within_answer : (c : ℕ) (state : Connection) → IsWithin (answer world c state)
  within_answer c (Ready outcome) = within_elsewhere _ _ _ _ _
  within_answer c (Waiting number) = of_either IsWithin (nat_le number (world.stage.setting.opening + world.stage.durable)) _ _ (λ reached. within_elsewhere _ _ _ _ _)
      (λ above. of_either IsWithin world.stage.stopped _ _ (λ stopped. within_elsewhere _ _ _ _ _) (λ works. within_elsewhere _ _ _ _ _))
  within_answer c Idle = within_elsewhere _ _ _ _ _
  within_answer c (Requested request) = within_elsewhere _ _ _ _ _
  within_answer c Closed = within_elsewhere _ _ _ _ _

  within_grouped : IsWithin (sealed_more Nothing world)
  within_grouped =
      let most = longest-le (body_limit (area_bytes world.stage)) (drop world.stage.sealed world.stage.order) in
      let rest = length-drop world.stage.sealed world.stage.order in
      let stored = within.stored in let sealed = within.sealed in
      within_counts _ _ _ _ _ _ _ within.durable (omega arith) (omega (arith, stored)) (omega (arith, most, rest, sealed)) within.taken

  within_sealed : (failure : Failure) → IsWithin (sealed_more failure world)
  within_sealed OutOfMemory = within_elsewhere _ _ _ _ _
  within_sealed Nothing = within_grouped
  within_sealed DeviceFailure = within_grouped
  within_sealed (Misread given image) = within_grouped

  within_written : (failure : Failure) (stage : Stage) → IsWithin (logged (staged world stage) Took) → IsWithin (written failure world stage)
  within_written Nothing stage is = is
  within_written OutOfMemory stage is = within_elsewhere _ _ _ _ _
  within_written DeviceFailure stage is = within_back _ _ _
  within_written (Misread given image) stage is = is

  -- a group takes some of the last area
  more_taken : nat_lt world.stage.stored world.stage.sealed ≡ true → (bodies : ℕ) → (world.stage.at + 17 + bodies ≡ 0) ↔ (world.stage.sealed ≡ last_turned world.stage.base world.stage.turned)
  more_taken hand bodies =
      let above = ltb-true world.stage.stored world.stage.sealed hand in
      let behind = turned_through world.stage.base world.stage.turned world.stage.stored within.rising in
      (λ none. absurd (omega (arith, none)), λ same. absurd (omega (arith, same, above, behind)))

  within_append : (failure : Failure) → IsWithin (append failure world)
  within_append failure = of_either IsWithin (nat_lt world.stage.stored world.stage.sealed) _ _
      (λ hand. of_either IsWithin world.stage.stopped _ _ (λ stopped. within_back _ _ _)
      (λ works. of_either IsWithin (fits world) _ _
      (λ fit. let durable = within.durable in let stored = within.stored in
      within_written failure _ (within_counts _ _ _ _ _ _ _ (omega (arith, durable, stored)) stored (omega arith) within.sealed (more_taken hand _)))
      (λ full. within_back _ _ _))) (λ none. within_elsewhere _ _ _ _ _)

  within_in_time : (is_time : Bool) (next : World) → (is_time ≡ true → IsWithin next) → IsWithin (in_time is_time world next)
  within_in_time is_time next is = of_either IsWithin world.stage.stopped _ _ (λ stopped. within_elsewhere _ _ _ _ _)
      (λ works. of_either IsWithin is_time next _ is (λ not_now. within_elsewhere _ _ _ _ _))

  within_full : (next : World) → IsWithin next → IsWithin (with_generation world next)
  within_full next is = of_either IsWithin (is_full world.stage) _ next (λ full. within_elsewhere _ _ _ _ _) (λ room. is)

  within_rotated : can_rotate world.stage ≡ true → IsWithin (logged (staged world (rotated world.stage)) Took)
  within_rotated now =
      let tests = and_parts (nat_lt (length world.stage.turned + 1) (areas_at world.stage)) (nat_lt (last_turned world.stage.base world.stage.turned) world.stage.stored) now in
      within_turned _ _ _ _ _ _ _ _ within.cleaned
      (rising_end world.stage.base world.stage.turned world.stage.stored (ltb-true (last_turned world.stage.base world.stage.turned) world.stage.stored tests.1) within.rising)
      (let room = ltb-true (length world.stage.turned + 1) (areas_at world.stage) tests.0 in omega (arith, room, length-append world.stage.turned (world.stage.stored ∷ [])))
      (λ none. sym (last_of_more world.stage.base world.stage.turned world.stage.stored), λ same. refl)
      (rotated_left world.stage world.stage.turned within.left)
      (λ is. rotated_mapped world.stage world.stage.turned (within.mapped is))

  within_finished : (turned : List ℕ) → world.stage.turned ≡ turned → IsWithin (logged (staged world (finished world.stage turned)) Took)
  within_finished [] is = within_elsewhere _ _ _ _ _
  within_finished (first ∷ rest) is =
      let rising = subst (λ (turned : List ℕ). IsRising world.stage.base turned world.stage.stored) is within.rising in
      let above = rising.0 in let cleaned = within.cleaned in
      within_turned _ _ _ _ _ _ _ _ (omega (arith, above, cleaned)) rising.1
      (let areas = within.areas in let more = ap length is in omega (arith, areas, more))
      (subst (λ (turned : List ℕ). (world.stage.at ≡ 0) ↔ (world.stage.stored ≡ last_turned world.stage.base turned)) is within.taken) (omega arith) (λ mapped. absurd (both_ways false refl mapped))

  copying : can_copy world.stage ≡ true → world.stage.mapped ≡ true → (is_turned world.stage.turned ≡ true) × (world.stage.left - 1 ≡ 0)
  copying now mapped =
      let tests = and_parts (is_turned world.stage.turned && not world.stage.mapped) (nat_lt 0 world.stage.left) now in
      absurd (both_ways world.stage.mapped (not-true world.stage.mapped (and_parts (is_turned world.stage.turned) (not world.stage.mapped) tests.0).1) mapped)

  mapping : can_map world.stage ≡ true → (is_turned world.stage.turned ≡ true) × (world.stage.left ≡ 0)
  mapping now =
      let tests = and_parts (is_turned world.stage.turned && not world.stage.mapped) (world.stage.left == 0) now in
      ((and_parts (is_turned world.stage.turned) (not world.stage.mapped) tests.0).0, eqb-true world.stage.left 0 tests.1)

  pub within_step : (step : Step) (failure : Failure) → IsWithin (after_step world step failure)
  within_step (steps.Send c request) failure = within_send failure c request (world.connections c)
  within_step (steps.Serve c) failure = within_serve failure c (world.connections c)
  within_step (steps.Answer c) failure = within_answer c (world.connections c)
  within_step steps.Seal failure = of_either IsWithin (nat_lt world.stage.sealed (length world.stage.order) && (world.stage.sealed == world.stage.durable)) _ _
      (λ pending. within_sealed failure) (λ none. within_elsewhere _ _ _ _ _)
  within_step steps.Append failure = within_append failure
  within_step steps.Publish failure = of_either IsWithin (nat_lt world.stage.durable world.stage.stored) _ _
      (λ more. within_counts _ _ _ _ _ _ _ (omega arith) (omega arith) within.stored within.sealed within.taken) (λ none. within_elsewhere _ _ _ _ _)
  within_step steps.Rotate failure = within_in_time (can_rotate world.stage) _ (λ now. within_full _ (within_written failure _ (within_rotated now)))
  within_step steps.Copy failure = within_in_time (can_copy world.stage) _ (λ now. within_written failure _ (within_turned _ _ _ _ _ _ _ _ within.cleaned within.rising within.areas within.taken (let left = within.left in omega (arith, left)) (copying now)))
  within_step steps.Map failure = within_in_time (can_map world.stage) _ (λ now. within_written failure _ (within_turned _ _ _ _ _ _ _ _ within.cleaned within.rising within.areas within.taken within.left (λ is. mapping now)))
  within_step steps.Finish failure = within_in_time (can_finish world.stage) _ (λ now. within_full _ (within_written (without_memory failure) _ (within_finished world.stage.turned refl)))
  within_step steps.Clean failure = of_either IsWithin (can_clean world.stage) _ _
      (λ more. within_turned _ _ _ _ _ _ _ _ (omega arith) within.rising within.areas within.taken within.left within.mapped) (λ none. within_elsewhere _ _ _ _ _)

within_fresh : (setting : Setting) → IsWithin (fresh setting)
within_fresh setting = record {
  durable = omega arith;
  stored = omega arith;
  sealed = omega arith;
  cleaned = omega arith;
  rising = omega arith;
  areas = areas_some setting.geometry.layout;
  taken = (λ none. refl, λ none. refl);
  left = omega arith;
  mapped = λ is. absurd (both_ways false refl is);
}

pub within_reached : (world : World) → IsReached world → IsWithin world
within_reached world (Fresh setting) = within_fresh setting
within_reached world (After {world = before} step failure reached) = within_step before (within_reached before reached) step failure
