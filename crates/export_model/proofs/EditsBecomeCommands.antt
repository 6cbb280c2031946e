-- which commands an order has
use Rattle.std.proofs.Common.{◌≡◌, ◌⊎◌, inl, inr, ℕ, ◌+◌, ◌≤◌, ◌==◌, ◌&&◌, Bool, true, false, nat_le, nat_lt, Result, Ok, Err, Some, List, [], ◌∷◌, ◌++◌, length, sym, ◌∙◌, ap, subst, refl, arith}
use Rattle.std.specs.List.{slice_get}
use Rattle.std.proofs.lemmas.List.{take-append-le}
use Rattle.std.proofs.lemmas.Option.{slice_get_within}
use Rattle.image_model.specs.Change.{Change}
use Rattle.image_model.specs.Edit.{becomes}
use Rattle.image_model.specs.Image.{apply_all}
use Rattle.nbd_wire.specs.Request.{Message}
use Rattle.nbd_wire.specs.declared.error.Errno.{Errno}
use Rattle.export_model.specs.declared.action.Action.{Action}
use Rattle.export_model.specs.declared.action.Action.TheVariants.{End, Serve}
use Rattle.export_model.specs.declared.connection.Connection.{Connection}
use Rattle.export_model.specs.declared.connection.Connection.TheVariants.{Idle, Requested, Waiting, Ready, Closed}
use Rattle.export_model.specs.declared.event.Event.{Event}
use Rattle.export_model.specs.declared.event.Event.TheVariants.{Sent}
use Rattle.export_model.specs.declared.step.Step.{Step}
use Rattle.export_model.specs.declared.step.Step.TheVariants as steps
use Rattle.export_model.specs.Checkpoint.{can_rotate, can_copy, can_map, can_finish, can_clean, is_full, finished}
use Rattle.export_model.specs.Fits.{EditsFit, IsEdited}
use Rattle.export_model.specs.Log.{StandsAt, edit_asked, is_flush, is_write}
use Rattle.export_model.specs.Run.{IsReached, Fresh, After}
use Rattle.export_model.specs.Serve.{Failure, Nothing, OutOfMemory, DeviceFailure, Misread, accepted, answer, image_shown, judged, passed, read_served, serve, status_served, takes_old_bytes}
use Rattle.export_model.specs.Step.{after_step, append, in_time, sealed_more, send, sent, with_generation, without_memory, written}
use Rattle.export_model.specs.Verdict.{verdict}
use Rattle.export_model.specs.World.{World, Stage, Setting, fits, has_room, image_after, last_number, put}
use Rattle.export_model.specs.Law.{Grows}
use Rattle.export_model.specs.laws.Events.{get_more, get_split}
use Rattle.export_model.specs.laws.Logged.{put_same}
use Rattle.export_model.specs.laws.Sound.{IsRight, IsSound, facts_of}
use Rattle.export_model.specs.laws.Steps.{of_either, passes_write}
use Rattle.export_model.proofs.SchedulesKeepWorld.{grows_step, sound_reached}
use Rattle.export_model.proofs.AnswersFitOrder.{shown_true}

-- a step has put a command of this connection's request at the end of the order
record IsAdded (world next : World) (failure : Failure) : Type 0 where
  pub connection : ℕ
  pub request : Message
  pub asked : world.connections connection ≡ Requested request
  pub write : is_write request ≡ true
  pub order : next.stage.order ≡ world.stage.order ++ becomes (edit_asked request) (image_shown failure world.stage) ∷ []
  pub paired : next.paired (length world.stage.order) ≡ world.places connection

-- what a step makes of the order
data Ordered (world : World) (failure : Failure) (next : World) : Type 0 where
  Same : next.stage.order ≡ world.stage.order → Ordered world failure next
  Added : IsAdded world next failure → Ordered world failure next

module _ (world : World) (failure : Failure) where
  abbrev Orders : World → Type 0
  Orders = Ordered world failure

  module _ (c : ℕ) (request : Message) (asked : world.connections c ≡ Requested request) where
    orders_numbered : (command : Change) → command ≡ becomes (edit_asked request) (image_shown failure world.stage) → is_write request ≡ true
        → (next : World) → next.stage.order ≡ world.stage.order ++ command ∷ []
        → next.paired ≡ put world.paired (length world.stage.order) (world.places c) → Orders next
    orders_numbered command is write next order paired = Added (record {
      connection = c;
      request = request;
      asked = asked;
      write = write;
      order = order ∙ ap (λ (it : Change). world.stage.order ++ it ∷ []) is;
      paired = ap (λ (f : ℕ → ℕ). f (length world.stage.order)) paired ∙ put_same world.paired (length world.stage.order) (world.places c);
    })

    orders_accepted : (given : Failure) → is_write request ≡ true → Orders (accepted given (image_shown failure world.stage) world c request)
    orders_accepted OutOfMemory write = Same refl
    orders_accepted Nothing write = orders_numbered (becomes (edit_asked request) (image_shown failure world.stage)) refl write _ refl refl
    orders_accepted DeviceFailure write =
        of_either Orders (takes_old_bytes (edit_asked request) (image_shown failure world.stage)) _ _ (λ wants. Same refl) (λ none. orders_numbered (becomes (edit_asked request) (image_shown failure world.stage)) refl write _ refl refl)
    orders_accepted (Misread given other) write = orders_accepted given write

    orders_read : (given : Failure) → Orders (read_served given world c request)
    orders_read OutOfMemory = Same refl
    orders_read Nothing = Same refl
    orders_read DeviceFailure = Same refl
    orders_read (Misread given image) = Same refl

    orders_status : (given : Failure) → Orders (status_served given world c request)
    orders_status OutOfMemory = Same refl
    orders_status Nothing = Same refl
    orders_status DeviceFailure = Same refl
    orders_status (Misread given image) = Same refl

    orders_passed : (is_flush request ≡ false → (request.head.kind == 0) ≡ false → (request.head.kind == 7) ≡ false → is_write request ≡ true)
        → Orders (passed failure world c request)
    orders_passed writes = of_either Orders world.stage.stopped _ _ (λ stopped. Same refl)
        (λ works. of_either Orders (is_flush request) _ _ (λ flush. Same refl)
        (λ other. of_either Orders (request.head.kind == 0) _ _ (λ read. orders_read failure)
        (λ no_read. of_either Orders (request.head.kind == 7) _ _ (λ status. orders_status failure)
        (λ no_status. of_either Orders (last_number world == 18446744073709551615) _ _ (λ full. Same refl)
        (λ left. of_either Orders (has_room world (becomes (edit_asked request) (image_shown failure world.stage))) _ _
        (λ room. orders_accepted failure (writes other no_read no_status)) (λ none. Same refl))))))

    orders_judged : (result : Result Action Errno)
        → (result ≡ Ok Serve → is_flush request ≡ false → (request.head.kind == 0) ≡ false → (request.head.kind == 7) ≡ false → is_write request ≡ true)
        → Orders (judged result failure world c request)
    orders_judged (Ok End) writes = Same refl
    orders_judged (Ok Serve) writes = orders_passed (writes refl)
    orders_judged (Err errno) writes = Same refl

  orders_serve : (c : ℕ) (state : Connection) → world.connections c ≡ state → Orders (serve failure world c state)
  orders_serve c (Requested request) asked =
      orders_judged c request asked (verdict request.head world.stage.setting.geometry world.stage.setting.flags) (passes_write request.head world.stage.setting.geometry world.stage.setting.flags)
  orders_serve c Idle asked = Same refl
  orders_serve c (Waiting number) asked = Same refl
  orders_serve c (Ready outcome) asked = Same refl
  orders_serve c Closed asked = Same refl

  orders_answer : (c : ℕ) (state : Connection) → Orders (answer world c state)
  orders_answer c (Ready outcome) = Same refl
  orders_answer c (Waiting number) = of_either Orders (nat_le number (world.stage.setting.opening + world.stage.durable)) _ _ (λ reached. Same refl)
      (λ above. of_either Orders world.stage.stopped _ _ (λ stopped. Same refl) (λ works. Same refl))
  orders_answer c Idle = Same refl
  orders_answer c (Requested request) = Same refl
  orders_answer c Closed = Same refl

  orders_sent : (given : Failure) (c : ℕ) (request : Message) → Orders (sent given world c request)
  orders_sent OutOfMemory c request = Same refl
  orders_sent Nothing c request = Same refl
  orders_sent DeviceFailure c request = Same refl
  orders_sent (Misread given image) c request = Same refl

  orders_send : (c : ℕ) (request : Message) (state : Connection) → Orders (send failure world c request state)
  orders_send c request Idle = orders_sent failure c request
  orders_send c request (Requested other) = Same refl
  orders_send c request (Waiting number) = Same refl
  orders_send c request (Ready outcome) = Same refl
  orders_send c request Closed = Same refl

  orders_sealed : (given : Failure) → Orders (sealed_more given world)
  orders_sealed OutOfMemory = Same refl
  orders_sealed Nothing = Same refl
  orders_sealed DeviceFailure = Same refl
  orders_sealed (Misread given image) = Same refl

  orders_written : (given : Failure) (stage : Stage) → stage.order ≡ world.stage.order → Orders (written given world stage)
  orders_written Nothing stage same = Same same
  orders_written OutOfMemory stage same = Same refl
  orders_written (Misread given image) stage same = Same same
  orders_written DeviceFailure stage same = Same refl

  orders_append : Orders (append failure world)
  orders_append = of_either Orders (nat_lt world.stage.stored world.stage.sealed) _ _
      (λ hand. of_either Orders world.stage.stopped _ _ (λ stopped. Same refl)
      (λ works. of_either Orders (fits world) _ _ (λ fit. orders_written failure _ refl) (λ full. Same refl)))
      (λ none. Same refl)

  orders_in_time : (is_time : Bool) (next : World) → Orders next → Orders (in_time is_time world next)
  orders_in_time is_time next is = of_either Orders world.stage.stopped _ _ (λ stopped. Same refl)
      (λ works. of_either Orders is_time next _ (λ now. is) (λ not_now. Same refl))

  orders_full : (next : World) → Orders next → Orders (with_generation world next)
  orders_full next is = of_either Orders (is_full world.stage) _ next (λ full. Same refl) (λ room. is)

  finished_order : (turned : List ℕ) → (finished world.stage turned).order ≡ world.stage.order
  finished_order [] = refl
  finished_order (first ∷ rest) = refl

  orders_step : (step : Step) → Orders (after_step world step failure)
  orders_step (steps.Send c request) = orders_send c request (world.connections c)
  orders_step (steps.Serve c) = orders_serve c (world.connections c) refl
  orders_step (steps.Answer c) = orders_answer c (world.connections c)
  orders_step steps.Seal = of_either Orders (nat_lt world.stage.sealed (length world.stage.order) && (world.stage.sealed == world.stage.durable)) _ _
      (λ pending. orders_sealed failure) (λ none. Same refl)
  orders_step steps.Append = orders_append
  orders_step steps.Publish = of_either Orders (nat_lt world.stage.durable world.stage.stored) _ _ (λ more. Same refl) (λ none. Same refl)
  orders_step steps.Rotate = orders_in_time (can_rotate world.stage) _ (orders_full _ (orders_written failure _ refl))
  orders_step steps.Copy = orders_in_time (can_copy world.stage) _ (orders_written failure _ refl)
  orders_step steps.Map = orders_in_time (can_map world.stage) _ (orders_written failure _ refl)
  orders_step steps.Finish = orders_in_time (can_finish world.stage) _ (orders_full _ (orders_written (without_memory failure) _ (finished_order world.stage.turned)))
  orders_step steps.Clean = of_either Orders (can_clean world.stage) _ _ (λ more. Same refl) (λ none. Same refl)

abbrev AreEdited : World → Type 0
AreEdited world = EditsFit world.log world.stage.order world.paired world.stage.setting.image

edited_step : (world : World) (step : Step) (failure : Failure) → IsSound world → world.stage.setting.trusted ≡ true → AreEdited world
    → AreEdited (after_step world step failure)
edited_step world step failure sound trusted before k command at = by_order (orders_step world failure step)
  where
    next : World
    next = after_step world step failure

    grows : Grows world next
    grows = grows_step world step failure

    stands : (place : ℕ) (event : Event) → StandsAt world.log place event → StandsAt next.log place event
    stands place event is = subst (λ (l : List Event). StandsAt l place event) (sym grows.log.1) (get_more world.log grows.log.0 place event is)

    same_image : k ≤ length world.stage.order → image_after next.stage.order k next.stage.setting.image ≡ image_after world.stage.order k world.stage.setting.image
    same_image within = ap (λ (s : Setting). image_after next.stage.order k s.image) grows.setting
        ∙ (ap (λ (l : List Change). image_after l k world.stage.setting.image) grows.order.1
        ∙ ap (λ (l : List Change). apply_all l world.stage.setting.image) (take-append-le k world.stage.order grows.order.0 within))

    old : slice_get world.stage.order k ≡ Some command → IsEdited next.log (next.paired k) command (image_after next.stage.order k next.stage.setting.image)
    old is =
        let below = slice_get_within world.stage.order k command is in
        let found = before k command is in
        let here = grows.paired k below in
        record {
          connection = found.connection;
          request = found.request;
          sent = subst (λ (place : ℕ). StandsAt next.log place (Sent found.connection found.request)) (sym here) (stands (world.paired k) (Sent found.connection found.request) found.sent);
          write = found.write;
          own = ap (becomes (edit_asked found.request)) (same_image (omega (arith, below))) ∙ found.own;
        }

    new : (added : IsAdded world next failure) → k ≡ length world.stage.order → command ≡ becomes (edit_asked added.request) (image_shown failure world.stage)
        → IsEdited next.log (next.paired k) command (image_after next.stage.order k next.stage.setting.image)
    new added last own =
        let open_request = (subst (λ (state : Connection). IsRight (facts_of world) added.connection (world.places added.connection) state) added.asked (sound.right added.connection)).0 in
        record {
          connection = added.connection;
          request = added.request;
          sent = subst (λ (place : ℕ). StandsAt next.log place (Sent added.connection added.request)) (sym (ap next.paired last ∙ added.paired))
              (stands (world.places added.connection) (Sent added.connection added.request) open_request.sent);
          write = added.write;
          own = ap (becomes (edit_asked added.request)) (same_image (omega (arith, last))
              ∙ (ap (λ (n : ℕ). image_after world.stage.order n world.stage.setting.image) last ∙ sym (shown_true failure world.stage trusted))) ∙ sym own;
        }

    by_place : (added : IsAdded world next failure) → (slice_get world.stage.order k ≡ Some command) ⊎ ((k ≡ length world.stage.order) × (command ≡ becomes (edit_asked added.request) (image_shown failure world.stage)))
        → IsEdited next.log (next.paired k) command (image_after next.stage.order k next.stage.setting.image)
    by_place added (inl is) = old is
    by_place added (inr last) = new added last.0 last.1

    by_order : Ordered world failure next → IsEdited next.log (next.paired k) command (image_after next.stage.order k next.stage.setting.image)
    by_order (Same same) = old (subst (λ (l : List Change). slice_get l k ≡ Some command) same at)
    by_order (Added added) = by_place added (get_split world.stage.order (becomes (edit_asked added.request) (image_shown failure world.stage)) k command
        (subst (λ (l : List Change). slice_get l k ≡ Some command) added.order at))

-- in a world that schedules lead to each command is what its request's edit becomes over the image after those before it
pub edits_fit : (world : World) → IsReached world → world.stage.setting.trusted ≡ true → AreEdited world
edits_fit world (Fresh setting) trusted = λ k command at. cc
edits_fit world (After {world = before} step failure reached) trusted =
    let was : before.stage.setting.trusted ≡ true = sym (ap (λ (s : Setting). s.trusted) (grows_step before step failure).setting) ∙ trusted in
    edited_step before step failure (sound_reached before reached) was (edits_fit before reached was)
