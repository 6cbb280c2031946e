-- how steps of an export follow one another
use Rattle.std.proofs.Common.{◌≡◌, ◌⊎◌, inl, inr, ℕ, zero, suc, ◌+◌, ◌*◌, ◌<◌, ◌==◌, ◌&&◌, ◌||◌, not, bit_and, Bool, true, false, if◌then◌else◌, nat_le, nat_lt, Option, Some, None, Result, Ok, Err, IfOk, IsErrAnd, List, [], ◌∷◌, ◌++◌, append_assoc, append-nil, length, sym, ◌∙◌, ap, subst, refl}
use Rattle.device_image.specs.Keeper.{KeeperState}
use Rattle.disk_model.specs.Disk.{State}
use Rattle.nbd_wire.specs.Request.{Message}
use Rattle.nbd_wire.specs.declared.error.Errno.{Errno}
use Rattle.nbd_wire.specs.declared.error.Errno.TheVariants.{Io, Invalid, NoMemory, NoSpace}
use Rattle.nbd_wire.specs.declared.head.RequestHead.{RequestHead}
use Rattle.nbd_wire.specs.declared.message.SessionFlags.{SessionFlags}
use Rattle.image_model.specs.declared.geometry.Geometry.{Geometry}
use Rattle.export_model.specs.Verdict.{allowed_flags, first_of_rules, is_known, past_end}
use Rattle.std.proofs.lemmas.Bool.{both_ways, eqb-false, eqb-true, leb-false}
use Rattle.nbd_wire.specs.declared.message.Answer.{Answer}
use Rattle.nbd_wire.specs.declared.message.Answer.TheVariants.{Done, Refused, States}
use Rattle.nbd_wire.specs.declared.message.Run.{Run}
use Rattle.image_model.specs.Change.{Change}
use Rattle.image_model.specs.Edit.{becomes}
use Rattle.image_model.specs.Image.{Image}
use Rattle.order_book.specs.Order.{OrderState}
use Rattle.export_steps.specs.Bench.{ConnectionsState}
use Rattle.export_steps.specs.Life.{LeadsLaw, Trusts}
use Rattle.export_steps.specs.Parts.{IsExportOf}
use Rattle.export_model.specs.declared.action.Action.{Action}
use Rattle.export_model.specs.declared.action.Action.TheVariants.{End}
use Rattle.export_model.specs.declared.connection.Connection.{Connection}
use Rattle.export_model.specs.declared.connection.Connection.TheVariants.{Idle, Requested, Waiting, Ready, Closed}
use Rattle.export_model.specs.declared.event.Event.{Event}
use Rattle.export_model.specs.declared.event.Event.TheVariants.{Sent, Answered, Numbered, Took, Skipped, Failed}
use Rattle.export_model.specs.declared.step.Step.{Step}
use Rattle.export_model.specs.declared.step.Step.TheVariants as steps
use Rattle.export_model.specs.declared.step.Step.TheVariants.{Send, Serve, Seal, Append, Publish, Rotate, Copy, Map, Finish, Clean}
use Rattle.export_model.specs.Log.{edit_asked, flush_waits, is_flush, is_write}
use Rattle.export_model.specs.Serve.{Failure, Nothing, OutOfMemory, DeviceFailure, Misread, accepted, answer, answered, held, image_shown, judged, logged, moved, ordered, passed, read_served, ready, shown, state_after, status_served, takes_old_bytes}
use Rattle.export_model.specs.Shown.{bytes_from, shown_by}
use Rattle.export_model.specs.Step.{after_step, append, publish, seal, sealed_more, stored_more, clean, in_time, with_generation, without_memory, written}
use Rattle.export_model.specs.World.{World, fits, has_room, last_number, put, Stage}
use Rattle.nbdj_pipe.specs.inner.Export.{AwaitsAnswer, Follows, IsGiven, IsJudged, IsStoring, HasAnswer, Settles, said_of, told_by}
use Rattle.front_end.specs.declared.refusal.Refusal.{Refusal}
use Rattle.nbdj_pipe.specs.Talk.{IsAnswerOf, plain, spoken, verdict_on}
use Rattle.export_model.specs.Checkpoint.{can_clean, can_copy, can_finish, can_map, can_rotate, is_full}

pub spoken_on : (log more : List Event) → spoken (log ++ more) ≡ spoken log ++ spoken more
spoken_on [] more = refl
spoken_on (Sent c request ∷ log) more = ap (λ (l : List Event). Sent c request ∷ l) (spoken_on log more)
spoken_on (Answered c answer ∷ log) more = ap (λ (l : List Event). Answered c answer ∷ l) (spoken_on log more)
spoken_on (Numbered c number ∷ log) more = spoken_on log more
spoken_on (Took ∷ log) more = spoken_on log more
spoken_on (Skipped ∷ log) more = spoken_on log more
spoken_on (Failed fault ∷ log) more = spoken_on log more

-- the last of a list with one item more
pub last_same : {X : Type 0} (xs : List X) (x y : X) → xs ++ x ∷ [] ≡ xs ++ y ∷ [] → x ≡ y
last_same [] x y is = cc
last_same (z ∷ xs) x y is = last_same xs x y (rest z xs (x ∷ []) (y ∷ []) is)
  where
    rest : {X : Type 0} (z : X) (xs a b : List X) → z ∷ (xs ++ a) ≡ z ∷ (xs ++ b) → xs ++ a ≡ xs ++ b
    rest z xs a b is = cc

module _ {D : Type 0} (state : D → State) (faults : D → ℕ) (honest : D → Type 0) (law : LeadsLaw state faults honest) where
  -- one run after another
  pub follows_on : (world mid next : World) (trusted : Bool) (said more : List Event) (order order' : OrderState) (keeper keeper' : KeeperState D) (connections connections' : ConnectionsState) (start : D)
      → (honest keeper'.disk → honest keeper.disk)
      → Follows world mid said order keeper (faults keeper.disk) connections (Trusts trusted (honest keeper.disk)) (state start) (state keeper.disk)
      → Follows mid next more order' keeper' (faults keeper'.disk) connections' (Trusts trusted (honest keeper'.disk)) (state keeper.disk) (state keeper'.disk)
      → Follows world next (said ++ more) order' keeper' (faults keeper'.disk) connections' (Trusts trusted (honest keeper'.disk)) (state start) (state keeper'.disk)
  follows_on world mid next trusted said more order order' keeper keeper' connections connections' start was here on = record {
    steps = here.steps ++ on.steps;
    leads = law.on world mid next trusted here.steps on.steps order order' keeper keeper' connections connections' start was here.leads on.leads;
    said_is = on.said_is ∙ (ap (λ (l : List Event). l ++ more) here.said_is ∙ append_assoc (spoken world.log) said more);
    setting = on.setting ∙ here.setting;
  }

module _ {D : Type 0} (state : D → State) (faults : D → ℕ) (honest : D → Type 0) (law : LeadsLaw state faults honest) where
  -- nothing was done
  pub settles_none : (world : World) (trusted : Bool) (order : OrderState) (keeper : KeeperState D) (connections : ConnectionsState)
      → IsExportOf world order keeper (faults keeper.disk) connections (Trusts trusted (honest keeper.disk)) (state keeper.disk)
      → Settles world world order keeper (faults keeper.disk) connections (Trusts trusted (honest keeper.disk)) (state keeper.disk) (state keeper.disk)
  settles_none world trusted order keeper connections of = record {
    follows = record { steps = []; leads = law.none world trusted order keeper connections of; said_is = sym (append-nil (spoken world.log)); setting = refl };
    connections_are = refl;
  }

  pub settles_on : (world mid next : World) (trusted : Bool) (order order' : OrderState) (keeper keeper' : KeeperState D) (connections connections' : ConnectionsState) (start : D)
      → (honest keeper'.disk → honest keeper.disk)
      → Settles world mid order keeper (faults keeper.disk) connections (Trusts trusted (honest keeper.disk)) (state start) (state keeper.disk)
      → Settles mid next order' keeper' (faults keeper'.disk) connections' (Trusts trusted (honest keeper'.disk)) (state keeper.disk) (state keeper'.disk)
      → Settles world next order' keeper' (faults keeper'.disk) connections' (Trusts trusted (honest keeper'.disk)) (state start) (state keeper'.disk)
  settles_on world mid next trusted order order' keeper keeper' connections connections' start was here on = record {
    follows = follows_on state faults honest law world mid next trusted [] [] order order' keeper keeper' connections connections' start was here.follows on.follows;
    connections_are = on.connections_are ∙ here.connections_are;
  }

-- what holds of both sides of a choice holds of the choice
pub of_test : {X : Type 0} (P : X → Type 0) (test : Bool) (x y : X) → (test ≡ true → P x) → (test ≡ false → P y) → P (if test then x else y)
of_test P true x y here there = here refl
of_test P false x y here there = there refl

length-bytes_from : (image : Image) (place count : ℕ) → length (bytes_from image place count) ≡ count
unfolding bytes_from
length-bytes_from image place zero = refl
length-bytes_from image place (suc count) = ap suc (length-bytes_from image (place + 1) count)

-- what an image shows is an answer of a READ, and of a BLOCK_STATUS
shown_fits : (image : Image) (head : RequestHead) → (head.kind ≡ 0) ⊎ (head.kind ≡ 7) → IsAnswerOf head (shown_by image head)
shown_fits image head kind = of_test (IsAnswerOf head) (head.kind == 0) _ _
    (λ read. (eqb-true head.kind 0 read, refl, length-bytes_from image head.offset head.length))
    (λ other. status kind (eqb-false head.kind 0 other))
  where
    status : (head.kind ≡ 0) ⊎ (head.kind ≡ 7) → (head.kind ≡ 0 → ⊥) → head.kind ≡ 7
    status (inl read) other = absurd (other read)
    status (inr is) other = is

-- a step of order and keeper leaves the connections as they are
module _ (world : World) where
  -- nothing is said by an event that neither sends nor answers
  abbrev IsStill : World → Type 0
  IsStill next = (next.connections ≡ world.connections) × ((event : Event) × (next.log ≡ world.log ++ event ∷ []) × (spoken (event ∷ []) ≡ []))

  still_held : IsStill (held world)
  still_held = (refl, (Skipped, refl, refl))

  still_sealed : (failure : Failure) → IsStill (sealed_more failure world)
  still_sealed OutOfMemory = (refl, (_, refl, refl))
  still_sealed Nothing = (refl, (Took, refl, refl))
  still_sealed DeviceFailure = (refl, (Took, refl, refl))
  still_sealed (Misread given image) = (refl, (Took, refl, refl))

  still_seal : (failure : Failure) → IsStill (seal failure world)
  still_seal failure = of_test IsStill (nat_lt world.stage.sealed (length world.stage.order) && (world.stage.sealed == world.stage.durable)) _ _ (λ is. still_sealed failure) (λ is. still_held)

  still_stored : (failure : Failure) → IsStill (stored_more failure world)
  still_stored OutOfMemory = (refl, (_, refl, refl))
  still_stored Nothing = (refl, (Took, refl, refl))
  still_stored DeviceFailure = (refl, (_, refl, refl))
  still_stored (Misread given image) = (refl, (Took, refl, refl))

  still_append : (failure : Failure) → IsStill (append failure world)
  still_append failure = of_test IsStill (nat_lt world.stage.stored world.stage.sealed) _ _
      (λ hand. of_test IsStill world.stage.stopped _ _ (λ stopped. (refl, (_, refl, refl)))
      (λ works. of_test IsStill (fits world) _ _ (λ fit. still_stored failure) (λ full. (refl, (Skipped, refl, refl)))))
      (λ none. still_held)

  still_publish : IsStill (publish world)
  still_publish = of_test IsStill (nat_lt world.stage.durable world.stage.stored) _ _ (λ more. (refl, (Took, refl, refl))) (λ none. still_held)

  still_written : (failure : Failure) (stage : Stage) → IsStill (written failure world stage)
  still_written OutOfMemory stage = (refl, (_, refl, refl))
  still_written Nothing stage = (refl, (Took, refl, refl))
  still_written DeviceFailure stage = (refl, (_, refl, refl))
  still_written (Misread given image) stage = (refl, (Took, refl, refl))

  still_in_time : (is_time : Bool) (next : World) → IsStill next → IsStill (in_time is_time world next)
  still_in_time is_time next is = of_test IsStill world.stage.stopped _ _ (λ stopped. (refl, (_, refl, refl))) (λ works. of_test IsStill is_time _ _ (λ now. is) (λ late. still_held))

  still_header : (next : World) → IsStill next → IsStill (with_generation world next)
  still_header next is = of_test IsStill (is_full world.stage) _ _ (λ full. (refl, (_, refl, refl))) (λ left. is)

  still_clean : IsStill (clean world)
  still_clean = of_test IsStill (can_clean world.stage) _ _ (λ some. (refl, (Took, refl, refl))) (λ none. still_held)

  pub still_step : (step : Step) (failure : Failure) → IsStoring step → IsStill (after_step world step failure)
  still_step (Send c request) failure is = absurd is
  still_step (Serve c) failure is = absurd is
  still_step (steps.Answer c) failure is = absurd is
  still_step Seal failure is = still_seal failure
  still_step Append failure is = still_append failure
  still_step Publish failure is = still_publish
  still_step Rotate failure is = still_in_time (can_rotate world.stage) _ (still_header _ (still_written failure _))
  still_step Copy failure is = still_in_time (can_copy world.stage) _ (still_written failure _)
  still_step Map failure is = still_in_time (can_map world.stage) _ (still_written failure _)
  still_step Finish failure is = still_in_time (can_finish world.stage) _ (still_header _ (still_written (without_memory failure) _))
  still_step Clean failure is = still_clean

  -- what serving a request comes to: nothing, where there is no room for its command, or what the verdict on it says
  abbrev pub IsServedAs : Message → Result Action Errno → World → Type 0
  IsServedAs request given next = ((next ≡ held world) × (given ≡ Ok Action.Serve) × (world.stage.stopped ≡ false) × (is_write request ≡ true)
      × (failure : Failure) × (has_room world (becomes (edit_asked request) (image_shown failure world.stage)) ≡ false))
      ⊎ (IsJudged request.head given (next.connections 0) × ((event : Event) × (next.log ≡ world.log ++ event ∷ []) × (spoken (event ∷ []) ≡ []) × (event ≡ Skipped → ⊥)))

  put_here : (state : Connection) → put world.connections 0 state 0 ≡ state
  put_here state = refl

  took_apart : Took ≡ Skipped → ⊥
  took_apart is = cc

  numbered_apart : (c number : ℕ) → Numbered c number ≡ Skipped → ⊥
  numbered_apart c number is = cc

  served_waits : (request : Message) (command : Change) (waits : Bool) (number : ℕ) → IsAnswerOf request.head Done
      → IsServedAs request (Ok Action.Serve) (logged (moved (ordered world 0 command) 0 (state_after waits number)) (Numbered 0 number))
  served_waits request command true number done = inr (done, (Numbered 0 number, refl, refl, numbered_apart 0 number))
  served_waits request command false number done = inr (done, (Numbered 0 number, refl, refl, numbered_apart 0 number))

  served_refused : (request : Message) (errno : Errno) → IsServedAs request (Ok Action.Serve) (ready world 0 (Refused errno))
  served_refused request errno = inr (tt, (Took, refl, refl, took_apart))

  served_accepted : (failure : Failure) (image : Image) (request : Message) → IsAnswerOf request.head Done → IsServedAs request (Ok Action.Serve) (accepted failure image world 0 request)
  served_accepted OutOfMemory image request done = served_refused request NoMemory
  served_accepted Nothing image request done = served_waits request _ _ _ done
  served_accepted DeviceFailure image request done = of_test (IsServedAs request (Ok Action.Serve)) (takes_old_bytes (edit_asked request) image) _ _
      (λ takes. inr (tt, (Took, refl, refl, took_apart)))
      (λ none. served_waits request _ _ _ done)
  served_accepted (Misread given other) image request done = served_accepted given image request done

  served_shown : (image : Image) (request : Message) → (request.head.kind ≡ 0) ⊎ (request.head.kind ≡ 7) → IsServedAs request (Ok Action.Serve) (shown image world 0 request)
  served_shown image request kind = inr (shown_fits image request.head kind, (Took, refl, refl, took_apart))

  served_read : (failure : Failure) (request : Message) → request.head.kind ≡ 0 → IsServedAs request (Ok Action.Serve) (read_served failure world 0 request)
  served_read OutOfMemory request kind = served_refused request NoMemory
  served_read DeviceFailure request kind = inr (tt, (Took, refl, refl, took_apart))
  served_read Nothing request kind = served_shown (image_shown Nothing world.stage) request (inl kind)
  served_read (Misread given image) request kind = served_shown (image_shown (Misread given image) world.stage) request (inl kind)

  served_status : (failure : Failure) (request : Message) → request.head.kind ≡ 7 → IsServedAs request (Ok Action.Serve) (status_served failure world 0 request)
  served_status OutOfMemory request kind = served_refused request NoMemory
  served_status Nothing request kind = served_shown (image_shown Nothing world.stage) request (inr kind)
  served_status DeviceFailure request kind = served_shown (image_shown DeviceFailure world.stage) request (inr kind)
  served_status (Misread given image) request kind = served_shown (image_shown (Misread given image) world.stage) request (inr kind)

  served_flush : (request : Message) (waits : Bool) → request.head.kind ≡ 3 → IsServedAs request (Ok Action.Serve) (logged (moved world 0 (state_after waits (last_number world))) Took)
  served_flush request waits kind = by waits
    where
      unlike : (other : ℕ) → (3 ≡ other → ⊥) → request.head.kind ≡ other → ⊥
      unlike other apart is = apart (sym kind ∙ is)

      by : (waits : Bool) → IsServedAs request (Ok Action.Serve) (logged (moved world 0 (state_after waits (last_number world))) Took)
      by true = inr ((λ read. unlike 0 (λ is. cc) read, λ status. unlike 7 (λ is. cc) status), (Took, refl, refl, took_apart))
      by false = inr ((λ read. unlike 0 (λ is. cc) read, λ status. unlike 7 (λ is. cc) status), (Took, refl, refl, took_apart))

  -- a request that asks for a write command where it is none of the others
  abbrev pub AsksElse : Message → Type 0
  AsksElse request = (request.head.kind == 3) ≡ false → (request.head.kind == 0) ≡ false → (request.head.kind == 7) ≡ false → is_write request ≡ true

  served_passed : (failure : Failure) (request : Message) → AsksElse request → IsServedAs request (Ok Action.Serve) (passed failure world 0 request)
  served_passed failure request writes =
      let Served : World → Type 0 = IsServedAs request (Ok Action.Serve) in
      of_test Served world.stage.stopped _ _ (λ stopped. served_refused request Io)
      (λ works. of_test Served (is_flush request) _ _ (λ flush. served_flush request (flush_waits world.stage.setting.mode) (eqb-true request.head.kind 3 flush))
      (λ other. of_test Served (request.head.kind == 0) _ _ (λ read. served_read failure request (eqb-true request.head.kind 0 read))
      (λ no_read. of_test Served (request.head.kind == 7) _ _ (λ status. served_status failure request (eqb-true request.head.kind 7 status))
      (λ no_status. of_test Served (last_number world == 18446744073709551615) _ _ (λ full. served_refused request NoSpace)
      (λ left. of_test Served (has_room world (becomes (edit_asked request) (image_shown failure world.stage))) _ _
      (λ room. served_accepted failure (image_shown failure world.stage) request (eqb-false request.head.kind 0 no_read, eqb-false request.head.kind 7 no_status))
      (λ none. inl (refl, refl, works, writes other no_read no_status, failure, none)))))))

  pub served_as : (failure : Failure) (request : Message) (given : Result Action Errno) → (given ≡ Ok Action.Serve → AsksElse request) → IsServedAs request given (judged given failure world 0 request)
  served_as failure request (Ok End) writes = inr (refl, (Took, refl, refl, took_apart))
  served_as failure request (Ok Action.Serve) writes = served_passed failure request (writes refl)
  served_as failure request (Err errno) writes = inr (refl, (Took, refl, refl, took_apart))

  -- what answering comes to: nothing, where the number isn't durable, or the answer that is given
  abbrev pub IsAnsweredAs : Connection → World → Type 0
  IsAnsweredAs state next = ((next ≡ held world) × (world.stage.stopped ≡ false) × ((number : ℕ) × (state ≡ Waiting number) × (world.stage.setting.opening + world.stage.durable < number)))
      ⊎ ((given : Answer) × (next ≡ answered world 0 given) × IsGiven state given)

  pub answered_as : (head : RequestHead) (state : Connection) → AwaitsAnswer head state → IsAnsweredAs state (answer world 0 state)
  answered_as head Idle awaits = absurd awaits
  answered_as head (Requested request) awaits = absurd awaits
  answered_as head (Waiting number) awaits =
      let durable = world.stage.setting.opening + world.stage.durable in
      of_test (IsAnsweredAs (Waiting number)) (nat_le number durable) _ _ (λ reached. inr (Done, refl, inl refl))
      (λ above. of_test (IsAnsweredAs (Waiting number)) world.stage.stopped _ _ (λ stopped. inr (Refused Io, refl, inr (Io, refl)))
      (λ works. inl (refl, works, (number, refl, leb-false number durable above))))
  answered_as head (Ready given) awaits = inr (given, refl, refl)
  answered_as head Closed awaits = absurd awaits

-- an answer that is a refusal
pub no_ok : {T E : Type 0} (Q : E → Type 0) (P : T → Type 0) (answer : Result T E) → IsErrAnd answer Q → IfOk answer P
no_ok Q P (Ok value) is = absurd is
no_ok Q P (Err error) is = tt

pub told_err : (Q : Refusal → Type 0) (answer : Result Answer Refusal) → IsErrAnd answer Q → told_by answer ≡ []
told_err Q (Ok value) is = absurd is
told_err Q (Err error) is = refl

pub none_is : {X : Type 0} (o : Option X) → ((x : X) → o ≡ Some x → ⊥) → o ≡ None
none_is None none = refl
none_is (Some x) none = absurd (none x refl)

pub said_err : (Q : Refusal → Type 0) (answer : Result (Option Answer) Refusal) → IsErrAnd answer Q → said_of answer ≡ []
said_err Q (Ok value) is = absurd is
said_err Q (Err error) is = refl

-- a request that isn't a DISC, once it is judged, awaits its answer
pub judged_awaits : (head : RequestHead) (given : Result Action Errno) (state : Connection) → IsJudged head given state → (given ≡ Ok End → ⊥) → AwaitsAnswer head state
judged_awaits head (Ok End) state is other = absurd (other refl)
judged_awaits head (Ok Action.Serve) state is other = is
judged_awaits head (Err errno) state is other = subst (AwaitsAnswer head) (sym is) tt

-- a rule that ends nothing leaves the rest
past_error : (test : Bool) (errno : Errno) (rest : Result Action Errno) → (if test then Err errno else rest) ≡ Ok End → rest ≡ Ok End
past_error true errno rest is = cc
past_error false errno rest is = is

past_served : (test : Bool) (rest : Result Action Errno) → (if test then Ok Action.Serve else rest) ≡ Ok End → rest ≡ Ok End
past_served true rest is = absurd (apart is)
  where
    apart : (let result : Result Action Errno = Ok Action.Serve in result ≡ Ok End) → ⊥
    apart is = cc
past_served false rest is = is

no_end : (disc unknown flagged empty flush context none long beyond : Bool) (errno : Errno) → disc ≡ false
    → first_of_rules ((disc, Ok End) ∷ (unknown, Err Invalid) ∷ (flagged, Err Invalid) ∷ (empty, Ok Action.Serve) ∷ (flush, Err Invalid) ∷ (context, Err Invalid) ∷ [])
    (first_of_rules ((none, Err Invalid) ∷ (long, Err Invalid) ∷ (beyond, Err errno) ∷ []) (Ok Action.Serve)) ≡ Ok End → ⊥
no_end true unknown flagged empty flush context none long beyond errno no_disc is = absurd (apart no_disc)
  where
    apart : true ≡ false → ⊥
    apart is = cc
no_end false unknown flagged empty flush context none long beyond errno no_disc is =
    let b = past_error unknown Invalid _ is in
    let c = past_error flagged Invalid _ b in
    let d = past_served empty _ c in
    let e = past_error flush Invalid _ d in
    let f = past_error context Invalid _ e in
    let g = past_error none Invalid _ f in
    let h = past_error long Invalid _ g in
    serve_apart (past_error beyond errno _ h)
  where
    serve_apart : (let result : Result Action Errno = Ok Action.Serve in result ≡ Ok End) → ⊥
    serve_apart is = cc

-- the verdict that ends a session is on a DISC
pub end_kind : (head : RequestHead) (geometry : Geometry) (flags : SessionFlags) → verdict_on head geometry flags ≡ Ok End → head.kind ≡ 2
unfolding verdict_on
end_kind head geometry flags is = by_kind (head.kind == 2) refl
  where
    by_kind : (test : Bool) → (head.kind == 2) ≡ test → head.kind ≡ 2
    by_kind true at = eqb-true head.kind 2 at
    by_kind false at =
        absurd (no_end (head.kind == 2) (not (is_known head.kind)) (not (bit_and head.flags (allowed_flags head.kind flags.structured) == head.flags))
        ((head.kind == 3) && (head.offset == 0) && (head.length == 0)) (head.kind == 3) ((head.kind == 7) && not (flags.structured && flags.context))
        (head.length == 0) (((head.kind == 0) || (head.kind == 1)) && nat_lt 1048576 head.length) (nat_lt (4096 * geometry.blocks) (head.offset + head.length))
        (past_end head.kind) at is)

-- the rules of judgement refuse a request whose context wasn't agreed on
no_context : (disc unknown flagged empty flush context : Bool) (rest : Result Action Errno) → disc ≡ false → empty ≡ false → context ≡ true
    → first_of_rules ((disc, Ok End) ∷ (unknown, Err Invalid) ∷ (flagged, Err Invalid) ∷ (empty, Ok Action.Serve) ∷ (flush, Err Invalid) ∷ (context, Err Invalid) ∷ []) rest ≡ Err Invalid
no_context disc unknown flagged empty flush context rest no_disc some none =
    let Refuses : Result Action Errno → Type 0 = λ given. given ≡ Err Invalid in
    of_test Refuses disc _ _ (λ is. absurd (both_ways disc no_disc is))
    (λ a. of_test Refuses unknown _ _ (λ is. refl)
    (λ b. of_test Refuses flagged _ _ (λ is. refl)
    (λ d. of_test Refuses empty _ _ (λ is. absurd (both_ways empty some is))
    (λ e. of_test Refuses flush _ _ (λ is. refl)
    (λ f. of_test Refuses context _ _ (λ is. refl) (λ is. absurd (both_ways context is none)))))))

-- so a BLOCK_STATUS is refused without a handshake
plain_status : (head : RequestHead) (geometry : Geometry) → head.kind ≡ 7 → verdict_on head geometry plain ≡ Err Invalid
unfolding verdict_on
plain_status head geometry is =
    no_context (head.kind == 2) (not (is_known head.kind)) (not (bit_and head.flags (allowed_flags head.kind false) == head.flags))
    ((head.kind == 3) && (head.offset == 0) && (head.length == 0)) (head.kind == 3) ((head.kind == 7) && not (false && false)) _
    (ap (λ (k : ℕ). k == 2) is) (ap (λ (k : ℕ). (k == 3) && (head.offset == 0) && (head.length == 0)) is) (ap (λ (k : ℕ). (k == 7) && not (false && false)) is)

-- the answer that was given is one that the request may have
pub has_answer : (world next : World) (request : Message) (given : Answer) (state : Connection) → (request.head.kind ≡ 2 → ⊥) → world.stage.setting.flags ≡ plain
    → IsJudged request.head (verdict_on request.head world.stage.setting.geometry world.stage.setting.flags) state → AwaitsAnswer request.head state → IsGiven state given → next.connections 0 ≡ Idle
    → HasAnswer world next request (Some given)
has_answer world next request given state kind flags judged awaits fits idle = (
  record {
    no_disc = kind;
    fits = is_fit;
    stateless = λ runs is. refused_unlike runs (sym (judged_error Invalid (plain_status request.head world.stage.setting.geometry (subst (IsAnswerOf request.head) is is_fit))) ∙ is);
    judged = judged_error;
  },
  idle,
)
  where
    fit : (state : Connection) → AwaitsAnswer request.head state → IsGiven state given → IsAnswerOf request.head given
    fit Idle awaits fits = absurd awaits
    fit (Requested other) awaits fits = absurd awaits
    fit (Waiting number) awaits (inl done) = subst (IsAnswerOf request.head) (sym done) awaits
    fit (Waiting number) awaits (inr (errno, refused)) = subst (IsAnswerOf request.head) (sym refused) tt
    fit (Ready own) awaits fits = subst (IsAnswerOf request.head) (sym fits) awaits
    fit Closed awaits fits = absurd awaits

    is_fit : IsAnswerOf request.head given
    is_fit = fit state awaits fits

    is_error : (errno : Errno) → state ≡ Ready (Refused errno) → given ≡ Refused errno
    is_error errno is = subst (λ (s : Connection). IsGiven s given) is fits

    judged_error : (errno : Errno) → (let result : Result Action Errno = Err errno in verdict_on request.head world.stage.setting.geometry plain ≡ result) → given ≡ Refused errno
    judged_error errno refused = is_error errno
        (subst (λ (r : Result Action Errno). IsJudged request.head r state) (ap (verdict_on request.head world.stage.setting.geometry) flags ∙ refused) judged)

    refused_unlike : (runs : List Run) → (let refused : Answer = Refused Invalid in refused ≡ States runs) → ⊥
    refused_unlike runs is = cc
