-- what holds of each world that a schedule leads to
use Rattle.std.proofs.Common.{◌≡◌, ◌≢◌, ◌⊎◌, inl, inr, ℕ, ◌+◌, ◌<◌, ◌≤◌, true, false, Some, List, [], ◌∷◌, ◌++◌, length, sym, arith}
use Rattle.std.specs.List.{slice_get}
use Rattle.std.proofs.lemmas.Option.{slice_get_within}
use Rattle.image_model.specs.Change.{Change}
use Rattle.nbd_wire.specs.Request.{Message}
use Rattle.nbd_wire.specs.declared.error.Errno.{Errno}
use Rattle.nbd_wire.specs.declared.error.Errno.TheVariants.{Io}
use Rattle.export_model.specs.declared.connection.Connection.{Connection}
use Rattle.export_model.specs.declared.connection.Connection.TheVariants.{Idle, Requested, Waiting, Ready, Closed}
use Rattle.export_model.specs.declared.event.Event.{Event}
use Rattle.export_model.specs.declared.event.Event.TheVariants.{Sent, Answered}
use Rattle.nbd_wire.specs.declared.message.Answer.{Answer}
use Rattle.nbd_wire.specs.declared.message.Answer.TheVariants.{Done, Refused, Bytes, States}
use Rattle.export_model.specs.declared.step.Mode.{Mode}
use Rattle.export_model.specs.Covered.{IsConfirmed, IsCovered}
use Rattle.export_model.specs.Log.{StandsAt, IsAnswered, IsLegal, is_write, is_flush, flush_waits, waits_for_store}
use Rattle.export_model.specs.World.{World}
use Rattle.export_model.specs.laws.Events.{IsLast, answered_split, get_more, get_split}

-- the connection's request that was sent at the place is its last, and is not answered
pub record IsOpen (log : List Event) (connection place : ℕ) (request : Message) : Type 0 where
  pub sent : StandsAt log place (Sent connection request)
  pub unanswered : (k : ℕ) (outcome : Answer) → place < k → StandsAt log k (Answered connection outcome) → ⊥
  pub last : (k : ℕ) (other : Message) → StandsAt log k (Sent connection other) → k ≤ place

-- each request of the connection is answered
abbrev pub IsAllAnswered : List Event → ℕ → Type 0
IsAllAnswered log connection =
    (place : ℕ) (request : Message) → StandsAt log place (Sent connection request)
    → (answer : ℕ) × (outcome : Answer) × (place < answer) × StandsAt log answer (Answered connection outcome)

-- a command is paired with the place, or none is
abbrev pub HasPlace : List Change → (ℕ → ℕ) → ℕ → Type 0
HasPlace order paired place = (k : ℕ) × (k < length order) × (paired k ≡ place)

abbrev pub IsUnpaired : List Change → (ℕ → ℕ) → ℕ → Type 0
IsUnpaired order paired place = (k : ℕ) → k < length order → paired k ≢ place

-- what the states of connections are judged by
pub record Facts : Type 0 where
  pub mode : Mode
  pub opening : ℕ
  pub log : List Event
  pub order : List Change
  pub paired : ℕ → ℕ

abbrev pub facts_of : World → Facts
facts_of world = record { mode = world.stage.setting.mode; opening = world.stage.setting.opening; log = world.log; order = world.stage.order; paired = world.paired }

abbrev pub with_event : Facts → Event → Facts
with_event facts event = record facts { log = facts.log ++ event ∷ [] }

-- a write command waits for its own number
pub record AwaitsItself (facts : Facts) (place number : ℕ) (request : Message) : Type 0 where
  pub write : is_write request ≡ true
  pub k : ℕ
  pub below : k < length facts.order
  pub own : facts.paired k ≡ place
  pub reached : facts.opening + k < number

-- a FLUSH waits for all commands that were answered Ok before it was sent
pub record AwaitsOthers (facts : Facts) (place number : ℕ) (request : Message) : Type 0 where
  pub no_write : is_write request ≡ false
  pub reached : (connection k answer : ℕ) (other : Message) → k < length facts.order
      → IsAnswered facts.log connection (facts.paired k) other answer Done → answer < place → facts.opening + k < number

-- A request is done at once: a write command has its place and needn't be stored first, and no FLUSH waits in the mode.
abbrev pub IsDoneAtOnce : Facts → ℕ → Message → Type 0
IsDoneAtOnce facts place request =
    ((is_write request ≡ true) × (waits_for_store facts.mode request ≡ false) × HasPlace facts.order facts.paired place)
    ⊎ ((is_write request ≡ false) × (flush_waits facts.mode ≡ false))

-- why the state of a connection, whose last request was sent at the place, is right
abbrev pub IsRight : Facts → ℕ → ℕ → Connection → Type 0
IsRight facts connection place Idle = IsAllAnswered facts.log connection
IsRight facts connection place (Requested request) = IsOpen facts.log connection place request × IsUnpaired facts.order facts.paired place
IsRight facts connection place (Waiting number) =
    (request : Message) × IsOpen facts.log connection place request × (AwaitsItself facts place number request ⊎ AwaitsOthers facts place number request)
IsRight facts connection place (Ready Done) =
    (request : Message) × IsOpen facts.log connection place request × IsDoneAtOnce facts place request
IsRight facts connection place (Ready (Refused errno)) =
    (request : Message) × IsOpen facts.log connection place request × IsUnpaired facts.order facts.paired place
IsRight facts connection place (Ready (Bytes read)) = (request : Message) × IsOpen facts.log connection place request
IsRight facts connection place (Ready (States runs)) = (request : Message) × IsOpen facts.log connection place request
IsRight facts connection place Closed = Unit {0}

pub record IsSound (world : World) : Type 0 where
  pub legal : IsLegal world.log world.stage.order world.paired
  pub durable : (k : ℕ) → k < length world.stage.order → IsCovered world.stage.setting.mode world.log (world.paired k) → k < world.stage.durable
  pub right : (connection : ℕ) → IsRight (facts_of world) connection (world.places connection) (world.connections connection)

-- what the answer of a request has to be
pub record IsAllowed (world : World) (place : ℕ) (request : Message) (outcome : Answer) : Type 0 where
  pub done : outcome ≡ Done → is_write request ≡ true → HasPlace world.stage.order world.paired place
  pub refused : (errno : Errno) → outcome ≡ Refused errno → errno ≢ Io → IsUnpaired world.stage.order world.paired place
  pub forced : outcome ≡ Done → is_write request ≡ true → waits_for_store world.stage.setting.mode request ≡ true
      → (k : ℕ) → k < length world.stage.order → world.paired k ≡ place → k < world.stage.durable
  pub flushed : outcome ≡ Done → is_flush request ≡ true → flush_waits world.stage.setting.mode ≡ true → (k : ℕ) → k < length world.stage.order
      → (confirmed : IsConfirmed world.log (world.paired k)) → confirmed.answer < place → k < world.stage.durable

-- two events at one place are one
pub one_event : (log : List Event) (place : ℕ) (this other : Event) → StandsAt log place this → StandsAt log place other → this ≡ other
one_event log place this other at is = cc

module _ (facts : Facts) (event : Event) where
  -- the state of a connection stays right, where the event isn't about it
  pub right_more : (connection place : ℕ) (state : Connection)
      → ((outcome : Answer) → event ≡ Answered connection outcome → ⊥) → ((request : Message) → event ≡ Sent connection request → ⊥)
      → IsRight facts connection place state → IsRight (with_event facts event) connection place state
  right_more connection place state unanswered unsent right = by_state state right
    where
      all_more : IsAllAnswered facts.log connection → IsAllAnswered (facts.log ++ event ∷ []) connection
      all_more all k request at = old (get_split facts.log event k (Sent connection request) at)
        where
          old : (slice_get facts.log k ≡ Some (Sent connection request)) ⊎ ((k ≡ length facts.log) × (Sent connection request ≡ event))
              → (answer : ℕ) × (outcome : Answer) × (k < answer) × StandsAt (facts.log ++ event ∷ []) answer (Answered connection outcome)
          old (inl before) = let found = all k request before in
              (found.0, found.1, found.2, get_more facts.log (event ∷ []) found.0 (Answered connection found.1) found.3)
          old (inr last) = absurd (unsent request (sym last.1))

      open_more : (request : Message) → IsOpen facts.log connection place request → IsOpen (facts.log ++ event ∷ []) connection place request
      open_more request is_open = record {
        sent = get_more facts.log (event ∷ []) place (Sent connection request) is_open.sent;
        unanswered = λ k outcome after at. none k outcome after (get_split facts.log event k (Answered connection outcome) at);
        last = λ k other at. below k other (get_split facts.log event k (Sent connection other) at);
      }
        where
          none : (k : ℕ) (outcome : Answer) → place < k
              → (slice_get facts.log k ≡ Some (Answered connection outcome)) ⊎ ((k ≡ length facts.log) × (Answered connection outcome ≡ event)) → ⊥
          none k outcome after (inl at) = is_open.unanswered k outcome after at
          none k outcome after (inr last) = unanswered outcome (sym last.1)

          below : (k : ℕ) (other : Message)
              → (slice_get facts.log k ≡ Some (Sent connection other)) ⊎ ((k ≡ length facts.log) × (Sent connection other ≡ event)) → k ≤ place
          below k other (inl at) = is_open.last k other at
          below k other (inr last) = absurd (unsent other (sym last.1))

      others_more : (number : ℕ) (request : Message) → IsOpen facts.log connection place request → AwaitsOthers facts place number request → AwaitsOthers (with_event facts event) place number request
      others_more number request is_open others = record {
        no_write = others.no_write;
        reached = λ from k answer other below answered before. old from k answer other below before (answered_split facts.log event from (facts.paired k) other answer Done answered);
      }
        where
          old : (from k answer : ℕ) (other : Message) → k < length facts.order → answer < place
              → IsAnswered facts.log from (facts.paired k) other answer Done ⊎ IsLast facts.log event from (facts.paired k) other answer Done
              → facts.opening + k < number
          old from k answer other below before (inl answered) = others.reached from k answer other below answered before
          old from k answer other below before (inr last) =
              let within = slice_get_within facts.log place (Sent connection request) is_open.sent in
              absurd (omega (arith, last.at, before, within))

      itself_more : (number : ℕ) (request : Message) → AwaitsItself facts place number request → AwaitsItself (with_event facts event) place number request
      itself_more number request itself = record { write = itself.write; k = itself.k; below = itself.below; own = itself.own; reached = itself.reached }

      awaits_more : (number : ℕ) (request : Message) → IsOpen facts.log connection place request
          → AwaitsItself facts place number request ⊎ AwaitsOthers facts place number request
          → AwaitsItself (with_event facts event) place number request ⊎ AwaitsOthers (with_event facts event) place number request
      awaits_more number request is_open (inl itself) = inl (itself_more number request itself)
      awaits_more number request is_open (inr others) = inr (others_more number request is_open others)

      by_state : (state : Connection) → IsRight facts connection place state → IsRight (with_event facts event) connection place state
      by_state Idle all = all_more all
      by_state (Requested request) is = (open_more request is.0, is.1)
      by_state (Waiting number) is = (is.0, open_more is.0 is.1, awaits_more number is.0 is.1 is.2)
      by_state (Ready Done) is = (is.0, open_more is.0 is.1, is.2)
      by_state (Ready (Refused errno)) is = (is.0, open_more is.0 is.1, is.2)
      by_state (Ready (Bytes read)) is = (is.0, open_more is.0 is.1)
      by_state (Ready (States runs)) is = (is.0, open_more is.0 is.1)
      by_state Closed is = tt
