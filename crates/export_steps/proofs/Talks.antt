-- connections in a list, and in a world
use Rattle.std.proofs.Common.{◌≡◌, ◌⊎◌, inl, inr, ℕ, ◌+◌, ◌<◌, ◌≤◌, Bool, true, false, if◌then◌else◌, nat_le, Option, Some, None, Ok, Err, MatchBool, MatchOption, List, [], ◌∷◌, ◌++◌, length, get_or, refl, sym, ◌∙◌, ap, subst}
use Rattle.std.proofs.lemmas.Bool.{cases_eq, eq-eqb, ne_eqb}
use Rattle.std.proofs.lemmas.List.{get_or-set_same, get_or-set_other, set-get_or, set-set}
use Rattle.std.proofs.Math.ListN.{set, get_or-eq_default}
use Rattle.std.proofs.lemmas.Bool.{cases_lt}
use Rattle.nbd_wire.specs.Request.{Message}
use Rattle.nbd_wire.specs.declared.error.Errno.TheVariants.{Io}
use Rattle.journal_format.specs.Group.{Numbered}
use Rattle.order_book.specs.Order.{OrderState}
use Rattle.export_steps.specs.Parts.{AreConnectionsOf, IsOrderOf}
use Rattle.export_steps.specs.Bench.{is_idle, sent_state}
use Rattle.export_steps.specs.inner.Serving.{IsAnsweredBy, IsSentBy, IsServed, IsTalked, answer_due, due_of, request_in}
use Rattle.export_steps.proofs.Serves.{grown_same}
use Rattle.export_model.specs.declared.connection.Connection.{Connection}
use Rattle.export_model.specs.declared.connection.Connection.TheVariants.{Idle, Requested, Waiting, Ready, Closed}
use Rattle.export_model.specs.declared.event.Event.{Event}
use Rattle.export_model.specs.declared.event.Event.TheVariants.{Sent, Answered, Skipped, Failed}
use Rattle.export_model.specs.declared.event.StepFault.TheVariants.{NoMemory}
use Rattle.nbd_wire.specs.declared.message.Answer.{Answer}
use Rattle.nbd_wire.specs.declared.message.Answer.TheVariants.{Done, Refused}
use Rattle.export_model.specs.Serve.{Failure, Nothing, OutOfMemory, answer, answered, held, serve}
use Rattle.export_model.specs.Step.{send}
use Rattle.export_model.specs.World.{World, put}

-- a connection set in a list is one put in a world
pub set_put : (items : List Connection) (f : ℕ → Connection) (c : ℕ) (state : Connection) → c < length items
    → ((d : ℕ) → get_or items d Closed ≡ f d) → (d : ℕ) → get_or (set items c state) d Closed ≡ put f c state d
set_put items f c state below same d = by_case (cases_eq d c)
  where
    by_case : (d ≡ c) ⊎ (d ≡ c → ⊥) → get_or (set items c state) d Closed ≡ put f c state d
    by_case (inl is) = ap (λ (e : ℕ). get_or (set items c state) e Closed) is
        ∙ (get_or-set_same items c state Closed below ∙ sym (ap (λ (b : Bool). if b then state else f d) (eq-eqb d c is)))
    by_case (inr other) = get_or-set_other items c d state Closed other
        ∙ (same d ∙ sym (ap (λ (b : Bool). if b then state else f d) (ne_eqb d c other)))

-- the request that is found in a state
pub request_found : (state : Connection) (request : Message) → Some request ≡ request_in state → state ≡ Requested request
request_found Idle request is = cc
request_found (Requested other) request is = cc
request_found (Waiting number) request is = cc
request_found (Ready outcome) request is = cc
request_found Closed request is = cc

-- a place where there is no connection is closed, so one with a state of its own is in the list
pub within_list : (items : List Connection) (c : ℕ) → (get_or items c Closed ≡ Closed → ⊥) → c < length items
within_list items c open_there = by_case (cases_lt c (length items))
  where
    by_case : (c < length items) ⊎ (length items ≤ c) → c < length items
    by_case (inl below) = below
    by_case (inr past) = absurd (open_there (get_or-eq_default items Closed past))

-- a connection that is served
pub talked_served : (world : World) (failure : Failure) (items : List Connection) (c : ℕ) (request : Message) (state idle : Connection) (event : Event) (order : OrderState) (group : Option Numbered)
    → AreConnectionsOf world items → c < length items → world.connections c ≡ Requested request
    → IsServed world (serve failure world c (Requested request)) c state event order group
    → IsTalked world (serve failure world c (world.connections c)) (set (set items c idle) c state) event order group
talked_served world failure items c request state idle event order group same below here served =
    subst (λ (s : Connection). IsTalked world (serve failure world c s) (set (set items c idle) c state) event order group) (sym here) (record {
      of_connections = λ d. ap (λ (l : List Connection). get_or l d Closed) (set-set items c idle state) ∙ (set_put items world.connections c state below same d ∙ served.connections d);
      log = served.log;
      grown = served.grown;
      of_order = served.of_order;
    })

pub open_unlike : (request : Message) → Requested request ≡ Closed → ⊥
open_unlike request is = cc

module _ (world : World) (items new : List Connection) (c : ℕ) (event : Event) (order : OrderState) (group : Option Numbered)
    (of : IsOrderOf world.stage order group) (same : AreConnectionsOf world items) where
  pub talked_held : new ≡ items → event ≡ Skipped → IsTalked world (held world) new event order group
  talked_held new_is event_is = record {
    of_connections = λ d. ap (λ (l : List Connection). get_or l d Closed) new_is ∙ same d;
    log = ap (λ (e : Event). world.log ++ e ∷ []) (sym event_is);
    grown = grown_same world.stage;
    of_order = of;
  }

  talked_answered : (outcome : Answer) → c < length items → new ≡ set items c Idle → event ≡ Answered c outcome → IsTalked world (answered world c outcome) new event order group
  talked_answered outcome below new_is event_is = record {
    of_connections = λ d. ap (λ (l : List Connection). get_or l d Closed) new_is ∙ set_put items world.connections c Idle below same d;
    log = ap (λ (e : Event). world.log ++ e ∷ []) (sym event_is);
    grown = grown_same world.stage;
    of_order = of;
  }

  waiting : (reached stopped : Bool) → c < length items
      → MatchOption (if reached then Some Done else (if stopped then Some (Refused Io) else None)) ((new ≡ items) × (event ≡ Skipped)) (λ outcome. (new ≡ set items c Idle) × (event ≡ Answered c outcome))
      → IsTalked world (if reached then answered world c Done else (if stopped then answered world c (Refused Io) else held world)) new event order group
  waiting true stopped below is = talked_answered Done below is.0 is.1
  waiting false true below is = talked_answered (Refused Io) below is.0 is.1
  waiting false false below is = talked_held is.0 is.1

  by_state : (state : Connection) → get_or items c Closed ≡ state
      → MatchOption (due_of (world.stage.setting.opening + world.stage.durable) world.stage.stopped state) ((new ≡ items) × (event ≡ Skipped)) (λ outcome. (new ≡ set items c Idle) × (event ≡ Answered c outcome))
      → IsTalked world (answer world c state) new event order group
  by_state Idle at is = talked_held is.0 is.1
  by_state (Requested request) at is = talked_held is.0 is.1
  by_state (Waiting number) at is =
      waiting (nat_le number (world.stage.setting.opening + world.stage.durable)) world.stage.stopped (within_list items c (λ closed. waiting_unlike number (sym at ∙ closed))) is
    where
      waiting_unlike : (number : ℕ) → Waiting number ≡ Closed → ⊥
      waiting_unlike number is = cc
  by_state (Ready outcome) at is = talked_answered outcome (within_list items c (λ closed. ready_unlike outcome (sym at ∙ closed))) is.0 is.1
    where
      ready_unlike : (outcome : Answer) → Ready outcome ≡ Closed → ⊥
      ready_unlike outcome is = cc
  by_state Closed at is = talked_held is.0 is.1

  -- a connection that is answered, or to which no answer is due
  pub talked_answer : MatchOption (due_of order.durable order.stopped (get_or items c Closed)) ((new ≡ items) × (event ≡ Skipped)) (λ outcome. (new ≡ set items c Idle) × (event ≡ Answered c outcome))
      → IsTalked world (answer world c (world.connections c)) new event order group
  talked_answer is = by_state (world.connections c) (same c)
      (subst (λ (due : Option Answer). MatchOption due ((new ≡ items) × (event ≡ Skipped)) (λ outcome. (new ≡ set items c Idle) × (event ≡ Answered c outcome)))
      (ap (λ (n : ℕ). due_of n order.stopped (get_or items c Closed)) of.durable
      ∙ (ap (λ (b : Bool). due_of (world.stage.setting.opening + world.stage.durable) b (get_or items c Closed)) of.stopped
      ∙ ap (due_of (world.stage.setting.opening + world.stage.durable) world.stage.stopped) (same c))) is)

  idle_unlike : Idle ≡ Closed → ⊥
  idle_unlike is = cc

  -- a connection that sends, or may not send
  pub talked_send : (request : Message) → IsSentBy items c request new event
      → (failure : Failure) × IsTalked world (send failure world c request (world.connections c)) new event order group
  talked_send request is = by_kind (world.connections c) (same c)
      (subst (λ (state : Connection). MatchBool (is_idle state)
      (((new ≡ set items c (Requested request)) × (event ≡ Sent c request)) ⊎ ((new ≡ items) × (event ≡ Failed NoMemory)))
      ((new ≡ items) × (event ≡ Skipped))) (same c) is)
    where
      at_idle : get_or items c Closed ≡ Idle
          → ((new ≡ set items c (Requested request)) × (event ≡ Sent c request)) ⊎ ((new ≡ items) × (event ≡ Failed NoMemory))
          → (failure : Failure) × IsTalked world (send failure world c request Idle) new event order group
      at_idle at (inl sends) = (
        Nothing,
        record {
          of_connections = λ d. ap (λ (l : List Connection). get_or l d Closed) sends.0
              ∙ set_put items world.connections c (Requested request) (within_list items c (λ closed. idle_unlike (sym at ∙ closed))) same d;
          log = ap (λ (e : Event). world.log ++ e ∷ []) (sym sends.1);
          grown = grown_same world.stage;
          of_order = of;
        },
      )
      at_idle at (inr fails) = (
        OutOfMemory,
        record {
          of_connections = λ d. ap (λ (l : List Connection). get_or l d Closed) fails.0 ∙ same d;
          log = ap (λ (e : Event). world.log ++ e ∷ []) (sym fails.1);
          grown = grown_same world.stage;
          of_order = of;
        },
      )

      by_kind : (state : Connection) → get_or items c Closed ≡ state
          → MatchBool (is_idle state)
          (((new ≡ set items c (Requested request)) × (event ≡ Sent c request)) ⊎ ((new ≡ items) × (event ≡ Failed NoMemory)))
          ((new ≡ items) × (event ≡ Skipped))
          → (failure : Failure) × IsTalked world (send failure world c request state) new event order group
      by_kind Idle at sends = at_idle at sends
      by_kind (Requested other) at is = (Nothing, talked_held is.0 is.1)
      by_kind (Waiting number) at is = (Nothing, talked_held is.0 is.1)
      by_kind (Ready outcome) at is = (Nothing, talked_held is.0 is.1)
      by_kind Closed at is = (Nothing, talked_held is.0 is.1)

-- the connections of a world in which one that had no request open has sent one
pub sent_states : (world : World) (items : List Connection) (c : ℕ) (request : Message) → world.connections c ≡ Idle → AreConnectionsOf world items
    → (d : ℕ) → get_or (sent_state items c request) d Closed ≡ put world.connections c (Requested request) d
sent_states world items c request idle same d =
    ap (λ (b : Bool). get_or (if b then set items c (Requested request) else items) d Closed) (ap is_idle (same c ∙ idle))
    ∙ set_put items world.connections c (Requested request) (within_list items c (λ closed. idle_apart (sym (same c ∙ idle) ∙ closed))) same d
  where
    idle_apart : Idle ≡ Closed → ⊥
    idle_apart is = cc

-- where no answer is due, the state is as it was
due_none : (durable : ℕ) (stopped : Bool) (state left : Connection) → answer_due durable stopped state ≡ Err left → (due_of durable stopped state ≡ None) × (left ≡ state)
due_none durable stopped Idle left is = (refl, cc)
due_none durable stopped (Requested request) left is = (refl, cc)
due_none durable stopped (Waiting number) left is = waits (nat_le number durable) stopped is
  where
    waits : (reached halted : Bool) → (if reached then Ok Done else (if halted then Ok (Refused Io) else Err (Waiting number))) ≡ Err left
        → ((if reached then Some Done else (if halted then Some (Refused Io) else None)) ≡ None) × (left ≡ Waiting number)
    waits true halted is = cc
    waits false true is = cc
    waits false false is = (refl, cc)
due_none durable stopped (Ready answer) left is = cc
due_none durable stopped Closed left is = (refl, cc)

-- a connection whose state was taken out and put back, because no answer was due
pub answered_none : (durable : ℕ) (stopped : Bool) (items : List Connection) (c : ℕ) (taken state left : Connection) → get_or items c Closed ≡ state
    → answer_due durable stopped state ≡ Err left → IsAnsweredBy durable stopped items c (set (set items c taken) c left) Skipped
answered_none durable stopped items c taken state left at is =
    let none = due_none durable stopped state left is in
    subst (λ (due : Option Answer). MatchOption due ((set (set items c taken) c left ≡ items) × (Skipped ≡ Skipped)) (λ answer. (set (set items c taken) c left ≡ set items c Idle) × (Skipped ≡ Answered c answer)))
    (sym (ap (due_of durable stopped) at ∙ none.0))
    (set-set items c taken left ∙ (ap (set items c) (none.1 ∙ sym at) ∙ set-get_or items c Closed), refl)
