-- a world stays sound when an event is added to its log
use Rattle.std.proofs.Common.{◌≡◌, ◌≢◌, ◌⊎◌, inl, inr, ℕ, zero, suc, ◌<◌, Bool, true, if◌then◌else◌, Some, List, [], ◌∷◌, ◌++◌, length, sym, ap, subst, refl, arith}
use Rattle.std.specs.List.{slice_get}
use Rattle.std.proofs.lemmas.Option.{slice_get_within}
use Rattle.std.proofs.lemmas.Bool.{cases_eq, eq-eqb, ne_eqb}
use Rattle.image_model.specs.Change.{Change}
use Rattle.nbd_wire.specs.Request.{Message}
use Rattle.nbd_wire.specs.declared.error.Errno.{Errno}
use Rattle.nbd_wire.specs.declared.error.Errno.TheVariants.{Io}
use Rattle.export_model.specs.declared.connection.Connection.{Connection}
use Rattle.export_model.specs.declared.event.Event.{Event}
use Rattle.export_model.specs.declared.event.Event.TheVariants.{Sent, Answered}
use Rattle.nbd_wire.specs.declared.message.Answer.{Answer}
use Rattle.nbd_wire.specs.declared.message.Answer.TheVariants.{Done, Refused}
use Rattle.export_model.specs.Covered.{IsCovered}
use Rattle.export_model.specs.Log.{StandsAt, IsAnswered, IsLegal, IsPaired, is_write}
use Rattle.export_model.specs.Serve.{logged, moved}
use Rattle.export_model.specs.World.{World, put}
use Rattle.export_model.specs.laws.Events.{IsLast, answered_split, get_more, get_split}
use Rattle.export_model.specs.laws.Sound.{IsAllAnswered, HasPlace, IsAllowed, IsRight, IsSound, facts_of, right_more}

-- what is put at one place, and elsewhere what was there
pub put_same : {X : Type 0} (f : ℕ → X) (c : ℕ) (x : X) → put f c x c ≡ x
put_same f c x = ap (λ (b : Bool). if b then x else f c) (eq-eqb c c refl)

pub put_other : {X : Type 0} (f : ℕ → X) (c : ℕ) (x : X) (d : ℕ) → (d ≡ c → ⊥) → put f c x d ≡ f d
put_other f c x d ne = ap (λ (b : Bool). if b then x else f d) (ne_eqb d c ne)

-- below its length a list has an element
pub some_at : {X : Type 0} (xs : List X) (k : ℕ) → k < length xs → (x : X) × (slice_get xs k ≡ Some x)
some_at [] k below = absurd (omega (arith, below))
some_at (x ∷ xs) zero below = (x, refl)
some_at (x ∷ xs) (suc k) below = some_at xs k (omega (arith, below))

module _ (world : World) (event : Event) (allowed : (connection place answer : ℕ) (request : Message) (outcome : Answer)
    → IsLast world.log event connection place request answer outcome → IsAllowed world place request outcome)
    (idle : (connection : ℕ) (request : Message) → event ≡ Sent connection request → IsAllAnswered world.log connection) where
  paired_more : (command : Change) (place : ℕ) → IsPaired world.log command place → IsPaired (world.log ++ event ∷ []) command place
  paired_more command place is = record {
    connection = is.connection;
    request = is.request;
    sent = get_more world.log (event ∷ []) place (Sent is.connection is.request) is.sent;
    write = is.write;
    own = is.own;
  }

  pub legal_more : IsLegal world.log world.stage.order world.paired → IsLegal (world.log ++ event ∷ []) world.stage.order world.paired
  legal_more legal = record {
    own = λ k command at. paired_more command (world.paired k) (legal.own k command at);
    apart = legal.apart;
    done = λ c place answer request is write. done c place answer request write (answered_split world.log event c place request answer Done is);
    refused = λ c place answer k request errno is other below. refused c place answer k request errno other below (answered_split world.log event c place request answer (Refused errno) is);
    in_order = λ c answer k m request outcome k_below m_below is before.
        in_order c answer k m request outcome k_below m_below before (answered_split world.log event c (world.paired k) request answer outcome is);
    one_open = λ c place next request other before at also.
        one_open c place next request other before (get_split world.log event place (Sent c request) at) (get_split world.log event next (Sent c other) also);
  }
    where
      done : (c place answer : ℕ) (request : Message) → is_write request ≡ true
          → IsAnswered world.log c place request answer Done ⊎ IsLast world.log event c place request answer Done → HasPlace world.stage.order world.paired place
      done c place answer request write (inl is) = legal.done c place answer request is write
      done c place answer request write (inr last) = (allowed c place answer request Done last).done refl write

      refused : (c place answer k : ℕ) (request : Message) (errno : Errno) → errno ≢ Io → k < length world.stage.order
          → IsAnswered world.log c place request answer (Refused errno) ⊎ IsLast world.log event c place request answer (Refused errno) → world.paired k ≢ place
      refused c place answer k request errno other below (inl is) = legal.refused c place answer k request errno is other below
      refused c place answer k request errno other below (inr last) = (allowed c place answer request (Refused errno) last).refused errno refl other k below

      within : (m : ℕ) → m < length world.stage.order → world.paired m < length world.log
      within m below =
          let is = legal.own m (some_at world.stage.order m below).0 (some_at world.stage.order m below).1 in
          slice_get_within world.log (world.paired m) (Sent is.connection is.request) is.sent

      in_order : (c answer k m : ℕ) (request : Message) (outcome : Answer) → k < length world.stage.order → m < length world.stage.order → answer < world.paired m
          → IsAnswered world.log c (world.paired k) request answer outcome ⊎ IsLast world.log event c (world.paired k) request answer outcome → k < m
      in_order c answer k m request outcome k_below m_below before (inl is) = legal.in_order c answer k m request outcome k_below m_below is before
      in_order c answer k m request outcome k_below m_below before (inr last) =
          let end = within m m_below in
          absurd (omega (arith, last.at, before, end))

      one_open : (c place next : ℕ) (request other : Message) → place < next
          → (slice_get world.log place ≡ Some (Sent c request)) ⊎ ((place ≡ length world.log) × (Sent c request ≡ event))
          → (slice_get world.log next ≡ Some (Sent c other)) ⊎ ((next ≡ length world.log) × (Sent c other ≡ event))
          → (answer : ℕ) × (outcome : Answer) × (place < answer) × (answer < next) × StandsAt (world.log ++ event ∷ []) answer (Answered c outcome)
      one_open c place next request other before (inl at) (inl also) =
          let found = legal.one_open c place next request other before at also in
          (found.0, found.1, found.2, found.3, get_more world.log (event ∷ []) found.0 (Answered c found.1) found.4)
      one_open c place next request other before (inl at) (inr also) =
          let found = idle c other (sym also.1) place request at in
          let below = slice_get_within world.log found.0 (Answered c found.1) found.3 in
          (found.0, found.1, found.2, omega (arith, also.0, below), get_more world.log (event ∷ []) found.0 (Answered c found.1) found.3)
      one_open c place next request other before (inr at) (inl also) =
          let below = slice_get_within world.log next (Sent c other) also in
          absurd (omega (arith, at.0, below, before))
      one_open c place next request other before (inr at) (inr also) = absurd (omega (arith, at.0, also.0, before))

  -- what is covered is durable still
  pub durable_more : IsLegal world.log world.stage.order world.paired
      → ((k : ℕ) → k < length world.stage.order → IsCovered world.stage.setting.mode world.log (world.paired k) → k < world.stage.durable)
      → (k : ℕ) → k < length world.stage.order → IsCovered world.stage.setting.mode (world.log ++ event ∷ []) (world.paired k) → k < world.stage.durable
  durable_more legal durable k below (inl flushed) =
      let confirmed = flushed.confirmed in
      old (answered_split world.log event confirmed.connection (world.paired k) confirmed.request confirmed.answer Done confirmed.answered)
      (answered_split world.log event flushed.connection flushed.from flushed.request flushed.answer Done flushed.answered)
    where
      from_below : flushed.from < length world.log
      from_below = from_in (get_split world.log event flushed.answer (Answered flushed.connection Done) flushed.answered.answered)
        where
          from_in : (slice_get world.log flushed.answer ≡ Some (Answered flushed.connection Done)) ⊎ ((flushed.answer ≡ length world.log) × (Answered flushed.connection Done ≡ event)) → flushed.from < length world.log
          from_in (inl at) =
              let within = slice_get_within world.log flushed.answer (Answered flushed.connection Done) at in
              let later = flushed.answered.later in omega arith
          from_in (inr last) = let later = flushed.answered.later in let at = last.0 in omega arith

      old : IsAnswered world.log flushed.confirmed.connection (world.paired k) flushed.confirmed.request flushed.confirmed.answer Done ⊎ IsLast world.log event flushed.confirmed.connection (world.paired k) flushed.confirmed.request flushed.confirmed.answer Done
          → IsAnswered world.log flushed.connection flushed.from flushed.request flushed.answer Done ⊎ IsLast world.log event flushed.connection flushed.from flushed.request flushed.answer Done
          → k < world.stage.durable
      old (inl confirmed) (inl answered) = durable k below (inl (record {
        confirmed = record { connection = flushed.confirmed.connection; request = flushed.confirmed.request; answer = flushed.confirmed.answer; write = flushed.confirmed.write; answered = confirmed };
        waits = flushed.waits;
        connection = flushed.connection;
        from = flushed.from;
        request = flushed.request;
        answer = flushed.answer;
        flush = flushed.flush;
        later = flushed.later;
        answered = answered;
      }))
      old (inl confirmed) (inr last) = (allowed flushed.connection flushed.from flushed.answer flushed.request Done last).flushed refl flushed.flush flushed.waits k below
          (record { connection = flushed.confirmed.connection; request = flushed.confirmed.request; answer = flushed.confirmed.answer; write = flushed.confirmed.write; answered = confirmed })
          flushed.later
      old (inr last) answered = let at = last.at in let before = from_below in let later = flushed.later in absurd (omega arith)
  durable_more legal durable k below (inr forced) =
      let confirmed = forced.confirmed in
      old (answered_split world.log event confirmed.connection (world.paired k) confirmed.request confirmed.answer Done confirmed.answered)
    where
      old : IsAnswered world.log forced.confirmed.connection (world.paired k) forced.confirmed.request forced.confirmed.answer Done ⊎ IsLast world.log event forced.confirmed.connection (world.paired k) forced.confirmed.request forced.confirmed.answer Done
          → k < world.stage.durable
      old (inl confirmed) = durable k below (inr (record {
        confirmed = record { connection = forced.confirmed.connection; request = forced.confirmed.request; answer = forced.confirmed.answer; write = forced.confirmed.write; answered = confirmed };
        waits = forced.waits;
      }))
      old (inr last) = (allowed forced.confirmed.connection (world.paired k) forced.confirmed.answer forced.confirmed.request Done last).forced refl forced.confirmed.write forced.waits k below refl

-- an event that is neither a request nor an answer
pub record IsQuiet (event : Event) : Type 0 where
  pub unsent : (connection : ℕ) (request : Message) → event ≡ Sent connection request → ⊥
  pub unanswered : (connection : ℕ) (outcome : Answer) → event ≡ Answered connection outcome → ⊥

-- an event that is quiet leaves the world sound
pub sound_quiet : (world : World) (event : Event) → IsQuiet event → IsSound world → IsSound (logged world event)
sound_quiet world event quiet sound = record {
  legal = legal_more world event allowed idle sound.legal;
  durable = durable_more world event allowed idle sound.legal sound.durable;
  right = λ connection. right_more (facts_of world) event connection (world.places connection) (world.connections connection) (quiet.unanswered connection) (quiet.unsent connection) (sound.right connection);
}
  where
    allowed : (connection place answer : ℕ) (request : Message) (outcome : Answer)
        → IsLast world.log event connection place request answer outcome → IsAllowed world place request outcome
    allowed connection place answer request outcome last = absurd (quiet.unanswered connection outcome last.is)

    idle : (connection : ℕ) (request : Message) → event ≡ Sent connection request → IsAllAnswered world.log connection
    idle connection request is = absurd (quiet.unsent connection request is)

-- a connection comes to another state that is right
pub sound_moved : (world : World) (c : ℕ) (state : Connection) → IsSound world → IsRight (facts_of world) c (world.places c) state → IsSound (moved world c state)
sound_moved world c state sound right = record {
  legal = sound.legal;
  durable = sound.durable;
  right = λ d. by_place d (cases_eq d c);
}
  where
    by_place : (d : ℕ) → (d ≡ c) ⊎ (d ≡ c → ⊥) → IsRight (facts_of world) d (world.places d) (put world.connections c state d)
    by_place d (inl is) = subst (λ (e : ℕ). IsRight (facts_of world) e (world.places e) (put world.connections c state e)) (sym is)
        (subst (λ (s : Connection). IsRight (facts_of world) c (world.places c) s) (sym (put_same world.connections c state)) right)
    by_place d (inr other) = subst (λ (s : Connection). IsRight (facts_of world) d (world.places d) s) (sym (put_other world.connections c state d other)) (sound.right d)
