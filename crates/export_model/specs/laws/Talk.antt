-- a world stays sound when a connection sends a request, and when it is answered
use Rattle.std.proofs.Common.{◌≡◌, ◌⊎◌, inl, inr, ℕ, ◌+◌, ◌<◌, ◌≤◌, ◌==◌, true, false, Some, [], ◌∷◌, ◌++◌, length, sym, ◌∙◌, subst, arith}
use Rattle.std.specs.List.{slice_get}
use Rattle.std.proofs.lemmas.Option.{slice_get_within}
use Rattle.std.proofs.lemmas.Bool.{cases_eq, cases_lt, eqb-true, both_ways, ne_eqb, or_from}
use Rattle.nbd_wire.specs.Request.{Message}
use Rattle.nbd_wire.specs.declared.error.Errno.{Errno}
use Rattle.nbd_wire.specs.declared.error.Errno.TheVariants.{Io}
use Rattle.export_model.specs.declared.connection.Connection.{Connection}
use Rattle.export_model.specs.declared.connection.Connection.TheVariants.{Idle, Requested, Ready}
use Rattle.export_model.specs.declared.event.Event.TheVariants.{Sent, Answered}
use Rattle.nbd_wire.specs.declared.message.Answer.{Answer}
use Rattle.nbd_wire.specs.declared.message.Answer.TheVariants.{Done, Refused}
use Rattle.export_model.specs.Log.{StandsAt, is_write, is_write_type, is_flush, is_read, is_read_type, flush_waits, waits_for_store}
use Rattle.export_model.specs.Serve.{logged, moved, answered}
use Rattle.export_model.specs.World.{World, put}
use Rattle.export_model.specs.laws.Events.{IsLast, get_split, get_last}
use Rattle.export_model.specs.laws.Logged.{put_same, put_other, legal_more, durable_more, some_at}
use Rattle.export_model.specs.laws.Sound.{AwaitsItself, AwaitsOthers, IsOpen, IsUnpaired, IsAllAnswered, IsAllowed, IsRight, IsDoneAtOnce, IsSound, facts_of, one_event, right_more}

-- the world in which a connection has sent a request
abbrev pub sent_by : World → ℕ → Message → World
sent_by world c request =
    logged (record (moved world c (Requested request)) { places = put world.places c (length world.log) }) (Sent c request)

-- the pairs of a legal log are of places in it
pub pair_within : (world : World) → IsSound world → (k : ℕ) → k < length world.stage.order → world.paired k < length world.log
pair_within world sound k below =
    let found = some_at world.stage.order k below in
    let is = sound.legal.own k found.0 found.1 in
    slice_get_within world.log (world.paired k) (Sent is.connection is.request) is.sent

pub sound_sent : (world : World) (c : ℕ) (request : Message) → IsSound world → IsAllAnswered world.log c → IsSound (sent_by world c request)
sound_sent world c request sound all = record {
  legal = legal_more world (Sent c request) allowed idle sound.legal;
  durable = durable_more world (Sent c request) allowed idle sound.legal sound.durable;
  right = λ d. by_place d (cases_eq d c);
}
  where
    allowed : (connection place answer : ℕ) (other : Message) (outcome : Answer)
        → IsLast world.log (Sent c request) connection place other answer outcome → IsAllowed world place other outcome
    allowed connection place answer other outcome last = let is = last.is in absurd (cc)

    idle : (connection : ℕ) (other : Message) → Sent c request ≡ Sent connection other → IsAllAnswered world.log connection
    idle connection other is = let same : c ≡ connection = cc in subst (IsAllAnswered world.log) same all

    right_here : IsRight (facts_of (sent_by world c request)) c (length world.log) (Requested request)
    right_here = (
      record {
        sent = get_last world.log (Sent c request);
        unanswered = λ k outcome after at. absurd (beyond k outcome after (get_split world.log (Sent c request) k (Answered c outcome) at));
        last = λ k other at. last k other (get_split world.log (Sent c request) k (Sent c other) at);
      },
      λ k below same. let within = pair_within world sound k below in omega (arith, within, same),
    )
      where
        beyond : (k : ℕ) (outcome : Answer) → length world.log < k
            → (slice_get world.log k ≡ Some (Answered c outcome)) ⊎ ((k ≡ length world.log) × (Answered c outcome ≡ Sent c request)) → ⊥
        beyond k outcome after (inl at) = let within = slice_get_within world.log k (Answered c outcome) at in omega (arith, within, after)
        beyond k outcome after (inr last) = omega (arith, last.0, after)

        last : (k : ℕ) (other : Message)
            → (slice_get world.log k ≡ Some (Sent c other)) ⊎ ((k ≡ length world.log) × (Sent c other ≡ Sent c request)) → k ≤ length world.log
        last k other (inl at) = let within = slice_get_within world.log k (Sent c other) at in omega (arith, within)
        last k other (inr end) = omega (arith, end.0)

    by_place : (d : ℕ) → (d ≡ c) ⊎ (d ≡ c → ⊥)
        → IsRight (facts_of (sent_by world c request)) d (put world.places c (length world.log) d) (put world.connections c (Requested request) d)
    by_place d (inl is) = subst (λ (e : ℕ). IsRight (facts_of (sent_by world c request)) e (put world.places c (length world.log) e) (put world.connections c (Requested request) e)) (sym is)
        (subst (λ (s : Connection). IsRight (facts_of (sent_by world c request)) c (put world.places c (length world.log) c) s) (sym (put_same world.connections c (Requested request)))
        (subst (λ (p : ℕ). IsRight (facts_of (sent_by world c request)) c p (Requested request)) (sym (put_same world.places c (length world.log))) right_here))
    by_place d (inr other) = subst (λ (s : Connection). IsRight (facts_of (sent_by world c request)) d (put world.places c (length world.log) d) s) (sym (put_other world.connections c (Requested request) d other))
        (subst (λ (p : ℕ). IsRight (facts_of (sent_by world c request)) d p (world.connections d)) (sym (put_other world.places c (length world.log) d other))
        (right_more (facts_of world) (Sent c request) d (world.places d) (world.connections d) (λ outcome is. cc) (λ r is. other (cc)) (sound.right d)))

-- the request that an answer more to a connection answers is the open one
pub own_place : (world : World) (c : ℕ) (request : Message) (outcome : Answer) → IsSound world → IsOpen world.log c (world.places c) request
    → (place answer : ℕ) (other : Message) (given : Answer) → IsLast world.log (Answered c outcome) c place other answer given → place ≡ world.places c
own_place world c request outcome sound is_open place answer other given last = by_case (cases_eq place (world.places c))
  where
    by_case : (place ≡ world.places c) ⊎ (place ≡ world.places c → ⊥) → place ≡ world.places c
    by_case (inl is) = is
    by_case (inr unlike) =
        let at_most = is_open.last place other last.sent in
        let found = sound.legal.one_open c place (world.places c) other request (omega (arith, at_most, unlike)) last.sent is_open.sent in
        absurd (last.first found.0 found.1 found.2 found.4)

-- An answer to a connection whose request is open, where it is one that the request may have.
pub sound_answered : (world : World) (c : ℕ) (request : Message) (outcome : Answer) → IsSound world → IsOpen world.log c (world.places c) request
    → IsAllowed world (world.places c) request outcome → IsSound (answered world c outcome)
sound_answered world c request outcome sound is_open is_allowed = record {
  legal = legal_more world (Answered c outcome) allowed idle sound.legal;
  durable = durable_more world (Answered c outcome) allowed idle sound.legal sound.durable;
  right = λ d. by_place d (cases_eq d c);
}
  where
    allowed : (connection place answer : ℕ) (other : Message) (given : Answer)
        → IsLast world.log (Answered c outcome) connection place other answer given → IsAllowed world place other given
    allowed connection place answer other given last =
        let is = last.is in
        let connection_is : c ≡ connection = cc in
        let given_is : outcome ≡ given = cc in
        let mine = subst (λ (e : ℕ). IsLast world.log (Answered c outcome) e place other answer given) (sym connection_is) last in
        let place_is = own_place world c request outcome sound is_open place answer other given mine in
        let same = one_event world.log place (Sent c other) (Sent c request) mine.sent (subst (λ (p : ℕ). StandsAt world.log p (Sent c request)) (sym place_is) is_open.sent) in
        let other_is : other ≡ request = cc in
        subst (λ (o : Answer). IsAllowed world place other o) given_is
        (subst (λ (m : Message). IsAllowed world place m outcome) (sym other_is)
        (subst (λ (p : ℕ). IsAllowed world p request outcome) (sym place_is) is_allowed))

    idle : (connection : ℕ) (other : Message) → Answered c outcome ≡ Sent connection other → IsAllAnswered world.log connection
    idle connection other is = absurd (cc)

    right_here : IsAllAnswered (world.log ++ Answered c outcome ∷ []) c
    right_here place other at = by_case (get_split world.log (Answered c outcome) place (Sent c other) at)
      where
        by_case : (slice_get world.log place ≡ Some (Sent c other)) ⊎ ((place ≡ length world.log) × (Sent c other ≡ Answered c outcome))
            → (answer : ℕ) × (given : Answer) × (place < answer) × StandsAt (world.log ++ Answered c outcome ∷ []) answer (Answered c given)
        by_case (inl old) = (length world.log, outcome, slice_get_within world.log place (Sent c other) old, get_last world.log (Answered c outcome))
        by_case (inr last) = let is = last.1 in absurd (cc)

    by_place : (d : ℕ) → (d ≡ c) ⊎ (d ≡ c → ⊥) → IsRight (facts_of (answered world c outcome)) d (world.places d) (put world.connections c Idle d)
    by_place d (inl is) = subst (λ (e : ℕ). IsRight (facts_of (answered world c outcome)) e (world.places e) (put world.connections c Idle e)) (sym is)
        (subst (λ (s : Connection). IsRight (facts_of (answered world c outcome)) c (world.places c) s) (sym (put_same world.connections c Idle)) right_here)
    by_place d (inr other) = subst (λ (s : Connection). IsRight (facts_of (answered world c outcome)) d (world.places d) s) (sym (put_other world.connections c Idle d other))
        (right_more (facts_of world) (Answered c outcome) d (world.places d) (world.connections d) (λ given is. other (cc)) (λ r is. cc) (sound.right d))

cases_side : (a b : ℕ) → (a ≡ b → ⊥) → (a < b) ⊎ (b < a)
cases_side a b unlike = by_case (cases_lt a b)
  where
    by_case : (a < b) ⊎ (b ≤ a) → (a < b) ⊎ (b < a)
    by_case (inl before) = inl before
    by_case (inr after) = inr (omega (arith, after, unlike))

-- a FLUSH is no write command
pub flush_no_write : (request : Message) → is_flush request ≡ true → is_write request ≡ true → ⊥
flush_no_write request flush write =
    let three = eqb-true request.head.kind 3 flush in
    let others = subst (λ (kind : ℕ). is_write_type kind ≡ true) three write in
    unlike others
  where
    unlike : is_write_type 3 ≡ true → ⊥
    unlike is = cc

-- nor is it a READ or a BLOCK_STATUS, and no write command is one
pub flush_no_read : (request : Message) → is_flush request ≡ true → is_read request ≡ true → ⊥
flush_no_read request flush read = unlike (subst (λ (kind : ℕ). is_read_type kind ≡ true) (eqb-true request.head.kind 3 flush) read)
  where
    unlike : is_read_type 3 ≡ true → ⊥
    unlike is = cc

pub write_no_read : (request : Message) → is_write request ≡ true → is_read request ≡ false
write_no_read request write = by_kind (cases_eq request.head.kind 0)
  where
    no_zero : is_write_type 0 ≡ true → ⊥
    no_zero is = cc

    no_seven : is_write_type 7 ≡ true → ⊥
    no_seven is = cc

    seven : (request.head.kind ≡ 7) ⊎ (request.head.kind ≡ 7 → ⊥) → (request.head.kind ≡ 0 → ⊥) → is_read request ≡ false
    seven (inl is) other = absurd (no_seven (subst (λ (kind : ℕ). is_write_type kind ≡ true) is write))
    seven (inr unlike) other = or_from (request.head.kind == 0) (request.head.kind == 7) (ne_eqb request.head.kind 0 other) (ne_eqb request.head.kind 7 unlike)

    by_kind : (request.head.kind ≡ 0) ⊎ (request.head.kind ≡ 0 → ⊥) → is_read request ≡ false
    by_kind (inl is) = absurd (no_zero (subst (λ (kind : ℕ). is_write_type kind ≡ true) is write))
    by_kind (inr other) = seven (cases_eq request.head.kind 7) other

-- the answers that the states of a connection lead to are ones that its request may have
pub allowed_ready_done : (world : World) (c : ℕ) → (right : IsRight (facts_of world) c (world.places c) (Ready Done)) → IsAllowed world (world.places c) right.0 Done
allowed_ready_done world c right = by_case right.2
  where
    by_case : IsDoneAtOnce (facts_of world) (world.places c) right.0 → IsAllowed world (world.places c) right.0 Done
    by_case (inl is) = record {
      done = λ done write. is.2;
      refused = λ errno done unlike. absurd (cc);
      forced = λ done write waits k below own. absurd (both_ways (waits_for_store world.stage.setting.mode right.0) is.1 waits);
      flushed = λ done flush waits k below confirmed before. absurd (flush_no_write right.0 flush is.0);
    }
    by_case (inr is) = record {
      done = λ done write. absurd (both_ways (is_write right.0) is.0 write);
      refused = λ errno done unlike. absurd (cc);
      forced = λ done write waits k below own. absurd (both_ways (is_write right.0) is.0 write);
      flushed = λ done flush waits k below confirmed before. absurd (both_ways (flush_waits world.stage.setting.mode) is.1 waits);
    }

pub allowed_refused : (world : World) (c : ℕ) (request : Message) (errno : Errno) → IsUnpaired world.stage.order world.paired (world.places c)
    → IsAllowed world (world.places c) request (Refused errno)
allowed_refused world c request errno unpaired = record {
  done = λ is write. absurd (cc);
  refused = λ other is unlike. unpaired;
  forced = λ is write waits k below own. absurd (cc);
  flushed = λ is flush waits k below confirmed before. absurd (cc);
}

pub allowed_fault : (world : World) (c : ℕ) (request : Message) → IsAllowed world (world.places c) request (Refused Io)
allowed_fault world c request = record {
  done = λ is write. absurd (cc);
  refused = λ other is unlike. let same : Io ≡ other = cc in absurd (unlike (sym same));
  forced = λ is write waits k below own. absurd (cc);
  flushed = λ is flush waits k below confirmed before. absurd (cc);
}

-- an answer that is neither Ok nor an error
pub allowed_other : (world : World) (c : ℕ) (request : Message) (outcome : Answer) → (outcome ≡ Done → ⊥) → ((errno : Errno) → outcome ≡ Refused errno → ⊥)
    → IsAllowed world (world.places c) request outcome
allowed_other world c request outcome not_done not_refused = record {
  done = λ is write. absurd (not_done is);
  refused = λ errno is unlike. absurd (not_refused errno is);
  forced = λ is write waits k below own. absurd (not_done is);
  flushed = λ is flush waits k below confirmed before. absurd (not_done is);
}

pub allowed_waiting : (world : World) (c number : ℕ) (request : Message) → IsSound world → number ≤ world.stage.setting.opening + world.stage.durable
    → AwaitsItself (facts_of world) (world.places c) number request ⊎ AwaitsOthers (facts_of world) (world.places c) number request
    → IsAllowed world (world.places c) request Done
allowed_waiting world c number request sound reached (inl itself) = record {
  done = λ is write. (itself.k, itself.below, itself.own);
  refused = λ errno is unlike. absurd (cc);
  forced = λ is write waits k below own. forced k below own;
  flushed = λ is flush waits k below confirmed before. absurd (flush_no_write request flush itself.write);
}
  where
    forced : (k : ℕ) → k < length world.stage.order → world.paired k ≡ world.places c → k < world.stage.durable
    forced k below own = by_order (cases_eq k itself.k)
      where
        by_order : (k ≡ itself.k) ⊎ (k ≡ itself.k → ⊥) → k < world.stage.durable
        by_order (inl is) = let number_is = itself.reached in omega (arith, is, reached, number_is)
        by_order (inr unlike) = absurd (by_side (cases_side k itself.k unlike))
          where
            by_side : (k < itself.k) ⊎ (itself.k < k) → ⊥
            by_side (inl before) = sound.legal.apart k itself.k before itself.below (own ∙ sym itself.own)
            by_side (inr after) = sound.legal.apart itself.k k after below (itself.own ∙ sym own)
allowed_waiting world c number request sound reached (inr others) = record {
  done = λ is write. absurd (both_ways (is_write request) others.no_write write);
  refused = λ errno is unlike. absurd (cc);
  forced = λ is write waits k below own. absurd (both_ways (is_write request) others.no_write write);
  flushed = λ is flush waits k below confirmed before. let number_is = others.reached confirmed.connection k confirmed.answer confirmed.request below confirmed.answered before in
      omega (arith, reached, number_is);
}
