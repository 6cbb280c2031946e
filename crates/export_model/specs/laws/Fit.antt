-- the answers that show an image fit the order
use Rattle.std.proofs.Common.{◌≡◌, ◌⊎◌, inl, inr, ℕ, ◌<◌, ◌≤◌, true, List, [], ◌∷◌, ◌++◌, length, length-append, sym, ◌∙◌, ap, subst, arith}
use Rattle.std.proofs.lemmas.Option.{slice_get_within}
use Rattle.std.proofs.lemmas.Bool.{cases_eq}
use Rattle.std.proofs.lemmas.List.{take-append-le}
use Rattle.image_model.specs.Change.{Change}
use Rattle.image_model.specs.Image.{Image, apply_all}
use Rattle.nbd_wire.specs.Request.{Message}
use Rattle.nbd_wire.specs.declared.message.Answer.{Answer}
use Rattle.nbd_wire.specs.declared.message.Answer.TheVariants.{Done}
use Rattle.export_model.specs.declared.connection.Connection.{Connection}
use Rattle.export_model.specs.declared.connection.Connection.TheVariants.{Idle, Requested, Waiting, Ready, Closed}
use Rattle.export_model.specs.declared.event.Event.{Event}
use Rattle.export_model.specs.declared.event.Event.TheVariants.{Sent, Answered}
use Rattle.export_model.specs.Answers.{IsGiven}
use Rattle.export_model.specs.Fits.{IsShown}
use Rattle.export_model.specs.Log.{StandsAt, IsAnswered, is_read}
use Rattle.export_model.specs.Serve.{answered, logged, moved, ordered}
use Rattle.export_model.specs.Shown.{shown_by}
use Rattle.export_model.specs.World.{World, image_after, put}
use Rattle.export_model.specs.laws.Events.{IsLast, answered_split, get_split}
use Rattle.export_model.specs.laws.Logged.{IsQuiet, put_other, put_same}
use Rattle.export_model.specs.laws.Ordered.{no_answer, one_sender}
use Rattle.export_model.specs.laws.Sound.{IsOpen, IsSound, one_event}
use Rattle.export_model.specs.laws.Talk.{own_place, pair_within}

-- If the device is trusted, which may be any statement, an answer is what the image shows; the rest holds of any device.
module _ (trusted : Type 0) where
  -- what answers that show an image are judged by
  pub record Facts : Type 0 where
    pub image : Image
    pub log : List Event
    pub order : List Change
    pub paired : ℕ → ℕ
    pub shown : ℕ → ℕ

  abbrev pub facts : World → Facts
  facts world = record {
    image = world.stage.setting.image;
    log = world.log;
    order = world.stage.order;
    paired = world.paired;
    shown = world.shown;
  }

  -- the answer to the request that was sent at the place is what the image shows, and all that was told before it was sent is in it
  pub record Shows (given : Facts) (place : ℕ) (request : Message) (outcome : Answer) : Type 0 where
    pub shows : trusted → outcome ≡ shown_by (image_after given.order (given.shown place) given.image) request.head
    pub after : (k connection answer : ℕ) (other : Message) → k < length given.order
        → IsAnswered given.log connection (given.paired k) other answer Done → answer < place → k < given.shown place
    pub rising : (earlier : ℕ) (is : IsShown given.log earlier) → is.answer < place → given.shown earlier ≤ given.shown place

  -- what a connection is at whose last request was sent at the place, if that one is a READ or a BLOCK_STATUS
  abbrev pub IsDue : Facts → ℕ → ℕ → Connection → Type 0
  IsDue given connection place (Ready outcome) =
      (request : Message) → StandsAt given.log place (Sent connection request) → is_read request ≡ true → IsGiven outcome → Shows given place request outcome
  IsDue given connection place (Waiting number) = (request : Message) → StandsAt given.log place (Sent connection request) → is_read request ≡ true → ⊥
  IsDue given connection place Idle = Unit {0}
  IsDue given connection place (Requested request) = Unit {0}
  IsDue given connection place Closed = Unit {0}

  pub record IsFit (given : Facts) (places : ℕ → ℕ) (connections : ℕ → Connection) : Type 0 where
    pub within : (place : ℕ) → given.shown place ≤ length given.order
    pub due : (connection : ℕ) → IsDue given connection (places connection) (connections connection)
    pub answered : (place : ℕ) (is : IsShown given.log place) → Shows given place is.request is.outcome
    pub before : (place : ℕ) (is : IsShown given.log place) (k : ℕ) → k < given.shown place → given.paired k < is.answer

  abbrev pub Fits : World → Type 0
  Fits world = IsFit (facts world) world.places world.connections

  -- an event more
  abbrev with_event : Facts → Event → Facts
  with_event given event = record given { log = given.log ++ event ∷ [] }

  -- an answer that shows an image was one already, or is the event more
  shown_split : (log : List Event) (event : Event) (place : ℕ) (is : IsShown (log ++ event ∷ []) place)
      → IsAnswered log is.connection place is.request is.answer is.outcome ⊎ IsLast log event is.connection place is.request is.answer is.outcome
  shown_split log event place is = answered_split log event is.connection place is.request is.answer is.outcome is.answered

  abbrev as_before : (log : List Event) (event : Event) (place : ℕ) (is : IsShown (log ++ event ∷ []) place)
      → IsAnswered log is.connection place is.request is.answer is.outcome → IsShown log place
  as_before log event place is old = record {
    connection = is.connection;
    request = is.request;
    answer = is.answer;
    outcome = is.outcome;
    read = is.read;
    given = is.given;
    answered = old;
  }

  module _ (given : Facts) (event : Event) where
    shows_more : (place : ℕ) (request : Message) (outcome : Answer) → place ≤ length given.log → Shows given place request outcome
        → Shows (with_event given event) place request outcome
    shows_more place request outcome within is = record {
      shows = is.shows;
      after = λ k connection answer other below answered before. after k connection answer other below before (answered_split given.log event connection (given.paired k) other answer Done answered);
      rising = λ earlier told before. rising earlier told before (shown_split given.log event earlier told);
    }
      where
        after : (k connection answer : ℕ) (other : Message) → k < length given.order → answer < place
            → IsAnswered given.log connection (given.paired k) other answer Done ⊎ IsLast given.log event connection (given.paired k) other answer Done → k < given.shown place
        after k connection answer other below before (inl old) = is.after k connection answer other below old before
        after k connection answer other below before (inr last) = absurd (omega (arith, last.at, before, within))

        rising : (earlier : ℕ) (told : IsShown (given.log ++ event ∷ []) earlier) → told.answer < place
            → IsAnswered given.log told.connection earlier told.request told.answer told.outcome ⊎ IsLast given.log event told.connection earlier told.request told.answer told.outcome
            → given.shown earlier ≤ given.shown place
        rising earlier told before (inl old) = is.rising earlier (as_before given.log event earlier told old) before
        rising earlier told before (inr last) = absurd (omega (arith, last.at, before, within))

    due_more : (connection place : ℕ) (state : Connection) → ((request : Message) → event ≡ Sent connection request → ⊥) → IsDue given connection place state
        → IsDue (with_event given event) connection place state
    due_more connection place (Ready outcome) unsent is = λ request at read told. by_place request read told (get_split given.log event place (Sent connection request) at)
      where
        by_place : (request : Message) → is_read request ≡ true → IsGiven outcome → StandsAt given.log place (Sent connection request) ⊎ ((place ≡ length given.log) × (Sent connection request ≡ event))
            → Shows (with_event given event) place request outcome
        by_place request read told (inl at) = let within = slice_get_within given.log place (Sent connection request) at in
            shows_more place request outcome (omega (arith, within)) (is request at read told)
        by_place request read told (inr last) = absurd (unsent request (sym last.1))
    due_more connection place (Waiting number) unsent is = λ request at read. by_place request read (get_split given.log event place (Sent connection request) at)
      where
        by_place : (request : Message) → is_read request ≡ true → StandsAt given.log place (Sent connection request) ⊎ ((place ≡ length given.log) × (Sent connection request ≡ event)) → ⊥
        by_place request read (inl at) = is request at read
        by_place request read (inr last) = unsent request (sym last.1)
    due_more connection place Idle unsent is = tt
    due_more connection place (Requested request) unsent is = tt
    due_more connection place Closed unsent is = tt

    -- an event that is no answer leaves the answers as they are
    answered_same : ((connection : ℕ) (outcome : Answer) → event ≡ Answered connection outcome → ⊥)
        → ((place : ℕ) (is : IsShown given.log place) → Shows given place is.request is.outcome)
        → (place : ℕ) (is : IsShown (given.log ++ event ∷ []) place) → Shows (with_event given event) place is.request is.outcome
    answered_same unanswered all place is = by_case (shown_split given.log event place is)
      where
        by_case : IsAnswered given.log is.connection place is.request is.answer is.outcome ⊎ IsLast given.log event is.connection place is.request is.answer is.outcome
            → Shows (with_event given event) place is.request is.outcome
        by_case (inl old) = let within = slice_get_within given.log place (Sent is.connection is.request) old.sent in
            shows_more place is.request is.outcome (omega (arith, within)) (all place (as_before given.log event place is old))
        by_case (inr last) = absurd (unanswered is.connection is.outcome last.is)

    before_same : ((connection : ℕ) (outcome : Answer) → event ≡ Answered connection outcome → ⊥)
        → ((place : ℕ) (is : IsShown given.log place) (k : ℕ) → k < given.shown place → given.paired k < is.answer)
        → (place : ℕ) (is : IsShown (given.log ++ event ∷ []) place) (k : ℕ) → k < given.shown place → given.paired k < is.answer
    before_same unanswered all place is k below = by_case (shown_split given.log event place is)
      where
        by_case : IsAnswered given.log is.connection place is.request is.answer is.outcome ⊎ IsLast given.log event is.connection place is.request is.answer is.outcome
            → given.paired k < is.answer
        by_case (inl old) = all place (as_before given.log event place is old) k below
        by_case (inr last) = absurd (unanswered is.connection is.outcome last.is)

  -- an event that is neither a request nor an answer
  pub fit_quiet : (world : World) (event : Event) → IsQuiet event → Fits world → Fits (logged world event)
  fit_quiet world event quiet fit = record {
    within = fit.within;
    due = λ connection. due_more (facts world) event connection (world.places connection) (world.connections connection) (quiet.unsent connection) (fit.due connection);
    answered = answered_same (facts world) event quiet.unanswered fit.answered;
    before = before_same (facts world) event quiet.unanswered fit.before;
  }

  -- a connection comes to another state
  pub fit_moved : (world : World) (c : ℕ) (state : Connection) → Fits world → IsDue (facts world) c (world.places c) state → Fits (moved world c state)
  fit_moved world c state fit is = record {
    within = fit.within;
    due = λ d. by_place d (cases_eq d c);
    answered = fit.answered;
    before = fit.before;
  }
    where
      by_place : (d : ℕ) → (d ≡ c) ⊎ (d ≡ c → ⊥) → IsDue (facts world) d (world.places d) (put world.connections c state d)
      by_place d (inl same) = subst (λ (e : ℕ). IsDue (facts world) e (world.places e) (put world.connections c state e)) (sym same)
          (subst (IsDue (facts world) c (world.places c)) (sym (put_same world.connections c state)) is)
      by_place d (inr other) = subst (IsDue (facts world) d (world.places d)) (sym (put_other world.connections c state d other)) (fit.due d)

  -- a connection sends a request
  pub fit_sent : (world : World) (c : ℕ) (request : Message) → Fits world
      → Fits (logged (record (moved world c (Requested request)) { places = put world.places c (length world.log) }) (Sent c request))
  fit_sent world c request fit = record {
    within = fit.within;
    due = λ d. by_place d (cases_eq d c);
    answered = answered_same (facts world) (Sent c request) (λ connection outcome is. cc) fit.answered;
    before = before_same (facts world) (Sent c request) (λ connection outcome is. cc) fit.before;
  }
    where
      by_place : (d : ℕ) → (d ≡ c) ⊎ (d ≡ c → ⊥)
          → IsDue (with_event (facts world) (Sent c request)) d (put world.places c (length world.log) d) (put world.connections c (Requested request) d)
      by_place d (inl same) = subst (λ (e : ℕ). IsDue (with_event (facts world) (Sent c request)) e (put world.places c (length world.log) e) (put world.connections c (Requested request) e)) (sym same)
          (subst (IsDue (with_event (facts world) (Sent c request)) c (put world.places c (length world.log) c)) (sym (put_same world.connections c (Requested request))) tt)
      by_place d (inr other) =
          subst (IsDue (with_event (facts world) (Sent c request)) d (put world.places c (length world.log) d)) (sym (put_other world.connections c (Requested request) d other))
          (subst (λ (p : ℕ). IsDue (with_event (facts world) (Sent c request)) d p (world.connections d)) (sym (put_other world.places c (length world.log) d other))
          (due_more (facts world) (Sent c request) d (world.places d) (world.connections d) (λ sent is. other (cc)) (fit.due d)))

  -- an answer to a connection whose request is open
  pub fit_answered : (world : World) (c : ℕ) (request : Message) (outcome : Answer) → IsSound world → IsOpen world.log c (world.places c) request → Fits world
      → (is_read request ≡ true → IsGiven outcome → Shows (facts world) (world.places c) request outcome) → Fits (answered world c outcome)
  fit_answered world c request outcome sound is_open fit is_due = record {
    within = fit.within;
    due = λ d. by_place d (cases_eq d c);
    answered = λ place is. all place is (shown_split world.log (Answered c outcome) place is);
    before = λ place is k below. before place is k below (shown_split world.log (Answered c outcome) place is);
  }
    where
      by_place : (d : ℕ) → (d ≡ c) ⊎ (d ≡ c → ⊥) → IsDue (with_event (facts world) (Answered c outcome)) d (world.places d) (put world.connections c Idle d)
      by_place d (inl same) = subst (λ (e : ℕ). IsDue (with_event (facts world) (Answered c outcome)) e (world.places e) (put world.connections c Idle e)) (sym same)
          (subst (IsDue (with_event (facts world) (Answered c outcome)) c (world.places c)) (sym (put_same world.connections c Idle)) tt)
      by_place d (inr other) = subst (IsDue (with_event (facts world) (Answered c outcome)) d (world.places d)) (sym (put_other world.connections c Idle d other))
          (due_more (facts world) (Answered c outcome) d (world.places d) (world.connections d) (λ sent is. cc) (fit.due d))

      -- the answer more is that of the open request
      all : (place : ℕ) (is : IsShown (world.log ++ Answered c outcome ∷ []) place)
          → IsAnswered world.log is.connection place is.request is.answer is.outcome ⊎ IsLast world.log (Answered c outcome) is.connection place is.request is.answer is.outcome
          → Shows (with_event (facts world) (Answered c outcome)) place is.request is.outcome
      all place is (inl old) = let within = slice_get_within world.log place (Sent is.connection is.request) old.sent in
          shows_more (facts world) (Answered c outcome) place is.request is.outcome (omega (arith, within)) (fit.answered place (as_before world.log (Answered c outcome) place is old))
      all place is (inr last) = own is.connection is.request is.outcome is.answer is.read is.given last
        where
          own : (connection : ℕ) (other : Message) (told : Answer) (at : ℕ) → is_read other ≡ true → IsGiven told
              → IsLast world.log (Answered c outcome) connection place other at told → Shows (with_event (facts world) (Answered c outcome)) place other told
          own connection other told at read given end =
              let event = end.is in
              let connection_is : c ≡ connection = cc in
              let outcome_is : outcome ≡ told = cc in
              let mine = subst (λ (e : ℕ). IsLast world.log (Answered c outcome) e place other at told) (sym connection_is) end in
              let place_is = own_place world c request outcome sound is_open place at other told mine in
              let same = one_event world.log place (Sent c other) (Sent c request) mine.sent (subst (λ (p : ℕ). StandsAt world.log p (Sent c request)) (sym place_is) is_open.sent) in
              let request_is : request ≡ other = cc in
              let within = slice_get_within world.log place (Sent c other) mine.sent in
              shows_more (facts world) (Answered c outcome) place other told (omega (arith, within))
              (subst (λ (p : ℕ). Shows (facts world) p other told) (sym place_is)
              (subst (λ (r : Message). Shows (facts world) (world.places c) r told) request_is
              (subst (Shows (facts world) (world.places c) request) outcome_is
              (is_due (subst (λ (r : Message). is_read r ≡ true) (sym request_is) read) (subst IsGiven (sym outcome_is) given)))))

      before : (place : ℕ) (is : IsShown (world.log ++ Answered c outcome ∷ []) place) (k : ℕ) → k < world.shown place
          → IsAnswered world.log is.connection place is.request is.answer is.outcome ⊎ IsLast world.log (Answered c outcome) is.connection place is.request is.answer is.outcome
          → world.paired k < is.answer
      before place is k below (inl old) = fit.before place (as_before world.log (Answered c outcome) place is old) k below
      before place is k below (inr last) =
          let most = fit.within place in
          let there = pair_within world sound k (omega (arith, below, most)) in
          omega (arith, there, last.at)

  -- no later command changes the image after the first `count` commands
  pub image_same : (count : ℕ) (order more : List Change) (image : Image) → count ≤ length order → image_after (order ++ more) count image ≡ image_after order count image
  image_same count order more image within = ap (λ (l : List Change). apply_all l image) (take-append-le count order more within)

  -- a command of an open request goes to the end of the order
  module _ (world : World) (c : ℕ) (request : Message) (command : Change) (is_open : IsOpen world.log c (world.places c) request) where
    abbrev more : Facts
    more = facts (ordered world c command)

    below_more : (k : ℕ) → k < length (world.stage.order ++ command ∷ []) → (k < length world.stage.order) ⊎ (k ≡ length world.stage.order)
    below_more k below = by_case (cases_eq k (length world.stage.order))
      where
        by_case : (k ≡ length world.stage.order) ⊎ (k ≡ length world.stage.order → ⊥) → (k < length world.stage.order) ⊎ (k ≡ length world.stage.order)
        by_case (inl is) = inr is
        by_case (inr other) = inl (omega (arith, length-append world.stage.order (command ∷ []), below, other))

    old_pair : (k : ℕ) → k < length world.stage.order → more.paired k ≡ world.paired k
    old_pair k below = put_other world.paired (length world.stage.order) (world.places c) k (λ is. omega (arith, is, below))

    new_pair : (k : ℕ) → k ≡ length world.stage.order → more.paired k ≡ world.places c
    new_pair k is = ap (put world.paired (length world.stage.order) (world.places c)) is ∙ put_same world.paired (length world.stage.order) (world.places c)

    shows_ordered : (place : ℕ) (asked : Message) (outcome : Answer) → world.shown place ≤ length world.stage.order → Shows (facts world) place asked outcome → Shows more place asked outcome
    shows_ordered place asked outcome within is = record {
      shows = λ trusted. is.shows trusted ∙ ap (λ (i : Image). shown_by i asked.head) (sym (image_same (world.shown place) world.stage.order (command ∷ []) world.stage.setting.image within));
      after = λ k connection answer other below told before. after k connection answer other before told (below_more k below);
      rising = is.rising;
    }
      where
        after : (k connection answer : ℕ) (other : Message) → answer < place → IsAnswered world.log connection (more.paired k) other answer Done
            → (k < length world.stage.order) ⊎ (k ≡ length world.stage.order) → k < world.shown place
        after k connection answer other before told (inl below) =
            is.after k connection answer other below (subst (λ (p : ℕ). IsAnswered world.log connection p other answer Done) (old_pair k below) told) before
        after k connection answer other before told (inr last) = absurd (no_answer world.log c (world.places c) connection answer request other Done is_open
            (subst (λ (p : ℕ). IsAnswered world.log connection p other answer Done) (new_pair k last) told))

    due_ordered : (connection place : ℕ) (state : Connection) → world.shown place ≤ length world.stage.order → IsDue (facts world) connection place state → IsDue more connection place state
    due_ordered connection place (Ready outcome) within is = λ asked at read given. shows_ordered place asked outcome within (is asked at read given)
    due_ordered connection place (Waiting number) within is = is
    due_ordered connection place Idle within is = tt
    due_ordered connection place (Requested other) within is = tt
    due_ordered connection place Closed within is = tt

    pub fit_ordered : Fits world → Fits (ordered world c command)
    fit_ordered fit = record {
      within = λ place. let most = fit.within place in omega (arith, most, length-append world.stage.order (command ∷ []));
      due = λ d. due_ordered d (world.places d) (world.connections d) (fit.within (world.places d)) (fit.due d);
      answered = λ place is. shows_ordered place is.request is.outcome (fit.within place) (fit.answered place is);
      before = λ place is k below. let most = fit.within place in
          subst (λ (p : ℕ). p < is.answer) (sym (old_pair k (omega (arith, below, most)))) (fit.before place is k below);
    }

  -- an open request is answered with what the image shows after the first `count` commands
  module _ (world : World) (c : ℕ) (request : Message) (count : ℕ) (most : count ≤ length world.stage.order) (is_open : IsOpen world.log c (world.places c) request)
      (asks : world.connections c ≡ Requested request) where
    abbrev now : World
    now = record world { shown = put world.shown (world.places c) count }

    same_shown : (place : ℕ) → IsShown world.log place → now.shown place ≡ world.shown place
    same_shown place is = put_other world.shown (world.places c) count place
        (λ same. no_answer world.log c (world.places c) is.connection is.answer request is.request is.outcome is_open
        (subst (λ (p : ℕ). IsAnswered world.log is.connection p is.request is.answer is.outcome) same is.answered))

    within_counted : Fits world → (place : ℕ) → now.shown place ≤ length world.stage.order
    within_counted fit place = by_case (cases_eq place (world.places c))
      where
        by_case : (place ≡ world.places c) ⊎ (place ≡ world.places c → ⊥) → now.shown place ≤ length world.stage.order
        by_case (inl is) = omega (arith, most, ap now.shown is, put_same world.shown (world.places c) count)
        by_case (inr other) = let below = fit.within place in omega (arith, below, put_other world.shown (world.places c) count place other)

    shows_counted : (place : ℕ) (asked : Message) (outcome : Answer) → now.shown place ≡ world.shown place → Shows (facts world) place asked outcome → Shows (facts now) place asked outcome
    shows_counted place asked outcome same is = record {
      shows = λ t. is.shows t ∙ ap (λ (n : ℕ). shown_by (image_after world.stage.order n world.stage.setting.image) asked.head) (sym same);
      after = λ k connection answer other below told before. let before_it = is.after k connection answer other below told before in omega (arith, same, before_it);
      rising = λ earlier told before. let before_it = is.rising earlier told before in omega (arith, same, same_shown earlier told, before_it);
    }

    due_counted : (d place : ℕ) (state : Connection) → (d ≡ c → ⊥) → IsDue (facts world) d place state → IsDue (facts now) d place state
    due_counted d place (Ready outcome) unlike is = λ asked at read given. shows_counted place asked outcome
        (put_other world.shown (world.places c) count place
        (λ same. unlike (one_sender world.log place d c asked request at (subst (λ (p : ℕ). StandsAt world.log p (Sent c request)) (sym same) is_open.sent)))) (is asked at read given)
    due_counted d place (Waiting number) unlike is = is
    due_counted d place Idle unlike is = tt
    due_counted d place (Requested other) unlike is = tt
    due_counted d place Closed unlike is = tt

    pub fit_counted : Fits world → Fits now
    fit_counted fit = record {
      within = within_counted fit;
      due = λ d. by_place d (cases_eq d c);
      answered = λ place is. shows_counted place is.request is.outcome (same_shown place is) (fit.answered place is);
      before = λ place is k below. fit.before place is k (let same = same_shown place is in omega (arith, below, same));
    }
      where
        by_place : (d : ℕ) → (d ≡ c) ⊎ (d ≡ c → ⊥) → IsDue (facts now) d (world.places d) (world.connections d)
        by_place d (inl same) = subst (λ (e : ℕ). IsDue (facts now) e (world.places e) (world.connections e)) (sym same)
            (subst (IsDue (facts now) c (world.places c)) (sym asks) tt)
        by_place d (inr other) = due_counted d (world.places d) (world.connections d) other (fit.due d)
