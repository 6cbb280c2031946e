-- each step of a connection keeps a world good; and what a good world says of its log
use Rattle.std.proofs.Common.{◌≡◌, ◌⊎◌, inl, inr, ℕ, ◌+◌, ◌≤◌, Bool, true, false, Some, List, [], ◌∷◌, ◌++◌, length, length-append, sym, ◌∙◌, ap, subst, refl, arith}
use Rattle.std.specs.List.{slice_get}
use Rattle.std.proofs.lemmas.Bool.{both_ways, false_from_ne_true}
use Rattle.std.proofs.lemmas.Option.{slice_get_within}
use mathlib.Core.List.{IsPrefix}
use Rattle.image_model.specs.Change.{Change}
use Rattle.image_model.specs.Edit.{becomes}
use Rattle.image_model.specs.Image.{Image, apply_all}
use Rattle.nbd_wire.specs.Request.{Message}
use Rattle.nbd_wire.specs.declared.error.Errno.TheVariants.{Io}
use Rattle.nbd_wire.specs.declared.message.Answer.{Answer}
use Rattle.nbd_wire.specs.declared.message.Answer.TheVariants.{Done, Refused}
use Rattle.export_model.specs.declared.connection.Connection.{Connection}
use Rattle.export_model.specs.declared.connection.Connection.TheVariants.{Idle, Requested, Waiting, Ready, Closed}
use Rattle.export_model.specs.declared.event.Event.{Event}
use Rattle.export_model.specs.declared.event.Event.TheVariants.{Sent, Answered}
use Rattle.export_model.specs.Answers.{IsReadOf, MayAnswer, IsGiven}
use Rattle.export_model.specs.Covered.{Covers, IsCovered}
use Rattle.export_model.specs.Fits.{EditsFit, IsEdited, IsShown, ReadsFit}
use Rattle.export_model.specs.Log.{IsAnswered, StandsAt, edit_asked, flush_waits, is_flush, is_read, is_write, waits_for_store}
use Rattle.export_model.specs.Serve.{answered, moved, ordered, state_after}
use Rattle.export_model.specs.Shown.{shown_by}
use Rattle.export_model.specs.World.{World, Setting, fresh, image_after, last_number, put}
use Rattle.export_model.specs.laws.Events.{get_more, get_split}
use Rattle.export_model.specs.laws.Logged.{put_other, put_same, sound_moved}
use Rattle.export_model.specs.laws.Ordered.{no_answer, sound_ordered}
use Rattle.export_model.specs.laws.Sound.{IsAllowed, IsOpen, IsRight, IsSound, facts_of, one_event}
use Rattle.export_model.specs.laws.Steps.{sound_fresh}
use Rattle.export_model.specs.laws.Talk.{allowed_fault, allowed_other, allowed_ready_done, allowed_refused, allowed_waiting, flush_no_read, flush_no_write, sent_by, sound_answered, sound_sent, write_no_read}
use Rattle.export_model.specs.laws.Fit.{Fits, IsDue, Shows, facts, fit_answered, fit_counted, fit_moved, fit_ordered, fit_sent, image_same}
use Rattle.export_model.specs.laws.Knows.{Knows, image_of_part}

pub record IsGood (trusted : Type 0) (world : World) : Type 0 where
  pub sound : IsSound world
  pub fits : Fits trusted world
  pub edits : trusted → EditsFit world.log world.stage.order world.paired world.stage.setting.image

right_at : (world : World) (c : ℕ) (state : Connection) → IsSound world → world.connections c ≡ state → IsRight (facts_of world) c (world.places c) state
right_at world c state sound is = subst (IsRight (facts_of world) c (world.places c)) is (sound.right c)

due_at : (trusted : Type 0) (world : World) (c : ℕ) (state : Connection) → Fits trusted world → world.connections c ≡ state → IsDue trusted (facts trusted world) c (world.places c) state
due_at trusted world c state fits is = subst (IsDue trusted (facts trusted world) c (world.places c)) is (fits.due c)

own_request : (world : World) (c : ℕ) (request other : Message) → IsOpen world.log c (world.places c) request → StandsAt world.log (world.places c) (Sent c other) → other ≡ request
own_request world c request other is_open at = let same = one_event world.log (world.places c) (Sent c other) (Sent c request) at is_open.sent in cc

-- an event more
edits_more : (log : List Event) (event : Event) (order : List Change) (paired : ℕ → ℕ) (image : Image) → EditsFit log order paired image → EditsFit (log ++ event ∷ []) order paired image
edits_more log event order paired image fit k command at =
    let is = fit k command at in
    record { connection = is.connection; request = is.request; sent = get_more log (event ∷ []) (paired k) (Sent is.connection is.request) is.sent; write = is.write; own = is.own }

pub good_sent : (trusted : Type 0) (world : World) (c : ℕ) (request : Message) → IsGood trusted world → world.connections c ≡ Idle → IsGood trusted (sent_by world c request)
good_sent trusted world c request good idle = record {
  sound = sound_sent world c request good.sound (right_at world c Idle good.sound idle);
  fits = fit_sent trusted world c request good.fits;
  edits = λ t. edits_more world.log (Sent c request) world.stage.order world.paired world.stage.setting.image (good.edits t);
}

-- the command of a request goes to the end of the order
module _ (trusted : Type 0) (world : World) (c : ℕ) (request : Message) (command : Change) (good : IsGood trusted world) (asks : world.connections c ≡ Requested request)
    (write : is_write request ≡ true) (own : (image : Image) × (becomes (edit_asked request) image ≡ command))
    (right : trusted → becomes (edit_asked request) (apply_all world.stage.order world.stage.setting.image) ≡ command) where
  is_asked : IsRight (facts_of world) c (world.places c) (Requested request)
  is_asked = right_at world c (Requested request) good.sound asks

  state_right : (waits : Bool) → waits_for_store world.stage.setting.mode request ≡ waits
      → IsRight (facts_of (ordered world c command)) c (world.places c) (state_after waits (last_number world + 1))
  state_right true waits = (
    request,
    is_asked.0,
    inl (record {
      write = write;
      k = length world.stage.order;
      below = omega (arith, length-append world.stage.order (command ∷ []));
      own = put_same world.paired (length world.stage.order) (world.places c);
      reached = omega arith;
    }),
  )
  state_right false waits = (request, is_asked.0, inl (write, waits, (length world.stage.order, omega (arith, length-append world.stage.order (command ∷ [])), put_same world.paired (length world.stage.order) (world.places c))))

  other_read : (asked : Message) → StandsAt world.log (world.places c) (Sent c asked) → is_read asked ≡ true → ⊥
  other_read asked at read = both_ways (is_read request) (write_no_read request write) (subst (λ (r : Message). is_read r ≡ true) (own_request world c request asked is_asked.0 at) read)

  state_due : (waits : Bool) (number : ℕ) → IsDue trusted (facts trusted (ordered world c command)) c (world.places c) (state_after waits number)
  state_due true number = λ asked at read. other_read asked at read
  state_due false number = λ asked at read given. absurd (other_read asked at read)

  edits_ordered : trusted → EditsFit world.log (world.stage.order ++ command ∷ []) (put world.paired (length world.stage.order) (world.places c)) world.stage.setting.image
  edits_ordered t k other at = by_place (get_split world.stage.order command k other at)
    where
      by_place : (slice_get world.stage.order k ≡ Some other) ⊎ ((k ≡ length world.stage.order) × (other ≡ command))
          → IsEdited world.log (put world.paired (length world.stage.order) (world.places c) k) other (image_after (world.stage.order ++ command ∷ []) k world.stage.setting.image)
      by_place (inl old) =
          let is = good.edits t k other old in
          let below = slice_get_within world.stage.order k other old in
          let place = put_other world.paired (length world.stage.order) (world.places c) k (λ same. omega (arith, same, below)) in
          record {
            connection = is.connection;
            request = is.request;
            sent = subst (λ (p : ℕ). StandsAt world.log p (Sent is.connection is.request)) (sym place) is.sent;
            write = is.write;
            own = ap (becomes (edit_asked is.request)) (image_same trusted k world.stage.order (command ∷ []) world.stage.setting.image (omega (arith, below))) ∙ is.own;
          }
      by_place (inr last) = record {
        connection = c;
        request = request;
        sent = subst (λ (p : ℕ). StandsAt world.log p (Sent c request)) (sym (ap (put world.paired (length world.stage.order) (world.places c)) last.0 ∙ put_same world.paired (length world.stage.order) (world.places c))) is_asked.0.sent;
        write = write;
        own = ap (λ (n : ℕ). becomes (edit_asked request) (image_after (world.stage.order ++ command ∷ []) n world.stage.setting.image)) last.0
            ∙ (ap (becomes (edit_asked request)) (image_of_part world.stage.order (world.stage.order ++ command ∷ []) world.stage.setting.image (command ∷ [], refl)) ∙ (right t ∙ sym last.1));
      }

  pub good_accepted : IsGood trusted (moved (ordered world c command) c (state_after (waits_for_store world.stage.setting.mode request) (last_number world + 1)))
  good_accepted =
      let waits = waits_for_store world.stage.setting.mode request in
      let state = state_after waits (last_number world + 1) in
      record {
        sound = sound_ordered world c request command good.sound is_asked.0 is_asked.1 write own state (state_right waits refl);
        fits = fit_moved trusted (ordered world c command) c state (fit_ordered trusted world c request command is_asked.0 good.fits) (state_due waits (last_number world + 1));
        edits = edits_ordered;
      }

-- a FLUSH waits for all commands, or is done at once where the mode is one in which none waits
module _ (trusted : Type 0) (world : World) (c : ℕ) (request : Message) (good : IsGood trusted world) (asks : world.connections c ≡ Requested request)
    (flush : is_flush request ≡ true) where
  no_write : is_write request ≡ false
  no_write = false_from_ne_true (is_write request) (flush_no_write request flush)

  flush_asked : IsRight (facts_of world) c (world.places c) (Requested request)
  flush_asked = right_at world c (Requested request) good.sound asks

  flush_right : (waits : Bool) → flush_waits world.stage.setting.mode ≡ waits → IsRight (facts_of world) c (world.places c) (state_after waits (last_number world))
  flush_right true is = (request, flush_asked.0, inr (record { no_write = no_write; reached = λ connection k answer other below told before. omega (arith, below) }))
  flush_right false is = (request, flush_asked.0, inr (no_write, is))

  no_flush_read : (asked : Message) → StandsAt world.log (world.places c) (Sent c asked) → is_read asked ≡ true → ⊥
  no_flush_read asked at read = flush_no_read request flush (subst (λ (r : Message). is_read r ≡ true) (own_request world c request asked flush_asked.0 at) read)

  flush_due : (waits : Bool) → IsDue trusted (facts trusted world) c (world.places c) (state_after waits (last_number world))
  flush_due true = no_flush_read
  flush_due false = λ asked at read given. absurd (no_flush_read asked at read)

  pub good_flush : IsGood trusted (moved world c (state_after (flush_waits world.stage.setting.mode) (last_number world)))
  good_flush =
      let waits = flush_waits world.stage.setting.mode in
      record {
        sound = sound_moved world c (state_after waits (last_number world)) good.sound (flush_right waits refl);
        fits = fit_moved trusted world c (state_after waits (last_number world)) good.fits (flush_due waits);
        edits = good.edits;
      }

-- a connection is given an answer that it may be given
module _ (trusted : Type 0) (world : World) (c : ℕ) (good : IsGood trusted world) where
  -- what becomes of the world
  pub record Answers (outcome : Answer) : Type 0 where
    pub next : World
    pub is_good : IsGood trusted next
    pub log : next.log ≡ world.log ++ Answered c outcome ∷ []
    pub states : next.connections ≡ put world.connections c Idle
    pub stage : next.stage ≡ world.stage
    pub paired : next.paired ≡ world.paired
    pub places : next.places ≡ world.places
    pub shown : (place : ℕ) → IsShown world.log place → next.shown place ≡ world.shown place

  edits_answered : (outcome : Answer) → trusted → EditsFit (world.log ++ Answered c outcome ∷ []) world.stage.order world.paired world.stage.setting.image
  edits_answered outcome t = edits_more world.log (Answered c outcome) world.stage.order world.paired world.stage.setting.image (good.edits t)

  plainly : (outcome : Answer) (request : Message) → IsOpen world.log c (world.places c) request → IsAllowed world (world.places c) request outcome
      → (is_read request ≡ true → IsGiven outcome → Shows trusted (facts trusted world) (world.places c) request outcome) → Answers outcome
  plainly outcome request is_open allowed is_due = record {
    next = answered world c outcome;
    is_good = record {
      sound = sound_answered world c request outcome good.sound is_open allowed;
      fits = fit_answered trusted world c request outcome good.sound is_open good.fits is_due;
      edits = edits_answered outcome;
    };
    log = refl;
    states = refl;
    stage = refl;
    paired = refl;
    places = refl;
    shown = λ place is. refl;
  }

  by_read : (request : Message) (seen : List Change) (outcome : Answer) → world.connections c ≡ Requested request → IsReadOf trusted world.stage.setting.image seen request outcome → IsPrefix seen world.stage.order
      → Knows world c (length seen) → Answers outcome
  by_read request seen outcome is read part knows =
      let right = right_at world c (Requested request) good.sound is in
      let count : ℕ = length seen in
      let now : World = record world { shown = put world.shown (world.places c) count } in
      let sound : IsSound now = record { legal = good.sound.legal; durable = good.sound.durable; right = good.sound.right } in
      let here : now.shown (world.places c) ≡ count = put_same world.shown (world.places c) count in
      let fits : Fits trusted now = fit_counted trusted world c request count knows.below right.0 is good.fits in
      record {
        next = answered now c outcome;
        is_good = record {
          sound = sound_answered now c request outcome sound right.0 (allowed_other now c request outcome read.no_done read.given);
          fits = fit_answered trusted now c request outcome sound right.0 fits (λ is_read given. record {
            shows = λ t. read.right t ∙ (ap (λ (i : Image). shown_by i request.head) (sym (image_of_part seen world.stage.order world.stage.setting.image part))
                ∙ ap (λ (n : ℕ). shown_by (image_after world.stage.order n world.stage.setting.image) request.head) (sym here));
            after = λ k connection answer other below told before. let less = knows.after k connection answer other below told before in omega (arith, less, here);
            rising = λ earlier told before. let less = knows.rising earlier told before in
                let same : now.shown earlier ≡ world.shown earlier = put_other world.shown (world.places c) count earlier
                (λ at. no_answer world.log c (world.places c) told.connection told.answer request told.request told.outcome right.0
                (subst (λ (p : ℕ). IsAnswered world.log told.connection p told.request told.answer told.outcome) at told.answered)) in
                omega (arith, less, here, same);
          });
          edits = edits_answered outcome;
        };
        log = refl;
        states = refl;
        stage = refl;
        paired = refl;
        places = refl;
        shown = λ place told. put_other world.shown (world.places c) count place
            (λ at. no_answer world.log c (world.places c) told.connection told.answer request told.request told.outcome right.0
            (subst (λ (p : ℕ). IsAnswered world.log told.connection p told.request told.answer told.outcome) at told.answered));
      }

  by_state : (state : Connection) (seen : List Change) (outcome : Answer) → world.connections c ≡ state → IsPrefix seen world.stage.order → Knows world c (length seen)
      → MayAnswer trusted world.stage.setting.image (world.stage.setting.opening + world.stage.durable) seen state outcome → Answers outcome
  by_state Idle seen outcome is part knows may = absurd may
  by_state Closed seen outcome is part knows may = absurd may
  by_state (Requested request) seen outcome is part knows (inl may) = let right = right_at world c (Requested request) good.sound is in
      subst Answers (sym may.1) (plainly (Refused may.0) request right.0 (allowed_refused world c request may.0 right.1) (λ read given. absurd (given may.0 refl)))
  by_state (Requested request) seen outcome is part knows (inr read) = by_read request seen outcome is read part knows
  by_state (Waiting number) seen outcome is part knows (inl told) = let right = right_at world c (Waiting number) good.sound is in
      subst Answers (sym told.0) (plainly Done right.0 right.1 (allowed_waiting world c number right.0 good.sound told.1 right.2) (λ read given. absurd (due_at trusted world c (Waiting number) good.fits is right.0 right.1.sent read)))
  by_state (Waiting number) seen outcome is part knows (inr fault) = let right = right_at world c (Waiting number) good.sound is in
      subst Answers (sym fault) (plainly (Refused Io) right.0 right.1 (allowed_fault world c right.0) (λ read given. absurd (given Io refl)))
  by_state (Ready due) seen outcome is part knows may =
      let here : world.connections c ≡ Ready Done = is ∙ ap Ready may.0 in
      let right = right_at world c (Ready Done) good.sound here in
      subst Answers (sym may.1) (plainly Done right.0 right.1 (allowed_ready_done world c right) (due_at trusted world c (Ready Done) good.fits here right.0 right.1.sent))

  pub good_answered : (state : Connection) (seen : List Change) (outcome : Answer) → world.connections c ≡ state → IsPrefix seen world.stage.order → Knows world c (length seen)
      → MayAnswer trusted world.stage.setting.image (world.stage.setting.opening + world.stage.durable) seen state outcome → Answers outcome
  good_answered = by_state

-- more commands are durable
pub good_stored : (trusted : Type 0) (world : World) (durable : ℕ) → world.stage.durable ≤ durable → IsGood trusted world → IsGood trusted (record world { stage = record world.stage { durable = durable } })
good_stored trusted world durable more good = record {
  sound = record {
    legal = good.sound.legal;
    durable = λ k below covered. let was = good.sound.durable k below covered in omega (arith, was, more);
    right = good.sound.right;
  };
  fits = record { within = good.fits.within; due = good.fits.due; answered = good.fits.answered; before = good.fits.before };
  edits = good.edits;
}

-- what a good world says
pub reads_fit : (trusted : Type 0) (world : World) → IsGood trusted world → trusted → ReadsFit world.log world.stage.order world.paired world.shown world.stage.setting.image
reads_fit trusted world good t = record {
  shows = λ place is. (good.fits.answered place is).shows t;
  within = good.fits.within;
  after = λ place is k connection answer request below told before. (good.fits.answered place is).after k connection answer request below told before;
  before = good.fits.before;
  rising = λ place later is also before. (good.fits.answered later also).rising place is before;
}

-- an answer that is allowed for one durable number is allowed for a greater one
pub may_more : (trusted : Type 0) (image : Image) (durable more : ℕ) (seen : List Change) (state : Connection) (outcome : Answer) → durable ≤ more → MayAnswer trusted image durable seen state outcome → MayAnswer trusted image more seen state outcome
may_more trusted image durable more seen Idle outcome le may = may
may_more trusted image durable more seen Closed outcome le may = may
may_more trusted image durable more seen (Requested request) outcome le may = may
may_more trusted image durable more seen (Waiting number) outcome le (inl told) = inl (told.0, (let n = told.1 in omega (arith, n, le)))
may_more trusted image durable more seen (Waiting number) outcome le (inr fault) = inr fault
may_more trusted image durable more seen (Ready due) outcome le may = may

-- a world in which nothing has happened, and all connections may speak
abbrev pub quiet : Setting → World
quiet setting = record (fresh setting) { connections = λ connection. Idle }

pub good_quiet : (trusted : Type 0) (setting : Setting) → IsGood trusted (quiet setting)
good_quiet trusted setting = record {
  sound = record {
    legal = (sound_fresh setting).legal;
    durable = (sound_fresh setting).durable;
    right = λ connection place request at. cc;
  };
  fits = record {
    within = λ place. omega arith;
    due = λ connection. tt;
    answered = λ place is. absurd (none is.connection place is.answer is.request is.outcome is.answered);
    before = λ place is k below. absurd (none is.connection place is.answer is.request is.outcome is.answered);
  };
  edits = λ t k command at. cc;
}
  where
    none : (c place answer : ℕ) (request : Message) (outcome : Answer) → IsAnswered [] c place request answer outcome → ⊥
    none c place answer request outcome is = let at = is.sent in cc

pub knows_quiet : (setting : Setting) (by : ℕ) → Knows (quiet setting) by 0
knows_quiet setting by = record {
  placed = omega arith;
  below = omega arith;
  after = λ k connection answer other below told before. absurd (omega (arith, below));
  rising = λ earlier told before. omega arith;
}

-- all that the log of a sound world covers is durable
pub covers_durable : (world : World) → IsSound world → Covers world world.stage.durable
covers_durable world sound place (inl flushed) =
    let found = sound.legal.done flushed.confirmed.connection place flushed.confirmed.answer flushed.confirmed.request flushed.confirmed.answered flushed.confirmed.write in
    (found.0, sound.durable found.0 found.1 (subst (IsCovered world.stage.setting.mode world.log) (sym found.2) (inl flushed)), found.2)
covers_durable world sound place (inr forced) =
    let found = sound.legal.done forced.confirmed.connection place forced.confirmed.answer forced.confirmed.request forced.confirmed.answered forced.confirmed.write in
    (found.0, sound.durable found.0 found.1 (subst (IsCovered world.stage.setting.mode world.log) (sym found.2) (inr forced)), found.2)
