-- How the pieces of a stream join, and what was written for them.
use Rattle.std.proofs.Common.{◌≡◌, ◌≢◌, ◌⊎◌, ℕ, Bool, inl, inr, List, [], ◌∷◌, ◌++◌, Option, Some, None, refl, sym, ap, subst, ◌∙◌, append_assoc, arith, Result, Ok, Err, IfErr, length, length-append, ◌<◌}
use Rattle.std.proofs.lemmas.List.{append-nil, reverse-append, reverse-reverse}
use Rattle.std.specs.Global.{Vec}
use Rattle.std.specs.Prelude.{IsErrAnd, reverse}
use Rattle.std.specs.Io.KnownBytes.{Appends, Consumes, IsAtEnd, Keeps}
use Rattle.nbd_wire.specs.Request.{Message}
use Rattle.nbd_wire.specs.Stream.{Begins, Feeds, FirstRequests, OneReading, Reader, Reads, end_of, failed, in_data, in_discard, in_head, reading, starved}
use Rattle.nbd_wire.specs.declared.error.RequestFault.{RequestFault}
use Rattle.nbd_wire.specs.declared.error.WireFault.{WireFault}
use Rattle.nbd_wire.specs.declared.error.WireFault.TheVariants.{NoMemory, Malformed}
use Rattle.front_end.specs.Refusals.{of_wire}
use Rattle.nbdj_pipe.specs.Refusals.{IsOfSession}
use Rattle.nbdj_pipe.specs.inner.Refusals.{IsEarly}
use Rattle.nbdj_pipe.specs.Talk.{Exchange, asked, dialog}
use Rattle.nbdj_pipe.specs.Pipe.{Conversation, ReadsTo, IsEnd, IsFaulty, IsOpen, IsOrderly, IsPiped, IsServed, IsToDisc, IsWhole}
use Rattle.nbd_wire.specs.Writes.{WritesPart}
use Rattle.nbd_wire.specs.declared.bytes.StreamFault.{StreamFault}
use Rattle.nbdj_pipe.specs.inner.Session.{IsFed, IsTaken, StaysOpen, Takes, TakesOn, IsEndOr, ended_by}
use Rattle.nbdj_pipe.specs.declared.session.Flow.{Flow}
use Rattle.front_end.specs.declared.refusal.Refusal.{Refusal}
use Rattle.front_end.specs.declared.refusal.Refusal.TheVariants.{DeviceFault, PeerClosed, ProtocolEnd}
use Rattle.nbdj_pipe.proofs.Causes.{IsBare}
use Rattle.nbd_wire.specs.laws.Bytes.{appends_none, appends_on, consumes_kept, consumes_none, consumes_on}
use Rattle.nbdj_pipe.proofs.Dialogs.{HaveNoDisc, all_of, asked-append, asked_whole, behind, dialog-append, disc_behind, each_append, nothing, served_all, served_behind, served_cut, served_nothing, whole_all, whole_behind, whole_nothing}

-- what a session does of requests and answers
abbrev Run : Type 1
Run = List Exchange → Option Message → Result (Unit {0}) Refusal → Type 0

-- an early refusal isn't one that tells how the input ended, or of the device
not_closed : (refusal : Refusal) → IsEarly refusal → refusal ≡ PeerClosed → ⊥
not_closed refusal early is = subst IsEarly is early

not_protocol : (refusal : Refusal) → IsEarly refusal → refusal ≡ ProtocolEnd → ⊥
not_protocol refusal early is = subst IsEarly is early

pub not_device : (refusal : Refusal) → IsEarly refusal → refusal ≡ DeviceFault → ⊥
not_device refusal early is = subst IsEarly is early

-- and it is one that a session may end with
of_early : (refusal : Refusal) → IsEarly refusal → IsOfSession refusal
of_early Refusal.NoMemory early = tt
of_early DeviceFault early = tt
of_early Refusal.BadMap early = early
of_early Refusal.NoHeader early = early
of_early Refusal.BadHeader early = early
of_early Refusal.AreaSmall early = early
of_early Refusal.NumbersFull early = tt
of_early Refusal.AreaFull early = early
of_early Refusal.OutOfOrder early = early
of_early Refusal.DamagedGroup early = early
of_early Refusal.NotNow early = early
of_early Refusal.Failed early = tt
of_early Refusal.NoRoom early = early
of_early PeerClosed early = tt
of_early ProtocolEnd early = tt
of_early Refusal.StreamFault early = tt

-- what an outcome that is a refusal of its own says of a piece: nothing
taken_early : (told : Conversation) (reader : Reader) (refusal : Refusal) → IsEarly refusal → IsTaken told reader (Err refusal)
taken_early told reader refusal early = record {
  going = λ e. cc;
  disc = λ e. cc;
  fault = λ e. absurd (not_protocol refusal early (cc));
  closed = λ e. not_closed refusal early (cc);
  device = λ e. not_device refusal early (cc);
  session = of_early refusal early;
}

-- two pieces, one after the other
pub takes-on : (run more_run all_run : Run) → ((first more : List Exchange) (last : Option Message) (outcome : Result (Unit {0}) Refusal) → run first None (Ok tt) → more_run more last outcome → all_run (first ++ more) last outcome)
    → (old between new : Reader) (piece more : List ℕ) (before mid after : List ℕ) (outcome : Result Flow Refusal) → Takes old piece between before mid (Ok Flow.Open) run
    → Takes between more new mid after outcome more_run → Takes old (piece ++ more) new before after outcome all_run
takes-on run more_run all_run join old between new piece more before mid after outcome first second =
    let whole = first.taken.going refl in
    let exchanges = first.told.exchanges in
    let same = asked_whole first.requests first.told first.served whole in
    record {
      requests = asked exchanges ++ second.requests;
      told = behind exchanges second.told;
      reads = λ stream requests reads.
          subst (λ (s : List ℕ). ReadsTo s (requests ++ (asked exchanges ++ second.requests)) new) (append_assoc stream piece more)
          (subst (λ (r : List Message). ReadsTo ((stream ++ piece) ++ more) r new) (append_assoc requests (asked exchanges) second.requests)
          (second.reads (stream ++ piece) (requests ++ asked exchanges)
          (subst (λ (r : List Message). ReadsTo (stream ++ piece) (requests ++ r) between) same (first.reads stream requests reads))));
      due = second.due ∙ ap (λ (t : List ℕ). t ++ second.told.text) (first.due ∙ ap (λ (t : List ℕ). before ++ t) whole.text)
          ∙ append_assoc before (dialog exchanges) second.told.text;
      served = served_behind exchanges second.told second.requests first.served.no_disc second.served;
      taken = record {
        going = λ is. whole_behind exchanges second.told (second.taken.going is);
        disc = λ is. disc_behind exchanges second.told (second.taken.disc is);
        fault = λ is. (whole_behind exchanges second.told (second.taken.fault is).0, (second.taken.fault is).1);
        closed = second.taken.closed;
        device = second.taken.device;
        session = second.taken.session;
      };
      runs = join exchanges second.told.exchanges second.told.last (ended_by outcome) (subst (λ (last : Option Message). run exchanges last (Ok tt)) whole.none first.runs) second.runs;
    }

-- what was read, and what was written for it, as long as nothing ended it
pub record IsGoing (input input_left output output_made : Option (List ℕ)) (reader : Reader) (run : List Exchange → Option Message → Result (Unit {0}) Refusal → Type 0) : Type 0 where
  pub stream : List ℕ
  pub exchanges : List Exchange
  pub read : Consumes input input_left stream
  pub written : Appends output output_made (dialog exchanges)
  pub handed : ReadsTo stream (asked exchanges) reader
  pub is_open : IsOpen reader
  pub no_disc : HaveNoDisc exchanges
  pub runs : run exchanges None (Ok tt)

-- a reader that hands out nothing more for a fault of the stream
faulty_end : (reader : Reader) (fault : RequestFault) → end_of reader ≡ Some (Malformed fault) → IsFaulty reader
faulty_end (reading (in_head bytes)) fault is = cc
faulty_end (reading (in_data head bytes)) fault is = cc
faulty_end (reading (in_discard head missing)) fault is = cc
faulty_end (reading (failed own)) fault is = (own, refl)
faulty_end starved fault is = absurd (apart is)
  where
    apart : (let ends : Option WireFault = Some NoMemory in ends ≡ Some (Malformed fault)) → ⊥
    apart is = cc

-- a call that hands out nothing more, for a fault of the stream or for want of memory
module _ (run : Run) (same : (fault : WireFault) → run [] None (Err (of_wire fault))) (old new : Reader) (piece before : List ℕ) (reads : TakesOn old piece [] new) where
  takes_known_fault : (fault : WireFault) → end_of new ≡ Some fault → Takes old piece new before before (Err (of_wire fault)) run
  takes_known_fault NoMemory is = record {
    requests = [];
    told = nothing;
    reads = reads;
    due = sym (append-nil before);
    served = served_nothing;
    taken = record { going = λ e. cc; disc = λ e. cc; fault = λ e. cc; closed = λ e. cc; device = λ e. cc; session = tt };
    runs = same NoMemory;
  }
  takes_known_fault (Malformed fault) is = record {
    requests = [];
    told = nothing;
    reads = reads;
    due = sym (append-nil before);
    served = served_nothing;
    taken = record { going = λ e. cc; disc = λ e. cc; fault = λ e. (whole_nothing, faulty_end new fault is); closed = λ e. cc; device = λ e. cc; session = tt };
    runs = same (Malformed fault);
  }

  pub takes_fault : (fault : WireFault) (outcome : Result Flow Refusal) → end_of new ≡ Some fault → IsErrAnd outcome (λ refusal. refusal ≡ of_wire fault) → Takes old piece new before before outcome run
  takes_fault fault (Err refusal) is same_refusal =
      subst (λ (r : Refusal). Takes old piece new before before (Err r) run) (sym same_refusal) (takes_known_fault fault is)
  takes_fault fault (Ok flow) is same_refusal = elim same_refusal [ ]

-- what a call of a reader handed out goes after what it had handed out before
pub feeds_on : (old : Reader) (piece : List ℕ) (requests : List Message) (new : Reader) → Feeds old piece requests new → TakesOn old piece requests new
feeds_on (reading old) piece requests (reading new) feeds stream before reads = feeds stream before reads
feeds_on (reading old) piece requests starved (first, rest, between, parts, on) stream before reads = record {
  first = stream ++ first;
  rest = rest;
  kept = between;
  parts = ap (λ (t : List ℕ). stream ++ t) parts ∙ sym (append_assoc stream first rest);
  reads = on stream before reads;
}
feeds_on starved piece requests new (none, still) stream before begun =
    subst (λ (r : Reader). ReadsTo (stream ++ piece) (before ++ requests) r) (sym still)
    (subst (λ (r : List Message). Begins (stream ++ piece) (before ++ r)) (sym none)
    (subst (Begins (stream ++ piece)) (sym (append-nil before)) (record {
      first = begun.first;
      rest = begun.rest ++ piece;
      kept = begun.kept;
      parts = ap (λ (t : List ℕ). t ++ piece) begun.parts ∙ append_assoc begun.first begun.rest piece;
      reads = begun.reads;
    })))

-- a call that handed out requests was of a reader that hadn't ended
still_open : (end : Option WireFault) → ((fault : WireFault) → end ≡ Some fault → ⊥) → end ≡ None
still_open None none = refl
still_open (Some fault) none = absurd (none fault refl)

no_items : (requests : List Message) → requests ≡ [] → 0 < length requests → ⊥
no_items requests is some = omega (arith, ap length is, some)

not_refused : (requests : Vec Message) (fault : WireFault) → (let handed : Result (Vec Message) WireFault = Ok requests in handed ≡ Err fault) → ⊥
not_refused requests fault is = cc

pub fed : (old : Reader) (piece : List ℕ) (new : Reader) (requests : Vec Message) (outcome : Result Flow Refusal) → Feeds old piece requests.items new
    → ((fault : WireFault) → end_of old ≡ Some fault → (let handed : Result (Vec Message) WireFault = Ok requests in handed ≡ Err fault))
    → ((fault : WireFault) → end_of new ≡ Some fault → 0 < length requests.items) → IsFed old piece new outcome
fed old piece new requests outcome feeds again first e = (
  still_open (end_of old) (λ fault ends. not_refused requests fault (again fault ends)),
  requests.items,
  feeds_on old piece requests.items new feeds,
  λ none. still_open (end_of new) (λ fault ends. no_items requests.items none (first fault ends)),
)

-- a list that others follow, which are none
none_behind : (front back : List Message) → length front ≡ length (front ++ back) → back ≡ []
none_behind front [] is = refl
none_behind front (x ∷ back) is = absurd (omega (arith, is, length-append front (x ∷ back)))

-- a reader that is fed nothing hands out nothing, because a stream has one reading
module _ (one : OneReading) (begins : FirstRequests) where
  nothing_more : (mid new : Reader) (stream : List ℕ) (before requests : List Message) → IsOpen mid → ReadsTo stream before mid → ReadsTo (stream ++ []) (before ++ requests) new → requests ≡ []
  nothing_more starved new stream before requests is_open reads more = absurd (ended is_open)
    where
      ended : (let ends : Option WireFault = Some NoMemory in ends ≡ None) → ⊥
      ended is = cc
  nothing_more (reading kept) (reading other) stream before requests is_open reads more =
      none_behind before requests (ap length (one stream before (before ++ requests) kept other reads (subst (λ (s : List ℕ). Reads s (before ++ requests) other) (append-nil stream) more)).0)
  nothing_more (reading kept) starved stream before requests is_open reads more =
      let whole = begins stream (before ++ requests) before kept (subst (λ (s : List ℕ). Begins s (before ++ requests)) (append-nil stream) more) reads in
      none_behind before requests (omega (arith, ap length whole.1, length-append (before ++ requests) whole.0, length-append before requests))

  pub stays_open : (old mid new : Reader) (piece : List ℕ) (first : List Message) (outcome : Result Flow Refusal) → TakesOn old piece first mid → IsFed mid [] new outcome → StaysOpen old new outcome
  stays_open old mid new piece first outcome takes feeds is stream before reads =
      let (is_open, requests, on, none) = feeds is in
      let here = takes stream before reads in
      none (nothing_more mid new (stream ++ piece) (before ++ first) requests is_open here (on (stream ++ piece) (before ++ first) here))

-- the requests were turned round, and some of them were served from the end
module _ (all back left : List Message) (served : List Message) (turned : back ≡ reverse all) (whole : (reverse back) ≡ served ++ (reverse left)) where
  again : all ≡ (reverse back)
  again = (sym (ap reverse turned ∙ reverse-reverse all))

  -- the last of the list is the next
  pub messages_served : (rest : List Message) (request : Message) → left ≡ rest ++ request ∷ [] → (reverse back) ≡ (served ++ request ∷ []) ++ (reverse rest)
  messages_served rest request ends =
      whole ∙ ap (λ (r : List Message). served ++ reverse r) ends
      ∙ ap (λ (r : List Message). served ++ r) (reverse-append rest (request ∷ [])) ∙ sym (append_assoc served (request ∷ []) ((reverse rest)))

  pub messages_next : (rest : List Message) (request : Message) → left ≡ rest ++ request ∷ [] → all ≡ (served ++ request ∷ []) ++ (reverse rest)
  messages_next rest request ends = again ∙ messages_served rest request ends

  pub messages_done : left ≡ [] → all ≡ served ++ []
  messages_done none = again ∙ whole ∙ ap (λ (r : List Message). served ++ reverse r) none

module _ (run : Run) (old new : Reader) (piece : List ℕ) (all : List Message) (exchanges : List Exchange) (reads : TakesOn old piece all new) (none : HaveNoDisc exchanges) where
  -- the last of the requests was answered
  pub takes_all : (before after : List ℕ) → all ≡ asked exchanges ++ [] → after ≡ before ++ dialog exchanges → run exchanges None (Ok tt) → Takes old piece new before after (Ok Flow.Open) run
  takes_all before after same due runs = record {
    requests = asked exchanges;
    told = all_of exchanges;
    reads = subst (λ (r : List Message). TakesOn old piece r new) (same ∙ append-nil (asked exchanges)) reads;
    due = due;
    served = served_all exchanges none;
    taken = record { going = λ e. whole_all exchanges; disc = λ e. cc; fault = λ e. cc; closed = λ e. cc; device = λ e. cc; session = tt };
    runs = runs;
  }

  -- the next one is sent, and has no answer
  module _ (before after : List ℕ) (request : Message) (more : List Message) (same : all ≡ (asked exchanges ++ request ∷ []) ++ more) (due : after ≡ before ++ dialog exchanges) where
    abbrev broken_off : Conversation
    broken_off = record { exchanges = exchanges; unanswered = request ∷ more; last = Some request; text = dialog exchanges }

    is_left : all ≡ asked exchanges ++ request ∷ more
    is_left = same ∙ append_assoc (asked exchanges) (request ∷ []) more

    served_left : IsServed all broken_off
    served_left = record { all = is_left; no_disc = none; first = (more, refl); begins = ([], sym (append-nil (dialog exchanges))) }

    -- it is a DISC
    pub takes_disc : run exchanges (Some request) (Ok tt) → request.head.kind ≡ 2 → Takes old piece new before after (Ok Flow.Ended) run
    takes_disc runs disc = record {
      requests = all;
      told = broken_off;
      reads = reads;
      due = due;
      served = served_left;
      taken = record {
        going = λ e. cc;
        disc = λ e. record { disc = request; more = more; kind = disc; answered = refl; last = refl; text = refl };
        fault = λ e. cc;
        closed = λ e. cc;
        device = λ e. cc;
        session = tt;
      };
      runs = runs;
    }

    -- it couldn't be served
    pub takes_unserved : (refusal : Refusal) → run exchanges (Some request) (Err refusal) → IsEarly refusal → Takes old piece new before after (Err refusal) run
    takes_unserved refusal runs early = record {
      requests = all;
      told = broken_off;
      reads = reads;
      due = due;
      served = served_left;
      taken = taken_early broken_off new refusal early;
      runs = runs;
    }

  -- the next one was answered, and there was no memory for its reply
  pub takes_unwritten : (before after : List ℕ) (exchange : Exchange) (more : List Message) (refusal : Refusal) → all ≡ (asked exchanges ++ exchange.request ∷ []) ++ more → after ≡ before ++ dialog exchanges
      → exchange.request.head.kind ≢ 2 → run (exchanges ++ exchange ∷ []) None (Err refusal) → IsEarly refusal → Takes old piece new before after (Err refusal) run
  takes_unwritten before after exchange more refusal same due kind runs early =
      let answered = exchanges ++ exchange ∷ [] in
      let told : Conversation = record { exchanges = answered; unanswered = more; last = None; text = dialog exchanges } in
      record {
        requests = all;
        told = told;
        reads = reads;
        due = due;
        served = record {
          all = same ∙ ap (λ (r : List Message). r ++ more) (sym (asked-append exchanges (exchange ∷ [])));
          no_disc = each_append (λ (e : Exchange). e.request.head.kind ≢ 2) exchanges (exchange ∷ []) none (kind, tt);
          first = tt;
          begins = (dialog (exchange ∷ []), dialog-append exchanges (exchange ∷ []));
        };
        taken = taken_early told new refusal early;
        runs = runs;
      }

pub as_error : {T : Type 0} (P : Result T Refusal → Type 0) (refusal : Refusal) (outcome : Result T Refusal) → IsErrAnd outcome (λ r. r ≡ refusal) → P (Err refusal) → P outcome
as_error P refusal (Err other) is holds = subst (λ (r : Refusal). P (Err r)) (sym is) holds
as_error P refusal (Ok value) is holds = elim is [ ]

pub err_no_end : (P : Refusal → Type 0) (outcome : Result (Unit {0}) Refusal) (refusal : Refusal) → IsErrAnd outcome (λ r. r ≡ refusal) → P refusal → IsErrAnd outcome P
err_no_end P (Err other) refusal same no_end = subst P (sym same) no_end
err_no_end P (Ok done) refusal same no_end = elim same [ ]

-- an early refusal that a run shows nothing of
abbrev pub IsUnshown : Refusal → Type 0
IsUnshown refusal = IsEarly refusal × IsBare refusal

pub unshown_memory : IsUnshown Refusal.NoMemory
unshown_memory = (tt, λ first last. tt)

pub unshown_stream : IsUnshown Refusal.StreamFault
unshown_stream = (tt, λ first last. tt)

-- a run may have ended with a refusal that it shows nothing of
abbrev EndsBare : Run → Type 0
EndsBare run = (exchanges : List Exchange) (last : Option Message) (outcome : Result (Unit {0}) Refusal) (refusal : Refusal) → IsBare refusal → run exchanges last outcome → run exchanges last (Err refusal)

-- ---- from the start of a session to its end

-- a refusal that says nothing of the input
end_early : (told : Conversation) (reader : Reader) (left : Option (List ℕ)) (refusal : Refusal) → IsEarly refusal → IsEnd told reader left (Err refusal)
end_early told reader left refusal early = record {
  disc = tt;
  closed = λ e. absurd (not_closed refusal early cc);
  fault = λ e. absurd (not_protocol refusal early cc);
  device = λ e. absurd (not_device refusal early cc);
  session = of_early refusal early;
}

pub going_first : (run : Run) (input output : Option (List ℕ)) → run [] None (Ok tt) → IsGoing input input output output (reading (in_head [])) run
going_first run input output none = record {
  stream = [];
  exchanges = [];
  read = consumes_none input;
  written = appends_none output;
  handed = (omega arith, refl);
  is_open = refl;
  no_disc = tt;
  runs = none;
}

module _ (run : Run) (bare : EndsBare run) (input mid output made : Option (List ℕ)) (reader : Reader) (going : IsGoing input mid output made reader run) where
  -- it ended with a refusal that says nothing of the input
  pub stopped : (left : Option (List ℕ)) (outcome : Result (Unit {0}) Refusal) → Keeps mid left → IsErrAnd outcome IsUnshown → IsPiped input left output made outcome run
  stopped left (Ok done) none no_end = elim no_end [ ]
  stopped left (Err refusal) none no_end = record {
    stream = going.stream;
    requests = asked going.exchanges;
    reader = reader;
    told = all_of going.exchanges;
    read = consumes_kept input mid left going.stream going.read none;
    handed = going.handed;
    written = going.written;
    served = served_all going.exchanges going.no_disc;
    end = end_early (all_of going.exchanges) reader left refusal no_end.0;
    runs = bare going.exchanges None (Ok tt) refusal no_end.1 going.runs;
  }

  -- the input ended
  pub closed : (left : Option (List ℕ)) → Consumes mid left [] → IsAtEnd left → IsPiped input left output made (Err PeerClosed) run
  closed left none at_end = record {
    stream = going.stream ++ [];
    requests = asked going.exchanges;
    reader = reader;
    told = all_of going.exchanges;
    read = consumes_on input mid left going.stream [] going.read none;
    handed = subst (λ (s : List ℕ). ReadsTo s (asked going.exchanges) reader) (sym (append-nil going.stream)) going.handed;
    written = going.written;
    served = served_all going.exchanges going.no_disc;
    end = record { disc = tt; closed = λ e. (whole_all going.exchanges, at_end, going.is_open); fault = λ e. cc; device = λ e. cc; session = tt };
    runs = bare going.exchanges None (Ok tt) PeerClosed (λ first last. tt) going.runs;
  }

  -- a piece was read, and what it came to was answered
  module _ (more_run all_run : Run) (join : (first more : List Exchange) (last : Option Message) (outcome : Result (Unit {0}) Refusal) → run first None (Ok tt) → more_run more last outcome → all_run (first ++ more) last outcome)
      (all_bare : EndsBare all_run) where
    module _ (left made_on : Option (List ℕ)) (piece due : List ℕ) (new : Reader) (outcome : Result Flow Refusal) (read : Consumes mid left piece) (takes : Takes reader piece new [] due outcome more_run) where
      abbrev exchanges : List Exchange
      exchanges = going.exchanges

      abbrev told : Conversation
      told = behind exchanges takes.told

      handed : ReadsTo (going.stream ++ piece) (asked exchanges ++ takes.requests) new
      handed = takes.reads going.stream (asked exchanges) going.handed

      consumed : Consumes input left (going.stream ++ piece)
      consumed = consumes_on input mid left going.stream piece going.read read

      served : IsServed (asked exchanges ++ takes.requests) told
      served = served_behind exchanges takes.told takes.requests going.no_disc takes.served

      ran : all_run told.exchanges told.last (ended_by outcome)
      ran = join exchanges takes.told.exchanges takes.told.last (ended_by outcome) going.runs takes.runs

      -- not all of the answers could be written
      pub cut : (fault : StreamFault) (end : Result (Unit {0}) Refusal) → WritesPart made made_on due (Err fault) → IsErrAnd end IsUnshown → IsPiped input left output made_on end all_run
      cut fault (Ok done) part no_end = elim no_end [ ]
      cut fault (Err other) (first, rest, parts, writes) no_end =
          let text = dialog exchanges ++ first in
          record {
            stream = going.stream ++ piece;
            requests = asked exchanges ++ takes.requests;
            reader = new;
            told = record told { text = text };
            read = consumed;
            handed = handed;
            written = appends_on output made made_on (dialog exchanges) first going.written writes;
            served = served_cut (asked exchanges ++ takes.requests) told text rest
                (ap (λ (t : List ℕ). dialog exchanges ++ t) (sym takes.due ∙ parts) ∙ sym (append_assoc (dialog exchanges) first rest)) served;
            end = end_early (record told { text = text }) new left other no_end.0;
            runs = all_bare told.exchanges told.last (ended_by outcome) other no_end.1 ran;
          }

      module _ (writes : Appends made made_on due) where
        wrote : Appends output made_on told.text
        wrote = subst (λ (t : List ℕ). Appends output made_on (dialog exchanges ++ t)) takes.due (appends_on output made made_on (dialog exchanges) due going.written writes)

        ran_as : (own is : Result Flow Refusal) → own ≡ is → all_run told.exchanges told.last (ended_by own) → all_run told.exchanges told.last (ended_by is)
        ran_as own is same = subst (λ (o : Result Flow Refusal). all_run told.exchanges told.last (ended_by o)) same

        pub goes_on : outcome ≡ Ok Flow.Open → StaysOpen reader new outcome → IsGoing input left output made_on new all_run
        goes_on is stays =
            let whole = takes.taken.going is in
            record {
              stream = going.stream ++ piece;
              exchanges = told.exchanges;
              read = consumed;
              written = subst (Appends output made_on) (whole_behind exchanges takes.told whole).text wrote;
              handed = subst (λ (r : List Message). ReadsTo (going.stream ++ piece) r new) (asked_whole (asked exchanges ++ takes.requests) told served (whole_behind exchanges takes.told whole)) handed;
              is_open = stays is going.stream (asked exchanges) going.handed;
              no_disc = served.no_disc;
              runs = subst (λ (last : Option Message). all_run told.exchanges last (Ok tt)) whole.none (ran_as outcome (Ok Flow.Open) is ran);
            }

        pub ended : outcome ≡ Ok Flow.Ended → IsPiped input left output made_on (Ok tt) all_run
        ended is = record {
          stream = going.stream ++ piece;
          requests = asked exchanges ++ takes.requests;
          reader = new;
          told = told;
          read = consumed;
          handed = handed;
          written = wrote;
          served = served;
          end = record { disc = disc_behind exchanges takes.told (takes.taken.disc is); closed = λ e. cc; fault = λ e. cc; device = λ e. cc; session = tt };
          runs = ran_as outcome (Ok Flow.Ended) is ran;
        }

        pub refused : (refusal : Refusal) (end : Result (Unit {0}) Refusal) → outcome ≡ Err refusal → IsErrAnd end (λ r. r ≡ refusal) → IsPiped input left output made_on end all_run
        refused refusal (Ok done) was is = elim is [ ]
        refused refusal (Err other) was is = record {
          stream = going.stream ++ piece;
          requests = asked exchanges ++ takes.requests;
          reader = new;
          told = told;
          read = consumed;
          handed = handed;
          written = wrote;
          served = served;
          end = record {
            disc = tt;
            closed = λ e. absurd (takes.taken.closed cc);
            fault = λ e. (whole_behind exchanges takes.told (takes.taken.fault cc).0, (takes.taken.fault cc).1);
            device = λ e. absurd (takes.taken.device cc);
            session = subst IsOfSession (sym is) (subst (λ (r : Result Flow Refusal). IfErr r IsOfSession) was takes.taken.session);
          };
          runs = subst (λ (r : Refusal). all_run told.exchanges told.last (Err r)) (sym is) (ran_as outcome (Err refusal) was ran);
        }

module _ (input left output made : Option (List ℕ)) (run : Run) where
  orderly : (end : Result (Unit {0}) Refusal) (piped : IsPiped input left output made end run) → IsOrderly end
      → IsToDisc piped.told ⊎ (IsWhole piped.told × ((IsAtEnd left × IsOpen piped.reader) ⊎ IsFaulty piped.reader))
  orderly (Ok done) piped is = inl piped.end.disc
  orderly (Err refusal) piped (inl is) = let (whole, at_end, is_open) = piped.end.closed (ap Err is) in inr (whole, inl (at_end, is_open))
  orderly (Err refusal) piped (inr fault) = let ended = piped.end.fault (ap Err fault) in inr (ended.0, inr ended.1)

-- what comes after the end of the input may refuse it, and changes nothing that was written
module _ (input left output made : Option (List ℕ)) (run later : Run) (end outcome : Result (Unit {0}) Refusal)
    (on : (exchanges : List Exchange) (last : Option Message) → run exchanges last end → later exchanges last outcome) where
  piped_as : (piped : IsPiped input left output made end run) → IsEnd piped.told piped.reader left outcome → IsPiped input left output made outcome later
  piped_as piped is = record {
    stream = piped.stream;
    requests = piped.requests;
    reader = piped.reader;
    told = piped.told;
    read = piped.read;
    handed = piped.handed;
    written = piped.written;
    served = piped.served;
    end = is;
    runs = on piped.told.exchanges piped.told.last piped.runs;
  }

  pub piped_or : (stopped : Bool) → IsPiped input left output made end run → IsEndOr end outcome stopped → IsPiped input left output made outcome later
  piped_or stopped piped (inl same) =
      piped_as piped (subst (IsEnd piped.told piped.reader left) (sym same) piped.end)
  piped_or stopped piped (inr (inl (refusal, early, is))) = piped_as piped
      (subst (IsEnd piped.told piped.reader left) (sym is) (end_early piped.told piped.reader left refusal early))
  piped_or stopped piped (inr (inr (is_orderly, is, has_stopped))) = piped_as piped
      (subst (IsEnd piped.told piped.reader left) (sym is) (record {
        disc = tt;
        closed = λ e. cc;
        fault = λ e. cc;
        device = λ e. orderly input left output made run end piped is_orderly;
        session = tt;
      }))
