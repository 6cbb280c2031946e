-- Readings of a stream: how one goes on, and that there is only one.
use Rattle.std.proofs.Common.{◌≡◌, ◌≢◌, ℕ, ◌-◌, ◌+◌, ◌<◌, ◌≤◌, ◌⊎◌, inl, inr, false, leb, cond, List, [], ◌∷◌, ◌++◌, length, take, refl, sym, ap, subst, ◌∙◌, append_assoc, length-append, arith}
use Rattle.std.specs.Prelude.{Option, Some, None}
use Rattle.std.proofs.lemmas.Bool.{le-leb, lt-leb, cond-true}
use Rattle.std.proofs.lemmas.List.{append-nil}
use Rattle.nbd_wire.specs.declared.error.RequestFault.{RequestFault}
use Rattle.nbd_wire.specs.declared.error.RequestFault.TheVariants.{BadMagic, TooLong}
use Rattle.nbd_wire.specs.declared.head.RequestHead.{RequestHead}
use Rattle.nbd_wire.specs.declared.stream.State.{State}
use Rattle.nbd_wire.specs.declared.stream.State.TheVariants.{Head, Data, Discard, Failed}
use Rattle.nbd_wire.specs.Head.{request_magic, head_bytes, IsHead}
use Rattle.nbd_wire.specs.Request.{write_type, payload_limit, stream_limit, Message, data_len, IsRequest}
use Rattle.nbd_wire.specs.Stream.{Kept, in_head, in_data, in_discard, failed, Reader, reading, starved, fresh, Keeps, Reads, Begins, Feeds, Fed, IsRun, all_bytes, all_requests}
use Rattle.nbd_wire.specs.State.{kept}
use Rattle.nbd_wire.specs.inner.State.{found, Advances, AdvancesTo}
use Rattle.nbd_wire.specs.laws.Heads.{length-head_bytes, take-head_bytes, one_head_lem}
use Rattle.nbd_wire.specs.laws.Requests.{same_front, one_request_lem, data_len_write}

-- ---- going on

pub Reads-then : (stream piece : List ℕ) (ms ns : List Message) (old new : Kept) → Reads stream ms old → Advances old piece ns new → Reads (stream ++ piece) (ms ++ ns) new
Reads-then stream piece [] ns old new reads on = on stream reads
Reads-then stream piece (m ∷ ms) ns old new reads on = (
  reads.0,
  reads.1 ++ piece,
  reads.2,
  ap (λ (t : List ℕ). t ++ piece) reads.3 ∙ append_assoc reads.0 reads.1 piece,
  Reads-then reads.1 piece ms ns old new reads.4 on,
)

pub Advances-then : (first second : List ℕ) (ms ns : List Message) (old between new : Kept) → Advances old first ms between → Advances between second ns new → Advances old (first ++ second) (ms ++ ns) new
Advances-then first second ms ns old between new one two text keeps =
    subst (λ (t : List ℕ). Reads t (ms ++ ns) new) (append_assoc text first second)
    (Reads-then (text ++ first) second ms ns between new (one text keeps) two)

-- a reader that reads a piece bit by bit: what is after is still to be read
pub record Step (piece behind : List ℕ) (old new : Kept) (requests : List Message) : Type 0 where
  pub taken : List ℕ
  pub parts : piece ≡ taken ++ behind
  pub reads : Advances old taken requests new

pub Step-none : (piece rest front behind : List ℕ) (old between new : Kept) (requests : List Message) (next : Option Message) → Step piece rest old between requests
    → rest ≡ front ++ behind → Advances between front (found next) new → next ≡ None → Step piece behind old new requests
Step-none piece rest front behind old between new requests next step same two none = record {
  taken = step.taken ++ front;
  parts = step.parts ∙ ap (λ (t : List ℕ). step.taken ++ t) same ∙ sym (append_assoc step.taken front behind);
  reads = subst (λ (ms : List Message). Advances old (step.taken ++ front) ms new) (ap (λ (o : Option Message). requests ++ found o) none ∙ append-nil requests)
      (Advances-then step.taken front requests (found next) old between new step.reads two);
}

pub Step-some : (piece rest front behind : List ℕ) (old between new : Kept) (requests more : List Message) (next : Option Message) (request : Message) → Step piece rest old between requests
    → rest ≡ front ++ behind → Advances between front (found next) new → next ≡ Some request → more ≡ requests ++ request ∷ [] → Step piece behind old new more
Step-some piece rest front behind old between new requests more next request step same two some pushed = record {
  taken = step.taken ++ front;
  parts = step.parts ∙ ap (λ (t : List ℕ). step.taken ++ t) same ∙ sym (append_assoc step.taken front behind);
  reads = subst (λ (ms : List Message). Advances old (step.taken ++ front) ms new)
      (ap (λ (o : Option Message). requests ++ found o) some ∙ sym pushed)
      (Advances-then step.taken front requests (found next) old between new step.reads two);
}

-- memory runs out, and the requests stay as they were
pub Step-starved : (piece behind : List ℕ) (old between : Kept) (requests same : List Message) → Step piece behind old between requests → same ≡ requests → AdvancesTo old piece same starved
Step-starved piece behind old between requests same step equal =
    (step.taken, behind, between, step.parts, subst (λ (r : List Message). Advances old step.taken r between) (sym equal) step.reads)

pub state_failed : (state : State) (fault : RequestFault) → kept state ≡ failed fault → state ≡ Failed fault
state_failed (Head bytes count) fault same = cc
state_failed (Data head bytes) fault same = cc
state_failed (Discard head missing) fault same = cc
state_failed (Failed other) fault same = cc

-- what a reader is fed, from what its state comes to
pub Feeds-advances : (old : Kept) (piece : List ℕ) (requests : List Message) (new : Reader) → AdvancesTo old piece requests new → Feeds (reading old) piece requests new
Feeds-advances old piece requests (reading new) on = λ stream before reads. Reads-then stream piece before requests old new reads on
Feeds-advances old piece requests starved on =
    (on.0, on.1, on.2, on.3, λ stream before reads. Reads-then stream on.0 before requests old on.2 reads on.4)

-- one whole request
pub reads_one : (text : List ℕ) (request : Message) (kept : Kept) → IsRequest text request → kept ≡ in_head [] → Reads text (request ∷ []) kept
reads_one text request kept whole start =
    (text, [], whole, sym (append-nil text), subst (λ (k : Kept). Keeps k []) (sym start) (omega arith, refl))

-- ---- one reading

-- what is kept of a WRITE
abbrev kept_write : RequestHead → List ℕ → Kept
kept_write head sent = cond (leb head.length payload_limit) (in_data head sent) (cond (leb head.length stream_limit) (in_discard head (head.length - length sent)) (failed TooLong))

-- a text that is no whole request, by its front
data Front : List ℕ → Kept → Type 0 where
  short : {text : List ℕ} {kept : Kept} → length text < 28 → kept ≡ in_head text → Front text kept
  foreign : {text : List ℕ} {kept : Kept} → 28 ≤ length text → take 4 text ≢ request_magic → kept ≡ failed BadMagic → Front text kept
  write : {text : List ℕ} {kept : Kept} (head : RequestHead) (sent : List ℕ) → IsHead head → head.kind ≡ write_type → text ≡ head_bytes head ++ sent
      → (stream_limit < head.length) ⊎ (length sent < head.length) → kept ≡ kept_write head sent → Front text kept

front_of : (text : List ℕ) (kept : Kept) → Keeps kept text → Front text kept
front_of text (in_head bytes) k = short (rw k.1 k.0) (ap in_head (sym k.1))
front_of text (in_data head bytes) k =
    write head bytes k.0.0 k.0.1 k.2 (inr k.1) (sym (cond-true (leb head.length payload_limit) (in_data head bytes) _ (le-leb _ _ k.0.2)))
front_of text (in_discard head missing) k =
    let long = lt-leb head.length payload_limit k.0.2 in
    let within = le-leb head.length stream_limit k.0.3 in
    let less : length k.1 < head.length = omega (arith, k.2, k.3) in
    let rest : head.length - length k.1 ≡ missing = omega (arith, k.3) in
    write head k.1 k.0.0 k.0.1 k.4 (inr less) (rw (long, within, rest) refl)
front_of text (failed BadMagic) k = foreign k.0 k.1 refl
front_of text (failed TooLong) k =
    let long : leb k.0.length payload_limit ≡ false = lt-leb k.0.length payload_limit (omega (arith, k.4)) in
    let beyond : leb k.0.length stream_limit ≡ false = lt-leb k.0.length stream_limit k.4 in
    write k.0 k.1 k.2 k.3 k.5 (inl k.4) (rw (long, beyond) refl)

head_is_long : (text : List ℕ) (head : RequestHead) (sent : List ℕ) → text ≡ head_bytes head ++ sent → 28 ≤ length text
head_is_long text head sent same = omega (arith, ap length same, length-append (head_bytes head) sent, length-head_bytes head)

head_has_magic : (text : List ℕ) (head : RequestHead) (sent : List ℕ) → text ≡ head_bytes head ++ sent → take 4 text ≡ request_magic
head_has_magic text head sent same = ap (take 4) same ∙ take-head_bytes head sent

one_front : (text : List ℕ) (kept other : Kept) → Front text kept → Front text other → kept ≡ other
one_front text kept other (short p e) (short q f) = e ∙ sym f
one_front text kept other (short p e) (foreign q _ f) = absurd (omega arith)
one_front text kept other (short p e) (write head sent _ _ same _ f) = absurd (omega (arith, head_is_long text head sent same))
one_front text kept other (foreign p _ e) (short q f) = absurd (omega arith)
one_front text kept other (foreign p m e) (foreign q n f) = e ∙ sym f
one_front text kept other (foreign p m e) (write head sent _ _ same _ f) = absurd (m (head_has_magic text head sent same))
one_front text kept other (write head sent _ _ same _ e) (short q f) = absurd (omega (arith, head_is_long text head sent same))
one_front text kept other (write head sent _ _ same _ e) (foreign q m f) = absurd (m (head_has_magic text head sent same))
one_front text kept other (write head sent fits _ same _ e) (write head' sent' fits' _ same' _ f) =
    let both = one_head_lem head head' sent sent' fits fits' (sym same ∙ same') in
    let writes : kept_write head sent ≡ kept_write head' sent' = λ i. kept_write (both.0 i) (both.1 i) in
    e ∙ writes ∙ sym f

-- no request stands where none is whole
front_is_no_request : (stream text rest : List ℕ) (request : Message) (kept : Kept) → Front stream kept → IsRequest text request → stream ≡ text ++ rest → ⊥
front_is_no_request stream text rest request kept (short p _) whole same =
    let head : stream ≡ head_bytes request.head ++ (whole.sent ++ rest) = same ∙ ap (λ (t : List ℕ). t ++ rest) whole.whole ∙ append_assoc (head_bytes request.head) whole.sent rest in
    omega (arith, head_is_long stream request.head (whole.sent ++ rest) head)
front_is_no_request stream text rest request kept (foreign _ m _) whole same =
    let head : stream ≡ head_bytes request.head ++ (whole.sent ++ rest) = same ∙ ap (λ (t : List ℕ). t ++ rest) whole.whole ∙ append_assoc (head_bytes request.head) whole.sent rest in
    m (head_has_magic stream request.head (whole.sent ++ rest) head)
front_is_no_request stream text rest request kept (write head sent fits is_write begins more _) whole same =
    let front : stream ≡ head_bytes request.head ++ (whole.sent ++ rest) = same ∙ ap (λ (t : List ℕ). t ++ rest) whole.whole ∙ append_assoc (head_bytes request.head) whole.sent rest in
    let both = one_head_lem head request.head sent (whole.sent ++ rest) fits whole.fits (sym begins ∙ front) in
    let data_is : data_len request.head ≡ head.length = sym (ap data_len both.0) ∙ data_len_write head is_write in
    elim more [
      | inl long ↦ omega (arith, long, data_is, whole.bound)
      | inr less ↦ omega (arith, less, data_is, whole.len, ap length both.1, length-append whole.sent rest)
    ]

pub no_request_lem : (text rest : List ℕ) (request : Message) (kept : Kept) → IsRequest text request → Keeps kept (text ++ rest) → ⊥
no_request_lem text rest request kept whole keeps = front_is_no_request (text ++ rest) text rest request kept (front_of (text ++ rest) kept keeps) whole refl

pub one_reading_lem : (stream : List ℕ) (requests others : List Message) (kept other : Kept) → Reads stream requests kept
    → Reads stream others other → (requests ≡ others) × (kept ≡ other)
one_reading_lem stream [] [] kept other r s = (refl, one_front stream kept other (front_of stream kept r) (front_of stream other s))
one_reading_lem stream [] (n ∷ ns) kept other r s = absurd (front_is_no_request stream s.0 s.1 n kept (front_of stream kept r) s.2 s.3)
one_reading_lem stream (m ∷ ms) [] kept other r s = absurd (front_is_no_request stream r.0 r.1 m other (front_of stream other s) r.2 r.3)
one_reading_lem stream (m ∷ ms) (n ∷ ns) kept other r s =
    let first = one_request_lem r.0 s.0 r.1 s.1 m n r.2 s.2 (sym r.3 ∙ s.3) in
    let rests = same_front r.0 s.0 r.1 s.1 (ap length first.0) (sym r.3 ∙ s.3) in
    let others = one_reading_lem r.1 ms ns kept other r.4 (subst (λ (t : List ℕ). Reads t ns other) (sym rests.1) s.4) in
    ((λ i. first.1 i ∷ others.0 i), others.1)

-- the requests of a first part of a stream begin those of all of it
first_requests : (first rest : List ℕ) (some all : List Message) (between kept : Kept) → Reads first some between → Reads (first ++ rest) all kept
    → (more : List Message) × (all ≡ some ++ more)
first_requests first rest [] all between kept r s = (all, refl)
first_requests first rest (m ∷ ms) [] between kept r s =
    absurd (front_is_no_request (first ++ rest) r.0 (r.1 ++ rest) m kept (front_of (first ++ rest) kept s) r.2
    (ap (λ (t : List ℕ). t ++ rest) r.3 ∙ append_assoc r.0 r.1 rest))
first_requests first rest (m ∷ ms) (n ∷ ns) between kept r s =
    let whole : r.0 ++ (r.1 ++ rest) ≡ s.0 ++ s.1 = sym (append_assoc r.0 r.1 rest) ∙ ap (λ (t : List ℕ). t ++ rest) (sym r.3) ∙ s.3 in
    let front = one_request_lem r.0 s.0 (r.1 ++ rest) s.1 m n r.2 s.2 whole in
    let behind = same_front r.0 s.0 (r.1 ++ rest) s.1 (ap length front.0) whole in
    let more = first_requests r.1 rest ms ns between kept r.4 (subst (λ (t : List ℕ). Reads t ns kept) (sym behind.1) s.4) in
    (more.0, λ i. sym front.1 i ∷ more.1 i)

pub first_requests_lem : (stream : List ℕ) (some all : List Message) (kept : Kept) → Begins stream some → Reads stream all kept
    → (more : List Message) × (all ≡ some ++ more)
first_requests_lem stream some all kept begins reads =
    first_requests begins.first begins.rest some all begins.kept kept begins.reads (subst (λ (t : List ℕ). Reads t all kept) begins.parts reads)

-- ---- runs

Run-starved : (feeds : List Fed) (kept : Kept) → IsRun starved feeds (reading kept) → ⊥
Run-starved [] kept run = cc
Run-starved (fed ∷ feeds) kept run =
    Run-starved feeds kept (subst (λ (r : Reader). IsRun r feeds (reading kept)) run.1.1 run.2)

-- memory ran out: the requests stay the same
Run-none : (feeds : List Fed) (new : Reader) → IsRun starved feeds new → all_requests feeds ≡ []
Run-none [] new run = refl
Run-none (fed ∷ feeds) new run =
    ap (λ (ms : List Message). ms ++ all_requests feeds) run.1.0
    ∙ Run-none feeds new (subst (λ (r : Reader). IsRun r feeds new) run.1.1 run.2)

Run-reads : (stream : List ℕ) (before : List Message) (old new : Kept) (feeds : List Fed) → Reads stream before old → IsRun (reading old) feeds (reading new)
    → Reads (stream ++ all_bytes feeds) (before ++ all_requests feeds) new
Run-reads stream before old new [] reads run =
    let same : old ≡ new = cc in
    subst (λ (t : List ℕ). Reads t (before ++ []) new) (sym (append-nil stream))
    (subst (λ (ms : List Message). Reads stream ms new) (sym (append-nil before)) (subst (λ (k : Kept). Reads stream before k) same reads))
Run-reads stream before old new (fed ∷ feeds) reads run =
    elim run.0 as (λ between. Feeds (reading old) fed.piece fed.requests between → IsRun between feeds (reading new)
    → Reads (stream ++ (fed.piece ++ all_bytes feeds)) (before ++ (fed.requests ++ all_requests feeds)) new) [
      | reading kept ↦ λ one two.
          subst (λ (t : List ℕ). Reads t (before ++ (fed.requests ++ all_requests feeds)) new) (append_assoc stream fed.piece (all_bytes feeds))
          (subst (λ (ms : List Message). Reads ((stream ++ fed.piece) ++ all_bytes feeds) ms new) (append_assoc before fed.requests (all_requests feeds))
          (Run-reads (stream ++ fed.piece) (before ++ fed.requests) kept new feeds (one stream before reads) two))
      | starved ↦ λ one two. absurd (Run-starved feeds new two)
    ] run.1 run.2

pub whole_stream_lem : (feeds : List Fed) (kept : Kept) → IsRun fresh feeds (reading kept) → Reads (all_bytes feeds) (all_requests feeds) kept
whole_stream_lem feeds kept run = Run-reads [] [] (in_head []) kept feeds (omega arith, refl) run

-- a stream goes on after its first requests
Begins-same : (stream other : List ℕ) (requests others : List Message) → stream ≡ other → requests ≡ others → Begins stream requests → Begins other others
Begins-same stream other requests others p q begins =
    record { first = begins.first; rest = begins.rest; kept = begins.kept; parts = sym p ∙ begins.parts; reads = subst (λ (ms : List Message). Reads begins.first ms begins.kept) q begins.reads }

Run-begins : (stream : List ℕ) (before : List Message) (old : Kept) (feeds : List Fed) → Reads stream before old → IsRun (reading old) feeds starved
    → Begins (stream ++ all_bytes feeds) (before ++ all_requests feeds)
Run-begins stream before old [] reads run = cc
Run-begins stream before old (fed ∷ feeds) reads run =
    elim run.0 as (λ between. Feeds (reading old) fed.piece fed.requests between → IsRun between feeds starved
    → Begins (stream ++ (fed.piece ++ all_bytes feeds)) (before ++ (fed.requests ++ all_requests feeds))) [
      | reading kept ↦ λ one two.
          Begins-same _ _ _ _ (append_assoc stream fed.piece (all_bytes feeds)) (append_assoc before fed.requests (all_requests feeds))
          (Run-begins (stream ++ fed.piece) (before ++ fed.requests) kept feeds (one stream before reads) two)
      | starved ↦ λ one two.
          let parts : stream ++ (fed.piece ++ all_bytes feeds) ≡ (stream ++ one.0) ++ (one.1 ++ all_bytes feeds) =
          ap (λ (t : List ℕ). stream ++ (t ++ all_bytes feeds)) one.3
          ∙ ap (λ (t : List ℕ). stream ++ t) (append_assoc one.0 one.1 (all_bytes feeds))
          ∙ sym (append_assoc stream one.0 (one.1 ++ all_bytes feeds)) in
          let none : before ++ fed.requests ≡ before ++ (fed.requests ++ all_requests feeds) =
          ap (λ (ms : List Message). before ++ ms) (sym (ap (λ (ms : List Message). fed.requests ++ ms) (Run-none feeds starved two) ∙ append-nil fed.requests)) in
          record { first = stream ++ one.0; rest = one.1 ++ all_bytes feeds; kept = one.2; parts = parts; reads = subst (λ (ms : List Message). Reads (stream ++ one.0) ms one.2) none (one.4 stream before reads) }
    ] run.1 run.2

pub first_of_stream_lem : (feeds : List Fed) → IsRun fresh feeds starved → Begins (all_bytes feeds) (all_requests feeds)
first_of_stream_lem feeds run = Run-begins [] [] (in_head []) feeds (omega arith, refl) run

pub any_pieces_lem : (feeds others : List Fed) (kept other : Kept) → IsRun fresh feeds (reading kept) → IsRun fresh others (reading other)
    → all_bytes feeds ≡ all_bytes others → (all_requests feeds ≡ all_requests others) × (kept ≡ other)
any_pieces_lem feeds others kept other run other_run same =
    one_reading_lem (all_bytes others) (all_requests feeds) (all_requests others) kept other
    (subst (λ (t : List ℕ). Reads t (all_requests feeds) kept) same (whole_stream_lem feeds kept run)) (whole_stream_lem others other other_run)
