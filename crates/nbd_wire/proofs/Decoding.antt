-- What a client reads in a reply is one answer, and it is the one that was written.
use Rattle.std.proofs.Common.{◌≡◌, ◌≢◌, ℕ, ◌+◌, ◌<◌, ◌≤◌, ◌^◌, Bool, true, false, inl, inr, List, [], ◌∷◌, ◌++◌, length, take, drop, refl, sym, ap, subst, ◌∙◌, length-append, length-take, length-drop, arith, lit<}
use Rattle.std.specs.Prelude.{◌==◌, ◌&&◌, ◌||◌, not, if◌then◌else◌, replicate}
use Rattle.std.specs.Int.{w32, to_be_bytes, from_be_bytes}
use Rattle.std.specs.List.{AllByRecursion, flat_map}
use Rattle.std.proofs.lemmas.Bool.{eq-eqb, ne_eqb, cond-true, cond-false}
use Rattle.std.proofs.lemmas.List.{append-nil, take-append-drop}
use Rattle.std.proofs.lemmas.Nat.{from_be_bytes-to_be_bytes_4}
use Rattle.nbd_wire.specs.declared.error.Errno.{Errno}
use Rattle.nbd_wire.specs.declared.error.Errno.TheVariants.{Io, NoMemory, Invalid, NoSpace}
use Rattle.nbd_wire.specs.declared.head.RequestHead.{RequestHead}
use Rattle.nbd_wire.specs.declared.message.Answer.{Answer}
use Rattle.nbd_wire.specs.declared.message.Answer.TheVariants.{Done, Refused, Bytes, States}
use Rattle.nbd_wire.specs.declared.message.Run.{Run}
use Rattle.nbd_wire.specs.declared.message.SessionFlags.{SessionFlags}
use Rattle.nbd_wire.specs.Answer.{BytesRead, PartsBytes, one_run}
use Rattle.nbd_wire.specs.Errno.{errno_number}
use Rattle.nbd_wire.specs.Head.{simple_reply}
use Rattle.nbd_wire.specs.Chunk.{Chunk, offset_data, offset_hole, block_status, error, chunks_bytes, run_bytes}
use Rattle.nbd_wire.specs.Reply.{IsAnswerTo, chunks_of, is_chunked, part_chunk, part_chunks, reply_text, simple_text}
use Rattle.nbd_wire.specs.Decoded.{AnswersRequest, Decodes, DecodesIn, FitsChunk, TellsAnswer, TellsBytes, TellsSimply, told}
use Rattle.nbd_wire.proofs.Appends.{length-runs}
use Rattle.nbd_wire.proofs.Chunks.{same_chunks, same_front}

-- ---- one answer

same_errno : (a b : Errno) → errno_number a ≡ errno_number b → a ≡ b
same_errno Io Io same = refl
same_errno Io NoMemory same = absurd (omega (arith, same))
same_errno Io Invalid same = absurd (omega (arith, same))
same_errno Io NoSpace same = absurd (omega (arith, same))
same_errno NoMemory Io same = absurd (omega (arith, same))
same_errno NoMemory NoMemory same = refl
same_errno NoMemory Invalid same = absurd (omega (arith, same))
same_errno NoMemory NoSpace same = absurd (omega (arith, same))
same_errno Invalid Io same = absurd (omega (arith, same))
same_errno Invalid NoMemory same = absurd (omega (arith, same))
same_errno Invalid Invalid same = refl
same_errno Invalid NoSpace same = absurd (omega (arith, same))
same_errno NoSpace Io same = absurd (omega (arith, same))
same_errno NoSpace NoMemory same = absurd (omega (arith, same))
same_errno NoSpace Invalid same = absurd (omega (arith, same))
same_errno NoSpace NoSpace same = refl

some_errno : (errno : Errno) → 0 < errno_number errno
some_errno Io = lit< tt
some_errno NoMemory = lit< tt
some_errno Invalid = lit< tt
some_errno NoSpace = lit< tt

errno_fits : (errno : Errno) → errno_number errno < 2 ^ 32
errno_fits Io = lit< tt
errno_fits NoMemory = lit< tt
errno_fits Invalid = lit< tt
errno_fits NoSpace = lit< tt

one_content : (at : ℕ) (chunks : List Chunk) (bytes others : List ℕ) (runs more : List Run) → TellsBytes at chunks bytes runs → TellsBytes at chunks others more
    → (bytes ≡ others) × (runs ≡ more)
one_content at [] bytes others runs more p q = (p.0 ∙ sym q.0, p.1 ∙ sym q.1)
one_content at (offset_data offset part ∷ chunks) bytes others runs more p q =
    let rest = one_content (at + length part) chunks p.1 q.1 p.2 q.2 p.5 q.5 in
    (p.3 ∙ ap (λ (t : List ℕ). part ++ t) rest.0 ∙ sym q.3, p.4 ∙ (λ i. record { length = length part; status = 0 } ∷ rest.1 i) ∙ sym q.4)
one_content at (offset_hole offset size ∷ chunks) bytes others runs more p q =
    let rest = one_content (at + size) chunks p.1 q.1 p.2 q.2 p.5 q.5 in
    (p.3 ∙ ap (λ (t : List ℕ). replicate size 0 ++ t) rest.0 ∙ sym q.3, p.4 ∙ (λ i. record { length = size; status = 3 } ∷ rest.1 i) ∙ sym q.4)
one_content at (block_status states ∷ chunks) bytes others runs more p q = absurd p
one_content at (error number ∷ chunks) bytes others runs more p q = absurd p

no_content : (at : ℕ) (chunks : List Chunk) (number : ℕ) (bytes : List ℕ) (runs : List Run) → chunks ≡ error number ∷ [] → TellsBytes at chunks bytes runs → ⊥
no_content at chunks number bytes runs same tells = subst (λ (cs : List Chunk). TellsBytes at cs bytes runs) same tells

no_states : (at : ℕ) (chunks : List Chunk) (states : List Run) (bytes : List ℕ) (runs : List Run) → chunks ≡ block_status states ∷ [] → TellsBytes at chunks bytes runs → ⊥
no_states at chunks states bytes runs same tells = subst (λ (cs : List Chunk). TellsBytes at cs bytes runs) same tells

one_in_chunks : (head : RequestHead) (chunks : List Chunk) (a b : Answer) → TellsAnswer head chunks a → TellsAnswer head chunks b → a ≡ b
one_in_chunks head chunks Done b p q = absurd p
one_in_chunks head chunks (Refused errno) Done p q = absurd q
one_in_chunks head chunks (Refused errno) (Refused other) p q =
    let both : error (errno_number errno) ∷ [] ≡ error (errno_number other) ∷ [] = sym p ∙ q in
    ap Refused (same_errno errno other (cc both))
one_in_chunks head chunks (Refused errno) (Bytes read) p q = absurd (no_content _ _ _ _ _ p q.3)
one_in_chunks head chunks (Refused errno) (States runs) p q =
    let both : error (errno_number errno) ∷ [] ≡ block_status runs ∷ [] = sym p ∙ q.1 in
    cc both
one_in_chunks head chunks (Bytes read) Done p q = absurd q
one_in_chunks head chunks (Bytes read) (Refused errno) p q = absurd (no_content _ _ _ _ _ q p.3)
one_in_chunks head chunks (Bytes read) (Bytes other) p q =
    let offset : read.offset ≡ other.offset = p.1 ∙ sym q.1 in
    let content = one_content head.offset chunks read.bytes other.bytes read.runs other.runs p.3 q.3 in
    λ i. Bytes (record { offset = offset i; bytes = content.0 i; runs = content.1 i })
one_in_chunks head chunks (Bytes read) (States runs) p q = absurd (no_states _ _ _ _ _ q.1 p.3)
one_in_chunks head chunks (States runs) Done p q = absurd q
one_in_chunks head chunks (States runs) (Refused errno) p q =
    let both : error (errno_number errno) ∷ [] ≡ block_status runs ∷ [] = sym q ∙ p.1 in
    cc both
one_in_chunks head chunks (States runs) (Bytes read) p q = absurd (no_states _ _ _ _ _ p.1 q.3)
one_in_chunks head chunks (States runs) (States others) p q =
    let both : block_status runs ∷ [] ≡ block_status others ∷ [] = sym p.1 ∙ q.1 in
    ap States (cc both)

one_simply : (head : RequestHead) (n m : ℕ) (bytes others x y : List ℕ) (a b : Answer) → TellsSimply head n bytes a → TellsSimply head m others b → n ≡ m → bytes ++ x ≡ others ++ y
    → (bytes ≡ others) × (a ≡ b)
one_simply head n m bytes others x y Done Done p q number same = (p.2 ∙ sym q.2, refl)
one_simply head n m bytes others x y Done (Refused errno) p q number same = absurd (omega (arith, p.1, q.0, number, some_errno errno))
one_simply head n m bytes others x y Done (Bytes read) p q number same = absurd (p.0 q.0)
one_simply head n m bytes others x y Done (States runs) p q number same = absurd q
one_simply head n m bytes others x y (Refused errno) Done p q number same = absurd (omega (arith, p.0, q.1, number, some_errno errno))
one_simply head n m bytes others x y (Refused errno) (Refused other) p q number same =
    (p.1 ∙ sym q.1, ap Refused (same_errno errno other (sym p.0 ∙ number ∙ q.0)))
one_simply head n m bytes others x y (Refused errno) (Bytes read) p q number same = absurd (omega (arith, p.0, q.1, number, some_errno errno))
one_simply head n m bytes others x y (Refused errno) (States runs) p q number same = absurd q
one_simply head n m bytes others x y (Bytes read) Done p q number same = absurd (q.0 p.0)
one_simply head n m bytes others x y (Bytes read) (Refused errno) p q number same = absurd (omega (arith, p.1, q.0, number, some_errno errno))
one_simply head n m bytes others x y (Bytes read) (Bytes other) p q number same =
    let content = same_front bytes others x y (p.2 ∙ sym q.2) same in
    (content.0, ap Bytes (p.3 ∙ ap (λ (t : List ℕ). one_run head.offset t 0) content.0 ∙ sym q.3))
one_simply head n m bytes others x y (Bytes read) (States runs) p q number same = absurd q
one_simply head n m bytes others x y (States runs) b p q number same = absurd p

number_in : (number cookie : ℕ) (bytes x : List ℕ) → number < 2 ^ 32 → from_be_bytes w32 (take 4 (drop 4 (simple_reply number cookie bytes ++ x))) ≡ number
number_in number cookie bytes x fits = from_be_bytes-to_be_bytes_4 number fits

one_reply_in : (chunked : Bool) (head : RequestHead) (text other x y : List ℕ) (a b : Answer) → DecodesIn chunked head text a → DecodesIn chunked head other b
    → text ++ x ≡ other ++ y → (text ≡ other) × (a ≡ b)
one_reply_in true head text other x y a b p q same =
    let chunks = same_chunks head.cookie p.chunks q.chunks x y p.some q.some p.fits q.fits
    (ap (λ (t : List ℕ). t ++ x) (sym p.whole) ∙ same ∙ ap (λ (t : List ℕ). t ++ y) q.whole) in (
      p.whole ∙ ap (chunks_bytes head.cookie) chunks ∙ sym q.whole,
      one_in_chunks head q.chunks a b (subst (λ (cs : List Chunk). TellsAnswer head cs a) chunks p.tells) q.tells,
    )
one_reply_in false head text other x y a b p q same =
    let whole : simple_reply p.number head.cookie p.bytes ++ x ≡ simple_reply q.number head.cookie q.bytes ++ y =
    ap (λ (t : List ℕ). t ++ x) (sym p.whole) ∙ same ∙ ap (λ (t : List ℕ). t ++ y) q.whole in
    let number : p.number ≡ q.number =
    sym (number_in p.number head.cookie p.bytes x p.fits) ∙ ap (λ (t : List ℕ). from_be_bytes w32 (take 4 (drop 4 t))) whole ∙ number_in q.number head.cookie q.bytes y q.fits in
    let rest : p.bytes ++ x ≡ q.bytes ++ y = ap (drop 16) whole in
    let both = one_simply head p.number q.number p.bytes q.bytes x y a b p.tells q.tells number rest in
    (p.whole ∙ (λ i. simple_reply (number i) head.cookie (both.0 i)) ∙ sym q.whole, both.1)

pub one_reply_lem : (session : SessionFlags) (head : RequestHead) (text other x y : List ℕ) (answer others : Answer)
    → Decodes session head text answer → Decodes session head other others → text ++ x ≡ other ++ y → (text ≡ other) × (answer ≡ others)
one_reply_lem session head text other x y answer others p q same = one_reply_in (is_chunked session head.kind) head text other x y answer others p q same

-- ---- what is written

parts_tell : (offset : ℕ) (runs : List Run) (bytes : List ℕ) → PartsBytes runs bytes → TellsBytes offset (part_chunks offset runs bytes) bytes runs
parts_tell offset [] bytes parts = (parts, refl)
parts_tell offset (run ∷ runs) bytes parts =
    let part : List ℕ = take run.length bytes in
    let behind : List ℕ = drop run.length bytes in
    let len : length part ≡ run.length = omega (arith, length-take run.length bytes, parts.1) in
    let rest : TellsBytes (offset + run.length) (part_chunks (offset + run.length) runs behind) behind runs = parts_tell (offset + run.length) runs behind parts.3 in
    elim parts.2 [
      | inl filled ↦
          let chunk : part_chunk offset run bytes ≡ offset_data offset part = cond-true (run.status == 0) (offset_data offset part) (offset_hole offset run.length) (eq-eqb run.status 0 filled) in
          subst (λ (c : Chunk). TellsBytes offset (c ∷ part_chunks (offset + run.length) runs behind) bytes (run ∷ runs)) (sym chunk) (
            refl,
            behind,
            runs,
            sym (take-append-drop run.length bytes),
            (λ i. record { length = sym len i; status = filled i } ∷ runs),
            subst (λ (n : ℕ). TellsBytes (offset + n) (part_chunks (offset + run.length) runs behind) behind runs) (sym len) rest,
          )
      | inr hole ↦
          let other : run.status ≢ 0 = λ same. absurd (omega (arith, same, hole.0)) in
          let chunk : part_chunk offset run bytes ≡ offset_hole offset run.length = cond-false (run.status == 0) (offset_data offset part) (offset_hole offset run.length) (ne_eqb run.status 0 other) in
          let zeros : part ≡ replicate run.length 0 = hole.1 ∙ ap (λ (n : ℕ). replicate n 0) len in
          subst (λ (c : Chunk). TellsBytes offset (c ∷ part_chunks (offset + run.length) runs behind) bytes (run ∷ runs)) (sym chunk)
          (refl, behind, runs, sym (take-append-drop run.length bytes) ∙ ap (λ (t : List ℕ). t ++ behind) zeros, (λ i. record { length = run.length; status = hole.0 i } ∷ runs), rest)
    ]

fits_when : (is_data : Bool) (offset size : ℕ) (part : List ℕ) → offset < 2 ^ 64 → length part ≤ size → size ≤ 1048576 → FitsChunk (if is_data then offset_data offset part else offset_hole offset size)
fits_when true offset size part fits within most = (fits, omega (arith, within, most))
fits_when false offset size part fits within most = (fits, omega (arith, most))

parts_fit : (offset : ℕ) (runs : List Run) (bytes : List ℕ) → PartsBytes runs bytes → length bytes ≤ 1048576 → offset + length bytes < 2 ^ 64 → AllByRecursion FitsChunk (part_chunks offset runs bytes)
parts_fit offset [] bytes parts most inside = tt
parts_fit offset (run ∷ runs) bytes parts most inside = (
  fits_when (run.status == 0) offset run.length (take run.length bytes) (omega (arith, inside)) (omega (arith, length-take run.length bytes)) (omega (arith, parts.1, most)),
  parts_fit (offset + run.length) runs (drop run.length bytes) parts.3 (omega (arith, most, length-drop run.length bytes)) (omega (arith, inside, parts.1, length-drop run.length bytes)),
)

some_parts : (offset : ℕ) (runs : List Run) (bytes : List ℕ) → 0 < length runs → 0 < length (part_chunks offset runs bytes)
some_parts offset [] bytes some = absurd (omega (arith, some))
some_parts offset (run ∷ runs) bytes some = omega arith

-- what an answer can be told by
abbrev CanTell : Bool → Answer → Type 0
CanTell true Done = ⊥
CanTell true (Refused errno) = Unit {0}
CanTell true (Bytes read) = Unit {0}
CanTell true (States runs) = Unit {0}
CanTell false Done = Unit {0}
CanTell false (Refused errno) = Unit {0}
CanTell false (Bytes read) = Unit {0}
CanTell false (States runs) = ⊥

each_tells_error : (chunked : Bool) (errno : Errno) → CanTell chunked (Refused errno)
each_tells_error true errno = tt
each_tells_error false errno = tt

each_tells_bytes : (chunked : Bool) (read : BytesRead) → CanTell chunked (Bytes read)
each_tells_bytes true read = tt
each_tells_bytes false read = tt

no_chunk_for : (structured first second : Bool) → first ≡ false → second ≡ false → (structured && (first || second)) ≡ false
no_chunk_for true first second p q = cc
no_chunk_for false first second p q = refl

can_tell : (session : SessionFlags) (kind : ℕ) (answer : Answer) → IsAnswerTo session kind answer → CanTell (is_chunked session kind) answer
can_tell session kind Done other =
    subst (λ (b : Bool). CanTell b Done) (sym (no_chunk_for session.structured (kind == 0) (kind == 7) (ne_eqb kind 0 other.0) (ne_eqb kind 7 other.1))) tt
can_tell session kind (Refused errno) other = each_tells_error (is_chunked session kind) errno
can_tell session kind (Bytes read) other = each_tells_bytes (is_chunked session kind) read
can_tell session kind (States runs) other =
    let chunked : is_chunked session kind ≡ true = rw (other.0, other.1) refl in
    subst (λ (b : Bool). CanTell b (States runs)) (sym chunked) tt

abbrev Back : Bool → Bool → RequestHead → Answer → Type 0
Back chunked df head answer =
    DecodesIn chunked head (if chunked then chunks_bytes head.cookie (chunks_of df answer) else simple_text head.cookie answer) (told (chunked && not df) answer)

back_states : (df : Bool) (head : RequestHead) (runs : List Run) → head.kind ≡ 7 → AnswersRequest head (States runs) → Back true df head (States runs)
back_states true head runs kind asked = record {
  chunks = block_status runs ∷ [];
  some = omega arith;
  fits = ((asked.1, omega (arith, asked.0.count.1, length-append (to_be_bytes w32 1) (flat_map run_bytes runs), length-runs runs)), tt);
  whole = refl;
  tells = (kind, refl, asked.0, asked.2);
}
back_states false head runs kind asked = record {
  chunks = block_status runs ∷ [];
  some = omega arith;
  fits = ((asked.1, omega (arith, asked.0.count.1, length-append (to_be_bytes w32 1) (flat_map run_bytes runs), length-runs runs)), tt);
  whole = refl;
  tells = (kind, refl, asked.0, asked.2);
}

back_error : (df : Bool) (head : RequestHead) (errno : Errno) → Back true df head (Refused errno)
back_error true head errno = record { chunks = error (errno_number errno) ∷ []; some = omega arith; fits = (errno_fits errno, tt); whole = refl; tells = refl }
back_error false head errno = record { chunks = error (errno_number errno) ∷ []; some = omega arith; fits = (errno_fits errno, tt); whole = refl; tells = refl }

back_bytes : (df : Bool) (head : RequestHead) (read : BytesRead) → head.kind ≡ 0 → AnswersRequest head (Bytes read) → Back true df head (Bytes read)
back_bytes true head read kind asked = record {
  chunks = offset_data read.offset read.bytes ∷ [];
  some = omega arith;
  fits = ((omega (arith, asked.0.inside), omega (arith, asked.0.most)), tt);
  whole = refl;
  tells = (kind, asked.1, asked.2, (asked.1, [], [], sym (append-nil read.bytes), refl, (refl, refl)));
}
back_bytes false head read kind asked = record {
  chunks = part_chunks read.offset read.runs read.bytes;
  some = some_parts read.offset read.runs read.bytes asked.0.count.0;
  fits = parts_fit read.offset read.runs read.bytes asked.0.parts asked.0.most asked.0.inside;
  whole = refl;
  tells = (
    kind,
    asked.1,
    asked.2,
    subst (λ (from : ℕ). TellsBytes from (part_chunks read.offset read.runs read.bytes) read.bytes read.runs) asked.1 (parts_tell read.offset read.runs read.bytes asked.0.parts),
  );
}

back : (session : SessionFlags) (chunked df : Bool) (head : RequestHead) (answer : Answer) → IsAnswerTo session head.kind answer → CanTell chunked answer → AnswersRequest head answer
    → Back chunked df head answer
back session true df head Done kind can asked = absurd can
back session true df head (Refused errno) kind can asked = back_error df head errno
back session true df head (Bytes read) kind can asked = back_bytes df head read kind asked
back session true df head (States runs) kind can asked = back_states df head runs kind.0 asked
back session false df head Done kind can asked =
    record { number = 0; bytes = []; fits = lit< tt; whole = refl; tells = (kind.0, refl, refl) }
back session false df head (Refused errno) kind can asked =
    record { number = errno_number errno; bytes = []; fits = errno_fits errno; whole = refl; tells = (refl, refl) }
back session false df head (Bytes read) kind can asked =
    record { number = 0; bytes = read.bytes; fits = lit< tt; whole = refl; tells = (kind, refl, asked.2, ap (λ (from : ℕ). one_run from read.bytes 0) asked.1) }
back session false df head (States runs) kind can asked = absurd can

pub reads_back_lem : (session : SessionFlags) (head : RequestHead) (df : Bool) (answer : Answer) → IsAnswerTo session head.kind answer → AnswersRequest head answer
    → Decodes session head (reply_text session head.kind df (record { cookie = head.cookie; answer = answer })) (told (is_chunked session head.kind && not df) answer)
reads_back_lem session head df answer kind asked =
    back session (is_chunked session head.kind) df head answer kind (can_tell session head.kind answer kind) asked
