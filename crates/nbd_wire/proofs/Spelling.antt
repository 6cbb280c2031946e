-- An answer has one spelling.
use Rattle.std.proofs.Common.{◌≡◌, ℕ, ◌+◌, Bool, true, false, List, [], ◌∷◌, ◌++◌, length, refl, sym, ap, subst, ◌∙◌, arith}
use Rattle.std.specs.Prelude.{replicate}
use Rattle.nbd_wire.specs.declared.head.RequestHead.{RequestHead}
use Rattle.nbd_wire.specs.declared.message.Answer.{Answer}
use Rattle.nbd_wire.specs.declared.message.Answer.TheVariants.{Done, Refused, Bytes, States}
use Rattle.nbd_wire.specs.declared.message.Run.{Run}
use Rattle.nbd_wire.specs.declared.message.SessionFlags.{SessionFlags}
use Rattle.nbd_wire.specs.Answer.{BytesRead}
use Rattle.nbd_wire.specs.Head.{simple_reply}
use Rattle.nbd_wire.specs.Chunk.{Chunk, offset_data, offset_hole, block_status, error, chunks_bytes}
use Rattle.nbd_wire.specs.Reply.{is_chunked}
use Rattle.nbd_wire.specs.Decoded.{Decodes, DecodesIn, TellsAnswer, TellsBytes, TellsSimply}
use Rattle.nbd_wire.proofs.Chunks.{same_front}

abbrev run_of : ℕ → ℕ → Run
run_of count state = record { length = count; status = state }

-- the first of two lists of runs, and the rests
first_run : (n m s t : ℕ) (runs others : List Run) → run_of n s ∷ runs ≡ run_of m t ∷ others → (n ≡ m) × (s ≡ t) × (runs ≡ others)
first_run n m s t runs others same =
    let heads : run_of n s ≡ run_of m t = cc in
    (ap (λ (r : Run). r.length) heads, ap (λ (r : Run). r.status) heads, cc)

same_content : (at : ℕ) (chunks others : List Chunk) (bytes : List ℕ) (runs : List Run) → TellsBytes at chunks bytes runs → TellsBytes at others bytes runs → chunks ≡ others
same_content at [] [] bytes runs p q = refl
same_content at [] (offset_data o part ∷ others) bytes runs p q = cc (sym p.1 ∙ q.4)
same_content at [] (offset_hole o size ∷ others) bytes runs p q = cc (sym p.1 ∙ q.4)
same_content at [] (block_status states ∷ others) bytes runs p q = absurd q
same_content at [] (error number ∷ others) bytes runs p q = absurd q
same_content at (offset_data o part ∷ chunks) [] bytes runs p q = cc (sym q.1 ∙ p.4)
same_content at (offset_data o part ∷ chunks) (offset_data u other ∷ others) bytes runs p q =
    let run = first_run (length part) (length other) 0 0 p.2 q.2 (sym p.4 ∙ q.4) in
    let both = same_front part other p.1 q.1 run.0 (sym p.3 ∙ q.3) in
    let rest = same_content (at + length part) chunks others p.1 p.2 p.5
    (subst (λ (n : ℕ). TellsBytes (at + n) others p.1 p.2) (sym run.0)
    (subst (λ (bs : List ℕ). TellsBytes (at + length other) others bs p.2) (sym both.1)
    (subst (λ (rs : List Run). TellsBytes (at + length other) others q.1 rs) (sym run.2) q.5))) in
    let offsets : o ≡ u = p.0 ∙ sym q.0 in
    λ i. offset_data (offsets i) (both.0 i) ∷ rest i
same_content at (offset_data o part ∷ chunks) (offset_hole u size ∷ others) bytes runs p q =
    let run = first_run (length part) size 0 3 p.2 q.2 (sym p.4 ∙ q.4) in
    absurd (omega (arith, run.1))
same_content at (offset_data o part ∷ chunks) (block_status states ∷ others) bytes runs p q = absurd q
same_content at (offset_data o part ∷ chunks) (error number ∷ others) bytes runs p q = absurd q
same_content at (offset_hole o size ∷ chunks) [] bytes runs p q = cc (sym q.1 ∙ p.4)
same_content at (offset_hole o size ∷ chunks) (offset_data u other ∷ others) bytes runs p q =
    let run = first_run size (length other) 3 0 p.2 q.2 (sym p.4 ∙ q.4) in
    absurd (omega (arith, run.1))
same_content at (offset_hole o size ∷ chunks) (offset_hole u other ∷ others) bytes runs p q =
    let run = first_run size other 3 3 p.2 q.2 (sym p.4 ∙ q.4) in
    let zeros : replicate size 0 ++ p.1 ≡ replicate size 0 ++ q.1 = sym p.3 ∙ q.3 ∙ ap (λ (n : ℕ). replicate n 0 ++ q.1) (sym run.0) in
    let both = same_front (replicate size 0) (replicate size 0) p.1 q.1 refl zeros in
    let rest = same_content (at + size) chunks others p.1 p.2 p.5
    (subst (λ (n : ℕ). TellsBytes (at + n) others p.1 p.2) (sym run.0)
    (subst (λ (bs : List ℕ). TellsBytes (at + other) others bs p.2) (sym both.1)
    (subst (λ (rs : List Run). TellsBytes (at + other) others q.1 rs) (sym run.2) q.5))) in
    let offsets : o ≡ u = p.0 ∙ sym q.0 in
    λ i. offset_hole (offsets i) (run.0 i) ∷ rest i
same_content at (offset_hole o size ∷ chunks) (block_status states ∷ others) bytes runs p q = absurd q
same_content at (offset_hole o size ∷ chunks) (error number ∷ others) bytes runs p q = absurd q
same_content at (block_status states ∷ chunks) others bytes runs p q = absurd p
same_content at (error number ∷ chunks) others bytes runs p q = absurd p

same_told : (head : RequestHead) (chunks others : List Chunk) (answer : Answer) → TellsAnswer head chunks answer → TellsAnswer head others answer → chunks ≡ others
same_told head chunks others Done p q = absurd p
same_told head chunks others (Refused errno) p q = p ∙ sym q
same_told head chunks others (Bytes read) p q = same_content head.offset chunks others read.bytes read.runs p.3 q.3
same_told head chunks others (States runs) p q = p.1 ∙ sym q.1

same_simple : (head : RequestHead) (n m : ℕ) (bytes others : List ℕ) (answer : Answer) → TellsSimply head n bytes answer → TellsSimply head m others answer → (n ≡ m) × (bytes ≡ others)
same_simple head n m bytes others Done p q = (p.1 ∙ sym q.1, p.2 ∙ sym q.2)
same_simple head n m bytes others (Refused errno) p q = (p.0 ∙ sym q.0, p.1 ∙ sym q.1)
same_simple head n m bytes others (Bytes read) p q = (p.1 ∙ sym q.1, ap (λ (r : BytesRead). r.bytes) (sym p.3 ∙ q.3))
same_simple head n m bytes others (States runs) p q = absurd p

one_spelling_in : (chunked : Bool) (head : RequestHead) (text other : List ℕ) (answer : Answer) → DecodesIn chunked head text answer → DecodesIn chunked head other answer → text ≡ other
one_spelling_in true head text other answer p q =
    p.whole ∙ ap (chunks_bytes head.cookie) (same_told head p.chunks q.chunks answer p.tells q.tells) ∙ sym q.whole
one_spelling_in false head text other answer p q =
    let both = same_simple head p.number q.number p.bytes q.bytes answer p.tells q.tells in
    p.whole ∙ (λ i. simple_reply (both.0 i) head.cookie (both.1 i)) ∙ sym q.whole

pub one_spelling_lem : (session : SessionFlags) (head : RequestHead) (text other : List ℕ) (answer : Answer) → Decodes session head text answer → Decodes session head other answer → text ≡ other
one_spelling_lem session head text other answer p q = one_spelling_in (is_chunked session head.kind) head text other answer p q
