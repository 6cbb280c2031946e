-- A chunk is read back from its bytes.
use Rattle.std.proofs.Common.{◌≡◌, ℕ, ◌<◌, ◌^◌, Bool, true, false, List, [], ◌∷◌, ◌++◌, length, take, drop, refl, sym, ap, ◌∙◌, append_assoc, length-append, arith, lit<}
use Rattle.std.specs.Int.{w16, w32, w64, to_be_bytes, from_be_bytes}
use Rattle.std.specs.List.{AllByRecursion, flat_map}
use Rattle.std.proofs.lemmas.List.{take_at, drop_at}
use Rattle.std.proofs.lemmas.Nat.{from_be_bytes-to_be_bytes_2, from_be_bytes-to_be_bytes_4, from_be_bytes-to_be_bytes_8}
use Rattle.nbd_wire.specs.declared.message.Run.{Run}
use Rattle.nbd_wire.specs.Chunk.{Chunk, offset_data, offset_hole, block_status, error, chunk_head, chunk_bytes, chunk_flags, chunk_type, chunks_bytes, is_last, payload, run_bytes}
use Rattle.nbd_wire.specs.Decoded.{FitsChunk}

pub same_front : (a b x y : List ℕ) → length a ≡ length b → a ++ x ≡ b ++ y → (a ≡ b) × (x ≡ y)
same_front a b x y len same = (
  sym (take_at a x (length b) len) ∙ ap (take (length b)) same ∙ take_at b y (length b) refl,
  sym (drop_at a x (length b) len) ∙ ap (drop (length b)) same ∙ drop_at b y (length b) refl,
)

-- ---- the head

flags_in : (done : Bool) (kind cookie size : ℕ) (x : List ℕ) → from_be_bytes w16 (take 2 (drop 4 (chunk_head done kind cookie size ++ x))) ≡ chunk_flags done
unfolding chunk_head
flags_in true kind cookie size x = from_be_bytes-to_be_bytes_2 1 (lit< tt)
flags_in false kind cookie size x = from_be_bytes-to_be_bytes_2 0 (lit< tt)

kind_in : (done : Bool) (kind cookie size : ℕ) (x : List ℕ) → kind < 2 ^ 16 → from_be_bytes w16 (take 2 (drop 6 (chunk_head done kind cookie size ++ x))) ≡ kind
unfolding chunk_head
kind_in done kind cookie size x fits = from_be_bytes-to_be_bytes_2 kind fits

size_in : (done : Bool) (kind cookie size : ℕ) (x : List ℕ) → size < 2 ^ 32 → from_be_bytes w32 (take 4 (drop 16 (chunk_head done kind cookie size ++ x))) ≡ size
unfolding chunk_head
size_in done kind cookie size x fits = from_be_bytes-to_be_bytes_4 size fits

behind : (done : Bool) (kind cookie size : ℕ) (x : List ℕ) → drop 20 (chunk_head done kind cookie size ++ x) ≡ x
unfolding chunk_head
behind done kind cookie size x = refl

same_done : (a b : Bool) → chunk_flags a ≡ chunk_flags b → a ≡ b
same_done true true same = refl
same_done true false same = absurd (omega (arith, same))
same_done false true same = absurd (omega (arith, same))
same_done false false same = refl

kind_fits : (chunk : Chunk) → chunk_type chunk < 2 ^ 16
kind_fits (offset_data offset bytes) = omega arith
kind_fits (offset_hole offset size) = omega arith
kind_fits (block_status runs) = omega arith
kind_fits (error number) = omega arith

size_fits : (chunk : Chunk) → FitsChunk chunk → length (payload chunk) < 2 ^ 32
size_fits (offset_data offset bytes) fits = omega (arith, fits.1, length-append (to_be_bytes w64 offset) bytes)
size_fits (offset_hole offset size) fits = lit< tt
size_fits (block_status runs) fits = fits.1
size_fits (error number) fits = lit< tt

-- ---- the payload

number_32 : (n m : ℕ) (x y : List ℕ) → n < 2 ^ 32 → m < 2 ^ 32 → to_be_bytes w32 n ++ x ≡ to_be_bytes w32 m ++ y → (n ≡ m) × (x ≡ y)
number_32 n m x y p q same =
    let both = same_front (to_be_bytes w32 n) (to_be_bytes w32 m) x y refl same in
    (sym (from_be_bytes-to_be_bytes_4 n p) ∙ ap (from_be_bytes w32) both.0 ∙ from_be_bytes-to_be_bytes_4 m q, both.1)

number_64 : (n m : ℕ) (x y : List ℕ) → n < 2 ^ 64 → m < 2 ^ 64 → to_be_bytes w64 n ++ x ≡ to_be_bytes w64 m ++ y → (n ≡ m) × (x ≡ y)
number_64 n m x y p q same =
    let both = same_front (to_be_bytes w64 n) (to_be_bytes w64 m) x y refl same in
    (sym (from_be_bytes-to_be_bytes_8 n p) ∙ ap (from_be_bytes w64) both.0 ∙ from_be_bytes-to_be_bytes_8 m q, both.1)

same_runs : (runs others : List Run) → AllByRecursion (λ run. (run.length < 2 ^ 32) × (run.status < 2 ^ 32)) runs
    → AllByRecursion (λ run. (run.length < 2 ^ 32) × (run.status < 2 ^ 32)) others → flat_map run_bytes runs ≡ flat_map run_bytes others → runs ≡ others
same_runs [] [] fits other_fits same = refl
same_runs [] (other ∷ others) fits other_fits same = absurd (omega (arith, ap length same, length-append (run_bytes other) (flat_map run_bytes others)))
same_runs (run ∷ runs) [] fits other_fits same = absurd (omega (arith, ap length same, length-append (run_bytes run) (flat_map run_bytes runs)))
same_runs (run ∷ runs) (other ∷ others) fits other_fits same =
    let whole : to_be_bytes w32 run.length ++ (to_be_bytes w32 run.status ++ flat_map run_bytes runs) ≡ to_be_bytes w32 other.length ++ (to_be_bytes w32 other.status ++ flat_map run_bytes others) =
    sym (append_assoc (to_be_bytes w32 run.length) (to_be_bytes w32 run.status) (flat_map run_bytes runs)) ∙ same
    ∙ append_assoc (to_be_bytes w32 other.length) (to_be_bytes w32 other.status) (flat_map run_bytes others) in
    let lengths = number_32 run.length other.length _ _ fits.0.0 other_fits.0.0 whole in
    let statuses = number_32 run.status other.status _ _ fits.0.1 other_fits.0.1 lengths.1 in
    let rest = same_runs runs others fits.1 other_fits.1 statuses.1 in
    λ i. record { length = lengths.0 i; status = statuses.0 i } ∷ rest i

same_payload : (a b : Chunk) → FitsChunk a → FitsChunk b → chunk_type a ≡ chunk_type b → payload a ≡ payload b → a ≡ b
same_payload (offset_data o bytes) (offset_data p others) fits other_fits kind same =
    let both = number_64 o p bytes others fits.0 other_fits.0 same in
    λ i. offset_data (both.0 i) (both.1 i)
same_payload (offset_data o bytes) (offset_hole p size) fits other_fits kind same = absurd (omega (arith, kind))
same_payload (offset_data o bytes) (block_status runs) fits other_fits kind same = absurd (omega (arith, kind))
same_payload (offset_data o bytes) (error number) fits other_fits kind same = absurd (omega (arith, kind))
same_payload (offset_hole o size) (offset_data p others) fits other_fits kind same = absurd (omega (arith, kind))
same_payload (offset_hole o size) (offset_hole p other) fits other_fits kind same =
    let both = number_64 o p (to_be_bytes w32 size) (to_be_bytes w32 other) fits.0 other_fits.0 same in
    let sizes = number_32 size other [] [] fits.1 other_fits.1 (ap (λ (t : List ℕ). t ++ []) both.1) in
    λ i. offset_hole (both.0 i) (sizes.0 i)
same_payload (offset_hole o size) (block_status runs) fits other_fits kind same = absurd (omega (arith, kind))
same_payload (offset_hole o size) (error number) fits other_fits kind same = absurd (omega (arith, kind))
same_payload (block_status runs) (offset_data p others) fits other_fits kind same = absurd (omega (arith, kind))
same_payload (block_status runs) (offset_hole p size) fits other_fits kind same = absurd (omega (arith, kind))
same_payload (block_status runs) (block_status others) fits other_fits kind same =
    let both = same_front (to_be_bytes w32 1) (to_be_bytes w32 1) (flat_map run_bytes runs) (flat_map run_bytes others) refl same in
    ap block_status (same_runs runs others fits.0 other_fits.0 both.1)
same_payload (block_status runs) (error number) fits other_fits kind same = absurd (omega (arith, kind))
same_payload (error number) (offset_data p others) fits other_fits kind same = absurd (omega (arith, kind))
same_payload (error number) (offset_hole p size) fits other_fits kind same = absurd (omega (arith, kind))
same_payload (error number) (block_status runs) fits other_fits kind same = absurd (omega (arith, kind))
same_payload (error number) (error other) fits other_fits kind same =
    ap error (number_32 number other (to_be_bytes w16 0) (to_be_bytes w16 0) fits other_fits same).0

-- ---- chunks

one_chunk : (done last : Bool) (cookie : ℕ) (a b : Chunk) (x y : List ℕ) → FitsChunk a → FitsChunk b → chunk_bytes done cookie a ++ x ≡ chunk_bytes last cookie b ++ y
    → (done ≡ last) × (a ≡ b) × (x ≡ y)
one_chunk done last cookie a b x y fits other_fits same =
    let n = length (payload a) in
    let m = length (payload b) in
    let whole : chunk_head done (chunk_type a) cookie n ++ (payload a ++ x) ≡ chunk_head last (chunk_type b) cookie m ++ (payload b ++ y) =
    sym (append_assoc (chunk_head done (chunk_type a) cookie n) (payload a) x) ∙ same ∙ append_assoc (chunk_head last (chunk_type b) cookie m) (payload b) y in
    let flags : chunk_flags done ≡ chunk_flags last =
    sym (flags_in done (chunk_type a) cookie n (payload a ++ x)) ∙ ap (λ (t : List ℕ). from_be_bytes w16 (take 2 (drop 4 t))) whole ∙ flags_in last (chunk_type b) cookie m (payload b ++ y) in
    let kinds : chunk_type a ≡ chunk_type b =
    sym (kind_in done (chunk_type a) cookie n (payload a ++ x) (kind_fits a)) ∙ ap (λ (t : List ℕ). from_be_bytes w16 (take 2 (drop 6 t))) whole ∙ kind_in last (chunk_type b) cookie m (payload b ++ y) (kind_fits b) in
    let sizes : n ≡ m =
    sym (size_in done (chunk_type a) cookie n (payload a ++ x) (size_fits a fits)) ∙ ap (λ (t : List ℕ). from_be_bytes w32 (take 4 (drop 16 t))) whole ∙ size_in last (chunk_type b) cookie m (payload b ++ y) (size_fits b other_fits) in
    let rests : payload a ++ x ≡ payload b ++ y =
    sym (behind done (chunk_type a) cookie n (payload a ++ x)) ∙ ap (drop 20) whole ∙ behind last (chunk_type b) cookie m (payload b ++ y) in
    let payloads = same_front (payload a) (payload b) x y sizes rests in
    (same_done done last flags, same_payload a b fits other_fits kinds payloads.0, payloads.1)

first_chunk : (cookie : ℕ) (a b : Chunk) (more others : List Chunk) (x y : List ℕ) → FitsChunk a → FitsChunk b
    → chunks_bytes cookie (a ∷ more) ++ x ≡ chunks_bytes cookie (b ∷ others) ++ y → (is_last more ≡ is_last others) × (a ≡ b) × (chunks_bytes cookie more ++ x ≡ chunks_bytes cookie others ++ y)
first_chunk cookie a b more others x y fits other_fits same =
    one_chunk (is_last more) (is_last others) cookie a b (chunks_bytes cookie more ++ x) (chunks_bytes cookie others ++ y) fits other_fits
    (sym (append_assoc (chunk_bytes (is_last more) cookie a) (chunks_bytes cookie more) x) ∙ same ∙ append_assoc (chunk_bytes (is_last others) cookie b) (chunks_bytes cookie others) y)

-- the chunks of a reply are told from what follows it
pub same_chunks : (cookie : ℕ) (chunks others : List Chunk) (x y : List ℕ) → 0 < length chunks → 0 < length others → AllByRecursion FitsChunk chunks → AllByRecursion FitsChunk others
    → chunks_bytes cookie chunks ++ x ≡ chunks_bytes cookie others ++ y → chunks ≡ others
same_chunks cookie [] others x y some other_some fits other_fits same = absurd (omega (arith, some))
same_chunks cookie (a ∷ more) [] x y some other_some fits other_fits same = absurd (omega (arith, other_some))
same_chunks cookie (a ∷ []) (b ∷ []) x y some other_some fits other_fits same =
    ap (λ (c : Chunk). c ∷ []) (first_chunk cookie a b [] [] x y fits.0 other_fits.0 same).1
same_chunks cookie (a ∷ []) (b ∷ c ∷ cs) x y some other_some fits other_fits same =
    cc (first_chunk cookie a b [] (c ∷ cs) x y fits.0 other_fits.0 same).0
same_chunks cookie (a ∷ c ∷ cs) (b ∷ []) x y some other_some fits other_fits same =
    cc (first_chunk cookie a b (c ∷ cs) [] x y fits.0 other_fits.0 same).0
same_chunks cookie (a ∷ c ∷ cs) (b ∷ d ∷ ds) x y some other_some fits other_fits same =
    let first = first_chunk cookie a b (c ∷ cs) (d ∷ ds) x y fits.0 other_fits.0 same in
    let rest = same_chunks cookie (c ∷ cs) (d ∷ ds) x y (omega arith) (omega arith) fits.1 other_fits.1 first.2 in
    λ i. first.1 i ∷ rest i
