-- What is appended in steps, and how long it is.
use Rattle.std.proofs.Common.{◌≡◌, ℕ, ◌+◌, ◌*◌, ◌<◌, Bool, List, [], ◌∷◌, ◌++◌, length, refl, ap, ◌∙◌, append_assoc, length-append, arith}
use Rattle.std.specs.Prelude.{Result, Ok, Err, OnErr}
use Rattle.std.specs.List.{flat_map}
use Rattle.nbd_wire.specs.declared.message.Run.{Run}
use Rattle.nbd_wire.specs.Chunk.{Chunk, chunk_head, chunk_bytes, chunk_type, payload, run_bytes}

pub in_three : (out h a b one two three head first last : List ℕ) → one ≡ out ++ h → h ≡ head → two ≡ one ++ a → a ≡ first → three ≡ two ++ b → b ≡ last
    → three ≡ out ++ (head ++ (first ++ last))
in_three out h a b one two three head first last p p' q q' r r' =
    r ∙ (λ i. (q ∙ ap (λ (t : List ℕ). t ++ a) p) i ++ b) ∙ append_assoc (out ++ h) a b ∙ append_assoc out h (a ++ b)
    ∙ (λ i. out ++ (p' i ++ (q' i ++ r' i)))

pub on_err : {T E : Type 0} (r : Result T E) (P : Type 0) → P → OnErr r P
on_err (Ok x) P p = tt
on_err (Err e) P p = p

-- there is no room for this many bytes, nor for a text of this length
pub no_room : {T E : Type 0} (r : Result T E) (capacity len n : ℕ) (text : List ℕ) → capacity < len + n → n ≡ length text → OnErr r (capacity < len + length text)
no_room r capacity len n text full same = on_err r (capacity < len + length text) (omega (arith, full, same))

pub length-chunk_head : (done : Bool) (kind cookie size : ℕ) → length (chunk_head done kind cookie size) ≡ 20
unfolding chunk_head
length-chunk_head done kind cookie size = refl

pub length-chunk : (done : Bool) (cookie : ℕ) (chunk : Chunk) → length (chunk_bytes done cookie chunk) ≡ 20 + length (payload chunk)
length-chunk done cookie chunk =
    omega (arith, length-append (chunk_head done (chunk_type chunk) cookie (length (payload chunk))) (payload chunk), length-chunk_head done (chunk_type chunk) cookie (length (payload chunk)))

pub length-runs : (runs : List Run) → length (flat_map run_bytes runs) ≡ 8 * length runs
length-runs [] = refl
length-runs (run ∷ runs) = omega (arith, length-append (run_bytes run) (flat_map run_bytes runs), length-runs runs)
