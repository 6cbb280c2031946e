-- The chunks on the parts of bytes, one after the other.
use Rattle.std.proofs.Common.{◌≡◌, ℕ, ◌+◌, ◌≤◌, Bool, true, false, List, [], ◌∷◌, ◌++◌, length, take, drop, refl, sym, ap, ◌∙◌, append_assoc, length-append, length-take, arith}
use Rattle.std.specs.Prelude.{◌==◌, if◌then◌else◌}
use Rattle.std.specs.Int.{w64, to_be_bytes}
use Rattle.std.specs.List.{sum_by}
use Rattle.std.proofs.lemmas.Bool.{ne_eqb}
use Rattle.std.proofs.lemmas.List.{append-nil, take-append-drop}
use Rattle.std.proofs.lemmas.List.Sums.{sum_by-cons}
use Rattle.nbd_wire.specs.declared.message.Run.{Run}
use Rattle.nbd_wire.specs.Answer.{PartsBytes, data_status}
use Rattle.nbd_wire.specs.Chunk.{offset_data, offset_hole, chunk_bytes, chunks_bytes, is_last}
use Rattle.nbd_wire.specs.Reply.{part_chunk, part_chunks}
use Rattle.nbd_wire.specs.inner.Reply.{part_len}
use Rattle.nbd_wire.proofs.Appends.{length-chunk}

-- no chunk follows where no run does
last_part : (offset : ℕ) (runs : List Run) (bytes : List ℕ) → (length runs == 0) ≡ is_last (part_chunks offset runs bytes)
last_part offset [] bytes = refl
last_part offset (run ∷ runs) bytes = ne_eqb (length (run ∷ runs)) 0 (λ same. absurd (omega (arith, same)))

length-part : (run : Run) (bytes : List ℕ) → run.length ≤ length bytes → length (take run.length bytes) ≡ run.length
length-part run bytes within = omega (arith, length-take run.length bytes)

same_chunk : (offset : ℕ) (run : Run) (bytes : List ℕ) → run.length ≤ length bytes
    → (if run.status == 0 then offset_data offset (take run.length bytes) else offset_hole offset (length (take run.length bytes))) ≡ part_chunk offset run bytes
same_chunk offset run bytes within =
    ap (λ (n : ℕ). if run.status == 0 then offset_data offset (take run.length bytes) else offset_hole offset n) (length-part run bytes within)

-- the chunk on the first run was appended
pub part_items : (cookie offset : ℕ) (run : Run) (others : List Run) (bytes out new : List ℕ) (done : Bool) → run.length ≤ length bytes → done ≡ (length others == 0)
    → new ≡ out ++ chunk_bytes done cookie (if run.status == 0 then offset_data offset (take run.length bytes) else offset_hole offset (length (take run.length bytes)))
    → new ++ chunks_bytes cookie (part_chunks (offset + run.length) others (drop run.length bytes)) ≡ out ++ chunks_bytes cookie (part_chunks offset (run ∷ others) bytes)
part_items cookie offset run others bytes out new done within last made =
    let rest : List ℕ = chunks_bytes cookie (part_chunks (offset + run.length) others (drop run.length bytes)) in
    let is_done : done ≡ is_last (part_chunks (offset + run.length) others (drop run.length bytes)) = last ∙ last_part (offset + run.length) others (drop run.length bytes) in
    ap (λ (t : List ℕ). t ++ rest) made
    ∙ append_assoc out _ rest
    ∙ (λ i. out ++ (chunk_bytes (is_done i) cookie (same_chunk offset run bytes within i) ++ rest))

length-when : (is_data done : Bool) (cookie offset size : ℕ) (part : List ℕ) → length part ≡ size
    → length (chunk_bytes done cookie (if is_data then offset_data offset part else offset_hole offset size)) ≡ (if is_data then 28 + size else 32)
length-when true done cookie offset size part len =
    omega (arith, length-chunk done cookie (offset_data offset part), length-append (to_be_bytes w64 offset) part, len)
length-when false done cookie offset size part len = omega (arith, length-chunk done cookie (offset_hole offset size))

length-part_chunk : (done : Bool) (cookie offset : ℕ) (run : Run) (bytes : List ℕ) → run.length ≤ length bytes
    → length (chunk_bytes done cookie (part_chunk offset run bytes)) ≡ part_len run
length-part_chunk done cookie offset run bytes within =
    length-when (run.status == 0) done cookie offset run.length (take run.length bytes) (length-part run bytes within)

pub length-parts : (cookie offset : ℕ) (runs : List Run) (bytes : List ℕ) → PartsBytes runs bytes → sum_by part_len runs ≡ length (chunks_bytes cookie (part_chunks offset runs bytes))
length-parts cookie offset [] bytes parts = refl
length-parts cookie offset (run ∷ runs) bytes parts =
    let chunks = part_chunks (offset + run.length) runs (drop run.length bytes) in
    let first = length-part_chunk (is_last chunks) cookie offset run bytes parts.1 in
    omega (
      arith,
      first,
      sum_by-cons part_len run runs,
      length-parts cookie (offset + run.length) runs (drop run.length bytes) parts.3,
      length-append (chunk_bytes (is_last chunks) cookie (part_chunk offset run bytes)) (chunks_bytes cookie chunks),
    )

-- all that is taken, where nothing is left after it
take_whole : (size : ℕ) (bytes : List ℕ) → drop size bytes ≡ [] → take size bytes ≡ bytes
take_whole size bytes none =
    sym (append-nil (take size bytes)) ∙ ap (λ (rest : List ℕ). take size bytes ++ rest) (sym none) ∙ take-append-drop size bytes

-- the bytes of one run of data are one chunk
pub run_chunk : (offset : ℕ) (run : Run) (bytes : List ℕ) → run.status ≡ data_status → PartsBytes (run ∷ []) bytes → part_chunks offset (run ∷ []) bytes ≡ offset_data offset bytes ∷ []
run_chunk offset run bytes is_data parts =
    ap (λ (status : ℕ). (if status == data_status then offset_data offset (take run.length bytes) else offset_hole offset run.length) ∷ []) is_data
    ∙ ap (λ (part : List ℕ). offset_data offset part ∷ []) (take_whole run.length bytes parts.3)
