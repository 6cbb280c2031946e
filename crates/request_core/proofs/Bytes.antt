-- bytes that were read, as those of an image
use Rattle.std.proofs.Common.{◌≡◌, ◌≢◌, ◌⊎◌, ℕ, zero, suc, ◌+◌, ◌-◌, ◌*◌, ◌/◌, ◌%◌, ◌<◌, ◌≤◌, true, false, inl, inr, List, ◌++◌, drop, take, get_or, length, length-drop, replicate, sym, ◌∙◌, ap, refl, arith, rules}
use Rattle.std.proofs.Math.Dec.{leb}
use Rattle.std.proofs.lemmas.Bool.Decides.{leb_tells}
use Rattle.std.proofs.lemmas.Grind.{same_number_lists}
use Rattle.std.proofs.lemmas.List.{get_or-append-add, get_or_append_left, length-take-le, length-replicate, places}
use Rattle.alloc_map.specs.Codes.{state_at}
use Rattle.image_model.specs.Image.{Image}
use Rattle.image_model.specs.declared.command.Kind.{Kind}
use Rattle.image_model.specs.declared.command.Kind.TheVariants.{Data, Zero, Hole}
use Rattle.nbd_wire.specs.Answer.{IsInState}
use Rattle.export_model.specs.Shown.{bytes_from, read_status_of}
use Rattle.request_core.proofs.Parts.{AreInStates}

-- a byte of a block among others
byte_of : (bytes : List ℕ) (n k : ℕ) → k < 4096 → get_or (take 4096 (drop n bytes)) k 0 ≡ get_or bytes (n + k) 0
byte_of bytes n k inside = search (rules, places)

pub zero_there : (n k : ℕ) → let none : ℕ = 0 in get_or (replicate n none) k none ≡ none
zero_there zero k = refl
zero_there (suc n) zero = refl
zero_there (suc n) (suc k) = zero_there n k

-- a block that isn't data is zero
in_state : (kind : Kind) (bytes : List ℕ) (j : ℕ) → 4096 * j + 4096 ≤ length bytes → (kind ≢ Data → (k : ℕ) → k < 4096 → get_or bytes (4096 * j + k) 0 ≡ 0)
    → IsInState (read_status_of kind) (take 4096 (drop (4096 * j) bytes))
in_state kind bytes j inside zero_if = by_kind kind zero_if
  where
    block : List ℕ
    block = take 4096 (drop (4096 * j) bytes)

    size : length (take 4096 (drop (4096 * j) bytes)) ≡ 4096
    size = let left = length-drop (4096 * j) bytes in length-take-le 4096 (drop (4096 * j) bytes) (omega (arith, left, inside))

    zeros : ((k : ℕ) → k < 4096 → get_or bytes (4096 * j + k) 0 ≡ 0) → take 4096 (drop (4096 * j) bytes) ≡ replicate (length (take 4096 (drop (4096 * j) bytes))) 0
    zeros all = same_number_lists (take 4096 (drop (4096 * j) bytes)) (replicate (length (take 4096 (drop (4096 * j) bytes))) 0)
        (sym (length-replicate (length (take 4096 (drop (4096 * j) bytes))) 0))
        (λ k below. let within : k < 4096 = omega (arith, below, size) in
        byte_of bytes (4096 * j) k within ∙ all k within ∙ sym (zero_there (length (take 4096 (drop (4096 * j) bytes))) k))

    by_kind : (given : Kind) → (given ≢ Data → (k : ℕ) → k < 4096 → get_or bytes (4096 * j + k) 0 ≡ 0) → IsInState (read_status_of given) (take 4096 (drop (4096 * j) bytes))
    by_kind Data all = inl refl
    by_kind Zero all = inr (refl, zeros (all (λ is. cc)))
    by_kind Hole all = inr (refl, zeros (all (λ is. cc)))

pub all_in_states : (states : List Kind) (first count : ℕ) (bytes : List ℕ) → length bytes ≡ 4096 * count
    → ((j k : ℕ) → 4096 * j < length bytes → k < 4096 → state_at states (first + j) ≢ Data → get_or bytes (4096 * j + k) 0 ≡ 0)
    → AreInStates (λ b. read_status_of (state_at states b)) first count bytes
all_in_states states first count bytes size zero_if j below =
    in_state (state_at states (first + j)) bytes j (omega (arith, below, size)) (λ other k inside. zero_if j k (omega (arith, below, size)) inside other)

-- the bytes of an image, one by one
byte_from : (image : Image) (place count k : ℕ) → k < count → get_or (bytes_from image place count) k 0 ≡ image.byte (place + k)
unfolding bytes_from
byte_from image place zero k below = absurd (omega (arith, below))
byte_from image place (suc count) zero below = ap image.byte (let same : place ≡ place + 0 = omega arith in same)
byte_from image place (suc count) (suc k) below = byte_from image (place + 1) count k (omega (arith, below)) ∙ ap image.byte (let same : place + 1 + k ≡ place + suc k = omega arith in same)

length_from : (image : Image) (place count : ℕ) → length (bytes_from image place count) ≡ count
unfolding bytes_from
length_from image place zero = refl
length_from image place (suc count) = ap suc (length_from image (place + 1) count)

pub bytes_are : (image : Image) (place count : ℕ) (bytes : List ℕ) → length bytes ≡ count → ((k : ℕ) → k < count → get_or bytes k 0 ≡ image.byte (place + k))
    → bytes ≡ bytes_from image place count
bytes_are image place count bytes size are = same_number_lists bytes (bytes_from image place count) (size ∙ sym (length_from image place count))
    (λ k below. let within : k < count = omega (arith, below, size) in are k within ∙ sym (byte_from image place count k within))

-- Bytes from the offset on, which are zero where their blocks aren't data, with zeroes around them up to whole blocks: these are
-- zero in such blocks.
pub zero_around : (states : List Kind) (offset tail : ℕ) (bytes : List ℕ)
    → ((k : ℕ) → k < length bytes → state_at states ((offset + k) / 4096) ≢ Data → get_or bytes k 0 ≡ 0)
    → (j k : ℕ) → k < 4096 → state_at states (offset / 4096 + j) ≢ Data → get_or (replicate (offset % 4096) 0 ++ (bytes ++ replicate tail 0)) (4096 * j + k) 0 ≡ 0
zero_around states offset tail bytes zero_if j k inside other = by_front (leb_tells (offset % 4096) (4096 * j + k))
  where
    front : List ℕ
    front = replicate (offset % 4096) 0

    size : length front ≡ offset % 4096
    size = length-replicate {A = ℕ} (offset % 4096) 0

    by_tail : (q : ℕ) → 4096 * j + k ≡ offset % 4096 + q → ((leb (length bytes) q ≡ true) × (length bytes ≤ q)) ⊎ ((leb (length bytes) q ≡ false) × (q < length bytes))
        → get_or (bytes ++ replicate tail 0) q 0 ≡ 0
    by_tail q at (inl past) =
        let behind : ℕ = q - length bytes in
        let all : q ≡ length bytes + behind = omega (arith, past.1) in
        ap (λ (n : ℕ). get_or (bytes ++ replicate tail 0) n 0) all ∙ get_or-append-add bytes (replicate tail 0) behind 0 ∙ zero_there tail behind
    by_tail q at (inr within) =
        let block : (offset + q) / 4096 ≡ offset / 4096 + j = omega (arith, at, inside) in
        get_or_append_left bytes (replicate tail 0) 0 q within.1 ∙ zero_if q within.1 (λ is. other (ap (state_at states) (sym block) ∙ is))

    by_front : ((leb (offset % 4096) (4096 * j + k) ≡ true) × (offset % 4096 ≤ 4096 * j + k)) ⊎ ((leb (offset % 4096) (4096 * j + k) ≡ false) × (4096 * j + k < offset % 4096))
        → get_or (replicate (offset % 4096) 0 ++ (bytes ++ replicate tail 0)) (4096 * j + k) 0 ≡ 0
    by_front (inl past) =
        let q : ℕ = 4096 * j + k - offset % 4096 in
        let at : 4096 * j + k ≡ offset % 4096 + q = omega (arith, past.1) in
        let all : 4096 * j + k ≡ length front + q = omega (arith, at, size) in
        ap (λ (n : ℕ). get_or (replicate (offset % 4096) 0 ++ (bytes ++ replicate tail 0)) n 0) all
        ∙ get_or-append-add front (bytes ++ replicate tail 0) q 0 ∙ by_tail q at (leb_tells (length bytes) q)
    by_front (inr within) =
        get_or_append_left front (bytes ++ replicate tail 0) 0 (4096 * j + k) (let below = within.1 in omega (arith, below, size))
        ∙ zero_there (offset % 4096) (4096 * j + k)
