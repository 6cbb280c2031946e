-- A head is read back from its bytes, and its bytes from what was read.
use Rattle.std.proofs.Common.{◌≡◌, ℕ, ◌+◌, ◌<◌, ◌≤◌, List, [], ◌++◌, length, get_or, take, drop, refl, sym, ap, ◌∙◌, arith, inl, inr}
use Rattle.std.specs.Int.{w16, w32, w64, to_be_bytes, from_be_bytes}
use Rattle.std.proofs.lemmas.Bool.{cases_lt}
use Rattle.std.proofs.lemmas.List.{take-append-drop, drop-drop, append-nil, nil_from_length, length-take, length-drop, get_or-drop, get_or-take, get_or_past}
use Rattle.std.proofs.lemmas.Nat.{be_bytes_2, be_bytes_4, be_bytes_8, from_be_bytes-to_be_bytes_2, from_be_bytes-to_be_bytes_4, from_be_bytes-to_be_bytes_8}
use Rattle.byteorder.specs.Endian.{big_number}
use Rattle.nbd_wire.specs.declared.head.RequestHead.{RequestHead}
use Rattle.nbd_wire.specs.Head.{request_magic, head_bytes, IsHead}

-- the head that 28 bytes or more begin with, where their magic number is right
abbrev pub head_of : List ℕ → RequestHead
head_of bytes = record {
  flags = from_be_bytes w16 (take 2 (drop 4 bytes));
  kind = from_be_bytes w16 (take 2 (drop 6 bytes));
  cookie = from_be_bytes w64 (take 8 (drop 8 bytes));
  offset = from_be_bytes w64 (take 8 (drop 16 bytes));
  length = from_be_bytes w32 (take 4 (drop 24 bytes));
}

pub head_of-head_bytes : (head : RequestHead) (x : List ℕ) → IsHead head → head_of (head_bytes head ++ x) ≡ head
unfolding head_bytes
head_of-head_bytes head x fits = λ i. record {
  flags = from_be_bytes-to_be_bytes_2 head.flags fits.flags i;
  kind = from_be_bytes-to_be_bytes_2 head.kind fits.kind i;
  cookie = from_be_bytes-to_be_bytes_8 head.cookie fits.cookie i;
  offset = from_be_bytes-to_be_bytes_8 head.offset fits.offset i;
  length = from_be_bytes-to_be_bytes_4 head.length fits.length i;
}

pub length-head_bytes : (head : RequestHead) → length (head_bytes head) ≡ 28
unfolding head_bytes
length-head_bytes head = refl

pub take-head_bytes : (head : RequestHead) (x : List ℕ) → take 4 (head_bytes head ++ x) ≡ request_magic
unfolding head_bytes
take-head_bytes head x = refl

pub drop-head_bytes : (head : RequestHead) (x : List ℕ) → drop 28 (head_bytes head ++ x) ≡ x
unfolding head_bytes
drop-head_bytes head x = refl

pub one_head_lem : (this other : RequestHead) (x y : List ℕ) → IsHead this → IsHead other
    → head_bytes this ++ x ≡ head_bytes other ++ y → (this ≡ other) × (x ≡ y)
one_head_lem this other x y fits other_fits same = (
  sym (head_of-head_bytes this x fits) ∙ ap head_of same ∙ head_of-head_bytes other y other_fits,
  sym (drop-head_bytes this x) ∙ ap (drop 28) same ∙ drop-head_bytes other y,
)

-- ---- what was read

abbrev pub IsBytes : List ℕ → Type 0
IsBytes bytes = (i : ℕ) → get_or bytes i 0 < 256

IsBytes-part : (i n : ℕ) (bytes : List ℕ) → IsBytes bytes → IsBytes (take n (drop i bytes))
IsBytes-part i n bytes h k =
    elim (cases_lt k n) [
      | inl lt ↦ rw (get_or-take n (drop i bytes) k 0 lt, get_or-drop) (h (i + k))
      | inr le ↦ rw (get_or_past (take n (drop i bytes)) k 0 (omega (arith, length-take n (drop i bytes)))) (omega arith)
    ]

length-part : (i n : ℕ) (bytes : List ℕ) → i + n ≤ length bytes → length (take n (drop i bytes)) ≡ n
length-part i n bytes h = omega (arith, length-take n (drop i bytes), length-drop i bytes)

big_2 : (xs : List ℕ) → big_number 2 xs ≡ from_be_bytes w16 xs
big_2 xs = omega arith

big_4 : (xs : List ℕ) → big_number 4 xs ≡ from_be_bytes w32 xs
big_4 xs = omega arith

big_8 : (xs : List ℕ) → big_number 8 xs ≡ from_be_bytes w64 xs
big_8 xs = omega arith

part_2 : (i : ℕ) (bytes : List ℕ) (n : ℕ) → i + 2 ≤ length bytes → IsBytes bytes → n ≡ big_number 2 (take 2 (drop i bytes)) → take 2 (drop i bytes) ≡ to_be_bytes w16 n
part_2 i bytes n h fits e = sym (be_bytes_2 (take 2 (drop i bytes)) n (length-part i 2 bytes h) (IsBytes-part i 2 bytes fits) (e ∙ big_2 (take 2 (drop i bytes))))

part_4 : (i : ℕ) (bytes : List ℕ) (n : ℕ) → i + 4 ≤ length bytes → IsBytes bytes → n ≡ big_number 4 (take 4 (drop i bytes)) → take 4 (drop i bytes) ≡ to_be_bytes w32 n
part_4 i bytes n h fits e = sym (be_bytes_4 (take 4 (drop i bytes)) n (length-part i 4 bytes h) (IsBytes-part i 4 bytes fits) (e ∙ big_4 (take 4 (drop i bytes))))

part_8 : (i : ℕ) (bytes : List ℕ) (n : ℕ) → i + 8 ≤ length bytes → IsBytes bytes → n ≡ big_number 8 (take 8 (drop i bytes)) → take 8 (drop i bytes) ≡ to_be_bytes w64 n
part_8 i bytes n h fits e = sym (be_bytes_8 (take 8 (drop i bytes)) n (length-part i 8 bytes h) (IsBytes-part i 8 bytes fits) (e ∙ big_8 (take 8 (drop i bytes))))

-- a list in six parts
abbrev joined : List ℕ → List ℕ → List ℕ → List ℕ → List ℕ → List ℕ → List ℕ
joined a b c d e f = a ++ (b ++ (c ++ (d ++ (e ++ f))))

joined_same : (a b c d e f a' b' c' d' e' f' : List ℕ) → a ≡ a' → b ≡ b' → c ≡ c' → d ≡ d' → e ≡ e' → f ≡ f' → joined a b c d e f ≡ joined a' b' c' d' e' f'
joined_same a b c d e f a' b' c' d' e' f' p q r s t u = λ i. joined (p i) (q i) (r i) (s i) (t i) (u i)

-- what is after place i, by its first n elements
split_at : (i n : ℕ) (bytes : List ℕ) → drop i bytes ≡ take n (drop i bytes) ++ drop (i + n) bytes
split_at i n bytes = sym (take-append-drop n (drop i bytes)) ∙ ap (λ (x : List ℕ). take n (drop i bytes) ++ x) (drop-drop n i bytes)

parts : (bytes : List ℕ) → length bytes ≡ 28 → bytes ≡ joined (take 4 (drop 0 bytes)) (take 2 (drop 4 bytes)) (take 2 (drop 6 bytes)) (take 8 (drop 8 bytes)) (take 8 (drop 16 bytes)) (take 4 (drop 24 bytes))
parts bytes len =
    let last : drop 28 bytes ≡ [] = nil_from_length (drop 28 bytes) (omega (arith, length-drop 28 bytes)) in
    let end : drop 24 bytes ≡ take 4 (drop 24 bytes) = split_at 24 4 bytes ∙ ap (λ (x : List ℕ). take 4 (drop 24 bytes) ++ x) last ∙ append-nil (take 4 (drop 24 bytes)) in
    let e : drop 16 bytes ≡ take 8 (drop 16 bytes) ++ take 4 (drop 24 bytes) = split_at 16 8 bytes ∙ ap (λ (x : List ℕ). take 8 (drop 16 bytes) ++ x) end in
    let d : drop 8 bytes ≡ take 8 (drop 8 bytes) ++ (take 8 (drop 16 bytes) ++ take 4 (drop 24 bytes)) = split_at 8 8 bytes ∙ ap (λ (x : List ℕ). take 8 (drop 8 bytes) ++ x) e in
    let c : drop 6 bytes ≡ take 2 (drop 6 bytes) ++ (take 8 (drop 8 bytes) ++ (take 8 (drop 16 bytes) ++ take 4 (drop 24 bytes))) = split_at 6 2 bytes ∙ ap (λ (x : List ℕ). take 2 (drop 6 bytes) ++ x) d in
    let b : drop 4 bytes ≡ take 2 (drop 4 bytes) ++ (take 2 (drop 6 bytes) ++ (take 8 (drop 8 bytes) ++ (take 8 (drop 16 bytes) ++ take 4 (drop 24 bytes)))) = split_at 4 2 bytes ∙ ap (λ (x : List ℕ). take 2 (drop 4 bytes) ++ x) c in
    split_at 0 4 bytes ∙ ap (λ (x : List ℕ). take 4 (drop 0 bytes) ++ x) b

-- the numbers that stand at a head's places are the head whose bytes these are
pub head_bytes_of : (bytes : List ℕ) (head : RequestHead) → length bytes ≡ 28 → IsBytes bytes
    → 0x25609513 ≡ big_number 4 (take 4 (drop 0 bytes)) → head.flags ≡ big_number 2 (take 2 (drop 4 bytes)) → head.kind ≡ big_number 2 (take 2 (drop 6 bytes))
    → head.cookie ≡ big_number 8 (take 8 (drop 8 bytes)) → head.offset ≡ big_number 8 (take 8 (drop 16 bytes)) → head.length ≡ big_number 4 (take 4 (drop 24 bytes))
    → bytes ≡ head_bytes head
unfolding head_bytes
head_bytes_of bytes head len fits magic flags kind cookie offset length =
    parts bytes len ∙ joined_same _ _ _ _ _ _ _ _ _ _ _ _
    (part_4 0 bytes 0x25609513 (omega arith) fits magic) (part_2 4 bytes head.flags (omega arith) fits flags) (part_2 6 bytes head.kind (omega arith) fits kind)
    (part_8 8 bytes head.cookie (omega arith) fits cookie) (part_8 16 bytes head.offset (omega arith) fits offset) (part_4 24 bytes head.length (omega arith) fits length)
