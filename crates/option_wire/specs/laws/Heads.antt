-- What stands before data, as it is read and as it is written.
use Rattle.std.proofs.Common.{◌≡◌, ℕ, ◌+◌, ◌<◌, ◌^◌, List, ◌++◌, length, get_or, take, drop, refl, sym, ap, ◌∙◌, inl, inr, length-append, length-take, length-drop, arith}
use Rattle.std.specs.Prelude.{Result, Ok, Err, OnErr}
use Rattle.std.specs.Int.{w32, w64, to_be_bytes, from_be_bytes}
use Rattle.std.proofs.lemmas.Bool.{cases_lt}
use Rattle.std.proofs.lemmas.List.{take-append-drop, get_or-drop, get_or-take, get_or_past}
use Rattle.std.proofs.lemmas.Nat.{be_bytes_4, be_bytes_8}
use Rattle.byteorder.specs.Endian.{big_number}
use Rattle.option_wire.specs.Head.{option_head, option_magic}
use Rattle.option_wire.specs.Reply.{reply_head}
use Rattle.option_wire.specs.laws.Texts.{number_32}

abbrev pub IsBytes : List ℕ → Type 0
IsBytes bytes = (i : ℕ) → get_or bytes i 0 < 256

take_bytes : (n : ℕ) (bytes : List ℕ) → IsBytes bytes → IsBytes (take n bytes)
take_bytes n bytes h k =
    elim (cases_lt k n) [
      | inl lt ↦ rw (get_or-take n bytes k 0 lt) (h k)
      | inr le ↦ rw (get_or_past (take n bytes) k 0 (omega (arith, length-take n bytes))) (omega arith)
    ]

drop_bytes : (n : ℕ) (bytes : List ℕ) → IsBytes bytes → IsBytes (drop n bytes)
drop_bytes n bytes h k = rw get_or-drop (h (n + k))

number_4 : (part : List ℕ) (n : ℕ) → length part ≡ 4 → IsBytes part → n ≡ big_number 4 part → part ≡ to_be_bytes w32 n
number_4 part n len fits is =
    let same : big_number 4 part ≡ from_be_bytes w32 part = omega arith in
    sym (be_bytes_4 part n len fits (is ∙ same))

number_8 : (part : List ℕ) (n : ℕ) → length part ≡ 8 → IsBytes part → n ≡ big_number 8 part → part ≡ to_be_bytes w64 n
number_8 part n len fits is =
    let same : big_number 8 part ≡ from_be_bytes w64 part = omega arith in
    sym (be_bytes_8 part n len fits (is ∙ same))

-- the numbers that stand at a head's places
pub head_of : (content front numbers first second : List ℕ) (option size : ℕ) → length content ≡ 16 → IsBytes content → front ≡ take 8 content → numbers ≡ drop 8 content
    → first ≡ take 4 numbers → second ≡ drop 4 numbers → 0x49484156454f5054 ≡ big_number 8 front → option ≡ big_number 4 first → size ≡ big_number 4 second
    → content ≡ option_head option size
unfolding option_head
head_of content front numbers first second option size len fits front_is numbers_is first_is second_is magic option_is size_is =
    let numbers_fit : IsBytes numbers = rw numbers_is (drop_bytes 8 content fits) in
    let front_fit : IsBytes front = rw front_is (take_bytes 8 content fits) in
    let first_fit : IsBytes first = rw first_is (take_bytes 4 numbers numbers_fit) in
    let second_fit : IsBytes second = rw second_is (drop_bytes 4 numbers numbers_fit) in
    let numbers_len : length numbers ≡ 8 = omega (arith, ap length numbers_is, length-drop 8 content) in
    let a = number_8 front 0x49484156454f5054 (omega (arith, ap length front_is, length-take 8 content)) front_fit magic in
    let b = number_4 first option (omega (arith, ap length first_is, length-take 4 numbers)) first_fit option_is in
    let d = number_4 second size (omega (arith, ap length second_is, length-drop 4 numbers)) second_fit size_is in
    let numbers_parts : numbers ≡ first ++ second = sym (take-append-drop 4 numbers) ∙ (λ i. sym first_is i ++ sym second_is i) in
    let parts : content ≡ front ++ numbers = sym (take-append-drop 8 content) ∙ (λ i. sym front_is i ++ sym numbers_is i) in
    parts ∙ (λ i. a i ++ (numbers_parts ∙ (λ j. b j ++ d j)) i)

pub length-option_head : (option size : ℕ) → length (option_head option size) ≡ 16
unfolding option_head
length-option_head option size = refl

pub take-option_head : (option size : ℕ) (rest : List ℕ) → take 8 (option_head option size ++ rest) ≡ option_magic
unfolding option_head
take-option_head option size rest = refl

-- no head begins another
pub one_head : (option other size other_size : ℕ) (x y : List ℕ) → option < 2 ^ 32 → other < 2 ^ 32 → size < 2 ^ 32 → other_size < 2 ^ 32
    → option_head option size ++ x ≡ option_head other other_size ++ y → (option ≡ other) × (size ≡ other_size) × (x ≡ y)
unfolding option_head
one_head option other size other_size x y p q r s same =
    let options = number_32 option other (to_be_bytes w32 size ++ x) (to_be_bytes w32 other_size ++ y) p q (ap (drop 8) same) in
    let sizes = number_32 size other_size x y r s options.1 in
    (options.0, sizes.0, sizes.1)

pub one_reply_head : (option other kind other_kind size other_size : ℕ) (x y : List ℕ) → option < 2 ^ 32 → other < 2 ^ 32 → kind < 2 ^ 32 → other_kind < 2 ^ 32 → size < 2 ^ 32 → other_size < 2 ^ 32
    → reply_head option kind size ++ x ≡ reply_head other other_kind other_size ++ y → (option ≡ other) × (kind ≡ other_kind) × (size ≡ other_size) × (x ≡ y)
unfolding reply_head
one_reply_head option other kind other_kind size other_size x y p q r s t u same =
    let options = number_32 option other (to_be_bytes w32 kind ++ (to_be_bytes w32 size ++ x)) (to_be_bytes w32 other_kind ++ (to_be_bytes w32 other_size ++ y)) p q (ap (drop 8) same) in
    let kinds = number_32 kind other_kind (to_be_bytes w32 size ++ x) (to_be_bytes w32 other_size ++ y) r s options.1 in
    let sizes = number_32 size other_size x y t u kinds.1 in
    (options.0, kinds.0, sizes.0, sizes.1)

-- ---- lengths

pub length_reply_head : (option kind size : ℕ) → length (reply_head option kind size) ≡ 20
unfolding reply_head
length_reply_head option kind size = refl

-- there is no room for a reply whose data have this length
pub no_room : {T E : Type 0} (r : Result T E) (capacity len size option kind count : ℕ) (content : List ℕ) → capacity < len + (20 + size) → size ≡ length content
    → OnErr r (capacity < len + length (reply_head option kind count ++ content))
no_room (Ok done) capacity len size option kind count content full is = tt
no_room (Err error) capacity len size option kind count content full is =
    omega (arith, full, is, length-append (reply_head option kind count) content, length_reply_head option kind count)
