-- The heads of groups and of commands, found in bytes and read back.
use Rattle.std.proofs.Common.{◌≡◌, ⊎_elim, ℕ, zero, suc, ◌+◌, ◌-◌, ◌*◌, ◌/◌, ◌^◌, ◌≤◌, ◌<◌, List, [], ◌∷◌, ◌++◌, length, slice_index, take, drop, sym, ◌∙◌, ap, subst, arith, length-append}
use Rattle.std.proofs.Math.Nat.{mul-le-mul_right, mod-lt}
use Rattle.std.proofs.lemmas.Bool.{cases_lt}
use Rattle.std.proofs.lemmas.List.{get_or_append_left, get_or-append-add, get_or-drop, take_all, length-drop}
use Rattle.std.specs.Int.{byte_at}
use Rattle.byteorder.specs.Endian.{big_from, big_bytes}
use Rattle.byteorder.specs.Numbers.{big_from-lt, big_from-append, big_number-reads_back, length-bytes_high_first}
use Rattle.journal_format.specs.Spelling.{change_head, group_head}
use Rattle.journal_format.specs.GroupList.{StandsAt}

-- one list of bytes after another
pub stands_append : (content : List ℕ) (place : ℕ) (xs ys : List ℕ) → StandsAt content place xs → StandsAt content (place + length xs) ys → StandsAt content place (xs ++ ys)
stands_append content place xs ys front back k below = ⊎_elim
    (λ low. front k low ∙ sym (get_or_append_left xs ys 0 k low))
    (λ high.
    let here : length xs + (k - length xs) ≡ k = omega arith in
    let at : place + k ≡ place + length xs + (k - length xs) = omega arith in
    ap (λ (p : ℕ). slice_index content p) at
    ∙ back (k - length xs) (omega (arith, length-append xs ys))
    ∙ sym (get_or-append-add xs ys (k - length xs) 0)
    ∙ ap (λ (p : ℕ). slice_index (xs ++ ys) p) here)
    (cases_lt k (length xs))

-- what stands in bytes that stand in a content stands in the content
pub stands_in : (content bytes xs : List ℕ) (place from : ℕ) → StandsAt content place bytes → StandsAt bytes from xs → from + length xs ≤ length bytes → StandsAt content (place + from) xs
stands_in content bytes xs place from outer inner fits k below =
    let at : place + from + k ≡ place + (from + k) = omega arith in
    ap (λ (p : ℕ). slice_index content p) at ∙ outer (from + k) (omega arith) ∙ inner k below

-- a number has one row of digits
digits : (a b m r s : ℕ) → r < m → s < m → a * m + r ≡ b * m + s → (a ≡ b) × (r ≡ s)
digits a b m r s low low' same = ⊎_elim
    (λ less. absurd (let wide : (a + 1) * m ≤ b * m = mul-le-mul_right m (omega arith) in omega arith))
    (λ least. ⊎_elim
    (λ less. absurd (let wide : (b + 1) * m ≤ a * m = mul-le-mul_right m (omega arith) in omega arith))
    (λ most. let alike : a ≡ b = omega arith in (alike, let both : a * m ≡ b * m = ap (λ (x : ℕ). x * m) alike in omega arith))
    (cases_lt b a))
    (cases_lt a b)

same_digits : (n i j : ℕ) (xs ys : List ℕ) → ((k : ℕ) → slice_index xs k < 256) → ((k : ℕ) → slice_index ys k < 256) → big_from i n xs ≡ big_from j n ys
    → (k : ℕ) → k < n → slice_index xs (i + k) ≡ slice_index ys (j + k)
same_digits zero i j xs ys low low' same k below = absurd (omega arith)
same_digits (suc n) i j xs ys low low' same zero below =
    let here : i + 0 ≡ i = omega arith in
    let there : j + 0 ≡ j = omega arith in
    let parts = digits (slice_index xs i) (slice_index ys j) (256 ^ n) (big_from (suc i) n xs) (big_from (suc j) n ys) (big_from-lt (suc i) n xs low) (big_from-lt (suc j) n ys low') same in
    ap (λ (p : ℕ). slice_index xs p) here ∙ parts.0 ∙ ap (λ (p : ℕ). slice_index ys p) (sym there)
same_digits (suc n) i j xs ys low low' same (suc k) below =
    let here : i + suc k ≡ suc i + k = omega arith in
    let there : suc j + k ≡ j + suc k = omega arith in
    let parts = digits (slice_index xs i) (slice_index ys j) (256 ^ n) (big_from (suc i) n xs) (big_from (suc j) n ys) (big_from-lt (suc i) n xs low) (big_from-lt (suc j) n ys low') same in
    ap (λ (p : ℕ). slice_index xs p) here ∙ same_digits n (suc i) (suc j) xs ys low low' parts.1 k (omega arith) ∙ ap (λ (p : ℕ). slice_index ys p) there

byte_fits : (k x : ℕ) → byte_at k x < 256
byte_fits zero x = mod-lt x (omega arith)
byte_fits (suc k) x = mod-lt (x / 256 ^ suc k) (omega arith)

bytes_fit : (n x k : ℕ) → slice_index (big_bytes n x) k < 256
bytes_fit zero x k = omega arith
bytes_fit (suc n) x zero = byte_fits n x
bytes_fit (suc n) x (suc k) = bytes_fit n x k

-- the bytes that a number was read from spell it
pub number_stands : (n from : ℕ) (bytes : List ℕ) (number : ℕ) → ((k : ℕ) → slice_index bytes k < 256) → number ≡ big_from 0 n (take (length bytes - from) (drop from bytes)) → StandsAt bytes from (big_bytes n number)
number_stands n from bytes number low read k below =
    let all : take (length bytes - from) (drop from bytes) ≡ drop from bytes = take_all (length bytes - from) (drop from bytes) (omega (arith, length-drop from bytes)) in
    let here : 0 + k ≡ k = omega arith in
    let low_behind = λ (j : ℕ). subst (λ (byte : ℕ). byte < 256) (sym (get_or-drop from bytes j 0)) (low (from + j)) in
    let number_is : number ≡ big_from 0 n (drop from bytes) = read ∙ ap (λ (l : List ℕ). big_from 0 n l) all in
    let fits : number < 256 ^ n = subst (λ (x : ℕ). x < 256 ^ n) (sym number_is) (big_from-lt 0 n (drop from bytes) low_behind) in
    let back : big_from 0 n (big_bytes n number) ≡ number =
    sym (big_from-append n (big_bytes n number) [] (omega (arith, length-bytes_high_first n number))) ∙ big_number-reads_back n number [] fits in
    sym (get_or-drop from bytes k 0)
    ∙ ap (λ (p : ℕ). slice_index (drop from bytes) p) (sym here)
    ∙ same_digits n 0 0 (drop from bytes) (big_bytes n number) low_behind (bytes_fit n number) (sym number_is ∙ sym back) k (omega (arith, below, length-bytes_high_first n number))
    ∙ ap (λ (p : ℕ). slice_index (big_bytes n number) p) here

pub group_head_stands : (bytes : List ℕ) (body first count : ℕ) → StandsAt bytes 1 (big_bytes 4 body) → StandsAt bytes 5 (big_bytes 8 first) → StandsAt bytes 13 (big_bytes 4 count) → StandsAt bytes 1 (group_head body first count)
unfolding group_head
group_head_stands bytes body first count one two three =
    stands_append bytes 1 (big_bytes 4 body) (big_bytes 8 first ++ big_bytes 4 count) one (stands_append bytes 5 (big_bytes 8 first) (big_bytes 4 count) two three)

pub command_head_stands : (bytes : List ℕ) (kind first blocks : ℕ) → slice_index bytes 0 ≡ kind → StandsAt bytes 1 (big_bytes 8 first) → StandsAt bytes 9 (big_bytes 4 blocks) → StandsAt bytes 0 (change_head kind first blocks)
unfolding change_head
command_head_stands bytes kind first blocks one two three =
    stands_append bytes 0 (kind ∷ []) (big_bytes 8 first ++ big_bytes 4 blocks) single (stands_append bytes 1 (big_bytes 8 first) (big_bytes 4 blocks) two three)
  where
    single : StandsAt bytes 0 (kind ∷ [])
    single zero below = one
    single (suc k) below = absurd (omega arith)
