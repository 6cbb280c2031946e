-- Lists of items after their number, as they are read.
use Rattle.std.proofs.Common.{◌≡◌, ℕ, ◌<◌, ◌^◌, List, ◌++◌, length, sym, ap, ◌∙◌, length-append, arith}
use Rattle.std.specs.Prelude.{Result, Err, IsErrOf}
use Rattle.std.specs.Int.{w16, w32, to_be_bytes}
use Rattle.std.specs.List.{flat_map}
use Rattle.std.proofs.lemmas.List.{append-nil, nil_from_length}
use Rattle.option_wire.specs.declared.error.OptionFault.{OptionFault}
use Rattle.option_wire.specs.declared.error.OptionFault.TheVariants.{Malformed}
use Rattle.option_wire.specs.Field.{AreQueries, AreTypes, IsText, counted, queries_bytes, types_bytes}
use Rattle.option_wire.specs.laws.Texts.{number_16, number_32}
use Rattle.option_wire.specs.laws.Items.{Reads, Reads-more, Reads-end, types_apart, texts_apart}

pub no_types : (content types : List ℕ) → length content < 2 → content ≡ types_bytes types → ⊥
unfolding types_bytes
no_types content types short same = omega (arith, ap length same, length-append (to_be_bytes w16 (length types)) (flat_map (to_be_bytes w16) types))

pub no_queries : (content : List ℕ) (queries : List (List ℕ)) → length content < 4 → content ≡ queries_bytes queries → ⊥
unfolding queries_bytes
no_queries content queries short same = omega (arith, ap length same, length-append (to_be_bytes w32 (length queries)) (flat_map counted queries))

types_in : (content rest types : List ℕ) (count : ℕ) → count < 2 ^ 16 → AreTypes types → content ≡ to_be_bytes w16 count ++ rest → content ≡ types_bytes types
    → (count ≡ length types) × (rest ≡ flat_map (to_be_bytes w16) types)
unfolding types_bytes
types_in content rest types count fits are whole same = number_16 count (length types) rest (flat_map (to_be_bytes w16) types) fits are.0 (sym whole ∙ same)

queries_in : (content rest : List ℕ) (queries : List (List ℕ)) (count : ℕ) → count < 2 ^ 32 → AreQueries queries → content ≡ to_be_bytes w32 count ++ rest → content ≡ queries_bytes queries
    → (count ≡ length queries) × (rest ≡ flat_map counted queries)
unfolding queries_bytes
queries_in content rest queries count fits are whole same = number_32 count (length queries) rest (flat_map counted queries) fits are.0 (sym whole ∙ same)

-- the items end before their number is reached
pub short_types : (content rest items behind types : List ℕ) (count : ℕ) → count < 2 ^ 16 → content ≡ to_be_bytes w16 count ++ rest → Reads (to_be_bytes w16) (λ kind. kind < 2 ^ 16) rest items behind
    → length items < count → length behind < 2 → AreTypes types → content ≡ types_bytes types → ⊥
short_types content rest items behind types count fits whole reads lt short are same =
    let in_types = types_in content rest types count fits are whole same in
    let more = Reads-more (to_be_bytes w16) (λ kind. kind < 2 ^ 16) types_apart rest items types behind reads are.1 (omega (arith, in_types.0)) in_types.1 in
    omega (arith, short, ap length more.3, length-append (to_be_bytes w16 more.0) more.1)

pub short_queries : (content rest behind : List ℕ) (items queries : List (List ℕ)) (count : ℕ) → count < 2 ^ 32 → content ≡ to_be_bytes w32 count ++ rest → Reads counted IsText rest items behind
    → length items < count → ((text more : List ℕ) → IsText text → behind ≡ counted text ++ more → ⊥) → AreQueries queries → content ≡ queries_bytes queries → ⊥
short_queries content rest behind items queries count fits whole reads lt short are same =
    let in_queries = queries_in content rest queries count fits are whole same in
    let more = Reads-more counted IsText texts_apart rest items queries behind reads are.1 (omega (arith, in_queries.0)) in_queries.1 in
    short more.0 more.1 more.2 more.3

-- something stands after the last item
pub long_types : (content rest items behind types : List ℕ) (count : ℕ) → count < 2 ^ 16 → content ≡ to_be_bytes w16 count ++ rest → Reads (to_be_bytes w16) (λ kind. kind < 2 ^ 16) rest items behind
    → length items ≡ count → 0 < length behind → AreTypes types → content ≡ types_bytes types → ⊥
long_types content rest items behind types count fits whole reads len some are same =
    let in_types = types_in content rest types count fits are whole same in
    let none = Reads-end (to_be_bytes w16) (λ kind. kind < 2 ^ 16) types_apart rest items types behind reads are.1 (len ∙ in_types.0) in_types.1 in
    omega (arith, some, ap length none)

pub long_queries : (content rest behind : List ℕ) (items queries : List (List ℕ)) (count : ℕ) → count < 2 ^ 32 → content ≡ to_be_bytes w32 count ++ rest → Reads counted IsText rest items behind
    → length items ≡ count → 0 < length behind → AreQueries queries → content ≡ queries_bytes queries → ⊥
long_queries content rest behind items queries count fits whole reads len some are same =
    let in_queries = queries_in content rest queries count fits are whole same in
    let none = Reads-end counted IsText texts_apart rest items queries behind reads are.1 (len ∙ in_queries.0) in_queries.1 in
    omega (arith, some, ap length none)

-- all of them were read
pub types_of : (content rest items behind : List ℕ) (count : ℕ) → content ≡ to_be_bytes w16 count ++ rest → Reads (to_be_bytes w16) (λ kind. kind < 2 ^ 16) rest items behind
    → length items ≡ count → length behind ≡ 0 → content ≡ types_bytes items
unfolding types_bytes
types_of content rest items behind count whole reads len none =
    let whole_rest : rest ≡ flat_map (to_be_bytes w16) items = reads.whole ∙ ap (λ (t : List ℕ). flat_map (to_be_bytes w16) items ++ t) (nil_from_length behind none) ∙ append-nil (flat_map (to_be_bytes w16) items) in
    whole ∙ (λ i. to_be_bytes w16 (sym len i) ++ whole_rest i)

pub queries_of : (content rest behind : List ℕ) (items : List (List ℕ)) (count : ℕ) → content ≡ to_be_bytes w32 count ++ rest → Reads counted IsText rest items behind
    → length items ≡ count → length behind ≡ 0 → content ≡ queries_bytes items
unfolding queries_bytes
queries_of content rest behind items count whole reads len none =
    let whole_rest : rest ≡ flat_map counted items = reads.whole ∙ ap (λ (t : List ℕ). flat_map counted items ++ t) (nil_from_length behind none) ∙ append-nil (flat_map counted items) in
    whole ∙ (λ i. to_be_bytes w32 (sym len i) ++ whole_rest i)

-- a fault that is passed on by `?` is the one that came
pub same_fault : {T U : Type 0} (r : Result T OptionFault) (fault field : OptionFault) → r ≡ Err fault → fault ≡ field → IsErrOf r Malformed
    → (let passed : Result U OptionFault = Err field in IsErrOf passed Malformed)
same_fault r fault field is same malformed =
    let both : Err fault ≡ Err Malformed = sym is ∙ malformed in
    ap Err (sym same ∙ cc both)
