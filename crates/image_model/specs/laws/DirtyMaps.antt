-- what stands in a map of dirty blocks, and how many blocks it has
use Rattle.std.proofs.Common.{◌≡◌, ℕ, ◌+◌, ◌-◌, ◌*◌, zero, suc, min, Bool, true, false, cond, not, ◌||◌, ◌&&◌, nat_eq, if◌then◌else◌, Option, Some, None, List, [], ◌∷◌, ◌++◌, length, sym, ap, ◌∙◌, refl, arith}
use Rattle.std.specs.Option.{is_some}
use Rattle.std.specs.List.{list_any}
use Rattle.std.specs.Ordering.{nat_cmp}
use Rattle.std.specs.Cmp.{nat_cmp_total, unsigned_tied}
use Rattle.std.specs.FinMap.{empty, get, len, get-empty, get-insert, get-retain_keys, len-insert, nat_cmp-IsAntisymmetric}
use Rattle.std.proofs.lemmas.Bool.Decides.{nat_tests}
use Rattle.image_model.specs.declared.command.Edges.{Edges}
use Rattle.image_model.specs.declared.command.Edges.TheVariants.{Head, Tail, Both}
use Rattle.image_model.specs.Change.{Change, Written, Cleared, Edged}
use Rattle.image_model.specs.Image.{covers, blocks_of, edge_slot, last_of, touches, writes}
use Rattle.image_model.specs.Dirty.{Dirty, with_blocks, without_blocks, with_edges, with_written, dirty_after, dirty_from, dirty_blocks, last_write}
use Rattle.image_model.specs.laws.Slots.{touched_and_written}

pub covers_none : (first q : ℕ) → covers first 0 q ≡ false
covers_none first q = grind (arith, nat_tests)

pub covers_more : (first count q : ℕ) → covers first (suc count) q ≡ (nat_eq q (first + count) || covers first count q)
covers_more first count q = grind (arith, nat_tests)

past_range : (first count : ℕ) → covers first count (first + count) ≡ false
past_range first count = grind (arith, nat_tests)

one_of : {X : Type 0} (a b : Bool) (x y : X) → cond a x (cond b x y) ≡ cond (a || b) x y
one_of true b x y = refl
one_of false b x y = refl

turned : {X : Type 0} (b : Bool) (x y : X) → cond (not b) x y ≡ cond b y x
turned true x y = refl
turned false x y = refl

-- the blocks of a range have the number, another keeps its own
pub get-with_blocks : (dirty : Dirty) (number first count q : ℕ) →
    get (with_blocks dirty number first count) q ≡ (if covers first count q then Some number else get dirty q)
unfolding with_blocks
get-with_blocks dirty number first zero q = sym (ap (λ b. cond b (Some number) (get dirty q)) (covers_none first q))
get-with_blocks dirty number first (suc count) q =
    get-insert nat_cmp_total _ (first + count) number q
    ∙ (λ i. cond (unsigned_tied q (first + count) i) (Some number) (get-with_blocks dirty number first count q i))
    ∙ one_of (nat_eq q (first + count)) (covers first count q) (Some number) (get dirty q)
    ∙ sym (ap (λ b. cond b (Some number) (get dirty q)) (covers_more first count q))

-- the blocks of a range have none, another keeps its own
pub get-without_blocks : (dirty : Dirty) (first count q : ℕ) →
    get (without_blocks dirty first count) q ≡ (if covers first count q then None else get dirty q)
get-without_blocks dirty first count q =
    get-retain_keys dirty (λ block. not (covers first count block)) q
    (λ x tie. sym (ap (λ block. not (covers first count block)) (nat_cmp-IsAntisymmetric q x tie)))
    ∙ turned (covers first count q) (get dirty q) None

-- a block counts once, whether it was dirty or not
pub len-with_blocks_more : (dirty : Dirty) (number first count : ℕ) →
    len (with_blocks dirty number first (suc count))
    ≡ (if is_some (get dirty (first + count)) then len (with_blocks dirty number first count) else len (with_blocks dirty number first count) + 1)
unfolding with_blocks
len-with_blocks_more dirty number first count =
    let wider = with_blocks dirty number first count in
    len-insert nat_cmp_total wider (first + count) number
    ∙ ap (λ (o : Option ℕ). cond (is_some o) (len wider) (len wider + 1))
    (get-with_blocks dirty number first count (first + count)
    ∙ ap (λ b. cond b (Some number) (get dirty (first + count))) (past_range first count))

pub with_blocks_none : (dirty : Dirty) (number first : ℕ) → with_blocks dirty number first 0 ≡ dirty
unfolding with_blocks
with_blocks_none dirty number first = refl

-- an edge is covered where there is a block
first_covered : (first count q : ℕ) → covers first (min 1 count) q ≡ (covers first count q && nat_eq q first)
first_covered first count q = grind (arith, nat_tests)

last_covered : (first count q : ℕ) → covers (last_of first count) (min 1 count) q ≡ (covers first count q && nat_eq q (last_of first count))
last_covered first count q = grind (arith, nat_tests)

one_slot : (covered here : Bool) (at : ℕ) → is_some (if covered then (if here then Some at else None) else None) ≡ (covered && here)
one_slot true true at = refl
one_slot true false at = refl
one_slot false here at = refl

two_slots : (covered here there : Bool) → is_some {T = ℕ} (if covered then (if here then Some 0 else (if there then Some 4096 else None)) else None)
    ≡ ((covered && there) || (covered && here))
two_slots true true true = refl
two_slots true true false = refl
two_slots true false true = refl
two_slots true false false = refl
two_slots false here there = refl

-- the edges have the number, another keeps its own
pub get-with_edges : (dirty : Dirty) (number first blocks : ℕ) (edges : Edges) (q : ℕ) → get (with_edges dirty number first blocks edges) q
    ≡ (if is_some (if covers first blocks q then edge_slot edges (nat_eq q first) (nat_eq q (last_of first blocks)) else None) then Some number else get dirty q)
get-with_edges dirty number first blocks Head q =
    get-with_blocks dirty number first (min 1 blocks) q
    ∙ ap (λ b. cond b (Some number) (get dirty q))
    (first_covered first blocks q ∙ sym (one_slot (covers first blocks q) (nat_eq q first) 0))
get-with_edges dirty number first blocks Tail q =
    get-with_blocks dirty number (last_of first blocks) (min 1 blocks) q
    ∙ ap (λ b. cond b (Some number) (get dirty q))
    (last_covered first blocks q ∙ sym (one_slot (covers first blocks q) (nat_eq q (last_of first blocks)) 0))
get-with_edges dirty number first blocks Both q =
    get-with_blocks (with_blocks dirty number first (min 1 blocks)) number (last_of first blocks) (min 1 blocks) q
    ∙ ap (cond (covers (last_of first blocks) (min 1 blocks) q) (Some number)) (get-with_blocks dirty number first (min 1 blocks) q)
    ∙ one_of (covers (last_of first blocks) (min 1 blocks) q) (covers first (min 1 blocks) q) (Some number) (get dirty q)
    ∙ ap (λ b. cond (b || covers first (min 1 blocks) q) (Some number) (get dirty q)) (last_covered first blocks q)
    ∙ ap (λ b. cond ((covers first blocks q && nat_eq q (last_of first blocks)) || b) (Some number) (get dirty q)) (first_covered first blocks q)
    ∙ ap (λ b. cond b (Some number) (get dirty q)) (sym (two_slots (covers first blocks q) (nat_eq q first) (nat_eq q (last_of first blocks))))

where_some : {X : Type 0} (test : Bool) (at : ℕ) (x y : X) → cond test x y ≡ cond (is_some (if test then Some at else None)) x y
where_some true at x y = refl
where_some false at x y = refl

-- the blocks that a command writes have its number, another keeps its own
pub get-with_written : (dirty : Dirty) (number : ℕ) (change : Change) (q : ℕ) →
    get (with_written dirty number change) q ≡ (if writes q change then Some number else get dirty q)
get-with_written dirty number (Written first bytes) q = get-with_blocks dirty number first (blocks_of (Written first bytes)) q
    ∙ where_some (touches q (Written first bytes)) (4096 * (q - first)) (Some number) (get dirty q)
get-with_written dirty number (Cleared first blocks kind) q = refl
get-with_written dirty number (Edged first blocks kind edges bytes) q = get-with_edges dirty number first blocks edges q

-- what a command gives to a block that it touches
abbrev pub given : ℕ → ℕ → Change → Option ℕ
given number block change = if writes block change then Some number else None

put_given : {X : Type 0} (test : Bool) (at : ℕ) (x y : Option X) → cond (is_some (if test then Some at else None)) x y
    ≡ cond test (if is_some (if test then Some at else None) then x else None) y
put_given true at x y = refl
put_given false at x y = refl

edged_given : {X : Type 0} (test : Bool) (slot : Option ℕ) (x y : Option X) → cond (is_some (if test then slot else None)) x (cond test None y)
    ≡ cond test (if is_some (if test then slot else None) then x else None) y
edged_given true slot x y = refl
edged_given false slot x y = refl

-- one command decides for the blocks that it touches
pub get-dirty_after : (dirty : Dirty) (number : ℕ) (change : Change) (q : ℕ) →
    get (dirty_after dirty number change) q ≡ (if touches q change then given number q change else get dirty q)
get-dirty_after dirty number (Written first bytes) q = get-with_written dirty number (Written first bytes) q
    ∙ put_given (touches q (Written first bytes)) (4096 * (q - first)) (Some number) (get dirty q)
get-dirty_after dirty number (Cleared first blocks kind) q = get-without_blocks dirty first blocks q
get-dirty_after dirty number (Edged first blocks kind edges bytes) q =
    get-with_edges (without_blocks dirty first blocks) number first blocks edges q
    ∙ ap (cond (writes q (Edged first blocks kind edges bytes)) (Some number)) (get-without_blocks dirty first blocks q)
    ∙ edged_given (covers first blocks q) (edge_slot edges (nat_eq q first) (nat_eq q (last_of first blocks))) (Some number) (get dirty q)

decide : {X : Type 0} (later touched : Bool) (last given was : X) →
    cond later last (cond touched given was) ≡ cond (touched || later) (cond later last given) was
decide true true last given was = refl
decide true false last given was = refl
decide false true last given was = refl
decide false false last given was = refl

touched_given : (later touched put : Bool) (last : Option ℕ) (number : ℕ) (was : Option ℕ) →
    cond (touched || later) (cond later last (if put then Some number else None)) was
    ≡ cond (touched || later) (if later then last else (if touched && put then Some number else None)) was
touched_given true true put last number was = refl
touched_given true false put last number was = refl
touched_given false true put last number was = refl
touched_given false false put last number was = refl

-- what a command writes is what it touches and writes
own_write : (later : Bool) (last : Option ℕ) (number q : ℕ) (change : Change) →
    (if later then last else (if touches q change && writes q change then Some number else None))
    ≡ (if later then last else (if writes q change then Some number else None))
own_write later last number q change = ap (λ (put : Bool). if later then last else (if put then Some number else None)) (touched_and_written q change)

pub get-dirty_from : (dirty : Dirty) (last : ℕ) (changes : List Change) (q : ℕ) →
    get (dirty_from dirty last changes) q ≡ (if list_any (touches q) changes then last_write q last changes else get dirty q)
get-dirty_from dirty last [] q = refl
get-dirty_from dirty last (change ∷ later) q =
    get-dirty_from (dirty_after dirty (last + 1) change) (last + 1) later q
    ∙ ap (cond (list_any (touches q) later) (last_write q (last + 1) later)) (get-dirty_after dirty (last + 1) change q)
    ∙ decide (list_any (touches q) later) (touches q change) (last_write q (last + 1) later) (given (last + 1) q change) (get dirty q)
    ∙ touched_given (list_any (touches q) later) (touches q change) (writes q change) (last_write q (last + 1) later) (last + 1) (get dirty q)
    ∙ ap (λ (o : Option ℕ). cond (touches q change || list_any (touches q) later) o (get dirty q))
    (own_write (list_any (touches q) later) (last_write q (last + 1) later) (last + 1) q change)

pub untouched : (q last : ℕ) (changes : List Change) → cond (list_any (touches q) changes) (last_write q last changes) None ≡ last_write q last changes
untouched q last [] = refl
untouched q last (change ∷ later) =
    ap (λ (o : Option ℕ). cond (touches q change || list_any (touches q) later) o None)
    (sym (own_write (list_any (touches q) later) (last_write q (last + 1) later) (last + 1) q change))
    ∙ none (list_any (touches q) later) (touches q change) (writes q change) (last_write q (last + 1) later) (last + 1)
    ∙ own_write (list_any (touches q) later) (last_write q (last + 1) later) (last + 1) q change
  where
    none : (later touched put : Bool) (next : Option ℕ) (number : ℕ) →
        cond (touched || later) (if later then next else (if touched && put then Some number else None)) None
        ≡ (if later then next else (if touched && put then Some number else None))
    none true true put next number = refl
    none true false put next number = refl
    none false true put next number = refl
    none false false put next number = refl

-- the last touch of a block decides
pub get-dirty_blocks : (last : ℕ) (changes : List Change) (q : ℕ) → get (dirty_blocks last changes) q ≡ last_write q last changes
get-dirty_blocks last changes q =
    get-dirty_from empty last changes q
    ∙ ap (cond (list_any (touches q) changes) (last_write q last changes)) (get-empty nat_cmp q)
    ∙ untouched q last changes

-- more commands after some
pub dirty_from-append : (dirty : Dirty) (last : ℕ) (changes more : List Change) →
    dirty_from dirty last (changes ++ more) ≡ dirty_from (dirty_from dirty last changes) (last + length changes) more
dirty_from-append dirty last [] more = ap (λ (n : ℕ). dirty_from dirty n more) (omega arith)
dirty_from-append dirty last (change ∷ changes) more =
    dirty_from-append (dirty_after dirty (last + 1) change) (last + 1) changes more
    ∙ ap (λ (n : ℕ). dirty_from (dirty_from (dirty_after dirty (last + 1) change) (last + 1) changes) n more) (omega arith)

-- one command more
pub dirty_blocks-push : (last : ℕ) (changes : List Change) (change : Change) →
    dirty_blocks last (changes ++ change ∷ []) ≡ dirty_after (dirty_blocks last changes) (last + length changes + 1) change
dirty_blocks-push last changes change = dirty_from-append empty last changes (change ∷ [])
