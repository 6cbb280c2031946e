-- the dirty blocks of a cache as a map, and its frames
use Rattle.std.proofs.Common.{◌≡◌, ℕ, ◌+◌, ◌-◌, ◌*◌, ◌/◌, ◌≤◌, ◌==◌, ◌||◌, ◌↔◌, inl, inr, zero, suc, Bool, true, false, cond, not, nat_eq, nat_lt, nat_le, if◌then◌else◌, Option, Some, None, List, [], ◌∷◌, ◌++◌, length, map, filter, take, drop, replicate, min, sym, ap, ◌∙◌, refl, arith, length-append, length-drop}
use Rattle.std.specs.Bool.{IsTrue}
use Rattle.std.specs.FinMap.{get, len, from_entries}
use Rattle.std.specs.List.{All, AllByRecursion, IsDistinct, list_any}
use Rattle.std.specs.Map.{lookup, keys_of}
use Rattle.std.specs.Option.{is_some}
use Rattle.std.specs.Ordering.{nat_cmp}
use Rattle.std.specs.Simd.{first_chunks}
use Rattle.std.proofs.lemmas.Bool.{le-leb, leb-true, true≢false}
use Rattle.std.proofs.lemmas.Bool.Decides.{eqb_tells, nat_tests}
use Rattle.std.proofs.lemmas.List.{append-nil, length-map, length-replicate, length-take-le}
use Rattle.std.proofs.lemmas.List.Filters.{length-filter_both}
use Rattle.std.proofs.lemmas.List.Elements.{All-append, All-cons, All-filter, All-nil}
use Rattle.std.proofs.lemmas.Map.Entries.{lookup-filter-keys}
use Rattle.std.proofs.lemmas.Map.Made.{is_some-lookup}
use Rattle.std.proofs.Math.Dec.{eqb}
use borrow.Author.Tests.{eqb-true, eq-eqb}
use Rattle.image_model.specs.declared.command.Edges.{Edges}
use Rattle.image_model.specs.declared.command.Edges.TheVariants.{Head, Tail, Both}
use Rattle.image_model.specs.declared.command.Kind.{Kind}
use Rattle.image_model.specs.declared.command.Kind.TheVariants.{Data}
use Rattle.image_model.specs.Change.{Change, Written, Cleared, Edged, IsChange, edge_count, least_blocks}
use Rattle.image_model.specs.Dirty.{Dirty, clean_through, dirty_after, frames_suffice, with_blocks, with_edges, with_written}
use Rattle.image_model.specs.Image.{blocks_of, covers, last_of, touches}
use Rattle.image_model.specs.laws.DirtyMaps.{get-with_blocks, given, len-with_blocks_more, with_blocks_none}
use Rattle.image_model.specs.laws.Positions.{length-patched}
use Rattle.shared_cache.specs.Blocks.{BlocksState, DirtyBlock, IsOnce, as_clean, available_frames, cleaned, count_missing, dirty_outside, edges_missing, is_clean, is_dirty, is_cached, times_in, with_put, with_puts, without}
use Rattle.shared_cache.specs.Cache.{CacheState}
use Rattle.shared_cache.specs.laws.Edges.{length-with_edges, room_at_head, room_at_tail}
use Rattle.shared_cache.specs.laws.Once.{times_in-append}
use Rattle.shared_cache.specs.laws.Ranges.{at_hand_put, clean_le, count_put, outside_le, outside_less}
use Rattle.order_book.specs.Cached.{blocks_in, cache_after, dirty_of, frames_of, head_count}
use Rattle.order_book.proofs.Edges.{Somewhere, at_of, counts_add, counts_fit, edge_at, tail_count}
use Rattle.order_book.proofs.Maps.{Entries, get-entries, len-entries, len-with_blocks_step, made-after, made-clean_through, all_kept}

-- the blocks of some frames and their numbers
abbrev pub pairs : List DirtyBlock → Entries
pairs dirty = map (λ (held : DirtyBlock). (held.block, held.number)) dirty

turned : (b : Bool) (o : Option ℕ) → cond (not b) o None ≡ cond b None o
turned true o = refl
turned false o = refl

-- blocks let go
pairs-outside : (inside : ℕ → Bool) (dirty : List DirtyBlock) → pairs (dirty_outside inside dirty) ≡ filter (λ (e : ℕ × ℕ). not (inside e.0)) (pairs dirty)
pairs-outside inside [] = refl
pairs-outside inside (held ∷ dirty) =
    elim (inside held.block) as (λ b. pairs (cond (not b) (held ∷ dirty_outside inside dirty) (dirty_outside inside dirty))
    ≡ cond (not b) ((held.block, held.number) ∷ filter (λ (e : ℕ × ℕ). not (inside e.0)) (pairs dirty)) (filter (λ (e : ℕ × ℕ). not (inside e.0)) (pairs dirty))) [
      | true ↦ pairs-outside inside dirty
      | false ↦ ap (λ (l : Entries). (held.block, held.number) ∷ l) (pairs-outside inside dirty)
    ]

lookup-outside : (inside : ℕ → Bool) (dirty : List DirtyBlock) (q : ℕ)
    → lookup (nat_eq q) (pairs (dirty_outside inside dirty)) ≡ (if inside q then None else lookup (nat_eq q) (pairs dirty))
lookup-outside inside dirty q =
    ap (lookup (nat_eq q)) (pairs-outside inside dirty)
    ∙ lookup-filter-keys (nat_eq q) (λ block. not (inside block)) (not (inside q)) (λ k same. sym (ap (λ block. not (inside block)) (eqb-true q k same))) (pairs dirty)
    ∙ turned (inside q) (lookup (nat_eq q) (pairs dirty))

-- one more after them
lookup-push : (q block number : ℕ) (bytes : List ℕ) (dirty : List DirtyBlock) (found : Option ℕ)
    → lookup (nat_eq q) (pairs dirty) ≡ (if nat_eq q block then None else found)
    → lookup (nat_eq q) (pairs (dirty ++ record { block = block; number = number; bytes = bytes } ∷ [])) ≡ (if nat_eq q block then Some number else found)
lookup-push q block number bytes [] found is = none (nat_eq q block) is
  where
    none : (b : Bool) → None ≡ cond b None found → cond b (Some number) None ≡ cond b (Some number) found
    none true is = refl
    none false is = is
lookup-push q block number bytes (held ∷ dirty) found is = at_head (nat_eq q held.block) (nat_eq q block) is (λ rest. lookup-push q block number bytes dirty found rest)
  where
    at_head : (here own : Bool) → cond here (Some held.number) (lookup (nat_eq q) (pairs dirty)) ≡ cond own None found
        → (lookup (nat_eq q) (pairs dirty) ≡ cond own None found
        → lookup (nat_eq q) (pairs (dirty ++ record { block = block; number = number; bytes = bytes } ∷ [])) ≡ cond own (Some number) found)
        → cond here (Some held.number) (lookup (nat_eq q) (pairs (dirty ++ record { block = block; number = number; bytes = bytes } ∷ []))) ≡ cond own (Some number) found
    at_head true true is more = absurd (true≢false (ap is_some is))
    at_head true false is more = is
    at_head false own is more = more is

-- a put of one block
lookup-put : (q number block : ℕ) (bytes : List ℕ) (s : BlocksState)
    → lookup (nat_eq q) (pairs (with_put number block bytes s).dirty) ≡ (if nat_eq q block then Some number else lookup (nat_eq q) (pairs s.dirty))
lookup-put q number block bytes s =
    lookup-push q block number bytes (dirty_outside (λ b. b == block) s.dirty) (lookup (nat_eq q) (pairs s.dirty)) (lookup-outside (λ b. b == block) s.dirty q)

covers_first : (first count q : ℕ) → covers first (suc count) q ≡ (if covers (first + 1) count q then true else nat_eq q first)
covers_first first count q = grind (arith, nat_tests)

-- a block that no range covers
lookup-puts : (q number first : ℕ) (blocks : List (List ℕ)) (s : BlocksState)
    → lookup (nat_eq q) (pairs (with_puts number first blocks s).dirty) ≡ (if covers first (length blocks) q then Some number else lookup (nat_eq q) (pairs s.dirty))
lookup-puts q number first [] s = ap (λ (b : Bool). cond b (Some number) (lookup (nat_eq q) (pairs s.dirty))) (none first q)
  where
    none : (first q : ℕ) → false ≡ covers first 0 q
    none first q = grind (arith, nat_tests)
lookup-puts q number first (bytes ∷ blocks) s =
    lookup-puts q number (first + 1) blocks (with_put number first bytes s)
    ∙ ap (λ (o : Option ℕ). if covers (first + 1) (length blocks) q then Some number else o) (lookup-put q number first bytes s)
    ∙ either (covers (first + 1) (length blocks) q) (nat_eq q first) (lookup (nat_eq q) (pairs s.dirty))
    ∙ ap (λ (b : Bool). if b then Some number else lookup (nat_eq q) (pairs s.dirty)) (sym (covers_first first (length blocks) q))
  where
    either : (rest own : Bool) (o : Option ℕ) → cond rest (Some number) (cond own (Some number) o) ≡ cond (cond rest true own) (Some number) o
    either true own o = refl
    either false own o = refl

-- the bytes of some blocks, block by block
pub length-chunks : (n count : ℕ) (list : List ℕ) → length (first_chunks n count list) ≡ count
length-chunks n zero list = refl
length-chunks n (suc count) list = ap suc (length-chunks n count (drop n list))

-- a block that is touched has the command's number, if the command writes it
decided : (touched : Bool) (at : ℕ) (number : ℕ) (found : Option ℕ)
    → (if touched then Some number else found) ≡ (if touched then (if is_some (if touched then Some at else None) then Some number else None) else found)
decided true at number found = refl
decided false at number found = refl

lookup-written : (q number first : ℕ) (bytes : List ℕ) (s : BlocksState)
    → lookup (nat_eq q) (pairs (with_puts number first (blocks_in bytes) s).dirty)
    ≡ (if touches q (Written first bytes) then given number q (Written first bytes) else lookup (nat_eq q) (pairs s.dirty))
lookup-written q number first bytes s =
    lookup-puts q number first (blocks_in bytes) s
    ∙ ap (λ (n : ℕ). if covers first n q then Some number else lookup (nat_eq q) (pairs s.dirty)) (length-chunks 4096 ((length bytes + 4095) / 4096) bytes)
    ∙ decided (touches q (Written first bytes)) (4096 * (q - first)) number (lookup (nat_eq q) (pairs s.dirty))

-- the edges that stand at the head of a clear, and those at its tail
module _ (first blocks : ℕ) (kind : Kind) (edges : Edges) (bytes : List ℕ) (least : least_blocks edges ≤ blocks) (whole : length bytes ≡ 4096 * edge_count edges) where
  abbrev pub head_blocks : List (List ℕ)
  head_blocks = take (head_count edges) (blocks_in bytes)

  abbrev pub tail_blocks : List (List ℕ)
  tail_blocks = drop (head_count edges) (blocks_in bytes)

  pub length-edges : length (blocks_in bytes) ≡ edge_count edges
  length-edges = length-chunks 4096 ((length bytes + 4095) / 4096) bytes ∙ omega (arith, whole)

  pub length-head : length head_blocks ≡ head_count edges
  length-head = length-take-le (head_count edges) (blocks_in bytes) (omega (arith, length-edges, counts_add edges))

  pub length-tail : length tail_blocks ≡ tail_count edges
  length-tail = length-drop (head_count edges) (blocks_in bytes) ∙ omega (arith, length-edges)

  abbrev behind : ℕ → ℕ
  behind tail = first + blocks - tail

  lookup-edges : (q number : ℕ) (cache : CacheState)
      → lookup (nat_eq q) (pairs (cache_after cache number (Edged first blocks kind edges bytes)).blocks.dirty)
      ≡ (if touches q (Edged first blocks kind edges bytes) then given number q (Edged first blocks kind edges bytes) else lookup (nat_eq q) (pairs cache.blocks.dirty))
  lookup-edges q number cache =
      let old = lookup (nat_eq q) (pairs cache.blocks.dirty) in
      let between = covers (first + length head_blocks) (behind (length tail_blocks) - (first + length head_blocks)) in
      let cleared = without between cache.blocks in
      let headed = with_puts number first head_blocks cleared in
      lookup-puts q number (behind (length tail_blocks)) tail_blocks headed
      ∙ ap (λ (o : Option ℕ). if covers (behind (length tail_blocks)) (length tail_blocks) q then Some number else o)
      (lookup-puts q number first head_blocks cleared
      ∙ ap (λ (o : Option ℕ). if covers first (length head_blocks) q then Some number else o) (lookup-outside between cache.blocks.dirty q))
      ∙ (λ i. if covers (behind (length-tail i)) (length-tail i) q then Some number
      else (if covers first (length-head i) q then Some number
      else (if covers (first + length-head i) (behind (length-tail i) - (first + length-head i)) q then None else old)))
      ∙ by_place old (at_of first blocks q edges least)
    where
      by_place : (old : Option ℕ)
          → Somewhere first blocks edges q
          → (if covers (behind (tail_count edges)) (tail_count edges) q then Some number
          else (if covers first (head_count edges) q then Some number
          else (if covers (first + head_count edges) (behind (tail_count edges) - (first + head_count edges)) q then None else old)))
          ≡ (if covers first blocks q then (if is_some (edge_at first blocks edges q) then Some number else None) else old)
      by_place old (inl (inl at)) = rw (at.slot_is, at.place.is_tail, at.place.is_head, at.place.is_inside) refl
      by_place old (inl (inr at)) = rw (at.slot_is, at.place.is_tail, at.place.is_head, at.place.is_between, at.place.is_inside) refl
      by_place old (inr (inl at)) = rw (at.slot_is, at.place.is_tail, at.place.is_inside) refl
      by_place old (inr (inr at)) = rw (at.slot_is, at.place.is_tail, at.place.is_head, at.place.is_between, at.place.is_inside) refl

-- the numbers of the dirty blocks after a command
lookup-after : (image : ℕ) (cache : CacheState) (number : ℕ) (change : Change) → IsChange image change → (q : ℕ)
    → lookup (nat_eq q) (pairs (cache_after cache number change).blocks.dirty) ≡ (if touches q change then given number q change else lookup (nat_eq q) (pairs cache.blocks.dirty))
lookup-after image cache number (Written first bytes) is q = lookup-written q number first bytes cache.blocks
lookup-after image cache number (Cleared first blocks kind) is q = lookup-outside (covers first blocks) cache.blocks.dirty q
lookup-after image cache number (Edged first blocks kind edges bytes) is q = lookup-edges first blocks kind edges bytes is.0 is.4 q number cache

pub map-after : (image : ℕ) (cache : CacheState) (number : ℕ) (change : Change) → IsChange image change
    → dirty_of (cache_after cache number change) ≡ dirty_after (dirty_of cache) number change
map-after image cache number change is = made-after (pairs cache.blocks.dirty) _ number change (lookup-after image cache number change is)

-- blocks that are held once have entries of their own
none_there : (block : ℕ) (dirty : List DirtyBlock) → times_in block (map as_clean dirty) ≡ 0 → AllByRecursion (λ other. nat_eq block other ≡ false) (keys_of (pairs dirty))
none_there block [] none = tt
none_there block (held ∷ dirty) none =
    elim (eqb_tells held.block block) [
      | inl p ↦ let there : times_in block (map as_clean (held ∷ dirty)) ≡ 1 + times_in block (map as_clean dirty) = rw p.0 refl in absurd (omega (arith, none, there))
      | inr p ↦
          (other p.1, none_there block dirty (omega (arith, none)))
    ]
  where
    other : (held.block ≡ block → ⊥) → nat_eq block held.block ≡ false
    other ne = grind (arith, nat_tests, ne)

apart : (dirty : List DirtyBlock) → ((block : ℕ) → times_in block (map as_clean dirty) ≤ 1) → IsDistinct nat_eq (keys_of (pairs dirty))
unfolding IsDistinct
apart [] once = tt
apart (held ∷ dirty) once = (
  none_there held.block dirty (own once),
  apart dirty (λ block. less block (once block)),
)
  where
    own : ((block : ℕ) → times_in block (map as_clean (held ∷ dirty)) ≤ 1) → times_in held.block (map as_clean dirty) ≡ 0
    own once = let here : times_in held.block (map as_clean (held ∷ dirty)) ≡ 1 + times_in held.block (map as_clean dirty) = rw (eq-eqb held.block held.block refl) refl in
        omega (arith, here, once held.block)

    less : (block : ℕ) → times_in block (map as_clean (held ∷ dirty)) ≤ 1 → times_in block (map as_clean dirty) ≤ 1
    less block once = omega (arith, once)

pub pairs_apart : (s : BlocksState) → IsOnce s → IsDistinct nat_eq (keys_of (pairs s.dirty))
pairs_apart s is = apart s.dirty (λ block. let once = is.once block in omega (arith, once, times_in-append block s.clean (map as_clean s.dirty)))

-- blocks up to a number
pairs-above : (number : ℕ) (dirty : List DirtyBlock)
    → pairs (filter (λ (held : DirtyBlock). nat_lt number held.number) dirty) ≡ filter (λ (e : ℕ × ℕ). nat_lt number e.1) (pairs dirty)
pairs-above number [] = refl
pairs-above number (held ∷ dirty) =
    let left = filter (λ (h : DirtyBlock). nat_lt number h.number) dirty in
    let kept = filter (λ (e : ℕ × ℕ). nat_lt number e.1) (pairs dirty) in
    elim (nat_lt number held.number) as (λ b. pairs (cond b (held ∷ left) left) ≡ cond b ((held.block, held.number) ∷ kept) kept) [
      | true ↦ ap (λ (l : Entries). (held.block, held.number) ∷ l) (pairs-above number dirty)
      | false ↦ pairs-above number dirty
    ]

pub map-cleaned : (number : ℕ) (s : BlocksState) → IsOnce s
    → from_entries {R = nat_cmp} (pairs (cleaned number s).dirty) ≡ clean_through (from_entries (pairs s.dirty)) number
map-cleaned number s once = ap from_entries (pairs-above number s.dirty) ∙ made-clean_through (pairs s.dirty) number (pairs_apart s once)

-- how many blocks are dirty with those of a range
is_dirty-pairs : (block : ℕ) (dirty : List DirtyBlock) → list_any (nat_eq block) (keys_of (pairs dirty)) ≡ list_any (λ (held : DirtyBlock). held.block == block) dirty
is_dirty-pairs block [] = refl
is_dirty-pairs block (held ∷ dirty) = λ i. turned_round block held.block i || is_dirty-pairs block dirty i
  where
    turned_round : (a b : ℕ) → nat_eq a b ≡ eqb b a
    turned_round a b = grind (arith, nat_tests)

-- a block that isn't held isn't dirty, and one that isn't dirty has no number
pub not_dirty : (block : ℕ) (s : BlocksState) → is_cached block s ≡ false → is_dirty block s ≡ false
not_dirty block s is = or_none (is_clean block s) (is_dirty block s) is
  where
    or_none : (one other : Bool) → (one || other) ≡ false → other ≡ false
    or_none true other is = absurd (true≢false is)
    or_none false other is = is

pub not_dirty_get : (block : ℕ) (s : BlocksState) → is_dirty block s ≡ false → get (from_entries {R = nat_cmp} (pairs s.dirty)) block ≡ None
not_dirty_get block s is =
    get-entries (pairs s.dirty) block ∙ none_of (lookup (nat_eq block) (pairs s.dirty)) (is_some-lookup (nat_eq block) (pairs s.dirty) ∙ is_dirty-pairs block s.dirty ∙ is)
  where
    none_of : (found : Option ℕ) → is_some found ≡ false → found ≡ None
    none_of None is = refl
    none_of (Some number) is = cc

abbrev missing_one : BlocksState → ℕ → ℕ
missing_one s block = if is_dirty block s then 0 else 1

count-more : (first count : ℕ) (s : BlocksState) → count_missing first (suc count) s ≡ count_missing first count s + missing_one s (first + count)
count-more first zero s =
    let at : first ≡ first + 0 = omega arith in
    let one = ap (missing_one s) at in
    omega (arith, one)
count-more first (suc count) s =
    let further = count-more (first + 1) count s in
    let at : first + 1 + count ≡ first + suc count = omega arith in
    let one = ap (missing_one s) at in
    omega (arith, further, one)

-- as many blocks as dirty frames
pub len-dirty : (s : BlocksState) → IsOnce s → len (from_entries {R = nat_cmp} (pairs s.dirty)) ≡ length s.dirty
len-dirty s once = len-entries (pairs s.dirty) (pairs_apart s once) ∙ length-map s.dirty (λ (held : DirtyBlock). (held.block, held.number))

len-puts : (number first count : ℕ) (s : BlocksState) → IsOnce s
    → len (with_blocks (from_entries (pairs s.dirty)) number first count) ≡ length s.dirty + count_missing first count s
len-puts number first zero s once =
    let size = ap len (with_blocks_none (from_entries (pairs s.dirty)) number first) ∙ len-dirty s once in
    omega (arith, size)
len-puts number first (suc count) s once =
    let so_far = len-puts number first count s once in
    let counted = len (with_blocks (from_entries (pairs s.dirty)) number first count) in
    let next : suc count ≡ count + 1 = omega arith in
    ap (λ (n : ℕ). len (with_blocks (from_entries (pairs s.dirty)) number first n)) next
    ∙ len-with_blocks_step (pairs s.dirty) number first count
    ∙ ap (λ (b : Bool). if b then counted else counted + 1) (is_some-lookup (nat_eq (first + count)) (pairs s.dirty) ∙ is_dirty-pairs (first + count) s.dirty)
    ∙ one_more (is_dirty (first + count) s) counted (count_missing first count s) so_far
    ∙ ap (λ (n : ℕ). length s.dirty + n) (sym (count-more first count s))
  where
    one_more : (b : Bool) (counted missing : ℕ) → counted ≡ length s.dirty + missing
        → (if b then counted else counted + 1) ≡ length s.dirty + (missing + (if b then 0 else 1))
    one_more true counted missing is = omega (arith, is)
    one_more false counted missing is = omega (arith, is)

-- frames that hold nothing dirty are enough for a put where its blocks that aren't dirty are no more
frames-without : (inside : ℕ → Bool) (s : BlocksState) → let left = without inside s in left.free + length left.clean + length left.dirty ≡ s.free + length s.clean + length s.dirty
frames-without inside s = omega (arith, clean_le inside s.clean, outside_le inside s.dirty)

frames-put : (number block : ℕ) (bytes : List ℕ) (s : BlocksState) → (if is_dirty block s then 0 else 1) ≤ available_frames s
    → let new = with_put number block bytes s in new.free + length new.clean + length new.dirty ≡ s.free + length s.clean + length s.dirty
frames-put number block bytes s enough =
    let left = without (λ b. b == block) s in
    let new = with_put number block bytes s in
    let less = outside_less block s.dirty in
    let dropped = length-drop (1 - left.free) left.clean in
    let more : length new.dirty ≡ length left.dirty + 1 = length-append left.dirty (record { block = block; number = number; bytes = bytes } ∷ []) ∙ omega arith in
    let same = frames-without (λ b. b == block) s in
    omega (arith, enough, less, dropped, more, same, clean_le (λ b. b == block) s.clean, outside_le (λ b. b == block) s.dirty)

frames-puts : (number first : ℕ) (blocks : List (List ℕ)) (s : BlocksState) → count_missing first (length blocks) s ≤ available_frames s
    → let new = with_puts number first blocks s in new.free + length new.clean + length new.dirty ≡ s.free + length s.clean + length s.dirty
frames-puts number first [] s enough = refl
frames-puts number first (bytes ∷ blocks) s enough =
    let mid = with_put number first bytes s in
    let same = count_put number first (first + 1) (length blocks) bytes s (omega arith) in
    frames-puts number (first + 1) blocks mid (omega (arith, enough, same, at_hand_put number first bytes s))
    ∙ frames-put number first bytes s (omega (arith, enough))

pub frames-cleaned : (number : ℕ) (s : BlocksState)
    → let new = cleaned number s in new.free + length new.clean + length new.dirty ≡ s.free + length s.clean + length s.dirty
frames-cleaned number s =
    let moved = filter (λ (held : DirtyBlock). nat_le held.number number) s.dirty in
    omega (arith, length-append s.clean (map (λ (held : DirtyBlock). record { block = held.block; bytes = held.bytes }) moved), length-map moved as_clean, split s.dirty)
  where
    split : (dirty : List DirtyBlock)
        → length (filter (λ (held : DirtyBlock). nat_le held.number number) dirty) + length (filter (λ (held : DirtyBlock). nat_lt number held.number) dirty) ≡ length dirty
    split dirty = length-filter_both (λ (held : DirtyBlock). nat_le held.number number) (λ (held : DirtyBlock). nat_lt number held.number) (λ held. other held.number) dirty
      where
        other : (own : ℕ) → nat_lt number own ≡ not (nat_le own number)
        other own = grind (arith, nat_tests)

-- the numbers of the dirty blocks after puts
order-puts : (number first : ℕ) (blocks : List (List ℕ)) (s : BlocksState) → All (λ (held : DirtyBlock). held.number ≤ number) s.dirty
    → All (λ (held : DirtyBlock). held.number ≤ number) (with_puts number first blocks s).dirty
order-puts number first [] s below = below
order-puts number first (bytes ∷ blocks) s below =
    let Below = λ (held : DirtyBlock). held.number ≤ number in
    order-puts number (first + 1) blocks (with_put number first bytes s)
    (All-append Below (dirty_outside (λ b. b == first) s.dirty) _ (All-filter (λ (held : DirtyBlock). not (held.block == first)) Below s.dirty below)
    (All-cons Below _ [] (omega arith) (All-nil Below)))

-- nothing is cleaned exactly where as many blocks are dirty as before
pub none_cleaned : (number : ℕ) (s : BlocksState) → length s.dirty ≤ length (cleaned number s).dirty → cleaned number s ≡ s
none_cleaned number s long =
    let moved = filter (λ (held : DirtyBlock). nat_le held.number number) s.dirty in
    let none : moved ≡ [] = no_items moved (let all = frames-cleaned number s in
    let more = length-append s.clean (map (λ (held : DirtyBlock). record { block = held.block; bytes = held.bytes }) moved) in
    omega (arith, all, more, long, length-map moved as_clean)) in
    let same = all_kept (λ (held : DirtyBlock). nat_lt number held.number) s.dirty long in
    λ i. record {
      free = s.free;
      clean = (ap (λ (l : List DirtyBlock). s.clean ++ map as_clean l) none ∙ append-nil s.clean) i;
      dirty = same i;
    }
  where
    no_items : (list : List DirtyBlock) → length list ≡ 0 → list ≡ []
    no_items [] is = refl
    no_items (held ∷ list) is = absurd (omega (arith, is))

-- how many of the blocks that a command writes aren't dirty
abbrev pub missing_of : Change → BlocksState → ℕ
missing_of (Written first bytes) s = count_missing first (blocks_of (Written first bytes)) s
missing_of (Cleared first blocks kind) s = 0
missing_of (Edged first blocks kind edges bytes) s = edges_missing first blocks (head_count edges) (tail_count edges) s

-- with them this many blocks are dirty
len-edges : (number first blocks : ℕ) (edges : Edges) (s : BlocksState) → IsOnce s → least_blocks edges ≤ blocks
    → len (with_edges (from_entries (pairs s.dirty)) number first blocks edges) ≡ length s.dirty + edges_missing first blocks (head_count edges) (tail_count edges) s
len-edges number first blocks Head s once least =
    let one : min 1 blocks ≡ 1 = omega (arith, least) in
    let size = len-puts number first 1 s once in
    ap (λ (n : ℕ). len (with_blocks (from_entries (pairs s.dirty)) number first n)) one ∙ omega (arith, size)
len-edges number first blocks Tail s once least =
    let one : min 1 blocks ≡ 1 = omega (arith, least) in
    let size = len-puts number (last_of first blocks) 1 s once in
    ap (λ (n : ℕ). len (with_blocks (from_entries (pairs s.dirty)) number (last_of first blocks) n)) one ∙ omega (arith, size)
len-edges number first blocks Both s once least =
    let one : min 1 blocks ≡ 1 = omega (arith, least) in
    let last = last_of first blocks in
    let dirty : Dirty = from_entries (pairs s.dirty) in
    let headed = with_blocks dirty number first 1 in
    let size = len-puts number first 1 s once in
    let more = len-with_blocks_more headed number last 0 in
    let none = ap len (with_blocks_none headed number last) in
    let tail = two_edges (is_some (get headed (last + 0))) (is_dirty last s) _ _ _ more none (last_dirty number first last s (omega (arith, least))) in
    (λ i. len (with_blocks (with_blocks dirty number first (one i)) number last (one i)))
    ∙ omega (arith, size, tail)
  where
    two_edges : (found dirty : Bool) (size none counted : ℕ) → size ≡ (if found then none else none + 1) → none ≡ counted → found ≡ dirty → size ≡ counted + (if dirty then 0 else 1)
    two_edges true true size none counted more same is = omega (arith, more, same)
    two_edges false false size none counted more same is = omega (arith, more, same)
    two_edges true false size none counted more same is = absurd (true≢false is)
    two_edges false true size none counted more same is = absurd (true≢false (sym is))

    last_dirty : (number first last : ℕ) (s : BlocksState) → first + 1 ≤ last → is_some (get (with_blocks (from_entries {R = nat_cmp} (pairs s.dirty)) number first 1) (last + 0)) ≡ is_dirty last s
    last_dirty number first last s beyond =
        let dirty : Dirty = from_entries (pairs s.dirty) in
        let at : last + 0 ≡ last = omega arith in
        let out : covers first 1 last ≡ false = grind (arith, nat_tests, beyond) in
        ap is_some (ap (λ (b : ℕ). get (with_blocks dirty number first 1) b) at
        ∙ get-with_blocks dirty number first 1 last
        ∙ ap (λ (b : Bool). if b then Some number else get dirty last) out
        ∙ get-entries (pairs s.dirty) last)
        ∙ is_some-lookup (nat_eq last) (pairs s.dirty) ∙ is_dirty-pairs last s.dirty

len-written : (image : ℕ) (cache : CacheState) (number : ℕ) (change : Change) → IsChange image change → IsOnce cache.blocks
    → len (with_written (dirty_of cache) number change) ≡ length cache.blocks.dirty + missing_of change cache.blocks
len-written image cache number (Written first bytes) is once = len-puts number first (blocks_of (Written first bytes)) cache.blocks once
len-written image cache number (Cleared first blocks kind) is once = len-dirty cache.blocks once ∙ omega arith
len-written image cache number (Edged first blocks kind edges bytes) is once = len-edges number first blocks edges cache.blocks once is.0

-- whether a command finds frames
pub finds_frames : (image : ℕ) (cache : CacheState) (number : ℕ) (change : Change) (found : Bool) → IsChange image change → IsOnce cache.blocks
    → IsTrue found ↔ (missing_of change cache.blocks ≤ available_frames cache.blocks)
    → found ≡ nat_le (len (with_written (dirty_of cache) number change)) (frames_of cache)
finds_frames image cache number change found is once enough =
    let size = len-written image cache number change is once in
    either found _ (λ t. le-leb _ _ (let fits = enough.0 t in omega (arith, fits, size))) (λ t. enough.1 (let within = leb-true _ _ t in omega (arith, within, size)))
  where
    either : (a b : Bool) → (a ≡ true → b ≡ true) → (b ≡ true → a ≡ true) → a ≡ b
    either true b there back = sym (there refl)
    either false true there back = back refl
    either false false there back = refl

-- and where it does
pub frames_enough : (image : ℕ) (cache : CacheState) (number : ℕ) (change : Change) → IsChange image change → IsOnce cache.blocks
    → frames_suffice (frames_of cache) (dirty_of cache) number change ≡ true → missing_of change cache.blocks ≤ available_frames cache.blocks
frames_enough image cache number (Written first bytes) is once enough =
    let within = leb-true _ _ enough in omega (arith, within, len-written image cache number (Written first bytes) is once)
frames_enough image cache number (Cleared first blocks kind) is once enough = omega arith
frames_enough image cache number (Edged first blocks kind edges bytes) is once enough =
    let within = leb-true _ _ enough in omega (arith, within, len-written image cache number (Edged first blocks kind edges bytes) is once)

-- the frames stay
pub frames-after : (image : ℕ) (cache : CacheState) (number : ℕ) (change : Change) → IsChange image change → missing_of change cache.blocks ≤ available_frames cache.blocks
    → frames_of (cache_after cache number change) ≡ frames_of cache
frames-after image cache number (Written first bytes) is enough =
    frames-puts number first (blocks_in bytes) cache.blocks
    (omega (arith, enough, ap (λ (n : ℕ). count_missing first n cache.blocks) (length-chunks 4096 ((length bytes + 4095) / 4096) bytes)))
frames-after image cache number (Cleared first blocks kind) is enough = frames-without (covers first blocks) cache.blocks
frames-after image cache number (Edged first blocks kind edges bytes) is enough =
    let head = take (head_count edges) (blocks_in bytes) in
    let tail = drop (head_count edges) (blocks_in bytes) in
    let in_head = length-head first blocks kind edges bytes is.0 is.4 in
    let in_tail = length-tail first blocks kind edges bytes is.0 is.4 in
    let between = covers (first + length head) (first + blocks - length tail - (first + length head)) in
    let cleared = without between cache.blocks in
    let fits : length head + length tail ≤ blocks = omega (arith, in_head, in_tail, counts_fit edges blocks is.0) in
    let same : edges_missing first blocks (length head) (length tail) cache.blocks ≡ edges_missing first blocks (head_count edges) (tail_count edges) cache.blocks =
    λ i. edges_missing first blocks (in_head i) (in_tail i) cache.blocks in
    let room : edges_missing first blocks (length head) (length tail) cache.blocks ≤ available_frames cache.blocks = omega (arith, enough, same) in
    frames-puts number (first + blocks - length tail) tail (with_puts number first head cleared)
    (room_at_tail number first blocks (length tail) head cache.blocks cleared (with_puts number first head cleared) fits room refl refl)
    ∙ frames-puts number first head cleared (room_at_head first blocks (length head) (length tail) cache.blocks cleared fits room refl)
    ∙ frames-without between cache.blocks

-- the dirty blocks have numbers up to the command's, where they had such before
pub order-after : (cache : CacheState) (number : ℕ) (change : Change) → All (λ (held : DirtyBlock). held.number ≤ number) cache.blocks.dirty
    → All (λ (held : DirtyBlock). held.number ≤ number) (cache_after cache number change).blocks.dirty
order-after cache number (Written first bytes) below = order-puts number first (blocks_in bytes) cache.blocks below
order-after cache number (Cleared first blocks kind) below =
    All-filter (λ (held : DirtyBlock). not (covers first blocks held.block)) (λ (held : DirtyBlock). held.number ≤ number) cache.blocks.dirty below
order-after cache number (Edged first blocks kind edges bytes) below =
    let head = take (head_count edges) (blocks_in bytes) in
    let tail = drop (head_count edges) (blocks_in bytes) in
    let between = covers (first + length head) (first + blocks - length tail - (first + length head)) in
    let cleared = without between cache.blocks in
    order-puts number (first + blocks - length tail) tail (with_puts number first head cleared)
    (order-puts number first head cleared
    (All-filter (λ (held : DirtyBlock). not (between held.block)) (λ (held : DirtyBlock). held.number ≤ number) cache.blocks.dirty below))

-- the image has as many blocks as before
pub states-after : (cache : CacheState) (number : ℕ) (change : Change) → IsChange (length cache.states) change
    → length (cache_after cache number change).states ≡ length cache.states
states-after cache number (Written first bytes) is =
    let many = length-replicate (length (blocks_in bytes)) Data in
    let whole = is.1 in
    let within = is.4 in
    length-patched cache.states first (replicate (length (blocks_in bytes)) Data)
    (omega (arith, many, length-chunks 4096 ((length bytes + 4095) / 4096) bytes, whole, within))
states-after cache number (Cleared first blocks kind) is =
    let within = is.1 in
    length-patched cache.states first (replicate blocks kind) (omega (arith, length-replicate blocks kind, within))
states-after cache number (Edged first blocks kind edges bytes) is =
    let head = take (head_count edges) (blocks_in bytes) in
    let tail = drop (head_count edges) (blocks_in bytes) in
    let fits : length head + length tail ≤ blocks =
    omega (arith, length-head first blocks kind edges bytes is.0 is.4, length-tail first blocks kind edges bytes is.0 is.4, counts_fit edges blocks is.0) in
    length-with_edges number first blocks kind head tail cache is.1 fits
