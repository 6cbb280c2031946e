-- blocks of ranges
use Rattle.std.proofs.Common.{◌≡◌, ◌≢◌, ◌<◌, ◌≤◌, ◌+◌, ◌-◌, ◌==◌, ◌||◌, inl, inr, ℕ, zero, suc, Bool, true, false, ◌&&◌, List, [], ◌∷◌, ◌++◌, length, map, filter, take, drop, get_or, refl, ap, ◌∙◌, sym, arith, if◌then◌else◌, None, Some}
use Rattle.std.specs.List.{list_any}
use Rattle.std.proofs.lemmas.Bool.{cases_Bool, cases_eq, cases_lt, ne_eqb, eq-eqb, le-leb, lt-leb, lt-ltb, le-ltb, leb-true, leb-false}
use Rattle.std.proofs.lemmas.Bool.Decides.{eqb_tells}
use Rattle.std.proofs.lemmas.List.{append-nil, append_assoc, get_or_default, take_more, length-take-le, length-drop}
use Rattle.std.proofs.Math.Dec.{eqb, leb, ltb}
use Rattle.image_model.specs.Image.{covers}
use Rattle.shared_cache.specs.Blocks.{BlocksState, CleanBlock, DirtyBlock, available_frames, cleaned, clean_outside, dirty_outside, count_missing, is_dirty, with_put, with_puts, without}
use Rattle.std.specs.List.{All}
use Rattle.std.specs.List.Sorted.{IsNonDecreasingBy}
use Rattle.std.proofs.lemmas.List.Elements.{All-head, All-nil, All-tail}
use Rattle.frame_pool.specs.Lists.{times}
use Rattle.frame_pool.specs.laws.Times.{times_head}
use Rattle.shared_cache.specs.laws.Indexed.{frame_below}
use Rattle.frame_pool.specs.Pool.{DirtyFrame, PoolState, frames_of, front_through, with_clean}
use Rattle.shared_cache.specs.CachedBlocks.{CachedState, IsHeld, block_at, blocks_of, clean_block, dirty_block, held_times}
use Rattle.shared_cache.specs.inner.Blocks.{IsMissing}
use Rattle.shared_cache.specs.laws.Kept.{blocks_of-clean_front, length-others}
use Rattle.shared_cache.specs.laws.Lookups.{without_none}

-- one block more is counted
pub count_next : (first offset count : ℕ) (s : BlocksState) → offset < count
    → count_missing (first + offset) (count - offset) s
    ≡ (if is_dirty (first + offset) s then 0 else 1) + count_missing (first + (offset + 1)) (count - (offset + 1)) s
count_next first offset count s below =
    let longer : count - offset ≡ suc (count - (offset + 1)) = omega arith in
    let further : first + offset + 1 ≡ first + (offset + 1) = omega arith in
    ap (λ (n : ℕ). count_missing (first + offset) n s) longer
    ∙ ap (λ (at : ℕ). (if is_dirty (first + offset) s then 0 else 1) + count_missing at (count - (offset + 1)) s) further

-- one block counts as one at most
pub one_at_most : (b : Bool) → (if b then 0 else 1) ≤ 1
one_at_most true = omega arith
one_at_most false = omega arith

-- no more blocks are counted than there are
pub missing_at_most : (first count : ℕ) (s : BlocksState) → count_missing first count s ≤ count
missing_at_most first zero s = omega arith
missing_at_most first (suc count) s = omega (arith, one_at_most (is_dirty first s), missing_at_most (first + 1) count s)

-- a put more
pub puts_next : (number first : ℕ) (blocks : List (List ℕ)) (bytes : List ℕ) (s : BlocksState)
    → with_puts number first (blocks ++ bytes ∷ []) s ≡ with_put number (first + length blocks) bytes (with_puts number first blocks s)
puts_next number first [] bytes s = ap (λ (at : ℕ). with_put number at bytes s) (omega arith)
puts_next number first (head ∷ blocks) bytes s =
    puts_next number (first + 1) blocks bytes (with_put number first head s)
    ∙ ap (λ (at : ℕ). with_put number at bytes (with_puts number (first + 1) blocks (with_put number first head s))) (omega arith)

any-append : (test : DirtyBlock → Bool) (xs ys : List DirtyBlock) → list_any test (xs ++ ys) ≡ (list_any test xs || list_any test ys)
any-append test [] ys = refl
any-append test (x ∷ xs) ys = elim (cases_Bool (test x)) [ inl e ↦ rw e refl | inr e ↦ rw e (any-append test xs ys) ]

pub any-outside : (block other : ℕ) (dirty : List DirtyBlock) → other ≢ block
    → list_any (λ (h : DirtyBlock). h.block == other) (dirty_outside (λ b. b == block) dirty) ≡ list_any (λ (h : DirtyBlock). h.block == other) dirty
any-outside block other [] ne = refl
any-outside block other (h ∷ dirty) ne =
    elim (eqb_tells h.block block) [
      | inl p ↦
          let off : eqb h.block other ≡ false = ne_eqb h.block other (λ e. ne (sym e ∙ p.1)) in
          rw (p.0, off) (any-outside block other dirty ne)
      | inr p ↦ rw p.0 (ap (λ (t : Bool). eqb h.block other || t) (any-outside block other dirty ne))
    ]

pub dirty_other : (number block other : ℕ) (bytes : List ℕ) (s : BlocksState) → other ≢ block → is_dirty other (with_put number block bytes s) ≡ is_dirty other s
dirty_other number block other bytes s ne =
    any-append (λ (h : DirtyBlock). h.block == other) (dirty_outside (λ b. b == block) s.dirty) (record { block = block; number = number; bytes = bytes } ∷ [])
    ∙ rw (ne_eqb block other (λ e. ne (sym e))) (or_false _)
    ∙ any-outside block other s.dirty ne
  where
    or_false : (t : Bool) → (t || (false || false)) ≡ t
    or_false true = refl
    or_false false = refl

-- a put changes no other block's count
pub count_put : (number block first count : ℕ) (bytes : List ℕ) (s : BlocksState) → block < first → count_missing first count (with_put number block bytes s) ≡ count_missing first count s
count_put number block first zero bytes s below = refl
count_put number block first (suc count) bytes s below =
    rw (dirty_other number block first bytes s (λ e. omega arith))
    (ap (λ (n : ℕ). (if is_dirty first s then 0 else 1) + n) (count_put number block (first + 1) count bytes s (omega arith)))

pub outside_le : (inside : ℕ → Bool) (dirty : List DirtyBlock) → length (dirty_outside inside dirty) ≤ length dirty
outside_le inside [] = omega arith
outside_le inside (h ∷ dirty) = elim (cases_Bool (inside h.block)) [ inl e ↦ rw e (omega (arith, outside_le inside dirty)) | inr e ↦ rw e (omega (arith, outside_le inside dirty)) ]

pub clean_le : (inside : ℕ → Bool) (clean : List CleanBlock) → length (clean_outside inside clean) ≤ length clean
clean_le inside [] = omega arith
clean_le inside (h ∷ clean) = elim (cases_Bool (inside h.block)) [ inl e ↦ rw e (omega (arith, clean_le inside clean)) | inr e ↦ rw e (omega (arith, clean_le inside clean)) ]

pub outside_less : (block : ℕ) (dirty : List DirtyBlock)
    → length (dirty_outside (λ b. b == block) dirty) + 1 ≤ length dirty + (if list_any (λ (h : DirtyBlock). h.block == block) dirty then 0 else 1)
outside_less block [] = omega arith
outside_less block (h ∷ dirty) =
    elim (cases_Bool (eqb h.block block)) [
      | inl e ↦ rw e (omega (arith, outside_le (λ b. b == block) dirty))
      | inr e ↦ rw e (omega (arith, outside_less block dirty))
    ]

-- a put takes at most the frame of one block that wasn't dirty
pub at_hand_put : (number block : ℕ) (bytes : List ℕ) (s : BlocksState) → available_frames s ≤ available_frames (with_put number block bytes s) + (if is_dirty block s then 0 else 1)
at_hand_put number block bytes s =
    let rest = without (λ b. b == block) s in
    omega (arith, outside_less block s.dirty, outside_le (λ b. b == block) s.dirty, clean_le (λ b. b == block) s.clean, length-drop (1 - rest.free) rest.clean)

-- two lets go one after another
filter_clean : (p q r : ℕ → Bool) → ((b : ℕ) → r b ≡ (p b || q b)) → (clean : List CleanBlock) → clean_outside q (clean_outside p clean) ≡ clean_outside r clean
filter_clean p q r both [] = refl
filter_clean p q r both (h ∷ clean) =
    elim (cases_Bool (p h.block)) [
      | inl e ↦ let also : r h.block ≡ true = both h.block ∙ rw e refl in rw (e, also) (filter_clean p q r both clean)
      | inr e ↦
          let same : r h.block ≡ q h.block = both h.block ∙ rw e refl in
          rw (e, same) (elim (cases_Bool (q h.block)) [
            | inl in_q ↦ rw in_q (filter_clean p q r both clean)
            | inr out ↦ rw out (ap (λ (list : List CleanBlock). h ∷ list) (filter_clean p q r both clean))
          ])
    ]

filter_dirty : (p q r : ℕ → Bool) → ((b : ℕ) → r b ≡ (p b || q b)) → (dirty : List DirtyBlock) → dirty_outside q (dirty_outside p dirty) ≡ dirty_outside r dirty
filter_dirty p q r both [] = refl
filter_dirty p q r both (h ∷ dirty) =
    elim (cases_Bool (p h.block)) [
      | inl e ↦ let also : r h.block ≡ true = both h.block ∙ rw e refl in rw (e, also) (filter_dirty p q r both dirty)
      | inr e ↦
          let same : r h.block ≡ q h.block = both h.block ∙ rw e refl in
          rw (e, same) (elim (cases_Bool (q h.block)) [
            | inl in_q ↦ rw in_q (filter_dirty p q r both dirty)
            | inr out ↦ rw out (ap (λ (list : List DirtyBlock). h ∷ list) (filter_dirty p q r both dirty))
          ])
    ]

pub without-without : (p q r : ℕ → Bool) → ((b : ℕ) → r b ≡ (p b || q b)) → (s : BlocksState) → without q (without p s) ≡ without r s
without-without p q r both s =
    let clean = filter_clean p q r both s.clean in
    let dirty = filter_dirty p q r both s.dirty in
    let clean_now = ap length clean in
    let dirty_now = ap length dirty in
    let free : (without q (without p s)).free ≡ (without r s).free =
    omega (arith, clean_now, dirty_now, clean_le p s.clean, clean_le q (clean_outside p s.clean), outside_le p s.dirty, outside_le q (dirty_outside p s.dirty)) in
    made _ _ _ _ _ _ free clean dirty
  where
    made : (free free' : ℕ) (clean clean' : List CleanBlock) (dirty dirty' : List DirtyBlock) → free ≡ free' → clean ≡ clean' → dirty ≡ dirty'
        → (let s : BlocksState = record { free = free; clean = clean; dirty = dirty } in s) ≡ record { free = free'; clean = clean'; dirty = dirty' }
    made free free' clean clean' dirty dirty' a b c = rw (a, b, c) refl

-- a range and the block after it
pub covers_next : (first offset b : ℕ) → covers first (offset + 1) b ≡ (covers first offset b || eqb b (first + offset))
covers_next first offset b =
    elim (cases_lt b (first + offset)) [
      | inl below ↦
          let wide = lt-ltb b (first + (offset + 1)) (omega arith) in
          let narrow = lt-ltb b (first + offset) below in
          let ne = ne_eqb b (first + offset) (λ e. omega arith) in
          rw (wide, narrow, ne) (spread (leb first b))
      | inr above ↦ at_end first offset b above
    ]
  where
    spread : (t : Bool) → (t && true) ≡ ((t && true) || false)
    spread true = refl
    spread false = refl

    nothing : (t : Bool) → (t && false) ≡ ((t && false) || false)
    nothing true = refl
    nothing false = refl

    at_end : (first offset b : ℕ) → first + offset ≤ b → covers first (offset + 1) b ≡ (covers first offset b || eqb b (first + offset))
    at_end first offset b above =
        let narrow = le-ltb b (first + offset) above in
        elim (cases_eq b (first + offset)) [
          | inl e ↦
              let wide = lt-ltb b (first + (offset + 1)) (omega arith) in
              let from = le-leb first b (omega arith) in
              rw (wide, narrow, from, eq-eqb b (first + offset) e) refl
          | inr ne ↦
              let wide = le-ltb b (first + (offset + 1)) (omega arith) in
              rw (wide, narrow, ne_eqb b (first + offset) ne) (nothing (leb first b))
        ]

-- nothing is covered by a range of no blocks
pub without_empty : (first : ℕ) (s : BlocksState) → s ≡ without (covers first 0) s
without_empty first s =
    sym (without_none (covers first 0) s (none_clean first s.clean) (none_dirty first s.dirty))
  where
    out : (first b : ℕ) → covers first 0 b ≡ false
    out first b =
        elim (cases_lt b first) [
          | inl below ↦ rw (lt-leb first b below) refl
          | inr above ↦ rw (le-leb first b above, le-ltb b (first + 0) (omega arith)) refl
        ]

    none_clean : (first : ℕ) (clean : List CleanBlock) → list_any (λ (h : CleanBlock). covers first 0 h.block) clean ≡ false
    none_clean first [] = refl
    none_clean first (h ∷ clean) = rw (out first h.block) (none_clean first clean)

    none_dirty : (first : ℕ) (dirty : List DirtyBlock) → list_any (λ (h : DirtyBlock). covers first 0 h.block) dirty ≡ false
    none_dirty first [] = refl
    none_dirty first (h ∷ dirty) = rw (out first h.block) (none_dirty first dirty)

-- blocks let go one by one
pub release_next : (first offset block : ℕ) (old now : BlocksState) → block ≡ first + offset → now ≡ without (covers first offset) old
    → without (λ b. b == block) now ≡ without (covers first (offset + 1)) old
release_next first offset block old now is left =
    ap (λ (s : BlocksState). without (λ b. b == block) s) left
    ∙ ap (λ (v : ℕ). without (λ b. b == v) (without (covers first offset) old)) is
    ∙ without-without (covers first offset) (λ b. b == first + offset) (covers first (offset + 1)) (λ b. covers_next first offset b) old

-- the front of the dirty frames, where it is clean now
front_split : (number frame : ℕ) (dirty : List DirtyFrame) → front_through number dirty ≡ Some frame
    → (first : DirtyFrame) × (rest : List DirtyFrame) × (dirty ≡ first ∷ rest) × (first.frame ≡ frame) × (first.number ≤ number)
front_split number frame [] is = cc
front_split number frame (first ∷ rest) is =
    elim (cases_Bool (leb first.number number)) [
      | inl within ↦
          let front : (if leb first.number number then Some first.frame else None) ≡ Some first.frame = rw within refl in
          (first, rest, refl, cc, leb-true first.number number within)
      | inr above ↦ let none : (if leb first.number number then Some first.frame else None) ≡ None = rw above refl in cc
    ]

cleaned_step : (number free : ℕ) (clean : List CleanBlock) (first : DirtyBlock) (rest : List DirtyBlock) → first.number ≤ number
    → cleaned number (record { free = free; clean = clean ++ record { block = first.block; bytes = first.bytes } ∷ []; dirty = rest })
    ≡ cleaned number (record { free = free; clean = clean; dirty = first ∷ rest })
cleaned_step number free clean first rest le =
    rw (le-leb first.number number le, le-ltb number first.number le, append_assoc) refl

pub clean_step : (held new : CachedState) (frame number : ℕ) → IsHeld held → front_through number held.pool.dirty ≡ Some frame
    → new.pool ≡ with_clean frame held.pool → new.blocks ≡ held.blocks
    → (cleaned number (blocks_of new.pool new.blocks) ≡ cleaned number (blocks_of held.pool held.blocks)) × (length new.pool.dirty < length held.pool.dirty)
clean_step held new frame number is front p b = clean_split held new frame number is p b (front_split number frame held.pool.dirty front)
  where
    clean_split : (held new : CachedState) (frame number : ℕ) → IsHeld held
        → new.pool ≡ with_clean frame held.pool → new.blocks ≡ held.blocks
        → (first : DirtyFrame) × (rest : List DirtyFrame) × (held.pool.dirty ≡ first ∷ rest) × (first.frame ≡ frame) × (first.number ≤ number)
        → (cleaned number (blocks_of new.pool new.blocks) ≡ cleaned number (blocks_of held.pool held.blocks)) × (length new.pool.dirty < length held.pool.dirty)
    clean_split held new frame number is p b (first, rest, split, same, le) =
        let S = blocks_of held.pool held.blocks in
        let g = λ (h : DirtyFrame). dirty_block held.pool held.blocks h in
        let now : blocks_of new.pool new.blocks ≡ record { free = S.free; clean = S.clean ++ clean_block held.pool held.blocks first.frame ∷ []; dirty = drop 1 S.dirty } =
        ap (λ (pool : PoolState). blocks_of pool new.blocks) p
        ∙ ap (λ (blocks : List ℕ). blocks_of (with_clean frame held.pool) blocks) b
        ∙ ap (λ (f : ℕ). blocks_of (with_clean f held.pool) held.blocks) (sym same)
        ∙ blocks_of-clean_front held first rest is split in
        let dirty : S.dirty ≡ g first ∷ map g rest = ap (λ (list : List DirtyFrame). map g list) split in
        let step = cleaned_step number S.free S.clean (g first) (map g rest) le in
        let at = λ (list : List DirtyBlock). let t : BlocksState = record { free = S.free; clean = S.clean; dirty = list } in cleaned number t in
        let after = λ (list : List DirtyBlock). let t : BlocksState = record { free = S.free; clean = S.clean ++ clean_block held.pool held.blocks first.frame ∷ []; dirty = drop 1 list } in cleaned number t in (
          ap (cleaned number) now ∙ ap after dirty ∙ step ∙ sym (ap at dirty),
          let left = ap (λ (pool : PoolState). length pool.dirty) p in
              let fewer = length-others frame held.pool.dirty in
              let head : times frame (frames_of held.pool.dirty) ≡ 1 + times frame (frames_of rest) =
              ap (λ (list : List DirtyFrame). times frame (frames_of list)) split ∙ rw (eq-eqb first.frame frame same) refl in
              omega (arith, left, fewer, head),
        )

-- nothing is left to clean
pub clean_done : (held : CachedState) (number : ℕ) → IsHeld held → front_through number held.pool.dirty ≡ None
    → blocks_of held.pool held.blocks ≡ cleaned number (blocks_of held.pool held.blocks)
clean_done held number is none =
    let S = blocks_of held.pool held.blocks in
    let above = all_above number held.pool.dirty is.pool.order none in
    let left = none_within held.pool held.blocks number held.pool.dirty above in
    rw (left.0, left.1) (ap (λ (list : List CleanBlock). let t : BlocksState = record { free = S.free; clean = list; dirty = S.dirty } in t) (sym (append-nil S.clean)))
  where
    above_front : (number : ℕ) (first : DirtyFrame) (rest : List DirtyFrame) → front_through number (first ∷ rest) ≡ None → number < first.number
    above_front number first rest none =
        elim (cases_Bool (leb first.number number)) [
          | inl within ↦ let front : (if leb first.number number then Some first.frame else None) ≡ Some first.frame = rw within refl in cc
          | inr above ↦ leb-false first.number number above
        ]

    all_above : (number : ℕ) (dirty : List DirtyFrame) → IsNonDecreasingBy (λ (h : DirtyFrame). h.number) dirty → front_through number dirty ≡ None
        → All (λ (h : DirtyFrame). number < h.number) dirty
    all_above number [] order none = All-nil (λ (h : DirtyFrame). number < h.number)
    all_above number (first ∷ rest) order none =
        let low = above_front number first rest none in
        λ k d below. let rise = order 0 k d (omega arith) below in omega (arith, low, rise)

    none_within : (pool : PoolState) (blocks : List ℕ) (number : ℕ) (dirty : List DirtyFrame) → All (λ (h : DirtyFrame). number < h.number) dirty
        → (filter (λ (h : DirtyBlock). leb h.number number) (map (λ (h : DirtyFrame). dirty_block pool blocks h) dirty) ≡ [])
        × (filter (λ (h : DirtyBlock). ltb number h.number) (map (λ (h : DirtyFrame). dirty_block pool blocks h) dirty) ≡ map (λ (h : DirtyFrame). dirty_block pool blocks h) dirty)
    none_within pool blocks number [] all = (refl, refl)
    none_within pool blocks number (h ∷ dirty) all =
        let head = All-head (λ (h : DirtyFrame). number < h.number) h dirty all in
        let rest = none_within pool blocks number dirty (All-tail (λ (h : DirtyFrame). number < h.number) h dirty all) in
        (rw (lt-leb h.number number head) rest.0, rw (lt-ltb number h.number head) (ap (λ (list : List DirtyBlock). dirty_block pool blocks h ∷ list) rest.1))

-- a block of the range let go
pub left_out : (first count block : ℕ) (s : BlocksState) → covers first count block ≡ true
    → without (covers first count) (without (λ b. b == block) s) ≡ without (covers first count) s
left_out first count block s inside =
    without-without (λ b. b == block) (covers first count) (covers first count) (λ b. among first count block b inside) s
  where
    among : (first count block b : ℕ) → covers first count block ≡ true → covers first count b ≡ (eqb b block || covers first count b)
    among first count block b inside =
        elim (eqb_tells b block) [
          | inl p ↦ rw p.0 (ap (covers first count) p.1 ∙ inside)
          | inr p ↦ rw p.0 refl
        ]

-- No frame holds a block of the range.
pub none_covered : (first count : ℕ) (held : CachedState) → IsHeld held
    → ((frame : ℕ) → frame < length held.pool.bytes → covers first count (block_at held.blocks frame) ≡ true → IsMissing (block_at held.blocks frame) held)
    → blocks_of held.pool held.blocks ≡ without (covers first count) (blocks_of held.pool held.blocks)
none_covered first count held is gone =
    sym (without_none (covers first count) (blocks_of held.pool held.blocks)
    (clean_out first count held.pool held.blocks held.pool.clean (λ frame there. outside first count held is gone frame (omega (arith, there))))
    (dirty_out first count held.pool held.blocks held.pool.dirty (λ frame there. outside first count held is gone frame (omega (arith, there)))))
  where
    outside : (first count : ℕ) (held : CachedState) → IsHeld held
        → ((frame : ℕ) → frame < length held.pool.bytes → covers first count (block_at held.blocks frame) ≡ true → IsMissing (block_at held.blocks frame) held)
        → (frame : ℕ) → 1 ≤ held_times frame held.pool → covers first count (block_at held.blocks frame) ≡ false
    outside first count held is gone frame some =
        elim (cases_Bool (covers first count (block_at held.blocks frame))) [
          | inl inside ↦ absurd (gone frame (frame_below frame held.pool is.pool (omega (arith, some))) inside frame some refl)
          | inr out ↦ out
        ]

    clean_out : (first count : ℕ) (pool : PoolState) (blocks : List ℕ) (frames : List ℕ) → ((frame : ℕ) → 1 ≤ times frame frames → covers first count (block_at blocks frame) ≡ false)
        → list_any (λ (h : CleanBlock). covers first count h.block) (map (λ f. clean_block pool blocks f) frames) ≡ false
    clean_out first count pool blocks [] out = refl
    clean_out first count pool blocks (f ∷ frames) out =
        rw (out f (omega (arith, times_head f frames))) (clean_out first count pool blocks frames (λ frame there. out frame (omega (arith, there))))

    dirty_out : (first count : ℕ) (pool : PoolState) (blocks : List ℕ) (dirty : List DirtyFrame) → ((frame : ℕ) → 1 ≤ times frame (frames_of dirty) → covers first count (block_at blocks frame) ≡ false)
        → list_any (λ (h : DirtyBlock). covers first count h.block) (map (λ (h : DirtyFrame). dirty_block pool blocks h) dirty) ≡ false
    dirty_out first count pool blocks [] out = refl
    dirty_out first count pool blocks (h ∷ dirty) out =
        rw (out h.frame (omega (arith, times_head h.frame (frames_of dirty)))) (dirty_out first count pool blocks dirty (λ frame there. out frame (omega (arith, there))))

-- one put more of a list of them
pub puts_step : (number first offset : ℕ) (blocks : List (List ℕ)) (d : List ℕ) (old s new : BlocksState) → offset < length blocks
    → s ≡ with_puts number first (take offset blocks) old → new ≡ with_put number (first + offset) (get_or blocks offset d) s
    → new ≡ with_puts number first (take (offset + 1) blocks) old
puts_step number first offset blocks d old s new below so_far put =
    put
    ∙ ap (λ (t : BlocksState). with_put number (first + offset) (get_or blocks offset d) t) so_far
    ∙ ap (λ (n : ℕ). with_put number (first + n) (get_or blocks offset d) (with_puts number first (take offset blocks) old)) (sym (length-take-le offset blocks (omega arith)))
    ∙ sym (puts_next number first (take offset blocks) (get_or blocks offset d) old)
    ∙ ap (λ (list : List (List ℕ)). with_puts number first list old) (sym (take_more blocks offset d below))

pub frames_step : (number first offset count : ℕ) (bytes : List ℕ) (s new : BlocksState) → new ≡ with_put number (first + offset) bytes s → offset < count
    → count_missing (first + offset) (count - offset) s ≤ available_frames s
    → count_missing (first + (offset + 1)) (count - (offset + 1)) new ≤ available_frames new
frames_step number first offset count bytes s new put below room =
    let next = count_next first offset count s below in
    let same = count_put number (first + offset) (first + (offset + 1)) (count - (offset + 1)) bytes s (omega arith) in
    let hand = at_hand_put number (first + offset) bytes s in
    rw put (omega (arith, next, same, hand, room))

pub covers_true : (first count block : ℕ) → first ≤ block → block < first + count → covers first count block ≡ true
covers_true first count block above below = rw (le-leb first block above, lt-ltb block (first + count) below) refl

-- the blocks that are gone, once a frame more was looked at
pub gone_step : (old new : CachedState) (first count i block : ℕ) → new.blocks ≡ old.blocks
    → ((frame : ℕ) → 1 ≤ held_times frame new.pool → 1 ≤ held_times frame old.pool)
    → ((frame : ℕ) → frame < i → covers first count (block_at old.blocks frame) ≡ true → IsMissing (block_at old.blocks frame) old)
    → block ≡ block_at old.blocks i → (covers first count block ≡ true → IsMissing block new)
    → (frame : ℕ) → frame < i + 1 → covers first count (block_at new.blocks frame) ≡ true → IsMissing (block_at new.blocks frame) new
gone_step old new first count i block kept left gone is here frame below inside =
    let same : block_at new.blocks frame ≡ block_at old.blocks frame = ap (λ (blocks : List ℕ). block_at blocks frame) kept in
    elim (cases_lt frame i) [
      | inl before ↦ λ other some e.
          gone frame before (sym (ap (covers first count) same) ∙ inside) other (left other some)
          (sym (ap (λ (blocks : List ℕ). block_at blocks other) kept) ∙ e ∙ same)
      | inr after ↦
          let at : frame ≡ i = omega arith in
          let mine : block ≡ block_at new.blocks frame = is ∙ ap (λ (v : ℕ). block_at old.blocks v) (sym at) ∙ sym same in
          λ other some e. here (ap (covers first count) mine ∙ inside) other some (e ∙ sym mine)
    ]

-- the block of a frame as it was read
pub block_read : (inside seen : CachedState) (frame read : ℕ) → inside ≡ seen → frame < length seen.blocks → read ≡ get_or inside.blocks frame read
    → read ≡ block_at seen.blocks frame
block_read inside seen frame read is below was =
    was ∙ ap (λ (h : CachedState). get_or h.blocks frame read) is ∙ get_or_default seen.blocks frame read 0 below

pub same_held : (old new : CachedState) → new.pool ≡ old.pool → new.blocks ≡ old.blocks → blocks_of new.pool new.blocks ≡ blocks_of old.pool old.blocks
same_held old new p b = ap (λ (pool : PoolState). blocks_of pool new.blocks) p ∙ ap (λ (blocks : List ℕ). blocks_of old.pool blocks) b
