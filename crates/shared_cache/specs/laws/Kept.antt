-- the blocks that frames hold, once a frame was moved or written
use Rattle.std.proofs.Common.{◌≡◌, ◌≢◌, ◌≤◌, ◌+◌, ◌-◌, ◌==◌, inl, inr, ℕ, List, [], ◌∷◌, ◌++◌, length, get_or, set, map, drop, refl, ap, ◌∙◌, sym, arith, Some, length-append, slice_get}
use Rattle.std.specs.List.{range_with_len}
use Rattle.std.proofs.lemmas.List.FromFn.{length-range_with_len}
use Rattle.std.proofs.lemmas.Bool.{cases_lt, ne_eqb, eq-eqb, lt-ltb, le-ltb}
use Rattle.std.proofs.lemmas.Bool.Decides.{eqb_tells}
use Rattle.std.proofs.lemmas.List.{get_or-set_same, get_or-set_other, length-map, map-append}
use Rattle.frame_pool.specs.Lists.{times, without as without_frame, total}
use Rattle.frame_pool.specs.Pool.{DirtyFrame, PoolState, IsPool, frames_of, lists_in, others, with_bytes, with_free, with_clean, with_dirty}
use Rattle.frame_pool.specs.laws.Times.{times-without_same, length-without, without_absent, times_head}
use Rattle.shared_cache.specs.Blocks.{BlocksState, CleanBlock, DirtyBlock, clean_outside, dirty_outside, without, with_put}
use Rattle.shared_cache.specs.inner.Blocks.{evicted}
use Rattle.shared_cache.specs.CachedBlocks.{CachedState, IsHeld, block_at, bytes_at, blocks_of, clean_block, dirty_block, held_times}
use Rattle.shared_cache.specs.laws.Indexed.{frames_of-others, free_apart, frame_below}

-- the blocks of frames without one frame are those without its block
outside-clean : (pool : PoolState) (blocks : List ℕ) (frame : ℕ) (frames : List ℕ)
    → ((other : ℕ) → 1 ≤ times other frames → block_at blocks other ≡ block_at blocks frame → other ≡ frame)
    → map (λ f. clean_block pool blocks f) (without_frame frame frames)
    ≡ clean_outside (λ b. b == block_at blocks frame) (map (λ f. clean_block pool blocks f) frames)
outside-clean pool blocks frame [] apart = refl
outside-clean pool blocks frame (other ∷ frames) apart =
    let rest = outside-clean pool blocks frame frames (λ x some. apart x (omega (arith, some))) in
    elim (eqb_tells other frame) [
      | inl p ↦ rw (p.0, eq-eqb (block_at blocks other) (block_at blocks frame) (ap (λ (v : ℕ). block_at blocks v) p.1)) rest
      | inr p ↦
          let away : block_at blocks other ≢ block_at blocks frame = λ e. p.1 (apart other (omega (arith, times_head other frames)) e) in
          rw (p.0, ne_eqb (block_at blocks other) (block_at blocks frame) away) (ap (λ (list : List CleanBlock). clean_block pool blocks other ∷ list) rest)
    ]

outside-dirty : (pool : PoolState) (blocks : List ℕ) (frame : ℕ) (dirty : List DirtyFrame)
    → ((other : ℕ) → 1 ≤ times other (frames_of dirty) → block_at blocks other ≡ block_at blocks frame → other ≡ frame)
    → map (λ (h : DirtyFrame). dirty_block pool blocks h) (others frame dirty)
    ≡ dirty_outside (λ b. b == block_at blocks frame) (map (λ (h : DirtyFrame). dirty_block pool blocks h) dirty)
outside-dirty pool blocks frame [] apart = refl
outside-dirty pool blocks frame (held ∷ dirty) apart =
    let rest = outside-dirty pool blocks frame dirty (λ x some. apart x (omega (arith, some))) in
    elim (eqb_tells held.frame frame) [
      | inl p ↦ rw (p.0, eq-eqb (block_at blocks held.frame) (block_at blocks frame) (ap (λ (v : ℕ). block_at blocks v) p.1)) rest
      | inr p ↦
          let away : block_at blocks held.frame ≢ block_at blocks frame = λ e. p.1 (apart held.frame (omega (arith, times_head held.frame (frames_of dirty))) e) in
          rw (p.0, ne_eqb (block_at blocks held.frame) (block_at blocks frame) away) (ap (λ (list : List DirtyBlock). dirty_block pool blocks held ∷ list) rest)
    ]

-- the blocks of frames among which the one that is written isn't
kept-clean : (pool pool' : PoolState) (blocks blocks' : List ℕ) (frame : ℕ) (frames : List ℕ)
    → ((other : ℕ) → other ≢ frame → (block_at blocks' other ≡ block_at blocks other) × (bytes_at pool' other ≡ bytes_at pool other))
    → times frame frames ≡ 0
    → map (λ f. clean_block pool' blocks' f) frames ≡ map (λ f. clean_block pool blocks f) frames
kept-clean pool pool' blocks blocks' frame [] same none = refl
kept-clean pool pool' blocks blocks' frame (other ∷ frames) same none =
    let ne : other ≢ frame = λ e. let first : times frame (other ∷ frames) ≡ 1 + times frame frames = rw (eq-eqb other frame e) refl in omega (arith, first, none) in
    let rest = kept-clean pool pool' blocks blocks' frame frames same (omega (arith, none)) in
    rw ((same other ne).0, (same other ne).1) (ap (λ (list : List CleanBlock). clean_block pool blocks other ∷ list) rest)

kept-dirty : (pool pool' : PoolState) (blocks blocks' : List ℕ) (frame : ℕ) (dirty : List DirtyFrame)
    → ((other : ℕ) → other ≢ frame → (block_at blocks' other ≡ block_at blocks other) × (bytes_at pool' other ≡ bytes_at pool other))
    → times frame (frames_of dirty) ≡ 0
    → map (λ (h : DirtyFrame). dirty_block pool' blocks' h) dirty ≡ map (λ (h : DirtyFrame). dirty_block pool blocks h) dirty
kept-dirty pool pool' blocks blocks' frame [] same none = refl
kept-dirty pool pool' blocks blocks' frame (held ∷ dirty) same none =
    let ne : held.frame ≢ frame = λ e. let first : times frame (frames_of (held ∷ dirty)) ≡ 1 + times frame (frames_of dirty) = rw (eq-eqb held.frame frame e) refl in omega (arith, first, none) in
    let rest = kept-dirty pool pool' blocks blocks' frame dirty same (omega (arith, none)) in
    rw ((same held.frame ne).0, (same held.frame ne).1) (ap (λ (list : List DirtyBlock). dirty_block pool blocks held ∷ list) rest)

others_absent : (frame : ℕ) (dirty : List DirtyFrame) → times frame (frames_of dirty) ≡ 0 → others frame dirty ≡ dirty
others_absent frame [] none = refl
others_absent frame (held ∷ dirty) none =
    let ne : held.frame ≢ frame = λ e. let first : times frame (frames_of (held ∷ dirty)) ≡ 1 + times frame (frames_of dirty) = rw (eq-eqb held.frame frame e) refl in omega (arith, first, none) in
    rw (ne_eqb held.frame frame ne) (ap (λ (list : List DirtyFrame). held ∷ list) (others_absent frame dirty (omega (arith, none))))

pub length-others : (frame : ℕ) (dirty : List DirtyFrame) → length (others frame dirty) + times frame (frames_of dirty) ≡ length dirty
length-others frame dirty =
    let e : length (others frame dirty) ≡ length (without_frame frame (frames_of dirty)) = sym (length-map (others frame dirty) (λ (h : DirtyFrame). h.frame)) ∙ ap length (frames_of-others frame dirty) in
    let whole = length-without frame (frames_of dirty) in
    omega (arith, e, whole, length-map dirty (λ (h : DirtyFrame). h.frame))

-- A frame stands in one list, once.
pub stands_once : (frame : ℕ) (pool : PoolState) → IsPool pool → 1 ≤ times frame pool.free + held_times frame pool → times frame pool.free + held_times frame pool ≡ 1
stands_once frame pool is some =
    elim (cases_lt frame (total (lists_in pool))) [
      | inl below ↦ let once = rw (lt-ltb frame (total (lists_in pool)) below) at (is.each frame) in omega (arith, once)
      | inr above ↦ let none = rw (le-ltb frame (total (lists_in pool)) above) at (is.each frame) in absurd (omega (arith, none, some))
    ]

-- a frame let go of its block
pub blocks_of-free : (held : CachedState) (frame : ℕ) → IsHeld held → 1 ≤ held_times frame held.pool
    → blocks_of (with_free frame held.pool) held.blocks ≡ without (λ b. b == block_at held.blocks frame) (blocks_of held.pool held.blocks)
blocks_of-free held frame is some =
    let pool = held.pool in
    let blocks = held.blocks in
    let once = stands_once frame pool is.pool (omega (arith, some)) in
    let clean = outside-clean pool blocks frame pool.clean (λ other there e. is.apart other frame (omega (arith, there)) some e) in
    let dirty = outside-dirty pool blocks frame pool.dirty (λ other there e. is.apart other frame (omega (arith, there)) some e) in
    let clean_left : length (clean_outside (λ b. b == block_at blocks frame) (blocks_of pool blocks).clean) ≡ length (without_frame frame pool.clean) =
    ap length (sym clean) ∙ length-map (without_frame frame pool.clean) (λ f. clean_block pool blocks f) in
    let dirty_left : length (dirty_outside (λ b. b == block_at blocks frame) (blocks_of pool blocks).dirty) ≡ length (others frame pool.dirty) =
    ap length (sym dirty) ∙ length-map (others frame pool.dirty) (λ (h : DirtyFrame). dirty_block pool blocks h) in
    let free : (blocks_of (with_free frame pool) blocks).free ≡ (without (λ b. b == block_at blocks frame) (blocks_of pool blocks)).free =
    let at_end = length-append (without_frame frame pool.free) (frame ∷ []) in
    let free_left = length-without frame pool.free in
    let clean_whole = length-without frame pool.clean in
    let dirty_whole = length-others frame pool.dirty in
    let clean_all = length-map pool.clean (λ f. clean_block pool blocks f) in
    let dirty_all = length-map pool.dirty (λ (h : DirtyFrame). dirty_block pool blocks h) in
    omega (arith, once, some, clean_left, dirty_left, at_end, free_left, clean_whole, dirty_whole, clean_all, dirty_all) in
    rw (← clean, ← dirty)
    (ap (λ (n : ℕ). let s : BlocksState = record { free = n; clean = map (λ f. clean_block pool blocks f) (without_frame frame pool.clean); dirty = map (λ (h : DirtyFrame). dirty_block pool blocks h) (others frame pool.dirty) } in s)
    (rw (← clean, ← dirty) at free))

-- what a write of a frame leaves of the others
written_apart : (pool : PoolState) (blocks : List ℕ) (frame block : ℕ) (bytes : List ℕ) (other : ℕ) → other ≢ frame
    → (block_at (set blocks frame block) other ≡ block_at blocks other) × (get_or (set pool.bytes frame bytes) other [] ≡ bytes_at pool other)
written_apart pool blocks frame block bytes other ne = (get_or-set_other blocks frame other block 0 ne, get_or-set_other pool.bytes frame other bytes [] ne)

same_blocks : (free free' : ℕ) (clean clean' : List CleanBlock) (dirty dirty' : List DirtyBlock) → free ≡ free' → clean ≡ clean' → dirty ≡ dirty'
    → (let s : BlocksState = record { free = free; clean = clean; dirty = dirty } in s) ≡ record { free = free'; clean = clean'; dirty = dirty' }
same_blocks free free' clean clean' dirty dirty' a b c = rw (a, b, c) refl

-- a free frame holds a block, which is dirty
pub blocks_of-assign_dirty : (held : CachedState) (frame block number : ℕ) (bytes : List ℕ) → IsHeld held → 1 ≤ times frame held.pool.free
    → blocks_of (with_bytes frame bytes (with_dirty frame number held.pool)) (set held.blocks frame block)
    ≡ (let s = blocks_of held.pool held.blocks in record { free = s.free - 1; clean = s.clean; dirty = s.dirty ++ record { block = block; number = number; bytes = bytes } ∷ [] })
blocks_of-assign_dirty held frame block number bytes is some =
    let pool = held.pool in
    let blocks = held.blocks in
    let pool' = with_bytes frame bytes (with_dirty frame number pool) in
    let blocks' = set blocks frame block in
    let none = free_apart frame pool is.pool some in
    let below = frame_below frame pool is.pool (omega (arith, some)) in
    let once = stands_once frame pool is.pool (omega (arith, some)) in
    let clean = kept-clean pool pool' blocks blocks' frame pool.clean (written_apart pool blocks frame block bytes) (omega (arith, none)) in
    let dirty = kept-dirty pool pool' blocks blocks' frame pool.dirty (written_apart pool blocks frame block bytes) (omega (arith, none)) in
    let mine : DirtyFrame = record { frame = frame; number = number } in
    let now : dirty_block pool' blocks' mine ≡ record { block = block; number = number; bytes = bytes } =
    rw (get_or-set_same blocks frame block 0 (rw is.size below), get_or-set_same pool.bytes frame bytes [] below) refl in
    same_blocks _ _ _ _ _ _ (omega (arith, length-without frame pool.free, none, once))
    (ap (λ (list : List ℕ). map (λ f. clean_block pool' blocks' f) list) (without_absent frame pool.clean (omega (arith, none))) ∙ clean)
    (map-append (λ (h : DirtyFrame). dirty_block pool' blocks' h) (others frame pool.dirty) (mine ∷ [])
    ∙ ap (λ (list : List DirtyFrame). map (λ (h : DirtyFrame). dirty_block pool' blocks' h) list ++ dirty_block pool' blocks' mine ∷ []) (others_absent frame pool.dirty (omega (arith, none)))
    ∙ ap (λ (list : List DirtyBlock). list ++ dirty_block pool' blocks' mine ∷ []) dirty
    ∙ ap (λ (h : DirtyBlock). map (λ (h : DirtyFrame). dirty_block pool blocks h) pool.dirty ++ h ∷ []) now)

pub blocks_of-assign_clean : (held : CachedState) (frame block : ℕ) (bytes : List ℕ) → IsHeld held → 1 ≤ times frame held.pool.free
    → blocks_of (with_bytes frame bytes (with_clean frame held.pool)) (set held.blocks frame block)
    ≡ (let s = blocks_of held.pool held.blocks in record { free = s.free - 1; clean = s.clean ++ record { block = block; bytes = bytes } ∷ []; dirty = s.dirty })
blocks_of-assign_clean held frame block bytes is some =
    let pool = held.pool in
    let blocks = held.blocks in
    let pool' = with_bytes frame bytes (with_clean frame pool) in
    let blocks' = set blocks frame block in
    let none = free_apart frame pool is.pool some in
    let below = frame_below frame pool is.pool (omega (arith, some)) in
    let once = stands_once frame pool is.pool (omega (arith, some)) in
    let clean = kept-clean pool pool' blocks blocks' frame pool.clean (written_apart pool blocks frame block bytes) (omega (arith, none)) in
    let dirty = kept-dirty pool pool' blocks blocks' frame pool.dirty (written_apart pool blocks frame block bytes) (omega (arith, none)) in
    let now : clean_block pool' blocks' frame ≡ record { block = block; bytes = bytes } =
    rw (get_or-set_same blocks frame block 0 (rw is.size below), get_or-set_same pool.bytes frame bytes [] below) refl in
    same_blocks _ _ _ _ _ _ (omega (arith, length-without frame pool.free, none, once))
    (map-append (λ f. clean_block pool' blocks' f) (without_frame frame pool.clean) (frame ∷ [])
    ∙ ap (λ (list : List ℕ). map (λ f. clean_block pool' blocks' f) list ++ clean_block pool' blocks' frame ∷ []) (without_absent frame pool.clean (omega (arith, none)))
    ∙ ap (λ (list : List CleanBlock). list ++ clean_block pool' blocks' frame ∷ []) clean
    ∙ ap (λ (h : CleanBlock). map (λ f. clean_block pool blocks f) pool.clean ++ h ∷ []) now)
    (ap (λ (list : List DirtyFrame). map (λ (h : DirtyFrame). dirty_block pool' blocks' h) list) (others_absent frame pool.dirty (omega (arith, none))) ∙ dirty)

-- a put over the blocks that are left where its own was let go
put_after : (number block : ℕ) (bytes : List ℕ) (s rest : BlocksState) → without (λ b. b == block) s ≡ rest
    → with_put number block bytes s
    ≡ record { free = rest.free - 1; clean = drop (1 - rest.free) rest.clean; dirty = rest.dirty ++ record { block = block; number = number; bytes = bytes } ∷ [] }
put_after number block bytes s rest is =
    ap (λ (left : BlocksState). let now : BlocksState = record { free = left.free - 1; clean = drop (1 - left.free) left.clean; dirty = left.dirty ++ record { block = block; number = number; bytes = bytes } ∷ [] } in now) is

-- the block of a frame written again
pub blocks_of-write_again : (held : CachedState) (frame number : ℕ) (bytes : List ℕ) → IsHeld held → 1 ≤ held_times frame held.pool
    → blocks_of (with_bytes frame bytes (with_dirty frame number held.pool)) held.blocks
    ≡ with_put number (block_at held.blocks frame) bytes (blocks_of held.pool held.blocks)
blocks_of-write_again held frame number bytes is some =
    let pool = held.pool in
    let blocks = held.blocks in
    let pool' = with_bytes frame bytes (with_dirty frame number pool) in
    let below = frame_below frame pool is.pool (omega (arith, some)) in
    let apart : (other : ℕ) → other ≢ frame → (block_at blocks other ≡ block_at blocks other) × (get_or (set pool.bytes frame bytes) other [] ≡ bytes_at pool other) =
    λ other ne. (refl, get_or-set_other pool.bytes frame other bytes [] ne) in
    let clean = kept-clean pool pool' blocks blocks frame (without_frame frame pool.clean) apart (times-without_same frame pool.clean) in
    let dirty = kept-dirty pool pool' blocks blocks frame (others frame pool.dirty) apart (rw (frames_of-others frame pool.dirty) (times-without_same frame (frames_of pool.dirty))) in
    let mine : DirtyFrame = record { frame = frame; number = number } in
    let now : dirty_block pool' blocks mine ≡ record { block = block_at blocks frame; number = number; bytes = bytes } =
    rw (get_or-set_same pool.bytes frame bytes [] below) refl in
    let left = length-append (without_frame frame pool.free) (frame ∷ []) in
    let none : 1 - length (without_frame frame pool.free ++ frame ∷ []) ≡ 0 = omega (arith, left) in
    rw (put_after number (block_at blocks frame) bytes (blocks_of pool blocks) (blocks_of (with_free frame pool) blocks) (sym (blocks_of-free held frame is some)))
    (same_blocks _ _ _ _ _ _ (omega (arith, left))
    (clean ∙ ap (λ (n : ℕ). drop n (map (λ f. clean_block pool blocks f) (without_frame frame pool.clean))) (sym none))
    (map-append (λ (h : DirtyFrame). dirty_block pool' blocks h) (others frame pool.dirty) (mine ∷ [])
    ∙ ap (λ (list : List DirtyBlock). list ++ dirty_block pool' blocks mine ∷ []) dirty
    ∙ ap (λ (h : DirtyBlock). map (λ (h : DirtyFrame). dirty_block pool blocks h) (others frame pool.dirty) ++ h ∷ []) now))

-- the front of the dirty frames is clean
pub blocks_of-clean_front : (held : CachedState) (first : DirtyFrame) (rest : List DirtyFrame) → IsHeld held → held.pool.dirty ≡ first ∷ rest
    → blocks_of (with_clean first.frame held.pool) held.blocks
    ≡ (let s = blocks_of held.pool held.blocks in record { free = s.free; clean = s.clean ++ clean_block held.pool held.blocks first.frame ∷ []; dirty = drop 1 s.dirty })
blocks_of-clean_front held first rest is front =
    let pool = held.pool in
    let blocks = held.blocks in
    let frame = first.frame in
    let frames : frames_of pool.dirty ≡ frame ∷ frames_of rest = ap frames_of front in
    let times_in_dirty : times frame (frames_of pool.dirty) ≡ 1 + times frame (frames_of rest) = ap (λ (list : List ℕ). times frame list) frames ∙ times_head frame (frames_of rest) in
    let once = stands_once frame pool is.pool (omega (arith, times_in_dirty)) in
    let g = λ (h : DirtyFrame). dirty_block pool blocks h in
    let one : others frame (first ∷ rest) ≡ others frame rest = rw (eq-eqb frame frame refl) refl in
    same_blocks _ _ _ _ _ _ (omega (arith, length-without frame pool.free, once, times_in_dirty))
    (map-append (λ f. clean_block pool blocks f) (without_frame frame pool.clean) (frame ∷ [])
    ∙ ap (λ (list : List ℕ). map (λ f. clean_block pool blocks f) list ++ clean_block pool blocks frame ∷ []) (without_absent frame pool.clean (omega (arith, once, times_in_dirty))))
    (ap (λ (list : List DirtyFrame). map g (others frame list)) front
    ∙ ap (λ (list : List DirtyFrame). map g list) (one ∙ others_absent frame rest (omega (arith, once, times_in_dirty)))
    ∙ ap (λ (list : List DirtyFrame). drop 1 (map g list)) (sym front))

-- the front of the clean frames is free
pub blocks_of-evict : (held : CachedState) (frame : ℕ) → IsHeld held → slice_get held.pool.clean 0 ≡ Some frame
    → (blocks_of (with_free frame held.pool) held.blocks ≡ evicted (blocks_of held.pool held.blocks)) × (others frame held.pool.dirty ≡ held.pool.dirty)
blocks_of-evict held frame is front =
    let pool = held.pool in
    let blocks = held.blocks in
    let rest = drop 1 pool.clean in
    let split : pool.clean ≡ frame ∷ rest = head_split frame pool.clean front in
    let times_in_clean : times frame pool.clean ≡ 1 + times frame rest = ap (λ (list : List ℕ). times frame list) split ∙ times_head frame rest in
    let once = stands_once frame pool is.pool (omega (arith, times_in_clean)) in
    let g = λ (f : ℕ). clean_block pool blocks f in
    let one : without_frame frame (frame ∷ rest) ≡ without_frame frame rest = rw (eq-eqb frame frame refl) refl in
    let dirty = others_absent frame pool.dirty (omega (arith, once, times_in_clean)) in (
      same_blocks _ _ _ _ _ _
          (omega (arith, length-append (without_frame frame pool.free) (frame ∷ []), length-without frame pool.free, once, times_in_clean))
          (ap (λ (list : List ℕ). map g (without_frame frame list)) split
          ∙ ap (λ (list : List ℕ). map g list) (one ∙ without_absent frame rest (omega (arith, once, times_in_clean)))
          ∙ ap (λ (list : List ℕ). drop 1 (map g list)) (sym split))
          (ap (λ (list : List DirtyFrame). map (λ (h : DirtyFrame). dirty_block pool blocks h) list) dirty),
      dirty,
    )
  where
    head_split : (frame : ℕ) (xs : List ℕ) → slice_get xs 0 ≡ Some frame → xs ≡ frame ∷ drop 1 xs
    head_split frame [] is = cc
    head_split frame (x ∷ xs) is = let same : x ≡ frame = cc in ap (λ (v : ℕ). v ∷ xs) same

-- frames that hold no blocks
pub blocks_of-fresh : (frames : ℕ) (pool : PoolState) (blocks : List ℕ) (bytes : List (List ℕ))
    → pool ≡ record { free = range_with_len 0 frames; clean = []; dirty = []; bytes = bytes }
    → blocks_of pool blocks ≡ record { free = frames; clean = []; dirty = [] }
blocks_of-fresh frames pool blocks bytes made = rw made (same_blocks _ _ _ _ _ _ (length-range_with_len 0 frames) refl refl)
