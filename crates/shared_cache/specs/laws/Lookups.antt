-- which blocks are held, as their frames tell
use Rattle.std.proofs.Common.{◌≡◌, ◌≢◌, ◌≤◌, ◌-◌, ◌==◌, inl, inr, ℕ, Bool, true, false, not, List, [], ◌∷◌, ◌++◌, length, map, drop, set, ◌||◌, refl, ap, ◌∙◌, sym, arith}
use Rattle.std.specs.List.{All, list_any}
use Rattle.std.proofs.lemmas.List.Elements.{All-append, All-cons, All-filter, All-nil}
use Rattle.std.proofs.Math.Dec.{eqb}
use Rattle.std.proofs.lemmas.Bool.{cases_Bool, cases_lt, ne_eqb, eq-eqb}
use Rattle.std.proofs.lemmas.Bool.Decides.{eqb_tells}
use Rattle.frame_pool.specs.Lists.{times}
use Rattle.frame_pool.specs.Pool.{DirtyFrame, PoolState, frames_of, others, with_bytes, with_clean, with_dirty, with_free, is_dirty as is_dirty_frame}
use Rattle.std.proofs.lemmas.List.{length-map, nil_from_length}
use Rattle.frame_pool.specs.laws.Times.{times_head, times_other}
use Rattle.shared_cache.specs.laws.Indexed.{held_before, held_times-free_same}
use Rattle.shared_cache.specs.laws.Kept.{blocks_of-free, blocks_of-assign_dirty, blocks_of-assign_clean, blocks_of-write_again}
use Rattle.shared_cache.specs.Blocks.{BlocksState, CleanBlock, DirtyBlock, clean_outside, dirty_outside, is_clean, is_dirty, is_cached, taken, count_missing, HasNoFrame, with_fill, with_put, without}
use Rattle.shared_cache.specs.inner.Blocks.{taken_leaves, IsMissing}
use Rattle.shared_cache.specs.CachedBlocks.{CachedState, IsHeld, block_at, blocks_of, clean_block, dirty_block, held_times}

-- a dirty frame's block is dirty, another one isn't
dirty_among : (pool : PoolState) (blocks : List ℕ) (frame : ℕ) (dirty : List DirtyFrame)
    → ((other : ℕ) → 1 ≤ times other (frames_of dirty) → block_at blocks other ≡ block_at blocks frame → other ≡ frame)
    → is_dirty_frame frame dirty ≡ list_any (λ (h : DirtyBlock). h.block == block_at blocks frame) (map (λ (h : DirtyFrame). dirty_block pool blocks h) dirty)
dirty_among pool blocks frame [] apart = refl
dirty_among pool blocks frame (held ∷ dirty) apart =
    let rest = dirty_among pool blocks frame dirty (λ x some. apart x (omega (arith, some))) in
    elim (eqb_tells held.frame frame) [
      | inl p ↦ rw (p.0, eq-eqb (block_at blocks held.frame) (block_at blocks frame) (ap (λ (v : ℕ). block_at blocks v) p.1)) refl
      | inr p ↦
          let away : block_at blocks held.frame ≢ block_at blocks frame = λ e. p.1 (apart held.frame (omega (arith, times_head held.frame (frames_of dirty))) e) in
          rw (p.0, ne_eqb (block_at blocks held.frame) (block_at blocks frame) away) rest
    ]

pub is_dirty-frame : (held now : CachedState) (frame block : ℕ) → held ≡ now → IsHeld now → (1 ≤ held_times frame now.pool) × (block_at now.blocks frame ≡ block)
    → is_dirty_frame frame held.pool.dirty ≡ is_dirty block (blocks_of now.pool now.blocks)
is_dirty-frame held now frame block same is found =
    ap (λ (h : CachedState). is_dirty_frame frame h.pool.dirty) same
    ∙ dirty_among now.pool now.blocks frame now.pool.dirty (λ other there e. is.apart other frame (omega (arith, there)) found.0 e)
    ∙ ap (λ (b : ℕ). is_dirty b (blocks_of now.pool now.blocks)) found.1

-- a block that isn't held is neither dirty nor clean
pub is_dirty-missing : (block : ℕ) (held : CachedState) → IsMissing block held → is_dirty block (blocks_of held.pool held.blocks) ≡ false
is_dirty-missing block held missing = none_dirty held.pool held.blocks block held.pool.dirty (λ frame there. missing frame (omega (arith, there)))
  where
    none_dirty : (pool : PoolState) (blocks : List ℕ) (block : ℕ) (dirty : List DirtyFrame)
        → ((frame : ℕ) → 1 ≤ times frame (frames_of dirty) → block_at blocks frame ≢ block)
        → list_any (λ (h : DirtyBlock). h.block == block) (map (λ (h : DirtyFrame). dirty_block pool blocks h) dirty) ≡ false
    none_dirty pool blocks block [] away = refl
    none_dirty pool blocks block (h ∷ dirty) away =
        rw (ne_eqb (block_at blocks h.frame) block (away h.frame (omega (arith, times_head h.frame (frames_of dirty)))))
        (none_dirty pool blocks block dirty (λ frame there. away frame (omega (arith, there))))

pub is_clean-missing : (block : ℕ) (held : CachedState) → IsMissing block held → is_clean block (blocks_of held.pool held.blocks) ≡ false
is_clean-missing block held missing = none_clean held.pool held.blocks block held.pool.clean (λ frame there. missing frame (omega (arith, there)))
  where
    none_clean : (pool : PoolState) (blocks : List ℕ) (block : ℕ) (frames : List ℕ)
        → ((frame : ℕ) → 1 ≤ times frame frames → block_at blocks frame ≢ block)
        → list_any (λ (h : CleanBlock). h.block == block) (map (λ f. clean_block pool blocks f) frames) ≡ false
    none_clean pool blocks block [] away = refl
    none_clean pool blocks block (f ∷ frames) away =
        rw (ne_eqb (block_at blocks f) block (away f (omega (arith, times_head f frames))))
        (none_clean pool blocks block frames (λ frame there. away frame (omega (arith, there))))

-- what stays where none of these blocks is held
clean_all : (inside : ℕ → Bool) (clean : List CleanBlock) → list_any (λ (h : CleanBlock). inside h.block) clean ≡ false → clean_outside inside clean ≡ clean
clean_all inside [] none = refl
clean_all inside (h ∷ clean) none =
    elim (cases_Bool (inside h.block)) [
      | inl within ↦ absurd (let there : list_any (λ (h : CleanBlock). inside h.block) (h ∷ clean) ≡ true = rw within refl in cc)
      | inr beyond ↦
          let rest : list_any (λ (h : CleanBlock). inside h.block) clean ≡ false = rw beyond at none in
          rw beyond (ap (λ (list : List CleanBlock). h ∷ list) (clean_all inside clean rest))
    ]

dirty_all : (inside : ℕ → Bool) (dirty : List DirtyBlock) → list_any (λ (h : DirtyBlock). inside h.block) dirty ≡ false → dirty_outside inside dirty ≡ dirty
dirty_all inside [] none = refl
dirty_all inside (h ∷ dirty) none =
    elim (cases_Bool (inside h.block)) [
      | inl within ↦ absurd (let there : list_any (λ (h : DirtyBlock). inside h.block) (h ∷ dirty) ≡ true = rw within refl in cc)
      | inr beyond ↦
          let rest : list_any (λ (h : DirtyBlock). inside h.block) dirty ≡ false = rw beyond at none in
          rw beyond (ap (λ (list : List DirtyBlock). h ∷ list) (dirty_all inside dirty rest))
    ]

pub without_none : (inside : ℕ → Bool) (blocks : BlocksState) → list_any (λ (h : CleanBlock). inside h.block) blocks.clean ≡ false
    → list_any (λ (h : DirtyBlock). inside h.block) blocks.dirty ≡ false → without inside blocks ≡ blocks
without_none inside blocks clean dirty =
    rw (clean_all inside blocks.clean clean, dirty_all inside blocks.dirty dirty)
    (ap (λ (n : ℕ). let s : BlocksState = record { free = n; clean = blocks.clean; dirty = blocks.dirty } in s) (omega arith))

pub without_missing : (block : ℕ) (held : CachedState) → IsMissing block held → without (λ b. b == block) (blocks_of held.pool held.blocks) ≡ blocks_of held.pool held.blocks
without_missing block held missing =
    without_none (λ b. b == block) (blocks_of held.pool held.blocks) (is_clean-missing block held missing) (is_dirty-missing block held missing)

-- a put into a frame that was made free
pub put_taken : (number block : ℕ) (bytes : List ℕ) (s left : BlocksState) → without (λ b. b == block) s ≡ s → taken_leaves s left
    → (let now : BlocksState = record { free = left.free - 1; clean = left.clean; dirty = left.dirty ++ record { block = block; number = number; bytes = bytes } ∷ [] } in now)
    ≡ with_put number block bytes s
put_taken number block bytes s left same leaves =
    let none : 1 - left.free ≡ 0 = omega (arith, leaves.1) in
    let now : taken left ≡ record { free = left.free - 1; clean = left.clean; dirty = left.dirty } =
    ap (λ (n : ℕ). let t : BlocksState = record { free = left.free - 1; clean = drop n left.clean; dirty = left.dirty } in t) none in
    let add = λ (t : BlocksState). let grown : BlocksState = record { free = t.free; clean = t.clean; dirty = t.dirty ++ record { block = block; number = number; bytes = bytes } ∷ [] } in grown in
    ap add (sym now ∙ leaves.0 ∙ ap taken (sym same))

pub fill_taken : (block : ℕ) (bytes : List ℕ) (s left : BlocksState) → is_cached block s ≡ false → taken_leaves s left
    → (let now : BlocksState = record { free = left.free - 1; clean = left.clean ++ record { block = block; bytes = bytes } ∷ []; dirty = left.dirty } in now)
    ≡ with_fill block bytes s
fill_taken block bytes s left missing leaves =
    let none : 1 - left.free ≡ 0 = omega (arith, leaves.1) in
    let now : taken left ≡ record { free = left.free - 1; clean = left.clean; dirty = left.dirty } =
    ap (λ (n : ℕ). let t : BlocksState = record { free = left.free - 1; clean = drop n left.clean; dirty = left.dirty } in t) none in
    let add = λ (t : BlocksState). let grown : BlocksState = record { free = t.free; clean = t.clean ++ record { block = block; bytes = bytes } ∷ []; dirty = t.dirty } in grown in
    ap add (sym now ∙ leaves.0) ∙ rw missing refl

pub is_cached-missing : (block : ℕ) (held : CachedState) → IsMissing block held → is_cached block (blocks_of held.pool held.blocks) ≡ false
is_cached-missing block held missing = rw (is_clean-missing block held missing, is_dirty-missing block held missing) refl

-- no dirty frame has a larger number once one was written with it
pub order_put : (frame number : ℕ) (pool : PoolState) → All (λ (h : DirtyFrame). h.number ≤ number) pool.dirty
    → All (λ (h : DirtyFrame). h.number ≤ number) (with_dirty frame number pool).dirty
order_put frame number pool order =
    All-append (λ (h : DirtyFrame). h.number ≤ number) (others frame pool.dirty) (record { frame = frame; number = number } ∷ [])
    (All-filter (λ (h : DirtyFrame). not (eqb h.frame frame)) (λ (h : DirtyFrame). h.number ≤ number) pool.dirty order)
    (All-cons (λ (h : DirtyFrame). h.number ≤ number) (record { frame = frame; number = number }) [] (omega arith) (All-nil (λ (h : DirtyFrame). h.number ≤ number)))

-- a frame that holds a block
any_clean : (pool : PoolState) (blocks : List ℕ) (frame : ℕ) (frames : List ℕ) → 1 ≤ times frame frames
    → list_any (λ (h : CleanBlock). h.block == block_at blocks frame) (map (λ f. clean_block pool blocks f) frames) ≡ true
any_clean pool blocks frame [] some = absurd (omega arith)
any_clean pool blocks frame (f ∷ frames) some =
    elim (eqb_tells (block_at blocks f) (block_at blocks frame)) [
      | inl p ↦ rw p.0 refl
      | inr p ↦
          let ne : f ≢ frame = λ e. p.1 (ap (λ (v : ℕ). block_at blocks v) e) in
          rw p.0 (any_clean pool blocks frame frames (omega (arith, some, times_other frame f frames ne)))
    ]

any_dirty : (pool : PoolState) (blocks : List ℕ) (frame : ℕ) (dirty : List DirtyFrame) → 1 ≤ times frame (frames_of dirty)
    → list_any (λ (h : DirtyBlock). h.block == block_at blocks frame) (map (λ (h : DirtyFrame). dirty_block pool blocks h) dirty) ≡ true
any_dirty pool blocks frame [] some = absurd (omega arith)
any_dirty pool blocks frame (h ∷ dirty) some =
    elim (eqb_tells (block_at blocks h.frame) (block_at blocks frame)) [
      | inl p ↦ rw p.0 refl
      | inr p ↦
          let ne : h.frame ≢ frame = λ e. p.1 (ap (λ (v : ℕ). block_at blocks v) e) in
          rw p.0 (any_dirty pool blocks frame dirty (omega (arith, some, times_other frame h.frame (frames_of dirty) ne)))
    ]

pub is_cached-frame : (held : CachedState) (frame block : ℕ) → (1 ≤ held_times frame held.pool) × (block_at held.blocks frame ≡ block)
    → is_cached block (blocks_of held.pool held.blocks) ≡ true
is_cached-frame held frame block found =
    ap (λ (b : ℕ). is_cached b (blocks_of held.pool held.blocks)) (sym found.1)
    ∙ elim (cases_lt (times frame held.pool.clean) 1) [
      | inl none ↦ or_right _ _ (any_dirty held.pool held.blocks frame held.pool.dirty (omega (arith, found.0, none)))
      | inr some ↦ rw (any_clean held.pool held.blocks frame held.pool.clean some) refl
    ]
  where
    or_right : (a b : Bool) → b ≡ true → (a || b) ≡ true
    or_right true b e = refl
    or_right false b e = e

-- what each write leaves of the blocks
pub blocks-write_again : (held new : CachedState) (frame block number : ℕ) (bytes : List ℕ) → IsHeld held
    → (1 ≤ held_times frame held.pool) × (block_at held.blocks frame ≡ block)
    → new.pool ≡ with_bytes frame bytes (with_dirty frame number held.pool) → new.blocks ≡ held.blocks
    → blocks_of new.pool new.blocks ≡ with_put number block bytes (blocks_of held.pool held.blocks)
blocks-write_again held new frame block number bytes is found p b =
    ap (λ (pool : PoolState). blocks_of pool new.blocks) p
    ∙ ap (λ (blocks : List ℕ). blocks_of (with_bytes frame bytes (with_dirty frame number held.pool)) blocks) b
    ∙ blocks_of-write_again held frame number bytes is found.0
    ∙ ap (λ (v : ℕ). with_put number v bytes (blocks_of held.pool held.blocks)) found.1

pub blocks-put : (held left new : CachedState) (frame block number : ℕ) (bytes : List ℕ) → IsMissing block held → IsHeld left → 1 ≤ times frame left.pool.free
    → taken_leaves (blocks_of held.pool held.blocks) (blocks_of left.pool left.blocks)
    → new.pool ≡ with_bytes frame bytes (with_dirty frame number left.pool) → new.blocks ≡ set left.blocks frame block
    → blocks_of new.pool new.blocks ≡ with_put number block bytes (blocks_of held.pool held.blocks)
blocks-put held left new frame block number bytes missing is free leaves p b =
    ap (λ (pool : PoolState). blocks_of pool new.blocks) p
    ∙ ap (λ (blocks : List ℕ). blocks_of (with_bytes frame bytes (with_dirty frame number left.pool)) blocks) b
    ∙ blocks_of-assign_dirty left frame block number bytes is free
    ∙ put_taken number block bytes (blocks_of held.pool held.blocks) (blocks_of left.pool left.blocks) (without_missing block held missing) leaves

pub blocks-fill : (held left new : CachedState) (frame block : ℕ) (bytes : List ℕ) → IsMissing block held → IsHeld left → 1 ≤ times frame left.pool.free
    → taken_leaves (blocks_of held.pool held.blocks) (blocks_of left.pool left.blocks)
    → new.pool ≡ with_bytes frame bytes (with_clean frame left.pool) → new.blocks ≡ set left.blocks frame block
    → blocks_of new.pool new.blocks ≡ with_fill block bytes (blocks_of held.pool held.blocks)
blocks-fill held left new frame block bytes missing is free leaves p b =
    ap (λ (pool : PoolState). blocks_of pool new.blocks) p
    ∙ ap (λ (blocks : List ℕ). blocks_of (with_bytes frame bytes (with_clean frame left.pool)) blocks) b
    ∙ blocks_of-assign_clean left frame block bytes is free
    ∙ fill_taken block bytes (blocks_of held.pool held.blocks) (blocks_of left.pool left.blocks) (is_cached-missing block held missing) leaves

pub blocks-free_frame : (held new : CachedState) (frame block : ℕ) → IsHeld held
    → (1 ≤ held_times frame held.pool) × (block_at held.blocks frame ≡ block)
    → new.pool ≡ with_free frame held.pool → new.blocks ≡ held.blocks
    → (blocks_of new.pool new.blocks ≡ without (λ b. b == block) (blocks_of held.pool held.blocks)) × IsMissing block new
blocks-free_frame held new frame block is found p b = (
  ap (λ (pool : PoolState). blocks_of pool new.blocks) p
      ∙ ap (λ (blocks : List ℕ). blocks_of (with_free frame held.pool) blocks) b
      ∙ blocks_of-free held frame is found.0
      ∙ ap (λ (v : ℕ). without (λ b. b == v) (blocks_of held.pool held.blocks)) found.1,
  λ other some e.
      let there : 1 ≤ held_times other held.pool = held_before frame other held.pool new.pool p some in
      let same : other ≡ frame = is.apart other frame there found.0 (ap (λ (blocks : List ℕ). block_at blocks other) (sym b) ∙ e ∙ sym found.1) in
      let gone : held_times other new.pool ≡ 0 = rw (p, same) (held_times-free_same frame held.pool) in
      omega (arith, gone, some),
)

-- where no frame can be taken
pub no_frame_now : (block : ℕ) (held : CachedState) → IsMissing block held → (held.pool.free ≡ []) × (held.pool.clean ≡ []) → HasNoFrame block (blocks_of held.pool held.blocks)
no_frame_now block held missing none =
    (is_cached-missing block held missing, ap length none.0, ap (λ (list : List ℕ). map (λ f. clean_block held.pool held.blocks f) list) none.1)

pub none_left : (block : ℕ) (held : CachedState) → HasNoFrame block (blocks_of held.pool held.blocks) → (held.pool.free ≡ []) × (held.pool.clean ≡ [])
none_left block held has = (
  nil_from_length held.pool.free has.1,
  nil_from_length held.pool.clean (sym (length-map held.pool.clean (λ f. clean_block held.pool held.blocks f)) ∙ ap length has.2),
)

-- A block that isn't dirty is counted.
pub counted_missing : (block : ℕ) (held : CachedState) → IsMissing block held → count_missing block 1 (blocks_of held.pool held.blocks) ≡ 1
counted_missing block held missing = rw (is_dirty-missing block held missing) refl
