-- the bytes of blocks, as their frames hold them
use Rattle.std.proofs.Common.{◌≡◌, ◌≢◌, ◌<◌, ◌≤◌, ◌+◌, inl, inr, ℕ, zero, suc, List, [], ◌∷◌, length, map, get_or, slice_get, refl, ap, ◌∙◌, sym, subst, arith, None, Some, if◌then◌else◌}
use Rattle.std.specs.List.{All}
use Rattle.std.proofs.lemmas.Bool.{cases_lt, ne_eqb, eq-eqb, lt-ltb, le-ltb}
use Rattle.std.proofs.lemmas.Bool.Decides.{eqb_tells}
use Rattle.std.proofs.lemmas.List.{get_or-map, length-map}
use Rattle.std.proofs.Math.Dec.{ltb}
use Rattle.frame_pool.specs.Lists.{times}
use Rattle.frame_pool.specs.Pool.{DirtyFrame, PoolState, frames_of}
use Rattle.frame_pool.specs.laws.Times.{times_head}
use Rattle.shared_cache.specs.Blocks.{DirtyBlock, bytes_of, clean_bytes, dirty_bytes}
use Rattle.shared_cache.specs.CachedBlocks.{CachedState, IsHeld, block_at, bytes_at, blocks_of, clean_block, dirty_block, held_times}
use Rattle.shared_cache.specs.inner.Blocks.{IsMissing}

found_clean : (pool : PoolState) (blocks : List ℕ) (frame : ℕ) (frames : List ℕ)
    → ((other : ℕ) → 1 ≤ times other frames → block_at blocks other ≡ block_at blocks frame → other ≡ frame)
    → clean_bytes (block_at blocks frame) (map (λ f. clean_block pool blocks f) frames) ≡ (if ltb 0 (times frame frames) then Some (bytes_at pool frame) else None)
found_clean pool blocks frame [] apart = refl
found_clean pool blocks frame (f ∷ frames) apart =
    elim (eqb_tells f frame) [
      | inl p ↦
          rw (p.0, lt-ltb 0 (1 + times frame frames) (omega arith), eq-eqb (block_at blocks f) (block_at blocks frame) (ap (λ (v : ℕ). block_at blocks v) p.1))
          (ap (λ (v : ℕ). Some (bytes_at pool v)) p.1)
      | inr p ↦
          let away : block_at blocks f ≢ block_at blocks frame = λ e. p.1 (apart f (omega (arith, times_head f frames)) e) in
          rw (p.0, ne_eqb (block_at blocks f) (block_at blocks frame) away)
          (found_clean pool blocks frame frames (λ other some. apart other (omega (arith, some)))
          ∙ ap (λ (n : ℕ). if ltb 0 n then Some (bytes_at pool frame) else None) (omega arith))
    ]

found_dirty : (pool : PoolState) (blocks : List ℕ) (frame : ℕ) (dirty : List DirtyFrame)
    → ((other : ℕ) → 1 ≤ times other (frames_of dirty) → block_at blocks other ≡ block_at blocks frame → other ≡ frame)
    → dirty_bytes (block_at blocks frame) (map (λ (h : DirtyFrame). dirty_block pool blocks h) dirty) ≡ (if ltb 0 (times frame (frames_of dirty)) then Some (bytes_at pool frame) else None)
found_dirty pool blocks frame [] apart = refl
found_dirty pool blocks frame (h ∷ dirty) apart =
    elim (eqb_tells h.frame frame) [
      | inl p ↦
          rw (p.0, lt-ltb 0 (1 + times frame (frames_of dirty)) (omega arith), eq-eqb (block_at blocks h.frame) (block_at blocks frame) (ap (λ (v : ℕ). block_at blocks v) p.1))
          (ap (λ (v : ℕ). Some (bytes_at pool v)) p.1)
      | inr p ↦
          let away : block_at blocks h.frame ≢ block_at blocks frame = λ e. p.1 (apart h.frame (omega (arith, times_head h.frame (frames_of dirty))) e) in
          rw (p.0, ne_eqb (block_at blocks h.frame) (block_at blocks frame) away)
          (found_dirty pool blocks frame dirty (λ other some. apart other (omega (arith, some)))
          ∙ ap (λ (n : ℕ). if ltb 0 n then Some (bytes_at pool frame) else None) (omega arith))
    ]

-- the bytes of a frame's block
pub bytes_found : (held : CachedState) (frame block : ℕ) (bytes : List ℕ) → IsHeld held → (1 ≤ held_times frame held.pool) × (block_at held.blocks frame ≡ block)
    → slice_get held.pool.bytes frame ≡ Some bytes → Some bytes ≡ bytes_of block (blocks_of held.pool held.blocks)
bytes_found held frame block bytes is found read =
    let pool = held.pool in
    let clean = found_clean pool held.blocks frame pool.clean (λ other there e. is.apart other frame (omega (arith, there)) found.0 e) in
    let dirty = found_dirty pool held.blocks frame pool.dirty (λ other there e. is.apart other frame (omega (arith, there)) found.0 e) in
    let mine : bytes_at pool frame ≡ bytes = read_out frame pool.bytes bytes read in
    ap (λ (b : List ℕ). Some b) (sym mine)
    ∙ elim (cases_lt 0 (times frame pool.clean)) [
      | inl some ↦ sym (rw (clean, lt-ltb 0 (times frame pool.clean) some) refl)
      | inr none ↦ sym (rw (clean, le-ltb 0 (times frame pool.clean) none, dirty, lt-ltb 0 (times frame (frames_of pool.dirty)) (omega (arith, found.0, none))) refl)
    ]
    ∙ ap (λ (b : ℕ). bytes_of b (blocks_of pool held.blocks)) found.1
  where
    read_out : (i : ℕ) (xs : List (List ℕ)) (bytes : List ℕ) → slice_get xs i ≡ Some bytes → get_or xs i [] ≡ bytes
    read_out i [] bytes is = cc
    read_out zero (x ∷ xs) bytes is = cc
    read_out (suc i) (x ∷ xs) bytes is = read_out i xs bytes is

pub bytes_missing : (held : CachedState) (block : ℕ) → IsMissing block held → None ≡ bytes_of block (blocks_of held.pool held.blocks)
bytes_missing held block missing =
    sym (rw (
      no_clean held.pool held.blocks block held.pool.clean (λ frame there. missing frame (omega (arith, there))),
      no_dirty held.pool held.blocks block held.pool.dirty (λ frame there. missing frame (omega (arith, there))),
    ) refl)
  where
    no_clean : (pool : PoolState) (blocks : List ℕ) (block : ℕ) (frames : List ℕ) → ((frame : ℕ) → 1 ≤ times frame frames → block_at blocks frame ≢ block)
        → clean_bytes block (map (λ f. clean_block pool blocks f) frames) ≡ None
    no_clean pool blocks block [] away = refl
    no_clean pool blocks block (f ∷ frames) away =
        rw (ne_eqb (block_at blocks f) block (away f (omega (arith, times_head f frames)))) (no_clean pool blocks block frames (λ frame there. away frame (omega (arith, there))))

    no_dirty : (pool : PoolState) (blocks : List ℕ) (block : ℕ) (dirty : List DirtyFrame) → ((frame : ℕ) → 1 ≤ times frame (frames_of dirty) → block_at blocks frame ≢ block)
        → dirty_bytes block (map (λ (h : DirtyFrame). dirty_block pool blocks h) dirty) ≡ None
    no_dirty pool blocks block [] away = refl
    no_dirty pool blocks block (h ∷ dirty) away =
        rw (ne_eqb (block_at blocks h.frame) block (away h.frame (omega (arith, times_head h.frame (frames_of dirty))))) (no_dirty pool blocks block dirty (λ frame there. away frame (omega (arith, there))))

-- the numbers of the dirty frames, as those of their blocks
pub order_seen : (pool : PoolState) (blocks : List ℕ) (number : ℕ) (seen : List DirtyBlock)
    → map (λ (h : DirtyFrame). dirty_block pool blocks h) pool.dirty ≡ seen
    → All (λ (h : DirtyBlock). h.number ≤ number) seen → All (λ (h : DirtyFrame). h.number ≤ number) pool.dirty
order_seen pool blocks number seen is all k d below =
    let g = λ (h : DirtyFrame). dirty_block pool blocks h in
    let P : List DirtyBlock → Type 0 = λ list. All (λ (h : DirtyBlock). h.number ≤ number) list in
    let mapped = subst P (sym is) all in
    let inside : k < length (map g pool.dirty) = rw length-map below in
    rw (get_or-map g pool.dirty k d (g d) below) at (mapped k (g d) inside)
