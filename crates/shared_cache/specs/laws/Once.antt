-- no two frames hold one block
use Rattle.std.proofs.Common.{◌≡◌, ◌≢◌, ◌≤◌, ◌+◌, ◌==◌, ◌||◌, ◌⊎◌, inl, inr, ℕ, zero, suc, Bool, true, false, not, if◌then◌else◌, List, [], ◌∷◌, ◌++◌, map, drop, Option, None, Some, refl, ap, ◌∙◌, sym, subst, arith}
use Rattle.std.specs.List.{list_any}
use Rattle.std.proofs.lemmas.Bool.{cases_Bool, cases_lt, ne_eqb, eq-eqb}
use Rattle.std.proofs.lemmas.Bool.Decides.{eqb_tells}
use Rattle.std.proofs.Math.Dec.{eqb}
use Rattle.frame_pool.specs.Lists.{times}
use Rattle.frame_pool.specs.Pool.{DirtyFrame, PoolState, frames_of}
use Rattle.frame_pool.specs.laws.Times.{times_head}
use Rattle.shared_cache.specs.laws.Kept.{stands_once}
pub use Rattle.shared_cache.specs.Blocks.{IsOnce, all_held, as_clean, times_in}
use Rattle.shared_cache.specs.Blocks.{BlocksState, CleanBlock, DirtyBlock, bytes_of, clean_bytes, dirty_bytes, clean_outside, dirty_outside, is_clean, is_dirty, is_cached, option_or, without}
use Rattle.shared_cache.specs.CachedBlocks.{CachedState, IsHeld, block_at, blocks_of, clean_block, dirty_block, held_times}

pub times_in-append : (block : ℕ) (xs ys : List CleanBlock) → times_in block (xs ++ ys) ≡ times_in block xs + times_in block ys
times_in-append block [] ys = omega arith
times_in-append block (x ∷ xs) ys = omega (arith, times_in-append block xs ys)

-- the bytes that the first of some blocks has, else those of the first after them
pub clean_bytes-append : (block : ℕ) (xs ys : List CleanBlock) → clean_bytes block (xs ++ ys) ≡ option_or (clean_bytes block xs) (clean_bytes block ys)
clean_bytes-append block [] ys = refl
clean_bytes-append block (x ∷ xs) ys = elim (cases_Bool (eqb x.block block)) [ inl e ↦ rw e refl | inr e ↦ rw e (clean_bytes-append block xs ys) ]

dirty_bytes-clean : (block : ℕ) (dirty : List DirtyBlock) → dirty_bytes block dirty ≡ clean_bytes block (map as_clean dirty)
dirty_bytes-clean block [] = refl
dirty_bytes-clean block (held ∷ dirty) = elim (cases_Bool (eqb held.block block)) [ inl e ↦ rw e refl | inr e ↦ rw e (dirty_bytes-clean block dirty) ]

pub bytes_of-all : (block : ℕ) (blocks : BlocksState) → bytes_of block blocks ≡ clean_bytes block (all_held blocks)
bytes_of-all block blocks =
    ap (option_or (clean_bytes block blocks.clean)) (dirty_bytes-clean block blocks.dirty) ∙ sym (clean_bytes-append block blocks.clean (map as_clean blocks.dirty))

pub none_in : (block : ℕ) (list : List CleanBlock) → times_in block list ≡ 0 → clean_bytes block list ≡ None
none_in block [] none = refl
none_in block (held ∷ list) none =
    elim (cases_Bool (eqb held.block block)) [
      | inl e ↦ let there : times_in block (held ∷ list) ≡ 1 + times_in block list = rw e refl in absurd (omega (arith, there, none))
      | inr e ↦ let rest : times_in block list ≡ 0 = omega (arith, none) in rw e (none_in block list rest)
    ]

-- a block that no frame holds
clean_absent : (block : ℕ) (list : List CleanBlock) → list_any (λ (h : CleanBlock). h.block == block) list ≡ false → times_in block list ≡ 0
clean_absent block [] none = refl
clean_absent block (held ∷ list) none =
    elim (cases_Bool (eqb held.block block)) [
      | inl e ↦ absurd (let there : list_any (λ (h : CleanBlock). h.block == block) (held ∷ list) ≡ true = rw e refl in cc)
      | inr e ↦ rw e (omega (arith, clean_absent block list (rw e at none)))
    ]

dirty_absent : (block : ℕ) (dirty : List DirtyBlock) → list_any (λ (h : DirtyBlock). h.block == block) dirty ≡ false → times_in block (map as_clean dirty) ≡ 0
dirty_absent block [] none = refl
dirty_absent block (held ∷ dirty) none =
    elim (cases_Bool (eqb held.block block)) [
      | inl e ↦ absurd (let there : list_any (λ (h : DirtyBlock). h.block == block) (held ∷ dirty) ≡ true = rw e refl in cc)
      | inr e ↦ rw e (omega (arith, dirty_absent block dirty (rw e at none)))
    ]

pub absent_all : (block : ℕ) (blocks : BlocksState) → is_cached block blocks ≡ false → times_in block (all_held blocks) ≡ 0
absent_all block blocks none =
    let both = neither (is_clean block blocks) (is_dirty block blocks) none in
    omega (arith, times_in-append block blocks.clean (map as_clean blocks.dirty), clean_absent block blocks.clean both.0, dirty_absent block blocks.dirty both.1)
  where
    neither : (a b : Bool) → (a || b) ≡ false → (a ≡ false) × (b ≡ false)
    neither true b none = cc
    neither false b none = (refl, none)

-- and the other way round
clean_none : (block : ℕ) (list : List CleanBlock) → times_in block list ≡ 0 → list_any (λ (h : CleanBlock). h.block == block) list ≡ false
clean_none block [] none = refl
clean_none block (held ∷ list) none =
    elim (cases_Bool (eqb held.block block)) [
      | inl e ↦ let there : times_in block (held ∷ list) ≡ 1 + times_in block list = rw e refl in absurd (omega (arith, there, none))
      | inr e ↦ let rest : times_in block list ≡ 0 = omega (arith, none) in rw e (clean_none block list rest)
    ]

pub dirty_none : (block : ℕ) (dirty : List DirtyBlock) → times_in block (map as_clean dirty) ≡ 0 → list_any (λ (h : DirtyBlock). h.block == block) dirty ≡ false
dirty_none block [] none = refl
dirty_none block (held ∷ dirty) none =
    elim (cases_Bool (eqb held.block block)) [
      | inl e ↦ let there : times_in block (map as_clean (held ∷ dirty)) ≡ 1 + times_in block (map as_clean dirty) = rw e refl in absurd (omega (arith, there, none))
      | inr e ↦ let rest : times_in block (map as_clean dirty) ≡ 0 = omega (arith, none) in rw e (dirty_none block dirty rest)
    ]

pub not_held : (block : ℕ) (blocks : BlocksState) → times_in block (all_held blocks) ≡ 0 → is_cached block blocks ≡ false
not_held block blocks none =
    let whole = times_in-append block blocks.clean (map as_clean blocks.dirty) in
    let clean : is_clean block blocks ≡ false = clean_none block blocks.clean (omega (arith, whole, none)) in
    let dirty : is_dirty block blocks ≡ false = dirty_none block blocks.dirty (omega (arith, whole, none)) in
    rw (clean, dirty) refl

-- what is left where some blocks were let go
outside-append : (inside : ℕ → Bool) (xs ys : List CleanBlock) → clean_outside inside (xs ++ ys) ≡ clean_outside inside xs ++ clean_outside inside ys
outside-append inside [] ys = refl
outside-append inside (x ∷ xs) ys =
    elim (cases_Bool (inside x.block)) [
      | inl e ↦ rw e (outside-append inside xs ys)
      | inr e ↦ rw e (ap (λ (list : List CleanBlock). x ∷ list) (outside-append inside xs ys))
    ]

pub outside-as_clean : (inside : ℕ → Bool) (dirty : List DirtyBlock) → map as_clean (dirty_outside inside dirty) ≡ clean_outside inside (map as_clean dirty)
outside-as_clean inside [] = refl
outside-as_clean inside (held ∷ dirty) =
    elim (cases_Bool (inside held.block)) [
      | inl e ↦ rw e (outside-as_clean inside dirty)
      | inr e ↦ rw e (ap (λ (list : List CleanBlock). as_clean held ∷ list) (outside-as_clean inside dirty))
    ]

pub all_held-without : (inside : ℕ → Bool) (blocks : BlocksState) → all_held (without inside blocks) ≡ clean_outside inside (all_held blocks)
all_held-without inside blocks =
    ap (λ (list : List CleanBlock). clean_outside inside blocks.clean ++ list) (outside-as_clean inside blocks.dirty)
    ∙ sym (outside-append inside blocks.clean (map as_clean blocks.dirty))

apart_from : (inside : ℕ → Bool) (block other : ℕ) (test : Bool) → inside block ≡ test → inside other ≡ not test → eqb other block ≡ false
apart_from inside block other true here there = ne_eqb other block (λ e. let same : inside other ≡ inside block = ap inside e in cc)
apart_from inside block other false here there = ne_eqb other block (λ e. let same : inside other ≡ inside block = ap inside e in cc)

pub out_none : (inside : ℕ → Bool) (block : ℕ) (list : List CleanBlock) → inside block ≡ true → times_in block (clean_outside inside list) ≡ 0
out_none inside block [] within = refl
out_none inside block (held ∷ list) within =
    elim (cases_Bool (inside held.block)) [
      | inl e ↦ rw e (out_none inside block list within)
      | inr e ↦ rw (e, apart_from inside block held.block true within e) (omega (arith, out_none inside block list within))
    ]

pub out_times : (inside : ℕ → Bool) (block : ℕ) (list : List CleanBlock) → inside block ≡ false → times_in block (clean_outside inside list) ≡ times_in block list
out_times inside block [] beyond = refl
out_times inside block (held ∷ list) beyond =
    elim (cases_Bool (inside held.block)) [
      | inl e ↦ rw (e, apart_from inside block held.block false beyond e) (omega (arith, out_times inside block list beyond))
      | inr e ↦ rw e (ap (λ (n : ℕ). (if held.block == block then 1 else 0) + n) (out_times inside block list beyond))
    ]

pub out_bytes : (inside : ℕ → Bool) (block : ℕ) (list : List CleanBlock) → inside block ≡ false → clean_bytes block (clean_outside inside list) ≡ clean_bytes block list
out_bytes inside block [] beyond = refl
out_bytes inside block (held ∷ list) beyond =
    elim (cases_Bool (inside held.block)) [
      | inl e ↦ rw (e, apart_from inside block held.block false beyond e) (out_bytes inside block list beyond)
      | inr e ↦ rw e (ap (λ (rest : Option (List ℕ)). if held.block == block then Some held.bytes else rest) (out_bytes inside block list beyond))
    ]

pub out_dirty : (inside : ℕ → Bool) (block : ℕ) (dirty : List DirtyBlock) → inside block ≡ false
    → list_any (λ (h : DirtyBlock). h.block == block) (dirty_outside inside dirty) ≡ list_any (λ (h : DirtyBlock). h.block == block) dirty
out_dirty inside block [] beyond = refl
out_dirty inside block (held ∷ dirty) beyond =
    elim (cases_Bool (inside held.block)) [
      | inl e ↦ rw (e, apart_from inside block held.block false beyond e) (out_dirty inside block dirty beyond)
      | inr e ↦ rw e (ap (λ (t : Bool). eqb held.block block || t) (out_dirty inside block dirty beyond))
    ]

-- the clean front taken or not: a block keeps its bytes, or was that front, and then no frame holds it
pub dropped : (block k : ℕ) (clean rest : List CleanBlock) → k ≤ 1 → times_in block (clean ++ rest) ≤ 1
    → (times_in block (drop k clean ++ rest) ≤ times_in block (clean ++ rest))
    × ((clean_bytes block (drop k clean ++ rest) ≡ clean_bytes block (clean ++ rest))
    ⊎ ((k ≡ 1) × (clean_bytes block (drop k clean ++ rest) ≡ None) × (times_in block rest ≡ 0)))
dropped block zero clean rest few once = (omega arith, inl refl)
dropped block (suc zero) [] rest few once = (omega arith, inl refl)
dropped block (suc zero) (held ∷ clean) rest few once =
    elim (eqb_tells held.block block) [
      | inl p ↦
          let there : times_in block ((held ∷ clean) ++ rest) ≡ 1 + times_in block (clean ++ rest) = rw p.0 refl in
          let none : times_in block (clean ++ rest) ≡ 0 = omega (arith, there, once) in
          (omega (arith, there), inr (refl, none_in block (clean ++ rest) none, omega (arith, times_in-append block clean rest, none)))
      | inr p ↦
          let same : clean_bytes block ((held ∷ clean) ++ rest) ≡ clean_bytes block (clean ++ rest) = rw p.0 refl in
          let fewer : times_in block ((held ∷ clean) ++ rest) ≡ times_in block (clean ++ rest) = rw p.0 (omega arith) in
          (omega (arith, fewer), inl (sym same))
    ]
dropped block (suc (suc k)) clean rest few once = absurd (omega arith)

-- the blocks of frames: how often a frame's block is one of them
clean_times : (pool : PoolState) (blocks : List ℕ) (frame : ℕ) (frames : List ℕ)
    → ((other : ℕ) → 1 ≤ times other frames → block_at blocks other ≡ block_at blocks frame → other ≡ frame)
    → times_in (block_at blocks frame) (map (λ f. clean_block pool blocks f) frames) ≡ times frame frames
clean_times pool blocks frame [] apart = refl
clean_times pool blocks frame (f ∷ frames) apart =
    let rest = clean_times pool blocks frame frames (λ x some. apart x (omega (arith, some))) in
    elim (eqb_tells f frame) [
      | inl p ↦ rw (p.0, eq-eqb (block_at blocks f) (block_at blocks frame) (ap (λ (v : ℕ). block_at blocks v) p.1)) (omega (arith, rest))
      | inr p ↦
          let away : block_at blocks f ≢ block_at blocks frame = λ e. p.1 (apart f (omega (arith, times_head f frames)) e) in
          rw (p.0, ne_eqb (block_at blocks f) (block_at blocks frame) away) (omega (arith, rest))
    ]

dirty_times : (pool : PoolState) (blocks : List ℕ) (frame : ℕ) (dirty : List DirtyFrame)
    → ((other : ℕ) → 1 ≤ times other (frames_of dirty) → block_at blocks other ≡ block_at blocks frame → other ≡ frame)
    → times_in (block_at blocks frame) (map as_clean (map (λ (h : DirtyFrame). dirty_block pool blocks h) dirty)) ≡ times frame (frames_of dirty)
dirty_times pool blocks frame [] apart = refl
dirty_times pool blocks frame (held ∷ dirty) apart =
    let rest = dirty_times pool blocks frame dirty (λ x some. apart x (omega (arith, some))) in
    elim (eqb_tells held.frame frame) [
      | inl p ↦ rw (p.0, eq-eqb (block_at blocks held.frame) (block_at blocks frame) (ap (λ (v : ℕ). block_at blocks v) p.1)) (omega (arith, rest))
      | inr p ↦
          let away : block_at blocks held.frame ≢ block_at blocks frame = λ e. p.1 (apart held.frame (omega (arith, times_head held.frame (frames_of dirty))) e) in
          rw (p.0, ne_eqb (block_at blocks held.frame) (block_at blocks frame) away) (omega (arith, rest))
    ]

-- a frame of a block that is among them
clean_frame : (pool : PoolState) (blocks : List ℕ) (block : ℕ) (frames : List ℕ) → 1 ≤ times_in block (map (λ f. clean_block pool blocks f) frames)
    → (frame : ℕ) × (1 ≤ times frame frames) × (block_at blocks frame ≡ block)
clean_frame pool blocks block [] some = absurd (omega arith)
clean_frame pool blocks block (f ∷ frames) some =
    elim (eqb_tells (block_at blocks f) block) [
      | inl p ↦ (f, omega (arith, times_head f frames), p.1)
      | inr p ↦
          let left : times_in block (map (λ f. clean_block pool blocks f) (f ∷ frames)) ≡ times_in block (map (λ f. clean_block pool blocks f) frames) = rw p.0 (omega arith) in
          let found = clean_frame pool blocks block frames (omega (arith, some, left)) in
          let there = found.1 in
          (found.0, omega (arith, there), found.2)
    ]

dirty_frame : (pool : PoolState) (blocks : List ℕ) (block : ℕ) (dirty : List DirtyFrame)
    → 1 ≤ times_in block (map as_clean (map (λ (h : DirtyFrame). dirty_block pool blocks h) dirty))
    → (frame : ℕ) × (1 ≤ times frame (frames_of dirty)) × (block_at blocks frame ≡ block)
dirty_frame pool blocks block [] some = absurd (omega arith)
dirty_frame pool blocks block (held ∷ dirty) some =
    elim (eqb_tells (block_at blocks held.frame) block) [
      | inl p ↦ (held.frame, omega (arith, times_head held.frame (frames_of dirty)), p.1)
      | inr p ↦
          let left : times_in block (map as_clean (map (λ (h : DirtyFrame). dirty_block pool blocks h) (held ∷ dirty)))
          ≡ times_in block (map as_clean (map (λ (h : DirtyFrame). dirty_block pool blocks h) dirty)) = rw p.0 (omega arith) in
          let found = dirty_frame pool blocks block dirty (omega (arith, some, left)) in
          let there = found.1 in
          (found.0, omega (arith, there), found.2)
    ]

-- the blocks that frames hold are each held once
pub held_once : (held : CachedState) → IsHeld held → IsOnce (blocks_of held.pool held.blocks)
held_once held is = record {
  once = λ block.
      let clean = map (λ f. clean_block held.pool held.blocks f) held.pool.clean in
      let dirty = map as_clean (map (λ (h : DirtyFrame). dirty_block held.pool held.blocks h) held.pool.dirty) in
      let whole = times_in-append block clean dirty in
      elim (cases_lt 0 (times_in block clean)) [
        | inl some ↦ let found = clean_frame held.pool held.blocks block held.pool.clean some in
            let there = found.1 in
            by_frame held is found.0 block (omega (arith, there)) found.2
        | inr none ↦ elim (cases_lt 0 (times_in block dirty)) [
          | inl some ↦ let found = dirty_frame held.pool held.blocks block held.pool.dirty some in
              let there = found.1 in
              by_frame held is found.0 block (omega (arith, there)) found.2
          | inr none_dirty ↦ omega (arith, whole, none, none_dirty)
        ]
      ];
}
  where
    by_frame : (held : CachedState) → IsHeld held → (frame block : ℕ) → 1 ≤ held_times frame held.pool → block_at held.blocks frame ≡ block
        → times_in block (all_held (blocks_of held.pool held.blocks)) ≤ 1
    by_frame held is frame block some same =
        let clean = clean_times held.pool held.blocks frame held.pool.clean (λ other there e. is.apart other frame (omega (arith, there)) some e) in
        let dirty = dirty_times held.pool held.blocks frame held.pool.dirty (λ other there e. is.apart other frame (omega (arith, there)) some e) in
        let whole = times_in-append (block_at held.blocks frame) (map (λ f. clean_block held.pool held.blocks f) held.pool.clean) (map as_clean (map (λ (h : DirtyFrame). dirty_block held.pool held.blocks h) held.pool.dirty)) in
        let once = stands_once frame held.pool is.pool (omega (arith, some)) in
        let P : ℕ → Type 0 = λ b. times_in b (all_held (blocks_of held.pool held.blocks)) ≤ 1 in
        subst P same (omega (arith, clean, dirty, whole, once))
