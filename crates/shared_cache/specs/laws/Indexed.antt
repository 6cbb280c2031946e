-- which frames hold blocks, once a frame was moved, and the look-up of blocks
use Rattle.std.proofs.Common.{◌≡◌, ◌≢◌, ◌<◌, ◌≤◌, ◌+◌, inl, inr, ℕ, List, [], ◌∷◌, ◌++◌, length, get_or, set, refl, ap, ◌∙◌, sym, subst, arith, Option, None, Some, if◌then◌else◌, slice_get, IfSome, IfNone, replicate}
use Rattle.std.specs.List.{range_with_len}
use Rattle.std.proofs.lemmas.Bool.{cases_eq, cases_lt, cases_Bool, ne_eqb, eq-eqb, lt-ltb, le-ltb}
use Rattle.std.proofs.lemmas.Bool.Decides.{eqb_tells}
use Rattle.std.proofs.lemmas.List.{get_or-set_same, get_or-set_other, get_or_default, length-set, length-replicate, map-append}
use Rattle.std.proofs.Math.Dec.{eqb, leb}
use Rattle.frame_pool.specs.Lists.{times, without, total}
use Rattle.frame_pool.specs.Pool.{DirtyFrame, PoolState, IsPool, frames_of, lists_in, others, front_through, with_bytes, with_free, with_clean, with_dirty}
use Rattle.frame_pool.specs.laws.Times.{times-append, times-without_same, times-without_other, times_head, times_other}
use Rattle.shared_cache.specs.CachedBlocks.{CachedState, IsHeld, IsIndexed, block_at, held_times}
use Rattle.shared_cache.specs.inner.Blocks.{IsMissing}

pub frames_of-others : (frame : ℕ) (dirty : List DirtyFrame) → frames_of (others frame dirty) ≡ without frame (frames_of dirty)
frames_of-others frame [] = refl
frames_of-others frame (held ∷ dirty) =
    elim (eqb_tells held.frame frame) [
      | inl p ↦ rw p.0 (frames_of-others frame dirty)
      | inr p ↦ rw p.0 (ap (λ (list : List ℕ). held.frame ∷ list) (frames_of-others frame dirty))
    ]

-- how often a frame stands in a list after which one was put
times-last : (frame other : ℕ) (xs : List ℕ) → times other (without frame xs ++ frame ∷ []) ≡ times other (without frame xs) + times other (frame ∷ [])
times-last frame other xs = times-append other (without frame xs) (frame ∷ [])

pub held_times-free_same : (frame : ℕ) (pool : PoolState) → held_times frame (with_free frame pool) ≡ 0
held_times-free_same frame pool =
    rw (frames_of-others frame pool.dirty) (omega (arith, times-without_same frame pool.clean, times-without_same frame (frames_of pool.dirty)))

pub held_times-free_other : (frame other : ℕ) (pool : PoolState) → other ≢ frame → held_times other (with_free frame pool) ≡ held_times other pool
held_times-free_other frame other pool ne =
    rw (frames_of-others frame pool.dirty) (omega (arith, times-without_other frame other pool.clean ne, times-without_other frame other (frames_of pool.dirty) ne))

pub held_times-clean_same : (frame : ℕ) (pool : PoolState) → held_times frame (with_clean frame pool) ≡ 1
held_times-clean_same frame pool =
    rw (frames_of-others frame pool.dirty)
    (omega (arith, times-last frame frame pool.clean, times_head frame [], times-without_same frame pool.clean, times-without_same frame (frames_of pool.dirty)))

pub held_times-clean_other : (frame other : ℕ) (pool : PoolState) → other ≢ frame → held_times other (with_clean frame pool) ≡ held_times other pool
held_times-clean_other frame other pool ne =
    rw (frames_of-others frame pool.dirty)
    (omega (arith, times-last frame other pool.clean, times_other other frame [] (λ e. ne (sym e)), times-without_other frame other pool.clean ne, times-without_other frame other (frames_of pool.dirty) ne))

frames_of-dirty : (frame number : ℕ) (pool : PoolState) → frames_of (with_dirty frame number pool).dirty ≡ without frame (frames_of pool.dirty) ++ frame ∷ []
frames_of-dirty frame number pool = rw (map-append, frames_of-others frame pool.dirty) refl

pub held_times-dirty_same : (frame number : ℕ) (pool : PoolState) → held_times frame (with_dirty frame number pool) ≡ 1
held_times-dirty_same frame number pool =
    rw (frames_of-dirty frame number pool)
    (omega (arith, times-last frame frame (frames_of pool.dirty), times_head frame [], times-without_same frame pool.clean, times-without_same frame (frames_of pool.dirty)))

pub held_times-dirty_other : (frame number other : ℕ) (pool : PoolState) → other ≢ frame → held_times other (with_dirty frame number pool) ≡ held_times other pool
held_times-dirty_other frame number other pool ne =
    rw (frames_of-dirty frame number pool)
    (omega (arith, times-last frame other (frames_of pool.dirty), times_other other frame [] (λ e. ne (sym e)), times-without_other frame other pool.clean ne, times-without_other frame other (frames_of pool.dirty) ne))

-- A frame that is free holds no block, and each frame that stands in a list is one of the pool.
pub free_apart : (frame : ℕ) (pool : PoolState) → IsPool pool → 1 ≤ times frame pool.free → held_times frame pool ≡ 0
free_apart frame pool is some =
    elim (cases_lt frame (total (lists_in pool))) [
      | inl below ↦ let once = rw (lt-ltb frame (total (lists_in pool)) below) at (is.each frame) in omega (arith, once, some)
      | inr above ↦ let none = rw (le-ltb frame (total (lists_in pool)) above) at (is.each frame) in omega (arith, none, some)
    ]

pub frame_below : (frame : ℕ) (pool : PoolState) → IsPool pool → 1 ≤ times frame pool.free + held_times frame pool → frame < length pool.bytes
frame_below frame pool is some =
    elim (cases_lt frame (total (lists_in pool))) [
      | inl below ↦ rw is.count at below
      | inr above ↦ let none = rw (le-ltb frame (total (lists_in pool)) above) at (is.each frame) in absurd (omega (arith, none, some))
    ]

-- a frame let go of its block
pub IsIndexed-unset : (pool pool' : PoolState) (blocks : List ℕ) (lookup lookup' : ℕ → Option ℕ) (frame : ℕ)
    → IsIndexed pool blocks lookup → IsPool pool' → length pool'.bytes ≡ length pool.bytes → 1 ≤ held_times frame pool
    → held_times frame pool' ≡ 0 → ((other : ℕ) → other ≢ frame → held_times other pool' ≡ held_times other pool)
    → ((q : ℕ) → lookup' q ≡ (if eqb q (block_at blocks frame) then None else lookup q))
    → IsIndexed pool' blocks lookup'
IsIndexed-unset pool pool' blocks lookup lookup' frame is kept size held gone same found = record {
  pool_kept = kept;
  size = is.size ∙ sym size;
  found = λ other some.
      let ne : other ≢ frame = λ e. let none : held_times other pool' ≡ 0 = rw e gone in omega (arith, none, some) in
      let was : 1 ≤ held_times other pool = omega (arith, same other ne, some) in
      let away : block_at blocks other ≢ block_at blocks frame =
      λ e. ne (let both = sym (is.found other was) ∙ ap lookup e ∙ is.found frame held in cc) in
      found (block_at blocks other) ∙ rw (ne_eqb (block_at blocks other) (block_at blocks frame) away) (is.found other was);
  only = λ block other some. only_left pool pool' blocks lookup lookup' frame is same found block other some;
}
  where
    only_left : (pool pool' : PoolState) (blocks : List ℕ) (lookup lookup' : ℕ → Option ℕ) (frame : ℕ)
        → IsIndexed pool blocks lookup
        → ((other : ℕ) → other ≢ frame → held_times other pool' ≡ held_times other pool)
        → ((q : ℕ) → lookup' q ≡ (if eqb q (block_at blocks frame) then None else lookup q))
        → (block other : ℕ) → lookup' block ≡ Some other → (1 ≤ held_times other pool') × (block_at blocks other ≡ block)
    only_left pool pool' blocks lookup lookup' frame is same found block other some =
        elim (eqb_tells block (block_at blocks frame)) [
          | inl p ↦ let gone : lookup' block ≡ None = found block ∙ rw p.0 refl in cc
          | inr p ↦
              let was = is.only block other (sym (found block ∙ rw p.0 refl) ∙ some) in
              let ne : other ≢ frame = λ e. p.1 (sym was.1 ∙ ap (λ (v : ℕ). block_at blocks v) e) in
              (omega (arith, same other ne, was.0), was.1)
        ]

-- a frame that held no block holds one
pub IsIndexed-set : (pool pool' : PoolState) (blocks : List ℕ) (lookup lookup' : ℕ → Option ℕ) (frame block : ℕ)
    → IsIndexed pool blocks lookup → IsPool pool' → length pool'.bytes ≡ length pool.bytes → frame < length blocks → held_times frame pool ≡ 0
    → held_times frame pool' ≡ 1 → ((other : ℕ) → other ≢ frame → held_times other pool' ≡ held_times other pool)
    → ((other : ℕ) → 1 ≤ held_times other pool → block_at blocks other ≢ block)
    → ((q : ℕ) → lookup' q ≡ (if eqb q block then Some frame else lookup q))
    → IsIndexed pool' (set blocks frame block) lookup'
IsIndexed-set pool pool' blocks lookup lookup' frame block is kept size below gone now same missing found = record {
  pool_kept = kept;
  size = length-set blocks frame block ∙ is.size ∙ sym size;
  found = λ other some. found_set pool pool' blocks lookup lookup' frame block is below same missing found other some;
  only = λ q other some. only_set pool pool' blocks lookup lookup' frame block is below gone now same found q other some;
}
  where
    found_set : (pool pool' : PoolState) (blocks : List ℕ) (lookup lookup' : ℕ → Option ℕ) (frame block : ℕ)
        → IsIndexed pool blocks lookup → frame < length blocks
        → ((other : ℕ) → other ≢ frame → held_times other pool' ≡ held_times other pool)
        → ((other : ℕ) → 1 ≤ held_times other pool → block_at blocks other ≢ block)
        → ((q : ℕ) → lookup' q ≡ (if eqb q block then Some frame else lookup q))
        → (other : ℕ) → 1 ≤ held_times other pool' → lookup' (block_at (set blocks frame block) other) ≡ Some other
    found_set pool pool' blocks lookup lookup' frame block is below same missing found other some =
        elim (cases_eq other frame) [
          | inl e ↦ rw (e, get_or-set_same blocks frame block 0 below) (found block ∙ rw (eq-eqb block block refl) refl)
          | inr ne ↦
              let was : 1 ≤ held_times other pool = omega (arith, same other ne, some) in
              rw (get_or-set_other blocks frame other block 0 ne)
              (found (block_at blocks other) ∙ rw (ne_eqb (block_at blocks other) block (missing other was)) (is.found other was))
        ]

    only_set : (pool pool' : PoolState) (blocks : List ℕ) (lookup lookup' : ℕ → Option ℕ) (frame block : ℕ)
        → IsIndexed pool blocks lookup → frame < length blocks → held_times frame pool ≡ 0 → held_times frame pool' ≡ 1
        → ((other : ℕ) → other ≢ frame → held_times other pool' ≡ held_times other pool)
        → ((q : ℕ) → lookup' q ≡ (if eqb q block then Some frame else lookup q))
        → (q other : ℕ) → lookup' q ≡ Some other → (1 ≤ held_times other pool') × (block_at (set blocks frame block) other ≡ q)
    only_set pool pool' blocks lookup lookup' frame block is below gone now same found q other some =
        elim (eqb_tells q block) [
          | inl p ↦
              let first : lookup' q ≡ Some frame = found q ∙ rw p.0 refl in
              let e : frame ≡ other = cc in
              let P : ℕ → Type 0 = λ v. (1 ≤ held_times v pool') × (block_at (set blocks frame block) v ≡ q) in
              subst P e (omega (arith, now), get_or-set_same blocks frame block 0 below ∙ sym p.1)
          | inr p ↦
              let was = is.only q other (sym (found q ∙ rw p.0 refl) ∙ some) in
              let ne : other ≢ frame = λ e. let none : held_times other pool ≡ 0 = rw e gone in omega (arith, none, was.0) in
              (omega (arith, same other ne, was.0), get_or-set_other blocks frame other block 0 ne ∙ was.1)
        ]

-- a frame that holds a block was moved
pub IsIndexed-same : (pool pool' : PoolState) (blocks : List ℕ) (lookup : ℕ → Option ℕ) (frame : ℕ)
    → IsIndexed pool blocks lookup → IsPool pool' → length pool'.bytes ≡ length pool.bytes → 1 ≤ held_times frame pool
    → held_times frame pool' ≡ 1 → ((other : ℕ) → other ≢ frame → held_times other pool' ≡ held_times other pool)
    → IsIndexed pool' blocks lookup
IsIndexed-same pool pool' blocks lookup frame is kept size held now same = record {
  pool_kept = kept;
  size = is.size ∙ sym size;
  found = λ other some.
      is.found other (elim (cases_eq other frame) [
        | inl e ↦ rw e held
        | inr ne ↦ omega (arith, same other ne, some)
      ]);
  only = λ block other some.
      let was = is.only block other some in (
        elim (cases_eq other frame) [
          | inl e ↦ rw (e, now) (omega arith)
          | inr ne ↦ omega (arith, same other ne, was.0)
        ],
        was.1,
      );
}

pub IsHeld_indexed : (pool : PoolState) (blocks : List ℕ) (spare : ℕ) (lookup : ℕ → Option ℕ) → IsIndexed pool blocks lookup
    → IsHeld (record { pool = pool; blocks = blocks; spare = spare })
IsHeld_indexed pool blocks spare lookup is = record {
  pool = is.pool_kept;
  size = is.size;
  apart = λ frame other held also e. let both = sym (is.found frame held) ∙ ap lookup e ∙ is.found other also in cc;
}

-- what each call leaves of the look-up
pub indexed-free_frame : (pool pool' : PoolState) (blocks : List ℕ) (lookup lookup' : ℕ → Option ℕ) (frame read : ℕ)
    → IsIndexed pool blocks lookup → pool' ≡ with_free frame pool → IsPool pool' → 1 ≤ held_times frame pool
    → read ≡ get_or blocks frame read → ((q : ℕ) → lookup' q ≡ (if eqb q read then None else lookup q))
    → IsIndexed pool' blocks lookup'
indexed-free_frame pool pool' blocks lookup lookup' frame read is moved kept held was found =
    let below : frame < length blocks = omega (arith, frame_below frame pool is.pool_kept (omega (arith, held)), is.size) in
    let e : read ≡ block_at blocks frame = was ∙ get_or_default blocks frame read 0 below in
    IsIndexed-unset pool pool' blocks lookup lookup' frame is kept (rw moved refl) held (rw moved (held_times-free_same frame pool))
    (λ other ne. rw moved (held_times-free_other frame other pool ne))
    (λ q. found q ∙ ap (λ (v : ℕ). if eqb q v then None else lookup q) e)

pub indexed-assign_dirty : (pool pool' : PoolState) (blocks : List ℕ) (lookup lookup' : ℕ → Option ℕ) (frame block number : ℕ) (bytes : List ℕ)
    → IsIndexed pool blocks lookup → pool' ≡ with_bytes frame bytes (with_dirty frame number pool) → IsPool pool' → 1 ≤ times frame pool.free
    → ((other : ℕ) → 1 ≤ held_times other pool → block_at blocks other ≢ block)
    → ((q : ℕ) → lookup' q ≡ (if eqb q block then Some frame else lookup q))
    → IsIndexed pool' (set blocks frame block) lookup'
indexed-assign_dirty pool pool' blocks lookup lookup' frame block number bytes is moved kept free missing found =
    let below : frame < length blocks = omega (arith, frame_below frame pool is.pool_kept (omega (arith, free)), is.size) in
    IsIndexed-set pool pool' blocks lookup lookup' frame block is kept (rw moved (length-set pool.bytes frame bytes)) below (free_apart frame pool is.pool_kept free)
    (rw moved (held_times-dirty_same frame number pool)) (λ other ne. rw moved (held_times-dirty_other frame number other pool ne)) missing found

pub indexed-assign_clean : (pool pool' : PoolState) (blocks : List ℕ) (lookup lookup' : ℕ → Option ℕ) (frame block : ℕ) (bytes : List ℕ)
    → IsIndexed pool blocks lookup → pool' ≡ with_bytes frame bytes (with_clean frame pool) → IsPool pool' → 1 ≤ times frame pool.free
    → ((other : ℕ) → 1 ≤ held_times other pool → block_at blocks other ≢ block)
    → ((q : ℕ) → lookup' q ≡ (if eqb q block then Some frame else lookup q))
    → IsIndexed pool' (set blocks frame block) lookup'
indexed-assign_clean pool pool' blocks lookup lookup' frame block bytes is moved kept free missing found =
    let below : frame < length blocks = omega (arith, frame_below frame pool is.pool_kept (omega (arith, free)), is.size) in
    IsIndexed-set pool pool' blocks lookup lookup' frame block is kept (rw moved (length-set pool.bytes frame bytes)) below (free_apart frame pool is.pool_kept free)
    (rw moved (held_times-clean_same frame pool)) (λ other ne. rw moved (held_times-clean_other frame other pool ne)) missing found

pub indexed-write_again : (pool pool' : PoolState) (blocks : List ℕ) (lookup : ℕ → Option ℕ) (frame number : ℕ) (bytes : List ℕ)
    → IsIndexed pool blocks lookup → pool' ≡ with_bytes frame bytes (with_dirty frame number pool) → IsPool pool' → 1 ≤ held_times frame pool
    → IsIndexed pool' blocks lookup
indexed-write_again pool pool' blocks lookup frame number bytes is moved kept held =
    IsIndexed-same pool pool' blocks lookup frame is kept (rw moved (length-set pool.bytes frame bytes)) held
    (rw moved (held_times-dirty_same frame number pool)) (λ other ne. rw moved (held_times-dirty_other frame number other pool ne))

front_through-held : (number frame : ℕ) (dirty : List DirtyFrame) → front_through number dirty ≡ Some frame → 1 ≤ times frame (frames_of dirty)
front_through-held number frame [] is = cc
front_through-held number frame (held ∷ dirty) is =
    elim (cases_Bool (leb held.number number)) [
      | inl within ↦
          let front : (if leb held.number number then Some held.frame else None) ≡ Some held.frame = rw within refl in
          let same : held.frame ≡ frame = cc in
          let first : times frame (frames_of (held ∷ dirty)) ≡ 1 + times frame (frames_of dirty) = rw (eq-eqb held.frame frame same) refl in
          omega (arith, first)
      | inr above ↦ let none : (if leb held.number number then Some held.frame else None) ≡ None = rw above refl in cc
    ]

pub indexed-clean_front : (pool pool' : PoolState) (blocks : List ℕ) (lookup : ℕ → Option ℕ) (number : ℕ) (front : Option ℕ)
    → IsIndexed pool blocks lookup → IsPool pool' → front ≡ front_through number pool.dirty
    → IfSome front (λ frame. pool' ≡ with_clean frame pool) → IfNone front (pool' ≡ pool)
    → IsIndexed pool' blocks lookup
indexed-clean_front pool pool' blocks lookup number None is kept front some none =
    let P : PoolState → Type 0 = λ seen. IsIndexed seen blocks lookup in subst P (sym none) is
indexed-clean_front pool pool' blocks lookup number (Some frame) is kept front some none =
    let held : 1 ≤ held_times frame pool = omega (arith, front_through-held number frame pool.dirty (sym front)) in
    IsIndexed-same pool pool' blocks lookup frame is kept (rw some refl) held (rw some (held_times-clean_same frame pool))
    (λ other ne. rw some (held_times-clean_other frame other pool ne))

-- a fact of the value is one of what is inside
pub held_seen : (frame : ℕ) (held now : CachedState) → held ≡ now → 1 ≤ held_times frame now.pool → 1 ≤ held_times frame held.pool
held_seen frame held now is some = let P : CachedState → Type 0 = λ seen. 1 ≤ held_times frame seen.pool in subst P (sym is) some

pub free_seen : (frame : ℕ) (held now : CachedState) → held ≡ now → 1 ≤ times frame now.pool.free → 1 ≤ times frame held.pool.free
free_seen frame held now is some = let P : CachedState → Type 0 = λ seen. 1 ≤ times frame seen.pool.free in subst P (sym is) some

pub missing_seen : (block : ℕ) (held now : CachedState) → held ≡ now → IsMissing block now → IsMissing block held
missing_seen block held now is missing = let P : CachedState → Type 0 = λ seen. IsMissing block seen in subst P (sym is) missing

-- another look-up that finds the same
pub indexed_agree : (pool : PoolState) (blocks : List ℕ) (lookup lookup' : ℕ → Option ℕ) → IsIndexed pool blocks lookup
    → ((q : ℕ) → lookup' q ≡ lookup q) → IsIndexed pool blocks lookup'
indexed_agree pool blocks lookup lookup' is same = record {
  pool_kept = is.pool_kept;
  size = is.size;
  found = λ frame some. same (block_at blocks frame) ∙ is.found frame some;
  only = λ block frame some. is.only block frame (sym (same block) ∙ some);
}

-- frames that hold no blocks
pub indexed_fresh : (pool : PoolState) (blocks : List ℕ) (lookup : ℕ → Option ℕ) → IsPool pool → length blocks ≡ length pool.bytes → pool.clean ≡ [] → pool.dirty ≡ []
    → ((q : ℕ) → lookup q ≡ None) → IsIndexed pool blocks lookup
indexed_fresh pool blocks lookup is size clean dirty empty = record {
  pool_kept = is;
  size = size;
  found = λ frame some. absurd (let none : held_times frame pool ≡ 0 = rw (clean, dirty) refl in omega (arith, none, some));
  only = λ block frame some. absurd (let none = empty block in cc);
}

pub front_times : (frame : ℕ) (xs : List ℕ) → slice_get xs 0 ≡ Some frame → 1 ≤ times frame xs
front_times frame [] is = cc
front_times frame (x ∷ xs) is =
    let same : x ≡ frame = cc in
    let first : times frame (x ∷ xs) ≡ 1 + times frame xs = rw (eq-eqb x frame same) refl in
    omega (arith, first)

-- the front of the clean frames let go of its block
pub indexed-evict : (pool pool' : PoolState) (blocks : List ℕ) (lookup lookup' : ℕ → Option ℕ) (frame read : ℕ)
    → IsIndexed pool blocks lookup → slice_get pool.clean 0 ≡ Some frame → pool' ≡ with_free frame pool → IsPool pool'
    → read ≡ get_or blocks frame read → ((q : ℕ) → lookup' q ≡ (if eqb q read then None else lookup q))
    → IsIndexed pool' blocks lookup'
indexed-evict pool pool' blocks lookup lookup' frame read is front moved kept was found =
    indexed-free_frame pool pool' blocks lookup lookup' frame read is moved kept (omega (arith, front_times frame pool.clean front)) was found

-- A frame that is freed is free, and holds no more than before.
pub free_now : (frame : ℕ) (pool pool' : PoolState) → pool' ≡ with_free frame pool → 1 ≤ times frame pool'.free
free_now frame pool pool' moved =
    rw moved (omega (arith, times-last frame frame pool.free, times_head frame []))

pub held_before : (frame other : ℕ) (pool pool' : PoolState) → pool' ≡ with_free frame pool → 1 ≤ held_times other pool' → 1 ≤ held_times other pool
held_before frame other pool pool' moved some =
    let there : 1 ≤ held_times other (with_free frame pool) = rw moved at some in
    elim (cases_eq other frame) [
      | inl e ↦ absurd (let none : held_times other (with_free frame pool) ≡ 0 = rw e (held_times-free_same frame pool) in omega (arith, none, there))
      | inr ne ↦ omega (arith, held_times-free_other frame other pool ne, there)
    ]

pub indexed_made : (frames : ℕ) (pool : PoolState) (blocks : List ℕ) (lookup : ℕ → Option ℕ) → IsPool pool
    → pool ≡ record { free = range_with_len 0 frames; clean = []; dirty = []; bytes = replicate frames (replicate 4096 0) }
    → length blocks ≡ frames → ((q : ℕ) → lookup q ≡ None) → IsIndexed pool blocks lookup
indexed_made frames pool blocks lookup is made size empty =
    indexed_fresh pool blocks lookup is (size ∙ sym (length-replicate frames (replicate 4096 0)) ∙ ap (λ (p : PoolState). length p.bytes) (sym made))
    (ap (λ (p : PoolState). p.clean) made) (ap (λ (p : PoolState). p.dirty) made) empty
