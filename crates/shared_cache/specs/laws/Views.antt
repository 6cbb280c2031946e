-- what calls leave of each block
use Rattle.std.proofs.Common.{◌≡◌, ◌≢◌, ◌<◌, ◌≤◌, ◌+◌, ◌-◌, ◌==◌, ◌&&◌, ◌⊎◌, ◌||◌, inl, inr, ℕ, zero, suc, Bool, true, false, if◌then◌else◌, List, [], ◌∷◌, ◌++◌, append_assoc, length, map, drop, filter, get_or, replicate, Option, None, Some, refl, ap, ◌∙◌, sym, subst, arith}
use Rattle.std.specs.List.{list_any}
use Rattle.std.proofs.lemmas.Bool.{cases_Bool, cases_lt, ne_eqb, eq-eqb, le-leb, le-ltb, lt-leb, lt-ltb}
use Rattle.std.proofs.lemmas.Bool.Decides.{eqb_tells}
use Rattle.std.proofs.lemmas.List.{map-append}
use Rattle.std.proofs.Math.Dec.{eqb, leb, ltb}
use Rattle.alloc_map.specs.Codes.{state_at}
use Rattle.image_model.specs.declared.command.Kind.{Kind}
use Rattle.image_model.specs.declared.command.Kind.TheVariants.{Data, Zero, Hole}
use Rattle.image_model.specs.Image.{covers}
use Rattle.image_model.specs.Patched.{patched}
use Rattle.image_model.specs.laws.Positions.{filled_at}
use Rattle.shared_cache.specs.Blocks.{BlocksState, CleanBlock, DirtyBlock, bytes_of, clean_bytes, cleaned, dirty_outside, is_dirty, is_cached, option_or, with_fill, with_put, with_puts, without}
use Rattle.shared_cache.specs.Cache.{CacheState, bytes_for, bytes_seen}
use Rattle.shared_cache.specs.CachedBlocks.{CachedState, IsHeld, blocks_of}
use Rattle.shared_cache.specs.View.{KeepsBytes, ShowsPut, ShowsClear, ShowsFill, ShowsClean}
use Rattle.shared_cache.specs.laws.Ranges.{any-outside, covers_true, dirty_other}
use Rattle.shared_cache.specs.laws.Once.{IsOnce, absent_all, all_held, all_held-without, as_clean, bytes_of-all, clean_bytes-append, dirty_none, dropped, held_once, none_in, not_held, out_bytes, out_dirty, out_none, out_times, times_in, times_in-append}

-- a block keeps its bytes, or its frame was clean and was taken
abbrev pub Keeps : ℕ → BlocksState → BlocksState → ℕ → Type 0
Keeps count old new block =
    (bytes_of block new ≡ bytes_of block old) ⊎ ((is_dirty block old ≡ false) × (old.free < count) × (bytes_of block new ≡ None))

pub true_false : true ≡ false → ⊥
true_false e = cc

covers_inside : (first count other : ℕ) → covers first count other ≡ true → (first ≤ other) × (other < first + count)
covers_inside first count other inside =
    elim (cases_lt other first) [
      | inl below ↦ let out : covers first count other ≡ false = rw (lt-leb first other below) refl in absurd (true_false (sym inside ∙ out))
      | inr above ↦ elim (cases_lt other (first + count)) [
        | inl within ↦ (above, within)
        | inr past ↦ let out : covers first count other ≡ false = rw (le-leb first other above, le-ltb other (first + count) past) refl in absurd (true_false (sym inside ∙ out))
      ]
    ]

option_or-none : (x : Option (List ℕ)) → option_or x None ≡ x
option_or-none None = refl
option_or-none (Some bytes) = refl

-- a block is dirty after a put of it
put_dirty : (number block : ℕ) (bytes : List ℕ) (s : BlocksState) → is_dirty block (with_put number block bytes s) ≡ true
put_dirty number block bytes s = at_end block (dirty_outside (λ b. b == block) s.dirty) (record { block = block; number = number; bytes = bytes }) refl
  where
    at_end : (block : ℕ) (dirty : List DirtyBlock) (last : DirtyBlock) → last.block ≡ block → list_any (λ (h : DirtyBlock). h.block == block) (dirty ++ last ∷ []) ≡ true
    at_end block [] last is = rw (eq-eqb last.block block is) refl
    at_end block (held ∷ dirty) last is =
        elim (cases_Bool (eqb held.block block)) [ inl e ↦ rw e refl | inr e ↦ rw e (at_end block dirty last is) ]

-- the blocks that are left where a put lets go of its own, and what is left of them where a frame is taken
abbrev pub left_of : ℕ → BlocksState → BlocksState
left_of block s = without (λ b. b == block) s

abbrev pub base_of : BlocksState → List CleanBlock
base_of s = drop (1 - s.free) s.clean ++ map as_clean s.dirty

pub held_put : (number block : ℕ) (bytes : List ℕ) (s : BlocksState)
    → all_held (with_put number block bytes s) ≡ base_of (left_of block s) ++ record { block = block; bytes = bytes } ∷ []
held_put number block bytes s =
    let left = left_of block s in
    ap (λ (list : List CleanBlock). drop (1 - left.free) left.clean ++ list) (map-append as_clean left.dirty (record { block = block; number = number; bytes = bytes } ∷ []))
    ∙ sym (append_assoc (drop (1 - left.free) left.clean) (map as_clean left.dirty) (record { block = block; bytes = bytes } ∷ []))

-- what is left of some blocks where a frame is taken
pub base_times : (block : ℕ) (s : BlocksState) → times_in block (all_held s) ≤ 1 → times_in block (base_of s) ≤ times_in block (all_held s)
base_times block s once = (dropped block (1 - s.free) s.clean (map as_clean s.dirty) (omega arith) once).0

base_keeps : (block : ℕ) (s : BlocksState) → times_in block (all_held s) ≤ 1
    → (clean_bytes block (base_of s) ≡ bytes_of block s) ⊎ ((is_dirty block s ≡ false) × (s.free < 1) × (clean_bytes block (base_of s) ≡ None))
base_keeps block s once =
    elim ((dropped block (1 - s.free) s.clean (map as_clean s.dirty) (omega arith) once).1) [
      | inl same ↦ inl (same ∙ sym (bytes_of-all block s))
      | inr lost ↦ let full = lost.0 in inr (dirty_none block s.dirty lost.2, omega (arith, full), lost.1)
    ]

-- the blocks without one: how often another is held, its bytes, and whether it's dirty
pub left_times : (block other : ℕ) (s : BlocksState) → other ≢ block → times_in other (all_held (left_of block s)) ≡ times_in other (all_held s)
left_times block other s ne =
    ap (times_in other) (all_held-without (λ b. b == block) s) ∙ out_times (λ b. b == block) other (all_held s) (ne_eqb other block ne)

left_own : (block : ℕ) (s : BlocksState) → times_in block (all_held (left_of block s)) ≡ 0
left_own block s =
    ap (times_in block) (all_held-without (λ b. b == block) s) ∙ out_none (λ b. b == block) block (all_held s) (eq-eqb block block refl)

pub without_bytes : (inside : ℕ → Bool) (block : ℕ) (s : BlocksState) → inside block ≡ false → bytes_of block (without inside s) ≡ bytes_of block s
without_bytes inside block s beyond =
    bytes_of-all block (without inside s)
    ∙ ap (clean_bytes block) (all_held-without inside s)
    ∙ out_bytes inside block (all_held s) beyond
    ∙ sym (bytes_of-all block s)

-- a put of one block: each block is held once still, the block has its bytes, and another one keeps its own
pub put_once : (number block : ℕ) (bytes : List ℕ) (s : BlocksState) → IsOnce s → IsOnce (with_put number block bytes s)
put_once number block bytes s is = record {
  once = λ other.
      let left = left_of block s in
      let now : times_in other (all_held (with_put number block bytes s)) ≡ times_in other (base_of left) + times_in other (record { block = block; bytes = bytes } ∷ []) =
      ap (times_in other) (held_put number block bytes s) ∙ times_in-append other (base_of left) (record { block = block; bytes = bytes } ∷ []) in
      elim (eqb_tells block other) [
        | inl p ↦
            let own : times_in other (record { block = block; bytes = bytes } ∷ []) ≡ 1 = rw p.0 refl in
            let none : times_in other (all_held left) ≡ 0 = ap (λ (b : ℕ). times_in b (all_held left)) (sym p.1) ∙ left_own block s in
            let taken = base_times other left (omega (arith, none)) in
            omega (arith, now, own, none, taken)
        | inr p ↦
            let away : times_in other (record { block = block; bytes = bytes } ∷ []) ≡ 0 = rw p.0 refl in
            let same = left_times block other s (λ e. p.1 (sym e)) in
            let once = is.once other in
            let taken = base_times other left (omega (arith, same, once)) in
            omega (arith, now, away, same, once, taken)
      ];
}

put_own : (number block : ℕ) (bytes : List ℕ) (s : BlocksState) → bytes_of block (with_put number block bytes s) ≡ Some bytes
put_own number block bytes s =
    let left = left_of block s in
    let none = left_own block s in
    let taken = base_times block left (omega (arith, none)) in
    bytes_of-all block (with_put number block bytes s)
    ∙ ap (clean_bytes block) (held_put number block bytes s)
    ∙ clean_bytes-append block (base_of left) (record { block = block; bytes = bytes } ∷ [])
    ∙ rw (none_in block (base_of left) (omega (arith, none, taken)), eq-eqb block block refl) refl

put_other : (number block : ℕ) (bytes : List ℕ) (s : BlocksState) → IsOnce s → (other : ℕ) → other ≢ block → Keeps 1 s (with_put number block bytes s) other
put_other number block bytes s is other ne =
    let left = left_of block s in
    let same = left_times block other s ne in
    let once = is.once other in
    let now : bytes_of other (with_put number block bytes s) ≡ clean_bytes other (base_of left) =
    bytes_of-all other (with_put number block bytes s)
    ∙ ap (clean_bytes other) (held_put number block bytes s)
    ∙ clean_bytes-append other (base_of left) (record { block = block; bytes = bytes } ∷ [])
    ∙ rw (ne_eqb block other (λ e. ne (sym e))) (option_or-none (clean_bytes other (base_of left))) in
    elim (base_keeps other left (omega (arith, same, once))) [
      | inl kept ↦ inl (now ∙ kept ∙ without_bytes (λ b. b == block) other s (ne_eqb other block ne))
      | inr lost ↦ let few = lost.1 in inr (sym (any-outside block other s.dirty ne) ∙ lost.0, omega (arith, few), now ∙ lost.2)
    ]

-- a step more
keeps_more : (count : ℕ) (old mid new : BlocksState) (block : ℕ) → Keeps 1 old mid block → Keeps count mid new block → is_dirty block mid ≡ is_dirty block old → old.free ≤ mid.free + 1
    → Keeps (suc count) old new block
keeps_more count old mid new block one more dirty free =
    elim one [
      | inl same ↦ elim more [
        | inl again ↦ inl (again ∙ same)
        | inr lost ↦ let few = lost.1 in inr (sym dirty ∙ lost.0, omega (arith, few, free), lost.2)
      ]
      | inr gone ↦ let few = gone.1 in elim more [
        | inl again ↦ inr (gone.0, omega (arith, few), again ∙ gone.2)
        | inr lost ↦ inr (gone.0, omega (arith, few), lost.2)
      ]
    ]

-- puts one after another
puts_others : (number first : ℕ) (blocks : List (List ℕ)) (s : BlocksState) → IsOnce s → (other : ℕ) → covers first (length blocks) other ≡ false
    → Keeps (length blocks) s (with_puts number first blocks s) other
puts_others number first [] s is other beyond = inl refl
puts_others number first (bytes ∷ blocks) s is other beyond =
    let ne : other ≢ first = λ e. let here : covers first (suc (length blocks)) other ≡ true = covers_true first (suc (length blocks)) other (omega arith) (omega arith) in cc in
    let mid = with_put number first bytes s in
    keeps_more (length blocks) s mid (with_puts number (first + 1) blocks mid) other
    (put_other number first bytes s is other ne)
    (puts_others number (first + 1) blocks mid (put_once number first bytes s is) other (covers_rest first (length blocks) other beyond))
    (dirty_other number first other bytes s ne)
    (omega arith)
  where
    covers_rest : (first count other : ℕ) → covers first (suc count) other ≡ false → covers (first + 1) count other ≡ false
    covers_rest first count other beyond =
        elim (cases_Bool (covers (first + 1) count other)) [
          | inl inside ↦ let within = covers_inside (first + 1) count other inside in
              let here : covers first (suc count) other ≡ true = covers_true first (suc count) other (omega (arith, within.0)) (omega (arith, within.1)) in cc
          | inr out ↦ out
        ]

puts_own : (number first : ℕ) (blocks : List (List ℕ)) (s : BlocksState) → IsOnce s → (k : ℕ) (d : List ℕ) → k < length blocks
    → bytes_of (first + k) (with_puts number first blocks s) ≡ Some (get_or blocks k d)
puts_own number first [] s is k d below = absurd (omega arith)
puts_own number first (bytes ∷ blocks) s is zero d below =
    let mid = with_put number first bytes s in
    let here : first + 0 ≡ first = omega arith in
    ap (λ (b : ℕ). bytes_of b (with_puts number (first + 1) blocks mid)) here
    ∙ elim (puts_others number (first + 1) blocks mid (put_once number first bytes s is) first (covers_behind first (length blocks))) [
      | inl same ↦ same ∙ put_own number first bytes s
      | inr lost ↦ let dirty = put_dirty number first bytes s in absurd (true_false (sym dirty ∙ lost.0))
    ]
  where
    covers_behind : (first count : ℕ) → covers (first + 1) count first ≡ false
    covers_behind first count = rw (lt-leb (first + 1) first (omega arith)) refl
puts_own number first (bytes ∷ blocks) s is (suc k) d below =
    let mid = with_put number first bytes s in
    let further : first + suc k ≡ first + 1 + k = omega arith in
    ap (λ (b : ℕ). bytes_of b (with_puts number (first + 1) blocks mid)) further
    ∙ puts_own number (first + 1) blocks mid (put_once number first bytes s is) k d (omega (arith, below))

-- which blocks are dirty after puts
puts_dirty : (number first : ℕ) (blocks : List (List ℕ)) (s : BlocksState) (other : ℕ)
    → is_dirty other (with_puts number first blocks s) ≡ (covers first (length blocks) other || is_dirty other s)
puts_dirty number first [] s other = rw (covers_none first other) refl
  where
    covers_none : (first other : ℕ) → covers first 0 other ≡ false
    covers_none first other =
        elim (cases_lt other first) [
          | inl below ↦ rw (lt-leb first other below) refl
          | inr above ↦ rw (le-leb first other above, le-ltb other (first + 0) (omega arith)) refl
        ]
puts_dirty number first (bytes ∷ blocks) s other =
    let mid = with_put number first bytes s in
    puts_dirty number (first + 1) blocks mid other
    ∙ elim (eqb_tells other first) [
      | inl p ↦
          let here : covers first (suc (length blocks)) other ≡ true = covers_true first (suc (length blocks)) other (omega (arith, p.1)) (omega (arith, p.1)) in
          let dirty : is_dirty other mid ≡ true = ap (λ (b : ℕ). is_dirty b mid) p.1 ∙ put_dirty number first bytes s in
          ap (λ (t : Bool). covers (first + 1) (length blocks) other || t) dirty ∙ or_true (covers (first + 1) (length blocks) other)
          ∙ sym (ap (λ (t : Bool). t || is_dirty other s) here)
      | inr p ↦
          ap (λ (t : Bool). covers (first + 1) (length blocks) other || t) (dirty_other number first other bytes s p.1)
          ∙ ap (λ (t : Bool). t || is_dirty other s) (covers_step first (length blocks) other p.1)
    ]
  where
    or_true : (t : Bool) → (t || true) ≡ true
    or_true true = refl
    or_true false = refl

    covers_step : (first count other : ℕ) → other ≢ first → covers (first + 1) count other ≡ covers first (suc count) other
    covers_step first count other ne =
        let last : first + 1 + count ≡ first + suc count = omega arith in
        elim (cases_lt other first) [
          | inl below ↦ rw (lt-leb (first + 1) other (omega arith), lt-leb first other below) refl
          | inr above ↦ rw (le-leb (first + 1) other (omega arith), le-leb first other above) (ap (ltb other) last)
        ]

-- a block that was read
fill_held : (block : ℕ) (bytes : List ℕ) (s : BlocksState) → is_cached block s ≡ false
    → all_held (with_fill block bytes s) ≡ drop (1 - s.free) s.clean ++ (record { block = block; bytes = bytes } ∷ map as_clean s.dirty)
fill_held block bytes s missing =
    rw missing (append_assoc (drop (1 - s.free) s.clean) (record { block = block; bytes = bytes } ∷ []) (map as_clean s.dirty))

pub fill_own : (block : ℕ) (bytes : List ℕ) (s : BlocksState) → is_cached block s ≡ false → bytes_of block (with_fill block bytes s) ≡ Some bytes
fill_own block bytes s missing =
    let none = absent_all block s missing in
    let taken = base_times block s (omega (arith, none)) in
    let whole = times_in-append block (drop (1 - s.free) s.clean) (map as_clean s.dirty) in
    bytes_of-all block (with_fill block bytes s)
    ∙ ap (clean_bytes block) (fill_held block bytes s missing)
    ∙ clean_bytes-append block (drop (1 - s.free) s.clean) (record { block = block; bytes = bytes } ∷ map as_clean s.dirty)
    ∙ rw (none_in block (drop (1 - s.free) s.clean) (omega (arith, none, taken, whole)), eq-eqb block block refl) refl

pub fill_other : (block : ℕ) (bytes : List ℕ) (s : BlocksState) → IsOnce s → is_cached block s ≡ false → (other : ℕ) → other ≢ block → Keeps 1 s (with_fill block bytes s) other
fill_other block bytes s is missing other ne =
    let now : bytes_of other (with_fill block bytes s) ≡ clean_bytes other (base_of s) =
    bytes_of-all other (with_fill block bytes s)
    ∙ ap (clean_bytes other) (fill_held block bytes s missing)
    ∙ clean_bytes-append other (drop (1 - s.free) s.clean) (record { block = block; bytes = bytes } ∷ map as_clean s.dirty)
    ∙ rw (ne_eqb block other (λ e. ne (sym e))) refl
    ∙ sym (clean_bytes-append other (drop (1 - s.free) s.clean) (map as_clean s.dirty)) in
    elim (base_keeps other s (is.once other)) [
      | inl kept ↦ inl (now ∙ kept)
      | inr lost ↦ inr (lost.0, lost.1, now ∙ lost.2)
    ]

-- the dirty blocks up to a number, and those above it
abbrev within_number : ℕ → List DirtyBlock → List DirtyBlock
within_number number dirty = filter (λ (held : DirtyBlock). leb held.number number) dirty

abbrev above_number : ℕ → List DirtyBlock → List DirtyBlock
above_number number dirty = filter (λ (held : DirtyBlock). ltb number held.number) dirty

within_times : (number block : ℕ) (dirty : List DirtyBlock) → times_in block (map as_clean (within_number number dirty)) ≤ times_in block (map as_clean dirty)
within_times number block [] = omega arith
within_times number block (held ∷ dirty) =
    elim (cases_Bool (leb held.number number)) [
      | inl e ↦ rw e (omega (arith, within_times number block dirty))
      | inr e ↦ rw e (omega (arith, within_times number block dirty))
    ]

split_bytes : (number block : ℕ) (dirty : List DirtyBlock) → times_in block (map as_clean dirty) ≤ 1
    → clean_bytes block (map as_clean (within_number number dirty) ++ map as_clean (above_number number dirty)) ≡ clean_bytes block (map as_clean dirty)
split_bytes number block [] once = refl
split_bytes number block (held ∷ dirty) once =
    elim (cases_lt number held.number) [
      | inl above ↦
          rw (lt-leb held.number number above, lt-ltb number held.number above)
          (clean_bytes-append block (map as_clean (within_number number dirty)) (as_clean held ∷ map as_clean (above_number number dirty))
          ∙ elim (cases_Bool (eqb held.block block)) [
            | inl e ↦
                let here : times_in block (map as_clean (held ∷ dirty)) ≡ 1 + times_in block (map as_clean dirty) = rw e refl in
                rw (none_in block (map as_clean (within_number number dirty)) (omega (arith, within_times number block dirty, here, once)), e) refl
            | inr e ↦
                rw e (sym (clean_bytes-append block (map as_clean (within_number number dirty)) (map as_clean (above_number number dirty)))
                ∙ split_bytes number block dirty (omega (arith, once)))
          ])
      | inr low ↦
          rw (le-leb held.number number low, le-ltb number held.number low)
          (ap (λ (tail : Option (List ℕ)). if held.block == block then Some held.bytes else tail) (split_bytes number block dirty (omega (arith, once))))
    ]

pub cleaned_bytes : (number block : ℕ) (s : BlocksState) → IsOnce s → bytes_of block (cleaned number s) ≡ bytes_of block s
cleaned_bytes number block s is =
    let once = is.once block in
    bytes_of-all block (cleaned number s)
    ∙ ap (clean_bytes block) (append_assoc s.clean (map as_clean (within_number number s.dirty)) (map as_clean (above_number number s.dirty)))
    ∙ clean_bytes-append block s.clean (map as_clean (within_number number s.dirty) ++ map as_clean (above_number number s.dirty))
    ∙ ap (option_or (clean_bytes block s.clean)) (split_bytes number block s.dirty (omega (arith, once, times_in-append block s.clean (map as_clean s.dirty))))
    ∙ sym (clean_bytes-append block s.clean (map as_clean s.dirty))
    ∙ sym (bytes_of-all block s)

pub cleaned_dirty : (number block : ℕ) (dirty : List DirtyBlock)
    → list_any (λ (h : DirtyBlock). h.block == block) (above_number number dirty) ≡ list_any (λ (h : DirtyBlock). (h.block == block) && ltb number h.number) dirty
cleaned_dirty number block [] = refl
cleaned_dirty number block (held ∷ dirty) =
    let rest = cleaned_dirty number block dirty in
    elim (cases_Bool (ltb number held.number)) [
      | inl e ↦ elim (cases_Bool (eqb held.block block)) [ inl is ↦ rw (e, is) refl | inr other ↦ rw (e, other) rest ]
      | inr e ↦ elim (cases_Bool (eqb held.block block)) [ inl is ↦ rw (e, is) rest | inr other ↦ rw (e, other) rest ]
    ]

-- what is seen of a block whose state stays
seen_or_lost : (kind : Kind) (now was : Option (List ℕ)) → now ≡ None → (bytes_for kind now ≡ bytes_for kind was) ⊎ (bytes_for kind now ≡ None)
seen_or_lost Data now was none = inr none
seen_or_lost Zero now was none = inl refl
seen_or_lost Hole now was none = inl refl

keeps_seen : (count : ℕ) (old new : CacheState) (block : ℕ) → state_at new.states block ≡ state_at old.states block → Keeps count old.blocks new.blocks block → KeepsBytes count old new block
keeps_seen count old new block same keeps =
    let state = ap (λ (kind : Kind). bytes_for kind (bytes_of block new.blocks)) same in
    elim keeps [
      | inl kept ↦ inl (state ∙ ap (bytes_for (state_at old.states block)) kept)
      | inr lost ↦ elim (seen_or_lost (state_at old.states block) (bytes_of block new.blocks) (bytes_of block old.blocks) lost.2) [
        | inl alike ↦ inl (state ∙ alike)
        | inr none ↦ inr (lost.0, lost.1, state ∙ none)
      ]
    ]

data_seen : (cache : CacheState) (block : ℕ) → state_at cache.states block ≡ Data → bytes_seen cache block ≡ bytes_of block cache.blocks
data_seen cache block is = ap (λ (kind : Kind). bytes_for kind (bytes_of block cache.blocks)) is

pub zero_seen : (cache : CacheState) (block : ℕ) (kind : Kind) → kind ≢ Data → state_at cache.states block ≡ kind → bytes_seen cache block ≡ Some (replicate 4096 0)
zero_seen cache block Data other is = absurd (other refl)
zero_seen cache block Zero other is = ap (λ (kind : Kind). bytes_for kind (bytes_of block cache.blocks)) is
zero_seen cache block Hole other is = ap (λ (kind : Kind). bytes_for kind (bytes_of block cache.blocks)) is

-- a block's bytes aren't in memory exactly where it is data and no frame holds it
pub seen_missing : (cache : CacheState) (block : ℕ) → state_at cache.states block ≡ Data → is_cached block cache.blocks ≡ false → bytes_seen cache block ≡ None
seen_missing cache block is missing =
    data_seen cache block is ∙ bytes_of-all block cache.blocks ∙ none_in block (all_held cache.blocks) (absent_all block cache.blocks missing)

pub missing_seen : (cache : CacheState) (block : ℕ) → bytes_seen cache block ≡ None → (state_at cache.states block ≡ Data) × (is_cached block cache.blocks ≡ false)
missing_seen cache block none =
    let both = no_bytes (state_at cache.states block) (bytes_of block cache.blocks) none in
    (both.0, not_held block cache.blocks (unseen block (all_held cache.blocks) (sym (bytes_of-all block cache.blocks) ∙ both.1)))
  where
    no_bytes : (kind : Kind) (held : Option (List ℕ)) → bytes_for kind held ≡ None → (kind ≡ Data) × (held ≡ None)
    no_bytes Data held none = (refl, none)
    no_bytes Zero held none = cc
    no_bytes Hole held none = cc

    unseen : (block : ℕ) (list : List CleanBlock) → clean_bytes block list ≡ None → times_in block list ≡ 0
    unseen block [] none = refl
    unseen block (held ∷ list) none =
        elim (cases_Bool (eqb held.block block)) [
          | inl e ↦ absurd (let there : clean_bytes block (held ∷ list) ≡ Some held.bytes = rw e refl in some_none held.bytes (sym there ∙ none))
          | inr e ↦ rw e (omega (arith, unseen block list (rw e at none)))
        ]
      where
        some_none : (bytes : List ℕ) → Some bytes ≡ None → ⊥
        some_none bytes e = cc

-- the state of a block after a range that was set
set_in : (old : CacheState) (new : List Kind) (first count : ℕ) (kind : Kind) → first + count ≤ length old.states → new ≡ patched old.states first (replicate count kind)
    → (block : ℕ) → state_at new block ≡ (if covers first count block then kind else state_at old.states block)
set_in old new first count kind inside is block =
    ap (λ (states : List Kind). state_at states block) is ∙ filled_at old.states first count kind Hole inside block

pub shows_put : (number first : ℕ) (blocks : List (List ℕ)) (old new : CacheState) → IsOnce old.blocks → first + length blocks ≤ length old.states
    → new ≡ record { states = patched old.states first (replicate (length blocks) Data); blocks = with_puts number first blocks old.blocks }
    → ShowsPut first blocks old new
shows_put number first blocks old new once inside is =
    let set = set_in old new.states first (length blocks) Data inside (ap (λ (cache : CacheState). cache.states) is) in
    let held : new.blocks ≡ with_puts number first blocks old.blocks = ap (λ (cache : CacheState). cache.blocks) is in
    record {
      states = set;
      written = λ k d below.
          data_seen new (first + k) (set (first + k) ∙ rw (covers_true first (length blocks) (first + k) (omega arith) (omega arith)) refl)
          ∙ ap (λ (s : BlocksState). bytes_of (first + k) s) held
          ∙ puts_own number first blocks old.blocks once k d below;
      others = λ block beyond.
          let P : BlocksState → Type 0 = λ s. Keeps (length blocks) old.blocks s block in
          keeps_seen (length blocks) old new block (set block ∙ rw beyond refl) (subst P (sym held) (puts_others number first blocks old.blocks once block beyond));
      dirty = λ block. ap (is_dirty block) held ∙ puts_dirty number first blocks old.blocks block;
    }

pub shows_clear : (first count : ℕ) (kind : Kind) (old new : CacheState) → kind ≢ Data → first + count ≤ length old.states
    → new ≡ record { states = patched old.states first (replicate count kind); blocks = without (covers first count) old.blocks }
    → ShowsClear first count kind old new
shows_clear first count kind old new other inside is =
    let set = set_in old new.states first count kind inside (ap (λ (cache : CacheState). cache.states) is) in
    let held : new.blocks ≡ without (covers first count) old.blocks = ap (λ (cache : CacheState). cache.blocks) is in
    record {
      states = set;
      zero_bytes = λ block covered. zero_seen new block kind other (set block ∙ rw covered refl);
      no_frame = λ block covered.
          ap (is_cached block) held
          ∙ not_held block (without (covers first count) old.blocks)
          (ap (times_in block) (all_held-without (covers first count) old.blocks) ∙ out_none (covers first count) block (all_held old.blocks) covered);
      others = λ block beyond.
          ap (λ (state : Kind). bytes_for state (bytes_of block new.blocks)) (set block ∙ rw beyond refl)
          ∙ ap (bytes_for (state_at old.states block)) (ap (bytes_of block) held ∙ without_bytes (covers first count) block old.blocks beyond);
      dirty = λ block beyond. ap (is_dirty block) held ∙ out_dirty (covers first count) block old.blocks.dirty beyond;
    }

pub shows_fill : (block : ℕ) (bytes : List ℕ) (old new : CacheState) → IsOnce old.blocks → state_at old.states block ≡ Data
    → new ≡ record { states = old.states; blocks = with_fill block bytes old.blocks }
    → ShowsFill block bytes old new
shows_fill block bytes old new once state is =
    elim (cases_Bool (is_cached block old.blocks)) [
      | inl held ↦ subst (λ (cache : CacheState). ShowsFill block bytes old cache) (sym (is ∙ hit held)) record {
        states = refl;
        filled = rw held refl;
        others = λ other ne. inl refl;
        dirty = λ other. refl;
      }
      | inr missing ↦
          let states : new.states ≡ old.states = ap (λ (cache : CacheState). cache.states) is in
          let held : new.blocks ≡ with_fill block bytes old.blocks = ap (λ (cache : CacheState). cache.blocks) is in
          record {
            states = states;
            filled =
                data_seen new block (ap (λ (kinds : List Kind). state_at kinds block) states ∙ state)
                ∙ ap (bytes_of block) held ∙ fill_own block bytes old.blocks missing ∙ rw missing refl;
            others = λ other ne.
                let P : BlocksState → Type 0 = λ s. Keeps 1 old.blocks s other in
                keeps_seen 1 old new other (ap (λ (kinds : List Kind). state_at kinds other) states) (subst P (sym held) (fill_other block bytes old.blocks once missing other ne));
            dirty = λ other. ap (is_dirty other) held ∙ rw missing refl;
          }
    ]
  where
    hit : is_cached block old.blocks ≡ true → (let now : CacheState = record { states = old.states; blocks = with_fill block bytes old.blocks } in now) ≡ old
    hit held = ap (λ (s : BlocksState). let now : CacheState = record { states = old.states; blocks = s } in now) (rw held refl)

pub shows_clean : (number : ℕ) (old new : CacheState) → IsOnce old.blocks → new ≡ record { states = old.states; blocks = cleaned number old.blocks } → ShowsClean number old new
shows_clean number old new once is =
    let states : new.states ≡ old.states = ap (λ (cache : CacheState). cache.states) is in
    let held : new.blocks ≡ cleaned number old.blocks = ap (λ (cache : CacheState). cache.blocks) is in
    record {
      states = states;
      bytes = λ block.
          ap (λ (kinds : List Kind). bytes_for (state_at kinds block) (bytes_of block new.blocks)) states
          ∙ ap (bytes_for (state_at old.states block)) (ap (bytes_of block) held ∙ cleaned_bytes number block old.blocks once);
      dirty = λ block. ap (is_dirty block) held ∙ cleaned_dirty number block old.blocks.dirty;
    }

-- the blocks that a cache shows are each held once
pub once_seen : (held : CachedState) (blocks : BlocksState) → IsHeld held → blocks_of held.pool held.blocks ≡ blocks → IsOnce blocks
once_seen held blocks is same = subst (λ (s : BlocksState). IsOnce s) same (held_once held is)
