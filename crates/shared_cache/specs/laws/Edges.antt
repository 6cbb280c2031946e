-- a range that is cleared between its edges, which are written
use Rattle.std.proofs.Common.{◌≡◌, ◌≢◌, ◌<◌, ◌≤◌, ◌+◌, ◌-◌, ◌&&◌, ◌||◌, ◌⊎◌, inl, inr, ℕ, zero, suc, Bool, true, false, not, if◌then◌else◌, List, [], ◌∷◌, length, map, replicate, get_or, Some, refl, ap, ◌∙◌, sym, subst, arith}
use Rattle.std.proofs.lemmas.Bool.{cases_Bool, cases_lt, le-leb, le-ltb, lt-leb, ne_eqb}
use Rattle.std.proofs.lemmas.Bool.Decides.{nat_tests}
use Rattle.std.proofs.lemmas.List.{length-replicate}
use Rattle.alloc_map.specs.Codes.{state_at}
use Rattle.image_model.specs.declared.command.Kind.{Kind}
use Rattle.image_model.specs.declared.command.Kind.TheVariants.{Data}
use Rattle.image_model.specs.Image.{covers}
use Rattle.image_model.specs.laws.Positions.{length-patched}
use Rattle.shared_cache.specs.Blocks.{BlocksState, IsOnce, available_frames, count_missing, edges_missing, is_dirty, is_cached, with_put, with_puts, without}
use Rattle.shared_cache.specs.Cache.{CacheState, bytes_seen, with_cleared, with_edges, with_written}
use Rattle.shared_cache.specs.View.{KeepsBytes, ShowsEdges, ShowsClear, ShowsPut, is_edge}
use Rattle.shared_cache.specs.laws.Once.{absent_all, all_held, all_held-without, as_clean, dirty_none, not_held, out_dirty, out_none, out_times, times_in, times_in-append}
use Rattle.shared_cache.specs.laws.Ranges.{at_hand_put, clean_le, count_put, covers_true, outside_le}
use Rattle.shared_cache.specs.laws.Views.{base_of, base_times, held_put, left_of, left_times, put_once, shows_clear, shows_put, true_false, zero_seen}

-- a block before a range or after it
before : (first count block : ℕ) → block < first → covers first count block ≡ false
before first count block below = rw (lt-leb first block below) refl

after : (first count block : ℕ) → first + count ≤ block → covers first count block ≡ false
after first count block above = rw (le-leb first block (omega (arith, above)), le-ltb block (first + count) above) refl

-- blocks let go of elsewhere aren't missed, and leave as many frames at hand
pub count_without : (inside : ℕ → Bool) (first count : ℕ) (s : BlocksState) → ((block : ℕ) → first ≤ block → block < first + count → inside block ≡ false)
    → count_missing first count (without inside s) ≡ count_missing first count s
count_without inside first zero s apart = refl
count_without inside first (suc count) s apart =
    rw (out_dirty inside first s.dirty (apart first (omega arith) (omega arith)))
    (ap (λ (n : ℕ). (if is_dirty first s then 0 else 1) + n) (count_without inside (first + 1) count s (λ block above below. apart block (omega (arith, above)) (omega (arith, below)))))

pub hand_without : (inside : ℕ → Bool) (s : BlocksState) → available_frames s ≤ available_frames (without inside s)
hand_without inside s = omega (arith, clean_le inside s.clean, outside_le inside s.dirty)

-- puts before a range change none of its count, and take no more frames than blocks of theirs were missing
pub count_puts : (number first : ℕ) (blocks : List (List ℕ)) (from count : ℕ) (s : BlocksState) → first + length blocks ≤ from
    → count_missing from count (with_puts number first blocks s) ≡ count_missing from count s
count_puts number first [] from count s before = refl
count_puts number first (bytes ∷ blocks) from count s before =
    count_puts number (first + 1) blocks from count (with_put number first bytes s) (omega (arith, before))
    ∙ count_put number first from count bytes s (omega (arith, before))

pub hand_puts : (number first : ℕ) (blocks : List (List ℕ)) (s : BlocksState)
    → available_frames s ≤ available_frames (with_puts number first blocks s) + count_missing first (length blocks) s
hand_puts number first [] s = omega arith
hand_puts number first (bytes ∷ blocks) s =
    omega (arith, at_hand_put number first bytes s, hand_puts number (first + 1) blocks (with_put number first bytes s), count_put number first (first + 1) (length blocks) bytes s (omega arith))

-- the edges find frames: those of the head once what lies between is let go, and those of the tail after those of the head
pub room_at_head : (first count head tail : ℕ) (s mid : BlocksState) → head + tail ≤ count → edges_missing first count head tail s ≤ available_frames s
    → mid ≡ without (covers (first + head) (first + count - tail - (first + head))) s → count_missing first head mid ≤ available_frames mid
room_at_head first count head tail s mid fits room is =
    let inside = covers (first + head) (first + count - tail - (first + head)) in
    rw is (omega (arith, room, hand_without inside s, count_without inside first head s (λ block above below. before (first + head) (first + count - tail - (first + head)) block below)))

pub room_at_tail : (number first count tail : ℕ) (head : List (List ℕ)) (s mid last : BlocksState) → length head + tail ≤ count
    → edges_missing first count (length head) tail s ≤ available_frames s
    → mid ≡ without (covers (first + length head) (first + count - tail - (first + length head))) s → last ≡ with_puts number first head mid
    → count_missing (first + count - tail) tail last ≤ available_frames last
room_at_tail number first count tail head s mid last fits room is put =
    let inside = covers (first + length head) (first + count - tail - (first + length head)) in
    let behind = first + count - tail in
    let at_head = ap (count_missing first (length head)) is ∙ count_without inside first (length head) s (λ block above below. before (first + length head) (behind - (first + length head)) block below) in
    let at_tail = ap (count_missing behind tail) is ∙ count_without inside behind tail s (λ block above below. after (first + length head) (behind - (first + length head)) block (omega (arith, above, fits))) in
    let hand : available_frames s ≤ available_frames mid = rw is (hand_without inside s) in
    rw put (omega (arith, room, at_head, at_tail, hand, hand_puts number first head mid, count_puts number first head behind tail mid (omega (arith, fits))))

-- each block is held once still
without_once : (inside : ℕ → Bool) (s : BlocksState) → IsOnce s → IsOnce (without inside s)
without_once inside s is = record {
  once = λ block.
      let left = ap (times_in block) (all_held-without inside s) in
      let once = is.once block in
      elim (cases_Bool (inside block)) [
        | inl e ↦ omega (arith, left, out_none inside block (all_held s) e)
        | inr e ↦ omega (arith, left, out_times inside block (all_held s) e, once)
      ];
}

puts_once : (number first : ℕ) (blocks : List (List ℕ)) (s : BlocksState) → IsOnce s → IsOnce (with_puts number first blocks s)
puts_once number first [] s is = is
puts_once number first (bytes ∷ blocks) s is = puts_once number (first + 1) blocks (with_put number first bytes s) (put_once number first bytes s is)

-- puts hold no other block
put_gone : (number block other : ℕ) (bytes : List ℕ) (s : BlocksState) → other ≢ block → times_in other (all_held s) ≡ 0 → times_in other (all_held (with_put number block bytes s)) ≡ 0
put_gone number block other bytes s ne none =
    let left = left_of block s in
    let now : times_in other (all_held (with_put number block bytes s)) ≡ times_in other (base_of left) + times_in other (record { block = block; bytes = bytes } ∷ []) =
    ap (times_in other) (held_put number block bytes s) ∙ times_in-append other (base_of left) (record { block = block; bytes = bytes } ∷ []) in
    let away : times_in other (record { block = block; bytes = bytes } ∷ []) ≡ 0 = rw (ne_eqb block other (λ e. ne (sym e))) refl in
    let same = left_times block other s ne in
    let taken = base_times other left (omega (arith, same, none)) in
    omega (arith, now, away, same, taken, none)

puts_gone : (number first : ℕ) (blocks : List (List ℕ)) (s : BlocksState) (other : ℕ) → covers first (length blocks) other ≡ false
    → times_in other (all_held s) ≡ 0 → times_in other (all_held (with_puts number first blocks s)) ≡ 0
puts_gone number first [] s other beyond none = none
puts_gone number first (bytes ∷ blocks) s other beyond none =
    puts_gone number (first + 1) blocks (with_put number first bytes s) other (rest first (length blocks) other beyond)
    (put_gone number first other bytes s (λ e. absurd (here first (length blocks) other beyond e)) none)
  where
    rest : (first count other : ℕ) → covers first (suc count) other ≡ false → covers (first + 1) count other ≡ false
    rest first count other beyond = grind (arith, nat_tests)

    here : (first count other : ℕ) → covers first (suc count) other ≡ false → other ≡ first → ⊥
    here first count other beyond e = grind (arith, nat_tests)

-- puts take no more free frames than they have blocks
puts_free : (number first : ℕ) (blocks : List (List ℕ)) (s : BlocksState) → s.free ≤ (with_puts number first blocks s).free + length blocks
puts_free number first [] s = omega arith
puts_free number first (bytes ∷ blocks) s = omega (arith, puts_free number (first + 1) blocks (with_put number first bytes s))

-- where a block lies: whether it is one of the head, of those between, of the tail, and of the range
pub record Place (first count head tail block : ℕ) (at_head between at_tail inside : Bool) : Type 0 where
  pub is_head : covers first head block ≡ at_head
  pub is_between : covers (first + head) (first + count - tail - (first + head)) block ≡ between
  pub is_tail : covers (first + count - tail) tail block ≡ at_tail
  pub is_inside : covers first count block ≡ inside

pub place_of : (first count head tail block : ℕ) → head + tail ≤ count
    → (Place first count head tail block true false false true ⊎ Place first count head tail block false true false true)
    ⊎ (Place first count head tail block false false true true ⊎ Place first count head tail block false false false false)
place_of first count head tail block fits =
    let behind = first + count - tail in
    let middle = behind - (first + head) in
    elim (cases_lt block first) [
      | inl l ↦ inr (inr (record {
        is_head = before first head block l;
        is_between = before (first + head) middle block (omega (arith, l));
        is_tail = before behind tail block (omega (arith, l, fits));
        is_inside = before first count block l;
      }))
      | inr from ↦ elim (cases_lt block (first + head)) [
        | inl l ↦ inl (inl (record {
          is_head = covers_true first head block from l;
          is_between = before (first + head) middle block l;
          is_tail = before behind tail block (omega (arith, l, fits));
          is_inside = covers_true first count block from (omega (arith, l, fits));
        }))
        | inr past ↦ elim (cases_lt block behind) [
          | inl l ↦ inl (inr (record {
            is_head = after first head block past;
            is_between = covers_true (first + head) middle block past (omega (arith, l, past));
            is_tail = before behind tail block l;
            is_inside = covers_true first count block from (omega (arith, l));
          }))
          | inr beyond ↦ elim (cases_lt block (first + count)) [
            | inl l ↦ inr (inl (record {
              is_head = after first head block past;
              is_between = after (first + head) middle block (omega (arith, beyond, fits));
              is_tail = covers_true behind tail block beyond (omega (arith, l, fits));
              is_inside = covers_true first count block from l;
            }))
            | inr out ↦ inr (inr (record {
              is_head = after first head block past;
              is_between = after (first + head) middle block (omega (arith, beyond, fits));
              is_tail = after behind tail block (omega (arith, out, fits));
              is_inside = after first count block out;
            }))
          ]
        ]
      ]
    ]

module _ (number first count : ℕ) (kind : Kind) (head tail : List (List ℕ)) (old : CacheState) (once : IsOnce old.blocks) (other : kind ≢ Data)
    (inside : first + count ≤ length old.states) (fits : length head + length tail ≤ count) where
  abbrev behind : ℕ
  behind = first + count - length tail

  abbrev middle : ℕ
  middle = behind - (first + length head)

  abbrev cleared : CacheState
  cleared = with_cleared (first + length head) middle kind old

  abbrev headed : CacheState
  headed = with_written number first head cleared

  abbrev last : CacheState
  last = with_written number behind tail headed

  once_cleared : IsOnce cleared.blocks
  once_cleared = without_once (covers (first + length head) middle) old.blocks once

  cleared_size : length cleared.states ≡ length old.states
  cleared_size = length-patched old.states (first + length head) (replicate middle kind) (omega (arith, length-replicate middle kind, inside, fits))

  headed_size : length headed.states ≡ length old.states
  headed_size = length-patched cleared.states first (replicate (length head) Data) (omega (arith, length-replicate (length head) Data, cleared_size, inside, fits)) ∙ cleared_size

  shows_cleared : ShowsClear (first + length head) middle kind old cleared
  shows_cleared = shows_clear (first + length head) middle kind old cleared other (omega (arith, inside, fits)) refl

  shows_headed : ShowsPut first head cleared headed
  shows_headed = shows_put number first head cleared headed once_cleared (omega (arith, cleared_size, inside, fits)) refl

  shows_last : ShowsPut behind tail headed last
  shows_last = shows_put number behind tail headed last (puts_once number first head cleared.blocks once_cleared) (omega (arith, headed_size, inside, fits)) refl

  states_of : (block : ℕ) → state_at last.states block
      ≡ (if covers behind (length tail) block then Data else (if covers first (length head) block then Data
      else (if covers (first + length head) middle block then kind else state_at old.states block)))
  states_of block =
      shows_last.states block
      ∙ ap (λ (state : Kind). if covers behind (length tail) block then Data else state)
      (shows_headed.states block ∙ ap (λ (state : Kind). if covers first (length head) block then Data else state) (shows_cleared.states block))

  edge_states : (block : ℕ) → state_at last.states block
      ≡ (if is_edge first count (length head) (length tail) block then Data else (if covers first count block then kind else state_at old.states block))
  edge_states block =
      states_of block
      ∙ elim (place_of first count (length head) (length tail) block fits) [
        | inl p ↦ elim p [
          | inl at ↦ rw (at.is_tail, at.is_head) refl
          | inr at ↦ rw (at.is_tail, at.is_head, at.is_between, at.is_inside) refl
        ]
        | inr p ↦ elim p [
          | inl at ↦ rw (at.is_tail, at.is_head) refl
          | inr at ↦ rw (at.is_tail, at.is_head, at.is_between, at.is_inside) refl
        ]
      ]

  -- a block outside the head keeps its bytes after it, and one outside the tail
  written_stays : (block : ℕ) (bytes : List ℕ) → covers behind (length tail) block ≡ false → is_dirty block headed.blocks ≡ true
      → bytes_seen headed block ≡ Some bytes → bytes_seen last block ≡ Some bytes
  written_stays block bytes beyond dirty seen =
      elim (shows_last.others block beyond) [
        | inl kept ↦ kept ∙ seen
        | inr lost ↦ absurd (true_false (sym dirty ∙ lost.0))
      ]

  head_seen : (k : ℕ) (d : List ℕ) → k < length head → bytes_seen last (first + k) ≡ Some (get_or head k d)
  head_seen k d below =
      written_stays (first + k) (get_or head k d) (before behind (length tail) (first + k) (omega (arith, below, fits)))
      (shows_headed.dirty (first + k) ∙ rw (covers_true first (length head) (first + k) (omega arith) (omega (arith, below))) refl)
      (shows_headed.written k d below)

  between_seen : (block : ℕ) → covers first count block ≡ true → is_edge first count (length head) (length tail) block ≡ false
      → (bytes_seen last block ≡ Some (replicate 4096 0)) × (is_cached block last.blocks ≡ false)
  between_seen block within no_edge =
      elim (place_of first count (length head) (length tail) block fits) [
        | inl p ↦ elim p [
          | inl at ↦ absurd (true_false (rw at.is_head at no_edge))
          | inr at ↦ (
            zero_seen last block kind other (edge_states block ∙ rw (no_edge, within) refl),
            not_held block last.blocks
                (puts_gone number behind tail headed.blocks block at.is_tail
                (puts_gone number first head cleared.blocks block at.is_head (absent_all block cleared.blocks (shows_cleared.no_frame block at.is_between)))),
          )
        ]
        | inr p ↦ elim p [
          | inl at ↦ absurd (true_false (rw (at.is_head, at.is_tail) at no_edge))
          | inr at ↦ absurd (true_false (sym within ∙ at.is_inside))
        ]
      ]

  dirty_of : (block : ℕ) → is_dirty block last.blocks ≡ (covers behind (length tail) block || (covers first (length head) block || is_dirty block cleared.blocks))
  dirty_of block = shows_last.dirty block ∙ ap (λ (t : Bool). covers behind (length tail) block || t) (shows_headed.dirty block)

  edge_dirty : (block : ℕ) → is_dirty block last.blocks
      ≡ (is_edge first count (length head) (length tail) block || (not (covers first count block) && is_dirty block old.blocks))
  edge_dirty block =
      dirty_of block
      ∙ elim (place_of first count (length head) (length tail) block fits) [
        | inl p ↦ elim p [
          | inl at ↦ rw (at.is_tail, at.is_head) refl
          | inr at ↦ rw (at.is_tail, at.is_head, at.is_inside) (dirty_none block cleared.blocks.dirty (gone block (shows_cleared.no_frame block at.is_between)))
        ]
        | inr p ↦ elim p [
          | inl at ↦ rw (at.is_tail, at.is_head) refl
          | inr at ↦ rw (at.is_tail, at.is_head, at.is_inside) (shows_cleared.dirty block at.is_between)
        ]
      ]
    where
      gone : (block : ℕ) → is_cached block cleared.blocks ≡ false → times_in block (map as_clean cleared.blocks.dirty) ≡ 0
      gone block none = omega (arith, absent_all block cleared.blocks none, times_in-append block cleared.blocks.clean (map as_clean cleared.blocks.dirty))

  others_keep : (block : ℕ) → covers first count block ≡ false → KeepsBytes (length head + length tail) old last block
  others_keep block out =
      elim (place_of first count (length head) (length tail) block fits) [
        | inl p ↦ elim p [
          | inl at ↦ absurd (true_false (sym at.is_inside ∙ out))
          | inr at ↦ absurd (true_false (sym at.is_inside ∙ out))
        ]
        | inr p ↦ elim p [
          | inl at ↦ absurd (true_false (sym at.is_inside ∙ out))
          | inr at ↦ along block at.is_head at.is_tail (shows_cleared.others block at.is_between) (shows_cleared.dirty block at.is_between)
        ]
      ]
    where
      along : (block : ℕ) → covers first (length head) block ≡ false → covers behind (length tail) block ≡ false
          → bytes_seen cleared block ≡ bytes_seen old block → is_dirty block cleared.blocks ≡ is_dirty block old.blocks → KeepsBytes (length head + length tail) old last block
      along block no_head no_tail same dirty =
          let dirty_headed : is_dirty block headed.blocks ≡ is_dirty block old.blocks = shows_headed.dirty block ∙ rw no_head dirty in
          let more : old.blocks.free ≤ cleared.blocks.free = omega arith in
          let taken = puts_free number first head cleared.blocks in
          elim (shows_last.others block no_tail) [
            | inl kept ↦ elim (shows_headed.others block no_head) [
              | inl stays ↦ inl (kept ∙ stays ∙ same)
              | inr lost ↦ let few = lost.1 in inr (sym dirty ∙ lost.0, omega (arith, few, more), kept ∙ lost.2)
            ]
            | inr lost ↦ let few = lost.1 in inr (sym dirty_headed ∙ lost.0, omega (arith, few, more, taken), lost.2)
          ]

  pub shows_edges : (new : CacheState) → new ≡ with_edges number first count kind head tail old → ShowsEdges first count kind head tail old new
  shows_edges new is = subst (λ (cache : CacheState). ShowsEdges first count kind head tail old cache) (sym is) record {
    states = edge_states;
    at_head = head_seen;
    at_tail = shows_last.written;
    between = between_seen;
    others = others_keep;
    dirty = edge_dirty;
  }

-- as many states as before
pub length-with_edges : (number first count : ℕ) (kind : Kind) (head tail : List (List ℕ)) (old : CacheState) → first + count ≤ length old.states → length head + length tail ≤ count
    → length (with_edges number first count kind head tail old).states ≡ length old.states
length-with_edges number first count kind head tail old inside fits =
    let behind = first + count - length tail in
    let middle = behind - (first + length head) in
    let cleared = with_cleared (first + length head) middle kind old in
    let headed = with_written number first head cleared in
    let one = length-patched old.states (first + length head) (replicate middle kind) (omega (arith, length-replicate middle kind, inside, fits)) in
    let two = length-patched cleared.states first (replicate (length head) Data) (omega (arith, length-replicate (length head) Data, one, inside, fits)) in
    length-patched headed.states behind (replicate (length tail) Data) (omega (arith, length-replicate (length tail) Data, one, two, inside, fits)) ∙ two ∙ one
