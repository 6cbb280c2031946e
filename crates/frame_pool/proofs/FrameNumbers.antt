-- frames with the numbers that are kept for them
use Rattle.std.proofs.Common.{◌≡◌, ◌≢◌, ◌<◌, ◌≤◌, ◌+◌, ◌-◌, inl, inr, ℕ, Bool, true, false, not, List, [], ◌∷◌, length, get_or, map, set, refl, ap, ◌∙◌, sym, subst, arith, Option, None, Some, if◌then◌else◌, slice_get, is_some}
use Rattle.std.specs.List.{All}
use Rattle.std.specs.List.Sorted.{IsNonDecreasingBy}
use Rattle.std.proofs.lemmas.Bool.{cases_eq, eqb-false, not-true, lt-ltb}
use Rattle.std.proofs.lemmas.Bool.Decides.{eqb_tells}
use Rattle.std.proofs.lemmas.List.{get_or-set_same, get_or-set_other, length-set, length-map, get_or-map, map-set, map_push}
use Rattle.std.proofs.lemmas.List.Elements.{All-filter, filter_passes}
use Rattle.std.proofs.lemmas.List.Kept.{IsNonDecreasingBy-filter}
use Rattle.std.proofs.lemmas.List.Sorted.{IsNonDecreasingBy-push}
use Rattle.std.proofs.Math.Dec.{eqb, leb, ltb}
use Rattle.frame_pool.specs.declared.place.Place.{Place}
use Rattle.frame_pool.specs.declared.place.Place.TheVariants.{Free, Clean, Dirty}
use Rattle.frame_pool.specs.Frames.{shown}
use Rattle.frame_pool.specs.Linked.{LinkedState}
use Rattle.frame_pool.specs.Lists.{ListsState, total, times, without, moved}
use Rattle.frame_pool.specs.Numbers.{AreNumbered, kept_at, number_at, numbered, one_if_kept, pool_of}
use Rattle.frame_pool.specs.Pool.{DirtyFrame, PoolState, IsPool, frames_of, others, is_dirty, front_through, with_bytes, with_free, with_clean, with_dirty}
use Rattle.frame_pool.specs.laws.Times.{times-without_same, times-without_other, times_head, length-without}
use Rattle.frame_pool.proofs.FrameChangesList.{total-moved, HoldEach-moved, times-last_same, times-last_other, length-last}

pub frames_of-numbered : (numbers : List (Option ℕ)) (frames : List ℕ) → frames_of (numbered numbers frames) ≡ frames
frames_of-numbered numbers [] = refl
frames_of-numbered numbers (frame ∷ frames) = ap (λ (list : List ℕ). frame ∷ list) (frames_of-numbered numbers frames)

-- the numbers of other frames once one frame's was set
kept-set_other : (numbers : List (Option ℕ)) (frame other : ℕ) (number : Option ℕ) → other ≢ frame → kept_at (set numbers frame number) other ≡ kept_at numbers other
kept-set_other numbers frame other number ne = get_or-set_other numbers frame other number None ne

number-set_other : (numbers : List (Option ℕ)) (frame other : ℕ) (number : Option ℕ) → other ≢ frame → number_at (set numbers frame number) other ≡ number_at numbers other
number-set_other numbers frame other number ne = rw (kept-set_other numbers frame other number ne) refl

numbered-without : (numbers : List (Option ℕ)) (frame : ℕ) (number : Option ℕ) (frames : List ℕ)
    → numbered (set numbers frame number) (without frame frames) ≡ others frame (numbered numbers frames)
numbered-without numbers frame number [] = refl
numbered-without numbers frame number (other ∷ frames) =
    elim (eqb_tells other frame) [
      | inl p ↦ rw p.0 (numbered-without numbers frame number frames)
      | inr p ↦ rw (p.0, number-set_other numbers frame other number p.1)
          (ap (λ (list : List DirtyFrame). record { frame = other; number = number_at numbers other } ∷ list) (numbered-without numbers frame number frames))
    ]

-- the pool with the frame at the back of a list
pub pool-free : (lists : ListsState) (numbers : List (Option ℕ)) (bytes : List (List ℕ)) (frame : ℕ)
    → pool_of (moved lists frame Free) (set numbers frame None) bytes ≡ with_free frame (pool_of lists numbers bytes)
pool-free lists numbers bytes frame = rw (numbered-without numbers frame None lists.dirty) refl

pub pool-clean : (lists : ListsState) (numbers : List (Option ℕ)) (bytes : List (List ℕ)) (frame : ℕ)
    → pool_of (moved lists frame Clean) (set numbers frame None) bytes ≡ with_clean frame (pool_of lists numbers bytes)
pool-clean lists numbers bytes frame = rw (numbered-without numbers frame None lists.dirty) refl

pub pool-dirty : (lists : ListsState) (numbers : List (Option ℕ)) (bytes : List (List ℕ)) (frame number : ℕ) → frame < length numbers
    → pool_of (moved lists frame Dirty) (set numbers frame (Some number)) bytes ≡ with_dirty frame number (pool_of lists numbers bytes)
pool-dirty lists numbers bytes frame number below =
    let pushed = map_push (λ (f : ℕ). let held : DirtyFrame = record { frame = f; number = number_at (set numbers frame (Some number)) f } in held) (without frame lists.dirty) frame in
    let kept : kept_at (set numbers frame (Some number)) frame ≡ Some number = get_or-set_same numbers frame (Some number) None below in
    rw (pushed, kept, numbered-without numbers frame (Some number) lists.dirty) refl

-- the number that is kept for a frame in a list
abbrev pub number_for : Place → ℕ → Option ℕ
number_for Free number = None
number_for Clean number = None
number_for Dirty number = Some number

-- no dirty frame has a larger number than one that gets this one
abbrev pub IsLast : Place → ℕ → List (Option ℕ) → List ℕ → Type 0
IsLast Free number numbers dirty = Unit {0}
IsLast Clean number numbers dirty = Unit {0}
IsLast Dirty number numbers dirty = All (λ frame. number_at numbers frame ≤ number) dirty

-- the dirty frames once a frame was moved
abbrev dirty_after : ListsState → ℕ → Place → List ℕ
dirty_after lists frame place = (moved lists frame place).dirty

kept_out : (numbers : List (Option ℕ)) (frame : ℕ) (dirty : List ℕ) → frame < length numbers
    → ((other : ℕ) → times other dirty ≡ one_if_kept (kept_at numbers other))
    → (other : ℕ) → times other (without frame dirty) ≡ one_if_kept (kept_at (set numbers frame None) other)
kept_out numbers frame dirty below kept other =
    elim (cases_eq other frame) [
      | inl e ↦ rw e (times-without_same frame dirty ∙ ap one_if_kept (sym (get_or-set_same numbers frame None None below)))
      | inr ne ↦ times-without_other frame other dirty ne ∙ kept other ∙ ap one_if_kept (sym (kept-set_other numbers frame other None ne))
    ]

kept-moved : (lists : ListsState) (numbers : List (Option ℕ)) (frame : ℕ) (place : Place) (number : ℕ) → frame < length numbers
    → ((other : ℕ) → times other lists.dirty ≡ one_if_kept (kept_at numbers other))
    → (other : ℕ) → times other (dirty_after lists frame place) ≡ one_if_kept (kept_at (set numbers frame (number_for place number)) other)
kept-moved lists numbers frame Free number below kept other = kept_out numbers frame lists.dirty below kept other
kept-moved lists numbers frame Clean number below kept other = kept_out numbers frame lists.dirty below kept other
kept-moved lists numbers frame Dirty number below kept other =
    elim (cases_eq other frame) [
      | inl e ↦ rw e (times-last_same frame lists.dirty ∙ ap one_if_kept (sym (get_or-set_same numbers frame (Some number) None below)))
      | inr ne ↦ times-last_other frame other lists.dirty ne ∙ kept other ∙ ap one_if_kept (sym (kept-set_other numbers frame other (Some number) ne))
    ]

-- what stands in a list without a frame is another one
other_inside : (frame : ℕ) (xs : List ℕ) (i d : ℕ) → i < length (without frame xs) → get_or (without frame xs) i d ≢ frame
other_inside frame xs i d below = eqb-false _ _ (not-true _ (filter_passes (λ other. not (eqb other frame)) xs i d below))

order_kept : (numbers : List (Option ℕ)) (frame : ℕ) (number : Option ℕ) (dirty : List ℕ)
    → IsNonDecreasingBy (number_at numbers) dirty → IsNonDecreasingBy (number_at (set numbers frame number)) (without frame dirty)
order_kept numbers frame number dirty order i j d le below =
    let short : i < length (without frame dirty) = omega arith in
    let first = number-set_other numbers frame (get_or (without frame dirty) i d) number (other_inside frame dirty i d short) in
    let second = number-set_other numbers frame (get_or (without frame dirty) j d) number (other_inside frame dirty j d below) in
    let apart = IsNonDecreasingBy-filter (number_at numbers) (λ other. not (eqb other frame)) dirty order i j d le below in
    omega (arith, first, second, apart)

order-moved : (lists : ListsState) (numbers : List (Option ℕ)) (frame : ℕ) (place : Place) (number : ℕ) → frame < length numbers
    → IsLast place number numbers lists.dirty → IsNonDecreasingBy (number_at numbers) lists.dirty
    → IsNonDecreasingBy (number_at (set numbers frame (number_for place number))) (dirty_after lists frame place)
order-moved lists numbers frame Free number below last order = order_kept numbers frame None lists.dirty order
order-moved lists numbers frame Clean number below last order = order_kept numbers frame None lists.dirty order
order-moved lists numbers frame Dirty number below last order =
    let rest = without frame lists.dirty in
    let mine : number_at (set numbers frame (Some number)) frame ≡ number = rw (get_or-set_same numbers frame (Some number) None below) refl in
    IsNonDecreasingBy-push (number_at (set numbers frame (Some number))) rest frame (order_kept numbers frame (Some number) lists.dirty order)
    (λ d some.
    let short : length rest - 1 < length rest = omega arith in
    let theirs = number-set_other numbers frame (get_or rest (length rest - 1) d) (Some number) (other_inside frame lists.dirty (length rest - 1) d short) in
    let least = All-filter (λ other. not (eqb other frame)) (λ other. number_at numbers other ≤ number) lists.dirty last (length rest - 1) d short in
    omega (arith, mine, theirs, least))

count-moved : (lists : ListsState) (frame : ℕ) (place : Place) (number : ℕ)
    → length (dirty_after lists frame place) + times frame lists.dirty ≡ length lists.dirty + one_if_kept (number_for place number)
count-moved lists frame Free number = omega (arith, length-without frame lists.dirty)
count-moved lists frame Clean number = omega (arith, length-without frame lists.dirty)
count-moved lists frame Dirty number = length-last frame lists.dirty

-- a frame moved to a list, with the number that is kept for it there
pub AreNumbered-moved : (frames frame : ℕ) (place : Place) (number : ℕ) (lists : ListsState) (numbers : List (Option ℕ)) (dirty dirty' : ℕ)
    → AreNumbered frames lists numbers dirty → frame < frames → IsLast place number numbers lists.dirty
    → dirty' + one_if_kept (kept_at numbers frame) ≡ dirty + one_if_kept (number_for place number)
    → AreNumbered frames (moved lists frame place) (set numbers frame (number_for place number)) dirty'
AreNumbered-moved frames frame place number lists numbers dirty dirty' are below last counted =
    let held : frame < total lists = rw are.count below in
    let inside : frame < length numbers = omega (arith, are.size, below) in
    record {
      few = are.few;
      each = HoldEach-moved lists frame place are.each held;
      count = total-moved lists frame place are.each held ∙ are.count;
      size = length-set numbers frame (number_for place number) ∙ are.size;
      kept = kept-moved lists numbers frame place number inside are.kept;
      order = order-moved lists numbers frame place number inside last are.order;
      dirty_count = omega (arith, count-moved lists frame place number, are.kept frame, are.dirty_count, counted);
    }

-- what is promised of a pool
pub IsPool_numbered : (lists : ListsState) (numbers : List (Option ℕ)) (frames : List (Option (List ℕ))) (dirty : ℕ)
    → AreNumbered (length frames) lists numbers dirty → IsPool (pool_of lists numbers (map shown frames))
IsPool_numbered lists numbers frames dirty are = record {
  each = rw (frames_of-numbered numbers lists.dirty) are.each;
  count = rw (frames_of-numbered numbers lists.dirty, length-map frames shown) are.count;
  order = λ i j d le below.
      let short : j < length lists.dirty = rw length-map at below in
      let dirty_frame = λ (f : ℕ). let held : DirtyFrame = record { frame = f; number = number_at numbers f } in held in
      rw (get_or-map dirty_frame lists.dirty i 0 d (omega arith), get_or-map dirty_frame lists.dirty j 0 d short) (are.order i j 0 le short);
}

-- whether a frame is dirty, as the kept number tells
pub is_dirty-numbered : (numbers : List (Option ℕ)) (frame : ℕ) (frames : List ℕ) → is_dirty frame (numbered numbers frames) ≡ ltb 0 (times frame frames)
is_dirty-numbered numbers frame [] = refl
is_dirty-numbered numbers frame (other ∷ frames) =
    elim (eqb_tells other frame) [
      | inl p ↦ rw p.0 (sym (lt-ltb 0 (1 + times frame frames) (omega arith)))
      | inr p ↦ rw p.0 (is_dirty-numbered numbers frame frames ∙ ap (λ (n : ℕ). ltb 0 n) (omega arith))
    ]

-- the dirty frames' numbers, as the kept ones
pub last_numbered : (numbers : List (Option ℕ)) (number : ℕ) (dirty : List ℕ)
    → All (λ (held : DirtyFrame). held.number ≤ number) (numbered numbers dirty) → IsLast Dirty number numbers dirty
last_numbered numbers number dirty all i d below =
    let dirty_frame = λ (f : ℕ). let held : DirtyFrame = record { frame = f; number = number_at numbers f } in held in
    let inside : i < length (numbered numbers dirty) = rw length-map below in
    rw (get_or-map dirty_frame dirty i d (dirty_frame d) below) at (all i (dirty_frame d) inside)

pub IsPool_seen : (lists : ListsState) (numbers : List (Option ℕ)) (frames : List (Option (List ℕ))) (dirty : ℕ) (pool : PoolState)
    → AreNumbered (length frames) lists numbers dirty → pool_of lists numbers (map shown frames) ≡ pool → IsPool pool
IsPool_seen lists numbers frames dirty pool are is = let P : PoolState → Type 0 = IsPool in subst P is (IsPool_numbered lists numbers frames dirty are)

pub front_through-some : (numbers : List (Option ℕ)) (number frame : ℕ) (dirty : List ℕ) → slice_get dirty 0 ≡ Some frame
    → front_through number (numbered numbers dirty) ≡ (if leb (number_at numbers frame) number then Some frame else None)
front_through-some numbers number frame [] is = cc
front_through-some numbers number frame (first ∷ dirty) is = let same : first ≡ frame = cc in rw same refl

-- a frame that the code moved to a list, and the number that it has there
pub numbered_moved : (frames frame : ℕ) (place : Place) (number : ℕ) (lists lists' : LinkedState) (dirty dirty' : ℕ)
    → AreNumbered frames lists.linked lists.numbers dirty → frame < frames → IsLast place number lists.numbers lists.linked.dirty
    → lists' ≡ record { linked = moved lists.linked frame place; numbers = set lists.numbers frame (number_for place number) }
    → dirty' + one_if_kept (kept_at lists.numbers frame) ≡ dirty + one_if_kept (number_for place number)
    → AreNumbered frames lists'.linked lists'.numbers dirty'
numbered_moved frames frame place number lists lists' dirty dirty' are below last is counted =
    let P : LinkedState → Type 0 = λ now. AreNumbered frames now.linked now.numbers dirty' in
    subst P (sym is) (AreNumbered-moved frames frame place number lists.linked lists.numbers dirty dirty' are below last counted)

pub frame_inside : (frame : ℕ) (lists : ListsState) (numbers : List (Option ℕ)) (frames : List (Option (List ℕ))) (pool : PoolState)
    → pool_of lists numbers (map shown frames) ≡ pool → frame < length pool.bytes → frame < length frames
frame_inside frame lists numbers frames pool is below =
    omega (arith, length-map frames shown, ap (λ (seen : PoolState). length seen.bytes) is, below)

-- Exactly the dirty frames have a number.
pub is_some-kept : (frames frame : ℕ) (lists : ListsState) (numbers : List (Option ℕ)) (dirty : ℕ) → AreNumbered frames lists numbers dirty
    → is_some (kept_at numbers frame) ≡ is_dirty frame (numbered numbers lists.dirty)
is_some-kept frames frame lists numbers dirty are =
    flag (kept_at numbers frame) ∙ ap (λ (n : ℕ). ltb 0 n) (sym (are.kept frame)) ∙ sym (is_dirty-numbered numbers frame lists.dirty)
  where
    flag : (o : Option ℕ) → is_some o ≡ ltb 0 (one_if_kept o)
    flag None = refl
    flag (Some n) = refl

-- a pool whose lists are these
pub seen_moved : (lists' : LinkedState) (linked : ListsState) (numbers : List (Option ℕ)) (bytes : List (List ℕ))
    → lists' ≡ record { linked = linked; numbers = numbers } → pool_of lists'.linked lists'.numbers bytes ≡ pool_of linked numbers bytes
seen_moved lists' linked numbers bytes is = ap (λ (lists : LinkedState). pool_of lists.linked lists.numbers bytes) is

-- the same with the bytes of a frame that was written
pub seen_written : (lists' : LinkedState) (linked : ListsState) (numbers : List (Option ℕ)) (frames frames' : List (Option (List ℕ))) (frame : ℕ) (bytes : List ℕ)
    → lists' ≡ record { linked = linked; numbers = numbers } → frames' ≡ set frames frame (Some bytes)
    → pool_of lists'.linked lists'.numbers (map shown frames') ≡ with_bytes frame bytes (pool_of linked numbers (map shown frames))
seen_written lists' linked numbers frames frames' frame bytes l f =
    let shows = ap (λ (list : List (Option (List ℕ))). map shown list) f ∙ map-set shown frames frame (Some bytes) in
    λ i. pool_of (l i).linked (l i).numbers (shows i)

-- the front of the dirty frames is dirty
pub front_through-held : (numbers : List (Option ℕ)) (number frame : ℕ) (dirty : List ℕ) → front_through number (numbered numbers dirty) ≡ Some frame
    → 1 ≤ times frame dirty
front_through-held numbers number frame [] is = cc
front_through-held numbers number frame (first ∷ dirty) is =
    let same = chosen (leb (number_at numbers first) number) is in rw same (omega (arith, times_head frame dirty))
  where
    chosen : {first : ℕ} (test : Bool) → (if test then Some first else None) ≡ Some frame → first ≡ frame
    chosen true e = cc
    chosen false e = cc
