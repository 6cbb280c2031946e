-- links that stand for three lists, and those once a frame was moved
use Rattle.std.proofs.Common.{◌≡◌, ◌≢◌, ◌<◌, ◌≤◌, ◌+◌, ℕ, List, [], ◌∷◌, ◌++◌, length, get_or, set, refl, ap, ◌∙◌, sym, subst, arith, slice_get, Some, None}
use Rattle.std.proofs.lemmas.List.{append_assoc, length-set}
use Rattle.std.proofs.lemmas.List.Elements.{All-set, filter-append}
use Rattle.std.proofs.lemmas.Bool.{ne_eqb, eq-eqb}
use Rattle.frame_pool.specs.declared.place.Place.{Place}
use Rattle.frame_pool.specs.declared.place.Place.TheVariants.{Free, Clean, Dirty}
use Rattle.frame_pool.specs.Lists.{ListsState, total, times, without, moved}
use Rattle.frame_pool.specs.inner.Lists.{list_at}
use Rattle.frame_pool.specs.Ring.{IsPath, AreLinks, AreLinked, start_of, end_of, ring_of, linked as linked_list, lists_of}
use Rattle.frame_pool.specs.laws.Times.{times-append, times-without_same, times-without_other, times_other, head_other}
use Rattle.frame_pool.proofs.FrameChangesList.{times_in, times_once, times_none, total-moved, HoldEach-moved}
use Rattle.frame_pool.proofs.RingMoves.{next-previous, previous-next, path-unlinked, path-linked, walk_path}

pub AreLinks-set : (nodes : ℕ) (links : List ℕ) (at node : ℕ) → node < nodes → AreLinks nodes links → AreLinks nodes (set links at node)
AreLinks-set nodes links at node below are = record {
  size = length-set links at node ∙ are.size;
  inside = All-set (λ (v : ℕ). v < nodes) links at node below are.inside;
}

pub link_inside : (nodes : ℕ) (links : List ℕ) (node : ℕ) → node < nodes → AreLinks nodes links → get_or links node 0 < nodes
link_inside nodes links node below are = are.inside node 0 (rw are.size below)

-- the path after a node on it
path_behind : (next previous : List ℕ) (from node : ℕ) (nodes behind : List ℕ) → IsPath next previous from (nodes ++ node ∷ behind) → IsPath next previous node behind
path_behind next previous from node [] behind path = path.2
path_behind next previous from node (first ∷ nodes) behind path = path_behind next previous first node nodes behind path.2

-- how often a node stands in a ring
times-ring : (frames node : ℕ) (lists : ListsState)
    → times node (ring_of frames lists) ≡ times_in node lists + times node (frames ∷ (frames + 1) ∷ (frames + 2) ∷ [])
times-ring frames node lists =
    let a = times-append node lists.free (frames ∷ (lists.clean ++ (frames + 1) ∷ (lists.dirty ++ (frames + 2) ∷ []))) in
    let b = times-append node lists.clean ((frames + 1) ∷ (lists.dirty ++ (frames + 2) ∷ [])) in
    let c = times-append node lists.dirty ((frames + 2) ∷ []) in
    omega (arith, a, b, c)

times_ends : (frames node : ℕ) → node < frames → times node (frames ∷ (frames + 1) ∷ (frames + 2) ∷ []) ≡ 0
times_ends frames node below =
    rw (ne_eqb frames node (λ e. omega arith), ne_eqb (frames + 1) node (λ e. omega arith), ne_eqb (frames + 2) node (λ e. omega arith)) refl

times_end : (frames : ℕ) (place : Place) → times (end_of frames place) (frames ∷ (frames + 1) ∷ (frames + 2) ∷ []) ≡ 1
times_end frames Free = rw (eq-eqb frames frames refl, ne_eqb (frames + 1) frames (λ e. omega arith), ne_eqb (frames + 2) frames (λ e. omega arith)) refl
times_end frames Clean = rw (ne_eqb frames (frames + 1) (λ e. omega arith), eq-eqb (frames + 1) (frames + 1) refl, ne_eqb (frames + 2) (frames + 1) (λ e. omega arith)) refl
times_end frames Dirty = rw (ne_eqb frames (frames + 2) (λ e. omega arith), ne_eqb (frames + 1) (frames + 2) (λ e. omega arith), eq-eqb (frames + 2) (frames + 2) refl) refl

-- the lists without a frame
abbrev lacking : ListsState → ℕ → ListsState
lacking lists frame = record { free = without frame lists.free; clean = without frame lists.clean; dirty = without frame lists.dirty }

without-ring : (frames frame : ℕ) (lists : ListsState) → frame < frames → without frame (ring_of frames lists) ≡ ring_of frames (lacking lists frame)
without-ring frames frame lists below =
    let free_end = ne_eqb frames frame (λ e. omega arith) in
    let clean_end = ne_eqb (frames + 1) frame (λ e. omega arith) in
    let dirty_end = ne_eqb (frames + 2) frame (λ e. omega arith) in
    simp (filter-append, free_end, clean_end, dirty_end)

-- the ring as the frames and nodes up to the last one
ring-split : (frames : ℕ) (lists : ListsState)
    → ring_of frames lists ≡ (lists.free ++ frames ∷ (lists.clean ++ (frames + 1) ∷ lists.dirty)) ++ (frames + 2) ∷ []
ring-split frames lists = simp append_assoc

-- the nodes before a list's end, and those after it
abbrev before_end : ℕ → ListsState → Place → List ℕ
before_end frames lists Free = lists.free
before_end frames lists Clean = lists.free ++ frames ∷ lists.clean
before_end frames lists Dirty = lists.free ++ frames ∷ (lists.clean ++ (frames + 1) ∷ lists.dirty)

abbrev behind_end : ℕ → ListsState → Place → List ℕ
behind_end frames lists Free = lists.clean ++ (frames + 1) ∷ (lists.dirty ++ (frames + 2) ∷ [])
behind_end frames lists Clean = lists.dirty ++ (frames + 2) ∷ []
behind_end frames lists Dirty = []

ring_at : (frames : ℕ) (lists : ListsState) (place : Place)
    → ring_of frames lists ≡ before_end frames lists place ++ end_of frames place ∷ behind_end frames lists place
ring_at frames lists Free = refl
ring_at frames lists Clean = simp append_assoc
ring_at frames lists Dirty = simp append_assoc

ring-moved : (frames frame : ℕ) (lists : ListsState) (place : Place)
    → ring_of frames (moved lists frame place)
    ≡ before_end frames (lacking lists frame) place ++ frame ∷ end_of frames place ∷ behind_end frames (lacking lists frame) place
ring-moved frames frame lists Free = simp append_assoc
ring-moved frames frame lists Clean = simp append_assoc
ring-moved frames frame lists Dirty = simp append_assoc

end_inside : (frames : ℕ) (place : Place) → (frames ≤ end_of frames place) × (end_of frames place < frames + 3)
end_inside frames Free = (omega arith, omega arith)
end_inside frames Clean = (omega arith, omega arith)
end_inside frames Dirty = (omega arith, omega arith)

-- a frame stands in its ring once, and so does the end of a list
frame_once : (frames frame : ℕ) (next previous : List ℕ) (lists : ListsState) → AreLinked frames next previous lists → frame < frames → times frame (ring_of frames lists) ≡ 1
frame_once frames frame next previous lists linked below =
    let one = times_once lists frame linked.each (rw linked.count below) in
    omega (arith, times-ring frames frame lists, one, times_ends frames frame below)

end_once : (frames : ℕ) (place : Place) (next previous : List ℕ) (lists : ListsState) → AreLinked frames next previous lists → times (end_of frames place) (ring_of frames lists) ≡ 1
end_once frames place next previous lists linked =
    let none = times_none lists (end_of frames place) linked.each (rw linked.count (end_inside frames place).0) in
    omega (arith, times-ring frames (end_of frames place) lists, none, times_end frames place)

-- the ring once a frame was taken out
path-taken : (frames frame : ℕ) (next previous : List ℕ) (lists : ListsState) → AreLinked frames next previous lists → frame < frames
    → IsPath (set next (get_or previous frame 0) (get_or next frame 0)) (set previous (get_or next frame 0) (get_or previous frame 0)) (frames + 2)
    (ring_of frames (lacking lists frame))
path-taken frames frame next previous lists linked below =
    let nodes = lists.free ++ frames ∷ (lists.clean ++ (frames + 1) ∷ lists.dirty) in
    let last : frames + 2 ≢ frame = λ e. omega arith in
    let once = frame_once frames frame next previous lists linked below in
    let split = ring-split frames lists in
    let path : IsPath next previous (frames + 2) (nodes ++ (frames + 2) ∷ []) = rw split at linked.ring in
    let whole : times frame (nodes ++ (frames + 2) ∷ []) ≡ 1 = rw split at once in
    let inner : 1 ≤ times frame nodes = omega (arith, times-append frame nodes ((frames + 2) ∷ []), times_other frame (frames + 2) [] last, whole) in
    let before = link_inside (frames + 3) previous frame (omega arith) linked.previous_links in
    let behind = link_inside (frames + 3) next frame (omega arith) linked.next_links in
    let np = next-previous next previous (frames + 2) (nodes ++ (frames + 2) ∷ []) frame path (omega arith) in
    let pn = previous-next next previous (frames + 2) nodes (frames + 2) frame path inner in
    rw (← without-ring frames frame lists below, split)
    (path-unlinked next previous frame (frames + 2) (frames + 2) nodes (rw linked.next_links.size before) (rw linked.previous_links.size behind) np pn last last (omega arith) path)

-- the ring once the frame was put before a list's end
path-put : (frames frame : ℕ) (place : Place) (next previous : List ℕ) (lists : ListsState)
    → AreLinks (frames + 3) next → AreLinks (frames + 3) previous → frame < frames
    → times frame (ring_of frames (lacking lists frame)) ≡ 0 → times (end_of frames place) (ring_of frames (lacking lists frame)) ≡ 1
    → IsPath next previous (frames + 2) (ring_of frames (lacking lists frame))
    → IsPath (set (set next frame (end_of frames place)) (get_or previous (end_of frames place) 0) frame)
    (set (set previous frame (get_or previous (end_of frames place) 0)) (end_of frames place) frame)
    (frames + 2) (ring_of frames (moved lists frame place))
path-put frames frame place next previous lists next_links previous_links below none once path =
    let end = end_of frames place in
    let inside = end_inside frames place in
    let split = ring_at frames (lacking lists frame) place in
    let np = next-previous next previous (frames + 2) (ring_of frames (lacking lists frame)) end path (omega arith) in
    let before = link_inside (frames + 3) previous end inside.1 previous_links in
    rw (ring-moved frames frame lists place)
    (path-linked next previous frame end (frames + 2) (before_end frames (lacking lists frame) place) (behind_end frames (lacking lists frame) place)
    (rw next_links.size (omega arith)) (rw previous_links.size (omega arith)) (rw previous_links.size inside.1) (rw next_links.size before) np
    (λ e. omega arith) (λ e. omega arith) (rw split at none) (omega (arith, rw split at once)) (rw split at path))

-- The links of the lists, once a frame was taken out and put before a list's end.
pub AreLinked-moved : (frames frame : ℕ) (place : Place) (next previous next' previous' : List ℕ) (lists : ListsState)
    → AreLinked frames next previous lists → frame < frames
    → next' ≡ set next (get_or previous frame 0) (get_or next frame 0)
    → previous' ≡ set previous (get_or next frame 0) (get_or previous frame 0)
    → AreLinked frames
    (set (set next' frame (end_of frames place)) (get_or previous' (end_of frames place) 0) frame)
    (set (set previous' frame (get_or previous' (end_of frames place) 0)) (end_of frames place) frame)
    (moved lists frame place)
AreLinked-moved frames frame place next previous next' previous' lists linked below n p =
    let nodes = frames + 3 in
    let end = end_of frames place in
    let inside = end_inside frames place in
    let next_links : AreLinks nodes next' = rw n (AreLinks-set nodes next _ _ (link_inside nodes next frame (omega arith) linked.next_links) linked.next_links) in
    let previous_links : AreLinks nodes previous' = rw p (AreLinks-set nodes previous _ _ (link_inside nodes previous frame (omega arith) linked.previous_links) linked.previous_links) in
    let path : IsPath next' previous' (frames + 2) (ring_of frames (lacking lists frame)) = rw (n, p) (path-taken frames frame next previous lists linked below) in
    let none : times frame (ring_of frames (lacking lists frame)) ≡ 0 = rw (← without-ring frames frame lists below) (times-without_same frame (ring_of frames lists)) in
    let once : times end (ring_of frames (lacking lists frame)) ≡ 1 =
    rw (← without-ring frames frame lists below)
    (times-without_other frame end (ring_of frames lists) (λ e. omega arith) ∙ end_once frames place next previous lists linked) in
    let held : frame < total lists = rw linked.count below in
    record {
      few = linked.few;
      next_links = AreLinks-set nodes _ _ frame (omega arith) (AreLinks-set nodes next' frame end inside.1 next_links);
      previous_links = AreLinks-set nodes _ end frame (omega arith) (AreLinks-set nodes previous' frame _ (link_inside nodes previous' end inside.1 previous_links) previous_links);
      ring = path-put frames frame place next' previous' lists next_links previous_links below none once path;
      count = total-moved lists frame place linked.each held ∙ linked.count;
      each = HoldEach-moved lists frame place linked.each held;
    }

-- from before a list's first frame to its end
pub path_along : (frames : ℕ) (place : Place) (next previous : List ℕ) (lists : ListsState) → AreLinked frames next previous lists
    → IsPath next previous (start_of frames place) (list_at lists place ++ end_of frames place ∷ behind_end frames lists place)
path_along frames Free next previous lists linked = linked.ring
path_along frames Clean next previous lists linked = path_behind next previous (frames + 2) frames lists.free _ linked.ring
path_along frames Dirty next previous lists linked =
    path_behind next previous frames (frames + 1) lists.clean _ (path_behind next previous (frames + 2) frames lists.free _ linked.ring)

end_absent : (frames : ℕ) (place : Place) (next previous : List ℕ) (lists : ListsState) → AreLinked frames next previous lists → times (end_of frames place) (list_at lists place) ≡ 0
end_absent frames Free next previous lists linked = omega (arith, times_none lists frames linked.each (rw linked.count (omega arith)))
end_absent frames Clean next previous lists linked = omega (arith, times_none lists (frames + 1) linked.each (rw linked.count (omega arith)))
end_absent frames Dirty next previous lists linked = omega (arith, times_none lists (frames + 2) linked.each (rw linked.count (omega arith)))

list_fits : (frames : ℕ) (place : Place) (lists : ListsState) → total lists ≡ frames → length (list_at lists place) ≤ frames
list_fits frames Free lists count = omega arith
list_fits frames Clean lists count = omega arith
list_fits frames Dirty lists count = omega arith

list_linked : (frames : ℕ) (place : Place) (next previous : List ℕ) (lists : ListsState) → AreLinked frames next previous lists → linked_list frames next place ≡ list_at lists place
list_linked frames place next previous lists linked =
    walk_path next previous (start_of frames place) (end_of frames place) frames (list_at lists place) _
    (path_along frames place next previous lists linked) (end_absent frames place next previous lists linked) (list_fits frames place lists linked.count)

-- links that stand for lists show them
pub lists_linked : (frames : ℕ) (next previous : List ℕ) (lists : ListsState) → AreLinked frames next previous lists → lists_of frames next ≡ lists
lists_linked frames next previous lists linked =
    rw (list_linked frames Free next previous lists linked, list_linked frames Clean next previous lists linked, list_linked frames Dirty next previous lists linked) refl

pub linked_shown : (frames : ℕ) (next previous : List ℕ) (lists : ListsState) → AreLinked frames next previous lists → AreLinked frames next previous (lists_of frames next)
linked_shown frames next previous lists linked =
    let P : ListsState → Type 0 = λ shown. AreLinked frames next previous shown in
    subst P (sym (lists_linked frames next previous lists linked)) linked

-- the first frame of a list: the node after its start, unless that is its end
pub first_linked : (next previous : List ℕ) (from end : ℕ) (nodes behind : List ℕ) → IsPath next previous from (nodes ++ end ∷ behind) → times end nodes ≡ 0
    → (get_or next from 0 ≡ end → None ≡ slice_get nodes 0) × (get_or next from 0 ≢ end → Some (get_or next from 0) ≡ slice_get nodes 0)
first_linked next previous from end [] behind path none = (λ _. refl, λ ne. absurd (ne path.0))
first_linked next previous from end (node ∷ nodes) behind path none =
    (λ e. absurd (head_other end node nodes none (sym path.0 ∙ e)), λ _. ap (λ (v : ℕ). Some v) path.0)

pub front_linked : (frames : ℕ) (place : Place) (next previous : List ℕ) (lists : ListsState) → AreLinked frames next previous lists
    → (get_or next (start_of frames place) 0 ≡ end_of frames place → None ≡ slice_get (list_at lists place) 0)
    × (get_or next (start_of frames place) 0 ≢ end_of frames place → Some (get_or next (start_of frames place) 0) ≡ slice_get (list_at lists place) 0)
front_linked frames place next previous lists linked =
    first_linked next previous (start_of frames place) (end_of frames place) (list_at lists place) _ (path_along frames place next previous lists linked) (end_absent frames place next previous lists linked)

-- the links of the lists, once the code moved a frame before the end that it computed
pub moved_links : (frames frame end : ℕ) (place : Place) (next previous next' previous' next'' previous'' : List ℕ) (lists : ListsState)
    → AreLinked frames next previous lists → frame < total lists → end ≡ end_of frames place
    → next' ≡ set next (get_or previous frame 0) (get_or next frame 0)
    → previous' ≡ set previous (get_or next frame 0) (get_or previous frame 0)
    → next'' ≡ set (set next' frame end) (get_or previous' end 0) frame
    → previous'' ≡ set (set previous' frame (get_or previous' end 0)) end frame
    → AreLinked frames next'' previous'' (moved lists frame place)
moved_links frames frame end place next previous next' previous' next'' previous'' lists linked below is n p n' p' =
    rw (n', p', is) (AreLinked-moved frames frame place next previous next' previous' lists linked (rw linked.count at below) n p)
