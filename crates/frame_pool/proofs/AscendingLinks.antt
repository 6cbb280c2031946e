-- links of nodes in ascending order
use Rattle.std.proofs.Common.{◌≡◌, ◌<◌, ◌≤◌, ◌+◌, ◌-◌, ◌%◌, ◌^◌, inl, inr, ℕ, zero, suc, List, [], ◌∷◌, ◌++◌, length, get_or, map, refl, ap, ◌∙◌, sym, subst, zero-add, arith, replicate, Option, None}
use Rattle.std.specs.List.{range_with_len}
use Rattle.std.proofs.lemmas.List.{length-replicate}
use Rattle.std.proofs.lemmas.List.FromFn.{length-range_with_len, length-map-range_with_len, get_or-map-range_with_len}
use Rattle.std.proofs.lemmas.Bool.{ne_eqb, eq-eqb, lt-ltb, le-ltb, cases_lt, cases_eq}
use Rattle.std.proofs.Math.Nat.{mod-eq_of_lt, mod_self, add-mod_right}
use Rattle.frame_pool.specs.Frames.{HaveBytes, shown}
use Rattle.frame_pool.specs.Linked.{LinkedState}
use Rattle.frame_pool.specs.Lists.{ListsState, HoldEach, times}
use Rattle.frame_pool.specs.Numbers.{AreNumbered, kept_at, one_if_kept, pool_of}
use Rattle.frame_pool.specs.Ring.{IsPath, AreLinks, AreLinked, ring_of}

-- the numbers from one on, with the next one after them
range_last : (from count : ℕ) (rest : List ℕ) → range_with_len from count ++ (from + count) ∷ rest ≡ from ∷ (range_with_len (from + 1) count ++ rest)
range_last from zero rest = ap (λ (v : ℕ). v ∷ rest) (omega arith)
range_last from (suc count) rest =
    ap (λ (list : List ℕ). from ∷ list)
    (ap (λ (v : ℕ). range_with_len (from + 1) count ++ v ∷ rest) (omega arith) ∙ range_last (from + 1) count rest)

times-range_below : (from count node : ℕ) → node < from → times node (range_with_len from count) ≡ 0
times-range_below from zero node below = refl
times-range_below from (suc count) node below =
    rw (ne_eqb from node (λ e. omega arith)) (omega (arith, times-range_below (from + 1) count node (omega arith)))

times-range_within : (from count node : ℕ) → from ≤ node → node < from + count → times node (range_with_len from count) ≡ 1
times-range_within from zero node above below = absurd (omega arith)
times-range_within from (suc count) node above below =
    elim (cases_eq from node) [
      | inl e ↦ rw (eq-eqb from node e) (omega (arith, times-range_below (from + 1) count node (omega arith)))
      | inr ne ↦ rw (ne_eqb from node ne) (omega (arith, times-range_within (from + 1) count node (omega arith) (omega arith)))
    ]

times-range_above : (from count node : ℕ) → from + count ≤ node → times node (range_with_len from count) ≡ 0
times-range_above from zero node above = refl
times-range_above from (suc count) node above =
    rw (ne_eqb from node (λ e. omega arith)) (omega (arith, times-range_above (from + 1) count node (omega arith)))

-- the lists of frames that are all free
abbrev pub fresh : ℕ → ListsState
fresh frames = record { free = range_with_len 0 frames; clean = []; dirty = [] }

HoldEach-fresh : (frames : ℕ) → HoldEach (fresh frames)
HoldEach-fresh frames node =
    rw (length-range_with_len 0 frames)
    (elim (cases_lt node frames) [
      | inl below ↦ rw (lt-ltb node (frames + 0 + 0) (omega arith)) (omega (arith, times-range_within 0 frames node (omega arith) (omega arith)))
      | inr above ↦ rw (le-ltb node (frames + 0 + 0) (omega arith)) (omega (arith, times-range_above 0 frames node (omega arith)))
    ])

-- a path upwards
path_up : (next previous : List ℕ) (from count : ℕ) (rest : List ℕ)
    → ((node : ℕ) → from ≤ node → node < from + count → (get_or next node 0 ≡ node + 1) × (get_or previous (node + 1) 0 ≡ node))
    → IsPath next previous (from + count) rest → IsPath next previous from (range_with_len (from + 1) count ++ rest)
path_up next previous from zero rest up path = let P : ℕ → Type 0 = λ v. IsPath next previous v rest in subst P (omega arith) path
path_up next previous from (suc count) rest up path =
    let here = up from (omega arith) (omega arith) in
    let P : ℕ → Type 0 = λ v. IsPath next previous v rest in
    (here.0, here.1, path_up next previous (from + 1) count rest (λ node above below. up node (omega arith) (omega arith)) (subst P (omega arith) path))

-- links of `nodes` nodes, each to the one that is `step` places after it
AreLinks-steps : (nodes step : ℕ) → 0 < nodes → AreLinks nodes (map (λ node. (node + step) % nodes) (range_with_len 0 nodes))
AreLinks-steps nodes step some = record {
  size = length-map-range_with_len _ 0 nodes;
  inside = λ k d below.
      let short : k < nodes = rw length-map-range_with_len at below in
      rw (get_or-map-range_with_len (λ node. (node + step) % nodes) 0 nodes k k d short (zero-add k)) (omega arith);
}

ahead : (nodes step node : ℕ) → node < nodes → get_or (map (λ v. (v + step) % nodes) (range_with_len 0 nodes)) node 0 ≡ (node + step) % nodes
ahead nodes step node below = get_or-map-range_with_len (λ v. (v + step) % nodes) 0 nodes node node 0 below (zero-add node)

pub AreLinked-fresh : (frames : ℕ) (next previous : List ℕ) → frames + 3 < 2 ^ 31
    → next ≡ map (λ node. (node + 1) % (frames + 3)) (range_with_len 0 (frames + 3))
    → previous ≡ map (λ node. (node + (frames + 3 - 1)) % (frames + 3)) (range_with_len 0 (frames + 3))
    → AreLinked frames next previous (fresh frames)
AreLinked-fresh frames next previous few n p =
    let nodes = frames + 3 in
    let up : (node : ℕ) → node < frames + 2 → (get_or next node 0 ≡ node + 1) × (get_or previous (node + 1) 0 ≡ node) =
    λ node below. (
      rw n (ahead nodes 1 node (omega arith) ∙ mod-eq_of_lt (omega arith)),
      rw p (ahead nodes (nodes - 1) (node + 1) (omega arith) ∙ ap (λ (v : ℕ). v % nodes) (omega arith) ∙ add-mod_right node nodes ∙ mod-eq_of_lt (omega arith)),
    ) in
    let round : (get_or next (frames + 2) 0 ≡ 0) × (get_or previous 0 0 ≡ frames + 2) = (
      rw n (ahead nodes 1 (frames + 2) (omega arith) ∙ ap (λ (v : ℕ). v % nodes) (omega arith) ∙ mod_self nodes),
      rw p (ahead nodes (nodes - 1) 0 (omega arith) ∙ mod-eq_of_lt (omega arith) ∙ omega arith),
    ) in
    let ends = (frames + 1) ∷ (frames + 2) ∷ [] in
    let first = up frames (omega arith) in
    let second : (get_or next (frames + 1) 0 ≡ frames + 2) × (get_or previous (frames + 2) 0 ≡ frames + 1) = let step = up (frames + 1) (omega arith) in (step.0 ∙ omega arith, ap (λ (v : ℕ). get_or previous v 0) (omega arith) ∙ step.1) in
    let behind : IsPath next previous frames ends = (first.0, first.1, (second.0, second.1, tt)) in
    let P : ℕ → Type 0 = λ v. IsPath next previous v ends in
    let whole = path_up next previous 0 frames ends (λ node _ below. up node (omega arith)) (subst P (sym (zero-add frames)) behind) in
    let shape : ring_of frames (fresh frames) ≡ 0 ∷ (range_with_len 1 frames ++ ends) =
    ap (λ (v : ℕ). range_with_len 0 frames ++ v ∷ ends) (sym (zero-add frames)) ∙ range_last 0 frames ends in
    record {
      few = omega arith;
      next_links = rw n (AreLinks-steps nodes 1 (omega arith));
      previous_links = rw p (AreLinks-steps nodes (nodes - 1) (omega arith));
      ring = rw shape (round.0, round.1, whole);
      count = omega (arith, length-range_with_len 0 frames);
      each = HoldEach-fresh frames;
    }

-- frames that are all free have no numbers
pub AreNumbered-fresh : (frames : ℕ) → frames + 3 < 2 ^ 32 → AreNumbered frames (fresh frames) (replicate (frames + 3) None) 0
AreNumbered-fresh frames few = record {
  few = few;
  each = HoldEach-fresh frames;
  count = omega (arith, length-range_with_len 0 frames);
  size = length-replicate (frames + 3) None;
  kept = λ node. ap one_if_kept (sym (kept_none (frames + 3) node));
  order = λ i j d le below. absurd (omega (arith, below));
  dirty_count = refl;
}
  where
    kept_none : (frames frame : ℕ) → kept_at (replicate frames None) frame ≡ None
    kept_none zero frame = refl
    kept_none (suc frames) zero = refl
    kept_none (suc frames) (suc frame) = kept_none frames frame

-- frames none of which has bytes show zeros
shown-fresh : (frames : ℕ) → map shown (replicate frames None) ≡ replicate frames (replicate 4096 0)
shown-fresh zero = refl
shown-fresh (suc frames) = ap (λ (bytes : List (List ℕ)). replicate 4096 0 ∷ bytes) (shown-fresh frames)

module _ (count : ℕ) (lists : LinkedState) (frames : List (Option (List ℕ)))
    (l : lists ≡ record { linked = fresh count; numbers = replicate (count + 3) None }) (f : frames ≡ replicate count None) where
  pub numbered_fresh : count + 3 < 2 ^ 32 → AreNumbered (length frames) lists.linked lists.numbers 0
  numbered_fresh few =
      let P : LinkedState × ℕ → Type 0 = λ now. AreNumbered now.1 now.0.linked now.0.numbers 0 in
      let size : length frames ≡ count = ap length f ∙ length-replicate count None in
      subst P (λ i. (sym l i, sym size i)) (AreNumbered-fresh count few)

  pub have_fresh : HaveBytes lists.linked frames
  have_fresh =
      let P : LinkedState → Type 0 = λ now. HaveBytes now.linked frames in
      subst P (sym l) (λ frame held. absurd (omega (arith, held)))

  pub pool_fresh : pool_of lists.linked lists.numbers (map shown frames)
      ≡ record { free = range_with_len 0 count; clean = []; dirty = []; bytes = replicate count (replicate 4096 0) }
  pool_fresh =
      let bytes = ap (λ (list : List (Option (List ℕ))). map shown list) f ∙ shown-fresh count in
      λ i. pool_of (l i).linked (l i).numbers (bytes i)
