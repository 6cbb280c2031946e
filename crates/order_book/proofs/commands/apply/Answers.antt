use Rattle.std.proofs.Common.{◌≡◌, ℕ, ◌+◌, ◌*◌, ◌/◌, ◌≤◌, ◌<◌, List, length, take, drop, Ok, Err, Result, true, ap, subst, sym, ◌∙◌, arith, inl, inr, refl}
use Rattle.std.specs.List.{All}
use Rattle.std.specs.Result.{OnOk, OnErr, is_ok}
use Rattle.std.specs.Simd.{first_chunks}
use Rattle.std.proofs.lemmas.Bool.{cases_lt}
use Rattle.image_model.specs.declared.command.Kind.{Kind}
use Rattle.image_model.specs.Change.{Change, Written, Cleared, Edged, IsChange, edge_count, least_blocks}
use Rattle.image_model.specs.declared.command.Edges.{Edges}
use Rattle.image_model.specs.Dirty.{dirty_after}
use Rattle.shared_cache.specs.Blocks.{BlocksState, DirtyBlock, IsOnce, available_frames, count_missing, edges_missing}
use Rattle.shared_cache.specs.Cache.{CacheState, with_edges, with_written}
use Rattle.shared_cache.specs.View.{ShowsEdges, ShowsPut}
use Rattle.order_book.specs.Cached.{ShowsCommand, blocks_in, cache_after, dirty_of, frames_of, head_count}
use Rattle.order_book.proofs.Frames.{frames-after, frames_enough, length-chunks, length-head, length-tail, map-after, missing_of, order-after, states-after}
use Rattle.order_book.proofs.CacheShowsImage.{shows_cleared, shows_command, shows_edged, shows_written}
use Rattle.order_book.proofs.commands.apply.Goals as goal

-- what holds where memory is there, and of what there is else
from_ok : {E F : Type 0} (answer : Result (Unit {0}) E) (kept : Result (Unit {0}) F) (A B : Type 0) → is_ok answer ≡ is_ok kept → OnOk kept A → (A → B) → OnOk answer B
from_ok (Ok x) (Ok y) A B same is more = more is
from_ok (Ok x) (Err f) A B same is more = cc
from_ok (Err e) kept A B same is more = tt

in_both : {F : Type 0} (kept : Result (Unit {0}) F) (A B C : Type 0) → OnOk kept A → OnErr kept B → (is_ok kept ≡ true → A → C) → (B → C) → C
in_both (Ok y) A B C ok err good bad = good refl ok
in_both (Err f) A B C ok err good bad = bad err

-- the chunks of whole blocks are the blocks that the bytes fill
filled_blocks : (count : ℕ) (items now : List ℕ) → now ≡ items → length items ≡ 4096 * count → first_chunks 4096 (length now / 4096) now ≡ blocks_in items
filled_blocks count items now same whole =
    let as_many : length items / 4096 ≡ (length items + 4095) / 4096 = omega (arith, whole) in
    ap (λ (l : List ℕ). first_chunks 4096 (length l / 4096) l) same ∙ ap (λ (n : ℕ). first_chunks 4096 n items) as_many

not_ok : {F : Type 0} (kept : Result (Unit {0}) F) (fault : F) → is_ok kept ≡ true → kept ≡ Err fault → ⊥
not_ok kept fault ok is = let refused = ap is_ok is in cc

enough : (missing hand : ℕ) → (hand < missing → ⊥) → missing ≤ hand
enough missing hand never = elim (cases_lt hand missing) [ inl less ↦ absurd (never less) | inr le ↦ le ]

-- what is known of the cache once the command was carried out
module _ (old new : CacheState) (number : ℕ) (change : Change) (is : IsChange (length old.states) change) (after : new ≡ cache_after old number change) where
  dirty_now : dirty_of new ≡ dirty_after (dirty_of old) number change
  dirty_now = ap dirty_of after ∙ map-after (length old.states) old number change is

  states_now : length new.states ≡ length old.states
  states_now = ap (λ (cache : CacheState). length cache.states) after ∙ states-after old number change is

  frames_now : missing_of change old.blocks ≤ available_frames old.blocks → frames_of new ≡ frames_of old
  frames_now room = ap frames_of after ∙ frames-after (length old.states) old number change is room

  order_now : All (λ (held : DirtyBlock). held.number ≤ number) old.blocks.dirty → All (λ (held : DirtyBlock). held.number ≤ number) new.blocks.dirty
  order_now below = subst (λ (cache : CacheState). All (λ (held : DirtyBlock). held.number ≤ number) cache.blocks.dirty) (sym after) (order-after old number change below)

-- a write
put_blocks : (c : goal.After-as_alloc_result) → c.as_chunks.result.0.now ≡ blocks_in c.in-Put.bytes.items
put_blocks c =
    let inside = rw c.in-Put.is at c.requires.inside in
    c.as_chunks.ensures.front ∙ filled_blocks inside.0 c.in-Put.bytes.items c.deref.result.now c.deref.ensures.value inside.1

put_after : (c : goal.After-as_alloc_result) → c.put.new.self ≡ with_written c.args.number c.in-Put.first c.as_chunks.result.0.now c.args.cache.now
    → c.put.new.self ≡ cache_after c.args.cache.now c.args.number (Written c.in-Put.first c.in-Put.bytes.items)
put_after c after = after ∙ ap (λ (blocks : List (List ℕ)). with_written c.args.number c.in-Put.first blocks c.args.cache.now) (put_blocks c)

pub as_alloc_result-requires : goal.as_alloc_result-requires
as_alloc_result-requires c refused =
    let inside = rw c.in-Put.is at c.requires.inside in
    let frames = rw c.in-Put.is at c.requires.frames in
    let few = c.put.ensures.no_frame.0 refused in
    let same = rw refused at c.put.ensures.err in
    let once = subst (λ (cache : CacheState). IsOnce cache.blocks) same c.put.ensures.once in
    let blocks = c.as_chunks.ensures.front ∙ filled_blocks inside.0 c.in-Put.bytes.items c.deref.result.now c.deref.ensures.value inside.1 in
    let all = ap (λ (l : List (List ℕ)). count_missing c.in-Put.first (length l) c.args.cache.now.blocks) blocks
    ∙ ap (λ (n : ℕ). count_missing c.in-Put.first n c.args.cache.now.blocks) (length-chunks 4096 ((length c.in-Put.bytes.items + 4095) / 4096) c.in-Put.bytes.items) in
    let held = frames_enough _ c.args.cache.now c.args.number (Written c.in-Put.first c.in-Put.bytes.items) inside once frames in
    omega (arith, few, all, held)

pub returns-in-Put-clause-view : goal.returns-in-Put-clause-view
returns-in-Put-clause-view c =
    rw c.in-Put.is (from_ok _ c.put.result (ShowsPut c.in-Put.first c.as_chunks.result.0.now c.args.cache.now c.put.new.self) _ c.as_alloc_result.ensures c.put.ensures.view (λ shows.
    shows_written c.in-Put.first c.in-Put.bytes.items c.args.cache.now c.put.new.self
    (subst (λ (blocks : List (List ℕ)). ShowsPut c.in-Put.first blocks c.args.cache.now c.put.new.self) (put_blocks c) shows)))

pub returns-in-Put-clause-image : goal.returns-in-Put-clause-image
returns-in-Put-clause-image c =
    rw c.in-Put.is (from_ok _ c.put.result (ShowsPut c.in-Put.first c.as_chunks.result.0.now c.args.cache.now c.put.new.self) _ c.as_alloc_result.ensures c.put.ensures.view (λ shows image known.
    shows_command image (Written c.in-Put.first c.in-Put.bytes.items) c.args.cache.now c.put.new.self known
    (shows_written c.in-Put.first c.in-Put.bytes.items c.args.cache.now c.put.new.self
    (subst (λ (blocks : List (List ℕ)). ShowsPut c.in-Put.first blocks c.args.cache.now c.put.new.self) (put_blocks c) shows))))

pub returns-in-Put-clause-dirty : goal.returns-in-Put-clause-dirty
returns-in-Put-clause-dirty c =
    let inside = rw c.in-Put.is at c.requires.inside in
    rw c.in-Put.is (from_ok _ c.put.result (c.put.new.self ≡ with_written c.args.number c.in-Put.first c.as_chunks.result.0.now c.args.cache.now) _ c.as_alloc_result.ensures c.put.ensures.ok (λ after.
    dirty_now c.args.cache.now c.put.new.self c.args.number (Written c.in-Put.first c.in-Put.bytes.items) inside (put_after c after)))

pub returns-in-Put-clause-order : goal.returns-in-Put-clause-order
returns-in-Put-clause-order c =
    let inside = rw c.in-Put.is at c.requires.inside in
    from_ok _ c.put.result (c.put.new.self ≡ with_written c.args.number c.in-Put.first c.as_chunks.result.0.now c.args.cache.now) _ c.as_alloc_result.ensures c.put.ensures.ok (λ after.
    order_now c.args.cache.now c.put.new.self c.args.number (Written c.in-Put.first c.in-Put.bytes.items) inside (put_after c after) c.requires.order)

pub returns-in-Put-clause-kept : goal.returns-in-Put-clause-kept
returns-in-Put-clause-kept c =
    let inside = rw c.in-Put.is at c.requires.inside in
    in_both c.put.result (c.put.new.self ≡ with_written c.args.number c.in-Put.first c.as_chunks.result.0.now c.args.cache.now) (c.put.new.self ≡ c.args.cache.now) _
    c.put.ensures.ok c.put.ensures.err
    (λ kept after.
    frames_now c.args.cache.now c.put.new.self c.args.number (Written c.in-Put.first c.in-Put.bytes.items) inside (put_after c after)
    (let all = ap (λ (l : List (List ℕ)). count_missing c.in-Put.first (length l) c.args.cache.now.blocks) (put_blocks c)
    ∙ ap (λ (n : ℕ). count_missing c.in-Put.first n c.args.cache.now.blocks) (length-chunks 4096 ((length c.in-Put.bytes.items + 4095) / 4096) c.in-Put.bytes.items) in
    let room = enough _ _ (λ few. not_ok c.put.result _ kept (c.put.ensures.no_frame.1 few)) in
    omega (arith, all, room)))
    (λ same. ap frames_of same)

-- a clear without edges
pub returns-in-Clear-clause-view : goal.returns-in-Clear-clause-view
returns-in-Clear-clause-view c =
    rw c.in-Clear.is (shows_cleared c.in-Clear.first c.in-Clear.blocks c.in-Clear.kind c.args.cache.now c.clear.new.self c.clear.ensures.view)

pub returns-in-Clear-clause-image : goal.returns-in-Clear-clause-image
returns-in-Clear-clause-image c =
    rw c.in-Clear.is (λ image known.
    shows_command image (Cleared c.in-Clear.first c.in-Clear.blocks c.in-Clear.kind) c.args.cache.now c.clear.new.self known
    (shows_cleared c.in-Clear.first c.in-Clear.blocks c.in-Clear.kind c.args.cache.now c.clear.new.self c.clear.ensures.view))

pub returns-in-Clear-clause-dirty : goal.returns-in-Clear-clause-dirty
returns-in-Clear-clause-dirty c =
    let inside = rw c.in-Clear.is at c.requires.inside in
    rw c.in-Clear.is (dirty_now c.args.cache.now c.clear.new.self c.args.number (Cleared c.in-Clear.first c.in-Clear.blocks c.in-Clear.kind) inside c.clear.ensures.new)

pub returns-in-Clear-clause-kept : goal.returns-in-Clear-clause-kept
returns-in-Clear-clause-kept c =
    let inside = rw c.in-Clear.is at c.requires.inside in
    frames_now c.args.cache.now c.clear.new.self c.args.number (Cleared c.in-Clear.first c.in-Clear.blocks c.in-Clear.kind) inside c.clear.ensures.new (omega arith)

pub returns-in-Clear-clause-order : goal.returns-in-Clear-clause-order
returns-in-Clear-clause-order c =
    let inside = rw c.in-Clear.is at c.requires.inside in
    order_now c.args.cache.now c.clear.new.self c.args.number (Cleared c.in-Clear.first c.in-Clear.blocks c.in-Clear.kind) inside c.clear.ensures.new c.requires.order

-- a clear between edges, which stand in two parts of its blocks
edges_given : (edges : Edges) (items now : List ℕ) (chunks : List (List ℕ)) (count : ℕ) → now ≡ items → chunks ≡ first_chunks 4096 (length now / 4096) now
    → length items ≡ 4096 * edge_count edges → count ≡ head_count edges → (head tail : List (List ℕ)) → head ≡ take count chunks → tail ≡ drop count chunks
    → (head ≡ take (head_count edges) (blocks_in items)) × (tail ≡ drop (head_count edges) (blocks_in items))
edges_given edges items now chunks count same front whole as_many head tail at_head at_tail =
    let blocks = front ∙ filled_blocks (edge_count edges) items now same whole in
    (at_head ∙ (λ i. take (as_many i) (blocks i)), at_tail ∙ (λ i. drop (as_many i) (blocks i)))

-- as many of them aren't dirty as the command writes
missing_same : (first blocks : ℕ) (kind : Kind) (edges : Edges) (items : List ℕ) (head tail : List (List ℕ)) (s : BlocksState)
    → least_blocks edges ≤ blocks → length items ≡ 4096 * edge_count edges → head ≡ take (head_count edges) (blocks_in items) → tail ≡ drop (head_count edges) (blocks_in items)
    → edges_missing first blocks (length head) (length tail) s ≡ missing_of (Edged first blocks kind edges items) s
missing_same first blocks kind edges items head tail s least whole at_head at_tail =
    let in_head = ap length at_head ∙ length-head first blocks kind edges items least whole in
    let in_tail = ap length at_tail ∙ length-tail first blocks kind edges items least whole in
    λ i. edges_missing first blocks (in_head i) (in_tail i) s

pub as_alloc_result-requires-in-Edged : goal.as_alloc_result-requires-in-Edged
as_alloc_result-requires-in-Edged c refused =
    let inside = rw c.in-Edged.is at c.requires.inside in
    let frames = rw c.in-Edged.is at c.requires.frames in
    let given = edges_given c.in-Edged.edges c.in-Edged.bytes.items c.deref-in-Edged.result.now _ _ c.deref-in-Edged.ensures.value c.as_chunks-in-Edged.ensures.front inside.4
    c.head_blocks.ensures _ _ c.split_at.ensures.front c.split_at.ensures.back in
    let few = c.clear_between.ensures.no_frame.0 refused in
    let same = rw refused at c.clear_between.ensures.err in
    let once = subst (λ (cache : CacheState). IsOnce cache.blocks) same c.clear_between.ensures.once in
    let all = missing_same c.in-Edged.first c.in-Edged.blocks c.in-Edged.kind c.in-Edged.edges c.in-Edged.bytes.items _ _ c.args.cache.now.blocks inside.0 inside.4 given.0 given.1 in
    let held = frames_enough _ c.args.cache.now c.args.number (Edged c.in-Edged.first c.in-Edged.blocks c.in-Edged.kind c.in-Edged.edges c.in-Edged.bytes.items) inside once frames in
    omega (arith, few, all, held)

abbrev edged : goal.After-as_alloc_result-in-Edged → Change
edged c = Edged c.in-Edged.first c.in-Edged.blocks c.in-Edged.kind c.in-Edged.edges c.in-Edged.bytes.items

edged_inside : (c : goal.After-as_alloc_result-in-Edged) → IsChange (length c.args.cache.now.states) (edged c)
edged_inside c = rw c.in-Edged.is at c.requires.inside

edged_given : (c : goal.After-as_alloc_result-in-Edged) → (c.split_at.result.0.now ≡ take (head_count c.in-Edged.edges) (blocks_in c.in-Edged.bytes.items))
    × (c.split_at.result.1.now ≡ drop (head_count c.in-Edged.edges) (blocks_in c.in-Edged.bytes.items))
edged_given c =
    edges_given c.in-Edged.edges c.in-Edged.bytes.items c.deref-in-Edged.result.now _ _ c.deref-in-Edged.ensures.value c.as_chunks-in-Edged.ensures.front (edged_inside c).4
    c.head_blocks.ensures _ _ c.split_at.ensures.front c.split_at.ensures.back

abbrev EdgedAfter : goal.After-as_alloc_result-in-Edged → Type 0
EdgedAfter c =
    c.clear_between.new.self ≡ with_edges c.args.number c.in-Edged.first c.in-Edged.blocks c.in-Edged.kind c.split_at.result.0.now c.split_at.result.1.now c.args.cache.now

edged_after : (c : goal.After-as_alloc_result-in-Edged) → EdgedAfter c → c.clear_between.new.self ≡ cache_after c.args.cache.now c.args.number (edged c)
edged_after c after =
    let given = edged_given c in
    after ∙ (λ i. with_edges c.args.number c.in-Edged.first c.in-Edged.blocks c.in-Edged.kind (given.0 i) (given.1 i) c.args.cache.now)

edged_shown : (c : goal.After-as_alloc_result-in-Edged)
    → ShowsEdges c.in-Edged.first c.in-Edged.blocks c.in-Edged.kind c.split_at.result.0.now c.split_at.result.1.now c.args.cache.now c.clear_between.new.self
    → ShowsCommand (edged c) c.args.cache.now c.clear_between.new.self
edged_shown c shows =
    let given = edged_given c in
    let inside = edged_inside c in
    let P : List (List ℕ) → List (List ℕ) → Type 0 =
    λ head tail. ShowsEdges c.in-Edged.first c.in-Edged.blocks c.in-Edged.kind head tail c.args.cache.now c.clear_between.new.self in
    shows_edged c.in-Edged.first c.in-Edged.blocks c.in-Edged.kind c.in-Edged.edges c.in-Edged.bytes.items c.args.cache.now c.clear_between.new.self inside.0 inside.4
    (subst (λ (tail : List (List ℕ)). P (take (head_count c.in-Edged.edges) (blocks_in c.in-Edged.bytes.items)) tail) given.1
    (subst (λ (head : List (List ℕ)). P head c.split_at.result.1.now) given.0 shows))

pub returns-in-Edged-clause-after : goal.returns-in-Edged-clause-after
returns-in-Edged-clause-after c =
    rw c.in-Edged.is (from_ok _ c.clear_between.result (EdgedAfter c) _ c.as_alloc_result-in-Edged.ensures c.clear_between.ensures.ok (λ after. edged_after c after))

pub returns-in-Edged-clause-view : goal.returns-in-Edged-clause-view
returns-in-Edged-clause-view c =
    rw c.in-Edged.is (from_ok _ c.clear_between.result _ _ c.as_alloc_result-in-Edged.ensures c.clear_between.ensures.view (λ shows. edged_shown c shows))

pub returns-in-Edged-clause-image : goal.returns-in-Edged-clause-image
returns-in-Edged-clause-image c =
    rw c.in-Edged.is (from_ok _ c.clear_between.result _ _ c.as_alloc_result-in-Edged.ensures c.clear_between.ensures.view (λ shows image known.
    shows_command image (edged c) c.args.cache.now c.clear_between.new.self known (edged_shown c shows)))

pub returns-in-Edged-clause-dirty : goal.returns-in-Edged-clause-dirty
returns-in-Edged-clause-dirty c =
    rw c.in-Edged.is (from_ok _ c.clear_between.result (EdgedAfter c) _ c.as_alloc_result-in-Edged.ensures c.clear_between.ensures.ok (λ after.
    dirty_now c.args.cache.now c.clear_between.new.self c.args.number (edged c) (edged_inside c) (edged_after c after)))

pub returns-in-Edged-clause-order : goal.returns-in-Edged-clause-order
returns-in-Edged-clause-order c =
    from_ok _ c.clear_between.result (EdgedAfter c) _ c.as_alloc_result-in-Edged.ensures c.clear_between.ensures.ok (λ after.
    order_now c.args.cache.now c.clear_between.new.self c.args.number (edged c) (edged_inside c) (edged_after c after) c.requires.order)

pub returns-in-Edged-clause-blocks : goal.returns-in-Edged-clause-blocks
returns-in-Edged-clause-blocks c =
    in_both c.clear_between.result (EdgedAfter c) (c.clear_between.new.self ≡ c.args.cache.now) _ c.clear_between.ensures.ok c.clear_between.ensures.err
    (λ kept after. states_now c.args.cache.now c.clear_between.new.self c.args.number (edged c) (edged_inside c) (edged_after c after))
    (λ same. ap (λ (cache : CacheState). length cache.states) same)

pub returns-in-Edged-clause-kept : goal.returns-in-Edged-clause-kept
returns-in-Edged-clause-kept c =
    in_both c.clear_between.result (EdgedAfter c) (c.clear_between.new.self ≡ c.args.cache.now) _ c.clear_between.ensures.ok c.clear_between.ensures.err
    (λ kept after.
    frames_now c.args.cache.now c.clear_between.new.self c.args.number (edged c) (edged_inside c) (edged_after c after)
    (let given = edged_given c in
    let all = missing_same c.in-Edged.first c.in-Edged.blocks c.in-Edged.kind c.in-Edged.edges c.in-Edged.bytes.items _ _ c.args.cache.now.blocks (edged_inside c).0 (edged_inside c).4 given.0 given.1 in
    let room = enough _ _ (λ few. not_ok c.clear_between.result _ kept (c.clear_between.ensures.no_frame.1 few)) in
    omega (arith, all, room)))
    (λ same. ap frames_of same)
