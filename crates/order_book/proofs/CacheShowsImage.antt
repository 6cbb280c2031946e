-- what a cache shows of an image stays true
use Rattle.std.proofs.Common.{◌≡◌, ℕ, ◌+◌, ◌-◌, ◌*◌, ◌/◌, ◌≤◌, ◌<◌, ◌||◌, ◌&&◌, not, inl, inr, zero, suc, Bool, true, false, if◌then◌else◌, List, [], length, get_or, slice_index, replicate, take, drop, Option, Some, None, sym, ap, ◌∙◌, refl, arith, rules}
use Rattle.std.specs.Simd.{first_chunks}
use Rattle.std.specs.Option.{is_some, unwrap_or}
use Rattle.std.proofs.lemmas.Bool.Decides.{nat_tests}
use Rattle.std.proofs.lemmas.List.{places, get_or-replicate, drop-drop}
use Rattle.alloc_map.specs.Codes.{state_at}
use Rattle.image_model.specs.Change.{Change, Written, Cleared, Edged, edge_count, least_blocks}
use Rattle.image_model.specs.declared.command.Edges.{Edges}
use Rattle.image_model.specs.declared.command.Edges.TheVariants.{Head, Tail, Both}
use Rattle.image_model.specs.declared.command.Kind.{Kind}
use Rattle.image_model.specs.declared.command.Kind.TheVariants.{Data, Zero, Hole}
use Rattle.image_model.specs.Image.{Image, apply, blocks_of, byte_after, byte_in, covers, data_of, kind_given, kind_in, slot, touches, writes}
use Rattle.image_model.specs.laws.Slots.{byte-apply, touched_byte, untouched_byte, writes_touches}
use Rattle.shared_cache.specs.Blocks.{is_dirty, is_cached}
use Rattle.shared_cache.specs.Cache.{CacheState, bytes_for, bytes_seen}
use Rattle.shared_cache.specs.View.{KeepsBytes, ShowsPut, ShowsClear, ShowsClean, ShowsEdges, is_edge}
use Rattle.order_book.specs.Cached.{ShowsCommand, blocks_in, bytes_in, count_written, head_count}
use Rattle.order_book.specs.Shown.{ShowsImage, IsZeroOutsideData}
use Rattle.order_book.proofs.Edges.{Somewhere, at_of, counts_add, edge_at, tail_count}
use Rattle.order_book.proofs.Frames.{length-chunks, length-head, length-tail, not_dirty}

pub chunk_at : (n count : ℕ) (list : List ℕ) (k : ℕ) (d : List ℕ) → k < count → get_or (first_chunks n count list) k d ≡ take n (drop (n * k) list)
chunk_at n zero list k d below = absurd (omega (arith, below))
chunk_at n (suc count) list zero d below = ap (λ (m : ℕ). take n (drop m list)) none
  where
    none : 0 ≡ n * 0
    none = omega arith
chunk_at n (suc count) list (suc k) d below =
    chunk_at n count (drop n list) k d (omega (arith, below))
    ∙ ap (take n) (drop-drop (n * k) n list ∙ ap (λ (m : ℕ). drop m list) more)
  where
    more : n + n * k ≡ n * suc k
    more = omega arith

some_same : (seen : Option (List ℕ)) (one other : List ℕ) → seen ≡ Some one → seen ≡ Some other → one ≡ other
some_same seen one other is also = ap (λ (o : Option (List ℕ)). unwrap_or o one) (sym is ∙ also)

none_there : (seen : Option (List ℕ)) (bytes : List ℕ) → seen ≡ Some bytes → seen ≡ None → ⊥
none_there seen bytes is none = cc

true_false : (test : Bool) → test ≡ true → test ≡ false → ⊥
true_false test is none = cc

-- a write
module _ (first : ℕ) (bytes : List ℕ) (old new : CacheState) (shows : ShowsPut first (blocks_in bytes) old new) where
  abbrev change : Change
  change = Written first bytes

  long : length (blocks_in bytes) ≡ blocks_of change
  long = length-chunks 4096 ((length bytes + 4095) / 4096) bytes

  covered : (block : ℕ) → covers first (length (blocks_in bytes)) block ≡ touches block change
  covered block = ap (λ (n : ℕ). covers first n block) long

  written_states : (block : ℕ) → state_at new.states block ≡ (if touches block change then kind_in (slot block change) (kind_given change) else state_at old.states block)
  written_states block =
      shows.states block
      ∙ ap (λ (b : Bool). if b then Data else state_at old.states block) (covered block)
      ∙ by (touches block change)
    where
      by : (b : Bool) → (if b then Data else state_at old.states block)
          ≡ (if b then kind_in (if b then Some (4096 * (block - first)) else None) Data else state_at old.states block)
      by true = refl
      by false = refl

  written_bytes : (block : ℕ) → touches block change ≡ true → bytes_seen new block ≡ Some (bytes_in (slot block change) bytes)
  written_bytes block is =
      let from : first ≤ block = grind (arith, nat_tests, is) in
      let below : block - first < blocks_of change = grind (arith, nat_tests, is) in
      let at : first + (block - first) ≡ block = omega (arith, from) in
      ap (bytes_seen new) (sym at)
      ∙ shows.written (block - first) [] (omega (arith, below, long))
      ∙ ap (λ (l : List ℕ). Some l) (chunk_at 4096 (blocks_of change) bytes (block - first) [] below)
      ∙ ap (λ (b : Bool). Some (bytes_in (if b then Some (4096 * (block - first)) else None) bytes)) (sym is)

  written_all : (block : ℕ) → touches block change ≡ true → writes block change ≡ false → is_cached block new.blocks ≡ false
  written_all block is none = absurd (true_false (writes block change) (ap (λ (b : Bool). is_some (if b then Some (4096 * (block - first)) else None)) is) none)

  written_others : (block : ℕ) → touches block change ≡ false → KeepsBytes (count_written change) old new block
  written_others block is = few _ _ long (shows.others block (covered block ∙ is))
    where
      few : (one other : ℕ) → one ≡ other → KeepsBytes one old new block → KeepsBytes other old new block
      few one other same (inl kept) = inl kept
      few one other same (inr lost) = let less = lost.1 in inr (lost.0, omega (arith, less, same), lost.2)

  written_dirty : (block : ℕ) → is_dirty block new.blocks ≡ (if touches block change then writes block change else is_dirty block old.blocks)
  written_dirty block =
      shows.dirty block ∙ ap (λ (b : Bool). b || is_dirty block old.blocks) (covered block) ∙ by (touches block change) (is_dirty block old.blocks)
    where
      by : (b was : Bool) → (b || was) ≡ (if b then is_some (if b then Some (4096 * (block - first)) else None) else was)
      by true was = refl
      by false was = refl

  pub shows_written : ShowsCommand (Written first bytes) old new
  shows_written = record {
    states = written_states;
    touched = written_bytes;
    cleared = written_all;
    others = written_others;
    dirty = written_dirty;
  }

-- a clear without edges
pub shows_cleared : (first blocks : ℕ) (kind : Kind) (old new : CacheState) → ShowsClear first blocks kind old new → ShowsCommand (Cleared first blocks kind) old new
shows_cleared first blocks kind old new shows = record {
  states = shows.states;
  touched = shows.zero_bytes;
  cleared = λ block is none. shows.no_frame block is;
  others = λ block is. inl (shows.others block is);
  dirty = λ block. by block (covers first blocks block) refl;
}
  where
    by : (block : ℕ) (b : Bool) → covers first blocks block ≡ b → is_dirty block new.blocks ≡ (if covers first blocks block then false else is_dirty block old.blocks)
    by block true is = rw is (not_dirty block new.blocks (shows.no_frame block is))
    by block false is = rw is (shows.dirty block is)

-- a clear between edges
module _ (first blocks : ℕ) (kind : Kind) (edges : Edges) (bytes : List ℕ) (old new : CacheState) (least : least_blocks edges ≤ blocks) (whole : length bytes ≡ 4096 * edge_count edges)
    (shows : ShowsEdges first blocks kind (take (head_count edges) (blocks_in bytes)) (drop (head_count edges) (blocks_in bytes)) old new) where
  abbrev edged : Change
  edged = Edged first blocks kind edges bytes

  in_head : length (take (head_count edges) (blocks_in bytes)) ≡ head_count edges
  in_head = length-head first blocks kind edges bytes least whole

  in_tail : length (drop (head_count edges) (blocks_in bytes)) ≡ tail_count edges
  in_tail = length-tail first blocks kind edges bytes least whole

  abbrev is_one : ℕ → Bool
  is_one block = is_edge first blocks (head_count edges) (tail_count edges) block

  edge_same : (block : ℕ) → is_edge first blocks (length (take (head_count edges) (blocks_in bytes))) (length (drop (head_count edges) (blocks_in bytes))) block ≡ is_one block
  edge_same block = λ i. is_edge first blocks (in_head i) (in_tail i) block

  -- the edges are the blocks that the command writes
  edge_written : (block : ℕ) → is_one block ≡ is_some (edge_at first blocks edges block)
  edge_written block = by (at_of first blocks block edges least)
    where
      by : Somewhere first blocks edges block
          → is_one block ≡ is_some (edge_at first blocks edges block)
      by (inl (inl at)) = rw (at.slot_is, at.place.is_head) refl
      by (inl (inr at)) = rw (at.slot_is, at.place.is_head, at.place.is_tail) refl
      by (inr (inl at)) = rw (at.slot_is, at.place.is_head, at.place.is_tail) refl
      by (inr (inr at)) = rw (at.slot_is, at.place.is_head, at.place.is_tail) refl

  edge_touched : (block : ℕ) → writes block edged ≡ true → covers first blocks block ≡ true
  edge_touched block = writes_touches block edged

  edged_states : (block : ℕ) → state_at new.states block ≡ (if touches block edged then kind_in (slot block edged) kind else state_at old.states block)
  edged_states block =
      shows.states block
      ∙ ap (λ (b : Bool). if b then Data else (if covers first blocks block then kind else state_at old.states block)) (edge_same block)
      ∙ by (at_of first blocks block edges least)
    where
      by : Somewhere first blocks edges block
          → (if is_one block then Data else (if covers first blocks block then kind else state_at old.states block))
          ≡ (if covers first blocks block then kind_in (edge_at first blocks edges block) kind else state_at old.states block)
      by (inl (inl at)) = rw (at.slot_is, at.place.is_head, at.place.is_inside) refl
      by (inl (inr at)) = rw (at.slot_is, at.place.is_head, at.place.is_tail) refl
      by (inr (inl at)) = rw (at.slot_is, at.place.is_head, at.place.is_tail, at.place.is_inside) refl
      by (inr (inr at)) = rw (at.slot_is, at.place.is_head, at.place.is_tail) (rw at.place.is_inside refl)

  some_edges : (k : ℕ) → k < edge_count edges → get_or (blocks_in bytes) k [] ≡ take 4096 (drop (4096 * k) bytes)
  some_edges k below = chunk_at 4096 ((length bytes + 4095) / 4096) bytes k [] (omega (arith, below, whole))

  edged_bytes : (block : ℕ) → touches block edged ≡ true → bytes_seen new block ≡ Some (bytes_in (slot block edged) bytes)
  edged_bytes block is = by (at_of first blocks block edges least)
    where
      few_at_head : (edges : Edges) → head_count edges ≤ 1
      few_at_head Head = omega arith
      few_at_head Tail = omega arith
      few_at_head Both = omega arith

      one_at_tail : (edges : Edges) → 1 ≤ tail_count edges → tail_count edges ≡ 1
      one_at_tail Head some = absurd (omega (arith, some))
      one_at_tail Tail some = refl
      one_at_tail Both some = refl

      taken : (n : ℕ) (list : List (List ℕ)) → 0 < n → get_or (take n list) 0 [] ≡ get_or list 0 []
      taken n list some = search (rules, places)

      dropped : (n : ℕ) (list : List (List ℕ)) → get_or (drop n list) 0 [] ≡ get_or list n []
      dropped n list = search (rules, places)

      by : Somewhere first blocks edges block
          → bytes_seen new block ≡ Some (bytes_in (edge_at first blocks edges block) bytes)
      by (inl (inl at)) =
          let head : block - first < head_count edges = grind (arith, nat_tests, at.place.is_head) in
          let from : first ≤ block = grind (arith, nat_tests, at.place.is_head) in
          let few : head_count edges ≤ 1 = few_at_head edges in
          let here : first + 0 ≡ block = omega (arith, head, from, few) in
          rw at.slot_is
          (ap (bytes_seen new) (sym here)
          ∙ shows.at_head 0 [] (omega (arith, head, in_head))
          ∙ ap (λ (l : List ℕ). Some l) (taken (head_count edges) (blocks_in bytes) (omega (arith, head)) ∙ some_edges 0 (omega (arith, head, counts_add edges))))
      by (inl (inr at)) =
          rw at.slot_is (shows.between block at.place.is_inside (edge_same block ∙ edge_written block ∙ ap is_some at.slot_is)).0
      by (inr (inl at)) =
          let one : tail_count edges ≡ 1 = one_at_tail edges (grind (arith, nat_tests, at.place.is_tail)) in
          let from : first + blocks - tail_count edges ≤ block = grind (arith, nat_tests, at.place.is_tail) in
          let below : block < first + blocks - tail_count edges + tail_count edges = grind (arith, nat_tests, at.place.is_tail) in
          let here : first + blocks - length (drop (head_count edges) (blocks_in bytes)) + 0 ≡ block = omega (arith, one, from, below, in_tail) in
          rw at.slot_is
          (ap (bytes_seen new) (sym here)
          ∙ shows.at_tail 0 [] (omega (arith, one, in_tail))
          ∙ ap (λ (l : List ℕ). Some l) (dropped (head_count edges) (blocks_in bytes) ∙ some_edges (head_count edges) (omega (arith, one, counts_add edges))))
      by (inr (inr at)) = absurd (true_false (covers first blocks block) is at.place.is_inside)

  edged_others : (block : ℕ) → touches block edged ≡ false → KeepsBytes (count_written edged) old new block
  edged_others block is = few _ _ (omega (arith, in_head, in_tail, counts_add edges)) (shows.others block is)
    where
      few : (one other : ℕ) → one ≡ other → KeepsBytes one old new block → KeepsBytes other old new block
      few one other same (inl kept) = inl kept
      few one other same (inr lost) = let less = lost.1 in inr (lost.0, omega (arith, less, same), lost.2)

  edged_dirty : (block : ℕ) → is_dirty block new.blocks ≡ (if touches block edged then writes block edged else is_dirty block old.blocks)
  edged_dirty block =
      shows.dirty block
      ∙ ap (λ (b : Bool). b || (not (covers first blocks block) && is_dirty block old.blocks)) (edge_same block)
      ∙ by (at_of first blocks block edges least)
    where
      by : Somewhere first blocks edges block
          → (is_one block || (not (covers first blocks block) && is_dirty block old.blocks))
          ≡ (if covers first blocks block then is_some (edge_at first blocks edges block) else is_dirty block old.blocks)
      by (inl (inl at)) = rw (at.slot_is, at.place.is_head, at.place.is_inside) refl
      by (inl (inr at)) = rw (at.slot_is, at.place.is_head, at.place.is_tail) (rw at.place.is_inside refl)
      by (inr (inl at)) = rw (at.slot_is, at.place.is_head, at.place.is_tail, at.place.is_inside) refl
      by (inr (inr at)) = rw (at.slot_is, at.place.is_head, at.place.is_tail) (rw at.place.is_inside refl)

  pub shows_edged : ShowsCommand (Edged first blocks kind edges bytes) old new
  shows_edged = record {
    states = edged_states;
    touched = edged_bytes;
    cleared = λ block is none. (shows.between block is (edge_same block ∙ edge_written block ∙ none)).1;
    others = edged_others;
    dirty = edged_dirty;
  }

-- a command that the image takes
module _ (image : Image) (change : Change) (old new : CacheState) (known : ShowsImage image old) (shows : ShowsCommand change old new) where
  after_states : (block : ℕ) → state_at new.states block ≡ (apply change image).kind block
  after_states block = shows.states block ∙ ap (λ (was : Kind). if touches block change then kind_in (slot block change) (kind_given change) else was) (known.states block)

  slot_bytes : (at : Option ℕ) (k : ℕ) → k < 4096 → slice_index (bytes_in at (data_of change)) k ≡ byte_in at (data_of change) k
  slot_bytes None k inside = get_or-replicate 4096 k 0 0 inside
  slot_bytes (Some at) k inside = search (rules, places)

  after_bytes : (block : ℕ) (given : List ℕ) → bytes_seen new block ≡ Some given → (k : ℕ) → k < 4096 → slice_index given k ≡ (apply change image).byte (4096 * block + k)
  after_bytes block given seen k inside = by (touches block change) refl ∙ sym (byte-apply change image block k inside)
    where
      by : (b : Bool) → touches block change ≡ b → slice_index given k ≡ byte_after block k change (image.byte (4096 * block + k))
      by true is =
          ap (λ (l : List ℕ). slice_index l k) (some_same (bytes_seen new block) given _ seen (shows.touched block is))
          ∙ slot_bytes (slot block change) k inside
          ∙ sym (touched_byte change block k (image.byte (4096 * block + k)) is)
      by false is =
          elim (shows.others block is) [
            | inl kept ↦ known.bytes block given (sym kept ∙ seen) k inside
            | inr lost ↦ absurd (none_there (bytes_seen new block) given seen lost.2)
          ]
          ∙ sym (untouched_byte change block k (image.byte (4096 * block + k)) is)

  pub shows_command : ShowsImage (apply change image) new
  shows_command = record { states = after_states; bytes = after_bytes }

-- blocks that are clean
pub shows_clean : (image : Image) (number : ℕ) (old new : CacheState) → ShowsImage image old → ShowsClean number old new → ShowsImage image new
shows_clean image number old new known shows = record {
  states = λ block. ap (λ (states : List Kind). state_at states block) shows.states ∙ known.states block;
  bytes = λ block given seen. known.bytes block given (sym (shows.bytes block) ∙ seen);
}

-- an empty cache
pub shows_fresh : (image : Image) (states : List Kind) (frames : ℕ) → ((block : ℕ) → state_at states block ≡ image.kind block) → IsZeroOutsideData image
    → ShowsImage image (record { states = states; blocks = record { free = frames; clean = []; dirty = [] } })
shows_fresh image states frames same zeros = record {
  states = same;
  bytes = λ block given seen. by block given (state_at states block) refl seen;
}
  where
    zero_bytes : (block : ℕ) (given : List ℕ) → Some (replicate 4096 0) ≡ Some given → (image.kind block ≡ Data → ⊥) → (k : ℕ) → k < 4096 → slice_index given k ≡ image.byte (4096 * block + k)
    zero_bytes block given is no_data k inside =
        ap (λ (l : List ℕ). slice_index l k) (some_same (Some given) given (replicate 4096 0) refl (sym is))
        ∙ get_or-replicate 4096 k 0 0 inside ∙ sym (zeros block no_data k inside)

    by : (block : ℕ) (given : List ℕ) (kind : Kind) → state_at states block ≡ kind → bytes_for kind None ≡ Some given → (k : ℕ) → k < 4096
        → slice_index given k ≡ image.byte (4096 * block + k)
    by block given Data is seen = absurd (none_there None given seen refl)
    by block given Zero is seen = zero_bytes block given seen (λ e. let both : Zero ≡ Data = sym is ∙ same block ∙ e in cc)
    by block given Hole is seen = zero_bytes block given seen (λ e. let both : Hole ≡ Data = sym is ∙ same block ∙ e in cc)
