use Rattle.std.proofs.Common.{ap, refl, rules, ◌∙◌, ◌≡◌, ◌≤◌, ◌+◌, ◌-◌, ℕ, Bool, List, length, replicate, not, arith}
use Rattle.std.proofs.lemmas.List.{length-replicate}
use Rattle.std.proofs.lemmas.List.Elements.{All-filter}
use Rattle.image_model.specs.declared.command.Kind.{Kind}
use Rattle.image_model.specs.declared.command.Kind.TheVariants.{Data}
use Rattle.image_model.specs.Image.{covers}
use Rattle.image_model.specs.Patched.{patched}
use Rattle.image_model.specs.laws.Positions.{length-patched}
use Rattle.shared_cache.specs.Blocks.{BlocksState, DirtyBlock, without}
use Rattle.shared_cache.specs.Cache.{CacheState}
use Rattle.shared_cache.specs.CachedBlocks.{CachedState, blocks_of}
use Rattle.shared_cache.proofs.FrameBytes.{order_seen}
use Rattle.shared_cache.specs.laws.Edges.{room_at_head, room_at_tail, shows_edges}
use Rattle.shared_cache.specs.laws.Once.{held_once}
use Rattle.shared_cache.specs.laws.Ranges.{same_held}
use Rattle.shared_cache.specs.laws.Views.{once_seen}
use Rattle.shared_cache.proofs.cache.Cache.clear_between.Goals as goal

-- what is let go of, once memory for the index is there
held_again : (inside : ℕ → Bool) (held reserved : CachedState) (s left : BlocksState) → blocks_of held.pool held.blocks ≡ s
    → reserved.pool ≡ held.pool → reserved.blocks ≡ held.blocks → left ≡ without inside (blocks_of reserved.pool reserved.blocks) → left ≡ without inside s
held_again inside held reserved s left is pool blocks gone = gone ∙ ap (without inside) (same_held held reserved pool blocks ∙ is)

pub put_all-requires-clause-frames : goal.put_all-requires-clause-frames
put_all-requires-clause-frames c =
    room_at_head c.args.first c.args.count (length c.args.head.now) (length c.args.tail.now) c.args.self.now.blocks _ c.requires.edges
    (c.if-not-has_frames_at_edges.ensures.enough.0 refl)
    (held_again _ c.self.inside.held c.reserve.new.self c.args.self.now.blocks _ (ap (λ (cache : CacheState). cache.blocks) c.self.view_is)
    c.in_ok-reserve.ensures.pool c.in_ok-reserve.ensures.blocks c.release_blocks.ensures.blocks)

pub put_all-requires-2-clause-frames : goal.put_all-requires-2-clause-frames
put_all-requires-2-clause-frames c =
    room_at_tail c.args.number c.args.first c.args.count (length c.args.tail.now) c.args.head.now c.args.self.now.blocks _ _ c.requires.edges
    (c.if-not-has_frames_at_edges.ensures.enough.0 refl)
    (held_again _ c.self.inside.held c.reserve.new.self c.args.self.now.blocks _ (ap (λ (cache : CacheState). cache.blocks) c.self.view_is)
    c.in_ok-reserve.ensures.pool c.in_ok-reserve.ensures.blocks c.release_blocks.ensures.blocks)
    c.put_all.ensures.blocks

pub put_all-requires-clause-order : goal.put_all-requires-clause-order
put_all-requires-clause-order c =
    let between = c.args.first + length c.args.head.now in
    let inside = covers between (c.args.first + c.args.count - length c.args.tail.now - between) in
    let left = held_again inside c.self.inside.held c.reserve.new.self c.args.self.now.blocks _ (ap (λ (cache : CacheState). cache.blocks) c.self.view_is)
    c.in_ok-reserve.ensures.pool c.in_ok-reserve.ensures.blocks c.release_blocks.ensures.blocks in
    order_seen c.release_blocks.new.self.pool c.release_blocks.new.self.blocks c.args.number _ (ap (λ (s : BlocksState). s.dirty) left)
    (All-filter (λ (held : DirtyBlock). not (inside held.block)) (λ (held : DirtyBlock). held.number ≤ c.args.number) c.args.self.now.blocks.dirty c.requires.order)

pub returns-clause-view : goal.returns-clause-view
returns-clause-view c =
    shows_edges c.args.number c.args.first c.args.count c.args.kind c.args.head.now c.args.tail.now c.args.self.now
    (once_seen c.self.inside.held _ c.self.invariant.held_kept (ap (λ (cache : CacheState). cache.blocks) c.self.view_is))
    c.requires.kind c.requires.range c.requires.edges _ (search rules)

pub returns-clause-once : goal.returns-clause-once
returns-clause-once c = held_once c.put_all-2.new.self c.put_all-2.ensures.held

-- a range that is set leaves as many states
same_size : (old new : List Kind) (first count : ℕ) (kind : Kind) → new ≡ patched old first (replicate count kind) → first + count ≤ length old → length new ≡ length old
same_size old new first count kind is inside =
    ap (λ (states : List Kind). length states) is ∙ length-patched old first (replicate count kind) (omega (arith, length-replicate count kind, inside))

-- so do all three, one after another
sizes : (old one two three : List Kind) (first count head tail : ℕ) (kind : Kind) → head + tail ≤ count → first + count ≤ length old
    → one ≡ patched old (first + head) (replicate (first + count - tail - (first + head)) kind) → two ≡ patched one first (replicate head Data)
    → three ≡ patched two (first + count - tail) (replicate tail Data)
    → (length one ≡ length old) × (length two ≡ length old) × (length three ≡ length old)
sizes old one two three first count head tail kind fits inside one_is two_is three_is =
    let at_one = same_size old one (first + head) (first + count - tail - (first + head)) kind one_is (omega (arith, fits, inside)) in
    let at_two = same_size one two first head Data two_is (omega (arith, fits, inside, at_one)) ∙ at_one in
    (at_one, at_two, same_size two three (first + count - tail) tail Data three_is (omega (arith, fits, inside, at_two)) ∙ at_two)

pub set_range-requires-2 : goal.set_range-requires-2
set_range-requires-2 c =
    let states = ap (λ (cache : CacheState). length cache.states) c.self.view_is in
    let between = c.args.first + length c.args.head.now in
    let middle = c.args.first + c.args.count - length c.args.tail.now - between in
    let one = same_size c.self.inside.map c.set_range.new.self between middle c.args.kind c.set_range.ensures (omega (arith, states, c.requires.range, c.requires.edges)) in
    omega (arith, one, states, c.requires.range, c.requires.edges)

pub set_range-requires-3 : goal.set_range-requires-3
set_range-requires-3 c =
    let states = ap (λ (cache : CacheState). length cache.states) c.self.view_is in
    let between = c.args.first + length c.args.head.now in
    let middle = c.args.first + c.args.count - length c.args.tail.now - between in
    let one = same_size c.self.inside.map c.set_range.new.self between middle c.args.kind c.set_range.ensures (omega (arith, states, c.requires.range, c.requires.edges)) in
    let two = same_size c.set_range.new.self c.set_range-2.new.self c.args.first (length c.args.head.now) Data c.set_range-2.ensures (omega (arith, one, states, c.requires.range, c.requires.edges)) in
    omega (arith, one, two, states, c.requires.range, c.requires.edges)

pub invariant_of-self-2 : goal.invariant_of-self-2
invariant_of-self-2 c =
    let states = ap (λ (cache : CacheState). length cache.states) c.self.view_is in
    let after = sizes c.self.inside.map c.set_range.new.self c.set_range-2.new.self c.set_range-3.new.self c.args.first c.args.count (length c.args.head.now) (length c.args.tail.now) c.args.kind
    c.requires.edges (omega (arith, states, c.requires.range)) c.set_range.ensures c.set_range-2.ensures c.set_range-3.ensures in
    record { few = omega (arith, after.2, c.self.invariant.few); held_kept = c.put_all-2.ensures.held }
