-- what stays of an order where it changes in part
use Rattle.std.proofs.Common.{◌≡◌, ◌+◌, ◌≤◌, ◌<◌, ◌++◌, ◌∷◌, [], ◌∙◌, ℕ, List, length, map, ap, arith, length-append, subst, sym}
use Rattle.std.specs.FinMap.{from_entries}
use Rattle.std.specs.List.{All, sum}
use Rattle.std.proofs.lemmas.List.Elements.{All-append, All-cons, All-nil}
use Rattle.image_model.specs.declared.command.Command.{Command}
use Rattle.image_model.specs.Change.{Change, change_of}
use Rattle.image_model.specs.Command.{IsCommand, body_of}
use Rattle.image_model.specs.Dirty.{Dirty, dirty_after}
use Rattle.shared_cache.specs.Blocks.{DirtyBlock}
use Rattle.shared_cache.specs.Cache.{CacheState}
use Rattle.order_book.specs.Cached.{cache_after, dirty_of, frames_of}
use Rattle.order_book.specs.Order.{IsOrder, OrderState, with_command}
use Rattle.order_book.specs.Pending.{HasSmallBody}
use Rattle.order_book.specs.Reading.{ShowsRead}
use Rattle.order_book.proofs.CommandsFitGroup.{small_body, sum_push}

-- the dirty blocks are the same
pub order_read : (order : OrderState) (spare opening accepted : ℕ) (cache : CacheState) (dirty : Dirty) (frames : ℕ)
    → IsOrder order spare opening accepted → cache.blocks.dirty ≡ order.cache.blocks.dirty → IsOrder (record order { cache = cache; dirty = dirty; frames = frames }) spare opening accepted
order_read order spare opening accepted cache dirty frames is same = record {
  numbers = record { pending = is.numbers.pending; backlog = is.numbers.backlog; history = is.numbers.history; opened = is.numbers.opened; mark = is.numbers.mark };
  named = is.named;
  shown = is.shown;
  backlog = is.backlog;
  small = is.small;
  area = is.area;
  dirty = subst (λ (blocks : List DirtyBlock). All (λ (held : DirtyBlock). held.number ≤ order.mark) blocks) (sym same) is.dirty;
  kept = is.kept;
}

-- only the room for pending commands grew
pub order_roomy : (order : OrderState) (spare more opening accepted : ℕ) (pending : List Command) (bodies : List ℕ) (cache : CacheState) (dirty : Dirty) (frames : ℕ)
    → IsOrder order spare opening accepted → pending ≡ order.pending → bodies ≡ order.bodies → cache.blocks.dirty ≡ order.cache.blocks.dirty → spare ≤ more
    → IsOrder (record order { pending = pending; bodies = bodies; cache = cache; dirty = dirty; frames = frames }) more opening accepted
order_roomy order spare more opening accepted pending bodies cache dirty frames is same_pending same_bodies same_dirty room = record {
  numbers = record {
    pending = ap (λ (l : List Command). order.sealed + length l) same_pending ∙ is.numbers.pending;
    backlog = ap (λ (l : List ℕ). order.durable + length l) same_bodies ∙ is.numbers.backlog;
    history = is.numbers.history;
    opened = is.numbers.opened;
    mark = is.numbers.mark;
  };
  named = is.named;
  shown = is.shown;
  backlog = subst (λ (l : List ℕ). sum l ≤ 67108864) (sym same_bodies) is.backlog;
  small = subst (λ (l : List Command). All HasSmallBody l) (sym same_pending) is.small;
  area = is.area;
  dirty = subst (λ (blocks : List DirtyBlock). All (λ (held : DirtyBlock). held.number ≤ order.mark) blocks) (sym same_dirty) is.dirty;
  kept = omega (arith, is.kept, room);
}

-- an order with one command more
module _ (order : OrderState) (command : Command) (mark : ℕ) (history : List Change) (base : ℕ) (pending : List Command) (bodies : List ℕ) (cache : CacheState) (dirty : Dirty) (frames : ℕ) where
  abbrev taken : OrderState
  taken = record order { mark = mark; history = history; base = base; pending = pending; bodies = bodies; cache = cache; dirty = dirty; frames = frames }

  module _ (next : mark ≡ order.mark + 1) (history_is : history ≡ order.history ++ change_of command ∷ []) (pending_is : pending ≡ order.pending ++ command ∷ [])
      (bodies_is : bodies ≡ order.bodies ++ body_of command ∷ []) where
    pub taken_as : base ≡ order.base → cache ≡ cache_after order.cache (order.mark + 1) (change_of command) → dirty ≡ dirty_after order.dirty (order.mark + 1) (change_of command) → frames ≡ order.frames
        → taken ≡ with_command order command
    taken_as same_base cache_is dirty_is same_frames =
        λ i. record order { mark = next i; history = history_is i; base = same_base i; pending = pending_is i; bodies = bodies_is i; cache = cache_is i; dirty = dirty_is i; frames = same_frames i }

    pub order_taken : (image spare left opening accepted shown : ℕ) → IsCommand image command → IsOrder order spare opening accepted → sum order.bodies + body_of command ≤ 67108864 → mark < 18446744073709551616
        → shown ≡ mark → All (λ (held : DirtyBlock). held.number ≤ mark) cache.blocks.dirty → order.in_hand ≤ left → IsOrder taken left opening shown
    order_taken image spare left opening accepted shown fits is room less shown_is below kept = record {
      numbers = record {
        pending = omega (arith, ap length pending_is, length-append order.pending (command ∷ []), is.numbers.pending, next);
        backlog = omega (arith, ap length bodies_is, length-append order.bodies (body_of command ∷ []), is.numbers.backlog, next);
        history = omega (arith, ap length history_is, length-append order.history (change_of command ∷ []), is.numbers.history, next);
        opened = is.numbers.opened;
        mark = less;
      };
      named = is.named;
      shown = shown_is;
      backlog = omega (arith, ap sum bodies_is, sum_push order.bodies (body_of command), room);
      small = subst (λ (l : List Command). All HasSmallBody l) (sym pending_is)
          (All-append HasSmallBody order.pending _ is.small (All-cons HasSmallBody command [] (small_body image command fits) (All-nil HasSmallBody)));
      area = is.area;
      dirty = below;
      kept = kept;
    }

-- the same order, after a read
pub read_new : (was next : CacheState) (first : ℕ) (bytes : List ℕ) (order now : OrderState) → order.dirty ≡ dirty_of was → order.frames ≡ frames_of was → ShowsRead first bytes was next → order ≡ now
    → (let o : OrderState = record order { cache = next; dirty = dirty_of next; frames = frames_of next } in o) ≡ (let o : OrderState = record now { cache = next } in o)
read_new was next first bytes order now dirty frames shows same =
    let same_dirty : dirty_of next ≡ order.dirty = ap (λ (l : List DirtyBlock). from_entries (map (λ (held : DirtyBlock). (held.block, held.number)) l)) shows.dirty ∙ sym dirty in
    let same_frames : frames_of next ≡ order.frames = shows.frames ∙ sym frames in
    (λ i. record order { cache = next; dirty = same_dirty i; frames = same_frames i })
    ∙ ap (λ (o : OrderState). let after : OrderState = record o { cache = next } in after) same
