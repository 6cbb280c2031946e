-- the order of write commands as callers see it
use Rattle.std.specs.Prelude.{MatchBool, max, ◌≡◌, ℕ, ◌+◌, ◌-◌, ◌<◌, ◌≤◌, ◌&&◌, ◌==◌, Option, Some, None, Bool, false, nat_le, if◌then◌else◌, List, [], ◌∷◌, ◌++◌, length, drop, take, sum, All}
use Rattle.std.specs.FinMap.{empty}
use mathlib.Core.List.{IsPrefix}
use Rattle.image_model.specs.declared.command.Command.{Command}
use Rattle.image_model.specs.declared.command.Kind.{Kind}
use Rattle.image_model.specs.Bodies.{body_bytes, body_limit}
use Rattle.image_model.specs.Change.{Change, change_of}
use Rattle.image_model.specs.Command.{body_of, bodies_of}
use Rattle.image_model.specs.Dirty.{Dirty, clean_through, dirty_after, frames_suffice}
use Rattle.journal_format.specs.Group.{Numbered}
use Rattle.marks.specs.Known.{KeeperKnows}
use Rattle.order_book.specs.Cached.{cache_after, cache_cleaned}
use Rattle.order_book.specs.declared.fault.OrderFault.{OrderFault}
use Rattle.order_book.specs.declared.fault.OrderFault.TheVariants.{NumbersFull, NoRoom, Stopped}
use Rattle.order_book.specs.Pending.{HasSmallBody}
use Rattle.shared_cache.specs.Blocks.{DirtyBlock}
use Rattle.shared_cache.specs.Cache.{CacheState}

pub record OrderState : Type 0 where
  -- the last number before the first command
  pub opening : ℕ
  -- the last number that is durable, the last that was sealed, and the last that was accepted
  pub durable : ℕ
  pub sealed : ℕ
  pub mark : ℕ
  -- the changes of all commands, the first of them first, and a number up to which the image has them, as the order knows
  pub history : List Change
  pub base : ℕ
  -- how many commands the last group has, 0 once it was put back
  pub in_hand : ℕ
  -- the commands above the last sealed number, one number each
  pub pending : List Command
  -- the bytes that each command above the durable number takes in a group
  pub bodies : List ℕ
  -- the current state of each block, and the blocks that are in memory
  pub cache : CacheState
  -- of these the dirty ones, each with the number of the command that wrote it, and how many frames there are for all
  pub dirty : Dirty
  pub frames : ℕ
  -- the bytes of a journal area
  pub area : ℕ
  -- whether commands are refused from now on
  pub stopped : Bool

-- nothing was accepted yet, and the image has these states
abbrev pub new_order : List Kind → ℕ → ℕ → ℕ → OrderState
new_order states last most bytes = record {
  opening = last;
  durable = last;
  sealed = last;
  mark = last;
  history = [];
  base = last;
  in_hand = 0;
  pending = [];
  bodies = [];
  cache = record { states = states; blocks = record { free = most; clean = []; dirty = [] } };
  dirty = empty;
  frames = most;
  area = bytes;
  stopped = false;
}

-- whether a change has room: in the frames, and in the 67,108,864 bytes for what isn't durable
abbrev pub has_room_for : OrderState → Change → Bool
has_room_for order change =
    frames_suffice order.frames order.dirty (order.mark + 1) change
    && nat_le (sum order.bodies + body_bytes change) 67108864

abbrev pub has_room : OrderState → Command → Bool
has_room order command = has_room_for order (change_of command)

-- why a change is refused before any growth of memory: the first reason that holds
abbrev pub refusal_for : OrderState → Change → Option OrderFault
refusal_for order change =
    if order.stopped then Some Stopped
    else (if order.mark == 18446744073709551615 then Some NumbersFull
    else (if has_room_for order change then None else Some NoRoom))

-- the order with one command more
abbrev pub with_command : OrderState → Command → OrderState
with_command order command = record order {
  mark = order.mark + 1;
  history = order.history ++ change_of command ∷ [];
  pending = order.pending ++ command ∷ [];
  bodies = order.bodies ++ body_of command ∷ [];
  cache = cache_after order.cache (order.mark + 1) (change_of command);
  dirty = dirty_after order.dirty (order.mark + 1) (change_of command);
}

-- the order once the dirty blocks up to a number are clean
abbrev pub with_clean : OrderState → ℕ → OrderState
with_clean order number = record order { cache = cache_cleaned order.cache number; dirty = clean_through order.dirty number }

-- the longest beginning of the pending list became a group
pub record Seals (old new : OrderState) (group : Numbered) : Type 0 where
  pub some : 1 ≤ length group.commands
  pub first : group.first ≡ old.sealed + 1
  pub beginning : old.pending ≡ group.commands ++ new.pending
  pub fits : bodies_of group.commands ≤ body_limit old.area
  -- one that is longer doesn't fit
  pub longest : (count : ℕ) → length group.commands < count → count ≤ length old.pending → body_limit old.area < bodies_of (take count old.pending)
  pub small : All HasSmallBody group.commands
  -- nothing else changed
  pub rest : new ≡ record old { sealed = old.sealed + length group.commands; in_hand = length group.commands; pending = new.pending }

-- the group is the last that was sealed: it has the last numbers
pub record IsInHand (order : OrderState) (group : Numbered) : Type 0 where
  pub last : group.first + length group.commands ≡ order.sealed + 1
  pub whole : length group.commands ≡ order.in_hand
  pub small : All HasSmallBody group.commands

-- the order once the group is pending again
abbrev pub with_group : OrderState → Numbered → OrderState
with_group order group = record order { sealed = group.first - 1; in_hand = 0; pending = group.commands ++ order.pending }

-- whether a keeper's count is published: it lies between the durable number and the mark
abbrev pub is_published : OrderState → ℕ → Bool
is_published order count = nat_le order.durable count && nat_le count order.mark

-- the order once all numbers up to the count are durable; a count that lies outside says nothing
abbrev pub with_durable : OrderState → ℕ → OrderState
with_durable order count =
    if is_published order count
    then record order { durable = count; bodies = drop (count - order.durable) order.bodies }
    else order

-- The keeper's seat is published a count: it is durable, if no more was before, and the seat knows all of the order. What it knew begins
-- that, and the order's base is no greater than its own.
pub record IsPublishedTo (old : KeeperKnows) (order : OrderState) (count : ℕ) (new : KeeperKnows) : Type 0 where
  pub durable : new.durable ≡ max old.durable count
  pub knew : IsPrefix old.history order.history
  pub knows : IsPrefix order.history new.history
  pub accepted : (old.accepted ≤ order.mark) × (order.mark ≤ new.accepted)
  pub base : (order.base ≤ old.base) × (new.base ≡ old.base)

-- What the keeper's seat knows once the order has published a count: where it didn't, what it knew.
abbrev pub PublishesTo : KeeperKnows → OrderState → ℕ → KeeperKnows → Type 0
PublishesTo old order count new = MatchBool (is_published order count) (IsPublishedTo old order count new) (new ≡ old)

-- the numbers from the last sealed one to the mark are those of the pending commands, from the durable one of the backlog, and from
-- the opening of the history
pub record IsNumbered (order : OrderState) : Type 0 where
  pub pending : order.sealed + length order.pending ≡ order.mark
  pub backlog : order.durable + length order.bodies ≡ order.mark
  pub history : order.opening + length order.history ≡ order.mark
  pub opened : (order.opening ≤ order.durable) × (order.opening + order.in_hand ≤ order.sealed)
  pub mark : order.mark < 18446744073709551616

-- what holds of each order; `spare` is the room after the pending commands, `opening` the number with which its board opened, and
-- `accepted` the one that it shows
pub record IsOrder (order : OrderState) (spare opening accepted : ℕ) : Type 0 where
  pub numbers : IsNumbered order
  pub named : order.opening ≡ opening
  pub shown : accepted ≡ order.mark
  pub backlog : sum order.bodies ≤ 67108864
  pub small : All HasSmallBody order.pending
  pub area : (2097152 ≤ order.area) × (order.area < 4294967296)
  -- the dirty blocks were written by commands up to the last one
  pub dirty : All (λ (held : DirtyBlock). held.number ≤ order.mark) order.cache.blocks.dirty
  -- a group in hand has its places
  pub kept : order.in_hand ≤ spare
