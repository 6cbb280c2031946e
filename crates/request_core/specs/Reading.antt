-- what serving a READ and a BLOCK_STATUS does
use Rattle.std.specs.Prelude.{ℕ, ◌≡◌, ◌≢◌, ◌+◌, ◌/◌, ◌%◌, ◌<◌, ◌≤◌, ◌⊎◌, true, false, IsTrue, List, Ok, Some, None, slice_index}
use Rattle.alloc_map.specs.Codes.{state_at}
use Rattle.checkpoint.specs.Keeper.{faults_by, refused_by}
use Rattle.checkpoint.specs.declared.fault.KeeperFault.{KeeperFault}
use Rattle.checkpoint.specs.declared.fault.KeeperFault.TheVariants as fault
use Rattle.device_image.specs.Holds.{Holds, is_written, joined}
use Rattle.device_image.specs.Keeper.{KeeperState}
use Rattle.disk_model.specs.Disk.{State}
use Rattle.image_model.specs.Change.{Change}
use Rattle.image_model.specs.Edit.{blocks_met}
use Rattle.image_model.specs.Image.{Image}
use Rattle.image_model.specs.declared.geometry.Geometry.{Geometry}
use Rattle.image_model.specs.declared.command.Kind.TheVariants.{Data}
use Rattle.journal_format.specs.Reading.{IsOnlyRead}
use Rattle.nbd_wire.specs.declared.error.Errno.TheVariants.{Io, NoMemory}
use Rattle.nbd_wire.specs.declared.head.RequestHead.{RequestHead}
use Rattle.nbd_wire.specs.declared.message.Answer.TheVariants.{Refused}
use Rattle.nbd_wire.specs.declared.message.SessionFlags.{SessionFlags}
use Rattle.order_book.specs.Order.{OrderState}
use Rattle.order_book.specs.Reading.{GivesBase, IsCleanAt, LiesIn}
use Rattle.order_book.specs.Shown.{ShowsImage}
use Rattle.order_book.specs.declared.span.Span.{Span}
use Rattle.request_core.specs.Serving.{ready_for}
use Rattle.request_core.specs.declared.serving.Served.{Served}
use Rattle.shared_cache.specs.Cache.{bytes_seen}
use Rattle.export_model.specs.Shown.{shown_by}
use Rattle.export_model.specs.Verdict.{IsServedRange, verdict}
use Rattle.export_model.specs.declared.action.Action.TheVariants.{Serve}

-- A READ is answered with what an image shows: its states are those of the order, and the bytes of a block those in memory, where
-- it has some, and else those of the data region. If the keeper holds what the order has clean, it is the order's own image.
pub record IsRead {D : Type 0} (state : D → State) (faults : D → ℕ) (honest : D → Type 0) (head : RequestHead) (old new : OrderState) (keeper next : KeeperState D) (result : Served) : Type 0 where
  pub image : Image
  pub kinds : (block : ℕ) → image.kind block ≡ state_at old.cache.states block
  pub in_memory : (k : ℕ) (bytes : List ℕ) → k < head.length → bytes_seen old.cache ((head.offset + k) / 4096) ≡ Some bytes
      → image.byte (head.offset + k) ≡ slice_index bytes ((head.offset + k) % 4096)
  pub from_base : honest keeper.disk → (base : Image) (fronts : List (List Change)) (last : List Change) → Holds keeper (state keeper.disk) base fronts last
      → (k : ℕ) → k < head.length → bytes_seen old.cache ((head.offset + k) / 4096) ≡ None
      → base.kind ((head.offset + k) / 4096) ≡ Data → is_written ((head.offset + k) / 4096) (joined fronts) ≡ false
      → image.byte (head.offset + k) ≡ base.byte (head.offset + k)
  pub own : honest keeper.disk → (base given : Image) (fronts : List (List Change)) (last : List Change) → Holds keeper (state keeper.disk) base fronts last
      → ShowsImage given old.cache → IsCleanAt base (joined fronts) given old.dirty
      → (k : ℕ) → k < head.length → image.byte (head.offset + k) ≡ given.byte (head.offset + k)
  pub shows : honest keeper.disk → (base given : Image) (fronts : List (List Change)) (last : List Change) → Holds keeper (state keeper.disk) base fronts last
      → ShowsImage given old.cache → IsCleanAt base (joined fronts) given old.dirty → ShowsImage given new.cache
  pub answer : result ≡ ready_for head.cookie (shown_by image head)
  -- only what is in memory has changed, and the device was read alone
  pub order : new ≡ record old { cache = new.cache }
  pub states : new.cache.states ≡ old.cache.states
  pub keeper_is : next ≡ record keeper { disk = next.disk }
  pub level : faults next.disk ≡ faults keeper.disk
  pub only_read : honest keeper.disk → IsOnlyRead (state keeper.disk) (state next.disk)
  pub holds : honest keeper.disk → (base : Image) (fronts : List (List Change)) (last : List Change) → Holds keeper (state keeper.disk) base fronts last → Holds next (state next.disk) base fronts last
  -- of a keeper that had failed nothing was read: all was in memory
  pub in_frames : keeper.failed ≡ true → new ≡ old
  pub there : keeper.failed ≡ true → (k : ℕ) → k < head.length → bytes_seen old.cache ((head.offset + k) / 4096) ≢ None

-- A call of the device failed, or has failed before: the answer is EIO, and the order is stopped.
pub record IsUnread {D : Type 0} (state : D → State) (faults : D → ℕ) (honest : D → Type 0) (head : RequestHead) (old new : OrderState) (keeper next : KeeperState D) (result : Served) : Type 0 where
  pub refusal : KeeperFault
  pub cause : (refusal ≡ fault.DeviceFault) ⊎ ((refusal ≡ fault.Failed) × IsTrue keeper.failed)
  pub answer : result ≡ ready_for head.cookie (Refused Io)
  pub order : new ≡ record old { stopped = true }
  pub keeper_is : next ≡ refused_by refusal keeper next.disk
  pub level : faults next.disk ≡ faults_by refusal (faults keeper.disk)
  pub only_read : honest keeper.disk → IsOnlyRead (state keeper.disk) (state next.disk)

-- A READ of blocks that are all in memory is answered with what an image shows: its states are those of the order, and its bytes
-- those in memory, so those of each image that the order shows.
pub record IsHeldRead (head : RequestHead) (order : OrderState) (result : Served) : Type 0 where
  pub image : Image
  pub kinds : (block : ℕ) → image.kind block ≡ state_at order.cache.states block
  pub there : (k : ℕ) → k < head.length → bytes_seen order.cache ((head.offset + k) / 4096) ≢ None
  pub in_memory : (k : ℕ) (bytes : List ℕ) → k < head.length → bytes_seen order.cache ((head.offset + k) / 4096) ≡ Some bytes
      → image.byte (head.offset + k) ≡ slice_index bytes ((head.offset + k) % 4096)
  pub own : (given : Image) → ShowsImage given order.cache → (k : ℕ) → k < head.length → image.byte (head.offset + k) ≡ given.byte (head.offset + k)
  pub answer : result ≡ ready_for head.cookie (shown_by image head)

-- what serving such a READ comes to: memory is refused, or it is answered
abbrev pub IsHeldReadServed : RequestHead → OrderState → Served → Type 0
IsHeldReadServed head order result = (result ≡ ready_for head.cookie (Refused NoMemory)) ⊎ IsHeldRead head order result

-- what serving a READ comes to: memory is refused and nothing has changed, or it is answered
abbrev pub IsReadServed : {D : Type 0} → (D → State) → (D → ℕ) → (D → Type 0) → RequestHead → OrderState → OrderState → KeeperState D → KeeperState D → Served → Type 0
IsReadServed state faults honest head old new keeper next result =
    ((new ≡ old) × (next ≡ keeper) × (result ≡ ready_for head.cookie (Refused NoMemory)))
    ⊎ (IsRead state faults honest head old new keeper next result ⊎ IsUnread state faults honest head old new keeper next result)

-- what serving a BLOCK_STATUS comes to: memory is refused, or it is answered with what any image shows that has the order's states
abbrev pub IsStatusServed : RequestHead → OrderState → Served → Type 0
IsStatusServed head order result =
    (result ≡ ready_for head.cookie (Refused NoMemory))
    ⊎ ((image : Image) → ((block : ℕ) → image.kind block ≡ state_at order.cache.states block) → result ≡ ready_for head.cookie (shown_by image head))

-- The request is a READ that passes judgement, and the span lies among the blocks that it touches.
pub record IsPlanned (head : RequestHead) (geometry : Geometry) (flags : SessionFlags) (span : Span) : Type 0 where
  pub passes : verdict head geometry flags ≡ Ok Serve
  pub reads : head.kind ≡ 0
  pub range : IsServedRange head geometry
  pub from : head.offset / 4096 ≤ span.first
  pub some : span.first < head.offset / 4096 + blocks_met head.offset head.length
  pub order : span.first ≤ span.end
  pub end : span.end ≤ head.offset / 4096 + blocks_met head.offset head.length

-- A READ for which bytes of a span were read before is answered with what an image shows: its states are those of the order, and the
-- bytes of a block those in memory, where it has some, and else those handed in, which begin with the block of the first byte; each
-- of these lies in the span. If those are the base's, and the order has clean what the base has, it is the order's own image.
pub record IsReadOver (head : RequestHead) (span : Span) (bytes : List ℕ) (old new : OrderState) (result : Served) : Type 0 where
  pub works : old.stopped ≡ false
  pub inside : (k : ℕ) → k < head.length → bytes_seen old.cache ((head.offset + k) / 4096) ≡ None → LiesIn ((head.offset + k) / 4096) span
  pub image : Image
  pub kinds : (block : ℕ) → image.kind block ≡ state_at old.cache.states block
  pub in_memory : (k : ℕ) (bytes : List ℕ) → k < head.length → bytes_seen old.cache ((head.offset + k) / 4096) ≡ Some bytes
      → image.byte (head.offset + k) ≡ slice_index bytes ((head.offset + k) % 4096)
  pub handed : (k : ℕ) → k < head.length → bytes_seen old.cache ((head.offset + k) / 4096) ≡ None
      → image.byte (head.offset + k) ≡ slice_index bytes (head.offset % 4096 + k)
  pub own : (base given : Image) (front : List Change) → GivesBase (head.offset / 4096) bytes old.cache base front
      → ShowsImage given old.cache → IsCleanAt base front given old.dirty
      → (k : ℕ) → k < head.length → image.byte (head.offset + k) ≡ given.byte (head.offset + k)
  pub shows : (base given : Image) (front : List Change) → GivesBase (head.offset / 4096) bytes old.cache base front
      → ShowsImage given old.cache → IsCleanAt base front given old.dirty → ShowsImage given new.cache
  pub answer : result ≡ ready_for head.cookie (shown_by image head)
  -- only what is in memory has changed
  pub order : new ≡ record old { cache = new.cache }
  pub states : new.cache.states ≡ old.cache.states

-- what serving such a READ comes to: memory is refused and nothing has changed, or it is answered
abbrev pub IsReadOverServed : RequestHead → Span → List ℕ → OrderState → OrderState → Served → Type 0
IsReadOverServed head span bytes old new result =
    ((new ≡ old) × (result ≡ ready_for head.cookie (Refused NoMemory))) ⊎ IsReadOver head span bytes old new result
