-- what serving a request comes to, by the verdict on it
use Rattle.std.specs.Prelude.{ℕ, ◌≡◌, ◌≢◌, ◌/◌, ◌<◌, ◌⊎◌, true, false, List, Result, Ok, Err}
use Rattle.device_image.specs.Keeper.{KeeperState}
use Rattle.disk_model.specs.Disk.{State}
use Rattle.device_image.specs.Holds.{Holds}
use Rattle.journal_format.specs.Reading.{IsOnlyRead}
use Rattle.image_model.specs.Change.{Change}
use Rattle.image_model.specs.Edit.{becomes, blocks_met}
use Rattle.image_model.specs.Image.{Image}
use Rattle.order_book.specs.Shown.{ShowsImage}
use Rattle.image_model.specs.declared.geometry.Geometry.{Geometry}
use Rattle.nbd_wire.specs.Request.{Message}
use Rattle.nbd_wire.specs.declared.error.Errno.{Errno}
use Rattle.nbd_wire.specs.declared.error.Errno.TheVariants.{Io}
use Rattle.nbd_wire.specs.declared.message.Answer.TheVariants.{Refused}
use Rattle.order_book.specs.Edits.{NeedsDevice as NeedsOld}
use Rattle.order_book.specs.Order.{OrderState, has_room_for}
use Rattle.request_core.specs.Reading.{IsHeldReadServed, IsReadServed, IsStatusServed, IsUnread}
use Rattle.order_book.specs.Edits.{IsKnownBy}
use Rattle.request_core.specs.Serving.{IsWriteServed, ready_for, served_after}
use Rattle.request_core.specs.declared.serving.Served.{Served}
use Rattle.shared_cache.specs.Cache.{LacksBytes}
use Rattle.export_model.specs.Log.{edit_asked, flush_waits, is_flush, is_write}
use Rattle.export_model.specs.Serve.{takes_old_bytes}
use Rattle.export_model.specs.declared.action.Action.{Action}
use Rattle.export_model.specs.declared.step.Mode.{Mode}

-- What a request that passes judgement, and for which the device isn't asked, makes of an order, but for a READ: after a device
-- fault EIO, a FLUSH waits for the last number or is answered at once, a BLOCK_STATUS shows the states, and an edit becomes the same over each image that
-- memory shows.
abbrev pub IsPassed : Message → Geometry → Mode → OrderState → OrderState → Served → Type 0
IsPassed request geometry kept old new result =
    ((old.stopped ≡ true) × (new ≡ old) × (result ≡ ready_for request.head.cookie (Refused Io)))
    ⊎ ((old.stopped ≡ false) × (is_flush request ≡ true) × (new ≡ old) × (result ≡ served_after (flush_waits kept) request.head.cookie old.mark))
    ⊎ ((old.stopped ≡ false) × (request.head.kind ≡ 7) × (new ≡ old) × IsStatusServed request.head old result)
    ⊎ ((old.stopped ≡ false) × (is_flush request ≡ false) × (request.head.kind ≢ 0) × (request.head.kind ≢ 7) × IsWriteServed request geometry kept (λ image. ShowsImage image old.cache) old new result)

-- Whether a request on which this is the verdict needs the keeper, of an order that isn't stopped: a READ that touches a block which
-- isn't in memory, or a write request whose edit needs old bytes that aren't, and for which there is a number and room.
abbrev pub NeedsDevice : Result Action Errno → Message → OrderState → Type 0
NeedsDevice given request order =
    (given ≡ Ok Action.Serve) × (order.stopped ≡ false)
    × (((request.head.kind ≡ 0) × LacksBytes order.cache (request.head.offset / 4096) (blocks_met request.head.offset request.head.length))
    ⊎ ((is_write request ≡ true) × NeedsOld order (edit_asked request)))

-- What a request that doesn't need the keeper, and on which this is the verdict, makes of an order, and what it comes to.
abbrev pub IsServedHere : Result Action Errno → Message → Geometry → Mode → OrderState → OrderState → Served → Type 0
IsServedHere (Ok Action.End) request geometry kept old new result = ⊥
IsServedHere (Ok Action.Serve) request geometry kept old new result =
    IsPassed request geometry kept old new result
    ⊎ ((old.stopped ≡ false) × (request.head.kind ≡ 0) × (new ≡ old) × IsHeldReadServed request.head old result)
IsServedHere (Err errno) request geometry kept old new result = (new ≡ old) × (result ≡ ready_for request.head.cookie (Refused errno))

-- The device was asked for old bytes of a write request, but nothing of it has changed, and the keeper holds what it held. The edit
-- becomes the same over the order's own image, where the keeper holds what the order has clean; over a keeper that had failed no
-- command was accepted.
pub record IsEditServed {D : Type 0} (state : D → State) (faults : D → ℕ) (honest : D → Type 0) (request : Message) (geometry : Geometry) (kept : Mode) (old new : OrderState) (keeper next : KeeperState D) (result : Served) : Type 0 where
  pub served : IsWriteServed request geometry kept (IsKnownBy state honest keeper old) old new result
  pub works : keeper.failed ≡ true → new ≡ old
  pub keeper_is : next ≡ record keeper { disk = next.disk }
  pub level : faults next.disk ≡ faults keeper.disk
  pub only_read : honest keeper.disk → IsOnlyRead (state keeper.disk) (state next.disk)
  pub holds : honest keeper.disk → (base : Image) (fronts : List (List Change)) (last : List Change) → Holds keeper (state keeper.disk) base fronts last → Holds next (state next.disk) base fronts last

-- A call of the device failed, or has failed before, for old bytes of a write request for which there is a number and room.
pub record IsEditRefused {D : Type 0} (state : D → State) (faults : D → ℕ) (honest : D → Type 0) (request : Message) (old new : OrderState) (keeper next : KeeperState D) (result : Served) : Type 0 where
  pub left : old.mark < 18446744073709551615
  pub image : Image
  pub room : has_room_for old (becomes (edit_asked request) image) ≡ true
  pub takes : takes_old_bytes (edit_asked request) image ≡ true
  -- so it is of each image that memory shows
  pub own : (given : Image) → ShowsImage given old.cache → (has_room_for old (becomes (edit_asked request) given) ≡ true) × (takes_old_bytes (edit_asked request) given ≡ true)
  pub unread : IsUnread state faults honest request.head old new keeper next result

-- what serving a write request with the device comes to
abbrev pub IsWriteAsked : {D : Type 0} → (D → State) → (D → ℕ) → (D → Type 0) → Message → Geometry → Mode → OrderState → OrderState → KeeperState D → KeeperState D → Served → Type 0
IsWriteAsked state faults honest request geometry kept old new keeper next result =
    IsEditServed state faults honest request geometry kept old new keeper next result ⊎ IsEditRefused state faults honest request old new keeper next result

-- What a request on which this is the verdict makes of an order and a keeper, and what it comes to. A READ and an edit may need the
-- keeper.
abbrev pub IsServedBy : {D : Type 0} → (D → State) → (D → ℕ) → (D → Type 0) → Result Action Errno → Message → Geometry → Mode → OrderState → OrderState → KeeperState D → KeeperState D → Served → Type 0
IsServedBy state faults honest (Ok Action.End) request geometry kept old new keeper next result = ⊥
IsServedBy state faults honest (Ok Action.Serve) request geometry kept old new keeper next result =
    ((next ≡ keeper) × IsPassed request geometry kept old new result)
    ⊎ ((old.stopped ≡ false) × (request.head.kind ≡ 0) × IsReadServed state faults honest request.head old new keeper next result)
    ⊎ ((old.stopped ≡ false) × (is_write request ≡ true) × IsWriteAsked state faults honest request geometry kept old new keeper next result)
IsServedBy state faults honest (Err errno) request geometry kept old new keeper next result =
    (next ≡ keeper) × (new ≡ old) × (result ≡ ready_for request.head.cookie (Refused errno))
