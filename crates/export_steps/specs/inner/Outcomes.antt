-- Definitions for contracts between functions of this crate, next to those of `Outcomes`.
use Rattle.std.specs.Prelude.{ℕ, ◌≡◌, ◌⊎◌, true, false, Option, None, Result, Ok}
use Rattle.device_image.specs.Keeper.{KeeperState}
use Rattle.disk_model.specs.Disk.{State}
use Rattle.image_model.specs.declared.geometry.Geometry.{Geometry}
use Rattle.journal_format.specs.Group.{Numbered}
use Rattle.nbd_wire.specs.Request.{Message}
use Rattle.nbd_wire.specs.declared.error.Errno.{Errno}
use Rattle.order_book.specs.Order.{OrderState}
use Rattle.request_core.specs.Reading.{IsUnread}
use Rattle.export_steps.specs.inner.Storing.{stopped_with}
use Rattle.request_core.specs.declared.serving.Served.{Served}
use Rattle.export_model.specs.Log.{is_write}
use Rattle.export_model.specs.declared.action.Action.{Action}
use Rattle.export_model.specs.declared.step.Mode.{Mode}
use Rattle.request_core.specs.Outcomes.{IsEditRefused, IsServedBy}

-- A call of the device failed while a request was served, or had failed before.
abbrev pub IsStopped : {D : Type 0} → (D → State) → (D → ℕ) → (D → Type 0) → Message → OrderState → OrderState → KeeperState D → KeeperState D → Served → Type 0
IsStopped state faults honest request old new keeper next result =
    ((request.head.kind ≡ 0) × IsUnread state faults honest request.head old new keeper next result)
    ⊎ ((is_write request ≡ true) × IsEditRefused state faults honest request old new keeper next result)

-- The same, where a group in hand is pending again once a call of the device has failed in it.
abbrev pub IsServedWith : {D : Type 0} → (D → State) → (D → ℕ) → (D → Type 0) → Result Action Errno → Message → Geometry → Mode → OrderState → OrderState → KeeperState D → KeeperState D → Option Numbered → Option Numbered → Served → Type 0
IsServedWith state faults honest given request geometry kept old new keeper next hand left result =
    ((left ≡ hand) × (old.stopped ≡ false → new.stopped ≡ false) × IsServedBy state faults honest given request geometry kept old new keeper next result)
    ⊎ ((given ≡ Ok Action.Serve) × (old.stopped ≡ false) × (left ≡ None) × (middle : OrderState) × IsStopped state faults honest request old middle keeper next result
    × (new ≡ stopped_with hand middle))
