-- what the functions that carry out a step hand to one another
use Rattle.std.specs.Prelude.{ℕ, ◌≡◌, ◌⊎◌, true, Option, List, [], ◌∷◌, ◌++◌}
use Rattle.device_image.specs.Keeper.{KeeperState}
use Rattle.disk_model.specs.Disk.{State, LeavesOnly}
use Rattle.journal_format.specs.Group.{Numbered}
use Rattle.order_book.specs.Order.{OrderState}
use Rattle.export_steps.specs.Bench.{ConnectionsState}
use Rattle.export_steps.specs.Parts.{AreConnectionsOf, IsDiskOf, IsKeeperOf, IsOrderOf, Shows, StandsAfter}
use Rattle.export_steps.specs.inner.Serving.{IsServed, IsTalked}
use Rattle.export_steps.specs.inner.Storing.{IsKept}
use Rattle.export_model.specs.declared.event.Event.{Event}
use Rattle.export_model.specs.declared.connection.Connection.{Connection}
use Rattle.export_model.specs.World.{World, put}

-- The device is of the next world, and a crash at any moment since before leaves what reaches all that was stored then.
abbrev pub KeepsDisk : {D : Type 0} → World → World → KeeperState D → KeeperState D → State → State → Type 0
KeepsDisk world next old new before after =
    IsDiskOf world.stage old before
    → IsDiskOf next.stage new after × LeavesOnly before after (StandsAfter world.stage.order world.stage.setting.image world.stage.setting.opening world.stage.stored)

-- The group in hand was appended, or was not: order and keeper are those of the next world, and so is the device.
pub record IsAppended {D : Type 0} (world next : World) (event : Event) (order : OrderState) (group : Option Numbered) (old new : KeeperState D) (failures : ℕ)
    (honest : Type 0) (before after : State) : Type 0 where
  pub kept : IsKept world next event order group new failures
  pub disk : honest → KeepsDisk world next old new before after

-- What the order knows of the image is that of the next world, where the device was of the world before.
abbrev pub KeepsShown : {D : Type 0} → World → World → OrderState → OrderState → KeeperState D → State → Type 0
KeepsShown world next old new keeper before = IsDiskOf world.stage keeper before → Shows world.stage old → Shows next.stage new

-- A step was carried out: order, keeper and connections are those of the next world, and so are the device and what the order
-- knows of the image.
pub record IsPerformed {D : Type 0} (world next : World) (event : Event) (first order : OrderState) (connections : ConnectionsState) (old new : KeeperState D) (failures : ℕ)
    (honest : Type 0) (before after : State) : Type 0 where
  pub of_states : AreConnectionsOf next connections.states
  pub log : next.log ≡ world.log ++ event ∷ []
  pub of_order : IsOrderOf next.stage order connections.group
  pub of_keeper : IsKeeperOf next.stage new failures
  pub disk : honest → KeepsDisk world next old new before after
  pub shows : honest → KeepsShown world next first order old before

-- What is known of an image that a world trusts: its device is honest and is that of the world, and so is what the order knows.
abbrev pub IsSure : {D : Type 0} → World → OrderState → KeeperState D → Type 0 → State → Type 0
IsSure world order keeper honest state = world.stage.setting.trusted ≡ true → honest × IsDiskOf world.stage keeper state × Shows world.stage order

-- A READ was served, and the device was asked for it: order, keeper and the connection are those of the next world, and so are the
-- device and what the order knows of the image.
pub record IsAsked {D : Type 0} (world next : World) (connection : ℕ) (state : Connection) (event : Event) (first order : OrderState) (group : Option Numbered) (old new : KeeperState D) (failures : ℕ)
    (honest : Type 0) (before after : State) : Type 0 where
  pub connections : (other : ℕ) → put world.connections connection state other ≡ next.connections other
  pub log : next.log ≡ world.log ++ event ∷ []
  pub of_order : IsOrderOf next.stage order group
  pub of_keeper : IsKeeperOf next.stage new failures
  pub disk : honest → KeepsDisk world next old new before after
  pub shows : honest → KeepsShown world next first order old before

-- A connection was served, without the device or with it.
abbrev pub IsAnyServed : {D : Type 0} → World → World → ℕ → Connection → Event → OrderState → OrderState → Option Numbered → Option Numbered → KeeperState D → KeeperState D → ℕ → Type 0 → State → State → Type 0
IsAnyServed world next connection state event first order hand group old new failures honest before after =
    ((new ≡ old) × (group ≡ hand) × IsServed world next connection state event order hand × (Shows world.stage first → Shows next.stage order))
    ⊎ IsAsked world next connection state event first order group old new failures honest before after

-- the same of all connections
abbrev pub IsAnyTalked : {D : Type 0} → World → World → List Connection → Event → OrderState → OrderState → Option Numbered → Option Numbered → KeeperState D → KeeperState D → ℕ → Type 0 → State → State → Type 0
IsAnyTalked world next connections event first order hand group old new failures honest before after =
    ((new ≡ old) × (group ≡ hand) × IsTalked world next connections event order hand × (Shows world.stage first → Shows next.stage order))
    ⊎ IsPerformed world next event first order (record { flags = world.stage.setting.flags; mode = world.stage.setting.mode; states = connections; group = group }) old new failures honest before after
