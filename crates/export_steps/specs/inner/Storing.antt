-- what sealing, storing and publishing do
use Rattle.std.specs.Prelude.{ℕ, ◌≡◌, ◌⊎◌, ◌<◌, ◌≤◌, true, Option, Some, None, [], ◌∷◌, ◌++◌}
use Rattle.device_image.specs.Keeper.{KeeperState}
use Rattle.checkpoint.specs.declared.fault.KeeperFault.{KeeperFault}
use Rattle.checkpoint.specs.declared.fault.KeeperFault.TheVariants as fault
use Rattle.journal_format.specs.Group.{Numbered}
use Rattle.std.specs.FinMap.{len}
use Rattle.order_book.specs.Order.{OrderState, Seals, with_clean, with_durable, with_group}
use Rattle.export_steps.specs.Parts.{IsKeeperOf, IsOrderOf}
use Rattle.export_model.specs.declared.event.Event.{Event}
use Rattle.export_model.specs.declared.event.Event.TheVariants.{Took, Skipped, Failed}
use Rattle.export_model.specs.declared.event.StepFault.TheVariants.{NoMemory, DeviceFault, NumbersFull, FailedBefore}
use Rattle.export_model.specs.World.{World}

-- the event of a group that the keeper refuses
abbrev pub event_of : KeeperFault → Event
event_of fault.NoMemory = Failed NoMemory
event_of fault.DeviceFault = Failed DeviceFault
event_of fault.BadMap = Skipped
event_of fault.NoHeader = Skipped
event_of fault.BadHeader = Skipped
event_of fault.NumbersFull = Skipped
event_of fault.AreaFull = Skipped
event_of fault.OutOfOrder = Skipped
event_of fault.DamagedGroup = Skipped
event_of fault.NotNow = Skipped
event_of fault.AreaSmall = Skipped
event_of fault.Failed = Failed FailedBefore

-- the order after it: the group is pending again, but where memory was refused, and a device fault stops the order
abbrev pub order_after : KeeperFault → OrderState → Numbered → OrderState
order_after fault.NoMemory order group = order
order_after fault.DeviceFault order group = record (with_group order group) { stopped = true }
order_after fault.BadMap order group = with_group order group
order_after fault.NoHeader order group = with_group order group
order_after fault.BadHeader order group = with_group order group
order_after fault.NumbersFull order group = with_group order group
order_after fault.AreaFull order group = with_group order group
order_after fault.OutOfOrder order group = with_group order group
order_after fault.DamagedGroup order group = with_group order group
order_after fault.NotNow order group = with_group order group
order_after fault.AreaSmall order group = with_group order group
order_after fault.Failed order group = with_group order group

-- the group in hand after it
abbrev pub hand_after : KeeperFault → Numbered → Option Numbered
hand_after fault.NoMemory group = Some group
hand_after fault.DeviceFault group = None
hand_after fault.BadMap group = None
hand_after fault.NoHeader group = None
hand_after fault.BadHeader group = None
hand_after fault.NumbersFull group = None
hand_after fault.AreaFull group = None
hand_after fault.OutOfOrder group = None
hand_after fault.DamagedGroup group = None
hand_after fault.NotNow group = None
hand_after fault.AreaSmall group = None
hand_after fault.Failed group = None

-- something is pending, and all that was sealed is durable
abbrev pub CanSeal : OrderState → Type 0
CanSeal order = (order.pending ≡ [] → ⊥) × (order.durable < order.sealed → ⊥)

-- sealing with these hands before and after: nothing with a group in hand or where there is nothing to seal, and else a
-- group or no memory
abbrev pub SealsBy : Option Numbered → OrderState → OrderState → Option Numbered → Event → Type 0
SealsBy (Some group) old new after event = (new ≡ old) × (after ≡ Some group) × (event ≡ Skipped)
SealsBy None old new after event =
    (((old.pending ≡ []) ⊎ (old.durable < old.sealed)) × (new ≡ old) × (after ≡ None) × (event ≡ Skipped))
    ⊎ ((CanSeal old × (new ≡ old) × (after ≡ None) × (event ≡ Failed NoMemory))
    ⊎ ((group : Numbered) × CanSeal old × Seals old new group × (after ≡ Some group) × (event ≡ Took)))

-- publishing what a keeper has stored up to a number
abbrev pub PublishesBy : ℕ → OrderState → OrderState → Event → Type 0
PublishesBy count old new event =
    ((old.durable < count) × (new ≡ with_durable old count) × (event ≡ Took))
    ⊎ ((count ≤ old.durable) × (new ≡ old) × (event ≡ Skipped))

-- The order and the keeper are those of the next world, and the connections stay as they are.
pub record IsKept {D : Type 0} (world next : World) (event : Event) (order : OrderState) (group : Option Numbered) (keeper : KeeperState D) (failures : ℕ) : Type 0 where
  pub connections : next.connections ≡ world.connections
  pub log : next.log ≡ world.log ++ event ∷ []
  pub of_order : IsOrderOf next.stage order group
  pub of_keeper : IsKeeperOf next.stage keeper failures

-- the event of a step of a checkpoint that the keeper refuses
abbrev pub step_event : KeeperFault → Event
step_event fault.NoMemory = Failed NoMemory
step_event fault.DeviceFault = Failed DeviceFault
step_event fault.BadMap = Skipped
step_event fault.NoHeader = Skipped
step_event fault.BadHeader = Skipped
step_event fault.NumbersFull = Failed NumbersFull
step_event fault.AreaFull = Skipped
step_event fault.OutOfOrder = Skipped
step_event fault.DamagedGroup = Skipped
step_event fault.NotNow = Skipped
step_event fault.AreaSmall = Skipped
step_event fault.Failed = Failed FailedBefore

-- the order once the device has failed: it is stopped, and a group in hand is pending again
abbrev pub stopped_with : Option Numbered → OrderState → OrderState
stopped_with None order = record order { stopped = true }
stopped_with (Some group) order = record (with_group order group) { stopped = true }

-- order and hand after such a refusal
abbrev pub order_refused : KeeperFault → Option Numbered → OrderState → OrderState
order_refused fault.NoMemory hand order = order
order_refused fault.DeviceFault hand order = stopped_with hand order
order_refused fault.BadMap hand order = order
order_refused fault.NoHeader hand order = order
order_refused fault.BadHeader hand order = order
order_refused fault.NumbersFull hand order = order
order_refused fault.AreaFull hand order = order
order_refused fault.OutOfOrder hand order = order
order_refused fault.DamagedGroup hand order = order
order_refused fault.NotNow hand order = order
order_refused fault.AreaSmall hand order = order
order_refused fault.Failed hand order = order

abbrev pub hand_refused : KeeperFault → Option Numbered → Option Numbered
hand_refused fault.NoMemory hand = hand
hand_refused fault.DeviceFault hand = None
hand_refused fault.BadMap hand = hand
hand_refused fault.NoHeader hand = hand
hand_refused fault.BadHeader hand = hand
hand_refused fault.NumbersFull hand = hand
hand_refused fault.AreaFull hand = hand
hand_refused fault.OutOfOrder hand = hand
hand_refused fault.DamagedGroup hand = hand
hand_refused fault.NotNow hand = hand
hand_refused fault.AreaSmall hand = hand
hand_refused fault.Failed hand = hand

-- letting go of the frames of dirty blocks up to a number: some were let go, or there was none
abbrev pub CleansBy : ℕ → OrderState → OrderState → Event → Type 0
CleansBy number old new event =
    ((len (with_clean old number).dirty < len old.dirty) × (new ≡ with_clean old number) × (event ≡ Took))
    ⊎ ((with_clean old number ≡ old) × (new ≡ old) × (event ≡ Skipped))
