-- what a step that the keeper refuses leaves of a group in hand, and of the keeper
use Rattle.std.specs.Prelude.{IfSome}
use Rattle.std.proofs.Common.{◌≡◌, ◌∙◌, Option, ap, refl, subst, sym}
use Rattle.checkpoint.specs.Keeper.{refused_by}
use Rattle.checkpoint.specs.declared.fault.KeeperFault.{KeeperFault}
use Rattle.checkpoint.specs.declared.fault.KeeperFault.TheVariants as fault
use Rattle.device_image.specs.Keeper.{KeeperState}
use Rattle.journal_format.specs.Group.{Numbered}
use Rattle.order_book.specs.Order.{IsInHand, OrderState}
use Rattle.export_steps.specs.inner.Storing.{hand_refused, order_refused}

-- only a fault of the device takes the group out of the hand
pub hand_left : (refusal : KeeperFault) (hand after : Option Numbered) (order new : OrderState) → IfSome hand (IsInHand order) → new ≡ order_refused refusal hand order → after ≡ hand_refused refusal hand
    → IfSome after (IsInHand new)
hand_left refusal hand after order new is order_is hand_is =
    subst (λ (h : Option Numbered). IfSome h (IsInHand new)) (sym hand_is)
    (subst (λ (o : OrderState). IfSome (hand_refused refusal hand) (IsInHand o)) (sym order_is) (left refusal is))
  where
    left : (f : KeeperFault) → IfSome hand (IsInHand order) → IfSome (hand_refused f hand) (IsInHand (order_refused f hand order))
    left fault.NoMemory was = was
    left fault.DeviceFault was = tt
    left fault.BadMap was = was
    left fault.NoHeader was = was
    left fault.BadHeader was = was
    left fault.NumbersFull was = was
    left fault.AreaFull was = was
    left fault.OutOfOrder was = was
    left fault.DamagedGroup was = was
    left fault.NotNow was = was
    left fault.AreaSmall was = was
    left fault.Failed was = was

-- the keeper has the sizes and the last number that it had
pub keeper_left : {D : Type 0} (refusal : KeeperFault) (old new : KeeperState D) → new ≡ refused_by refusal old new.disk → (new.geometry ≡ old.geometry) × (new.count ≡ old.count)
keeper_left {D} refusal old new is = (ap (λ (k : KeeperState D). k.geometry) is ∙ (same refusal).0, ap (λ (k : KeeperState D). k.count) is ∙ (same refusal).1)
  where
    same : (f : KeeperFault) → ((refused_by f old new.disk).geometry ≡ old.geometry) × ((refused_by f old new.disk).count ≡ old.count)
    same fault.NoMemory = (refl, refl)
    same fault.DeviceFault = (refl, refl)
    same fault.BadMap = (refl, refl)
    same fault.NoHeader = (refl, refl)
    same fault.BadHeader = (refl, refl)
    same fault.NumbersFull = (refl, refl)
    same fault.AreaFull = (refl, refl)
    same fault.OutOfOrder = (refl, refl)
    same fault.DamagedGroup = (refl, refl)
    same fault.NotNow = (refl, refl)
    same fault.AreaSmall = (refl, refl)
    same fault.Failed = (refl, refl)
