use Rattle.std.proofs.Common.{◌≡◌, ℕ, false, inl, inr, Option, Some, None, IfSome, Result, Ok, Err, ap, sym, true, ◌+◌, ◌∙◌}
use Rattle.device_image.specs.Keeper.{KeeperState}
use Rattle.disk_model.specs.Disk.{State}
use Rattle.image_model.specs.declared.geometry.Geometry.{Geometry}
use Rattle.journal_format.specs.Group.{Numbered}
use Rattle.nbd_wire.specs.Request.{Message}
use Rattle.nbd_wire.specs.declared.error.Errno.{Errno}
use Rattle.order_book.specs.Order.{IsInHand, OrderState}
use Rattle.export_steps.proofs.DeviceReads.{now_stopped}
use Rattle.export_steps.proofs.requests.serve_or_stop.Goals as goal
use Rattle.image_model.specs.Image.{Image}
use Rattle.order_book.specs.Shown.{ShowsImage}
use Rattle.request_core.specs.Outcomes.{IsPassed, IsServedBy}
use Rattle.request_core.specs.Reading.{IsUnread}
use Rattle.order_book.specs.Edits.{IsKnownBy}
use Rattle.request_core.specs.Serving.{IsWriteServed}
use Rattle.request_core.specs.declared.serving.Served.{Served}
use Rattle.export_model.specs.declared.action.Action.{Action}
use Rattle.export_model.specs.declared.action.Action.TheVariants.{End, Serve}
use Rattle.export_model.specs.declared.step.Mode.{Mode}

-- a group in hand stays the last that was sealed where neither the last sealed number nor how many it has changes
still_in_hand : (old new : OrderState) (hand : Option Numbered) → new.sealed ≡ old.sealed → new.in_hand ≡ old.in_hand
    → IfSome hand (IsInHand old) → IfSome hand (IsInHand new)
still_in_hand old new None sealed count was = was
still_in_hand old new (Some group) sealed count was = record {
  last = was.last ∙ ap (λ (n : ℕ). n + 1) (sym sealed);
  whole = was.whole ∙ sym count;
  small = was.small;
}

module _ {D : Type 0} (state : D → State) (faults : D → ℕ) (honest : D → Type 0) (request : Message) (geometry : Geometry) (kept : Mode) (old new : OrderState) (keeper next : KeeperState D) (result : Served) (hand : Option Numbered)
    (was : IfSome hand (IsInHand old)) where
  same_order : new ≡ old → IfSome hand (IsInHand new)
  same_order same = still_in_hand old new hand (ap (λ (o : OrderState). o.sealed) same) (ap (λ (o : OrderState). o.in_hand) same) was

  write_in_hand : (own : Image → Type 0) → IsWriteServed request geometry kept own old new result → IfSome hand (IsInHand new)
  write_in_hand own (inl full) = same_order full.1
  write_in_hand own (inr (left, image, inl no_room)) = same_order no_room.1
  write_in_hand own (inr (left, image, inr (inl no_memory))) = same_order no_memory.1
  write_in_hand own (inr (left, image, inr (inr (taken, is)))) =
      still_in_hand old new hand (ap (λ (o : OrderState). o.sealed) taken.more.2) (ap (λ (o : OrderState). o.in_hand) taken.more.2) was

  passed_in_hand : IsPassed request geometry kept old new result → IfSome hand (IsInHand new)
  passed_in_hand (inl stopped) = same_order stopped.1
  passed_in_hand (inr (inl flush)) = same_order flush.2
  passed_in_hand (inr (inr (inl status))) = same_order status.2
  passed_in_hand (inr (inr (inr write))) = write_in_hand (λ image. ShowsImage image old.cache) write.4

  unread_in_hand : IsUnread state faults honest request.head old new keeper next result → IfSome hand (IsInHand new)
  unread_in_hand unread = still_in_hand old new hand (ap (λ (o : OrderState). o.sealed) unread.order) (ap (λ (o : OrderState). o.in_hand) unread.order) was

  served_in_hand : (given : Result Action Errno) → IsServedBy state faults honest given request geometry kept old new keeper next result → IfSome hand (IsInHand new)
  served_in_hand (Ok End) by = absurd by
  served_in_hand (Ok Serve) (inl (same, passed)) = passed_in_hand passed
  served_in_hand (Ok Serve) (inr (inl (works, kind, inl no_memory))) = same_order no_memory.0
  served_in_hand (Ok Serve) (inr (inl (works, kind, inr (inl read)))) =
      still_in_hand old new hand (ap (λ (o : OrderState). o.sealed) read.order) (ap (λ (o : OrderState). o.in_hand) read.order) was
  served_in_hand (Ok Serve) (inr (inl (works, kind, inr (inr unread)))) = unread_in_hand unread
  served_in_hand (Ok Serve) (inr (inr (works, write, inl edit))) = write_in_hand (IsKnownBy state honest keeper old) edit.served
  served_in_hand (Ok Serve) (inr (inr (works, write, inr refused))) = unread_in_hand refused.unread
  served_in_hand (Err errno) by = same_order by.1

pub stop-requires : goal.stop-requires
stop-requires g c =
    let (given, given_is, by) = c.serve_with_keeper-served.ensures.serves in
    served_in_hand g.D.Disk.state g.D.Disk.faults g.D.Disk.honest c.args.request c.args.terms.geometry c.args.terms.mode c.args.order.now c.serve_with_keeper-served.new.order
    c.args.keeper.now c.serve_with_keeper-served.new.keeper c.serve_with_keeper-served.result c.args.hand.now c.requires.hand given by

pub returns-else-works-clause-hand : goal.returns-else-works-clause-hand
returns-else-works-clause-hand g c =
    let (given, given_is, by) = c.serve_with_keeper-served.ensures.serves in
    served_in_hand g.D.Disk.state g.D.Disk.faults g.D.Disk.honest c.args.request c.args.terms.geometry c.args.terms.mode c.args.order.now c.serve_with_keeper-served.new.order
    c.args.keeper.now c.serve_with_keeper-served.new.keeper c.serve_with_keeper-served.result c.args.hand.now c.requires.hand given by

pub returns-then-is_stopped-clause-serves : goal.returns-then-is_stopped-clause-serves
returns-then-is_stopped-clause-serves g c =
    let (given, given_is, by) = c.serve_with_keeper-served.ensures.serves in
    let middle = c.serve_with_keeper-served.new.order in
    let works : c.args.order.now.stopped ≡ false = sym c.if-works.ensures in
    let stopped : middle.stopped ≡ true = sym c.if-is_stopped.ensures in
    let unread = now_stopped g.D.Disk.state g.D.Disk.faults g.D.Disk.honest c.args.request c.args.terms.geometry c.args.terms.mode c.args.order.now middle c.args.keeper.now c.serve_with_keeper-served.new.keeper
    c.serve_with_keeper-served.result works stopped given by in
    (given, given_is, inr (unread.0, works, c.stop.ensures.hand, middle, unread.1, c.stop.ensures.order))
