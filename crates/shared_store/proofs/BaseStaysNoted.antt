-- Whatever is served, the order has noted the same base.
use Rattle.std.specs.Prelude.{IfOk, OnErr}
use Rattle.std.proofs.Common.{◌≡◌, inl, inr, ℕ, Result, Ok, Err, List, ap}
use Rattle.device_image.specs.Keeper.{KeeperState}
use Rattle.disk_model.specs.Disk.{State}
use Rattle.image_model.specs.Image.{Image}
use Rattle.image_model.specs.declared.geometry.Geometry.{Geometry}
use Rattle.nbd_wire.specs.Request.{Message}
use Rattle.nbd_wire.specs.declared.error.Errno.{Errno}
use Rattle.nbd_wire.specs.declared.head.RequestHead.{RequestHead}
use Rattle.order_book.specs.Order.{OrderState}
use Rattle.order_book.specs.Shown.{ShowsImage}
use Rattle.order_book.specs.declared.span.Span.{Span}
use Rattle.request_core.specs.Outcomes.{IsPassed, IsServedBy, IsServedHere}
use Rattle.request_core.specs.Reading.{IsReadOverServed}
use Rattle.order_book.specs.Edits.{IsKnownBy}
use Rattle.request_core.specs.Serving.{IsWriteServed}
use Rattle.request_core.specs.declared.serving.Served.{Served}
use Rattle.export_model.specs.declared.action.Action.{Action}
use Rattle.export_model.specs.declared.action.Action.TheVariants.{End, Serve}
use Rattle.export_model.specs.declared.step.Mode.{Mode}

same : (old new : OrderState) → new ≡ old → new.base ≡ old.base
same old new is = ap (λ (o : OrderState). o.base) is

module _ (request : Message) (geometry : Geometry) (kept : Mode) (old new : OrderState) (result : Served) where
  written : (own : Image → Type 0) → IsWriteServed request geometry kept own old new result → new.base ≡ old.base
  written own (inl full) = same old new full.1
  written own (inr (left, found, inl room)) = same old new room.1
  written own (inr (left, found, inr (inl none))) = same old new none.1
  written own (inr (left, found, inr (inr (taken, done)))) = ap (λ (o : OrderState). o.base) taken.more.2

  passed : IsPassed request geometry kept old new result → new.base ≡ old.base
  passed (inl halted) = same old new halted.1
  passed (inr (inl flush)) = same old new flush.2
  passed (inr (inr (inl status))) = same old new status.2
  passed (inr (inr (inr write))) = written (λ given. ShowsImage given old.cache) write.4

  here : (given : Result Action Errno) → IsServedHere given request geometry kept old new result → new.base ≡ old.base
  here (Ok End) by = absurd by
  here (Ok Serve) (inl by) = passed by
  here (Ok Serve) (inr read) = same old new read.2
  here (Err errno) by = same old new by.0

  pub noted_with : {D : Type 0} (state : D → State) (faults : D → ℕ) (honest : D → Type 0) (keeper next : KeeperState D) (given : Result Action Errno)
      → IsServedBy state faults honest given request geometry kept old new keeper next result → new.base ≡ old.base
  noted_with state faults honest keeper next (Ok End) by = absurd by
  noted_with state faults honest keeper next (Ok Serve) (inl by) = passed by.1
  noted_with state faults honest keeper next (Ok Serve) (inr (inl (works, kind, inl none))) = same old new none.0
  noted_with state faults honest keeper next (Ok Serve) (inr (inl (works, kind, inr (inl read)))) = ap (λ (o : OrderState). o.base) read.order
  noted_with state faults honest keeper next (Ok Serve) (inr (inl (works, kind, inr (inr unread)))) = ap (λ (o : OrderState). o.base) unread.order
  noted_with state faults honest keeper next (Ok Serve) (inr (inr (works, write, inl edit))) = written (IsKnownBy state honest keeper old) edit.served
  noted_with state faults honest keeper next (Ok Serve) (inr (inr (works, write, inr edit))) = ap (λ (o : OrderState). o.base) edit.unread.order
  noted_with state faults honest keeper next (Err errno) by = same old new by.1

pub noted_here : {E : Type 0} (X : Type 0) (request : Message) (geometry : Geometry) (kept : Mode) (old new : OrderState) (given : Result Action Errno) (result : Result Served E)
    → IfOk result (λ served. IsServedHere given request geometry kept old new served) → OnErr result ((new ≡ old) × X) → new.base ≡ old.base
noted_here X request geometry kept old new given (Ok served) by unchanged = here request geometry kept old new served given by
noted_here X request geometry kept old new given (Err back) by unchanged = same old new unchanged.0

pub noted_over : {E : Type 0} (head : RequestHead) (span : Span) (bytes : List ℕ) (old new : OrderState) (result : Result Served E)
    → IfOk result (λ served. IsReadOverServed head span bytes old new served) → OnErr result (new ≡ old) → new.base ≡ old.base
noted_over head span bytes old new (Ok served) (inl none) unchanged = same old new none.0
noted_over head span bytes old new (Ok served) (inr read) unchanged = ap (λ (o : OrderState). o.base) read.order
noted_over head span bytes old new (Err back) over unchanged = same old new unchanged
