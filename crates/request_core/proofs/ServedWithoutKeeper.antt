-- what is served with no keeper at hand is served as with one, and what a pass knows once a READ was answered
use Rattle.std.specs.Prelude.{MatchBool}
use Rattle.std.proofs.Common.{◌≡◌, inl, inr, ℕ, Bool, false, nat_lt, Result, Ok, Err, ap, refl, sym, subst, arith}
use Rattle.std.proofs.lemmas.Bool.Decides.{nat_tests}
use Rattle.device_image.specs.Keeper.{KeeperState}
use Rattle.disk_model.specs.Disk.{State}
use Rattle.image_model.specs.declared.geometry.Geometry.{Geometry}
use Rattle.journal_format.specs.Reading.{IsOnlyRead}
use Rattle.marks.specs.Known.{PassState}
use Rattle.nbd_wire.specs.Request.{Message}
use Rattle.nbd_wire.specs.declared.error.Errno.{Errno}
use Rattle.nbd_wire.specs.declared.head.RequestHead.{RequestHead}
use Rattle.nbd_wire.specs.declared.message.Answer.{Answer}
use Rattle.nbd_wire.specs.declared.error.Errno.TheVariants.{Io, NoMemory}
use Rattle.nbd_wire.specs.declared.message.Answer.TheVariants.{Refused}
use Rattle.request_core.proofs.Passes.{shown_leaves}
use Rattle.order_book.specs.Order.{OrderState}
use Rattle.request_core.specs.Outcomes.{IsServedBy, IsServedHere}
use Rattle.request_core.specs.Reading.{IsHeldRead, IsHeldReadServed, IsRead, IsReadServed}
use Rattle.request_core.specs.Serving.{IsAcceptedFor, IsAnsweredFor, IsPassServed, ready_for}
use Rattle.request_core.specs.declared.serving.Served.{Served}
use Rattle.export_model.specs.declared.action.Action.{Action}
use Rattle.export_model.specs.declared.action.Action.TheVariants.{End, Serve}
use Rattle.export_model.specs.declared.step.Mode.{Mode}

-- a READ that is served so leaves the order as it was
pub read_leaves : (given : Result Action Errno) (request : Message) (geometry : Geometry) (kept : Mode) (old new : OrderState) (result : Served)
    → request.head.kind ≡ 0 → IsServedHere given request geometry kept old new result → new ≡ old
read_leaves (Ok End) request geometry kept old new result kind served = absurd served
read_leaves (Ok Serve) request geometry kept old new result kind (inl (inl stopped)) = stopped.1
read_leaves (Ok Serve) request geometry kept old new result kind (inl (inr (inl flush))) = flush.2
read_leaves (Ok Serve) request geometry kept old new result kind (inl (inr (inr (inl status)))) = status.2
read_leaves (Ok Serve) request geometry kept old new result kind (inl (inr (inr (inr write)))) = absurd (write.2 kind)
read_leaves (Ok Serve) request geometry kept old new result kind (inr read) = read.2
read_leaves (Err errno) request geometry kept old new result kind served = served.0

module _ {D : Type 0} (state : D → State) (faults : D → ℕ) (honest : D → Type 0) (keeper : KeeperState D) (still : honest keeper.disk → IsOnlyRead (state keeper.disk) (state keeper.disk)) where
  held_read : (head : RequestHead) (order : OrderState) (result : Served) → IsHeldRead head order result → IsRead state faults honest head order order keeper keeper result
  held_read head order result read = record {
    image = read.image;
    kinds = read.kinds;
    in_memory = read.in_memory;
    from_base = λ sure base fronts last holds k below none. absurd (read.there k below none);
    own = λ sure base given fronts last holds shows clean. read.own given shows;
    shows = λ sure base given fronts last holds shows clean. shows;
    answer = read.answer;
    order = refl;
    states = refl;
    keeper_is = refl;
    level = refl;
    only_read = still;
    holds = λ sure base fronts last holds. holds;
    in_frames = λ failed. refl;
    there = λ failed. read.there;
  }

  held_served : (head : RequestHead) (order : OrderState) (result : Served) → IsHeldReadServed head order result → IsReadServed state faults honest head order order keeper keeper result
  held_served head order result (inl none) = inl (refl, refl, none)
  held_served head order result (inr read) = inr (inl (held_read head order result read))

  pub served_here : (given : Result Action Errno) (request : Message) (geometry : Geometry) (kept : Mode) (old new : OrderState) (result : Served)
      → IsServedHere given request geometry kept old new result → IsServedBy state faults honest given request geometry kept old new keeper keeper result
  served_here (Ok End) request geometry kept old new result served = absurd served
  served_here (Ok Serve) request geometry kept old new result (inl passed) = inl (refl, passed)
  served_here (Ok Serve) request geometry kept old new result (inr read) =
      inr (inl (read.0, read.1, subst (λ (o : OrderState). IsReadServed state faults honest request.head old o keeper keeper result) (sym read.2) (held_served request.head old result read.3)))
  served_here (Err errno) request geometry kept old new result served = (refl, served.0, served.1)

  -- a READ changes no number
  pub read_mark : (head : RequestHead) (old new : OrderState) (next : KeeperState D) (result : Served) → IsReadServed state faults honest head old new keeper next result → new.mark ≡ old.mark
  read_mark head old new next result (inl none) = ap (λ (o : OrderState). o.mark) none.0
  read_mark head old new next result (inr (inl read)) = ap (λ (o : OrderState). o.mark) read.order
  read_mark head old new next result (inr (inr unread)) = ap (λ (o : OrderState). o.mark) unread.order

  -- and its pass knows what it knew
  module _ (opening : ℕ) (request : Message) (result : Served) (pass : PassState) where
    answered : (before after : ℕ) (cookie : ℕ) (given : Answer) → IsAnsweredFor opening after given pass pass → after ≡ before → result ≡ ready_for cookie given → IsPassServed opening request before after result pass pass
    answered before after cookie given left same is =
        subst (λ (r : Served). IsPassServed opening request before after r pass pass) (sym is)
        (let none : nat_lt before after ≡ false = grind (arith, nat_tests, same) in
        subst (λ (b : Bool). MatchBool b (IsAcceptedFor opening request after pass pass) (IsAnsweredFor opening after given pass pass)) (sym none) left)

    pub read_passes : (head : RequestHead) (old new : OrderState) (next : KeeperState D) → IsReadServed state faults honest head old new keeper next result → IsPassServed opening request old.mark new.mark result pass pass
    read_passes head old new next (inl none) = answered old.mark new.mark head.cookie (Refused NoMemory) refl (ap (λ (o : OrderState). o.mark) none.0) none.2
    read_passes head old new next (inr (inl read)) = answered old.mark new.mark head.cookie _ (shown_leaves opening new.mark read.image head pass) (ap (λ (o : OrderState). o.mark) read.order) read.answer
    read_passes head old new next (inr (inr unread)) = answered old.mark new.mark head.cookie (Refused Io) refl (ap (λ (o : OrderState). o.mark) unread.order) unread.answer
