-- what serving a connection makes of the world
use Rattle.std.proofs.Common.{◌≡◌, ◌⊎◌, inl, inr, ℕ, ◌+◌, ◌<◌, ◌<◌, ◌==◌, Bool, true, false, if◌then◌else◌, Option, None, List, [], ◌∷◌, append-nil, length, sym, ◌∙◌, ap, subst, refl, arith}
use Rattle.std.proofs.lemmas.Bool.{cases_eq, eq-eqb, le-ltb, lt-ltb, ne_eqb}
use Rattle.image_model.specs.declared.command.Command.{Command}
use Rattle.image_model.specs.Change.{Change, IsChange, change_of}
use Rattle.image_model.specs.Edit.{becomes}
use Rattle.image_model.specs.Image.{Image}
use Rattle.journal_format.specs.Group.{Numbered}
use Rattle.nbd_wire.specs.Request.{Message}
use Rattle.nbd_wire.specs.declared.error.Errno.TheVariants.{NoSpace}
use Rattle.order_book.specs.Order.{OrderState, has_room_for, with_command}
use Rattle.export_steps.specs.Parts.{IsOrderOf}
use Rattle.request_core.specs.Serving.{served_after}
use Rattle.export_steps.specs.inner.Serving.{IsGrown, IsServed, event_for, quiet_event, request_in, state_of}
use Rattle.request_core.specs.declared.serving.Served.{Served}
use Rattle.export_steps.specs.laws.Orders.{order_accepts, room_of}
use Rattle.export_model.specs.declared.connection.Connection.{Connection}
use Rattle.export_model.specs.declared.connection.Connection.TheVariants.{Idle, Requested, Waiting, Ready, Closed}
use Rattle.export_model.specs.declared.event.Event.{Event}
use Rattle.export_model.specs.declared.event.Event.TheVariants.{Numbered as numbered, Skipped}
use Rattle.nbd_wire.specs.declared.message.Answer.TheVariants.{Refused}
use Rattle.export_model.specs.Log.{edit_asked, waits_for_store}
use Rattle.export_model.specs.Serve.{Failure, logged, held, moved, ready, accepted, numbered as got_number, write_served, state_after}
use Rattle.export_model.specs.World.{World, put, last_number, has_room, Stage}
use Rattle.export_model.specs.Law.{IsWithin}
use Rattle.export_model.specs.laws.Within.{rising_through}

-- a choice whose test is known
pub if_true : {X : Type 0} (P : X → Type 0) (test : Bool) (x y : X) → test ≡ true → P x → P (if test then x else y)
if_true P test x y is here = subst (λ (b : Bool). P (if b then x else y)) (sym is) here

pub if_false : {X : Type 0} (P : X → Type 0) (test : Bool) (x y : X) → test ≡ false → P y → P (if test then x else y)
if_false P test x y is here = subst (λ (b : Bool). P (if b then x else y)) (sym is) here

-- a stage is itself with no command more
pub grown_same : (stage : Stage) → IsGrown stage stage
grown_same stage = record { commands = []; is = ap (λ (l : List Change). record stage { order = l }) (sym (append-nil stage.order)); takes = tt }

pub put_as_is : (f : ℕ → Connection) (c : ℕ) (x : Connection) → f c ≡ x → (d : ℕ) → put f c x d ≡ f d
put_as_is f c x is d = by_case (cases_eq d c)
  where
    by_case : (d ≡ c) ⊎ (d ≡ c → ⊥) → put f c x d ≡ f d
    by_case (inl same) = ap (λ (b : Bool). if b then x else f d) (eq-eqb d c same) ∙ (sym is ∙ ap f (sym same))
    by_case (inr other) = ap (λ (b : Bool). if b then x else f d) (ne_eqb d c other)

module _ (world : World) (c : ℕ) (request : Message) (order : OrderState) (group : Option Numbered) (of : IsOrderOf world.stage order group) where
  pub served_moved : (state : Connection) (event : Event) → IsServed world (logged (moved world c state) event) c state event order group
  served_moved state event = record { connections = λ d. refl; log = refl; grown = grown_same world.stage; of_order = of }

  pub served_held : world.connections c ≡ Requested request → IsServed world (held world) c (Requested request) Skipped order group
  served_held is = record { connections = put_as_is world.connections c (Requested request) is; log = refl; grown = grown_same world.stage; of_order = of }

  -- a command that got its number
  pub served_accepted : (given : Change) (command : Command) (number : ℕ) → IsWithin world → order.mark < 18446744073709551615 → change_of command ≡ given
      → IsChange world.stage.setting.geometry.blocks given → number ≡ order.mark + 1
      → length (with_command order command).cache.states ≡ length order.cache.states
      → IsServed world (got_number world c request given) c (state_after (waits_for_store world.stage.setting.mode request) number) (numbered c number) (with_command order command) group
  served_accepted given command number within left own change is kept = subst
      (λ (n : ℕ). IsServed world (got_number world c request given) c (state_after (waits_for_store world.stage.setting.mode request) n) (numbered c n) (with_command order command) group)
      (sym (is ∙ ap (λ (n : ℕ). n + 1) of.mark))
      (record {
        connections = λ d. refl;
        log = refl;
        grown = record { commands = given ∷ []; is = refl; takes = (change, tt) };
        of_order = let durable = within.durable in let stored = within.stored in let sealed = within.sealed in let cleaned = within.cleaned in
            let base = rising_through world.stage.base world.stage.turned world.stage.stored within.rising in
            order_accepts world.stage order group of command given own (omega (arith, stored, sealed)) (omega (arith, durable, stored, sealed))
            (omega (arith, cleaned, base, stored, sealed)) left kept;
      })

  -- the event of a request whose command got its number, and of one after which the order is as it was
  pub event_numbered : (result : Served) → event_for c order.mark (order.mark + 1) result ≡ numbered c (order.mark + 1)
  event_numbered result = ap (λ (b : Bool). if b then numbered c (order.mark + 1) else quiet_event result) (lt-ltb order.mark (order.mark + 1) (omega arith))

  pub event_quiet : (result : Served) → event_for c order.mark order.mark result ≡ quiet_event result
  event_quiet result = ap (λ (b : Bool). if b then numbered c order.mark else quiet_event result) (le-ltb order.mark order.mark (omega arith))

  -- a request after which the order is as it was
  pub served_quiet : (next : World) (result given : Served) (new : OrderState) → new ≡ order → result ≡ given
      → IsServed world next c (state_of given) (quiet_event given) order group
      → IsServed world next c (state_of result) (event_for c order.mark new.mark result) new group
  served_quiet next result given new same is here =
      subst (λ (r : Served). IsServed world next c (state_of r) (event_for c order.mark new.mark r) new group) (sym is)
      (subst (λ (o : OrderState). IsServed world next c (state_of given) (event_for c order.mark o.mark given) o group) (sym same)
      (subst (λ (e : Event). IsServed world next c (state_of given) e order group) (sym (event_quiet given)) here))

  -- a request whose command got its number
  pub served_numbered : (next : World) (result : Served) (waits : Bool) (cookie number : ℕ) (command : Command) (new : OrderState) → new ≡ with_command order command
      → number ≡ order.mark + 1 → result ≡ served_after waits cookie number
      → IsServed world next c (state_after waits number) (numbered c number) (with_command order command) group
      → IsServed world next c (state_of result) (event_for c order.mark new.mark result) new group
  served_numbered next result waits cookie number command new same is result_is here =
      subst (λ (r : Served). IsServed world next c (state_of r) (event_for c order.mark new.mark r) new group) (sym result_is)
      (subst (λ (o : OrderState). IsServed world next c (state_of (served_after waits cookie number)) (event_for c order.mark o.mark (served_after waits cookie number)) o group) (sym same)
      (subst (λ (s : Connection). IsServed world next c s (event_for c order.mark (order.mark + 1) (served_after waits cookie number)) (with_command order command) group) (sym (state_after_same waits cookie number))
      (subst (λ (e : Event). IsServed world next c (state_after waits number) e (with_command order command) group) (ap (numbered c) is ∙ sym (event_numbered (served_after waits cookie number))) here)))
    where
      state_after_same : (waits : Bool) (cookie number : ℕ) → state_of (served_after waits cookie number) ≡ state_after waits number
      state_after_same true cookie number = refl
      state_after_same false cookie number = refl

  room_same : (given : Change) → has_room world given ≡ has_room_for order given
  room_same given = sym (room_of world.stage order group of given)

  -- which way a write command goes
  pub write_full : (failure : Failure) (image : Image) (P : World → Type 0) → order.mark ≡ 18446744073709551615 → P (ready world c (Refused NoSpace)) → P (write_served failure image world c request)
  write_full failure image P full here = let mark = of.mark in
      if_true P (last_number world == 18446744073709551615) _ _ (eq-eqb (last_number world) 18446744073709551615 (omega (arith, mark, full))) here

  pub write_held : (failure : Failure) (image : Image) (P : World → Type 0) → order.mark < 18446744073709551615
      → has_room_for order (becomes (edit_asked request) image) ≡ false → P (held world) → P (write_served failure image world c request)
  write_held failure image P left none here = let mark = of.mark in
      if_false P (last_number world == 18446744073709551615) _ _ (ne_eqb (last_number world) 18446744073709551615 (λ full. omega (arith, mark, full, left)))
      (if_false P (has_room world (becomes (edit_asked request) image)) _ _ (room_same (becomes (edit_asked request) image) ∙ none) here)

  pub write_accepted : (failure : Failure) (image : Image) (P : World → Type 0) → order.mark < 18446744073709551615
      → has_room_for order (becomes (edit_asked request) image) ≡ true → P (accepted failure image world c request) → P (write_served failure image world c request)
  write_accepted failure image P left room here = let mark = of.mark in
      if_false P (last_number world == 18446744073709551615) _ _ (ne_eqb (last_number world) 18446744073709551615 (λ full. omega (arith, mark, full, left)))
      (if_true P (has_room world (becomes (edit_asked request) image)) _ _ (room_same (becomes (edit_asked request) image) ∙ room) here)

pub request_none : (state : Connection) → ((request : Message) → state ≡ Requested request → ⊥) → None ≡ request_in state
request_none Idle other = refl
request_none (Requested request) other = absurd (other request refl)
request_none (Waiting number) other = refl
request_none (Ready outcome) other = refl
request_none Closed other = refl
