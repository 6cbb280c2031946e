-- what a request that is served makes of an order, lifted to the world that the order is of
use Rattle.std.proofs.Common.{◌≡◌, ◌⊎◌, inl, inr, ℕ, ◌+◌, ◌<◌, ◌==◌, Bool, true, false, if◌then◌else◌, Option, List, [], ◌∷◌, ◌++◌, length, sym, ◌∙◌, ap, subst, refl, arith}
use Rattle.std.proofs.lemmas.Bool.{cases_Bool, eq-eqb, ne_eqb}
use Rattle.alloc_map.specs.Codes.{state_at}
use Rattle.image_model.specs.Change.{Change, IsChange}
use Rattle.image_model.specs.Edit.{becomes}
use Rattle.image_model.specs.Image.{Image, apply, apply_all}
use Rattle.order_book.specs.Shown.{ShowsImage}
use Rattle.request_core.specs.laws.Commands.{apply_append}
use Rattle.std.proofs.lemmas.List.{take_all}
use Rattle.journal_format.specs.Group.{Numbered}
use Rattle.nbd_wire.specs.Request.{Message}
use Rattle.nbd_wire.specs.declared.error.Errno.{Errno}
use Rattle.nbd_wire.specs.declared.error.Errno.TheVariants as errno
use Rattle.nbd_wire.specs.declared.error.Errno.TheVariants.{Io}
use Rattle.nbd_wire.specs.declared.message.Answer.TheVariants.{Done, Refused}
use Rattle.order_book.specs.Order.{OrderState, has_room_for}
use Rattle.export_steps.specs.Parts.{IsOrderOf, Shows}
use Rattle.request_core.specs.Serving.{IsMore, IsWriteServed, ready_for, served_after}
use Rattle.export_steps.specs.inner.Serving.{IsServed, event_for, state_of}
use Rattle.request_core.specs.Outcomes.{IsPassed}
use Rattle.request_core.specs.Reading.{IsStatusServed}
use Rattle.request_core.specs.declared.serving.Served.{Served}
use Rattle.request_core.specs.declared.serving.Served.TheVariants as served
use Rattle.export_steps.proofs.Serves.{grown_same, if_false, if_true, served_accepted, served_held, served_moved, served_numbered, served_quiet, write_accepted, write_full, write_held}
use Rattle.export_model.specs.Log.{edit_asked, flush_waits, is_flush, waits_for_store}
use Rattle.export_model.specs.Serve.{Failure, Misread, Nothing, OutOfMemory, accepted, held, image_shown, logged, moved, numbered as got_number, passed, ready, shown, state_after, status_served, write_served}
use Rattle.export_model.specs.Shown.{shown_by}
use Rattle.export_model.specs.World.{World, image_after, last_number}
use Rattle.export_model.specs.declared.connection.Connection.TheVariants.{Requested, Waiting, Ready}
use Rattle.export_model.specs.declared.event.Event.TheVariants.{Took}
use Rattle.export_model.specs.Law.{IsWithin}

module _ (world : World) (c : ℕ) (request : Message) (old : OrderState) (group : Option Numbered) (within : IsWithin world) (of : IsOrderOf world.stage old group)
    (here : world.connections c ≡ Requested request) (new : OrderState) (kept : length new.cache.states ≡ length old.cache.states) (result : Served) where
  -- the next world is the one in which the connection comes to what the request came to
  abbrev pub Comes : World → Type 0
  Comes next = IsServed world next c (state_of result) (event_for c old.mark new.mark result) new group × (Shows world.stage old → Shows next.stage new)

  -- nothing else has changed
  still : new ≡ old → Shows world.stage old → Shows world.stage new
  still same = subst (Shows world.stage) (sym same)

  pub refused_so : (errno : Errno) → new ≡ old → result ≡ ready_for request.head.cookie (Refused errno) → Comes (ready world c (Refused errno))
  refused_so errno same is = (refused_served errno same is, still same)
    where
      refused_served : (errno : Errno) → new ≡ old → result ≡ ready_for request.head.cookie (Refused errno)
          → IsServed world (ready world c (Refused errno)) c (state_of result) (event_for c old.mark new.mark result) new group
      refused_served errno same is = served_quiet world c request old group of (ready world c (Refused errno)) result (ready_for request.head.cookie (Refused errno)) new same is
          (served_moved world c request old group of (Ready (Refused errno)) Took)

  -- a FLUSH waits for the last number, or is answered at once
  flush_served : (waits : Bool) → new ≡ old → result ≡ served_after waits request.head.cookie old.mark → Comes (logged (moved world c (state_after waits (last_number world))) Took)
  flush_served true same is = subst (λ (n : ℕ). Comes (logged (moved world c (Waiting n)) Took)) of.mark (
    served_quiet world c request old group of (logged (moved world c (Waiting old.mark)) Took) result (served.Wait old.mark) new same is
        (served_moved world c request old group of (Waiting old.mark) Took),
    still same,
  )
  flush_served false same is = (
    served_quiet world c request old group of (logged (moved world c (Ready Done)) Took) result (ready_for request.head.cookie Done) new same is
        (served_moved world c request old group of (Ready Done) Took),
    still same,
  )

  -- the image after a change more
  image_more : (given : Change) → apply given (image_after world.stage.order (length world.stage.order) world.stage.setting.image)
      ≡ image_after (world.stage.order ++ given ∷ []) (length (world.stage.order ++ given ∷ [])) world.stage.setting.image
  image_more given =
      let order = world.stage.order in
      let image = world.stage.setting.image in
      ap (λ (l : List Change). apply given (apply_all l image)) (take_all (length order) order (omega arith))
      ∙ sym (ap (λ (l : List Change). apply_all l image) (take_all (length (order ++ given ∷ [])) (order ++ given ∷ []) (omega arith)) ∙ apply_append order (given ∷ []) image)

  -- a write over the image that a step shows, over which the edit becomes this change
  module _ (failure : Failure) (image : Image) (given : Change) (is_given : becomes (edit_asked request) image ≡ given) (left : old.mark < 18446744073709551615) where
    room_is : (room : Bool) → has_room_for old given ≡ room → has_room_for old (becomes (edit_asked request) image) ≡ room
    room_is room is = ap (has_room_for old) is_given ∙ is

    change_held : has_room_for old given ≡ false → new ≡ old → result ≡ served.NoRoom request → Comes (write_served failure image world c request)
    change_held none same is = write_held world c request old group of failure image Comes left (room_is false none)
        (served_quiet world c request old group of (held world) result (served.NoRoom request) new same is (served_held world c request old group of here), still same)

    change_refused : accepted failure image world c request ≡ ready world c (Refused errno.NoMemory) → has_room_for old given ≡ true
        → new ≡ old → result ≡ ready_for request.head.cookie (Refused errno.NoMemory) → Comes (write_served failure image world c request)
    change_refused refuses room same is =
        write_accepted world c request old group of failure image Comes left (room_is true room) (subst Comes (sym refuses) (refused_so errno.NoMemory same is))

    change_taken : IsChange world.stage.setting.geometry.blocks given → accepted failure image world c request ≡ got_number world c request (becomes (edit_asked request) image)
        → has_room_for old given ≡ true → IsMore given old new → result ≡ served_after (waits_for_store world.stage.setting.mode request) request.head.cookie (old.mark + 1)
        → ((seen : Image) → ShowsImage seen old.cache → ShowsImage (apply given seen) new.cache) → Comes (write_served failure image world c request)
    change_taken change accepts room (command, own, same) is shows =
        write_accepted world c request old group of failure image Comes left (room_is true room)
        (subst Comes (sym (accepts ∙ ap (got_number world c request) is_given)) (
          served_numbered world c request old group of (got_number world c request given) result (waits_for_store world.stage.setting.mode request) request.head.cookie (old.mark + 1) command new same refl is
              (served_accepted world c request old group of given command (old.mark + 1) within left own change refl (ap (λ (o : OrderState). length o.cache.states) (sym same) ∙ kept)),
          λ shown. subst (λ (i : Image). ShowsImage i new.cache) (image_more given) (shows (image_after world.stage.order (length world.stage.order) world.stage.setting.image) shown),
        ))

  -- the image after all of the order, and a failure with which a step shows an image over which the edit becomes the same
  abbrev after : Image
  after = image_after world.stage.order (length world.stage.order) world.stage.setting.image

  -- for an image of which this holds, as for the order's own
  pub record Chosen (fails : Failure) (P : Image → Type 0) : Type 0 where
    pub failure : Failure
    pub shown : P (image_shown failure world.stage)
    pub accepts : (image : Image) → accepted failure image world c request ≡ accepted fails image world c request

  -- it comes to what the order's image gives, where the device is trusted, and else to what memory shows
  module _ (own : Image → Type 0) (sure : world.stage.setting.trusted ≡ true → own (image_after world.stage.order (length world.stage.order) world.stage.setting.image)) where
    pub chosen : (P : Image → Type 0) (image : Image) → P image → ((given : Image) → own given → P given)
        → (fails : Failure) → image_shown fails world.stage ≡ after → Chosen fails P
    chosen P image holds all fails shown = by_trust (cases_Bool world.stage.setting.trusted)
      where
        by_trust : (world.stage.setting.trusted ≡ true) ⊎ (world.stage.setting.trusted ≡ false) → Chosen fails P
        by_trust (inl trusted) = record { failure = fails; shown = subst P (sym shown) (all after (sure trusted)); accepts = λ i. refl }
        by_trust (inr other) = record {
          failure = Misread fails image;
          shown = subst P (sym (ap (λ (b : Bool). if b then after else image) other)) holds;
          accepts = λ i. refl;
        }

    pub written : IsWriteServed request world.stage.setting.geometry world.stage.setting.mode own old new result
        → (failure : Failure) × Comes (write_served failure (image_shown failure world.stage) world c request)
    written (inl (full, same, is)) = (Nothing, write_full world c request old group of Nothing (image_shown Nothing world.stage) Comes full (refused_so errno.NoSpace same is))
    written (inr (left, image, inl (room, same, is))) =
        let with = chosen (λ i. has_room_for old (becomes (edit_asked request) i) ≡ false) image room.0 room.1 Nothing refl in
        (with.failure, change_held with.failure (image_shown with.failure world.stage) _ refl left with.shown same is)
    written (inr (left, image, inr (inl (room, same, is)))) =
        let with = chosen (λ i. has_room_for old (becomes (edit_asked request) i) ≡ true) image room.0 room.1 OutOfMemory refl in (
          with.failure,
          change_refused with.failure (image_shown with.failure world.stage) _ refl left (with.accepts (image_shown with.failure world.stage)) with.shown same is,
        )
    written (inr (left, image, inr (inr (taken, is)))) =
        let with = chosen (λ i. becomes (edit_asked request) i ≡ becomes (edit_asked request) image) image refl (λ given is_own. sym (taken.same given is_own)) Nothing refl in (
          with.failure,
          change_taken with.failure (image_shown with.failure world.stage) (becomes (edit_asked request) image) with.shown left taken.takes
              (with.accepts (image_shown with.failure world.stage)) taken.room taken.more is taken.shows,
        )

  -- a BLOCK_STATUS is answered with what the image shows, or where the device isn't trusted another one with these states
  status_shown : (failure : Failure) (image : Image) → image_shown failure world.stage ≡ image → new ≡ old → result ≡ ready_for request.head.cookie (shown_by image request.head)
      → Comes (shown (image_shown failure world.stage) world c request)
  status_shown failure image shown_is same is = (
    served_quiet world c request old group of (shown (image_shown failure world.stage) world c request) result (ready_for request.head.cookie (shown_by image request.head)) new same is
        (subst (λ (i : Image). IsServed world (shown (image_shown failure world.stage) world c request) c (Ready (shown_by i request.head)) Took old group) shown_is
        (record { connections = λ d. refl; log = refl; grown = grown_same world.stage; of_order = of })),
    still same,
  )

  status : (world.stage.setting.trusted ≡ true → Shows world.stage old) → new ≡ old → IsStatusServed request.head old result → (failure : Failure) × Comes (status_served failure world c request)
  status sure same (inl is) = (OutOfMemory, refused_so errno.NoMemory same is)
  status sure same (inr is) = by_trust (cases_Bool world.stage.setting.trusted)
    where
      own : Image
      own = record { blocks = 0; byte = λ place. 0; kind = λ block. state_at old.cache.states block }

      by_trust : (world.stage.setting.trusted ≡ true) ⊎ (world.stage.setting.trusted ≡ false) → (failure : Failure) × Comes (status_served failure world c request)
      by_trust (inl trusted) = (
        Nothing,
        status_shown Nothing (image_after world.stage.order (length world.stage.order) world.stage.setting.image) refl same
            (is (image_after world.stage.order (length world.stage.order) world.stage.setting.image) (λ block. sym ((sure trusted).states block))),
      )
      by_trust (inr other) = (Misread Nothing own, status_shown (Misread Nothing own) own (misread other) same (is own (λ block. refl)))
        where
          misread : world.stage.setting.trusted ≡ false → image_shown (Misread Nothing own) world.stage ≡ own
          misread untrusted = ap (λ (b : Bool). if b then image_after world.stage.order (length world.stage.order) world.stage.setting.image else own) untrusted

  module _ (sure : world.stage.setting.trusted ≡ true → Shows world.stage old) where
    pub passes : IsPassed request world.stage.setting.geometry world.stage.setting.mode old new result → (failure : Failure) × Comes (passed failure world c request)
    passes (inl (stopped, same, is)) = (Nothing, if_true Comes world.stage.stopped _ _ (sym of.stopped ∙ stopped) (refused_so Io same is))
    passes (inr (inl (works, flush, same, is))) = (
      Nothing,
      if_false Comes world.stage.stopped _ _ (sym of.stopped ∙ works) (if_true Comes (is_flush request) _ _ flush (flush_served (flush_waits world.stage.setting.mode) same is)),
    )
    passes (inr (inr (inl (works, kind, same, by)))) =
        let told = status sure same by in (
          told.0,
          if_false Comes world.stage.stopped _ _ (sym of.stopped ∙ works)
              (if_false Comes (is_flush request) _ _ (ne_eqb request.head.kind 3 (λ is. omega (arith, kind, is)))
              (if_false Comes (request.head.kind == 0) _ _ (ne_eqb request.head.kind 0 (λ is. omega (arith, kind, is)))
              (if_true Comes (request.head.kind == 7) _ _ (eq-eqb request.head.kind 7 kind) told.1))),
        )
    passes (inr (inr (inr (works, other, no_read, no_status, by)))) =
        let wrote = written (λ image. ShowsImage image old.cache) sure by in (
          wrote.0,
          if_false Comes world.stage.stopped _ _ (sym of.stopped ∙ works)
              (if_false Comes (is_flush request) _ _ other
              (if_false Comes (request.head.kind == 0) _ _ (ne_eqb request.head.kind 0 no_read)
              (if_false Comes (request.head.kind == 7) _ _ (ne_eqb request.head.kind 7 no_status) wrote.1))),
        )
