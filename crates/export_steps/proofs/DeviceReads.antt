-- what a READ for which the device is asked makes of order, keeper and world
use Rattle.std.proofs.Common.{◌≡◌, ◌⊎◌, inl, inr, ℕ, zero, suc, ◌+◌, ◌/◌, ◌<◌, ◌==◌, IsTrue, get_or, Option, Some, None, length, ◌++◌, subst, Bool, true, false, if◌then◌else◌, Result, Ok, Err, List, [], ◌∷◌, take, sym, ◌∙◌, ap, refl, arith}
use Rattle.std.proofs.lemmas.Bool.{both_ways, cases_Bool, eq-eqb, ne_eqb}
use Rattle.image_model.specs.Image.{Image}
use Rattle.nbd_wire.specs.declared.head.RequestHead.{RequestHead}
use Rattle.nbd_wire.specs.declared.message.Answer.TheVariants.{Bytes, Refused, States}
use Rattle.nbd_wire.specs.declared.message.Run.{Run}
use Rattle.image_model.specs.Edit.{blocks_met}
use Rattle.export_model.specs.Shown.{bytes_from, cut_to, most_runs, read_status_of, runs_from, runs_met, shown_by, status_of, with_block}
use Rattle.device_image.specs.Keeper.{KeeperState}
use Rattle.disk_model.specs.Disk.{State}
use Rattle.image_model.specs.declared.geometry.Geometry.{Geometry}
use Rattle.nbd_wire.specs.Request.{Message}
use Rattle.nbd_wire.specs.declared.error.Errno.{Errno}
use Rattle.order_book.specs.Order.{OrderState}
use Rattle.request_core.specs.Outcomes.{IsEditRefused, IsEditServed, IsPassed, IsServedBy, IsWriteAsked}
use Rattle.export_steps.specs.inner.Outcomes.{IsServedWith, IsStopped}
use Rattle.export_steps.proofs.ServingLiftsToWorld.{Comes, passes, refused_so, written}
use Rattle.export_steps.proofs.Serves.{if_false, if_true, write_accepted}
use Rattle.request_core.specs.laws.Requests.{write_others}
use Rattle.export_model.specs.Log.{edit_asked, is_flush, is_write}
use Rattle.export_model.specs.declared.connection.Connection.{Connection}
use Rattle.export_model.specs.declared.connection.Connection.TheVariants.{Closed, Idle, Ready, Requested, Waiting}
use Rattle.export_steps.proofs.Talks.{set_put, talked_served}
use Rattle.std.proofs.Math.ListN.{set}
use Rattle.std.proofs.lemmas.List.{set-set}
use Rattle.nbd_wire.specs.declared.message.SessionFlags.{SessionFlags}
use Rattle.export_model.specs.Verdict.{verdict}
use Rattle.request_core.specs.Reading.{IsRead, IsReadServed, IsUnread}
use Rattle.order_book.specs.Edits.{IsKnownBy}
use Rattle.device_image.specs.laws.Counted.{remembers_still}
use Rattle.disk_model.specs.Disk.{IsSound, LeavesOnly}
use Rattle.disk_model.specs.Faults.{counted}
use Rattle.disk_model.specs.laws.Moments.{ends, weakens}
use Rattle.checkpoint.specs.Keeper.{faults_by, refused_by}
use Rattle.checkpoint.specs.declared.fault.KeeperFault.{KeeperFault}
use Rattle.checkpoint.specs.declared.fault.KeeperFault.TheVariants as fault
use Rattle.journal_format.specs.Group.{Numbered}
use Rattle.journal_format.specs.Reading.{IsOnlyRead}
use Rattle.nbd_wire.specs.declared.message.Answer.{Answer}
use Rattle.order_book.specs.Reading.{IsCleanAt}
use Rattle.order_book.specs.Shown.{ShowsImage}
use Rattle.device_image.specs.Holds.{Holds, joined}
use Rattle.image_model.specs.Change.{Change}
use Rattle.export_steps.specs.Parts.{AreConnectionsOf, IsDiskOf, IsKeeperOf, IsOrderOf, Shows, StandsAfter, fronts_at}
use Rattle.export_steps.specs.inner.Storing.{stopped_with}
use Rattle.export_steps.proofs.CheckpointSteps.{order_stopped}
use Rattle.nbd_wire.specs.declared.error.Errno.TheVariants.{Io, NoMemory}
use Rattle.export_steps.specs.inner.Steps.{IsAnyServed, IsAnyTalked, IsAsked, IsSure, KeepsDisk}
use Rattle.export_steps.specs.laws.Clean.{clean_at}
use Rattle.export_steps.specs.laws.Lives.{disk_grows, ordered}
use Rattle.export_steps.proofs.StepsOfEachKind.{keeper_grows}
use Rattle.export_steps.proofs.Serves.{event_quiet}
use Rattle.export_model.specs.declared.event.Event.{Event}
use Rattle.export_model.specs.declared.event.Event.TheVariants.{Took}
use Rattle.export_model.specs.Serve.{DeviceFailure, Failure, Misread, Nothing, OutOfMemory, faulted, held, image_shown, judged, passed, read_served, ready, serve, shown, takes_old_bytes, write_served}
use Rattle.export_model.specs.World.{World, Stage, image_after, put}
use Rattle.export_model.specs.Law.{IsWithin}
use Rattle.request_core.specs.Serving.{IsWriteServed, ready_for}
use Rattle.export_steps.specs.inner.Serving.{event_for, quiet_event, request_in, state_of}
use Rattle.request_core.specs.declared.serving.Served.{Served}
use Rattle.export_model.specs.declared.action.Action.{Action}
use Rattle.export_model.specs.declared.action.Action.TheVariants.{End, Serve}
use Rattle.export_model.specs.declared.step.Mode.{Mode}

module _ {D : Type 0} (state : D → State) (faults : D → ℕ) (honest : D → Type 0) (request : Message) (geometry : Geometry) (kept : Mode) (old new : OrderState) (keeper next : KeeperState D) (result : Served)
    (works : old.stopped ≡ false) (stopped : new.stopped ≡ true) where
  -- an order that is as it was isn't stopped
  same_works : {X : Type 0} → new.stopped ≡ old.stopped → X
  same_works same = absurd (both_ways new.stopped (same ∙ works) stopped)

  by_write : {X : Type 0} (own : Image → Type 0) → IsWriteServed request geometry kept own old new result → X
  by_write own (inl full) = same_works (ap (λ (o : OrderState). o.stopped) full.1)
  by_write own (inr (left, image, inl none)) = same_works (ap (λ (o : OrderState). o.stopped) none.1)
  by_write own (inr (left, image, inr (inl refused))) = same_works (ap (λ (o : OrderState). o.stopped) refused.1)
  by_write own (inr (left, image, inr (inr (taken, is)))) = same_works (ap (λ (o : OrderState). o.stopped) taken.more.2)

  by_passed : {X : Type 0} → IsPassed request geometry kept old new result → X
  by_passed (inl halted) = absurd (both_ways old.stopped works halted.0)
  by_passed (inr (inl flush)) = same_works (ap (λ (o : OrderState). o.stopped) flush.2)
  by_passed (inr (inr (inl status))) = same_works (ap (λ (o : OrderState). o.stopped) status.2)
  by_passed (inr (inr (inr write))) = by_write (λ image. ShowsImage image old.cache) write.4

  by_read : IsReadServed state faults honest request.head old new keeper next result → IsUnread state faults honest request.head old new keeper next result
  by_read (inl refused) = same_works (ap (λ (o : OrderState). o.stopped) refused.0)
  by_read (inr (inl read)) = same_works (ap (λ (o : OrderState). o.stopped) read.order)
  by_read (inr (inr unread)) = unread

  by_edit : IsWriteAsked state faults honest request geometry kept old new keeper next result → IsEditRefused state faults honest request old new keeper next result
  by_edit (inl edit) = by_write (IsKnownBy state honest keeper old) edit.served
  by_edit (inr refused) = refused

  -- an order that is stopped now was stopped by a READ, or by a write request
  pub now_stopped : (given : Result Action Errno) → IsServedBy state faults honest given request geometry kept old new keeper next result
      → (given ≡ Ok Serve) × IsStopped state faults honest request old new keeper next result
  now_stopped (Ok End) by = absurd by
  now_stopped (Ok Serve) (inl passed) = by_passed passed.1
  now_stopped (Ok Serve) (inr (inl read)) = (refl, inl (read.1, by_read read.2))
  now_stopped (Ok Serve) (inr (inr edit)) = (refl, inr (edit.1, by_edit edit.2))
  now_stopped (Err errno) by = same_works (ap (λ (o : OrderState). o.stopped) by.1)

-- what holds of both sides of a choice holds of the choice
of_either : {X : Type 0} (P : X → Type 0) (test : Bool) (x y : X) → (test ≡ true → P x) → (test ≡ false → P y) → P (if test then x else y)
of_either P true x y here there = here refl
of_either P false x y here there = there refl

-- images with the same states, and the same bytes in a range, show the same there
bytes_same : (image other : Image) (place count : ℕ) → ((k : ℕ) → k < count → image.byte (place + k) ≡ other.byte (place + k)) → bytes_from image place count ≡ bytes_from other place count
unfolding bytes_from
bytes_same image other place zero same = refl
bytes_same image other place (suc count) same =
    let first : place + 0 ≡ place = omega arith in
    let here : image.byte place ≡ other.byte place = ap image.byte (sym first) ∙ (same 0 (omega arith) ∙ ap other.byte first) in
    λ i. here i ∷ bytes_same image other (place + 1) count
    (λ k below. let next : place + 1 + k ≡ place + suc k = omega arith in ap image.byte next ∙ (same (suc k) (omega (arith, below)) ∙ ap other.byte (sym next))) i

runs_same : (status other : ℕ → ℕ) (block count : ℕ) → ((b : ℕ) → status b ≡ other b) → runs_from status block count ≡ runs_from other block count
unfolding runs_from
runs_same status other block zero same = refl
runs_same status other block (suc count) same =
    ap (λ (s : ℕ). with_block s (runs_from status (block + 1) count)) (same block) ∙ ap (with_block (other block)) (runs_same status other (block + 1) count same)

shown_same : (image other : Image) (head : RequestHead) → head.kind ≡ 0 → ((block : ℕ) → image.kind block ≡ other.kind block)
    → ((k : ℕ) → k < head.length → image.byte (head.offset + k) ≡ other.byte (head.offset + k)) → shown_by image head ≡ shown_by other head
shown_same image other head kind kinds bytes =
    by_kind image ∙ ap (λ (l : List ℕ). Bytes (record { offset = head.offset; bytes = l; runs = runs_of image })) (bytes_same image other head.offset head.length bytes)
    ∙ ap (λ (l : List Run). Bytes (record { offset = head.offset; bytes = bytes_from other head.offset head.length; runs = cut_to head.offset head.length l }))
    (runs_same (λ b. read_status_of (image.kind b)) (λ b. read_status_of (other.kind b)) (head.offset / 4096) (blocks_met head.offset head.length) (λ b. ap read_status_of (kinds b)))
    ∙ sym (by_kind other)
  where
    runs_of : Image → List Run
    runs_of shown = cut_to head.offset head.length (runs_met (λ b. read_status_of (shown.kind b)) head.offset head.length)

    by_kind : (shown : Image) → shown_by shown head ≡ Bytes (record { offset = head.offset; bytes = bytes_from shown head.offset head.length; runs = cut_to head.offset head.length (runs_met (λ b. read_status_of (shown.kind b)) head.offset head.length) })
    by_kind shown = ap (λ (b : Bool). if b then Bytes (record { offset = head.offset; bytes = bytes_from shown head.offset head.length; runs = cut_to head.offset head.length (runs_met (λ b. read_status_of (shown.kind b)) head.offset head.length) })
        else States (cut_to head.offset head.length (take (most_runs head) (runs_met (λ b. status_of (shown.kind b)) head.offset head.length)))) (eq-eqb head.kind 0 kind)

module _ {D : Type 0} (state : D → State) (faults extent : D → ℕ) (honest : D → Type 0) (sound : (disk : D) → honest disk → IsSound (extent disk) (state disk))
    (world : World) (c : ℕ) (request : Message) (old : OrderState) (hand : Option Numbered) (keeper next : KeeperState D) (result : Served)
    (within : IsWithin world) (of : IsOrderOf world.stage old hand) (kept : IsKeeperOf world.stage keeper (faults keeper.disk)) (stays : honest keeper.disk → honest next.disk)
    (works : old.stopped ≡ false) where
  -- the connection comes to what the request came to, and the parts are of the next world
  abbrev pub Answers : OrderState → Option Numbered → World → Type 0
  Answers new group after = IsAsked world after c (state_of result) (event_for c old.mark new.mark result) old new group keeper next (faults next.disk) (honest keeper.disk) (state keeper.disk) (state next.disk)

  abbrev Reads : OrderState → Type 0
  Reads new = IsRead state faults honest request.head old new keeper next result

  runs : world.stage.stopped ≡ false
  runs = sym of.stopped ∙ works

  event_took : (new : OrderState) (given : Answer) → new.mark ≡ old.mark → result ≡ ready_for request.head.cookie given → event_for c old.mark new.mark result ≡ Took
  event_took new given same is =
      ap (λ (n : ℕ). event_for c old.mark n result) same ∙ event_quiet world c request old hand of result ∙ ap quiet_event is

  order_read : (new : OrderState) → Reads new → IsOrderOf world.stage new hand
  order_read new read = subst (λ (o : OrderState). IsOrderOf world.stage o hand) (sym read.order) (record {
    opening = of.opening;
    durable = of.durable;
    sealed = of.sealed;
    mark = of.mark;
    behind = of.behind;
    hand = of.hand;
    first = of.first;
    some = of.some;
    bodies = of.bodies;
    dirty = of.dirty;
    frames = of.frames;
    blocks = ap length read.states ∙ of.blocks;
    area = of.area;
    stopped = of.stopped;
    fits = of.fits;
  })

  keeper_read : next ≡ record keeper { disk = next.disk } → faults next.disk ≡ faults keeper.disk → IsKeeperOf world.stage next (faults next.disk)
  keeper_read keeper_is level = subst (λ (k : KeeperState D). IsKeeperOf world.stage k (faults next.disk)) (sym keeper_is) (record {
    geometry = kept.geometry;
    count = kept.count;
    base = kept.base;
    turned = kept.turned;
    lefts = kept.lefts;
    generation = kept.generation;
    phase = kept.phase;
    used = kept.used;
    failed = kept.failed;
    faults = level ∙ kept.faults;
    takes = kept.takes;
    remembers = remembers_still keeper (record keeper { disk = next.disk }) _ refl refl kept.remembers;
  })

  crash_read : IsOnlyRead (state keeper.disk) (state next.disk) → IsDiskOf world.stage keeper (state keeper.disk)
      → LeavesOnly (state keeper.disk) (state next.disk) (StandsAfter world.stage.order world.stage.setting.image world.stage.setting.opening world.stage.stored)
  crash_read read disk = weakens read.any_moment (λ content left. disk.leaves content left)

  disk_read : (honest keeper.disk → IsOnlyRead (state keeper.disk) (state next.disk))
      → (honest keeper.disk → (base : Image) (fronts : List (List Change)) (last : List Change) → Holds keeper (state keeper.disk) base fronts last → Holds next (state next.disk) base fronts last)
      → honest keeper.disk → KeepsDisk world world keeper next (state keeper.disk) (state next.disk)
  disk_read only_read holds is_honest disk =
      let leaves = crash_read (only_read is_honest) disk in (
        record {
          holds = λ going. holds is_honest _ _ _ (disk.holds going);
          leaves = λ content left. ends leaves (sound next.disk (stays is_honest)) content left;
        },
        leaves,
      )

  clean_now : IsCleanAt (image_after world.stage.order world.stage.base world.stage.setting.image) (joined (fronts_at world.stage))
      (image_after world.stage.order (length world.stage.order) world.stage.setting.image) old.dirty
  clean_now = subst (IsCleanAt _ (joined (fronts_at world.stage)) _) (sym of.dirty) (clean_at world.stage (ordered world within) within.cleaned kept.takes)

  answered_read : (new : OrderState) (read : Reads new) (failure : Failure) → shown_by read.image request.head ≡ shown_by (image_shown failure world.stage) request.head
      → Answers new hand (shown (image_shown failure world.stage) world c request)
  answered_read new read failure same =
      let given_is = read.answer ∙ ap (ready_for request.head.cookie) same in
      record {
        connections = λ d. ap (λ (r : Served). put world.connections c (state_of r) d) given_is;
        log = ap (λ (e : Event). world.log ++ e ∷ []) (sym (event_took new (shown_by (image_shown failure world.stage) request.head) (ap (λ (o : OrderState). o.mark) read.order) given_is));
        of_order = order_read new read;
        of_keeper = keeper_read read.keeper_is read.level;
        disk = disk_read read.only_read read.holds;
        shows = λ is_honest disk shown. read.shows is_honest _ _ _ _ (disk.holds runs) shown clean_now;
      }

  -- a READ that is answered
  pub asked_read : request.head.kind ≡ 0 → (new : OrderState) → Reads new → IsSure world old keeper (honest keeper.disk) (state keeper.disk) → (failure : Failure) × Answers new hand (read_served failure world c request)
  asked_read kind new read sure = by_trust (cases_Bool world.stage.setting.trusted)
    where
      own : world.stage.setting.trusted ≡ true → shown_by read.image request.head ≡ shown_by (image_after world.stage.order (length world.stage.order) world.stage.setting.image) request.head
      own trusted =
          let known = sure trusted in
          shown_same read.image (image_after world.stage.order (length world.stage.order) world.stage.setting.image) request.head kind
          (λ block. read.kinds block ∙ known.2.states block)
          (λ k below. read.own known.0 _ _ _ _ (known.1.holds runs) known.2 clean_now k below)

      by_trust : (world.stage.setting.trusted ≡ true) ⊎ (world.stage.setting.trusted ≡ false) → (failure : Failure) × Answers new hand (read_served failure world c request)
      by_trust (inl trusted) = (Nothing, answered_read new read Nothing (own trusted))
      by_trust (inr other) = (
        Misread Nothing read.image,
        answered_read new read (Misread Nothing read.image)
            (sym (ap (λ (b : Bool). shown_by (if b then image_after world.stage.order (length world.stage.order) world.stage.setting.image else read.image) request.head) other)),
      )

  -- a write request for which the device was read alone
  pub asked_write : (new : OrderState) → length new.cache.states ≡ length old.cache.states → world.connections c ≡ Requested request
      → IsEditServed state faults honest request world.stage.setting.geometry world.stage.setting.mode old new keeper next result
      → IsSure world old keeper (honest keeper.disk) (state keeper.disk) → (failure : Failure) × Answers new hand (write_served failure (image_shown failure world.stage) world c request)
  asked_write new size here edit sure =
      let told = written world c request old hand within of here new size result (IsKnownBy state honest keeper old) known edit.served in
      let served = told.1.0 in
      let grown = served.grown in (
        told.0,
        record {
          connections = served.connections;
          log = served.log;
          of_order = served.of_order;
          of_keeper = subst (λ (s : Stage). IsKeeperOf s next (faults next.disk)) (sym grown.is)
              (keeper_grows world.stage grown.commands next (faults next.disk) (ordered world within) grown.takes (keeper_read edit.keeper_is edit.level));
          disk = λ is_honest disk.
              let both = disk_read edit.only_read edit.holds is_honest disk in (
                subst (λ (s : Stage). IsDiskOf s next (state next.disk)) (sym grown.is)
                    (disk_grows world.stage (ordered world within) grown.commands world.stage.sealed world.stage.durable next (state next.disk) both.0),
                both.1,
              );
          shows = λ is_honest disk shown. told.1.1 shown;
        },
      )
    where
      known : world.stage.setting.trusted ≡ true → IsKnownBy state honest keeper old (image_after world.stage.order (length world.stage.order) world.stage.setting.image)
      known trusted =
          let is = sure trusted in
          record { sure = is.0; base = _; fronts = _; last = _; holds = is.1.holds runs; shows = is.2; clean = clean_now }

  -- a request in which a call of the device failed
  stopped_same : (group : Option Numbered) (middle : OrderState) → middle ≡ record old { stopped = true } → stopped_with group middle ≡ stopped_with group old
  stopped_same None middle same = ap (stopped_with None) same
  stopped_same (Some group) middle same = ap (stopped_with (Some group)) same

  shows_stopped : (group : Option Numbered) → Shows world.stage old → Shows (faulted world).stage (stopped_with group old)
  shows_stopped None shown = record { states = shown.states; bytes = shown.bytes }
  shows_stopped (Some group) shown = record { states = shown.states; bytes = shown.bytes }

  mark_stopped : (group : Option Numbered) → (stopped_with group old).mark ≡ old.mark
  mark_stopped None = refl
  mark_stopped (Some group) = refl

  pub asked_fault : (middle new : OrderState) → IsUnread state faults honest request.head old middle keeper next result → new ≡ stopped_with hand middle
      → Answers new None (ready (faulted world) c (Refused Io))
  asked_fault middle new unread same = record {
    connections = λ d. ap (λ (r : Served). put world.connections c (state_of r) d) unread.answer;
    log = ap (λ (e : Event). world.log ++ e ∷ []) (sym (event_took new (Refused Io) (ap (λ (o : OrderState). o.mark) new_is ∙ mark_stopped hand) unread.answer));
    of_order = subst (λ (o : OrderState). IsOrderOf (faulted world).stage o None) (sym new_is) (order_stopped world.stage old hand (counted world.stage.faults) of);
    of_keeper = by_cause unread.cause;
    disk = λ is_honest disk.
        let leaves = crash_read (unread.only_read is_honest) disk in
        (record { holds = λ going. absurd (never going); leaves = λ content left. ends leaves (sound next.disk (stays is_honest)) content left }, leaves);
    shows = λ is_honest disk shown. subst (Shows (faulted world).stage) (sym new_is) (shows_stopped hand shown);
  }
    where
      new_is : new ≡ stopped_with hand old
      new_is = same ∙ stopped_same hand middle unread.order

      never : true ≡ false → ⊥
      never is = cc

      failed_now : (refusal : KeeperFault) → refusal ≡ fault.DeviceFault → next ≡ refused_by refusal keeper next.disk → faults next.disk ≡ faults_by refusal (faults keeper.disk)
          → IsKeeperOf (faulted world).stage next (faults next.disk)
      failed_now refusal is keeper_is level =
          subst (λ (k : KeeperState D). IsKeeperOf (faulted world).stage k (faults next.disk)) (sym (keeper_is ∙ ap (λ (f : KeeperFault). refused_by f keeper next.disk) is)) (record {
            geometry = kept.geometry;
            count = kept.count;
            base = kept.base;
            turned = kept.turned;
            lefts = kept.lefts;
            generation = kept.generation;
            phase = kept.phase;
            used = kept.used;
            failed = refl;
            faults = level ∙ ap (λ (f : KeeperFault). faults_by f (faults keeper.disk)) is ∙ ap counted kept.faults;
            takes = kept.takes;
            remembers = remembers_still keeper (record keeper { disk = next.disk; failed = true }) _ refl refl kept.remembers;
          })

      by_cause : (unread.refusal ≡ fault.DeviceFault) ⊎ ((unread.refusal ≡ fault.Failed) × IsTrue keeper.failed) → IsKeeperOf (faulted world).stage next (faults next.disk)
      by_cause (inl is) = failed_now unread.refusal is unread.keeper_is unread.level
      by_cause (inr failed) = absurd (both_ways keeper.failed (kept.failed ∙ runs) failed.1)

-- a request that is served, with or without the device
module _ {D : Type 0} (state : D → State) (faults extent : D → ℕ) (honest : D → Type 0) (sound : (disk : D) → honest disk → IsSound (extent disk) (state disk))
    (world : World) (c : ℕ) (request : Message) (old new : OrderState) (hand group : Option Numbered) (keeper next : KeeperState D) (result : Served)
    (within : IsWithin world) (of : IsOrderOf world.stage old hand) (kept : IsKeeperOf world.stage keeper (faults keeper.disk)) (stays : honest keeper.disk → honest next.disk)
    (here : world.connections c ≡ Requested request) (same_size : length new.cache.states ≡ length old.cache.states)
    (sure : IsSure world old keeper (honest keeper.disk) (state keeper.disk)) where
  abbrev Any : World → Type 0
  Any after = IsAnyServed world after c (state_of result) (event_for c old.mark new.mark result) old new hand group keeper next (faults next.disk) (honest keeper.disk) (state keeper.disk) (state next.disk)

  -- without the device
  quiet_any : (after : World) → group ≡ hand → next ≡ keeper → Comes world c request old hand within of here new same_size result after → Any after
  quiet_any after same still comes = inl (still, same, comes.0, comes.1)

  asked_any : (after : World) (works : old.stopped ≡ false) → group ≡ hand
      → Answers state faults extent honest sound world c request old hand keeper next result within of kept stays works new hand after → Any after
  asked_any after works same asked = inr (subst (λ (g : Option Numbered). IsAsked world after c (state_of result) (event_for c old.mark new.mark result) old new g keeper next (faults next.disk) (honest keeper.disk) (state keeper.disk) (state next.disk)) (sym same) asked)

  -- a READ that passes judgement
  read_passes : (failure : Failure) (P : World → Type 0) → old.stopped ≡ false → request.head.kind ≡ 0 → P (read_served failure world c request) → P (passed failure world c request)
  read_passes failure P works kind is =
      if_false P world.stage.stopped _ _ (sym of.stopped ∙ works)
      (if_false P (is_flush request) _ _ (ne_eqb request.head.kind 3 (λ same. omega (arith, kind, same)))
      (if_true P (request.head.kind == 0) _ _ (eq-eqb request.head.kind 0 kind) is))

  by_reading : group ≡ hand → (old.stopped ≡ false → new.stopped ≡ false) → old.stopped ≡ false → request.head.kind ≡ 0 → IsReadServed state faults honest request.head old new keeper next result
      → (failure : Failure) × Any (passed failure world c request)
  by_reading same goes_on works kind (inl refused) = (
    OutOfMemory,
    read_passes OutOfMemory Any works kind
        (quiet_any (read_served OutOfMemory world c request) same refused.1 (refused_so world c request old hand within of here new same_size result NoMemory refused.0 refused.2)),
  )
  by_reading same goes_on works kind (inr (inl read)) =
      let told = asked_read state faults extent honest sound world c request old hand keeper next result within of kept stays works kind new read sure in
      (told.0, read_passes told.0 Any works kind (asked_any (read_served told.0 world c request) works same told.1))
  by_reading same goes_on works kind (inr (inr unread)) = absurd (both_ways new.stopped (goes_on works) (ap (λ (o : OrderState). o.stopped) unread.order))

  -- a write request that passes judgement
  write_passes : (failure : Failure) (P : World → Type 0) → old.stopped ≡ false → is_write request ≡ true → P (write_served failure (image_shown failure world.stage) world c request)
      → P (passed failure world c request)
  write_passes failure P works write is =
      let others = write_others request.head.kind write in
      if_false P world.stage.stopped _ _ (sym of.stopped ∙ works)
      (if_false P (is_flush request) _ _ others.0
      (if_false P (request.head.kind == 0) _ _ others.1
      (if_false P (request.head.kind == 7) _ _ others.2 is)))

  by_writing : group ≡ hand → (old.stopped ≡ false → new.stopped ≡ false) → old.stopped ≡ false → is_write request ≡ true
      → IsWriteAsked state faults honest request world.stage.setting.geometry world.stage.setting.mode old new keeper next result → (failure : Failure) × Any (passed failure world c request)
  by_writing same goes_on works write (inl edit) =
      let told = asked_write state faults extent honest sound world c request old hand keeper next result within of kept stays works new same_size here edit sure in
      (told.0, write_passes told.0 Any works write (asked_any (write_served told.0 (image_shown told.0 world.stage) world c request) works same told.1))
  by_writing same goes_on works write (inr refused) = absurd (both_ways new.stopped (goes_on works) (ap (λ (o : OrderState). o.stopped) refused.unread.order))

  by_verdict : (given : Result Action Errno) → group ≡ hand → (old.stopped ≡ false → new.stopped ≡ false)
      → IsServedBy state faults honest given request world.stage.setting.geometry world.stage.setting.mode old new keeper next result → (failure : Failure) × Any (judged given failure world c request)
  by_verdict (Ok End) same goes_on by = absurd by
  by_verdict (Ok Serve) same goes_on (inl by) =
      let told = passes world c request old hand within of here new same_size result (λ trusted. (sure trusted).2) by.1 in
      (told.0, quiet_any (passed told.0 world c request) same by.0 told.1)
  by_verdict (Ok Serve) same goes_on (inr (inl by)) = by_reading same goes_on by.0 by.1 by.2
  by_verdict (Ok Serve) same goes_on (inr (inr by)) = by_writing same goes_on by.0 by.1 by.2
  by_verdict (Err errno) same goes_on by =
      (Nothing, quiet_any (judged (Err errno) Nothing world c request) same by.0 (refused_so world c request old hand within of here new same_size result errno by.1 by.2))

  pub any_served : (given : Result Action Errno)
      → IsServedWith state faults honest given request world.stage.setting.geometry world.stage.setting.mode old new keeper next hand group result → (failure : Failure) × Any (judged given failure world c request)
  any_served given (inl by) = by_verdict given by.0 by.1 by.2
  any_served given (inr (given_is, works, none, middle, by, stopped)) =
      let told = by_stop by in
      (told.0, subst (λ (judgement : Result Action Errno). Any (judged judgement told.0 world c request)) (sym given_is) told.1)
    where
      fault : (unread : IsUnread state faults honest request.head old middle keeper next result) → Any (ready (faulted world) c (Refused Io))
      fault unread = inr (
          subst (λ (g : Option Numbered). IsAsked world (ready (faulted world) c (Refused Io)) c (state_of result) (event_for c old.mark new.mark result) old new g keeper next (faults next.disk) (honest keeper.disk) (state keeper.disk) (state next.disk)) (sym none)
          (asked_fault state faults extent honest sound world c request old hand keeper next result within of kept stays works middle new unread stopped)
          )

      by_stop : IsStopped state faults honest request old middle keeper next result → (failure : Failure) × Any (passed failure world c request)
      by_stop (inl (kind, unread)) = (DeviceFailure, read_passes DeviceFailure Any works kind (fault unread))
      by_stop (inr (write, refused)) =
          let told = refused_edit (cases_Bool world.stage.setting.trusted) in
          (told.0, write_passes told.0 Any works write told.1)
        where
          refused_edit : (world.stage.setting.trusted ≡ true) ⊎ (world.stage.setting.trusted ≡ false) → (failure : Failure) × Any (write_served failure (image_shown failure world.stage) world c request)
          refused_edit (inl trusted) =
              let after = image_after world.stage.order (length world.stage.order) world.stage.setting.image in
              let known = refused.own after (sure trusted).2 in (
                DeviceFailure,
                write_accepted world c request old hand of DeviceFailure after Any refused.left known.0
                    (if_true Any (takes_old_bytes (edit_asked request) after) _ _ known.1 (fault refused.unread)),
              )
          refused_edit (inr other) = (
            Misread DeviceFailure refused.image,
            subst (λ (image : Image). Any (write_served (Misread DeviceFailure refused.image) image world c request))
                (sym (ap (λ (b : Bool). if b then image_after world.stage.order (length world.stage.order) world.stage.setting.image else refused.image) other))
                (write_accepted world c request old hand of (Misread DeviceFailure refused.image) refused.image Any refused.left refused.room
                (if_true Any (takes_old_bytes (edit_asked request) refused.image) _ _ refused.takes (fault refused.unread))),
          )

-- a DISC ends the session
pub verdict_ends : (head : RequestHead) (geometry : Geometry) (flags : SessionFlags) → head.kind ≡ 2 → verdict head geometry flags ≡ Ok End
verdict_ends head geometry flags is = if_true (λ (r : Result Action Errno). r ≡ Ok End) (head.kind == 2) (Ok End) _ (eq-eqb head.kind 2 is) refl

-- where no request waits to be served, serving changes nothing
pub serve_none : (world : World) (c : ℕ) (given : Connection) → request_in given ≡ None → serve Nothing world c given ≡ held world
serve_none world c Idle is = refl
serve_none world c (Requested request) is = cc
serve_none world c (Waiting number) is = refl
serve_none world c (Ready outcome) is = refl
serve_none world c Closed is = refl

-- the parts of a world in which a connection was served, of all connections
pub any_talked : {D : Type 0} (world : World) (failure : Failure) (items : List Connection) (c : ℕ) (request : Message) (given idle : Connection) (event : Event) (old new : OrderState) (hand group : Option Numbered)
    (keeper next : KeeperState D) (failures : ℕ) (honest : Type 0) (before after : State) → AreConnectionsOf world items → c < length items → world.connections c ≡ Requested request
    → IsAnyServed world (serve failure world c (Requested request)) c given event old new hand group keeper next failures honest before after
    → IsAnyTalked world (serve failure world c (world.connections c)) (set (set items c idle) c given) event old new hand group keeper next failures honest before after
any_talked world failure items c request given idle event old new hand group keeper next failures honest before after same below here (inl (still, group_is, served, shows)) =
    inl (
      still,
      group_is,
      talked_served world failure items c request given idle event new hand same below here served,
      λ shown. subst (λ (s : Connection). Shows (serve failure world c s).stage new) (sym here) (shows shown),
    )
any_talked world failure items c request given idle event old new hand group keeper next failures honest before after same below here (inr asked) =
    subst (λ (s : Connection). IsAnyTalked world (serve failure world c s) (set (set items c idle) c given) event old new hand group keeper next failures honest before after) (sym here) (inr (record {
      of_states = λ d. ap (λ (l : List Connection). get_or l d Closed) (set-set items c idle given) ∙ (set_put items world.connections c given below same d ∙ asked.connections d);
      log = asked.log;
      of_order = asked.of_order;
      of_keeper = asked.of_keeper;
      disk = asked.disk;
      shows = asked.shows;
    }))
