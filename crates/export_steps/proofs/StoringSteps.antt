-- what sealing, storing and publishing make of the world
use Rattle.std.proofs.Common.{◌≡◌, ◌⊎◌, inl, inr, ℕ, ◌+◌, ◌-◌, ◌<◌, ◌≤◌, ◌&&◌, ◌==◌, Bool, true, false, IsTrue, nat_lt, Option, Some, None, List, [], ◌∷◌, length, length-drop, sym, ◌∙◌, ap, subst, refl, arith, map, ◌++◌}
use Rattle.std.proofs.lemmas.Bool.{and_from, and_left, and_right, cases_lt, eq-eqb, le-leb, le-ltb, lt-leb, lt-ltb, ne_eqb}
use Rattle.std.proofs.lemmas.List.{length-map}
use Rattle.device_image.specs.Keeper.{KeeperState, Memory}
use Rattle.checkpoint.specs.Keeper.{end_after, grown_by}
use Rattle.disk_model.specs.Faults.{counted}
use Rattle.image_model.specs.Change.{change_of}
use Rattle.image_model.specs.Command.{bodies_of}
use Rattle.image_model.specs.Layout.{area_size_of}
use Rattle.image_model.specs.declared.geometry.Geometry.{Geometry}
use Rattle.regions.specs.Layout.{area_size}
use Rattle.journal_format.specs.Group.{Numbered}
use Rattle.order_book.specs.Order.{OrderState, Seals, with_durable, with_group, with_clean}
use Rattle.export_steps.specs.Parts.{IsKeeperOf, IsOrderOf, last_commands, turned_at}
use Rattle.export_steps.specs.inner.Storing.{IsKept, PublishesBy, SealsBy, CleansBy}
use Rattle.export_steps.specs.laws.Orders.{bodies_same, hand_is, order_publishes, order_puts_back, order_seals, order_stops, order_stores, clean_due, order_cleans}
use Rattle.request_core.specs.laws.Commands.{commands_length}
use Rattle.export_steps.proofs.Serves.{if_false, if_true}
use Rattle.export_model.specs.declared.event.Event.{Event}
use Rattle.export_model.specs.declared.event.Event.TheVariants.{Took, Skipped, Failed}
use Rattle.export_model.specs.declared.event.StepFault.TheVariants.{NoMemory, DeviceFault, FailedBefore}
use Rattle.image_model.specs.Bodies.{bodies_bytes}
use Rattle.export_model.specs.Serve.{Failure, Nothing, OutOfMemory, held, logged, faulted}
use Rattle.export_model.specs.Checkpoint.{can_clean}
use Rattle.export_model.specs.Step.{append, clean, publish, put_back, seal, out_of_memory, stored_more}
use Rattle.export_model.specs.World.{World, area_bytes, fits, in_hand, Stage}
use Rattle.export_model.specs.Law.{IsWithin}
use Rattle.export_steps.specs.laws.Lives.{last_grows, ordered}
use Rattle.device_image.specs.Remembers.{Remembers}
use Rattle.device_image.specs.laws.Counted.{remembers_still}
use Rattle.std.specs.FinMap.{len}

pub not_true_is : (b : Bool) → (IsTrue b → ⊥) → b ≡ false
not_true_is true no_true = absurd (no_true refl)
not_true_is false no_true = refl

-- the same of an order, a group and an event that are equal
pub kept_as : {D : Type 0} (world next : World) (keeper : KeeperState D) (failures : ℕ) (order order' : OrderState) (group group' : Option Numbered) (event event' : Event)
    → order ≡ order' → group ≡ group' → event ≡ event' → IsKept world next event order group keeper failures → IsKept world next event' order' group' keeper failures
kept_as world next keeper failures order order' group group' event event' order_is group_is event_is kept =
    subst (λ (e : Event). IsKept world next e order' group' keeper failures) event_is
    (subst (λ (g : Option Numbered). IsKept world next event order' g keeper failures) group_is
    (subst (λ (o : OrderState). IsKept world next event o group keeper failures) order_is kept))

-- a keeper is that of a stage with other numbers of which it knows nothing
keeper_same : {D : Type 0} (stage : Stage) (keeper : KeeperState D) (failures sealed durable : ℕ) → IsKeeperOf stage keeper failures
    → IsKeeperOf (record stage { sealed = sealed; durable = durable }) keeper failures
keeper_same stage keeper failures sealed durable of = record {
  geometry = of.geometry;
  count = of.count;
  base = of.base;
  turned = of.turned;
  lefts = of.lefts;
  generation = of.generation;
  phase = of.phase;
  used = of.used;
  failed = of.failed;
  faults = of.faults;
  takes = of.takes;
  remembers = of.remembers;
}

empty_is : {X : Type 0} (xs : List X) → length xs ≡ 0 → xs ≡ []
empty_is [] none = refl
empty_is (x ∷ xs) none = absurd (omega (arith, none))

module _ {D : Type 0} (world : World) (keeper : KeeperState D) (failures : ℕ) (of_keeper : IsKeeperOf world.stage keeper failures) where
  pub kept_held : (order : OrderState) (group : Option Numbered) → IsOrderOf world.stage order group → IsKept world (held world) Skipped order group keeper failures
  kept_held order group of = record { connections = refl; log = refl; of_order = of; of_keeper = of_keeper }

  pub kept_out_of_memory : (order : OrderState) (group : Option Numbered) → IsOrderOf world.stage order group → IsKept world (out_of_memory world) (Failed NoMemory) order group keeper failures
  kept_out_of_memory order group of = record { connections = refl; log = refl; of_order = of; of_keeper = of_keeper }

  -- sealing with a group in hand
  pub kept_seal_in_hand : (order : OrderState) (group : Numbered) → IsWithin world → IsOrderOf world.stage order (Some group) → IsKept world (seal Nothing world) Skipped order (Some group) keeper failures
  kept_seal_in_hand order group within of =
      let hand = of.hand in let some = of.some in let durable = within.durable in
      if_false (λ next. IsKept world next Skipped order (Some group) keeper failures) (nat_lt world.stage.sealed (length world.stage.order) && (world.stage.sealed == world.stage.durable)) _ _
      (and_right (nat_lt world.stage.sealed (length world.stage.order)) (world.stage.sealed == world.stage.durable) (ne_eqb world.stage.sealed world.stage.durable (λ same. omega (arith, same, hand, some, durable, commands_length group))))
      (kept_held order (Some group) of)

  module _ (order : OrderState) (within : IsWithin world) (of : IsOrderOf world.stage order None) where
    left_length : length world.stage.order - world.stage.stored ≡ length order.pending
    left_length = sym (length-drop world.stage.stored world.stage.order) ∙ (ap length of.behind ∙ length-map order.pending change_of)

    -- sealing where nothing is pending, or what was sealed isn't durable
    pub kept_seal_none : (order.pending ≡ []) ⊎ (order.durable < order.sealed) → IsKept world (seal Nothing world) Skipped order None keeper failures
    kept_seal_none why = if_false (λ next. IsKept world next Skipped order None keeper failures) (nat_lt world.stage.sealed (length world.stage.order) && (world.stage.sealed == world.stage.durable)) _ _ (test why) (kept_held order None of)
      where
        test : (order.pending ≡ []) ⊎ (order.durable < order.sealed) → (nat_lt world.stage.sealed (length world.stage.order) && (world.stage.sealed == world.stage.durable)) ≡ false
        test (inl none) = let hand = of.hand in let empty = ap length none in
            and_left (nat_lt world.stage.sealed (length world.stage.order)) (world.stage.sealed == world.stage.durable) (le-ltb world.stage.sealed (length world.stage.order) (omega (arith, hand, left_length, empty)))
        test (inr behind) = let durable = of.durable in let sealed = of.sealed in
            and_right (nat_lt world.stage.sealed (length world.stage.order)) (world.stage.sealed == world.stage.durable) (ne_eqb world.stage.sealed world.stage.durable (λ same. omega (arith, same, durable, sealed, behind)))

    -- the test, where the order seals or memory is wanting
    seals_test : (order.pending ≡ [] → ⊥) → (order.durable < order.sealed → ⊥) → (nat_lt world.stage.sealed (length world.stage.order) && (world.stage.sealed == world.stage.durable)) ≡ true
    seals_test pending level =
        let hand = of.hand in let durable = of.durable in let sealed = of.sealed in let first = within.durable in let second = within.stored in
        and_from (nat_lt world.stage.sealed (length world.stage.order)) (world.stage.sealed == world.stage.durable)
        (lt-ltb world.stage.sealed (length world.stage.order) (some_left (cases_lt world.stage.sealed (length world.stage.order))))
        (eq-eqb world.stage.sealed world.stage.durable (same (cases_lt order.durable order.sealed)))
      where
        some_left : (world.stage.sealed < length world.stage.order) ⊎ (length world.stage.order ≤ world.stage.sealed) → world.stage.sealed < length world.stage.order
        some_left (inl below) = below
        some_left (inr above) = let hand = of.hand in absurd (pending (empty_is order.pending (omega (arith, above, hand, left_length))))

        same : (order.durable < order.sealed) ⊎ (order.sealed ≤ order.durable) → world.stage.sealed ≡ world.stage.durable
        same (inl behind) = absurd (level behind)
        same (inr above) = let durable = of.durable in let sealed = of.sealed in let first = within.durable in let second = within.stored in
            omega (arith, above, durable, sealed, first, second)

    pub kept_seal_out_of_memory : (order.pending ≡ [] → ⊥) → (order.durable < order.sealed → ⊥) → IsKept world (seal OutOfMemory world) (Failed NoMemory) order None keeper failures
    kept_seal_out_of_memory pending level =
        if_true (λ next. IsKept world next (Failed NoMemory) order None keeper failures) (nat_lt world.stage.sealed (length world.stage.order) && (world.stage.sealed == world.stage.durable)) _ _ (seals_test pending level) (kept_out_of_memory order None of)

    pub kept_seal : (new : OrderState) (group : Numbered) → (order.pending ≡ [] → ⊥) → (order.durable < order.sealed → ⊥) → Seals order new group
        → IsKept world (seal Nothing world) Took new (Some group) keeper failures
    kept_seal new group pending level seals =
        let stored = within.stored in let sealed = within.sealed in
        if_true (λ next. IsKept world next Took new (Some group) keeper failures) (nat_lt world.stage.sealed (length world.stage.order) && (world.stage.sealed == world.stage.durable)) _ _ (seals_test pending level)
        (record {
          connections = refl;
          log = refl;
          of_order = order_seals world.stage order new group of (omega (arith, stored, sealed)) seals;
          of_keeper = keeper_same world.stage keeper failures _ _ of_keeper;
        })

  -- publishing
  pub kept_publish : (order : OrderState) (group : Option Numbered) → IsWithin world → IsOrderOf world.stage order group → order.durable < keeper.count
      → IsKept world (publish world) Took (with_durable order keeper.count) group keeper failures
  kept_publish order group within of behind =
      let durable = of.durable in let count = of_keeper.count in let stored = within.stored in let sealed = within.sealed in
      if_true (λ next. IsKept world next Took (with_durable order keeper.count) group keeper failures) (nat_lt world.stage.durable world.stage.stored) _ _
      (lt-ltb world.stage.durable world.stage.stored (omega (arith, durable, count, behind)))
      (record {
        connections = refl;
        log = refl;
        of_order = order_publishes world.stage order group keeper.count of within.durable (omega (arith, stored, sealed)) count;
        of_keeper = keeper_same world.stage keeper failures _ _ of_keeper;
      })

  pub kept_publish_none : (order : OrderState) (group : Option Numbered) → IsOrderOf world.stage order group → keeper.count ≤ order.durable
      → IsKept world (publish world) Skipped order group keeper failures
  kept_publish_none order group of level =
      let durable = of.durable in let count = of_keeper.count in
      if_false (λ next. IsKept world next Skipped order group keeper failures) (nat_lt world.stage.durable world.stage.stored) _ _
      (le-ltb world.stage.durable world.stage.stored (omega (arith, durable, count, level))) (kept_held order group of)

  -- storing with no group in hand
  pub goes_none : (order : OrderState) (P : World → Type 0) → IsOrderOf world.stage order None → P (held world) → P (append Nothing world)
  goes_none order P of here =
      let hand = of.hand in
      if_false P (nat_lt world.stage.stored world.stage.sealed) _ _ (le-ltb world.stage.stored world.stage.sealed (omega (arith, hand))) here

  module _ (order : OrderState) (group : Numbered) (of : IsOrderOf world.stage order (Some group)) where
    has_hand : nat_lt world.stage.stored world.stage.sealed ≡ true
    has_hand = let hand = of.hand in let some = of.some in lt-ltb world.stage.stored world.stage.sealed (omega (arith, hand, some, commands_length group))

    hand_bodies : bodies_bytes (in_hand world) ≡ bodies_of group.commands
    hand_bodies = ap bodies_bytes (hand_is world.stage order group of) ∙ sym (bodies_same group.commands)

    works : keeper.failed ≡ false → world.stage.stopped ≡ false
    works is = sym of_keeper.failed ∙ is

    fits_is : end_after keeper group ≤ area_size keeper.geometry → fits world ≡ true
    fits_is fit = let used = of_keeper.used in let area = ap (λ (g : Geometry). area_size_of g.layout g.area) of_keeper.geometry in
        le-leb (world.stage.at + 17 + bodies_bytes (in_hand world) + 1) (area_bytes world.stage) (omega (arith, fit, used, area, hand_bodies))

    full_is : area_size keeper.geometry < end_after keeper group → fits world ≡ false
    full_is full = let used = of_keeper.used in let area = ap (λ (g : Geometry). area_size_of g.layout g.area) of_keeper.geometry in
        lt-leb (world.stage.at + 17 + bodies_bytes (in_hand world) + 1) (area_bytes world.stage) (omega (arith, full, used, area, hand_bodies))

    -- where storing the group in hand leads: the device failed before, the group doesn't fit, or it is tried
    pub goes_failed : (P : World → Type 0) → keeper.failed ≡ true → P (logged (put_back world) (Failed FailedBefore)) → P (append Nothing world)
    goes_failed P failed here = if_true P (nat_lt world.stage.stored world.stage.sealed) _ _ has_hand (if_true P world.stage.stopped _ _ (sym of_keeper.failed ∙ failed) here)

    pub goes_full : (P : World → Type 0) → keeper.failed ≡ false → area_size keeper.geometry < end_after keeper group → P (held (put_back world)) → P (append Nothing world)
    goes_full P failed full here = if_true P (nat_lt world.stage.stored world.stage.sealed) _ _ has_hand (if_false P world.stage.stopped _ _ (works failed) (if_false P (fits world) _ _ (full_is full) here))

    pub goes_on_to : (failure : Failure) (P : World → Type 0) → keeper.failed ≡ false → end_after keeper group ≤ area_size keeper.geometry → P (stored_more failure world) → P (append failure world)
    goes_on_to failure P failed fit here = if_true P (nat_lt world.stage.stored world.stage.sealed) _ _ has_hand (if_false P world.stage.stopped _ _ (works failed) (if_true P (fits world) _ _ (fits_is fit) here))

    -- the group is pending again
    pub kept_back : (event : Event) → IsKept world (logged (put_back world) event) event (with_group order group) None keeper failures
    kept_back event = record {
      connections = refl;
      log = refl;
      of_order = order_puts_back world.stage order group of;
      of_keeper = keeper_same world.stage keeper failures world.stage.stored world.stage.durable of_keeper;
    }

    -- the device fails
    pub kept_faulted : (disk : D) → IsKept world (logged (faulted world) (Failed DeviceFault)) (Failed DeviceFault) (record (with_group order group) { stopped = true }) None
        (record keeper { disk = disk; failed = true }) (counted failures)
    kept_faulted disk = record {
      connections = refl;
      log = refl;
      of_order = order_stops (record world.stage { sealed = world.stage.stored }) (with_group order group) None (counted world.stage.faults) (order_puts_back world.stage order group of);
      of_keeper = record {
        geometry = of_keeper.geometry;
        count = of_keeper.count;
        base = of_keeper.base;
        turned = of_keeper.turned;
        lefts = of_keeper.lefts;
        generation = of_keeper.generation;
        phase = of_keeper.phase;
        used = of_keeper.used;
        failed = refl;
        faults = ap counted of_keeper.faults;
        takes = of_keeper.takes;
        remembers = remembers_still keeper (record keeper { disk = disk; failed = true }) _ refl refl of_keeper.remembers;
      };
    }

    -- the group is stored
    pub kept_stored : (disk : D) (memory : Memory) → turned_at world.stage ≤ world.stage.stored → world.stage.sealed ≤ length world.stage.order
        → Remembers (grown_by keeper group disk memory) (last_commands world.stage ++ map change_of group.commands)
        → IsKept world (stored_more Nothing world) Took order None (grown_by keeper group disk memory) failures
    kept_stored disk memory behind within remembers = record {
      connections = refl;
      log = refl;
      of_order = order_stores world.stage order group of (world.stage.at + 17 + bodies_bytes (in_hand world));
      of_keeper = record {
        geometry = of_keeper.geometry;
        count = let count = of_keeper.count in let hand = of.hand in omega (arith, count, hand, commands_length group);
        base = of_keeper.base;
        turned = of_keeper.turned;
        lefts = of_keeper.lefts;
        generation = of_keeper.generation;
        phase = of_keeper.phase;
        used = let used = of_keeper.used in omega (arith, used, hand_bodies);
        failed = of_keeper.failed;
        faults = of_keeper.faults;
        takes = of_keeper.takes;
        remembers = subst (Remembers (grown_by keeper group disk memory)) (sym (last_grows world.stage order group of within behind)) remembers;
      };
    }

-- what an order did when it was asked to seal is a step of the world
pub kept_seal_by : {D : Type 0} (world : World) (keeper : KeeperState D) (failures : ℕ) (old new : OrderState) (before after : Option Numbered) (event : Event)
    → IsKeeperOf world.stage keeper failures → IsWithin world → IsOrderOf world.stage old before → SealsBy before old new after event
    → (failure : Failure) × IsKept world (seal failure world) event new after keeper failures
kept_seal_by world keeper failures old new (Some group) after event of_keeper within of seals = (
  Nothing,
  kept_as world (seal Nothing world) keeper failures old new (Some group) after Skipped event (sym seals.0) (sym seals.1) (sym seals.2)
      (kept_seal_in_hand world keeper failures of_keeper old group within of),
)
kept_seal_by world keeper failures old new None after event of_keeper within of (inl none) = (
  Nothing,
  kept_as world (seal Nothing world) keeper failures old new None after Skipped event (sym none.1) (sym none.2) (sym none.3)
      (kept_seal_none world keeper failures of_keeper old within of none.0),
)
kept_seal_by world keeper failures old new None after event of_keeper within of (inr (inl refused)) = (
  OutOfMemory,
  kept_as world (seal OutOfMemory world) keeper failures old new None after (Failed NoMemory) event (sym refused.1) (sym refused.2) (sym refused.3)
      (kept_seal_out_of_memory world keeper failures of_keeper old within of refused.0.0 refused.0.1),
)
kept_seal_by world keeper failures old new None after event of_keeper within of (inr (inr seals)) = (
  Nothing,
  kept_as world (seal Nothing world) keeper failures new new (Some seals.0) after Took event refl (sym seals.3) (sym seals.4)
      (kept_seal world keeper failures of_keeper old within of new seals.0 seals.1.0 seals.1.1 seals.2),
)

pub kept_publish_by : {D : Type 0} (world : World) (keeper : KeeperState D) (failures : ℕ) (old new : OrderState) (group : Option Numbered) (event : Event)
    → IsKeeperOf world.stage keeper failures → IsWithin world → IsOrderOf world.stage old group → PublishesBy keeper.count old new event
    → IsKept world (publish world) event new group keeper failures
kept_publish_by world keeper failures old new group event of_keeper within of (inl publishes) =
    kept_as world (publish world) keeper failures (with_durable old keeper.count) new group group Took event (sym publishes.1) refl (sym publishes.2)
    (kept_publish world keeper failures of_keeper old group within of publishes.0)
kept_publish_by world keeper failures old new group event of_keeper within of (inr none) =
    kept_as world (publish world) keeper failures old new group group Skipped event (sym none.1) refl (sym none.2)
    (kept_publish_none world keeper failures of_keeper old group of none.0)

-- a keeper knows nothing of which frames were let go
keeper_cleans : {D : Type 0} (stage : Stage) (keeper : KeeperState D) (failures cleaned : ℕ) → IsKeeperOf stage keeper failures → IsKeeperOf (record stage { cleaned = cleaned }) keeper failures
keeper_cleans stage keeper failures cleaned of = record {
  geometry = of.geometry;
  count = of.count;
  base = of.base;
  turned = of.turned;
  lefts = of.lefts;
  generation = of.generation;
  phase = of.phase;
  used = of.used;
  failed = of.failed;
  faults = of.faults;
  takes = of.takes;
  remembers = of.remembers;
}

-- what an order let go of is a step of the world
pub kept_clean_by : {D : Type 0} (world : World) (keeper : KeeperState D) (failures : ℕ) (old new : OrderState) (group : Option Numbered) (event : Event)
    → IsKeeperOf world.stage keeper failures → IsWithin world → IsOrderOf world.stage old group → CleansBy keeper.base old new event
    → IsKept world (clean world) event new group keeper failures
kept_clean_by world keeper failures old new group event of_keeper within of (inl (fewer, new_is, event_is)) =
    let is = ordered world within in let base = is.base in let turned = is.turned in let stored = is.stored in
    let few : world.stage.base ≤ length world.stage.order = omega (arith, base, turned, stored) in
    kept_as world (clean world) keeper failures (with_clean old keeper.base) new group group Took event (sym new_is) refl (sym event_is)
    (if_true (λ next. IsKept world next Took (with_clean old keeper.base) group keeper failures) (can_clean world.stage) _ _
    ((clean_due world.stage old group keeper.base of within.cleaned few of_keeper.base).1 fewer)
    (record {
      connections = refl;
      log = refl;
      of_order = order_cleans world.stage old group keeper.base of within.cleaned few of_keeper.base;
      of_keeper = keeper_cleans world.stage keeper failures world.stage.base of_keeper;
    }))
kept_clean_by world keeper failures old new group event of_keeper within of (inr (none, new_is, event_is)) =
    let is = ordered world within in let base = is.base in let turned = is.turned in let stored = is.stored in
    let few : world.stage.base ≤ length world.stage.order = omega (arith, base, turned, stored) in
    let as_many = ap (λ (o : OrderState). len o.dirty) none in
    kept_as world (clean world) keeper failures old new group group Skipped event (sym new_is) refl (sym event_is)
    (if_false (λ next. IsKept world next Skipped old group keeper failures) (can_clean world.stage) _ _
    (not_true_is (can_clean world.stage) (λ due. let fewer = (clean_due world.stage old group keeper.base of within.cleaned few of_keeper.base).0 due in absurd (omega (arith, fewer, as_many))))
    (kept_held world keeper failures of_keeper old group of))
