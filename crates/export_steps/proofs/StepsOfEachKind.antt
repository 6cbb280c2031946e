-- what a step of each kind makes of all the parts
use Rattle.std.proofs.Common.{◌≡◌, inl, inr, Option, ℕ, ◌&&◌, ◌==◌, Bool, true, false, if◌then◌else◌, nat_lt, List, [], ◌∷◌, ◌++◌, length, sym, ◌∙◌, ap, subst}
use Rattle.device_image.specs.Keeper.{KeeperState}
use Rattle.disk_model.specs.Disk.{State, IsSound}
use Rattle.disk_model.specs.laws.Moments.{begins}
use Rattle.image_model.specs.Change.{Change, AreChanges}
use Rattle.journal_format.specs.Group.{Numbered}
use Rattle.order_book.specs.Order.{OrderState}
use Rattle.export_steps.specs.Bench.{ConnectionsState}
use Rattle.export_steps.specs.inner.Steps.{IsAnyTalked, IsAppended, IsPerformed}
use Rattle.export_steps.specs.Parts.{AreConnectionsOf, IsDiskOf, IsKeeperOf, IsOrderOf, Shows}
use Rattle.export_steps.specs.inner.Serving.{IsTalked, with_commands}
use Rattle.export_steps.specs.inner.Storing.{IsKept}
use Rattle.export_steps.specs.laws.Lives.{disk_grows, IsOrdered, last_stay, lefts_same, ordered}
use Rattle.request_core.specs.laws.Commands.{all_both}
use Rattle.export_model.specs.declared.connection.Connection.{Connection}
use Rattle.export_model.specs.declared.event.Event.{Event}
use Rattle.export_model.specs.Serve.{Failure, Nothing, OutOfMemory, DeviceFailure, Misread}
use Rattle.export_model.specs.Checkpoint.{can_clean}
use Rattle.export_model.specs.Step.{after_step, clean, publish, seal, sealed_more}
use Rattle.export_model.specs.declared.step.Step.{Step}
use Rattle.export_model.specs.World.{World, Stage}
use Rattle.export_model.specs.Law.{IsWithin}
use Rattle.device_image.specs.Remembers.{Remembers}

-- what holds of both sides of a choice holds of the choice
of_either : {X : Type 0} (P : X → Type 0) (test : Bool) (x y : X) → P x → P y → P (if test then x else y)
of_either P true x y here there = here
of_either P false x y here there = there

pub keeper_grows : {D : Type 0} (stage : Stage) (commands : List Change) (keeper : KeeperState D) (failures : ℕ) → IsOrdered stage → AreChanges stage.setting.geometry.blocks commands
    → IsKeeperOf stage keeper failures → IsKeeperOf (with_commands stage commands) keeper failures
keeper_grows stage commands keeper failures is takes of = record {
  geometry = of.geometry;
  count = of.count;
  base = of.base;
  turned = of.turned;
  lefts = of.lefts ∙ sym (lefts_same stage.left stage.base stage.turned stage.stored stage.order commands is.stored is.rising);
  generation = of.generation;
  phase = of.phase;
  used = of.used;
  failed = of.failed;
  faults = of.faults;
  takes = all_both _ stage.order commands of.takes takes;
  remembers = subst (Remembers keeper) (sym (last_stay stage is commands)) of.remembers;
}

module _ {D : Type 0} (extent : ℕ) (honest : Type 0) (state : State) (sound : honest → IsSound extent state) (world : World) (keeper : KeeperState D) (failures : ℕ) (within : IsWithin world) where
  -- a step that doesn't call the device
  without_device : (next : World) (event : Event) (first order : OrderState) (connections : ConnectionsState) → AreConnectionsOf next connections.states → next.log ≡ world.log ++ event ∷ []
      → IsOrderOf next.stage order connections.group → IsKeeperOf next.stage keeper failures
      → (IsDiskOf world.stage keeper state → IsDiskOf next.stage keeper state) → (Shows world.stage first → Shows next.stage order)
      → IsPerformed world next event first order connections keeper keeper failures honest state state
  without_device next event first order connections states log of_order of_keeper here shows = record {
    of_states = states;
    log = log;
    of_order = of_order;
    of_keeper = of_keeper;
    disk = λ is_honest disk. (here disk, begins (sound is_honest) disk.leaves);
    shows = λ is_honest disk shown. shows shown;
  }

  pub performed_talked : (next : World) (event : Event) (first order : OrderState) (connections : ConnectionsState) → IsKeeperOf world.stage keeper failures
      → IsTalked world next connections.states event order connections.group → (Shows world.stage first → Shows next.stage order)
      → IsPerformed world next event first order connections keeper keeper failures honest state state
  performed_talked next event first order connections of_keeper talked shows =
      let grown = talked.grown in
      without_device next event first order connections talked.of_connections talked.log talked.of_order
      (subst (λ (s : Stage). IsKeeperOf s keeper failures) (sym grown.is) (keeper_grows world.stage grown.commands keeper failures (ordered world within) grown.takes of_keeper))
      (λ disk. subst (λ (s : Stage). IsDiskOf s keeper state) (sym grown.is)
      (disk_grows world.stage (ordered world within) grown.commands world.stage.sealed world.stage.durable keeper state disk)) shows

  kept_connections : (next : World) (connections : List Connection) → next.connections ≡ world.connections → AreConnectionsOf world connections → AreConnectionsOf next connections
  kept_connections next connections same are = λ c. are c ∙ sym (ap (λ (f : ℕ → Connection). f c) same)

  pub performed_kept : (next : World) (event : Event) (first order : OrderState) (connections : ConnectionsState) → AreConnectionsOf world connections.states
      → (IsDiskOf world.stage keeper state → IsDiskOf next.stage keeper state) → (Shows world.stage first → Shows next.stage order)
      → IsKept world next event order connections.group keeper failures → IsPerformed world next event first order connections keeper keeper failures honest state state
  performed_kept next event first order connections are here shows kept =
      without_device next event first order connections (kept_connections next connections.states kept.connections are) kept.log kept.of_order kept.of_keeper here shows

  numbers_here : (sealed durable : ℕ) → IsDiskOf world.stage keeper state
      → IsDiskOf (record world.stage { sealed = sealed; durable = durable }) keeper state
  numbers_here sealed durable disk = record { holds = disk.holds; leaves = disk.leaves }

  pub disk_seals : (failure : Failure) → IsDiskOf world.stage keeper state → IsDiskOf (seal failure world).stage keeper state
  disk_seals failure disk = of_either (λ (next : World). IsDiskOf next.stage keeper state) (nat_lt world.stage.sealed (length world.stage.order) && (world.stage.sealed == world.stage.durable)) _ _ (by_failure failure) disk
    where
      by_failure : (failure : Failure) → IsDiskOf (sealed_more failure world).stage keeper state
      by_failure OutOfMemory = disk
      by_failure Nothing = numbers_here _ _ disk
      by_failure DeviceFailure = numbers_here _ _ disk
      by_failure (Misread given image) = numbers_here _ _ disk

  pub disk_publishes : IsDiskOf world.stage keeper state → IsDiskOf (publish world).stage keeper state
  disk_publishes disk = of_either (λ (next : World). IsDiskOf next.stage keeper state) (nat_lt world.stage.durable world.stage.stored) _ _ (numbers_here _ _ disk) disk

  pub disk_cleans : IsDiskOf world.stage keeper state → IsDiskOf (clean world).stage keeper state
  disk_cleans disk = of_either (λ (next : World). IsDiskOf next.stage keeper state) (can_clean world.stage) _ _ (record { holds = disk.holds; leaves = disk.leaves }) disk

-- a group that was appended, or wasn't
pub performed_appended : {D : Type 0} (honest : Type 0) (before after : State) (world next : World) (event : Event) (first order : OrderState) (connections : ConnectionsState) (old new : KeeperState D) (failures : ℕ)
    → AreConnectionsOf world connections.states → (Shows world.stage first → Shows next.stage order) → IsAppended world next event order connections.group old new failures honest before after
    → IsPerformed world next event first order connections old new failures honest before after
performed_appended honest before after world next event first order connections old new failures are shows appended = record {
  of_states = λ c. are c ∙ sym (ap (λ (f : ℕ → Connection). f c) appended.kept.connections);
  log = appended.kept.log;
  of_order = appended.kept.of_order;
  of_keeper = appended.kept.of_keeper;
  disk = appended.disk;
  shows = λ is_honest disk shown. shows shown;
}

-- a connection that was served, with or without the device
pub performed_any : {D : Type 0} (extent : ℕ) (honest : Type 0) (before after : State) (sound : honest → IsSound extent before) (world next : World) (event : Event) (first order : OrderState) (hand : Option Numbered)
    (connections : ConnectionsState) (old new : KeeperState D) (failures level : ℕ) → IsWithin world → (new ≡ old → (after ≡ before) × (level ≡ failures)) → IsKeeperOf world.stage old failures
    → IsAnyTalked world next connections.states event first order hand connections.group old new level honest before after
    → IsPerformed world next event first order connections old new level honest before after
performed_any extent honest before after sound world next event first order hand connections old new failures level within same kept (inl (still, group_is, talked, shows)) =
    let alike = same still in
    subst (λ (k : KeeperState _). IsPerformed world next event first order connections old k level honest before after) (sym still)
    (subst (λ (s : State). IsPerformed world next event first order connections old old level honest before s) (sym alike.0)
    (subst (λ (n : ℕ). IsPerformed world next event first order connections old old n honest before before) (sym alike.1)
    (performed_talked extent honest before sound world old failures within next event first order connections kept
    (subst (λ (g : Option Numbered). IsTalked world next connections.states event order g) (sym group_is) talked) shows)))
performed_any extent honest before after sound world next event first order hand connections old new failures level within same kept (inr performed) = record {
  of_states = performed.of_states;
  log = performed.log;
  of_order = performed.of_order;
  of_keeper = performed.of_keeper;
  disk = performed.disk;
  shows = performed.shows;
}

-- the same of a step that is this one
pub of_step : {D : Type 0} {world : World} {event : Event} {first order : OrderState} {connections : ConnectionsState} {old new : KeeperState D} {failures : ℕ} {honest : Type 0} {before after : State}
    (failure : Failure) (step this : Step) → step ≡ this → IsPerformed world (after_step world this failure) event first order connections old new failures honest before after
    → IsPerformed world (after_step world step failure) event first order connections old new failures honest before after
of_step {world = world} {event = event} {first = first} {order = order} {connections = connections} {old = old} {new = new} {failures = failures} {honest = honest} {before = before} {after = after} failure step this is performed =
    subst (λ (s : Step). IsPerformed world (after_step world s failure) event first order connections old new failures honest before after) (sym is) performed
