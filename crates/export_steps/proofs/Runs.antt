-- steps one after another
use Rattle.std.proofs.Common.{◌≡◌, ℕ, Bool, true, false, List, [], ◌∷◌, ◌++◌, sym, ◌∙◌, ap, subst, refl, arith}
use Rattle.device_image.specs.Keeper.{KeeperState}
use Rattle.disk_model.specs.Disk.{State, IsSound}
use Rattle.disk_model.specs.laws.Moments.{begins, goes_on, weakens}
use Rattle.image_model.specs.Change.{Change}
use Rattle.image_model.specs.Image.{Image}
use Rattle.order_book.specs.Order.{OrderState}
use Rattle.export_steps.specs.Bench.{BenchState, ConnectionsState, sent_state}
use Rattle.export_steps.specs.Life.{IsDurable, IsRehearsed, IsStepped, Leads, Trusts}
use Rattle.export_steps.specs.Parts.{IsExportOf, StandsAfter}
use Rattle.export_steps.specs.inner.Steps.{IsPerformed}
use Rattle.export_steps.specs.laws.Lives.{stands_less, stands_more}
use Rattle.export_steps.proofs.Talks.{sent_states}
use Rattle.export_model.specs.declared.event.Event.{Event}
use Rattle.nbd_wire.specs.Request.{Message}
use Rattle.export_model.specs.declared.connection.Connection.TheVariants.{Idle}
use Rattle.export_model.specs.declared.step.Step.{Step}
use Rattle.export_model.specs.declared.step.Step.TheVariants.{Send}
use Rattle.export_model.specs.Covered.{Covers}
use Rattle.export_model.specs.Fits.{EditsFit, ReadsFit}
use Rattle.export_model.specs.Log.{IsLegal}
use Rattle.export_model.specs.Run.{IsReached, IsRun, After}
use Rattle.export_model.specs.Serve.{Failure, Nothing}
use Rattle.export_model.specs.Step.{after_step, send, sent}
use Rattle.export_model.specs.World.{World, Setting}
use Rattle.export_model.specs.Law.{Grows, IsWithin}

-- a trusted device is honest
pub trusted_honest : (trusted : Bool) (honest : Type 0) → Trusts trusted honest → honest
trusted_honest true honest is = is
trusted_honest false honest is = absurd is

pub trusts_true : (trusted : Bool) (honest : Type 0) → trusted ≡ true → honest → Trusts trusted honest
trusts_true true honest is given = given
trusts_true false honest is given = cc

pub trusts_as : (trusted : Bool) (this other : Type 0) → (this → other) → Trusts trusted this → Trusts trusted other
trusts_as true this other so is = so is
trusts_as false this other so is = is

-- a step that was performed
pub stepped : {D : Type 0} (world : World) (step : Step) (failure : Failure) (event : Event) (order order' : OrderState) (connections connections' : ConnectionsState) (old new : KeeperState D)
    (before_failures failures : ℕ) (old_honest trusting honest : Type 0) (before after : State) → (honest → trusting) → (trusting → old_honest)
    → IsExportOf world order old before_failures connections trusting before
    → IsPerformed world (after_step world step failure) event order order' connections' old new failures old_honest before after → (trusting → honest) → Grows world (after_step world step failure)
    → connections'.flags ≡ connections.flags → connections'.mode ≡ connections.mode
    → IsStepped world (after_step world step failure) event order' new failures connections' honest before after
stepped world step failure event order order' connections connections' old new before_failures failures old_honest trusting honest before after was trusts of performed stays grows flags mode = record {
  of_export = record {
    of_order = performed.of_order;
    of_keeper = performed.of_keeper;
    of_states = performed.of_states;
    flags = flags ∙ (of.flags ∙ ap (λ (s : Setting). s.flags) (sym grows.setting));
    mode = mode ∙ (of.mode ∙ ap (λ (s : Setting). s.mode) (sym grows.setting));
    reached = After step failure of.reached;
    disk = λ is_honest. (performed.disk (trusts (was is_honest)) (of.disk (was is_honest))).0;
    shows = λ is_honest. performed.shows (trusts (was is_honest)) (of.disk (was is_honest)) (of.shows (was is_honest));
    sure = λ trusted. stays (of.sure (sym (ap (λ (s : Setting). s.trusted) grows.setting) ∙ trusted));
  };
  log = performed.log;
  crash = λ is_honest. (performed.disk (trusts (was is_honest)) (of.disk (was is_honest))).1;
}

-- what stands after some commands of an order stands after some of the order that has grown
grown : (world next : World) (image : Image) (opening least : ℕ) (content : List ℕ) → Grows world next → StandsAfter world.stage.order image opening least content
    → StandsAfter next.stage.order image opening least content
grown world next image opening least content grows stands = subst (λ (l : List Change). StandsAfter l image opening least content) (sym grows.order.1)
    (stands_more world.stage.order grows.order.0 image opening least content stands)

-- before the first step
pub leads_none : {D : Type 0} (world : World) (order : OrderState) (keeper : KeeperState D) (failures : ℕ) (connections : ConnectionsState) (extent : ℕ) (honest : Type 0) (state : State)
    → (honest → IsSound extent state) → IsWithin world → IsExportOf world order keeper failures connections honest state
    → Leads world world [] order keeper failures connections honest state state
leads_none world order keeper failures connections extent honest state sound within of = record {
  run = refl;
  of_export = of;
  crash = λ is_honest. let disk = of.disk is_honest in
      begins (sound is_honest) (λ content left. stands_less world.stage.order world.stage.setting.image world.stage.setting.opening world.stage.stored world.stage.durable content within.durable (disk.leaves content left));
}

-- one step
pub leads_step : {D : Type 0} (world : World) (step : Step) (failure : Failure) (event : Event) (order : OrderState) (keeper : KeeperState D) (failures : ℕ) (connections : ConnectionsState) (honest : Type 0) (before after : State)
    → IsStepped world (after_step world step failure) event order keeper failures connections honest before after → Grows world (after_step world step failure) → IsWithin world
    → Leads world (after_step world step failure) (step ∷ []) order keeper failures connections honest before after
leads_step world step failure event order keeper failures connections honest before after is grows within = record {
  run = (failure, refl);
  of_export = is.of_export;
  crash = λ is_honest. weakens (is.crash is_honest) (λ content stands.
      grown world (after_step world step failure) world.stage.setting.image world.stage.setting.opening world.stage.durable content grows
      (stands_less world.stage.order world.stage.setting.image world.stage.setting.opening world.stage.stored world.stage.durable content within.durable stands));
}

-- a connection that had no request open has sent one
pub leads_sent : {D : Type 0} (world : World) (c : ℕ) (request : Message) (order : OrderState) (keeper : KeeperState D) (failures : ℕ) (connections : ConnectionsState) (extent : ℕ) (honest : Type 0) (state : State)
    → (honest → IsSound extent state) → IsWithin world → world.connections c ≡ Idle → IsExportOf world order keeper failures connections honest state
    → Leads world (sent Nothing world c request) (Send c request ∷ []) order keeper failures (record connections { states = sent_state connections.states c request }) honest state state
leads_sent world c request order keeper failures connections extent honest state sound within idle of = record {
  run = (Nothing, run_is);
  of_export = record {
    of_order = of.of_order;
    of_keeper = of.of_keeper;
    of_states = sent_states world connections.states c request idle of.of_states;
    flags = of.flags;
    mode = of.mode;
    reached = subst IsReached (sym run_is) (After (Send c request) Nothing of.reached);
    disk = λ is_honest. let disk = of.disk is_honest in record { holds = disk.holds; leaves = disk.leaves };
    shows = of.shows;
    sure = of.sure;
  };
  crash = λ is_honest. let disk = of.disk is_honest in
      begins (sound is_honest) (λ content left. stands_less world.stage.order world.stage.setting.image world.stage.setting.opening world.stage.stored world.stage.durable content within.durable (disk.leaves content left));
}
  where
    run_is : sent Nothing world c request ≡ after_step world (Send c request) Nothing
    run_is = ap (send Nothing world c request) (sym idle)

-- a run goes on by another
pub run_on : (world mid next : World) (first more : List Step) → IsRun world first mid → IsRun mid more next → IsRun world (first ++ more) next
run_on world mid next [] more is run = subst (λ (w : World). IsRun w more next) is run
run_on world mid next (step ∷ first) more run on = (run.0, run_on (after_step world step run.0) mid next first more run.1 on)

-- steps, and further steps
pub leads_on : {D : Type 0} (world mid next : World) (first more : List Step) (order order' : OrderState) (keeper keeper' : KeeperState D) (failures failures' : ℕ) (connections connections' : ConnectionsState)
    (honest honest' : Type 0) (before between after : State) → (honest' → honest)
    → Leads world mid first order keeper failures connections honest before between → Leads mid next more order' keeper' failures' connections' honest' between after
    → Grows world mid → Grows mid next → Leads world next (first ++ more) order' keeper' failures' connections' honest' before after
leads_on world mid next first more order order' keeper keeper' failures failures' connections connections' honest honest' before between after was here on grows grows_on = record {
  run = run_on world mid next first more here.run on.run;
  of_export = on.of_export;
  crash = λ is_honest. goes_on (weakens (here.crash (was is_honest)) (λ content stands.
      grown mid next world.stage.setting.image world.stage.setting.opening world.stage.durable content grows_on stands)) (on.crash is_honest) (λ content stands.
      stands_less next.stage.order world.stage.setting.image world.stage.setting.opening mid.stage.durable world.stage.durable content grows.durable
      (subst (λ (s : Setting). StandsAfter next.stage.order s.image s.opening mid.stage.durable content) grows.setting stands));
}

-- all that a log covers is durable, and so kept
pub durable_at_end : {D : Type 0} (world next : World) (done : List Step) (order : OrderState) (keeper : KeeperState D) (failures : ℕ) (connections : ConnectionsState) (extent : ℕ) (honest : Type 0) (before after : State)
    → Leads world next done order keeper failures connections honest before after → honest → IsSound extent after → Grows world next → IsWithin next
    → Covers world world.stage.durable → Covers next next.stage.durable → IsDurable world next before after
durable_at_end world next done order keeper failures connections extent honest before after leads is_honest sound grows within covers covers_now = record {
  any_moment = weakens (leads.crash is_honest) (λ content stands. record {
    count = stands.count;
    within = stands.within;
    stands = stands.stands;
    covers = λ place covered. let found = covers place covered in (found.0, let below = found.1 in let reaches = stands.reaches in omega (arith, below, reaches), found.2);
  });
  at_end = λ content left. let disk = leads.of_export.disk is_honest in let stands = disk.leaves content left in record {
    count = stands.count;
    within = stands.within;
    stands = stands.stands;
    covers = λ place covered. let found = covers_now place covered in (found.0, let below = found.1 in let reaches = stands.reaches in let durable = within.durable in omega (arith, below, reaches, durable), found.2);
  };
}

-- what the steps so far leave
pub rehearsed : {D : Type 0} (world next : World) (done : List Step) (order : OrderState) (keeper : KeeperState D) (failures : ℕ) (bench : BenchState) (extent : ℕ) (honest : Type 0) (before after : State)
    → Leads world next done order keeper failures bench.connections honest before after → bench.log ≡ next.log → (honest → IsSound extent after) → Grows world next → IsWithin next
    → Covers world world.stage.durable → Covers next next.stage.durable → IsLegal next.log next.stage.order next.paired
    → (next.stage.setting.trusted ≡ true → ReadsFit next.log next.stage.order next.paired next.shown next.stage.setting.image)
    → (next.stage.setting.trusted ≡ true → EditsFit next.log next.stage.order next.paired next.stage.setting.image)
    → IsRehearsed world next done order keeper failures bench honest before after
rehearsed world next done order keeper failures bench extent honest before after leads log sound grows within covers covers_now legal fits edits = record {
  run = leads.run;
  of_world = record { of_export = leads.of_export; log = log };
  legal = subst (λ (l : List Event). IsLegal l next.stage.order next.paired) (sym log) legal;
  fits = λ trusted. subst (λ (l : List Event). ReadsFit l next.stage.order next.paired next.shown next.stage.setting.image) (sym log) (fits trusted);
  edits = λ trusted. subst (λ (l : List Event). EditsFit l next.stage.order next.paired next.stage.setting.image) (sym log) (edits trusted);
  durable = λ is_honest. durable_at_end world next done order keeper failures bench.connections extent honest before after leads is_honest (sound is_honest) grows within covers covers_now;
}
