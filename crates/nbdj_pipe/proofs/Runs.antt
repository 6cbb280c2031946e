-- how the runs of a session go together
use Rattle.std.proofs.Common.{◌≤◌, ◌≡◌, ℕ, Bool, List, [], ◌∷◌, ◌++◌, Option, Some, None, Result, Ok, Err, IfErr, IfOk, refl, sym, ap, subst, ◌∙◌}
use Rattle.device_image.specs.Keeper.{KeeperState}
use Rattle.disk_model.specs.Disk.{State}
use Rattle.image_model.specs.declared.geometry.Geometry.{Geometry}
use Rattle.nbd_wire.specs.Request.{Message}
use Rattle.nbd_wire.specs.declared.message.Answer.{Answer}
use Rattle.nbd_wire.specs.declared.error.WireFault.{WireFault}
use Rattle.nbd_wire.specs.declared.error.WireFault.TheVariants.{NoMemory, Malformed}
use Rattle.order_book.specs.Order.{OrderState}
use Rattle.export_steps.specs.Bench.{ConnectionsState}
use Rattle.export_steps.specs.Life.{LeadsLaw, Trusts}
use Rattle.export_steps.specs.Parts.{IsExportOf}
use Rattle.export_model.specs.World.{World, Setting}
use Rattle.export_model.specs.declared.connection.Connection.TheVariants.{Idle}
use Rattle.export_model.specs.declared.event.Event.{Event}
use Rattle.export_model.specs.declared.event.Event.TheVariants.{Sent}
use Rattle.nbdj_pipe.specs.Causes.{HasCause}
use Rattle.nbdj_pipe.specs.inner.Export.{Follows, HasAnswer, said_of}
use Rattle.front_end.specs.Refusals.{of_wire}
use Rattle.nbdj_pipe.specs.inner.Session.{Runs}
use Rattle.nbdj_pipe.specs.Talk.{AreAnswered, Exchange, IsAnswered, plain, talk, talk_to}
use Rattle.front_end.specs.declared.refusal.Refusal.{Refusal}
use Rattle.nbdj_pipe.proofs.Causes.{IsBare, caused_behind}
use Rattle.nbdj_pipe.proofs.Dialogs.{each_append, talk_on}
use Rattle.nbdj_pipe.proofs.Steps.{follows_on, settles_none}

module _ {D : Type 0} (state : D → State) (faults : D → ℕ) (honest : D → Type 0) (law : LeadsLaw state faults honest) where
  -- nothing was asked
  pub runs_none : (order : OrderState) (keeper : KeeperState D) (connections : ConnectionsState) → Runs state faults honest order keeper connections order keeper connections [] None (Ok tt)
  runs_none order keeper connections world trusted of awaiting =
      (world, record { answered = tt; idle = λ is. awaiting.idle }, (settles_none state faults honest law world trusted order keeper connections of).follows, tt)

  -- one session after another
  pub runs_on : (order mid_order order' : OrderState) (keeper mid_keeper keeper' : KeeperState D) (connections mid_connections connections' : ConnectionsState) → (honest keeper'.disk → honest mid_keeper.disk)
      → (first more : List Exchange) (last : Option Message) (outcome : Result (Unit {0}) Refusal) → Runs state faults honest order keeper connections mid_order mid_keeper mid_connections first None (Ok tt)
      → Runs state faults honest mid_order mid_keeper mid_connections order' keeper' connections' more last outcome → Runs state faults honest order keeper connections order' keeper' connections' (first ++ more) last outcome
  runs_on order mid_order order' keeper mid_keeper keeper' connections mid_connections connections' was first more last outcome here on world trusted of awaiting =
      let begun = here world trusted of awaiting in
      let mid = begun.0 in
      let setting = begun.2.setting in
      let done = on mid trusted begun.2.leads.of_export (record { idle = begun.1.idle refl; flags = ap (λ (s : Setting). s.flags) setting ∙ awaiting.flags; frames = subst (λ (s : Setting). 512 ≤ s.frames) (sym setting) awaiting.frames }) in
      let next = done.0 in (
        next,
        record {
          answered = each_append (IsAnswered world.stage.setting.geometry) first more begun.1.answered
              (subst (λ (g : Geometry). AreAnswered g more) (ap (λ (s : Setting). s.geometry) setting) done.1.answered);
          idle = done.1.idle;
        },
        subst (λ (said : List Event). Follows world next said order' keeper' (faults keeper'.disk) connections' (Trusts trusted (honest keeper'.disk)) (state keeper.disk) (state keeper'.disk))
            (sym (talk_on first more last))
            (follows_on state faults honest law world mid next trusted (talk first) (talk_to more last) mid_order order' mid_keeper keeper' mid_connections connections' keeper.disk was begun.2 done.2),
        caused_behind outcome world mid next begun.2.steps begun.2.leads.run done.3,
      )

-- a session that ended otherwise ends with a refusal that its run shows nothing of
pub runs_bare : {D : Type 0} (state : D → State) (faults : D → ℕ) (honest : D → Type 0) (order order' : OrderState) (keeper keeper' : KeeperState D) (connections connections' : ConnectionsState)
    (exchanges : List Exchange) (last : Option Message) (outcome : Result (Unit {0}) Refusal) (refusal : Refusal) → IsBare refusal
    → Runs state faults honest order keeper connections order' keeper' connections' exchanges last outcome → Runs state faults honest order keeper connections order' keeper' connections' exchanges last (Err refusal)
runs_bare state faults honest order order' keeper keeper' connections connections' exchanges last outcome refusal bare runs world trusted of awaiting =
    let done = runs world trusted of awaiting in
    (done.0, done.1, done.2, bare world done.0)

pub bare_wire : (fault : WireFault) → IsBare (of_wire fault)
bare_wire NoMemory first last = tt
bare_wire (Malformed fault) first last = tt

-- What an export says of a request that was served, as runs.
module _ {D : Type 0} (state : D → State) (faults : D → ℕ) (honest : D → Type 0) (order order' : OrderState) (keeper keeper' : KeeperState D) (connections connections' : ConnectionsState) (request : Message) where
  abbrev pub IsAsExport : Result (Option Answer) Refusal → Type 0
  IsAsExport result =
      (world : World) (trusted : Bool) → IsExportOf world order keeper (faults keeper.disk) connections (Trusts trusted (honest keeper.disk)) (state keeper.disk)
      → world.connections 0 ≡ Idle → world.stage.setting.flags ≡ plain → 512 ≤ world.stage.setting.frames
      → (next : World) × IfOk result (HasAnswer world next request)
      × Follows world next (Sent 0 request ∷ said_of result) order' keeper' (faults keeper'.disk) connections' (Trusts trusted (honest keeper'.disk)) (state keeper.disk) (state keeper'.disk)
      × IfErr result (λ refusal. HasCause refusal world next)

  abbrev RunsTo : List Exchange → Option Message → Result (Unit {0}) Refusal → Type 0
  RunsTo = Runs state faults honest order keeper connections order' keeper' connections'

  pub answered_run : (answer : Answer) (result : Result (Option Answer) Refusal) → result ≡ Ok (Some answer) → IsAsExport result → RunsTo (record { request = request; answer = answer } ∷ []) None (Ok tt)
  answered_run answer result is served =
      let own = subst IsAsExport is served in
      λ world trusted of awaiting.
      let done = own world trusted of awaiting.idle awaiting.flags awaiting.frames in
      (done.0, record { answered = (done.1.0, tt); idle = λ e. done.1.1 }, done.2, tt)

  pub disc_run : (result : Result (Option Answer) Refusal) → result ≡ Ok None → IsAsExport result → RunsTo [] (Some request) (Ok tt)
  disc_run result is served =
      let own = subst IsAsExport is served in
      λ world trusted of awaiting.
      let done = own world trusted of awaiting.idle awaiting.flags awaiting.frames in
      (done.0, record { answered = tt; idle = λ e. cc }, done.2, tt)

  pub failed_run : (refusal : Refusal) (result : Result (Option Answer) Refusal) → result ≡ Err refusal → IsAsExport result → RunsTo [] (Some request) (Err refusal)
  failed_run refusal result is served =
      let own = subst IsAsExport is served in
      λ world trusted of awaiting.
      let done = own world trusted of awaiting.idle awaiting.flags awaiting.frames in
      (done.0, record { answered = tt; idle = λ e. cc }, done.2, done.3)
