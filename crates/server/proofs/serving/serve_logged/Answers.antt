use Rattle.std.specs.Prelude.{OnOk}
use Rattle.std.proofs.lemmas.Grind.{merely}
use Rattle.std.proofs.Common.{ℕ, List, [], ◌+◌, ◌∙◌, length, subst, sym, nat_lt}
use Rattle.std.proofs.Props.{props}
use Rattle.std.proofs.Math.Logic.{∥∥₁_elim}
use Rattle.device_image.specs.Stands.{StandsFor}
use Rattle.disk_model.specs.Disk.{LeavesOnly}
use Rattle.export.specs.Left.{KeepsLog, LeavesHistory}
use Rattle.export.specs.Trusted.{IsTrusted, image_found}
use Rattle.export_model.specs.Log.{flush_waits}
use Rattle.export_model.specs.OneLog.{RosterState}
use Rattle.image_model.specs.Change.{Change}
use Rattle.negotiation.specs.Answered.{offered}
use Rattle.server.specs.Sessions.{AreServed, HasAll}
use Rattle.shared_store.specs.Orders.{IsRight}
use Rattle.server.proofs.DeviceAfterServing.{unlogged}
use Rattle.server.proofs.serving.serve_logged.Goals as goal

pub returns : goal.returns
returns g c =
    let keeper = c.args.device.keeper in let image = image_found g.D.Disk.state keeper in let start = g.D.Disk.state keeper.disk in
    let left : IsTrusted g.D.Disk.state g.D.Disk.honest keeper image → LeavesHistory start (g.D.Disk.state c.into_disk.result) keeper.count image [] keeper.count = λ sure.
    subst (λ (d : g.row.D.Denot). LeavesHistory start (g.D.Disk.state d) keeper.count image [] keeper.count) (sym c.into_disk.ensures)
    (c.opened_device_law.ensures.history keeper image sure c.args.device.recovered) in record {
      left = λ sure. ([], left sure);
      stored = tt;
      log = λ logs. ([], record { made = 0; calls = [] }, unlogged keeper.geometry g.T.Trust.trusted g.T.Trust.mode _ start (g.D.Disk.state c.into_disk.result) keeper.count image left, merely tt, tt);
      honest = λ sure. subst g.D.Disk.honest (sym c.into_disk.ensures) sure.sure;
      faults = tt;
    }

pub serve_over-requires-clause-start : goal.serve_over-requires-clause-start
serve_over-requires-clause-start g c = λ lifetimes bounds sure.
    let keeper = c.args.device.keeper in let image = image_found g.D.Disk.state keeper in
    subst (λ (n : ℕ). LeavesOnly (g.D.Disk.state keeper.disk) (g.D.Disk.state keeper.disk) (λ content. StandsFor content image n)) (sym (c.in-Ok.ensures ∙ c.count.ensures))
    (c.opened_device_law.ensures.left keeper image sure c.args.device.recovered)

pub serve_over-requires-clause-vouches : goal.serve_over-requires-clause-vouches
serve_over-requires-clause-vouches g c = λ lifetimes bounds handle is read vouches. (handle, is, vouches)

pub serve_over-requires-clause-log : goal.serve_over-requires-clause-log
serve_over-requires-clause-log g c = λ lifetimes bounds logs.
    let keeper = c.args.device.keeper in let image = image_found g.D.Disk.state keeper in record {
      mode_is = c.requires.mode;
      image_is = c.requires.image;
      device = λ trusts. (c.requires.trusted trusts).device;
      right = λ trusts read vouched.
          subst (λ (n : ℕ). IsRight n image read) (sym (c.in-Ok.ensures ∙ c.count.ensures))
          (∥∥₁_elim vouched (Prim.hlevel props) (λ by. (c.requires.trusted trusts).reads by.0 by.1 read by.2));
    }

pub returns-in-Ok-clause-left : goal.returns-in-Ok-clause-left
returns-in-Ok-clause-left g c =
    let keeper = c.args.device.keeper in let image = image_found g.D.Disk.state keeper in
    subst (λ (n : ℕ). IsTrusted g.D.Disk.state g.D.Disk.honest keeper image → (history : List Change)
    × LeavesHistory (g.D.Disk.state keeper.disk) (g.D.Disk.state c.serve_over.result.1) n image history n) (c.in-Ok.ensures ∙ c.count.ensures) c.serve_over.ensures.left

pub returns-in-Ok-clause-stored : goal.returns-in-Ok-clause-stored
returns-in-Ok-clause-stored g c =
    let keeper = c.args.device.keeper in let image = image_found g.D.Disk.state keeper in
    subst (λ (n : ℕ). OnOk c.serve_over.result.0 (IsTrusted g.D.Disk.state g.D.Disk.honest keeper image → (history : List Change)
    × LeavesHistory (g.D.Disk.state keeper.disk) (g.D.Disk.state c.serve_over.result.1) n image history (n + length history))) (c.in-Ok.ensures ∙ c.count.ensures) c.serve_over.ensures.stored

pub returns-in-Ok-clause-log : goal.returns-in-Ok-clause-log
returns-in-Ok-clause-log g c = λ logs.
    let keeper = c.args.device.keeper in let image = image_found g.D.Disk.state keeper in let start = g.D.Disk.state keeper.disk in let now = g.D.Disk.state c.serve_over.result.1 in
    subst (λ (n : ℕ). (history : List Change) × (roster : RosterState) × KeepsLog g.T.Trust.trusted g.T.Trust.mode (IsTrusted g.D.Disk.state g.D.Disk.honest keeper image) start now n image history roster
    × ∥ AreServed (offered keeper.geometry c.args.name.bytes.now (flush_waits c.args.options.mode)) keeper.geometry (nat_lt 1 c.args.options.in_flight) roster.calls ∥₁
    × OnOk c.serve_over.result.0 (HasAll roster × (IsTrusted g.D.Disk.state g.D.Disk.honest keeper image → LeavesHistory start now n image history (n + length history)))) (c.in-Ok.ensures ∙ c.count.ensures) (c.serve_over.ensures.log logs)

pub returns-in-Ok-clause-honest : goal.returns-in-Ok-clause-honest
returns-in-Ok-clause-honest g c = c.serve_over.ensures.honest

pub returns-in-Ok-clause-faults : goal.returns-in-Ok-clause-faults
returns-in-Ok-clause-faults g c = c.serve_over.ensures.faults
