use Rattle.std.proofs.Common.{inl, inr, List, Option, Err, refl, sym, ap, subst, ◌∙◌}
use Rattle.checkpoint.specs.Opening.{IsOpening}
use Rattle.checkpoint.specs.declared.fault.KeeperFault.TheVariants as fault
use Rattle.device_image.specs.Keeps.{Keeps}
use Rattle.disk_model.specs.Faults.{HasRisen}
use Rattle.image_model.specs.Image.{Image}
use Rattle.image_model.specs.Layout.{area_size_of}
use Rattle.nbd_wire.specs.Request.{Message}
use Rattle.order_book.specs.Order.{OrderState, new_order}
use Rattle.order_book.specs.Shown.{ShowsImage}
use Rattle.export_steps.specs.Bench.{ConnectionsState}
use Rattle.nbdj_pipe.specs.Life.{IsLived}
use Rattle.nbdj_pipe.specs.Pipe.{IsPiped}
use Rattle.nbdj_pipe.specs.inner.Session.{Runs}
use Rattle.nbdj_pipe.specs.Talk.{Exchange}
use Rattle.nbd_wire.specs.laws.Bytes.{keeps_same}
use Rattle.checkpoint.specs.laws.FirstSync.{starved}
use Rattle.nbdj_pipe.proofs.Lives.{lived, told_fault}
use Rattle.nbdj_pipe.proofs.Sessions.{piped_or}
use Rattle.nbdj_pipe.proofs.session.pipe_over.Goals as goal

pub returns-in-Err-clause-dialog : goal.returns-in-Err-clause-dialog
returns-in-Err-clause-dialog g c = λ start opened. inl (record {
  unread = keeps_same (g.R.Read.remaining c.args.input.now);
  unwritten = keeps_same (g.W.Write.contents c.args.output.now);
  fault = fault.NoMemory;
  told = refl;
  counted = ap g.D.Disk.faults c.into_disk.ensures ∙ opened.counted;
  found = λ is.
      let (content, opening) = opened.found is in (
        content,
        subst (λ left. IsOpening (g.D.Disk.state start) g.D.Disk.state (Err (fault.NoMemory, left)) content) (sym c.into_disk.ensures)
            (starved (g.D.Disk.state start) g.D.Disk.state content c.args.keeper opening),
      );
})

pub returns-clause-dialog : goal.returns-clause-dialog
returns-clause-dialog g c = λ start opened.
    let disk = g.D.Disk in
    let keeper = c.args.keeper in
    let ran = c.run-end.new.self.export in
    let done = c.finish-outcome.new.self.export in
    let frames = c.args.options.frames in
    let piped = c.run-end.ensures.dialog in
    let few = c.in-Ok.ensures.few in
    let parts = c.in-Ok in
    let states = parts.ensures.order.0 in
    let shows = λ (image : Image) (keeps : Keeps keeper (disk.state keeper.disk) image keeper.count). subst (λ (order : OrderState). ShowsImage image order.cache) parts.ensures.order.2
    (parts.ensures.image image (c.keeper_laws.ensures.empty keeper image keeper.count keeps opened.recovered.phase opened.recovered.used)) in
    let fresh_runs = λ (exchanges : List Exchange) (last : Option Message) (runs : Runs disk.state disk.faults disk.honest parts.parts.2 keeper parts.parts.3 ran.order ran.keeper ran.connections exchanges last c.run-end.result).
    subst (λ (connections : ConnectionsState). Runs disk.state disk.faults disk.honest (new_order states keeper.count frames (area_size_of keeper.geometry.layout keeper.geometry.area)) keeper connections ran.order ran.keeper ran.connections exchanges last c.run-end.result)
    parts.ensures.connections
    (subst (λ (order : OrderState). Runs disk.state disk.faults disk.honest order keeper parts.parts.3 ran.order ran.keeper ran.connections exchanges last c.run-end.result) parts.ensures.order.2 runs) in
    inr (subst (λ end. IsPiped (g.R.Read.remaining c.args.input.now) (g.R.Read.remaining c.run-end.new.input) (g.W.Write.contents c.args.output.now) (g.W.Write.contents c.run-end.new.output) c.finish-outcome.result
    (IsLived disk.state disk.faults disk.honest frames c.args.options.mode start end)) (sym c.into_disk-2.ensures)
    (piped_or (g.R.Read.remaining c.args.input.now) (g.R.Read.remaining c.run-end.new.input) (g.W.Write.contents c.args.output.now) (g.W.Write.contents c.run-end.new.output)
    (Runs disk.state disk.faults disk.honest parts.parts.2 keeper parts.parts.3 ran.order ran.keeper ran.connections)
    (IsLived disk.state disk.faults disk.honest frames c.args.options.mode start done.keeper.disk) c.run-end.result c.finish-outcome.result
    (λ exchanges last runs. lived disk.state disk.faults disk.honest c.leads_law.ensures c.schedule_law.ensures.truth c.schedule_law.ensures.within c.schedule_law.ensures.fits c.schedule_law.ensures.edits c.fresh_parts_law.ensures start keeper ran.keeper done.keeper ran.order done.order ran.connections done.connections
    frames c.args.options.frames_enough c.args.options.mode states opened.recovered parts.ensures.order.1 few opened.counted opened.found shows opened.stays
    c.finish-outcome.ensures.honest.0 (λ is. c.finish-outcome.ensures.honest.1 (c.run-end.ensures.honest.1 (opened.stays is))) c.run-end.result c.finish-outcome.result exchanges last
    (fresh_runs exchanges last runs) c.finish-outcome.ensures.world c.finish-outcome.ensures.stored c.finish-outcome.ensures.works c.finish-outcome.ensures.broken)
    done.order.stopped piped c.finish-outcome.ensures.end))

pub returns-clause-device : goal.returns-clause-device
returns-clause-device g c = λ start opened is.
    let disk = g.D.Disk in
    let keeper = c.args.keeper in
    let ran = c.run-end.new.self.export in
    let done = c.finish-outcome.new.self.export in
    let frames = c.args.options.frames in
    let piped = c.run-end.ensures.dialog in
    let few = c.in-Ok.ensures.few in
    let parts = c.in-Ok in
    let states = parts.ensures.order.0 in
    let shows = λ (image : Image) (keeps : Keeps keeper (disk.state keeper.disk) image keeper.count). subst (λ (order : OrderState). ShowsImage image order.cache) parts.ensures.order.2
    (parts.ensures.image image (c.keeper_laws.ensures.empty keeper image keeper.count keeps opened.recovered.phase opened.recovered.used)) in
    let fresh_runs = λ (exchanges : List Exchange) (last : Option Message) (runs : Runs disk.state disk.faults disk.honest parts.parts.2 keeper parts.parts.3 ran.order ran.keeper ran.connections exchanges last c.run-end.result).
    subst (λ (connections : ConnectionsState). Runs disk.state disk.faults disk.honest (new_order states keeper.count frames (area_size_of keeper.geometry.layout keeper.geometry.area)) keeper connections ran.order ran.keeper ran.connections exchanges last c.run-end.result)
    parts.ensures.connections
    (subst (λ (order : OrderState). Runs disk.state disk.faults disk.honest order keeper parts.parts.3 ran.order ran.keeper ran.connections exchanges last c.run-end.result) parts.ensures.order.2 runs) in
    subst (λ end. HasRisen (disk.faults start) (disk.faults end)) (sym c.into_disk-2.ensures)
    (told_fault disk.state disk.faults disk.honest c.leads_law.ensures c.schedule_law.ensures.truth c.schedule_law.ensures.within c.schedule_law.ensures.fits c.schedule_law.ensures.edits c.fresh_parts_law.ensures start keeper ran.keeper done.keeper ran.order done.order ran.connections done.connections
    frames c.args.options.frames_enough c.args.options.mode states opened.recovered parts.ensures.order.1 few opened.counted opened.found shows opened.stays
    c.finish-outcome.ensures.honest.0 (λ is. c.finish-outcome.ensures.honest.1 (c.run-end.ensures.honest.1 (opened.stays is))) c.run-end.result c.finish-outcome.result piped.told.exchanges piped.told.last
    (fresh_runs piped.told.exchanges piped.told.last piped.runs) c.finish-outcome.ensures.world c.run-end.ensures.early c.finish-outcome.ensures.end is)
