use Rattle.std.proofs.lemmas.Grind.{merely}
use Rattle.std.proofs.Common.{arith, length, subst, sym, ◌+◌, ◌∙◌, []}
use Rattle.export.specs.Left.{LeavesHistory}
use Rattle.server.proofs.DeviceAfterServing.{both_ok, from_start, ok_of, on_ok, reaching, unlogged}
use Rattle.server.proofs.serving.serve_over.Goals as goal

pub returns-in-Ok-clause-left : goal.returns-in-Ok-clause-left
returns-in-Ok-clause-left g c = λ sure.
    let pass = c.close-disk.result.2 in
    (pass.history, reaching g.B.ImageName.start (g.D.Disk.state c.close-disk.result.0) g.B.BoardName.opening g.B.ImageName.image pass.history pass.durable g.B.BoardName.opening (λ content is. omega arith) (c.close-disk.ensures.left sure))

pub returns-in-Ok-clause-stored : goal.returns-in-Ok-clause-stored
returns-in-Ok-clause-stored g c = on_ok c.end_of.result c.end_of.ensures.stored (λ stored sure.
    let pass = c.close-disk.result.2 in let all = c.close-disk.ensures.stored.0 stored in (
      pass.history,
      reaching g.B.ImageName.start (g.D.Disk.state c.close-disk.result.0) g.B.BoardName.opening g.B.ImageName.image pass.history pass.durable (g.B.BoardName.opening + length pass.history)
          (λ content is. let reaches = is.reaches in omega (arith, reaches, all)) (c.close-disk.ensures.left sure),
    ))

pub returns-in-Ok-clause-log : goal.returns-in-Ok-clause-log
returns-in-Ok-clause-log g c = λ logs.
    let pass = c.close-disk.result.2 in (
      pass.history,
      _,
      c.close-disk.ensures.log logs,
      c.serve_clients-served.ensures.served,
      both_ok _ _ c.end_of.result (ok_of _ c.end_of.result _ c.end_of.ensures.served c.serve_clients-served.ensures.all) (on_ok c.end_of.result c.end_of.ensures.stored (λ stored sure.
          let all = c.close-disk.ensures.stored.0 stored in
          reaching g.B.ImageName.start (g.D.Disk.state c.close-disk.result.0) g.B.BoardName.opening g.B.ImageName.image pass.history pass.durable (g.B.BoardName.opening + length pass.history)
          (λ content is. let reaches = is.reaches in omega (arith, reaches, all)) (c.close-disk.ensures.left sure))),
    )

pub returns-in-Ok-clause-honest : goal.returns-in-Ok-clause-honest
returns-in-Ok-clause-honest g c = c.close-disk.ensures.honest

pub returns-in-Err : goal.returns-in-Err
returns-in-Err g c =
    let keeper = c.args.device.keeper in
    let left : g.B.ImageName.trusted → LeavesHistory g.B.ImageName.start (g.D.Disk.state c.in-Err.disk) g.B.BoardName.opening g.B.ImageName.image [] g.B.BoardName.opening = λ sure.
    let law = c.opened_device_law.ensures.history keeper g.B.ImageName.image (c.requires.trusted sure) c.args.device.recovered in
    let left = from_start g.B.ImageName.start (g.D.Disk.state keeper.disk) g.B.BoardName.opening keeper.count g.B.ImageName.image (sym c.requires.named ∙ c.args.device.opening) (c.requires.start sure) law in
    subst (λ (d : g.row.D.Denot). LeavesHistory g.B.ImageName.start (g.D.Disk.state d) g.B.BoardName.opening g.B.ImageName.image [] g.B.BoardName.opening) (sym c.in-Err.ensures.back) left in record {
      left = λ sure. ([], left sure);
      stored = tt;
      log = λ logs. ([], record { made = 0; calls = [] }, unlogged keeper.geometry g.T.Trust.trusted g.T.Trust.mode g.B.ImageName.trusted g.B.ImageName.start _ g.B.BoardName.opening g.B.ImageName.image left, merely tt, tt);
      honest = λ sure. subst g.D.Disk.honest (sym c.in-Err.ensures.back) (c.requires.trusted sure).sure;
      faults = tt;
    }
