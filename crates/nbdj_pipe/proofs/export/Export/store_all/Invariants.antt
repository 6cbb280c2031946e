use Rattle.std.proofs.Common.{◌≡◌, Bool, IfSome, ◌↔◌}
use Rattle.order_book.specs.Order.{IsInHand}
use Rattle.export_steps.specs.Life.{Trusts}
use Rattle.export_steps.specs.Parts.{IsExportOf}
use Rattle.export_model.specs.World.{World}
use Rattle.nbdj_pipe.specs.inner.Export.{Settles}
use Rattle.nbdj_pipe.proofs.Causes.{HasStored}
use Rattle.nbdj_pipe.proofs.export.Export.store_all.Given as goal

-- this many groups were stored
abbrev pub invariant-loop-groups : goal.invariant-loop-groups
invariant-loop-groups g l =
    let disk = g.D.Disk in
    let old = l.fn.self in
    let new = l.self in
    record {
      group : IfSome new.connections.group (IsInHand new.order);
      extent : disk.extent new.keeper.disk ≡ disk.extent old.keeper.disk;
      honest : disk.honest new.keeper.disk ↔ disk.honest old.keeper.disk;
      world : (world : World) (trusted : Bool) → IsExportOf world old.order old.keeper (disk.faults old.keeper.disk) old.connections (Trusts trusted (disk.honest old.keeper.disk)) (disk.state old.keeper.disk)
          → (next : World) × Settles world next new.order new.keeper (disk.faults new.keeper.disk) new.connections
          (Trusts trusted (disk.honest new.keeper.disk)) (disk.state old.keeper.disk) (disk.state new.keeper.disk)
          × HasStored world next l.groups;
    }
