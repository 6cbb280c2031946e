use Rattle.std.proofs.Common.{◌≡◌, ◌≤◌, Bool, IfSome, ◌↔◌, length, take}
use Rattle.order_book.specs.Order.{IsInHand}
use Rattle.export_steps.specs.Life.{Leads, Trusts}
use Rattle.export_steps.specs.Parts.{IsWorldOf}
use Rattle.export_model.specs.World.{World}
use Rattle.export_steps.proofs.rehearsal.rehearse.Given as goal

-- the steps so far lead from each world that the parts were of to one that they are of
abbrev pub invariant-loop-step : goal.invariant-loop-step
invariant-loop-step g l =
    let disk = g.D.Disk in
    record {
      group : IfSome l.bench.connections.group (IsInHand l.order);
      blocks : length l.order.cache.states ≡ length l.fn.order.cache.states;
      geometry : l.keeper.geometry ≡ l.fn.keeper.geometry;
      extent : disk.extent l.keeper.disk ≡ disk.extent l.fn.keeper.disk;
      honest : disk.honest l.keeper.disk ↔ disk.honest l.fn.keeper.disk;
      stored : l.fn.seat.durable ≤ l.fn.keeper.count → l.seat.durable ≤ l.keeper.count;
      world : (world : World) (trusted : Bool) → IsWorldOf world l.fn.order l.fn.keeper (disk.faults l.fn.keeper.disk) l.fn.bench (Trusts trusted (disk.honest l.fn.keeper.disk)) (disk.state l.fn.keeper.disk)
          → (next : World) × (l.bench.log ≡ next.log) × Leads world next (take l.step-index l.steps) l.order l.keeper (disk.faults l.keeper.disk) l.bench.connections
          (Trusts trusted (disk.honest l.keeper.disk)) (disk.state l.fn.keeper.disk) (disk.state l.keeper.disk);
    }
