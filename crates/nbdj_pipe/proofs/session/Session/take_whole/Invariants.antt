use Rattle.std.proofs.Common.{◌≡◌, ◌++◌, List, length, None, Ok}
use Rattle.std.specs.Prelude.{IfSome, ◌↔◌, reverse}
use Rattle.order_book.specs.Order.{IsInHand}
use Rattle.nbdj_pipe.specs.inner.Session.{Runs}
use Rattle.nbdj_pipe.specs.Talk.{Exchange, asked, dialog}
use Rattle.nbdj_pipe.proofs.Dialogs.{HaveNoDisc}
use Rattle.nbdj_pipe.proofs.session.Session.take_whole.Given as goal

-- the first of the requests were answered
abbrev pub invariant-loop-request : goal.invariant-loop-request
invariant-loop-request g l = record {
  group : IfSome l.self.export.connections.group (IsInHand l.self.export.order);
  extent : g.D.Disk.extent l.self.export.keeper.disk ≡ g.D.Disk.extent l.fn.self.export.keeper.disk;
  honest : g.D.Disk.honest l.self.export.keeper.disk ↔ g.D.Disk.honest l.fn.self.export.keeper.disk;
  exchanges : List Exchange;
  whole : (reverse l.initial.requests.items) ≡ asked exchanges ++ (reverse l.requests.items);
  due : l.self.replies.items ≡ l.initial.self.replies.items ++ dialog exchanges;
  no_disc : HaveNoDisc exchanges;
  runs : Runs g.D.Disk.state g.D.Disk.faults g.D.Disk.honest l.fn.self.export.order l.fn.self.export.keeper l.fn.self.export.connections
      l.self.export.order l.self.export.keeper l.self.export.connections exchanges None (Ok tt);
}

abbrev pub decreases-loop-request : goal.decreases-loop-request
decreases-loop-request g l = length l.requests.items
