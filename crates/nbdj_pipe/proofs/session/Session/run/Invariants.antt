use Rattle.std.proofs.Common.{◌≡◌, []}
use Rattle.std.specs.Prelude.{IfSome, ◌↔◌}
use Rattle.order_book.specs.Order.{IsInHand}
use Rattle.nbdj_pipe.specs.inner.Session.{Runs}
use Rattle.nbdj_pipe.proofs.Sessions.{IsGoing}
use Rattle.nbdj_pipe.proofs.session.Session.run.Given as goal

-- all that was read so far is answered
abbrev pub invariant-loop : goal.invariant-loop
invariant-loop g l = record {
  group : IfSome l.self.export.connections.group (IsInHand l.self.export.order);
  extent : g.D.Disk.extent l.self.export.keeper.disk ≡ g.D.Disk.extent l.fn.self.export.keeper.disk;
  honest : g.D.Disk.honest l.self.export.keeper.disk ↔ g.D.Disk.honest l.fn.self.export.keeper.disk;
  none_due : l.self.replies.items ≡ [];
  going : IsGoing (g.R.Read.remaining l.fn.input) (g.R.Read.remaining l.input) (g.W.Write.contents l.fn.output) (g.W.Write.contents l.output) l.reader
      (Runs g.D.Disk.state g.D.Disk.faults g.D.Disk.honest l.fn.self.export.order l.fn.self.export.keeper l.fn.self.export.connections
      l.self.export.order l.self.export.keeper l.self.export.connections);
}
