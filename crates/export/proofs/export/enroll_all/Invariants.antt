use Rattle.std.proofs.Common.{◌≡◌, []}
use Rattle.export.specs.Clients.{new_client_passes}
use Rattle.export.proofs.export.enroll_all.Given as goal

abbrev pub invariant-loop : goal.invariant-loop
invariant-loop g l = record {
  roster : l.roster ≡ record { made = l.counter; calls = [] };
  passes : l.passes.items ≡ new_client_passes g.B.BoardName.opening l.counter;
}
