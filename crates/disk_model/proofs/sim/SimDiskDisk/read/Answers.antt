use Rattle.std.proofs.Common.{reverse}
use Rattle.disk_model.proofs.Steps.{stays}
use Rattle.disk_model.proofs.sim.SimDiskDisk.read.Goals as goal

pub returns-clause-any_moment : goal.returns-clause-any_moment
returns-clause-any_moment c = stays (reverse c.args.self.now.history.items) c.args.self.now.bytes.items _ (λ left now. record { size = now.size; bytes = now.bytes; same = now.same })
