use Rattle.std.proofs.Common.{List, length, sym, subst, arith}
use Rattle.disk_model.specs.declared.history.Entry.{Entry}
use Rattle.disk_model.specs.History.{IsInside}
use Rattle.disk_model.proofs.sim.SimDisk.crash.Goals as goal

pub invariant_of-self : goal.invariant_of-self
invariant_of-self c = record {
  size_fits = omega (arith, c.crash_bytes.ensures.size, c.args.self.now.size_fits);
  failures_fit = c.args.self.now.failures_fit;
  are_bytes = c.crash_bytes.ensures.are_bytes;
  inside = subst (λ (entries : List Entry). IsInside entries (length c.crash_bytes.new.bytes.items)) (sym c.clear.ensures.items) (λ k. omega arith);
}
