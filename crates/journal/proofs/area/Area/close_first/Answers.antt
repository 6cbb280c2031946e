use Rattle.std.proofs.Common.{ℕ, ap, subst, sym, arith}
use Rattle.journal_format.specs.Area.{AreaState}
use Rattle.journal.proofs.CrashWhileAppending.{first_written}
use Rattle.journal.proofs.area.Area.close_first.Goals as goal

pub returns-clause-empty : goal.returns-clause-empty
returns-clause-empty g c honest sure first =
    let from_is = ap (λ (area : AreaState). area.from) c.self.view_is in
    let bytes_are = ap (λ (area : AreaState). area.bytes) c.self.view_is in
    let shut = first_written (g.D.Disk.state c.args.disk.now) (g.D.Disk.state c.write_at.new.self) c.self.inside.from 0 (c.in_ok-write_at.ensures.written honest)
    (subst (λ (place : ℕ). (g.D.Disk.state c.args.disk.now).loose place → ⊥) (sym from_is) sure) in
    record {
      stand = λ is_open. absurd (omega (arith, shut, is_open));
      inside = omega (arith, c.self.invariant.1, bytes_are);
    }
