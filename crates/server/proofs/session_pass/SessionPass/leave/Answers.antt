use Rattle.std.proofs.Common.{sym, ap, subst, ◌∙◌}
use Rattle.marks.specs.Known.{PassState}
use Rattle.server.specs.Sessions.{HasSessions}
use Rattle.server.proofs.session_pass.SessionPass.leave.Goals as goal

-- the pass is as it was
pub invariant_of-result : goal.invariant_of-result
invariant_of-result g c = let old = c.args.self in record {
  in_range = old.in_range;
  by = ap (λ (p : PassState). p.client.by) c.leave.ensures ∙ old.by;
  served = subst (λ (p : PassState). HasSessions g.B.ServerName.offer g.B.ExportName.geometry g.B.ServerName.several p.client.by p.client.mine) (sym c.leave.ensures) old.served;
}
