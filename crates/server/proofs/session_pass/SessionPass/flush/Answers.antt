use Rattle.std.proofs.Common.{sym, ap, subst, ◌∙◌}
use Rattle.marks.specs.declared.view.Client.{Client}
use Rattle.server.specs.Sessions.{HasSessions}
use Rattle.server.proofs.session_pass.SessionPass.flush.Goals as goal

-- its client is as it was
pub invariant_of-self : goal.invariant_of-self
invariant_of-self g c = let old = c.args.self.now in record {
  in_range = old.in_range;
  by = ap (λ (k : Client). k.by) c.flush-flushed.ensures.client ∙ old.by;
  served = subst (λ (k : Client). HasSessions g.B.ServerName.offer g.B.ExportName.geometry g.B.ServerName.several k.by k.mine) (sym c.flush-flushed.ensures.client) old.served;
}
