use Rattle.std.proofs.Common.{ℕ, ◌∙◌, sym, ap, subst}
use Rattle.std.proofs.Math.Logic.{∥∥₁_map}
use Rattle.export_model.specs.OneLog.{Call, RosterState}
use Rattle.server.specs.Sessions.{AreServed, HasCall}
use Rattle.server.proofs.Sessions.{joined_more, served_more}
use Rattle.server.proofs.session_pass.LastSessionPass.join.Goals as goal

-- the other's client is in the list now, and is marked
pub invariant_of-self : goal.invariant_of-self
invariant_of-self g c =
    let old = c.args.self.now in let other = c.args.other in let roster = c.join.ensures.calls in
    let call : Call = record { by = other.pass.client.by; events = other.pass.client.mine } in record {
      made_few = old.made_few;
      roster = ap (λ (r : RosterState). r.made) roster ∙ old.roster;
      has = λ by marked. subst (λ (r : RosterState). ∥ HasCall by r.calls ∥₁) (sym roster) (joined_more old.joined old.last.roster.calls call other.client_number other.by old.has by marked);
      served = subst (λ (r : RosterState). ∥ AreServed g.B.ServerName.offer g.B.ExportName.geometry g.B.ServerName.several r.calls ∥₁) (sym roster)
          (∥∥₁_map old.served (λ served. served_more g.B.ServerName.offer g.B.ExportName.geometry g.B.ServerName.several old.last.roster.calls call served other.served));
    }
