use Rattle.std.proofs.Common.{◌≡◌, ℕ, [], ◌∷◌, ◌++◌, subst, ◌∙◌}
use Rattle.export.specs.Submits.{IsJudged}
use Rattle.export_model.specs.Verdict.{verdict}
use Rattle.export_model.specs.declared.event.Event.TheVariants.{Sent, Answered}
use Rattle.image_model.specs.declared.geometry.Geometry.{Geometry}
use Rattle.negotiation.specs.Answered.{Offer}
use Rattle.server.specs.Sessions.{HasSessions, IsSession}
use Rattle.server.proofs.Sessions.{session_logged, session_more, session_served}
use Rattle.server.proofs.session_pass.SessionPass.serve.Goals as goal

-- one session more, whose requests and answers the handler has logged
pub invariant_of-self : goal.invariant_of-self
invariant_of-self g c =
    let old = c.args.self.now in let new = c.serve_session.new.pass in
    let offer = g.B.ServerName.offer in let geometry = g.B.ExportName.geometry in let several = g.B.ServerName.several in
    let session = session_logged _ geometry old.client_number (λ before after request flags reply allowed is. (
      allowed.3 ∙ is,
      (
        subst (λ (n : ℕ). after.client.mine ≡ before.client.mine ++ Sent n request ∷ Answered n reply.answer ∷ []) is allowed.4,
        subst (λ (t : Geometry). IsJudged (verdict request.head t flags) request reply.answer) c.args.handler.now.export.now.sized allowed.1,
      ),
    )) _ old.pass new _ _ _ _ _ old.by c.serve_session.ensures in record {
      in_range = old.in_range;
      by = session.0;
      served = session_more offer geometry several old.client_number new.client.by old.pass.client.mine new.client.mine session.0
          (subst (λ (n : ℕ). HasSessions offer geometry several n old.pass.client.mine) old.by old.served)
          (subst (λ (o : Offer). IsSession o geometry old.client_number old.pass.client.mine new.client.mine) c.requires session.1);
    }

-- the session over these very streams
pub returns : goal.returns
returns g c =
    let old = c.args.self.now in let new = c.serve_session.new.pass in let geometry = g.B.ExportName.geometry in
    session_served _ geometry old.client_number (λ before after request flags reply allowed is. (
      allowed.3 ∙ is,
      (
        subst (λ (n : ℕ). after.client.mine ≡ before.client.mine ++ Sent n request ∷ Answered n reply.answer ∷ []) is allowed.4,
        subst (λ (t : Geometry). IsJudged (verdict request.head t flags) request reply.answer) c.args.handler.now.export.now.sized allowed.1,
      ),
    )) _ _ old.pass new _ _ _ _ _ c.requires old.by c.serve_session.ensures
