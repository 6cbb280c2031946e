use Rattle.std.proofs.Common.{◌≡◌, ◌∙◌, ℕ, subst, sym}
use Rattle.std.proofs.Math.Logic.{∥∥₁_elim}
use Rattle.std.proofs.Props.{props}
use Rattle.export.specs.Begun.{IsBegun}
use Rattle.export.specs.Submits.{IsReplied}
use Rattle.export_model.specs.declared.step.Mode.{Mode}
use Rattle.image_model.specs.declared.geometry.Geometry.{Geometry}
use Rattle.marks.specs.Known.{PassState}
use Rattle.nbd_wire.specs.Request.{Message}
use Rattle.nbd_wire.specs.declared.message.SessionFlags.{SessionFlags}
use Rattle.server.specs.Sessions.{HasSessions}
use Rattle.server.proofs.Sessions.{replied_share, share_more}
use Rattle.shared_store.specs.Orders.{Trusting}
use Rattle.server.proofs.session_pass.WaitingSessionPass.finish.Goals as goal

-- one share of a session more, whatever request it was
pub invariant_of-result : goal.invariant_of-result
invariant_of-result g c =
    let own = c.args.self in let new = c.finish-finished.result.pass in let offer = g.B.ServerName.offer in let geometry = g.B.ExportName.geometry in let several = g.B.ServerName.several in
    let opening = g.B.BoardName.opening in let image = g.B.ImageName.image in let Sure = Trusting opening image g.B.ImageName.vouches g.B.ImageName.trusted in
    let replied : (old : PassState) (request : Message) (kept : Mode) (flags : SessionFlags) → IsBegun opening image Sure request kept geometry flags old own.pass → IsReplied opening image Sure request kept geometry flags old new c.finish-finished.result.reply =
    subst (λ (t : Geometry). (old : PassState) (request : Message) (kept : Mode) (flags : SessionFlags) → IsBegun opening image Sure request kept t flags old own.pass → IsReplied opening image Sure request kept t flags old new c.finish-finished.result.reply)
    c.args.export.now.sized c.finish-finished.ensures.replied in record {
      in_range = own.in_range;
      by = ∥∥₁_elim own.begun (Prim.hlevel props) (λ it. (replied it.3 it.0 it.1 it.2 it.4).by ∙ it.5);
      served = ∥∥₁_elim own.begun (Prim.hlevel props) (λ it.
          let is = replied it.3 it.0 it.1 it.2 it.4 in
          share_more offer geometry several own.client_number new.client.by it.3.client.mine new.client.mine (is.by ∙ it.5) own.several it.6
          (replied_share opening image Sure it.1 geometry own.client_number it.0 it.2 it.3 new c.finish-finished.result.reply it.5 is));
    }

-- with the geometry of the name
pub returns-clause-replied : goal.returns-clause-replied
returns-clause-replied g c =
    let opening = g.B.BoardName.opening in let image = g.B.ImageName.image in let Sure = Trusting opening image g.B.ImageName.vouches g.B.ImageName.trusted in
    let own = c.args.self.pass in let new = c.finish-finished.result.pass in let reply = c.finish-finished.result.reply in
    subst (λ (t : Geometry). (old : PassState) (request : Message) (kept : Mode) (flags : SessionFlags) → IsBegun opening image Sure request kept t flags old own → IsReplied opening image Sure request kept t flags old new reply)
    c.args.export.now.sized c.finish-finished.ensures.replied
