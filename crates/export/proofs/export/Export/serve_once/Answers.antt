use Rattle.std.proofs.Common.{◌≡◌, subst, rules}
use Rattle.export.proofs.RequestIsServed.{unserved_as}
use Rattle.export.specs.inner.Serving.{IsServedAs}
use Rattle.export.specs.inner.Submits.{IsUnserved}
use Rattle.nbd_wire.specs.Request.{Message}
use Rattle.request_core.specs.declared.serving.Served.{Served}
use Rattle.request_core.specs.declared.serving.Served.TheVariants as served
use Rattle.export.proofs.export.Export.serve_once.Goals as goal

pub returns-in-NoRoom : goal.returns-in-NoRoom
returns-in-NoRoom g c =
    let request = c.args.request in let terms = c.args.terms in let next = c.serve.new.pass in
    let none : c.in-Ok.served ≡ served.NoRoom c.in-NoRoom.back = search rules in
    let is =
    subst (λ (s : Served). IsServedAs g.T.Trust.logs g.T.Trust.trusted g.T.Trust.image g.B.BoardName.opening g.B.ImageName.image g.B.ImageName.vouches g.B.ImageName.trusted request terms c.args.pass.now next s) none c.in-Ok.ensures.served in
    unserved_as c.args.pass.now c.requires next c.refuse.result (subst (λ (r : Message). IsUnserved terms.geometry terms.flags r c.refuse.result) is.served.1 c.refuse.ensures) is.served.0
