use Rattle.std.proofs.Common.{◌≡◌, ◌∙◌, ℕ, refl, subst}
use Rattle.std.proofs.lemmas.Grind.{merely}
use Rattle.export.specs.Begun.{IsBegun}
use Rattle.export.specs.Submits.{IsReplied}
use Rattle.image_model.specs.declared.geometry.Geometry.{Geometry}
use Rattle.server.specs.Sessions.{HasSessions}
use Rattle.server.proofs.Sessions.{replied_logged, replied_share, share_more}
use Rattle.shared_store.specs.Orders.{Trusting}
use Rattle.server.proofs.session_pass.SessionPass.begin.Goals as goal

-- one share of a session more
pub invariant_of-result : goal.invariant_of-result
invariant_of-result g c =
    let old = c.args.self in let new = c.in-Ok.pass in let offer = g.B.ServerName.offer in let geometry = g.B.ExportName.geometry in let several = g.B.ServerName.several in
    let opening = g.B.BoardName.opening in let image = g.B.ImageName.image in let Sure = Trusting opening image g.B.ImageName.vouches g.B.ImageName.trusted in let kept = c.args.export.now.mode in
    let is = subst (λ (t : Geometry). IsReplied opening image Sure c.args.request kept t c.args.flags.now old.pass new c.in-Ok.reply) c.args.export.now.sized c.in-Ok.ensures.answered in
    let same : new.client.by ≡ old.client_number = is.by ∙ old.by in record {
      in_range = old.in_range;
      by = same;
      served = share_more offer geometry several old.client_number new.client.by old.pass.client.mine new.client.mine same c.requires.several
          (subst (λ (n : ℕ). HasSessions offer geometry several n old.pass.client.mine) old.by old.served)
          (replied_share opening image Sure kept geometry old.client_number c.args.request c.args.flags.now old.pass new c.in-Ok.reply old.by is);
    }

-- its sessions and shares of them are those of the pass before
pub invariant_of-result-in-Err : goal.invariant_of-result-in-Err
invariant_of-result-in-Err g c =
    let old = c.args.self in let geometry = g.B.ExportName.geometry in let several = g.B.ServerName.several in
    let opening = g.B.BoardName.opening in let image = g.B.ImageName.image in let Sure = Trusting opening image g.B.ImageName.vouches g.B.ImageName.trusted in let kept = c.args.export.now.mode in record {
      in_range = old.in_range;
      several = c.requires.several;
      begun = merely (
        c.args.request,
        kept,
        c.args.flags.now,
        old.pass,
        subst (λ (t : Geometry). IsBegun opening image Sure c.args.request kept t c.args.flags.now old.pass c.in-Err.pass) c.args.export.now.sized c.in-Err.ensures.waits,
        old.by,
        subst (λ (n : ℕ). HasSessions g.B.ServerName.offer geometry several n old.pass.client.mine) old.by old.served,
      );
    }

-- what the log gained
pub returns-in-Ok-clause-logged : goal.returns-in-Ok-clause-logged
returns-in-Ok-clause-logged g c =
    let old = c.args.self in let geometry = g.B.ExportName.geometry in
    let opening = g.B.BoardName.opening in let image = g.B.ImageName.image in let Sure = Trusting opening image g.B.ImageName.vouches g.B.ImageName.trusted in let kept = c.args.export.now.mode in
    let is = subst (λ (t : Geometry). IsReplied opening image Sure c.args.request kept t c.args.flags.now old.pass c.in-Ok.pass c.in-Ok.reply) c.args.export.now.sized c.in-Ok.ensures.answered in
    replied_logged opening image Sure kept geometry old.client_number c.args.request c.args.flags.now old.pass c.in-Ok.pass c.in-Ok.reply old.by is

-- it waits for what the export waits for
pub returns-in-Err-clause-waits : goal.returns-in-Err-clause-waits
returns-in-Err-clause-waits g c =
    let opening = g.B.BoardName.opening in let image = g.B.ImageName.image in let Sure = Trusting opening image g.B.ImageName.vouches g.B.ImageName.trusted in
    (refl, subst (λ (t : Geometry). IsBegun opening image Sure c.args.request c.args.export.now.mode t c.args.flags.now c.args.self.pass c.in-Err.pass) c.args.export.now.sized c.in-Err.ensures.waits)
