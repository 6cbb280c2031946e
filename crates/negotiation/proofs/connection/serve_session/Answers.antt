use Rattle.std.proofs.Common.{◌≡◌, ℕ, Bool, List, Ok, Err, Result, ap, subst, ◌∙◌}
use Rattle.image_model.specs.declared.geometry.Geometry.{Geometry}
use Rattle.negotiation.specs.Answered.{Offer, offered}
use Rattle.negotiation.specs.Session.{SessionState}
use Rattle.negotiation.specs.declared.end.End.{End}
use Rattle.negotiation.specs.Hearing.{Hearing, ReadsOn}
use Rattle.negotiation.specs.Serving.{IsServed, begun}
use Rattle.negotiation.proofs.Serving.{agreed, base, memory_early, over, served_handshake, served_nothing, served_whole, stands}
use Rattle.negotiation.proofs.AfterHandshake.{as_end}
use Rattle.negotiation.proofs.connection.serve_session.Goals as goal

-- the export that is offered, by what its calls say
offer_is : (geometry extent : Geometry) (asked name : List ℕ) (says flushes : Bool) (offer : Offer) → geometry ≡ extent → asked ≡ name → says ≡ flushes → offer ≡ offered geometry asked says → offer ≡ offered extent name flushes
offer_is geometry extent asked name says flushes offer same_extent same_name same_flushes is =
    is ∙ ap (λ (g : Geometry). offered g asked says) same_extent ∙ ap (λ (n : List ℕ). offered extent n says) same_name ∙ ap (offered extent name) same_flushes

pub returns-in_err-offer : goal.returns-in_err-offer
returns-in_err-offer g c =
    served_nothing (g.S.Serve.allows c.args.export.now) (offered (g.S.Serve.extent c.args.export.now) (g.S.Serve.name c.args.export.now) (g.S.Serve.flushes c.args.export.now)) c.args.pass.now (g.R.Read.remaining c.args.input.now) (g.W.Write.contents c.args.output.now) c.from_residual.result
    (memory_early c.from_residual.result c.from_residual.ensures.1)

pub returns-in_err-piece : goal.returns-in_err-piece
returns-in_err-piece g c =
    served_nothing (g.S.Serve.allows c.args.export.now) (offered (g.S.Serve.extent c.args.export.now) (g.S.Serve.name c.args.export.now) (g.S.Serve.flushes c.args.export.now)) c.args.pass.now (g.R.Read.remaining c.args.input.now) (g.W.Write.contents c.args.output.now) c.from_residual-in_err-piece.result
    (memory_early c.from_residual-in_err-piece.result c.from_residual-in_err-piece.ensures.1)

pub returns-in_err-requests : goal.returns-in_err-requests
returns-in_err-requests g c =
    let allows = g.S.Serve.allows c.args.export.now in
    let offer = offered (g.S.Serve.extent c.args.export.now) (g.S.Serve.name c.args.export.now) (g.S.Serve.flushes c.args.export.now) in
    let input = g.R.Read.remaining c.args.input.now in
    let mid = g.R.Read.remaining c.negotiate.new.input in
    let output = g.W.Write.contents c.args.output.now in
    let made = g.W.Write.contents c.negotiate.new.output in
    let new = c.negotiate.new.session in
    let end = c.in_err-requests.field-0.0 in
    let same : c.new-session.result ≡ begun offer = c.new-session.ensures ∙ ap begun (offer_is _ _ _ _ _ _ _ c.geometry.ensures c.name.ensures c.flushes.ensures c.in_ok-offer.ensures) in
    let h = subst (λ (s : SessionState). Hearing s (ReadsOn s input mid) output made (Err end) new) same c.in_err-requests.ensures.hearing in
    as_end (λ (r : Result (Unit {0}) End). IsServed allows offer c.args.pass.now c.args.pass.now input mid output made r) end c.from_residual-in_err-requests.result c.from_residual-in_err-requests.ensures.1
    (served_handshake allows offer c.args.pass.now input output mid made new end h c.in_err-requests.ensures.said (λ is. c.in_err-requests.ensures.closed (ap Err is)))

pub returns : goal.returns
returns g c =
    let allows = g.S.Serve.allows c.args.export.now in
    let offer = offered (g.S.Serve.extent c.args.export.now) (g.S.Serve.name c.args.export.now) (g.S.Serve.flushes c.args.export.now) in
    let input = g.R.Read.remaining c.args.input.now in
    let mid = g.R.Read.remaining c.negotiate.new.input in
    let output = g.W.Write.contents c.args.output.now in
    let made = g.W.Write.contents c.negotiate.new.output in
    let new = c.negotiate.new.session in
    let given = c.in_ok-requests.requests in
    let same : c.new-session.result ≡ begun offer = c.new-session.ensures ∙ ap begun (offer_is _ _ _ _ _ _ _ c.geometry.ensures c.name.ensures c.flushes.ensures c.in_ok-offer.ensures) in
    let h = subst (λ (s : SessionState). Hearing s (ReadsOn s input mid) output made (Ok given) new) same c.in_ok-requests.ensures.hearing in
    let b = c.in_ok-requests.ensures.over in
    let pass = c.args.pass.now in
    let t = c.transmit.ensures (base allows offer pass input output mid made new given h) h.unheard (stands allows offer pass input output mid made new given h) (over allows offer pass input output mid made new given h b)
    (agreed allows offer pass input output mid made new given h) in
    served_whole allows offer pass input output mid made new given h c.transmit.new.pass (g.R.Read.remaining c.transmit.new.input) (g.W.Write.contents c.transmit.new.output) c.transmit.result b t
