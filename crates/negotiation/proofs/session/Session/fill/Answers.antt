use Rattle.std.proofs.Common.{◌≡◌, ap, subst, ◌∙◌}
use Rattle.std.proofs.lemmas.Result.{IfOk-weaker}
use Rattle.std.specs.Prelude.{IfOk}
use Rattle.negotiation.specs.Session.{Fills, SessionState, standing_of}
use Rattle.negotiation.specs.declared.stage.Stage.{Stage}
use Rattle.negotiation.specs.laws.Dialogs.{session_at}
use Rattle.negotiation.proofs.ReadIntoRoom.{fills_session}
use Rattle.negotiation.proofs.session.Session.fill.Goals as goal

pub returns-clause-ok : goal.returns-clause-ok
returns-clause-ok g c =
    let offer = c.self.inside.offer in
    let agreed = c.self.inside.agreed in
    let input = g.R.Read.remaining c.args.input.now in
    let left = g.R.Read.remaining c.fill-stage.new.input in
    let old = session_at offer agreed (standing_of c.replace-stage.result) in
    let new = session_at offer agreed (standing_of c.fill-stage.result.0) in
    let same : old ≡ c.args.self.now = ap (λ (stage : Stage). session_at offer agreed (standing_of stage)) c.replace-stage.ensures.value ∙ c.self.view_is in
    subst (λ (s : SessionState). IfOk c.fill-stage.result.1 (λ count. Fills s input left count new)) same
    (IfOk-weaker c.fill-stage.result.1 _ _ (λ count fills. fills_session offer agreed (standing_of c.replace-stage.result) (standing_of c.fill-stage.result.0) input left count fills) c.fill-stage.ensures.ok)
