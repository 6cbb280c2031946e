use Rattle.std.proofs.Common.{◌≡◌, ◌<◌, ◌+◌, ℕ, inl, inr, List, Some, rules, arith, sym, subst, ap, ◌∙◌}
use Rattle.std.proofs.lemmas.Result.{IfOk-from_err}
use Rattle.nbd_wire.specs.Request.{Message}
use Rattle.negotiation.specs.declared.answer.Agreed.{Agreed}
use Rattle.negotiation.specs.Dialog.{Standing}
use Rattle.negotiation.specs.Session.{Feeds, IsBehind, IsSaid, SessionState, end_of, handed, held_by, standing_of}
use Rattle.negotiation.specs.inner.Session.{Hands}
use Rattle.negotiation.specs.declared.end.End.{End}
use Rattle.negotiation.specs.declared.end.End.TheVariants.{NoMemory}
use Rattle.negotiation.specs.declared.stage.Stage.{Stage}
use Rattle.negotiation.specs.declared.stage.Talk.{Talk}
use Rattle.negotiation.specs.laws.Dialogs.{session_at}
use Rattle.negotiation.proofs.Sessions.{behind_idle, behind_or, cut_short, ended_idle, err_given, fed, fed_behind, greets_behind, greets_ended, handed_error, not_greeted, said_behind}
use Rattle.negotiation.proofs.session.Session.feed.Goals as goal

pub returns-in_err-stage-clause-session : goal.returns-in_err-stage-clause-session
returns-in_err-stage-clause-session g c =
    let offer = c.self.inside.offer in
    let agreed = c.self.inside.agreed in
    let piece = c.args.piece.now in
    let before = c.args.out.now.items in
    let after = c.greet.new.out.items in
    let old = session_at offer agreed (standing_of c.replace-stage.result) in
    let new = session_at offer agreed (standing_of c.replace-stage.new.dest) in
    let same : old ≡ c.args.self.now = ap (λ (stage : Stage). session_at offer agreed (standing_of stage)) c.replace-stage.ensures.value ∙ c.self.view_is in
    let end : end_of new.standing ≡ Some NoMemory = ap (λ (stage : Stage). end_of (standing_of stage)) c.replace-stage.ensures.after in
    subst (λ (s : SessionState). Feeds s piece before after (handed c.from_residual.result) new) same
    (subst (λ (r : List Message). Feeds old piece before after r new) (sym (handed_error c.from_residual.result c.from_residual.ensures.0))
    (not_greeted old new piece before after c.in_err-stage.ensures.first c.in_err-stage.ensures.err end))

pub returns-in_err-talk-clause-session : goal.returns-in_err-talk-clause-session
returns-in_err-talk-clause-session g c =
    let offer = c.self.inside.offer in
    let agreed = c.self.inside.agreed in
    let piece = c.args.piece.now in
    let before = c.args.out.now.items in
    let after = c.negotiate.new.out.items in
    let old = session_at offer agreed (standing_of c.replace-stage.result) in
    let new = session_at offer agreed (standing_of c.replace-stage.new.dest) in
    let same : old ≡ c.args.self.now = ap (λ (stage : Stage). session_at offer agreed (standing_of stage)) c.replace-stage.ensures.value ∙ c.self.view_is in
    let end : end_of new.standing ≡ Some NoMemory = ap (λ (stage : Stage). end_of (standing_of stage)) c.replace-stage.ensures.after in
    let cut = c.in_err-talk.ensures.err in
    subst (λ (s : SessionState). Feeds s piece before after (handed c.from_residual-in_err-talk.result) new) same
    (subst (λ (r : List Message). Feeds old piece before after r new) (sym (handed_error c.from_residual-in_err-talk.result c.from_residual-in_err-talk.ensures.0))
    (cut_short offer agreed (standing_of c.replace-stage.result) (standing_of c.in_ok-stage.stage) before c.greet.new.out.items after piece cut.0 cut.1 c.in_ok-stage.ensures.greets cut.2 cut.3
    (λ b.
    let kept = greets_behind (standing_of c.replace-stage.result) (standing_of c.in_ok-stage.stage) before c.greet.new.out.items c.in_ok-stage.ensures.greets b in
    (c.in_err-talk.ensures.still (behind_idle c.in_ok-stage.stage (subst IsBehind (sym kept.0) b))).0)
    new end))

-- That all of the rest is handed over, and nothing else is written, is searched for.
rest_handed : {old new : Standing} {piece rest : List ℕ} {requests : List Message} → Hands old piece requests new → piece ≡ rest → Hands old rest requests new
rest_handed {old} {new} {piece} {rest} {requests} hands same = subst (λ (p : List ℕ). Hands old p requests new) same hands

all_written : {old new : SessionState} {piece before after later : List ℕ} {requests : List Message} → Feeds old piece before after requests new → later ≡ after → Feeds old piece before later requests new
all_written {old} {new} {piece} {before} {after} {later} {requests} feeds same = subst (λ (a : List ℕ). Feeds old piece before a requests new) (sym same) feeds

pub returns-clause-session : goal.returns-clause-session
returns-clause-session g c =
    let offer = c.self.inside.offer in
    let agreed = c.self.inside.agreed in
    let piece = c.args.piece.now in
    let before = c.args.out.now.items in
    let after = c.negotiate.new.out.items in
    let talk = c.in_ok-talk.talk in
    let requests = handed c.hand_out-stage.result.1 in
    let new = standing_of c.hand_out-stage.result.0 in
    let old = session_at offer agreed (standing_of c.replace-stage.result) in
    let same : old ≡ c.args.self.now = ap (λ (stage : Stage). session_at offer agreed (standing_of stage)) c.replace-stage.ensures.value ∙ c.self.view_is in
    let hands : Hands (standing_of talk.stage) c.in_ok-talk.rest.now requests new = rest_handed c.hand_out-stage.ensures.hands (search rules) in
    all_written (subst (λ (s : SessionState). Feeds s piece before after requests (session_at offer talk.agreed new)) same
    (elim (behind_or (standing_of c.replace-stage.result)) [
      | inl b ↦
          let kept = greets_behind (standing_of c.replace-stage.result) (standing_of c.in_ok-stage.stage) before c.greet.new.out.items c.in_ok-stage.ensures.greets b in
          let idle = c.in_ok-talk.ensures.still (behind_idle c.in_ok-stage.stage (subst IsBehind (sym kept.0) b)) in
          let stands : standing_of talk.stage ≡ standing_of c.replace-stage.result = ap (λ (t : Talk). standing_of t.stage) idle.0.0 ∙ kept.0 in
          let hands = subst (λ (s : Standing). Hands s piece requests new) stands (subst (λ (p : List ℕ). Hands (standing_of talk.stage) p requests new) idle.0.1 hands) in
          subst (λ (f : Agreed). Feeds old piece before after requests (session_at offer f new)) (sym (ap (λ (t : Talk). t.agreed) idle.0.0))
          (fed_behind offer agreed (standing_of c.replace-stage.result) new before after piece requests b (idle.1 ∙ kept.1) hands)
      | inr not ↦ fed offer agreed (standing_of c.replace-stage.result) (standing_of c.in_ok-stage.stage) before c.greet.new.out.items after piece c.in_ok-talk.rest.now talk
          c.in_ok-stage.ensures.greets c.in_ok-talk.ensures.sound c.in_ok-talk.ensures.runs not new requests hands
    ])) (search rules)

pub returns-clause-again : goal.returns-clause-again
returns-clause-again g c = λ end is.
    let offer = c.self.inside.offer in
    let agreed = c.self.inside.agreed in
    let old = session_at offer agreed (standing_of c.replace-stage.result) in
    let same : old ≡ c.args.self.now = ap (λ (stage : Stage). session_at offer agreed (standing_of stage)) c.replace-stage.ensures.value ∙ c.self.view_is in
    let was : end_of (standing_of c.replace-stage.result) ≡ Some end = ap (λ (s : SessionState). end_of s.standing) same ∙ is in
    let kept = greets_ended (standing_of c.replace-stage.result) (standing_of c.in_ok-stage.stage) c.args.out.now.items c.greet.new.out.items end c.in_ok-stage.ensures.greets was in
    let still : end_of (standing_of c.in_ok-stage.stage) ≡ Some end = ap end_of kept ∙ was in
    let idle = c.in_ok-talk.ensures.still (ended_idle c.in_ok-stage.stage end still) in
    c.hand_out-stage.ensures.again end (ap (λ (talk : Talk). end_of (standing_of talk.stage)) idle.0.0 ∙ still)

pub returns-clause-said : goal.returns-clause-said
returns-clause-said g c = said_behind c.hand_out-stage.result.0 c.hand_out-stage.ensures.sound

pub returns-in_err-stage-clause-offer : goal.returns-in_err-stage-clause-offer
returns-in_err-stage-clause-offer g c =
    ap (λ (s : SessionState). s.offer) c.self.view_is

pub returns-in_err-stage-clause-fault : goal.returns-in_err-stage-clause-fault
returns-in_err-stage-clause-fault g c =
    err_given (λ (end : End). end_of (standing_of c.replace-stage.new.dest) ≡ Some end) c.from_residual.result NoMemory c.from_residual.ensures.1 (ap (λ (stage : Stage). end_of (standing_of stage)) c.replace-stage.ensures.after)

pub returns-in_err-stage-clause-first : goal.returns-in_err-stage-clause-first
returns-in_err-stage-clause-first g c end is =
    IfOk-from_err c.from_residual.result _ c.from_residual.ensures.0

pub returns-in_err-stage-clause-said : goal.returns-in_err-stage-clause-said
returns-in_err-stage-clause-said g c =
    subst (λ (stage : Stage). IsSaid (standing_of stage)) (sym c.replace-stage.ensures.after) tt

pub returns-in_err-stage-clause-asks : goal.returns-in_err-stage-clause-asks
returns-in_err-stage-clause-asks g c =
    IfOk-from_err c.from_residual.result _ c.from_residual.ensures.0

pub returns-in_err-stage-clause-no_disc : goal.returns-in_err-stage-clause-no_disc
returns-in_err-stage-clause-no_disc g c =
    IfOk-from_err c.from_residual.result _ c.from_residual.ensures.0

pub returns-in_err-stage-clause-held : goal.returns-in_err-stage-clause-held
returns-in_err-stage-clause-held g c =
    subst (λ (stage : Stage). held_by (standing_of stage) < 28 + 1048576) (sym c.replace-stage.ensures.after) (omega arith)

pub returns-in_err-talk-clause-offer : goal.returns-in_err-talk-clause-offer
returns-in_err-talk-clause-offer g c =
    ap (λ (s : SessionState). s.offer) c.self.view_is

pub returns-in_err-talk-clause-fault : goal.returns-in_err-talk-clause-fault
returns-in_err-talk-clause-fault g c =
    err_given (λ (end : End). end_of (standing_of c.replace-stage.new.dest) ≡ Some end) c.from_residual-in_err-talk.result NoMemory c.from_residual-in_err-talk.ensures.1 (ap (λ (stage : Stage). end_of (standing_of stage)) c.replace-stage.ensures.after)

pub returns-in_err-talk-clause-first : goal.returns-in_err-talk-clause-first
returns-in_err-talk-clause-first g c end is =
    IfOk-from_err c.from_residual-in_err-talk.result _ c.from_residual-in_err-talk.ensures.0

pub returns-in_err-talk-clause-said : goal.returns-in_err-talk-clause-said
returns-in_err-talk-clause-said g c =
    subst (λ (stage : Stage). IsSaid (standing_of stage)) (sym c.replace-stage.ensures.after) tt

pub returns-in_err-talk-clause-asks : goal.returns-in_err-talk-clause-asks
returns-in_err-talk-clause-asks g c =
    IfOk-from_err c.from_residual-in_err-talk.result _ c.from_residual-in_err-talk.ensures.0

pub returns-in_err-talk-clause-no_disc : goal.returns-in_err-talk-clause-no_disc
returns-in_err-talk-clause-no_disc g c =
    IfOk-from_err c.from_residual-in_err-talk.result _ c.from_residual-in_err-talk.ensures.0

pub returns-in_err-talk-clause-held : goal.returns-in_err-talk-clause-held
returns-in_err-talk-clause-held g c =
    subst (λ (stage : Stage). held_by (standing_of stage) < 28 + 1048576) (sym c.replace-stage.ensures.after) (omega arith)

pub returns-clause-offer : goal.returns-clause-offer
returns-clause-offer g c =
    ap (λ (s : SessionState). s.offer) c.self.view_is

pub returns-clause-fault : goal.returns-clause-fault
returns-clause-fault g c =
    c.hand_out-stage.ensures.fault

pub returns-clause-first : goal.returns-clause-first
returns-clause-first g c =
    c.hand_out-stage.ensures.first

pub returns-clause-asks : goal.returns-clause-asks
returns-clause-asks g c =
    c.hand_out-stage.ensures.asks

pub returns-clause-no_disc : goal.returns-clause-no_disc
returns-clause-no_disc g c =
    c.hand_out-stage.ensures.no_disc

pub returns-clause-held : goal.returns-clause-held
returns-clause-held g c =
    c.hand_out-stage.ensures.held
