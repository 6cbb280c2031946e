use Rattle.std.proofs.Common.{◌≡◌, List, ℕ, [], refl, rules, subst}
use Rattle.nbd_wire.specs.Request.{Message}
use Rattle.negotiation.specs.Session.{Feeds, SessionState, handed}
use Rattle.negotiation.specs.declared.end.End.TheVariants.{IoFault}
use Rattle.negotiation.proofs.Hearing.{fault_tells, took, took_part}
use Rattle.negotiation.proofs.hear.take.Goals as goal

-- That the session was fed this piece alone, and nothing was due before, is searched for.
fed_first : {from old new : SessionState} {piece before after : List ℕ} {requests : List Message} → Feeds from piece before after requests new → from ≡ old → before ≡ [] → Feeds old piece [] after requests new
fed_first {from} {old} {new} {piece} {before} {after} {requests} feeds same none =
    subst (λ (b : List ℕ). Feeds old piece b after requests new) none (subst (λ (s : SessionState). Feeds s piece before after requests new) same feeds)

pub returns-in_err-write_due-clause-hearing : goal.returns-in_err-write_due-clause-hearing
returns-in_err-write_due-clause-hearing g c =
    let old = c.args.session.now in
    let new = c.feed-fed.new.self in
    let piece = c.args.piece.now in
    let due = c.feed-fed.new.out.items in
    let feeds : Feeds old piece [] due (handed c.feed-fed.result) new = fed_first c.feed-fed.ensures.session (search rules) (search rules) in
    took_part old new piece due c.write_due.new.due.items c.feed-fed.result (g.W.Write.contents c.args.output.now) (g.W.Write.contents c.write_due.new.output) c.feed-fed.ensures.offer feeds c.from_residual.result
    (fault_tells c.from_residual.result IoFault c.from_residual.ensures.1 refl new) c.in_err-write_due.ensures.writes

pub returns-clause-hearing : goal.returns-clause-hearing
returns-clause-hearing g c =
    let old = c.args.session.now in
    let new = c.feed-fed.new.self in
    let piece = c.args.piece.now in
    let due = c.feed-fed.new.out.items in
    let feeds : Feeds old piece [] due (handed c.feed-fed.result) new = fed_first c.feed-fed.ensures.session (search rules) (search rules) in
    took old new piece due c.write_due.new.due.items c.feed-fed.result (g.W.Write.contents c.args.output.now) (g.W.Write.contents c.write_due.new.output) c.feed-fed.ensures.offer feeds
    c.feed-fed.ensures.fault c.feed-fed.ensures.first c.in_ok-write_due.ensures.writes c.in_ok-write_due.ensures.none
