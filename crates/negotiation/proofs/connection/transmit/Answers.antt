use Rattle.std.proofs.Common.{true, false, Err, Result, ap, rules, subst}
use Rattle.nbd_wire.specs.declared.message.SessionFlags.{SessionFlags}
use Rattle.negotiation.specs.declared.end.End.{End}
use Rattle.negotiation.specs.declared.end.End.TheVariants.{IoFault}
use Rattle.negotiation.specs.Serving.{Transmits}
use Rattle.negotiation.specs.Talk.{Answers}
use Rattle.negotiation.proofs.AfterHandshake.{answered, answered_part, as_end, behind_said, heard_end, heard_more, over, stopped, transmitting_start}
use Rattle.negotiation.proofs.connection.transmit.Goals as goal

pub loop-init : goal.loop-init
loop-init g c = record {
  said = behind_said c.args.session.now.standing c.requires.over;
  none_due = c.requires.none_due;
  piece = c.requires.piece;
  no_disc = c.requires.no_disc;
  going = λ heard held stands b flags.
      transmitting_start (g.S.Serve.allows c.args.export.now) c.args.session.now.agreed.flags heard held c.args.requests.items c.args.pass.now (g.R.Read.remaining c.args.input.now) (g.W.Write.contents c.args.output.now) c.args.session.now stands b;
}

pub returns-in_err-answer_all : goal.returns-in_err-answer_all
returns-in_err-answer_all g c = λ heard held stands b flags.
    let allows = g.S.Serve.allows c.args.export.now in
    let agreed = c.args.session.now.agreed.flags in
    let t = c.loop.invariant.going heard held stands b flags in
    let made = g.W.Write.contents c.loop.output in
    let later = g.W.Write.contents c.answer_all.new.output in
    let answers = subst (λ (f : SessionFlags). Answers allows f c.loop.pass c.loop.requests.items c.answer_all.new.pass made later false) c.flags-flags.ensures c.in_err-answer_all.ensures.answers in
    as_end (λ (r : Result (Unit {0}) End). Transmits allows agreed heard held c.args.requests.items c.args.pass.now c.answer_all.new.pass (g.R.Read.remaining c.args.input.now) (g.R.Read.remaining c.loop.input) (g.W.Write.contents c.args.output.now) later r)
    c.in_err-answer_all.field-0.0 c.from_residual.result c.from_residual.ensures.1
    (answered_part allows agreed heard held c.args.requests.items c.args.pass.now (g.R.Read.remaining c.args.input.now) (g.W.Write.contents c.args.output.now) c.loop.pass (g.R.Read.remaining c.loop.input) made c.loop.session c.loop.requests.items t
    c.answer_all.new.pass later false (Err c.in_err-answer_all.field-0.0) answers c.in_err-answer_all.ensures.early)

pub returns-then-ended : goal.returns-then-ended
returns-then-ended g c = λ heard held stands b flags.
    let allows = g.S.Serve.allows c.args.export.now in
    let agreed = c.args.session.now.agreed.flags in
    let waiting = c.args.requests.items in
    let input = g.R.Read.remaining c.args.input.now in
    let mid = g.R.Read.remaining c.loop.input in
    let output = g.W.Write.contents c.args.output.now in
    let made = g.W.Write.contents c.loop.output in
    let later = g.W.Write.contents c.answer_all.new.output in
    let answers = subst (λ (f : SessionFlags). Answers allows f c.loop.pass c.loop.requests.items c.answer_all.new.pass made later true) c.flags-flags.ensures c.in_ok-answer_all.ensures.answers in
    let done = answered allows agreed heard held waiting c.args.pass.now input output c.loop.pass mid made c.loop.session c.loop.requests.items (c.loop.invariant.going heard held stands b flags) c.answer_all.new.pass later answers in
    over allows agreed heard held waiting c.args.pass.now input output c.answer_all.new.pass mid later c.loop.session done _ (search rules) (search rules)

pub returns-in_err-requests : goal.returns-in_err-requests
returns-in_err-requests g c = λ heard held stands b flags.
    let allows = g.S.Serve.allows c.args.export.now in
    let agreed = c.args.session.now.agreed.flags in
    let waiting = c.args.requests.items in
    let input = g.R.Read.remaining c.args.input.now in
    let mid = g.R.Read.remaining c.loop.input in
    let output = g.W.Write.contents c.args.output.now in
    let made = g.W.Write.contents c.loop.output in
    let later = g.W.Write.contents c.answer_all.new.output in
    let answers = subst (λ (f : SessionFlags). Answers allows f c.loop.pass c.loop.requests.items c.answer_all.new.pass made later true) c.flags-flags.ensures c.in_ok-answer_all.ensures.answers in
    let done = answered allows agreed heard held waiting c.args.pass.now input output c.loop.pass mid made c.loop.session c.loop.requests.items (c.loop.invariant.going heard held stands b flags) c.answer_all.new.pass later answers in
    let left = g.R.Read.remaining c.hear.new.input in
    let told = g.W.Write.contents c.hear.new.output in
    let end = c.in_err-requests.field-0.0 in
    as_end (λ (r : Result (Unit {0}) End). Transmits allows agreed heard held waiting c.args.pass.now c.answer_all.new.pass input left output told r) end c.from_residual-in_err-requests.result c.from_residual-in_err-requests.ensures.1
    (heard_end allows agreed heard held waiting c.args.pass.now input output c.answer_all.new.pass mid later c.loop.session done c.hear.new.session left told end c.in_err-requests.ensures.hearing (λ is. c.in_err-requests.ensures.closed (ap Err is)) c.in_err-requests.ensures.starved)

pub loop-preserved : goal.loop-preserved
loop-preserved g c =
    let allows = g.S.Serve.allows c.args.export.now in
    let agreed = c.args.session.now.agreed.flags in
    let waiting = c.args.requests.items in
    let input = g.R.Read.remaining c.args.input.now in
    let mid = g.R.Read.remaining c.loop.input in
    let output = g.W.Write.contents c.args.output.now in
    let made = g.W.Write.contents c.loop.output in
    let later = g.W.Write.contents c.answer_all.new.output in
    let answers = subst (λ (f : SessionFlags). Answers allows f c.loop.pass c.loop.requests.items c.answer_all.new.pass made later true) c.flags-flags.ensures c.in_ok-answer_all.ensures.answers in
    let left = g.R.Read.remaining c.hear.new.input in
    let told = g.W.Write.contents c.hear.new.output in
    record {
      said = c.in_ok-requests.ensures.said;
      none_due = c.in_ok-requests.ensures.none_due;
      piece = c.in_ok-requests.ensures.piece;
      no_disc = c.in_ok-requests.ensures.no_disc;
      going = λ heard held stands b flags.
          let done = answered allows agreed heard held waiting c.args.pass.now input output c.loop.pass mid made c.loop.session c.loop.requests.items (c.loop.invariant.going heard held stands b flags) c.answer_all.new.pass later answers in
          heard_more allows agreed heard held waiting c.args.pass.now input output c.answer_all.new.pass mid later c.loop.session done c.in_ok-requests.requests c.hear.new.session left told c.in_ok-requests.ensures.hearing (λ starves. (c.in_ok-requests.ensures.starved starves).0);
    }

pub returns : goal.returns
returns g c = λ heard held stands b flags.
    let t = c.loop.invariant.going heard held stands b flags in
    stopped (g.S.Serve.allows c.args.export.now) c.args.session.now.agreed.flags heard held c.args.requests.items c.args.pass.now (g.R.Read.remaining c.args.input.now) (g.W.Write.contents c.args.output.now) c.loop.pass (g.R.Read.remaining c.loop.input) (g.W.Write.contents c.loop.output)
    c.loop.session c.loop.requests.items t (Err IoFault) tt
