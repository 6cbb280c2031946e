use Rattle.std.proofs.Common.{◌≡◌, true, false, List, [], ◌∷◌, ◌++◌, ap, refl, rules, subst, sym, ◌∙◌}
use Rattle.std.proofs.lemmas.List.{reverse-reverse}
use Rattle.std.specs.Prelude.{is_ok, reverse}
use Rattle.nbd_wire.specs.Request.{Message}
use Rattle.negotiation.specs.Talk.{asked}
use Rattle.negotiation.specs.Dialog.{HasNoDisc}
use Rattle.negotiation.proofs.Answering.{all_left, before_last, none_turned, answering_next, answering_none, answering_write, answers_unwritten, answers_written, asked_next, err_not_ok, next_served}
use Rattle.negotiation.proofs.serve.answer_all.Goals as goal

pub loop-request-init : goal.loop-request-init
loop-request-init g c = record {
  exchanges = [];
  going = answering_none (g.S.Serve.allows c.args.export.now) c.args.flags.now c.args.pass.now c.args.pass.now (g.W.Write.contents c.args.output.now) (g.W.Write.contents c.args.output.now) c.args.due.now.items refl refl c.requires.none_due;
  whole = refl;
  no_disc = subst HasNoDisc (sym c.reverse.ensures.items) (none_turned c.args.requests.items c.requires.no_disc);
}

pub returns-in_err-write_before-clause-answers : goal.returns-in_err-write_before-clause-answers
returns-in_err-write_before-clause-answers g c =
    let i = c.loop-request.invariant in
    let rest = c.pop.new.self.items in
    let request = c.in-Some.request in
    let all = all_left c.args.requests.items c.reverse.new.self.items c.loop-request.requests.items (asked i.exchanges) c.reverse.ensures.items i.whole in
    answers_written (g.S.Serve.allows c.args.export.now) c.args.flags.now c.args.pass.now c.loop-request.pass (g.W.Write.contents c.args.output.now) (g.W.Write.contents c.loop-request.output) c.loop-request.due.items i.exchanges i.going
    (g.W.Write.contents c.write_before.new.output) c.write_before.new.due.items (is_ok c.write_before.result) c.write_before.ensures.writes c.args.requests.items (reverse c.loop-request.requests.items) all
    (is_ok c.from_residual.result) (λ ok. absurd (err_not_ok c.from_residual.result c.from_residual.ensures.0 ok))

pub loop-request-preserved : goal.loop-request-preserved
loop-request-preserved g c =
    let i = c.loop-request.invariant in
    let allows = g.S.Serve.allows c.args.export.now in
    let output = g.W.Write.contents c.args.output.now in
    let made = g.W.Write.contents c.write_before.new.output in
    let due = c.write_before.new.due.items in
    let request = c.in-Some.request in
    let going = answering_write allows c.args.flags.now c.args.pass.now c.loop-request.pass output (g.W.Write.contents c.loop-request.output) c.loop-request.due.items i.exchanges i.going made due c.in_ok-write_before.ensures.writes in
    record {
      exchanges = i.exchanges ++ record { request = request; reply = c.in_ok-answer.ensures.serves.reply } ∷ [];
      going = answering_next allows c.args.flags.now c.args.pass.now c.loop-request.pass output made due i.exchanges going request c.answer.new.pass (g.W.Write.contents c.answer.new.output) c.answer.new.due.items true c.in_ok-answer.ensures.serves refl;
      whole = next_served c.args.requests.items c.reverse.new.self.items c.loop-request.requests.items (asked i.exchanges) c.reverse.ensures.items i.whole c.pop.new.self.items request c.in-Some.ensures.items
          ∙ ap (λ (r : List Message). r ++ reverse c.pop.new.self.items)
          (sym (asked_next allows c.args.flags.now c.args.pass.now c.loop-request.pass output made due i.exchanges going request c.answer.new.pass (g.W.Write.contents c.answer.new.output) c.answer.new.due.items true c.in_ok-answer.ensures.serves));
      no_disc = (before_last c.pop.new.self.items request (subst HasNoDisc c.in-Some.ensures.items i.no_disc)).0;
    }

pub returns-in_err-answer-clause-answers : goal.returns-in_err-answer-clause-answers
returns-in_err-answer-clause-answers g c =
    let i = c.loop-request.invariant in
    let allows = g.S.Serve.allows c.args.export.now in
    let output = g.W.Write.contents c.args.output.now in
    let made = g.W.Write.contents c.write_before.new.output in
    let due = c.write_before.new.due.items in
    let request = c.in-Some.request in
    let all = c.args.requests.items in
    let back = c.reverse.new.self.items in
    let going = answering_write allows c.args.flags.now c.args.pass.now c.loop-request.pass output (g.W.Write.contents c.loop-request.output) c.loop-request.due.items i.exchanges i.going made due c.in_ok-write_before.ensures.writes in
    let next = sym (ap reverse c.reverse.ensures.items ∙ reverse-reverse all) ∙ next_served all back c.loop-request.requests.items (asked i.exchanges) c.reverse.ensures.items i.whole c.pop.new.self.items request c.in-Some.ensures.items in
    answers_unwritten allows c.args.flags.now c.args.pass.now c.loop-request.pass output made due i.exchanges going request c.answer.new.pass (g.W.Write.contents c.answer.new.output) c.answer.new.due.items false c.in_err-answer.ensures.serves all (reverse c.pop.new.self.items) next
    (is_ok c.from_residual-in_err-answer.result) (err_not_ok c.from_residual-in_err-answer.result c.from_residual-in_err-answer.ensures.0)

pub returns-in_err-write_due-clause-answers : goal.returns-in_err-write_due-clause-answers
returns-in_err-write_due-clause-answers g c =
    let i = c.loop-request.invariant in
    let all = all_left c.args.requests.items c.reverse.new.self.items c.loop-request.requests.items (asked i.exchanges) c.reverse.ensures.items i.whole in
    answers_written (g.S.Serve.allows c.args.export.now) c.args.flags.now c.args.pass.now c.loop-request.pass (g.W.Write.contents c.args.output.now) (g.W.Write.contents c.loop-request.output) c.loop-request.due.items i.exchanges i.going
    (g.W.Write.contents c.write_due.new.output) c.write_due.new.due.items false c.in_err-write_due.ensures.writes c.args.requests.items (reverse c.loop-request.requests.items) all
    (is_ok c.from_residual-in_err-write_due.result) (λ ok. absurd (err_not_ok c.from_residual-in_err-write_due.result c.from_residual-in_err-write_due.ensures.0 ok))

pub returns-clause-answers : goal.returns-clause-answers
returns-clause-answers g c =
    let i = c.loop-request.invariant in
    let none : c.loop-request.requests.items ≡ [] = search rules in
    let all = all_left c.args.requests.items c.reverse.new.self.items c.loop-request.requests.items (asked i.exchanges) c.reverse.ensures.items i.whole in
    answers_written (g.S.Serve.allows c.args.export.now) c.args.flags.now c.args.pass.now c.loop-request.pass (g.W.Write.contents c.args.output.now) (g.W.Write.contents c.loop-request.output) c.loop-request.due.items i.exchanges i.going
    (g.W.Write.contents c.write_due.new.output) c.write_due.new.due.items true c.in_ok-write_due.ensures.writes c.args.requests.items (reverse c.loop-request.requests.items) all
    true (λ ok. (ap reverse none, c.write_due.ensures.none, refl))
