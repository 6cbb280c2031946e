use Rattle.std.proofs.Common.{◌≡◌, ◌<◌, get_or, length, sym, ◌∙◌, arith}
use Rattle.std.proofs.lemmas.List.{get_or_default}
use Rattle.export_steps.proofs.Talks.{answered_none}
use Rattle.export_model.specs.declared.connection.Connection.TheVariants.{Closed}
use Rattle.export_steps.proofs.requests.answer.Goals as goal

pub returns-in-Err-clause-answered : goal.returns-in-Err-clause-answered
returns-in-Err-clause-answered g c =
    let items = c.args.states.now.items in
    let place = c.args.connection in
    let below : place < length items = omega arith in
    let at : get_or items place Closed ≡ c.replace.result = get_or_default items place Closed c.index_mut.result.now below ∙ sym (c.replace.ensures.value ∙ c.index_mut.ensures.value) in
    answered_none c.args.order.now.durable c.args.order.now.stopped items place c.replace.new.dest c.replace.result c.in-Err.state at (sym c.due.ensures ∙ c.in-Err.is)
