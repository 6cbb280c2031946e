use Rattle.std.proofs.Common.{◌≡◌, ◌∙◌, [], Ok, Err, Result, sym, arith, vec_len}
use Rattle.std.specs.Global.{Vec}
use Rattle.nbd_wire.specs.Request.{Message}
use Rattle.negotiation.specs.declared.end.End.{End}
use Rattle.negotiation.specs.Hearing.{Hearing, ReadsOn}
use Rattle.negotiation.proofs.Hearing.{as_error, hearing_read, heard_then, items_none, none_left, reads_nothing, some_left, went_on}
use Rattle.negotiation.proofs.hear.negotiate.Goals as goal

pub returns-in_err-requests-clause-hearing : goal.returns-in_err-requests-clause-hearing
returns-in_err-requests-clause-hearing g c =
    let input = g.R.Read.remaining c.args.input.now in
    let output = g.W.Write.contents c.args.output.now in
    let later = g.W.Write.contents c.take.new.output in
    let old = c.args.session.now in
    as_error (λ (r : Result (Vec Message) End). Hearing old (ReadsOn old input input) output later r c.take.new.session) c.in_err-requests.field-0.0 c.from_residual.result c.from_residual.ensures.1
    (hearing_read old c.take.new.session (λ bytes. bytes ≡ []) (ReadsOn old input input) output later (Err c.in_err-requests.field-0.0) c.in_err-requests.ensures.hearing (reads_nothing old input))

pub loop-init : goal.loop-init
loop-init g c =
    let input = g.R.Read.remaining c.args.input.now in
    let old = c.args.session.now in
    let first = c.in_ok-requests.ensures in
    record {
      said = first.said;
      none_due = first.none_due;
      piece = c.requires.piece;
      first = first.first;
      asks = first.asks;
      no_disc = first.no_disc;
      hearing = hearing_read old c.take.new.session (λ bytes. bytes ≡ []) (ReadsOn old input input) (g.W.Write.contents c.args.output.now) (g.W.Write.contents c.take.new.output) (Ok c.in_ok-requests.requests) first.hearing (reads_nothing old input);
    }

pub returns-in_err-requests-2-clause-hearing : goal.returns-in_err-requests-2-clause-hearing
returns-in_err-requests-2-clause-hearing g c =
    let input = g.R.Read.remaining c.args.input.now in
    let mid = g.R.Read.remaining c.loop.input in
    let left = g.R.Read.remaining c.hear.new.input in
    let output = g.W.Write.contents c.args.output.now in
    let made = g.W.Write.contents c.loop.output in
    let later = g.W.Write.contents c.hear.new.output in
    let old = c.args.session.now in
    let now = c.loop.session in
    let zero : vec_len c.loop.requests ≡ 0 = none_left _ (sym c.is_empty.ensures ∙ c.if-not-is_empty.false) in
    let heard = went_on old now (ReadsOn old input mid) input mid output made c.loop.requests c.loop.invariant.hearing (λ bytes read. read) (items_none c.loop.requests zero) (λ some. omega (arith, zero, some)) c.loop.invariant.said in
    as_error (λ (r : Result (Vec Message) End). Hearing old (ReadsOn old input left) output later r c.hear.new.session) c.in_err-requests-2.field-0.0 c.from_residual-in_err-requests-2.result c.from_residual-in_err-requests-2.ensures.1
    (heard_then old now input mid output made heard c.hear.new.session left later (ReadsOn now mid left) (Err c.in_err-requests-2.field-0.0) c.in_err-requests-2.ensures.hearing (λ bytes read. read))

pub loop-preserved : goal.loop-preserved
loop-preserved g c =
    let input = g.R.Read.remaining c.args.input.now in
    let mid = g.R.Read.remaining c.loop.input in
    let left = g.R.Read.remaining c.hear.new.input in
    let output = g.W.Write.contents c.args.output.now in
    let made = g.W.Write.contents c.loop.output in
    let later = g.W.Write.contents c.hear.new.output in
    let old = c.args.session.now in
    let now = c.loop.session in
    let zero : vec_len c.loop.requests ≡ 0 = none_left _ (sym c.is_empty.ensures ∙ c.if-not-is_empty.false) in
    let heard = went_on old now (ReadsOn old input mid) input mid output made c.loop.requests c.loop.invariant.hearing (λ bytes read. read) (items_none c.loop.requests zero) (λ some. omega (arith, zero, some)) c.loop.invariant.said in
    let next = c.in_ok-requests-2.ensures in
    record {
      said = next.said;
      none_due = next.none_due;
      piece = next.piece;
      first = next.first;
      asks = next.asks;
      no_disc = next.no_disc;
      hearing = heard_then old now input mid output made heard c.hear.new.session left later (ReadsOn now mid left) (Ok c.in_ok-requests-2.requests) next.hearing (λ bytes read. read);
    }

pub returns-then-not-is_empty-clause-over : goal.returns-then-not-is_empty-clause-over
returns-then-not-is_empty-clause-over g c =
    c.loop.invariant.asks (some_left _ (sym c.is_empty.ensures ∙ c.if-not-is_empty.true))
