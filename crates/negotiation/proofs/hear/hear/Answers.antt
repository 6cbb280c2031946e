use Rattle.std.proofs.Common.{◌≡◌, ◌∙◌, ◌⊎◌, List, ℕ, [], Option, Ok, Err, Result, arith, refl, inr, rules, subst, sym, take, vec_len}
use Rattle.std.specs.Global.{Vec}
use Rattle.std.specs.Io.KnownBytes.{Consumes}
use Rattle.nbd_wire.specs.Request.{Message}
use Rattle.negotiation.specs.declared.end.End.{End}
use Rattle.negotiation.specs.Hearing.{Hearing, IsTimely, ReadsOn}
use Rattle.negotiation.specs.Session.{SessionState, end_of}
use Rattle.negotiation.specs.declared.end.End.TheVariants.{IoFault, PeerClosed}
use Rattle.negotiation.proofs.Hearing.{as_error, consumes_failed, reads_nothing, fault_tells, heard_last, heard_none, heard_then, if_ok, items_none, none_left, none_of, timely_piece, went_on}
use Rattle.negotiation.proofs.hear.hear.Goals as goal

pub returns-in_err-requests-clause-hearing : goal.returns-in_err-requests-clause-hearing
returns-in_err-requests-clause-hearing g c =
    let input = g.R.Read.remaining c.args.input.now in
    let output = g.W.Write.contents c.args.output.now in
    let later = g.W.Write.contents c.take.new.output in
    let old = c.args.session.now in
    as_error (λ (r : Result (Vec Message) End). Hearing old (ReadsOn old input input) output later r c.take.new.session) c.in_err-requests.field-0.0 c.from_residual.result c.from_residual.ensures.1
    (heard_then old old input input output output (heard_none old input output c.requires.said) c.take.new.session input later (λ bytes. bytes ≡ []) (Err c.in_err-requests.field-0.0) c.in_err-requests.ensures.hearing (reads_nothing old input))

pub returns-then-not-is_empty-clause-hearing : goal.returns-then-not-is_empty-clause-hearing
returns-then-not-is_empty-clause-hearing g c =
    let input = g.R.Read.remaining c.args.input.now in
    let output = g.W.Write.contents c.args.output.now in
    let old = c.args.session.now in
    heard_then old old input input output output (heard_none old input output c.requires.said) c.take.new.session input (g.W.Write.contents c.take.new.output) (λ bytes. bytes ≡ []) (Ok c.in_ok-requests.requests) c.in_ok-requests.ensures.hearing
    (reads_nothing old input)

pub returns-then-ended-clause-hearing : goal.returns-then-ended-clause-hearing
returns-then-ended-clause-hearing g c =
    let input = g.R.Read.remaining c.args.input.now in
    let output = g.W.Write.contents c.args.output.now in
    let old = c.args.session.now in
    heard_then old old input input output output (heard_none old input output c.requires.said) c.take.new.session input (g.W.Write.contents c.take.new.output) (λ bytes. bytes ≡ []) (Ok c.in_ok-requests.requests) c.in_ok-requests.ensures.hearing
    (reads_nothing old input)

pub returns-in_err-fill-clause-hearing : goal.returns-in_err-fill-clause-hearing
returns-in_err-fill-clause-hearing g c =
    let input = g.R.Read.remaining c.args.input.now in
    let left = g.R.Read.remaining c.fill.new.input in
    let output = g.W.Write.contents c.args.output.now in
    let made = g.W.Write.contents c.take.new.output in
    let old = c.args.session.now in
    let now = c.take.new.session in
    let new = c.fill.new.session in
    let given = c.in_ok-requests.requests in
    let zero : vec_len given ≡ 0 = none_left _ (sym c.is_empty.ensures ∙ c.if-not-is_empty.false) in
    let none = items_none given zero in
    let heard = went_on old now (λ bytes. bytes ≡ []) input input output made given c.in_ok-requests.ensures.hearing (reads_nothing old input) none (λ some. omega (arith, zero, some)) c.in_ok-requests.ensures.said in
    let end = c.in_err-fill.field-0.0 in
    as_error (λ (r : Result (Vec Message) End). Hearing old (ReadsOn old input left) output made r new) end c.from_residual-in_err-fill.result c.from_residual-in_err-fill.ensures.1
    (heard_then old now input input output made heard new left made (ReadsOn now input left) (Err end) (c.in_err-fill.ensures.hearing made given none) (λ bytes read. read))

pub returns-then-room-len-clause-hearing : goal.returns-then-room-len-clause-hearing
returns-then-room-len-clause-hearing g c =
    let input = g.R.Read.remaining c.args.input.now in
    let left = g.R.Read.remaining c.fill.new.input in
    let output = g.W.Write.contents c.args.output.now in
    let made = g.W.Write.contents c.take.new.output in
    let old = c.args.session.now in
    let now = c.take.new.session in
    let given = c.in_ok-requests.requests in
    let zero : vec_len given ≡ 0 = none_left _ (sym c.is_empty.ensures ∙ c.if-not-is_empty.false) in
    let none = items_none given zero in
    let heard = went_on old now (λ bytes. bytes ≡ []) input input output made given c.in_ok-requests.ensures.hearing (reads_nothing old input) none (λ some. omega (arith, zero, some)) c.in_ok-requests.ensures.said in
    heard_then old now input input output made heard c.fill.new.session left made (ReadsOn now input left) (Ok given) (c.in_ok-fill.ensures.hearing made given none) (λ bytes read. read)

pub returns-in_err-count-clause-hearing : goal.returns-in_err-count-clause-hearing
returns-in_err-count-clause-hearing g c =
    let input = g.R.Read.remaining c.args.input.now in
    let left = g.R.Read.remaining c.read_some.new.input in
    let output = g.W.Write.contents c.args.output.now in
    let made = g.W.Write.contents c.take.new.output in
    let old = c.args.session.now in
    let now = c.take.new.session in
    let given = c.in_ok-requests.requests in
    let zero : vec_len given ≡ 0 = none_left _ (sym c.is_empty.ensures ∙ c.if-not-is_empty.false) in
    let none = items_none given zero in
    let heard = went_on old now (λ bytes. bytes ≡ []) input input output made given c.in_ok-requests.ensures.hearing (reads_nothing old input) none (λ some. omega (arith, zero, some)) c.in_ok-requests.ensures.said in
    let outcome = c.from_residual-in_err-count.result in
    heard_last old now input input output made heard left outcome (consumes_failed input left c.in_err-count.ensures.bytes)
    (fault_tells outcome IoFault c.from_residual-in_err-count.ensures.1 refl now [] [] [] now)

pub returns-then-count-eq0-clause-hearing : goal.returns-then-count-eq0-clause-hearing
returns-then-count-eq0-clause-hearing g c =
    let input = g.R.Read.remaining c.args.input.now in
    let left = g.R.Read.remaining c.read_some.new.input in
    let output = g.W.Write.contents c.args.output.now in
    let made = g.W.Write.contents c.take.new.output in
    let old = c.args.session.now in
    let now = c.take.new.session in
    let given = c.in_ok-requests.requests in
    let zero : vec_len given ≡ 0 = none_left _ (sym c.is_empty.ensures ∙ c.if-not-is_empty.false) in
    let none = items_none given zero in
    let heard = went_on old now (λ bytes. bytes ≡ []) input input output made given c.in_ok-requests.ensures.hearing (reads_nothing old input) none (λ some. omega (arith, zero, some)) c.in_ok-requests.ensures.said in
    heard_last old now input input output made heard left (Err PeerClosed) (subst (λ (n : ℕ). Consumes input left (take n c.read_some.new.piece.items)) c.if-count-eq0.true c.in_ok-count.ensures.bytes.0)
    (refl, refl, refl, refl, (none_of (end_of now.standing) (λ end is. omega (arith, zero, c.in_ok-requests.ensures.first end is)), search rules))

-- That all of what was read is fed is searched for.
piece_taken : {old new : SessionState} {fed piece : List ℕ} {output made : Option (List ℕ)} {outcome : Result (Vec Message) End} → Hearing old (λ bytes. bytes ≡ fed) output made outcome new → fed ≡ piece → Hearing old (λ bytes. bytes ≡ piece) output made outcome new
piece_taken {old} {new} {fed} {piece} {output} {made} {outcome} hearing same = subst (λ (p : List ℕ). Hearing old (λ bytes. bytes ≡ p) output made outcome new) same hearing

pub returns-clause-hearing : goal.returns-clause-hearing
returns-clause-hearing g c =
    let input = g.R.Read.remaining c.args.input.now in
    let left = g.R.Read.remaining c.read_some.new.input in
    let output = g.W.Write.contents c.args.output.now in
    let made = g.W.Write.contents c.take.new.output in
    let old = c.args.session.now in
    let now = c.take.new.session in
    let given = c.in_ok-requests.requests in
    let piece = take c.in_ok-count.count c.deref.result.now in
    let zero : vec_len given ≡ 0 = none_left _ (sym c.is_empty.ensures ∙ c.if-not-is_empty.false) in
    let none = items_none given zero in
    let heard = went_on old now (λ bytes. bytes ≡ []) input input output made given c.in_ok-requests.ensures.hearing (reads_nothing old input) none (λ some. omega (arith, zero, some)) c.in_ok-requests.ensures.said in
    let read = subst (λ (bytes : List ℕ). Consumes input left (take c.in_ok-count.count bytes)) (sym c.deref.ensures.value) c.in_ok-count.ensures.bytes.0 in
    heard_then old now input input output made heard c.take-2.new.session left (g.W.Write.contents c.take-2.new.output) (λ bytes. bytes ≡ piece) c.take-2.result (piece_taken c.take-2.ensures.hearing (search rules))
    (λ bytes same. (subst (Consumes input left) (sym same) read, subst (λ (b : List ℕ). (b ≡ []) ⊎ IsTimely now b) (sym same) (timely_piece now piece (none_of (end_of now.standing) (λ end is. omega (arith, zero, c.in_ok-requests.ensures.first end is)), search rules) (search rules))))

pub returns-clause-reads : goal.returns-clause-reads
returns-clause-reads g c =
    let piece = take c.in_ok-count.count c.read_some.new.piece.items in
    if_ok _ c.take-2.result (λ requests zero. inr (piece, search rules, c.in_ok-count.ensures.bytes.0))
