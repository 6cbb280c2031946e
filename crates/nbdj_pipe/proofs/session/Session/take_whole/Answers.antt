use Rattle.std.proofs.Common.{arith, rules, ◌++◌, ◌≡◌, ◌≢◌, [], ◌∷◌, List, ℕ, Option, None, Some, Result, Ok, Err, inl, inr, ap, sym, subst, ◌∙◌, append_assoc, append-nil, refl}
use Rattle.std.specs.Prelude.{reverse}
use Rattle.nbd_wire.specs.Request.{Message}
use Rattle.nbd_wire.specs.Stream.{Reader}
use Rattle.nbdj_pipe.specs.inner.Session.{IsFed, Runs, Serves, Takes, TakesOn}
use Rattle.nbdj_pipe.specs.Talk.{Exchange, asked, dialog, reply_to}
use Rattle.front_end.specs.Refusals.{of_wire}
use Rattle.front_end.specs.declared.refusal.Refusal.{Refusal}
use Rattle.nbdj_pipe.specs.declared.session.Flow.{Flow}
use Rattle.nbdj_pipe.proofs.Dialogs.{HaveNoDisc, asked-append, dialog-append, each_append}
use Rattle.nbdj_pipe.proofs.Runs.{bare_wire, runs_bare, runs_none, runs_on}
use Rattle.nbdj_pipe.proofs.Sessions.{as_error, fed, feeds_on, messages_done, messages_next, messages_served, takes_all, takes_disc, takes_fault, takes_unserved, takes_unwritten}
use Rattle.nbdj_pipe.proofs.session.Session.take_whole.Goals as goal

-- the next request wasn't served, or its reply has no memory
unserved : (run served_run : List Exchange → Option Message → Result (Unit {0}) Refusal → Type 0) (exchanges : List Exchange)
    → ((more : List Exchange) (last : Option Message) (outcome : Result (Unit {0}) Refusal) → served_run more last outcome → run (exchanges ++ more) last outcome)
    → (old new : Reader) (piece : List ℕ) (all : List Message) → TakesOn old piece all new → HaveNoDisc exchanges
    → (before mid after : List ℕ) (request : Message) (more : List Message) (refusal : Refusal) → all ≡ (asked exchanges ++ request ∷ []) ++ more → mid ≡ before ++ dialog exchanges
    → Serves request mid after (Err refusal) served_run → Takes old piece new before after (Err refusal) run
unserved run served_run exchanges join old new piece all reads none before mid after request more refusal same due (early, is, inl ran) =
    takes_unserved run old new piece all exchanges reads none before after request more same (is ∙ due) refusal
    (subst (λ (e : List Exchange). run e (Some request) (Err refusal)) (append-nil exchanges) (join [] (Some request) (Err refusal) ran)) early
unserved run served_run exchanges join old new piece all reads none before mid after request more refusal same due (early, is, inr (answer, kind, ran)) =
    takes_unwritten run old new piece all exchanges reads none before after (record { request = request; answer = answer }) more refusal same (is ∙ due) kind
    (join (record { request = request; answer = answer } ∷ []) None (Err refusal) ran) early

err_apart : (refusal : Refusal) → (let result : Result Flow Refusal = Err refusal in result ≡ Ok Flow.Open) → ⊥
err_apart refusal is = cc

ended_apart : (let result : Result Flow Refusal = Ok Flow.Ended in result ≡ Ok Flow.Open) → ⊥
ended_apart is = cc

pub serve-requires : goal.serve-requires
serve-requires g c = record { group = c.loop-request.invariant.group }

pub returns-in_err-requests-clause-is_open : goal.returns-in_err-requests-clause-is_open
returns-in_err-requests-clause-is_open g c =
    as_error (IsFed c.args.reader.now c.args.piece.now c.feed.new.self) (of_wire c.in_err-requests.field-0.0) c.from_residual.result c.from_residual.ensures.1
    (λ is. absurd (err_apart (of_wire c.in_err-requests.field-0.0) is))

pub returns-in_err-serve-clause-is_open : goal.returns-in_err-serve-clause-is_open
returns-in_err-serve-clause-is_open g c =
    as_error (IsFed c.args.reader.now c.args.piece.now c.feed.new.self) c.in_err-serve.field-0.0 c.from_residual-in_err-serve.result c.from_residual-in_err-serve.ensures.1
    (λ is. absurd (err_apart c.in_err-serve.field-0.0 is))

pub returns-in-Ended-clause-is_open : goal.returns-in-Ended-clause-is_open
returns-in-Ended-clause-is_open g c = λ is. absurd (ended_apart is)

pub returns-in_err-requests-clause-takes : goal.returns-in_err-requests-clause-takes
returns-in_err-requests-clause-takes g c =
    let disk = g.D.Disk in
    let a = c.args.self.now.export in
    takes_fault (Runs disk.state disk.faults disk.honest a.order a.keeper a.connections a.order a.keeper a.connections)
    (λ fault. runs_bare disk.state disk.faults disk.honest a.order a.order a.keeper a.keeper a.connections a.connections [] None (Ok tt) (of_wire fault) (bare_wire fault)
    (runs_none disk.state disk.faults disk.honest c.leads_law.ensures a.order a.keeper a.connections))
    c.args.reader.now c.feed.new.self c.args.piece.now c.args.self.now.replies.items
    (feeds_on c.args.reader.now c.args.piece.now [] c.feed.new.self c.in_err-requests.ensures.stream) c.in_err-requests.field-0.0 c.from_residual.result c.in_err-requests.ensures.fault c.from_residual.ensures.1

pub returns-in_err-serve-clause-takes : goal.returns-in_err-serve-clause-takes
returns-in_err-serve-clause-takes g c =
    let disk = g.D.Disk in
    let a = c.args.self.now.export in
    let b = c.loop-request.self.export in
    let e = c.serve.new.self.export in
    let i = c.loop-request.invariant in
    let all = c.in_ok-requests.requests.items in
    let before = c.args.self.now.replies.items in
    let after = c.serve.new.self.replies.items in
    let request = c.in-Some.request in
    let next = messages_next all c.reverse.new.self.items c.loop-request.requests.items (asked i.exchanges) c.reverse.ensures.items i.whole c.pop.new.self.items request c.in-Some.ensures.items in
    let serves = subst (λ (r : Result Flow Refusal). Serves request c.loop-request.self.replies.items after r (Runs disk.state disk.faults disk.honest b.order b.keeper b.connections e.order e.keeper e.connections))
    c.in_err-serve.was c.serve.ensures.serves in
    as_error (λ (r : Result Flow Refusal). Takes c.args.reader.now c.args.piece.now c.feed.new.self before after r (Runs disk.state disk.faults disk.honest a.order a.keeper a.connections e.order e.keeper e.connections))
    c.in_err-serve.field-0.0 c.from_residual-in_err-serve.result c.from_residual-in_err-serve.ensures.1
    (unserved (Runs disk.state disk.faults disk.honest a.order a.keeper a.connections e.order e.keeper e.connections)
    (Runs disk.state disk.faults disk.honest b.order b.keeper b.connections e.order e.keeper e.connections) i.exchanges
    (λ more last outcome ran. runs_on disk.state disk.faults disk.honest c.leads_law.ensures a.order b.order e.order a.keeper b.keeper e.keeper a.connections b.connections e.connections c.serve.ensures.honest.0 i.exchanges more last outcome i.runs ran)
    c.args.reader.now c.feed.new.self c.args.piece.now all (feeds_on c.args.reader.now c.args.piece.now all c.feed.new.self c.in_ok-requests.ensures.stream) i.no_disc
    before c.loop-request.self.replies.items after request (reverse c.pop.new.self.items) c.in_err-serve.field-0.0 next i.due serves)

pub returns-in-Ended-clause-takes : goal.returns-in-Ended-clause-takes
returns-in-Ended-clause-takes g c =
    let disk = g.D.Disk in
    let a = c.args.self.now.export in
    let b = c.loop-request.self.export in
    let e = c.serve.new.self.export in
    let i = c.loop-request.invariant in
    let all = c.in_ok-requests.requests.items in
    let before = c.args.self.now.replies.items in
    let after = c.serve.new.self.replies.items in
    let request = c.in-Some.request in
    let next = messages_next all c.reverse.new.self.items c.loop-request.requests.items (asked i.exchanges) c.reverse.ensures.items i.whole c.pop.new.self.items request c.in-Some.ensures.items in
    let ended = subst (λ (r : Result Flow Refusal). Serves request c.loop-request.self.replies.items after r (Runs disk.state disk.faults disk.honest b.order b.keeper b.connections e.order e.keeper e.connections))
    (c.in_ok-serve.was ∙ ap Ok c.in-Ended.is) c.serve.ensures.serves in
    takes_disc (Runs disk.state disk.faults disk.honest a.order a.keeper a.connections e.order e.keeper e.connections)
    c.args.reader.now c.feed.new.self c.args.piece.now all i.exchanges (feeds_on c.args.reader.now c.args.piece.now all c.feed.new.self c.in_ok-requests.ensures.stream) i.no_disc
    before after request (reverse c.pop.new.self.items) next (ended.1 ∙ i.due)
    (subst (λ (l : List Exchange). Runs disk.state disk.faults disk.honest a.order a.keeper a.connections e.order e.keeper e.connections l (Some request) (Ok tt)) (append-nil i.exchanges)
    (runs_on disk.state disk.faults disk.honest c.leads_law.ensures a.order b.order e.order a.keeper b.keeper e.keeper a.connections b.connections e.connections c.serve.ensures.honest.0 i.exchanges [] (Some request) (Ok tt) i.runs ended.2))
    ended.0

pub loop-request-preserved : goal.loop-request-preserved
loop-request-preserved g c =
    let disk = g.D.Disk in
    let a = c.args.self.now.export in
    let b = c.loop-request.self.export in
    let e = c.serve.new.self.export in
    let i = c.loop-request.invariant in
    let before = c.args.self.now.replies.items in
    let after = c.serve.new.self.replies.items in
    let request = c.in-Some.request in
    let going = subst (λ (r : Result Flow Refusal). Serves request c.loop-request.self.replies.items after r (Runs disk.state disk.faults disk.honest b.order b.keeper b.connections e.order e.keeper e.connections))
    (c.in_ok-serve.was ∙ ap Ok c.in-Open.is) c.serve.ensures.serves in
    let exchange : Exchange = record { request = request; answer = going.0 } in
    let reply = reply_to request.head.cookie going.0 in
    record {
      group = c.serve.ensures.group;
      extent = c.serve.ensures.extent ∙ i.extent;
      honest = (λ is. i.honest.0 (c.serve.ensures.honest.0 is), λ is. c.serve.ensures.honest.1 (i.honest.1 is));
      exchanges = i.exchanges ++ exchange ∷ [];
      whole = messages_served c.in_ok-requests.requests.items c.reverse.new.self.items c.loop-request.requests.items (asked i.exchanges) c.reverse.ensures.items i.whole c.pop.new.self.items request c.in-Some.ensures.items
          ∙ ap (λ (r : List Message). r ++ reverse c.pop.new.self.items) (sym (asked-append i.exchanges (exchange ∷ [])));
      due = going.2 ∙ ap (λ (t : List ℕ). t ++ reply) i.due ∙ append_assoc before (dialog i.exchanges) reply
          ∙ ap (λ (t : List ℕ). before ++ t) (ap (λ (t : List ℕ). dialog i.exchanges ++ t) (sym (append-nil reply)) ∙ sym (dialog-append i.exchanges (exchange ∷ [])));
      no_disc = each_append (λ (x : Exchange). x.request.head.kind ≢ 2) i.exchanges (exchange ∷ []) i.no_disc (going.1, tt);
      runs = runs_on disk.state disk.faults disk.honest c.leads_law.ensures a.order b.order e.order a.keeper b.keeper e.keeper a.connections b.connections e.connections c.serve.ensures.honest.0 i.exchanges (exchange ∷ []) None (Ok tt) i.runs going.3;
    }

pub returns-clause-takes : goal.returns-clause-takes
returns-clause-takes g c =
    let disk = g.D.Disk in
    let a = c.args.self.now.export in
    let b = c.loop-request.self.export in
    let i = c.loop-request.invariant in
    let all = c.in_ok-requests.requests.items in
    let done = messages_done all c.reverse.new.self.items c.loop-request.requests.items (asked i.exchanges) c.reverse.ensures.items i.whole (search rules) in
    takes_all (Runs disk.state disk.faults disk.honest a.order a.keeper a.connections b.order b.keeper b.connections)
    c.args.reader.now c.feed.new.self c.args.piece.now all i.exchanges (feeds_on c.args.reader.now c.args.piece.now all c.feed.new.self c.in_ok-requests.ensures.stream) i.no_disc
    c.args.self.now.replies.items c.loop-request.self.replies.items done i.due i.runs

pub returns-clause-is_open : goal.returns-clause-is_open
returns-clause-is_open g c =
    fed c.args.reader.now c.args.piece.now c.feed.new.self c.in_ok-requests.requests (Ok Flow.Open) c.in_ok-requests.ensures.stream c.in_ok-requests.ensures.again
    (λ fault ends. omega (arith, c.in_ok-requests.ensures.first fault ends, c.in_ok-requests.requests.ok.0))

pub loop-request-init : goal.loop-request-init
loop-request-init g c =
    let disk = g.D.Disk in
    let a = c.args.self.now.export in
    record {
      group = c.requires.group;
      extent = refl;
      honest = (λ is. is, λ is. is);
      exchanges = [];
      whole = refl;
      due = sym (append-nil c.args.self.now.replies.items);
      no_disc = tt;
      runs = runs_none disk.state disk.faults disk.honest c.leads_law.ensures a.order a.keeper a.connections;
    }

pub returns-in_err-requests-clause-group : goal.returns-in_err-requests-clause-group
returns-in_err-requests-clause-group g c = c.requires.group

pub returns-in_err-requests-clause-extent : goal.returns-in_err-requests-clause-extent
returns-in_err-requests-clause-extent g c = refl

pub returns-in_err-requests-clause-honest : goal.returns-in_err-requests-clause-honest
returns-in_err-requests-clause-honest g c = (λ is. is, λ is. is)

pub returns-in_err-serve-clause-group : goal.returns-in_err-serve-clause-group
returns-in_err-serve-clause-group g c = c.serve.ensures.group

pub returns-in_err-serve-clause-extent : goal.returns-in_err-serve-clause-extent
returns-in_err-serve-clause-extent g c = c.serve.ensures.extent ∙ c.loop-request.invariant.extent

pub returns-in_err-serve-clause-honest : goal.returns-in_err-serve-clause-honest
returns-in_err-serve-clause-honest g c = (λ is. c.loop-request.invariant.honest.0 (c.serve.ensures.honest.0 is), λ is. c.serve.ensures.honest.1 (c.loop-request.invariant.honest.1 is))

pub returns-in-Ended-clause-group : goal.returns-in-Ended-clause-group
returns-in-Ended-clause-group g c = c.serve.ensures.group

pub returns-in-Ended-clause-extent : goal.returns-in-Ended-clause-extent
returns-in-Ended-clause-extent g c = c.serve.ensures.extent ∙ c.loop-request.invariant.extent

pub returns-in-Ended-clause-honest : goal.returns-in-Ended-clause-honest
returns-in-Ended-clause-honest g c = (λ is. c.loop-request.invariant.honest.0 (c.serve.ensures.honest.0 is), λ is. c.serve.ensures.honest.1 (c.loop-request.invariant.honest.1 is))

pub returns-clause-group : goal.returns-clause-group
returns-clause-group g c = c.loop-request.invariant.group

pub returns-clause-extent : goal.returns-clause-extent
returns-clause-extent g c = c.loop-request.invariant.extent

pub returns-clause-honest : goal.returns-clause-honest
returns-clause-honest g c = c.loop-request.invariant.honest
