use Rattle.std.proofs.Common.{subst, List, ℕ, [], Result, Ok, Err, ◌≡◌, ◌∙◌}
use Rattle.std.proofs.lemmas.List.{append-nil}
use Rattle.front_end.specs.declared.refusal.Refusal.{Refusal}
use Rattle.nbdj_pipe.specs.inner.Session.{Runs, StaysOpen, Takes}
use Rattle.nbdj_pipe.specs.declared.session.Flow.{Flow}
use Rattle.nbdj_pipe.proofs.Runs.{runs_on}
use Rattle.nbdj_pipe.proofs.Sessions.{as_error, stays_open, takes-on}
use Rattle.nbdj_pipe.proofs.session.Session.take.Goals as goal

err_apart : (refusal : Refusal) → (let result : Result Flow Refusal = Err refusal in result ≡ Ok Flow.Open) → ⊥
err_apart refusal is = cc

ended_apart : (let result : Result Flow Refusal = Ok Flow.Ended in result ≡ Ok Flow.Open) → ⊥
ended_apart is = cc

pub take_whole-requires : goal.take_whole-requires
take_whole-requires g c = record { group = c.requires.group }

pub take_whole-requires-in-Open : goal.take_whole-requires-in-Open
take_whole-requires-in-Open g c = record { group = c.take_whole.ensures.group }

pub returns-in_err-take_whole : goal.returns-in_err-take_whole
returns-in_err-take_whole g c =
    let disk = g.D.Disk in
    let a = c.args.self.now.export in
    let b = c.take_whole.new.self.export in
    let old = c.args.reader.now in
    let mid = c.take_whole.new.reader in
    record {
      group = c.take_whole.ensures.group;
      extent = c.take_whole.ensures.extent;
      honest = c.take_whole.ensures.honest;
      takes = as_error (λ (r : Result Flow Refusal). Takes old c.args.piece.now mid c.args.self.now.replies.items c.take_whole.new.self.replies.items r
          (Runs disk.state disk.faults disk.honest a.order a.keeper a.connections b.order b.keeper b.connections))
          c.in_err-take_whole.field-0.0 c.from_residual.result c.from_residual.ensures.1 c.in_err-take_whole.ensures.takes;
      is_open = as_error (StaysOpen old mid) c.in_err-take_whole.field-0.0 c.from_residual.result c.from_residual.ensures.1
          (λ is. absurd (err_apart c.in_err-take_whole.field-0.0 is));
    }

pub returns-in-Ended : goal.returns-in-Ended
returns-in-Ended g c =
    let disk = g.D.Disk in
    let a = c.args.self.now.export in
    let b = c.take_whole.new.self.export in
    record {
      group = c.take_whole.ensures.group;
      extent = c.take_whole.ensures.extent;
      honest = c.take_whole.ensures.honest;
      takes = subst (λ (flow : Flow). Takes c.args.reader.now c.args.piece.now c.take_whole.new.reader c.args.self.now.replies.items c.take_whole.new.self.replies.items (Ok flow)
          (Runs disk.state disk.faults disk.honest a.order a.keeper a.connections b.order b.keeper b.connections))
          c.in-Ended.is c.in_ok-take_whole.ensures.takes;
      is_open = λ is. absurd (ended_apart is);
    }

pub returns-in-Open : goal.returns-in-Open
returns-in-Open g c =
    let disk = g.D.Disk in
    let a = c.args.self.now.export in
    let b = c.take_whole.new.self.export in
    let e = c.take_whole-in-Open.new.self.export in
    let old = c.args.reader.now in
    let mid = c.take_whole.new.reader in
    let new = c.take_whole-in-Open.new.reader in
    let before = c.args.self.now.replies.items in
    let between = c.take_whole.new.self.replies.items in
    let after = c.take_whole-in-Open.new.self.replies.items in
    let first = subst (λ (flow : Flow). Takes old c.args.piece.now mid before between (Ok flow) (Runs disk.state disk.faults disk.honest a.order a.keeper a.connections b.order b.keeper b.connections))
    c.in-Open.is c.in_ok-take_whole.ensures.takes in
    record {
      group = c.take_whole-in-Open.ensures.group;
      extent = c.take_whole-in-Open.ensures.extent ∙ c.take_whole.ensures.extent;
      honest = (λ is. c.take_whole.ensures.honest.0 (c.take_whole-in-Open.ensures.honest.0 is), λ is. c.take_whole-in-Open.ensures.honest.1 (c.take_whole.ensures.honest.1 is));
      takes = subst (λ (piece : List ℕ). Takes old piece new before after c.take_whole-in-Open.result (Runs disk.state disk.faults disk.honest a.order a.keeper a.connections e.order e.keeper e.connections))
          (append-nil c.args.piece.now)
          (takes-on (Runs disk.state disk.faults disk.honest a.order a.keeper a.connections b.order b.keeper b.connections)
          (Runs disk.state disk.faults disk.honest b.order b.keeper b.connections e.order e.keeper e.connections)
          (Runs disk.state disk.faults disk.honest a.order a.keeper a.connections e.order e.keeper e.connections)
          (runs_on disk.state disk.faults disk.honest c.leads_law.ensures a.order b.order e.order a.keeper b.keeper e.keeper a.connections b.connections e.connections c.take_whole-in-Open.ensures.honest.0)
          old mid new c.args.piece.now [] before between after c.take_whole-in-Open.result first c.take_whole-in-Open.ensures.takes);
      is_open = stays_open c.one_reading.ensures.one c.one_reading.ensures.first old mid new c.args.piece.now
          c.in_ok-take_whole.ensures.takes.requests c.take_whole-in-Open.result c.in_ok-take_whole.ensures.takes.reads c.take_whole-in-Open.ensures.is_open;
    }
