use Rattle.std.proofs.Common.{inl, inr, [], ◌∷◌, ◌++◌, Option, None, Result, Ok, IfOk, ap, subst, ◌∙◌, refl}
use Rattle.nbd_wire.specs.declared.message.Answer.{Answer}
use Rattle.nbd_wire.specs.declared.head.RequestHead.{RequestHead}
use Rattle.nbdj_pipe.specs.inner.Export.{IsOfKind}
use Rattle.nbdj_pipe.specs.inner.Session.{Runs, Serves}
use Rattle.nbdj_pipe.specs.Talk.{reply_to}
use Rattle.front_end.specs.declared.refusal.Refusal.{Refusal}
use Rattle.front_end.specs.declared.refusal.Refusal.TheVariants.{NoMemory}
use Rattle.nbdj_pipe.specs.declared.session.Flow.{Flow}
use Rattle.nbdj_pipe.proofs.Causes.{early_of}
use Rattle.nbdj_pipe.proofs.Runs.{answered_run, disc_run, failed_run, runs_bare}
use Rattle.nbdj_pipe.proofs.Sessions.{as_error}
use Rattle.nbdj_pipe.proofs.session.Session.serve.Goals as goal

pub returns-in_err-serve-clause-serves : goal.returns-in_err-serve-clause-serves
returns-in_err-serve-clause-serves g c =
    let disk = g.D.Disk in
    let a = c.args.self.now.export in
    let e = c.serve.new.self in
    let request = c.args.request in
    as_error (λ (r : Result Flow Refusal). Serves request c.args.self.now.replies.items c.args.self.now.replies.items r (Runs disk.state disk.faults disk.honest a.order a.keeper a.connections e.order e.keeper e.connections))
    c.in_err-serve.field-0.0 c.from_residual.result c.from_residual.ensures.1
    (early_of c.in_err-serve.field-0.0 c.in_err-serve.ensures.early, refl, inl (failed_run disk.state disk.faults disk.honest a.order e.order a.keeper e.keeper a.connections e.connections request c.in_err-serve.field-0.0 c.serve.result c.in_err-serve.was c.serve.ensures.world))

pub returns-in_err-append_reply-in-Some-clause-serves :
    goal.returns-in_err-append_reply-in-Some-clause-serves
returns-in_err-append_reply-in-Some-clause-serves g c =
    let disk = g.D.Disk in
    let a = c.args.self.now.export in
    let e = c.serve.new.self in
    let request = c.args.request in
    let before = c.args.self.now.replies.items in
    let after = c.append_reply.new.replies.items in
    let is = c.in_ok-serve.was ∙ ap Ok c.in-Some.is in
    as_error (λ (r : Result Flow Refusal). Serves request before after r (Runs disk.state disk.faults disk.honest a.order a.keeper a.connections e.order e.keeper e.connections))
    NoMemory c.from_residual-in_err-append_reply-in-Some.result c.from_residual-in_err-append_reply-in-Some.ensures.1 (
      tt,
      c.in_err-append_reply-in-Some.ensures.err,
      inr (
        c.in-Some.answer,
        subst (λ (r : Result (Option Answer) Refusal). IfOk r (IsOfKind request)) is c.serve.ensures.kind,
        runs_bare disk.state disk.faults disk.honest a.order e.order a.keeper e.keeper a.connections e.connections (record { request = request; answer = c.in-Some.answer } ∷ []) None (Ok tt) NoMemory (λ first last. tt)
            (answered_run disk.state disk.faults disk.honest a.order e.order a.keeper e.keeper a.connections e.connections request c.in-Some.answer c.serve.result is c.serve.ensures.world),
      ),
    )

pub returns-in-None-clause-serves : goal.returns-in-None-clause-serves
returns-in-None-clause-serves g c =
    let disk = g.D.Disk in
    let a = c.args.self.now.export in
    let e = c.serve.new.self in
    let request = c.args.request in
    let is = c.in_ok-serve.was ∙ ap Ok c.in-None.is in (
      subst (λ (r : Result (Option Answer) Refusal). IfOk r (IsOfKind request)) is c.serve.ensures.kind,
      refl,
      disc_run disk.state disk.faults disk.honest a.order e.order a.keeper e.keeper a.connections e.connections request c.serve.result is c.serve.ensures.world,
    )

pub returns-in_ok-append_reply-in-Some-clause-serves :
    goal.returns-in_ok-append_reply-in-Some-clause-serves
returns-in_ok-append_reply-in-Some-clause-serves g c =
    let disk = g.D.Disk in
    let a = c.args.self.now.export in
    let e = c.serve.new.self in
    let request = c.args.request in
    let is = c.in_ok-serve.was ∙ ap Ok c.in-Some.is in (
      c.in-Some.answer,
      subst (λ (r : Result (Option Answer) Refusal). IfOk r (IsOfKind request)) is c.serve.ensures.kind,
      c.in_ok-append_reply-in-Some.ensures.ok ∙ ap (λ (h : RequestHead). c.args.self.now.replies.items ++ reply_to h.cookie c.in-Some.answer) c.head-cookie.ensures,
      answered_run disk.state disk.faults disk.honest a.order e.order a.keeper e.keeper a.connections e.connections request c.in-Some.answer c.serve.result is c.serve.ensures.world,
    )
