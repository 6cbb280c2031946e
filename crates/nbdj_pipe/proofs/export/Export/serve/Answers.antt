use Rattle.std.proofs.Common.{◌≡◌, List, [], ◌∷◌, ap, sym, subst, refl, ◌∙◌}
use Rattle.nbd_wire.specs.declared.head.RequestHead.{RequestHead}
use Rattle.export_steps.specs.Bench.{ConnectionsState}
use Rattle.export_steps.specs.Life.{Leads, Trusts}
use Rattle.export_model.specs.declared.event.Event.{Event}
use Rattle.export_model.specs.declared.event.Event.TheVariants.{Sent, Answered}
use Rattle.export_model.specs.declared.step.Step.TheVariants.{Send}
use Rattle.export_model.specs.Serve.{Nothing}
use Rattle.export_model.specs.Step.{sent}
use Rattle.nbdj_pipe.specs.Causes.{HasCause}
use Rattle.nbdj_pipe.specs.inner.Export.{Follows, HasAnswer, IsOfKind}
use Rattle.nbdj_pipe.specs.inner.Refusals.{IsOfExport}
use Rattle.nbdj_pipe.specs.Talk.{verdict_on}
use Rattle.nbdj_pipe.proofs.Causes.{cause_behind, if_error}
use Rattle.nbdj_pipe.proofs.Steps.{end_kind, follows_on, has_answer, judged_awaits, no_ok, said_err, spoken_on}
use Rattle.nbdj_pipe.proofs.export.Export.serve.Goals as goal

pub returns-in_err-serve_sent : goal.returns-in_err-serve_sent
returns-in_err-serve_sent g c = record {
  group = c.serve_sent.ensures.group;
  extent = c.serve_sent.ensures.extent;
  honest = c.serve_sent.ensures.honest;
  early = if_error IsOfExport c.in_err-serve_sent.field-0.0 c.from_residual.result c.from_residual.ensures.1 c.in_err-serve_sent.ensures.early;
  kind = no_ok _ (IsOfKind c.args.request) c.from_residual.result c.from_residual.ensures.1;
  world = λ world trusted of idle plain_flags frames.
      let disk = g.D.Disk in
      let old = c.args.self.now in
      let request = c.args.request in
      let one = c.serve_sent.new.self in
      let asked = c.send-sent.new.self in
      let sent_world = sent Nothing world 0 request in
      let sends = c.leads_law.ensures.sends world trusted 0 request old.order old.keeper old.connections idle of in
      let sending = subst (λ (connections : ConnectionsState). Leads world sent_world (Send 0 request ∷ []) old.order old.keeper (disk.faults old.keeper.disk) connections
      (Trusts trusted (disk.honest old.keeper.disk)) (disk.state old.keeper.disk) (disk.state old.keeper.disk)) (sym c.send-sent.ensures.connections) sends in
      let first : Follows world sent_world (Sent 0 request ∷ []) old.order old.keeper (disk.faults old.keeper.disk) asked (Trusts trusted (disk.honest old.keeper.disk)) (disk.state old.keeper.disk) (disk.state old.keeper.disk) =
      record { steps = Send 0 request ∷ []; leads = sending; said_is = spoken_on world.log (Sent 0 request ∷ []); setting = refl } in
      let second = c.in_err-serve_sent.ensures.world sent_world trusted request sending.of_export refl c.few_bytes.ensures frames in
      let so_far = follows_on disk.state disk.faults disk.honest c.leads_law.ensures world sent_world second.0 trusted (Sent 0 request ∷ []) [] old.order one.order old.keeper one.keeper asked one.connections old.keeper.disk
      c.serve_sent.ensures.honest.0 first second.2 in (
        second.0,
        no_ok _ (HasAnswer world second.0 request) c.from_residual.result c.from_residual.ensures.1,
        subst (λ (said : List Event). Follows world second.0 (Sent 0 request ∷ said) one.order one.keeper (disk.faults one.keeper.disk) one.connections (Trusts trusted (disk.honest one.keeper.disk))
            (disk.state old.keeper.disk) (disk.state one.keeper.disk)) (sym (said_err _ c.from_residual.result c.from_residual.ensures.1)) so_far,
        if_error (λ refusal. HasCause refusal world second.0) c.in_err-serve_sent.field-0.0 c.from_residual.result c.from_residual.ensures.1
            (cause_behind c.in_err-serve_sent.field-0.0 world sent_world second.0 first.steps first.leads.run second.3),
      );
}

pub returns-then-disconnects : goal.returns-then-disconnects
returns-then-disconnects g c = record {
  group = c.serve_sent.ensures.group;
  extent = c.serve_sent.ensures.extent;
  honest = c.serve_sent.ensures.honest;
  early = tt;
  kind = sym (ap (λ (h : RequestHead). h.kind) c.head.ensures) ∙ c.if-disconnects.true;
  world = λ world trusted of idle plain_flags frames.
      let disk = g.D.Disk in
      let old = c.args.self.now in
      let request = c.args.request in
      let one = c.serve_sent.new.self in
      let asked = c.send-sent.new.self in
      let sent_world = sent Nothing world 0 request in
      let sends = c.leads_law.ensures.sends world trusted 0 request old.order old.keeper old.connections idle of in
      let sending = subst (λ (connections : ConnectionsState). Leads world sent_world (Send 0 request ∷ []) old.order old.keeper (disk.faults old.keeper.disk) connections
      (Trusts trusted (disk.honest old.keeper.disk)) (disk.state old.keeper.disk) (disk.state old.keeper.disk)) (sym c.send-sent.ensures.connections) sends in
      let first : Follows world sent_world (Sent 0 request ∷ []) old.order old.keeper (disk.faults old.keeper.disk) asked (Trusts trusted (disk.honest old.keeper.disk)) (disk.state old.keeper.disk) (disk.state old.keeper.disk) =
      record { steps = Send 0 request ∷ []; leads = sending; said_is = spoken_on world.log (Sent 0 request ∷ []); setting = refl } in
      let second = c.serve_sent.ensures.world sent_world trusted request sending.of_export refl c.few_bytes.ensures frames in
      let so_far = follows_on disk.state disk.faults disk.honest c.leads_law.ensures world sent_world second.0 trusted (Sent 0 request ∷ []) [] old.order one.order old.keeper one.keeper asked one.connections old.keeper.disk
      c.serve_sent.ensures.honest.0 first second.2 in
      (second.0, sym (ap (λ (h : RequestHead). h.kind) c.head.ensures) ∙ c.if-disconnects.true, so_far, tt);
}

pub returns-in_err-answer : goal.returns-in_err-answer
returns-in_err-answer g c = record {
  group = c.answer.ensures.group;
  extent = c.answer.ensures.extent ∙ c.serve_sent.ensures.extent;
  honest = (λ is. c.serve_sent.ensures.honest.0 (c.answer.ensures.honest.0 is), λ is. c.answer.ensures.honest.1 (c.serve_sent.ensures.honest.1 is));
  early = if_error IsOfExport c.in_err-answer.field-0.0 c.from_residual-in_err-answer.result c.from_residual-in_err-answer.ensures.1 c.in_err-answer.ensures.early;
  kind = no_ok _ (IsOfKind c.args.request) c.from_residual-in_err-answer.result c.from_residual-in_err-answer.ensures.1;
  world = λ world trusted of idle plain_flags frames.
      let disk = g.D.Disk in
      let old = c.args.self.now in
      let request = c.args.request in
      let one = c.serve_sent.new.self in
      let asked = c.send-sent.new.self in
      let sent_world = sent Nothing world 0 request in
      let sends = c.leads_law.ensures.sends world trusted 0 request old.order old.keeper old.connections idle of in
      let sending = subst (λ (connections : ConnectionsState). Leads world sent_world (Send 0 request ∷ []) old.order old.keeper (disk.faults old.keeper.disk) connections
      (Trusts trusted (disk.honest old.keeper.disk)) (disk.state old.keeper.disk) (disk.state old.keeper.disk)) (sym c.send-sent.ensures.connections) sends in
      let first : Follows world sent_world (Sent 0 request ∷ []) old.order old.keeper (disk.faults old.keeper.disk) asked (Trusts trusted (disk.honest old.keeper.disk)) (disk.state old.keeper.disk) (disk.state old.keeper.disk) =
      record { steps = Send 0 request ∷ []; leads = sending; said_is = spoken_on world.log (Sent 0 request ∷ []); setting = refl } in
      let second = c.in_ok-serve_sent.ensures.world sent_world trusted request sending.of_export refl c.few_bytes.ensures frames in
      let so_far = follows_on disk.state disk.faults disk.honest c.leads_law.ensures world sent_world second.0 trusted (Sent 0 request ∷ []) [] old.order one.order old.keeper one.keeper asked one.connections old.keeper.disk
      c.serve_sent.ensures.honest.0 first second.2 in
      let two = c.answer.new.self in
      let kind : request.head.kind ≡ 2 → ⊥ = λ is. c.if-disconnects.false (ap (λ (h : RequestHead). h.kind) c.head.ensures ∙ is) in
      let awaits = judged_awaits request.head (verdict_on request.head world.stage.setting.geometry world.stage.setting.flags) (second.0.connections 0) second.1
      (λ is. kind (end_kind request.head world.stage.setting.geometry world.stage.setting.flags is)) in
      let third = c.in_err-answer.ensures.world second.0 trusted request.head second.2.leads.of_export awaits in (
        third.0,
        no_ok _ (HasAnswer world third.0 request) c.from_residual-in_err-answer.result c.from_residual-in_err-answer.ensures.1,
        subst (λ (said : List Event). Follows world third.0 (Sent 0 request ∷ said) two.order two.keeper (disk.faults two.keeper.disk) two.connections (Trusts trusted (disk.honest two.keeper.disk))
            (disk.state old.keeper.disk) (disk.state two.keeper.disk)) (sym (said_err _ c.from_residual-in_err-answer.result c.from_residual-in_err-answer.ensures.1))
            (follows_on disk.state disk.faults disk.honest c.leads_law.ensures world second.0 third.0 trusted (Sent 0 request ∷ []) [] one.order two.order one.keeper two.keeper one.connections two.connections old.keeper.disk
            c.answer.ensures.honest.0 so_far third.2),
        if_error (λ refusal. HasCause refusal world third.0) c.in_err-answer.field-0.0 c.from_residual-in_err-answer.result c.from_residual-in_err-answer.ensures.1
            (cause_behind c.in_err-answer.field-0.0 world second.0 third.0 so_far.steps so_far.leads.run third.3),
      );
}

pub returns : goal.returns
returns g c = record {
  group = c.answer.ensures.group;
  extent = c.answer.ensures.extent ∙ c.serve_sent.ensures.extent;
  honest = (λ is. c.serve_sent.ensures.honest.0 (c.answer.ensures.honest.0 is), λ is. c.answer.ensures.honest.1 (c.serve_sent.ensures.honest.1 is));
  early = tt;
  kind = λ is. c.if-disconnects.false (ap (λ (h : RequestHead). h.kind) c.head.ensures ∙ is);
  world = λ world trusted of idle plain_flags frames.
      let disk = g.D.Disk in
      let old = c.args.self.now in
      let request = c.args.request in
      let one = c.serve_sent.new.self in
      let asked = c.send-sent.new.self in
      let sent_world = sent Nothing world 0 request in
      let sends = c.leads_law.ensures.sends world trusted 0 request old.order old.keeper old.connections idle of in
      let sending = subst (λ (connections : ConnectionsState). Leads world sent_world (Send 0 request ∷ []) old.order old.keeper (disk.faults old.keeper.disk) connections
      (Trusts trusted (disk.honest old.keeper.disk)) (disk.state old.keeper.disk) (disk.state old.keeper.disk)) (sym c.send-sent.ensures.connections) sends in
      let first : Follows world sent_world (Sent 0 request ∷ []) old.order old.keeper (disk.faults old.keeper.disk) asked (Trusts trusted (disk.honest old.keeper.disk)) (disk.state old.keeper.disk) (disk.state old.keeper.disk) =
      record { steps = Send 0 request ∷ []; leads = sending; said_is = spoken_on world.log (Sent 0 request ∷ []); setting = refl } in
      let second = c.in_ok-serve_sent.ensures.world sent_world trusted request sending.of_export refl c.few_bytes.ensures frames in
      let so_far = follows_on disk.state disk.faults disk.honest c.leads_law.ensures world sent_world second.0 trusted (Sent 0 request ∷ []) [] old.order one.order old.keeper one.keeper asked one.connections old.keeper.disk
      c.serve_sent.ensures.honest.0 first second.2 in
      let two = c.answer.new.self in
      let kind : request.head.kind ≡ 2 → ⊥ = λ is. c.if-disconnects.false (ap (λ (h : RequestHead). h.kind) c.head.ensures ∙ is) in
      let awaits = judged_awaits request.head (verdict_on request.head world.stage.setting.geometry world.stage.setting.flags) (second.0.connections 0) second.1
      (λ is. kind (end_kind request.head world.stage.setting.geometry world.stage.setting.flags is)) in
      let third = c.in_ok-answer.ensures.world second.0 trusted request.head second.2.leads.of_export awaits in
      let answer = c.in_ok-answer.field-0 in (
        third.0,
        has_answer world third.0 request answer (second.0.connections 0) kind plain_flags second.1 awaits third.1.1 third.1.0,
        follows_on disk.state disk.faults disk.honest c.leads_law.ensures world second.0 third.0 trusted (Sent 0 request ∷ []) (Answered 0 answer ∷ []) one.order two.order one.keeper two.keeper one.connections two.connections old.keeper.disk
            c.answer.ensures.honest.0 so_far third.2,
        tt,
      );
}
