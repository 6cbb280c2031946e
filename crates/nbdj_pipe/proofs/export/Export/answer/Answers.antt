use Rattle.std.proofs.Common.{◌≡◌, ℕ, List, [], Option, Some, MatchOption, ap, sym, subst, ◌∙◌}
use Rattle.nbd_wire.specs.declared.message.Answer.{Answer}
use Rattle.export_steps.specs.Life.{Trusts}
use Rattle.export_model.specs.declared.connection.Connection.{Connection}
use Rattle.export_model.specs.declared.connection.Connection.TheVariants.{Idle}
use Rattle.export_model.specs.declared.event.Event.{Event}
use Rattle.nbdj_pipe.specs.Causes.{HasCause}
use Rattle.nbdj_pipe.specs.inner.Refusals.{IsOfExport}
use Rattle.nbdj_pipe.specs.inner.Export.{AwaitsAnswer, Follows, IsGiven, IsWaiting, told}
use Rattle.nbdj_pipe.proofs.Causes.{cause_behind, if_error, none_waiting}
use Rattle.nbdj_pipe.proofs.Steps.{follows_on, no_ok, none_is, told_err}
use Rattle.nbdj_pipe.proofs.export.Export.answer.Goals as goal

pub returns-in_err-store_all : goal.returns-in_err-store_all
returns-in_err-store_all g c = record {
  group = c.store_all.ensures.group;
  extent = c.store_all.ensures.extent ∙ c.try_answer.ensures.extent;
  honest = (λ is. c.try_answer.ensures.honest.0 (c.store_all.ensures.honest.0 is), λ is. c.store_all.ensures.honest.1 (c.try_answer.ensures.honest.1 is));
  early = if_error IsOfExport c.in_err-store_all.field-0.0 c.from_residual.result c.from_residual.ensures.1 c.in_err-store_all.ensures.early;
  world = λ world trusted head of awaits.
      let disk = g.D.Disk in
      let one = c.try_answer.new.self in
      let two = c.store_all.new.self in
      let first = c.try_answer.ensures.world world trusted head of awaits in
      let none = none_is c.try_answer.result c.in_default.not-Some in
      let begun = subst (λ (o : Option Answer). MatchOption o ((first.0.connections ≡ world.connections) × IsWaiting world) (λ answer. (first.0.connections 0 ≡ Idle) × IsGiven (world.connections 0) answer)
      × Follows world first.0 (told o) one.order one.keeper (disk.faults one.keeper.disk) one.connections (Trusts trusted (disk.honest one.keeper.disk)) (disk.state c.args.self.now.keeper.disk) (disk.state one.keeper.disk)) none (first.1, first.2) in
      let second = c.in_err-store_all.ensures.world first.0 trusted begun.1.leads.of_export in
      let so_far = follows_on disk.state disk.faults disk.honest c.leads_law.ensures world first.0 second.0 trusted [] [] one.order two.order one.keeper two.keeper one.connections two.connections c.args.self.now.keeper.disk
      c.store_all.ensures.honest.0 begun.1 second.1.follows in (
        second.0,
        no_ok _ (λ (answer : Answer). (second.0.connections 0 ≡ Idle) × IsGiven (world.connections 0) answer) c.from_residual.result c.from_residual.ensures.1,
        subst (λ (said : List Event). Follows world second.0 said two.order two.keeper (disk.faults two.keeper.disk) two.connections (Trusts trusted (disk.honest two.keeper.disk))
            (disk.state c.args.self.now.keeper.disk) (disk.state two.keeper.disk)) (sym (told_err _ c.from_residual.result c.from_residual.ensures.1)) so_far,
        if_error (λ refusal. HasCause refusal world second.0) c.in_err-store_all.field-0.0 c.from_residual.result c.from_residual.ensures.1
            (cause_behind c.in_err-store_all.field-0.0 world first.0 second.0 begun.1.steps begun.1.leads.run second.2),
      );
}

pub returns-in-None : goal.returns-in-None
returns-in-None g c = record {
  group = c.try_answer-2.ensures.group;
  extent = c.try_answer-2.ensures.extent ∙ (c.store_all.ensures.extent ∙ c.try_answer.ensures.extent);
  honest = (λ is. c.try_answer.ensures.honest.0 (c.store_all.ensures.honest.0 (c.try_answer-2.ensures.honest.0 is)), λ is. c.try_answer-2.ensures.honest.1 (c.store_all.ensures.honest.1 (c.try_answer.ensures.honest.1 is)));
  early = tt;
  world = λ world trusted head of awaits.
      let disk = g.D.Disk in
      let one = c.try_answer.new.self in
      let two = c.store_all.new.self in
      let first = c.try_answer.ensures.world world trusted head of awaits in
      let none = none_is c.try_answer.result c.in_default.not-Some in
      let begun = subst (λ (o : Option Answer). MatchOption o ((first.0.connections ≡ world.connections) × IsWaiting world) (λ answer. (first.0.connections 0 ≡ Idle) × IsGiven (world.connections 0) answer)
      × Follows world first.0 (told o) one.order one.keeper (disk.faults one.keeper.disk) one.connections (Trusts trusted (disk.honest one.keeper.disk)) (disk.state c.args.self.now.keeper.disk) (disk.state one.keeper.disk)) none (first.1, first.2) in
      let second = c.store_all.ensures.world first.0 trusted begun.1.leads.of_export in
      let so_far = follows_on disk.state disk.faults disk.honest c.leads_law.ensures world first.0 second.0 trusted [] [] one.order two.order one.keeper two.keeper one.connections two.connections c.args.self.now.keeper.disk
      c.store_all.ensures.honest.0 begun.1 second.1.follows in
      let three = c.try_answer-2.new.self in
      let same = second.1.connections_are ∙ begun.0.0 in
      let third = c.try_answer-2.ensures.world second.0 trusted head second.1.follows.leads.of_export (subst (AwaitsAnswer head) (sym (ap (λ (f : ℕ → Connection). f 0) same)) awaits) in
      let again = subst (λ (o : Option Answer). MatchOption o ((third.0.connections ≡ second.0.connections) × IsWaiting second.0) (λ answer. (third.0.connections 0 ≡ Idle) × IsGiven (second.0.connections 0) answer)
      × Follows second.0 third.0 (told o) three.order three.keeper (disk.faults three.keeper.disk) three.connections (Trusts trusted (disk.honest three.keeper.disk))
      (disk.state two.keeper.disk) (disk.state three.keeper.disk)) c.in-None.is (third.1, third.2) in
      let of = second.1.follows.leads.of_export in (
        third.0,
        tt,
        follows_on disk.state disk.faults disk.honest c.leads_law.ensures world second.0 third.0 trusted [] [] two.order three.order two.keeper three.keeper two.connections three.connections c.args.self.now.keeper.disk
            c.try_answer-2.ensures.honest.0 so_far again.1,
        none_waiting second.0 two.order two.connections (c.schedule_law.ensures.waiting second.0 of.reached 0) of.of_order c.in_ok-store_all.ensures.ok again.0.1,
      );
}

pub returns-in-Some-try_answer : goal.returns-in-Some-try_answer
returns-in-Some-try_answer g c = record {
  group = c.try_answer-2.ensures.group;
  extent = c.try_answer-2.ensures.extent ∙ (c.store_all.ensures.extent ∙ c.try_answer.ensures.extent);
  honest = (λ is. c.try_answer.ensures.honest.0 (c.store_all.ensures.honest.0 (c.try_answer-2.ensures.honest.0 is)), λ is. c.try_answer-2.ensures.honest.1 (c.store_all.ensures.honest.1 (c.try_answer.ensures.honest.1 is)));
  early = tt;
  world = λ world trusted head of awaits.
      let disk = g.D.Disk in
      let one = c.try_answer.new.self in
      let two = c.store_all.new.self in
      let first = c.try_answer.ensures.world world trusted head of awaits in
      let none = none_is c.try_answer.result c.in_default.not-Some in
      let begun = subst (λ (o : Option Answer). MatchOption o ((first.0.connections ≡ world.connections) × IsWaiting world) (λ answer. (first.0.connections 0 ≡ Idle) × IsGiven (world.connections 0) answer)
      × Follows world first.0 (told o) one.order one.keeper (disk.faults one.keeper.disk) one.connections (Trusts trusted (disk.honest one.keeper.disk)) (disk.state c.args.self.now.keeper.disk) (disk.state one.keeper.disk)) none (first.1, first.2) in
      let second = c.store_all.ensures.world first.0 trusted begun.1.leads.of_export in
      let so_far = follows_on disk.state disk.faults disk.honest c.leads_law.ensures world first.0 second.0 trusted [] [] one.order two.order one.keeper two.keeper one.connections two.connections c.args.self.now.keeper.disk
      c.store_all.ensures.honest.0 begun.1 second.1.follows in
      let three = c.try_answer-2.new.self in
      let same = second.1.connections_are ∙ begun.0.0 in
      let third = c.try_answer-2.ensures.world second.0 trusted head second.1.follows.leads.of_export (subst (AwaitsAnswer head) (sym (ap (λ (f : ℕ → Connection). f 0) same)) awaits) in
      let answer = c.in-Some-try_answer.answer in
      let again = subst (λ (o : Option Answer). MatchOption o ((third.0.connections ≡ second.0.connections) × IsWaiting second.0) (λ answer. (third.0.connections 0 ≡ Idle) × IsGiven (second.0.connections 0) answer)
      × Follows second.0 third.0 (told o) three.order three.keeper (disk.faults three.keeper.disk) three.connections (Trusts trusted (disk.honest three.keeper.disk))
      (disk.state two.keeper.disk) (disk.state three.keeper.disk)) c.in-Some-try_answer.is (third.1, third.2) in (
        third.0,
        (again.0.0, subst (λ (s : Connection). IsGiven s answer) (ap (λ (f : ℕ → Connection). f 0) same) again.0.1),
        follows_on disk.state disk.faults disk.honest c.leads_law.ensures world second.0 third.0 trusted [] (told (Some answer)) two.order three.order two.keeper three.keeper two.connections three.connections c.args.self.now.keeper.disk
            c.try_answer-2.ensures.honest.0 so_far again.1,
        tt,
      );
}

pub returns-in-Some : goal.returns-in-Some
returns-in-Some g c = record {
  group = c.try_answer.ensures.group;
  extent = c.try_answer.ensures.extent;
  honest = c.try_answer.ensures.honest;
  early = tt;
  world = λ world trusted head of awaits.
      let disk = g.D.Disk in
      let one = c.try_answer.new.self in
      let first = c.try_answer.ensures.world world trusted head of awaits in
      let given = subst (λ (o : Option Answer). MatchOption o ((first.0.connections ≡ world.connections) × IsWaiting world) (λ answer. (first.0.connections 0 ≡ Idle) × IsGiven (world.connections 0) answer)
      × Follows world first.0 (told o) one.order one.keeper (disk.faults one.keeper.disk) one.connections (Trusts trusted (disk.honest one.keeper.disk)) (disk.state c.args.self.now.keeper.disk) (disk.state one.keeper.disk)) c.in-Some.is (first.1, first.2) in
      (first.0, given.0, given.1, tt);
}
