use Rattle.std.proofs.Common.{◌∙◌, true, ap, sym}
use Rattle.image_model.specs.declared.geometry.Geometry.{Geometry}
use Rattle.std.proofs.Math.Logic.{∥∥₁_map}
use Rattle.order_book.specs.Order.{IsInHand}
use Rattle.script_runner.proofs.Lives.{some_has}
use Rattle.script_runner.proofs.life.Life.step.Goals as goal

pub invariant_of-self : goal.invariant_of-self
invariant_of-self g c = record {
  in_hand = some_has (IsInHand c.rehearse-ran.new.order) c.rehearse-ran.new.bench.connections.group c.rehearse-ran.ensures.group;
  blocks = c.rehearse-ran.ensures.blocks ∙ c.args.self.now.blocks ∙ sym (ap (λ (geometry : Geometry). geometry.blocks) c.rehearse-ran.ensures.geometry);
  of_world = ∥∥₁_map c.args.self.now.of_world (λ is honest.
      let (world, of) = is (c.rehearse-ran.ensures.honest.0 honest) in
      let ran = c.rehearse-ran.ensures.world world true of in
      (ran.0, ran.4.of_world));
}

pub returns-in-Ok-clause-world : goal.returns-in-Ok-clause-world
returns-in-Ok-clause-world g c = λ honest world of.
    let ran = c.rehearse-ran.ensures.world world true of in
    (ran.0, ran.1, rw c.from_ref.ensures.value at ran.4)

pub returns-clause-world : goal.returns-clause-world
returns-clause-world g c = λ honest world of.
    let ran = c.rehearse-ran.ensures.world world true of in
    (ran.0, ran.1, rw c.from_ref.ensures.value at ran.4)
