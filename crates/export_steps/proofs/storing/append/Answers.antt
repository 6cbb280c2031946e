use Rattle.std.proofs.Common.{◌≡◌, ◌≤◌, ◌<◌, ◌⊎◌, inl, inr, ℕ, Option, Some, None, sym, ◌∙◌, ap, subst, refl}
use Rattle.std.proofs.lemmas.Bool.{cases_lt}
use Rattle.checkpoint.specs.Keeper.{end_after}
use Rattle.journal_format.specs.Group.{Numbered}
use Rattle.order_book.specs.Order.{OrderState}
use Rattle.regions.specs.Layout.{area_size}
use Rattle.export_steps.specs.inner.Steps.{IsAppended}
use Rattle.export_steps.specs.Parts.{IsOrderOf}
use Rattle.export_steps.specs.inner.Storing.{event_of, hand_after, order_after}
use Rattle.export_steps.proofs.AppendStep.{appended, appended_none, appended_refused}
use Rattle.export_steps.proofs.StoringSteps.{not_true_is}
use Rattle.export_model.specs.Serve.{Nothing}
use Rattle.export_model.specs.Step.{append}
use Rattle.export_model.specs.declared.event.Event.{Event}
use Rattle.export_model.specs.declared.event.Event.TheVariants.{Took, Skipped}
use Rattle.export_steps.proofs.storing.append.Goals as goal

none_is : {X : Type 0} (o : Option X) → ((x : X) → o ≡ Some x → ⊥) → o ≡ None
none_is None none = refl
none_is (Some x) none = absurd (none x refl)

pub returns-in_default-clause-world : goal.returns-in_default-clause-world
returns-in_default-clause-world g c = λ world within of kept.
    let order = c.args.order.now in
    let old = c.args.keeper.now in
    let empty : c.args.hand.now ≡ None = none_is c.args.hand.now (λ group is. c.in_default.not-Some group (c.take.ensures.value ∙ is)) in (
      Nothing,
      subst (λ (hand : Option Numbered). IsAppended world (append Nothing world) Skipped order hand old old (g.D.Disk.faults old.disk) (g.D.Disk.honest old.disk) (g.D.Disk.state old.disk) (g.D.Disk.state old.disk))
          (sym c.take.ensures.after)
          (appended_none g.D.Disk.state g.D.Disk.faults g.D.Disk.extent g.D.Disk.honest g.met.D.Disk.sound world order old
          (subst (λ (hand : Option Numbered). IsOrderOf world.stage order hand) empty of) kept),
    )

-- what isn't refused for its size fits
fits : (area end : ℕ) → (area < end → ⊥) → end ≤ area
fits area end not_over = by_case (cases_lt area end)
  where
    by_case : (area < end) ⊎ (end ≤ area) → end ≤ area
    by_case (inl over) = absurd (not_over over)
    by_case (inr within) = within

pub returns-in-Ok-clause-world : goal.returns-in-Ok-clause-world
returns-in-Ok-clause-world g c = λ world within of kept.
    let order = c.args.order.now in
    let old = c.args.keeper.now in
    let new = c.append.new.self in
    let group = c.in-Some.group in
    let has : c.args.hand.now ≡ Some group = sym c.take.ensures.value ∙ c.in-Some.is in
    let works = not_true_is old.failed (λ is. c.in-Ok.ensures.failed.1 is) in
    let fit = fits (area_size old.geometry) (end_after old group) (λ over. c.in-Ok.ensures.full.1 (works, over)) in (
      Nothing,
      subst (λ (hand : Option Numbered). IsAppended world (append Nothing world) Took order hand old new (g.D.Disk.faults new.disk) (g.D.Disk.honest old.disk) (g.D.Disk.state old.disk) (g.D.Disk.state new.disk))
          (sym c.take.ensures.after)
          (appended g.D.Disk.state g.D.Disk.faults g.D.Disk.extent g.D.Disk.honest g.met.D.Disk.sound world order group old within
          (subst (λ (hand : Option Numbered). IsOrderOf world.stage order hand) has of) kept new c.keeper_laws.ensures.left works fit c.in-Ok.ensures.ok c.in-Ok.ensures.faults_ok c.append.ensures.honest.1
          c.in-Ok.ensures.remembered c.in-Ok.ensures.held c.in-Ok.ensures.any_moment),
    )

pub returns-in-Err-clause-world : goal.returns-in-Err-clause-world
returns-in-Err-clause-world g c = λ world within of kept.
    let order = c.args.order.now in
    let old = c.args.keeper.now in
    let new = c.append.new.self in
    let group = c.in-Some.group in
    let refusal = c.in-Err.fault in
    let has : c.args.hand.now ≡ Some group = sym c.take.ensures.value ∙ c.in-Some.is in
    let step = appended_refused g.D.Disk.state g.D.Disk.faults g.D.Disk.extent g.D.Disk.honest g.met.D.Disk.sound world order group old within
    (subst (λ (hand : Option Numbered). IsOrderOf world.stage order hand) has of) kept refusal new c.in-Err.ensures.only c.in-Err.ensures.failed c.in-Err.ensures.full c.in-Err.ensures.out_of_order
    c.in-Err.ensures.err c.in-Err.ensures.faults_err c.append.ensures.honest.1 c.in-Err.ensures.any_moment in
    let same = c.in-Err.ensures.group_back in (
      step.0,
      subst (λ (event : Event). IsAppended world (append step.0 world) event c.give_back.new.order c.give_back.new.hand old new (g.D.Disk.faults new.disk) (g.D.Disk.honest old.disk) (g.D.Disk.state old.disk) (g.D.Disk.state new.disk))
          (sym c.give_back.ensures.event)
          (subst (λ (o : OrderState). IsAppended world (append step.0 world) (event_of refusal) o c.give_back.new.hand old new (g.D.Disk.faults new.disk) (g.D.Disk.honest old.disk) (g.D.Disk.state old.disk) (g.D.Disk.state new.disk))
          (sym (c.give_back.ensures.order ∙ ap (order_after refusal order) same))
          (subst (λ (hand : Option Numbered). IsAppended world (append step.0 world) (event_of refusal) (order_after refusal order group) hand old new (g.D.Disk.faults new.disk) (g.D.Disk.honest old.disk) (g.D.Disk.state old.disk) (g.D.Disk.state new.disk))
          (sym (c.give_back.ensures.hand ∙ ap (hand_after refusal) same)) step.1)),
    )
