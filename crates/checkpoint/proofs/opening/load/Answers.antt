use Rattle.std.proofs.Common.{◌≡◌, ◌<◌, inl, inr, ⊎_elim, ℕ, List, refl, rules, sym, ◌∙◌, ap, subst}
use Rattle.image_model.specs.Geometry.{device_bytes_of}
use Rattle.checkpoint.specs.inner.Recovery.{IsBegun}
use Rattle.checkpoint.specs.Keeper.{AreSized}
use Rattle.checkpoint.specs.declared.fault.KeeperFault.TheVariants.{DeviceFault}
use Rattle.checkpoint.proofs.ExcludedRefusals.{err_same, ok_apart}
use Rattle.checkpoint.proofs.AreasReadInTurn.{placed_sized}
use Rattle.checkpoint.proofs.HeaderChangeRemembers.{counted_read, sized_read, uncopied_behind}
use Rattle.device_image.specs.Keeper.{PlanState, last_turned, phase_of, turned_of}
use Rattle.device_image.specs.Stands.{last_area}
use Rattle.device_image.specs.laws.Frame.{last_inside}
use Rattle.checkpoint.proofs.OpeningKeepsImage.{opened_image, opened_keeps, uncopied_begun}
use Rattle.checkpoint.proofs.opening.load.Goals as goal

pub returns-in-Ok-clause-found : goal.returns-in-Ok-clause-found
returns-in-Ok-clause-found g c honest =
    let call = c.in-Ok.ensures in
    let opened = call.read honest in
    let read = c.in-Ok.field-0 in
    let state = g.D.Disk.state c.read_device.new.disk in
    let sound = g.met.D.Disk.sound c.read_device.new.disk (call.honest.1 honest) in
    let fits : read.header.base < 18446744073709551616 = search rules in (
      opened_image state read.header read.slot read.map read.plans.items read.area opened fits,
      opened_keeps state read.header read.slot read.map read.plans.items read.area opened fits _ sound refl refl refl refl refl refl refl refl c.take_first-plan.ensures.plans refl refl (search rules),
    )

pub returns-in-Ok-clause-first : goal.returns-in-Ok-clause-first
returns-in-Ok-clause-first g c honest = ⊎_elim (λ is. inl is) (λ failed. absurd (ok_apart c.in-Ok.field-0 DeviceFault failed.0)) (c.in-Ok.ensures.first honest)

pub returns-in-Err-clause-first : goal.returns-in-Err-clause-first
returns-in-Err-clause-first g c honest =
    ⊎_elim (λ is. inl is) (λ failed. inr (err_same failed.0, failed.1, c.in-Err.ensures.any_moment honest)) (c.in-Err.ensures.first honest)

pub returns-in-Ok-clause-begun : goal.returns-in-Ok-clause-begun
returns-in-Ok-clause-begun g c = subst (λ (plans : List PlanState). IsBegun (phase_of plans)) (sym c.take_first-plan.ensures.plans) (uncopied_begun _ c.in-Ok.ensures.uncopied)

pub invariant_of-result : goal.invariant_of-result
invariant_of-result g c =
    let call = c.in-Ok.ensures in
    let read = c.in-Ok.field-0 in
    let taken = c.take_first-plan in
    let extent = g.D.Disk.extent c.read_device.new.disk in
    let same : g.D.Disk.extent c.args.disk ≡ extent = sym call.extent in
    let sized = subst (λ (e : ℕ). AreSized read.plans.items read.header.geometry e) same call.sized in
    let waits = sized_read taken.result read.plans.items taken.new.waiting.items read.header.geometry extent read.header.before_last taken.ensures.plans taken.ensures.none sized call.many in
    let size : extent ≡ device_bytes_of read.header.geometry.blocks read.header.geometry.area = call.extent ∙ call.whole in
    let fits : read.header.base < 18446744073709551616 = search rules in (
      size,
      call.blocks,
      waits.first,
      waits.behind,
      waits.none,
      waits.many,
      placed_sized read.area read.header.geometry (last_area read.header) extent call.placed (last_inside read.header) size,
      search rules,
      λ none. (
        (call.none none).0,
        counted_read read.header.base read.area.next _ read.plans.items fits (call.none none).1 (search rules)
            ∙ ap (λ (plans : List PlanState). last_turned read.header.base (turned_of plans)) (sym taken.ensures.plans),
      ),
      uncopied_behind taken.result read.plans.items taken.new.waiting.items taken.ensures.plans taken.ensures.none call.uncopied,
    )
