use Rattle.std.proofs.Common.{◌≡◌, ◌<◌, ◌+◌, ℕ, suc, List, [], ◌∷◌, ◌++◌, length, if◌then◌else◌, refl, sym, ◌∙◌, ap, subst, arith, length-append}
use Rattle.std.proofs.lemmas.Result.{IfOk-from_err}
use Rattle.image_model.specs.declared.geometry.Geometry.{Geometry}
use Rattle.journal_format.specs.GroupList.{IsDamaged}
use Rattle.journal_format.specs.laws.Chained.{reads_on}
use Rattle.regions.specs.Layout.{areas_in, behind}
use Rattle.device_image.specs.Keeper.{AreUncopied, PlanState, last_turned, turned_of}
use Rattle.device_image.specs.Keeps.{IsPlaced}
use Rattle.device_image.specs.Stands.{area_of, last_area, next_number}
use Rattle.device_image.specs.laws.CheckpointBounds.{uncopied_more}
use Rattle.checkpoint.specs.Keeper.{AreSized, faults_by}
use Rattle.checkpoint.specs.declared.fault.KeeperFault.TheVariants.{NoMemory}
use Rattle.checkpoint.proofs.ExcludedRefusals.{err_given, both_ways}
use Rattle.checkpoint.proofs.AreasReadInTurn.{AreHeldSoFar, all_held, area_damaged, last-push, more_held, next_after, placed_sized, sized_more}
use Rattle.checkpoint.proofs.SyncedReads.{at_refusal, damage_weaker, seen_same, still_synced}
use Rattle.checkpoint.proofs.opening.read_areas.Goals as goal

pub returns-in_err-plan : goal.returns-in_err-plan
returns-in_err-plan g c = record {
  extent = c.in_err-plan.ensures.extent ∙ c.loop-place.invariant.extent;
  faults_ok = IfOk-from_err c.from_residual.result _ c.from_residual.ensures.0;
  faults_err = err_given _ c.from_residual.result c.in_err-plan.field-0.0 c.from_residual.ensures.1 (c.in_err-plan.ensures.faults_err ∙ ap (faults_by c.in_err-plan.field-0.0) c.loop-place.invariant.faults);
  honest = both_ways c.in_err-plan.ensures.honest c.loop-place.invariant.honest;
  placed = IfOk-from_err c.from_residual.result _ c.from_residual.ensures.0;
  none = IfOk-from_err c.from_residual.result _ c.from_residual.ensures.0;
  sized = IfOk-from_err c.from_residual.result _ c.from_residual.ensures.0;
  uncopied = IfOk-from_err c.from_residual.result _ c.from_residual.ensures.0;
  many = IfOk-from_err c.from_residual.result _ c.from_residual.ensures.0;
  only_read = λ honest.
      let so_far = c.loop-place.invariant in
      reads_on (g.met.D.Disk.sound c.args.disk.now honest) (so_far.only_read honest) (c.in_err-plan.ensures.only_read (so_far.honest.1 honest));
  read = λ honest synced.
      let header = c.args.header.now in
      let so_far = c.loop-place.invariant in
      let call = c.in_err-plan.ensures in
      let before = g.D.Disk.state c.loop-place.disk in
      let after = g.D.Disk.state c.read_plan.new.disk in
      let mid_honest = so_far.honest.1 honest in
      let mid_synced = still_synced synced (so_far.only_read honest) in
      let read = call.only_read mid_honest in
      let same = seen_same (g.met.D.Disk.sound c.loop-place.disk mid_honest) mid_synced read in
      let index : c.area_after-index.result ≡ behind (areas_in header.geometry) c.loop-place.place header.first_area =
      c.area_after-index.ensures.area ∙ ap (λ (size : Geometry). behind (areas_in size) c.loop-place.place header.first_area) c.from_geometry-regions.ensures in
      at_refusal _ _ _ _ c.from_residual.ensures.1
      (damage_weaker c.in_err-plan.field-0.0
      (λ damaged. area_damaged header c.loop-place.place c.loop-place.plans.items before after c.loop-place.next (so_far.held honest synced) same (still_synced mid_synced read)
      (omega (arith, c.loop-place-test.true)) after.seen refl
      (subst (λ (i : ℕ). IsDamaged (area_of header.geometry i) c.loop-place.next after.seen) index damaged))
      (call.read mid_honest mid_synced));
}

pub returns-in_err-map_err : goal.returns-in_err-map_err
returns-in_err-map_err g c = record {
  extent = c.in_ok-plan.ensures.extent ∙ c.loop-place.invariant.extent;
  faults_ok = IfOk-from_err c.from_residual-in_err-map_err.result _ c.from_residual-in_err-map_err.ensures.0;
  faults_err = err_given _ c.from_residual-in_err-map_err.result NoMemory c.from_residual-in_err-map_err.ensures.1 (c.in_ok-plan.ensures.faults_ok ∙ c.loop-place.invariant.faults);
  honest = both_ways c.in_ok-plan.ensures.honest c.loop-place.invariant.honest;
  placed = IfOk-from_err c.from_residual-in_err-map_err.result _ c.from_residual-in_err-map_err.ensures.0;
  none = IfOk-from_err c.from_residual-in_err-map_err.result _ c.from_residual-in_err-map_err.ensures.0;
  sized = IfOk-from_err c.from_residual-in_err-map_err.result _ c.from_residual-in_err-map_err.ensures.0;
  uncopied = IfOk-from_err c.from_residual-in_err-map_err.result _ c.from_residual-in_err-map_err.ensures.0;
  many = IfOk-from_err c.from_residual-in_err-map_err.result _ c.from_residual-in_err-map_err.ensures.0;
  only_read = λ honest.
      let so_far = c.loop-place.invariant in
      reads_on (g.met.D.Disk.sound c.args.disk.now honest) (so_far.only_read honest) (c.in_ok-plan.ensures.only_read (so_far.honest.1 honest));
  read = λ honest synced. at_refusal _ _ _ NoMemory c.from_residual-in_err-map_err.ensures.1 tt;
}

pub loop-place-preserved : goal.loop-place-preserved
loop-place-preserved g c =
    let header = c.args.header.now in
    let extent = g.D.Disk.extent c.args.disk.now in
    let so_far = c.loop-place.invariant in
    let plans = c.loop-place.plans.items in
    let plan = c.in_ok-plan.plan in
    let call = c.in_ok-plan.ensures in
    let before = g.D.Disk.state c.loop-place.disk in
    let after = g.D.Disk.state c.read_plan.new.disk in
    let now = c.next-next.result in
    let now_is : now ≡ plan.first.next = c.next-next.ensures in
    let pushed : c.push.new.self.items ≡ plans ++ plan ∷ [] = c.push.ensures.items ∙ ap (λ b. if b then plans ++ plan ∷ [] else plans) (sym c.in_ok-map_err.ensures.variant) in
    let index : c.area_after-index.result ≡ behind (areas_in header.geometry) c.loop-place.place header.first_area =
    c.area_after-index.ensures.area ∙ ap (λ (size : Geometry). behind (areas_in size) c.loop-place.place header.first_area) c.from_geometry-regions.ensures in
    let inside = subst (λ (size : Geometry). c.area_after-index.result < areas_in size) c.from_geometry-regions.ensures c.area_after-index.ensures.inside in
    let next_place : suc c.loop-place.place ≡ c.loop-place.place + 1 = omega arith in
    record {
      extent = call.extent ∙ so_far.extent;
      faults = call.faults_ok ∙ so_far.faults;
      honest = (λ honest. so_far.honest.0 (call.honest.0 honest), λ honest. call.honest.1 (so_far.honest.1 honest));
      sized = subst (λ (all : List PlanState). AreSized all header.geometry extent) (sym pushed)
          (sized_more plans plan header.geometry extent so_far.sized (placed_sized plan.first header.geometry c.area_after-index.result extent call.placed inside c.requires));
      uncopied = subst AreUncopied (sym pushed) (uncopied_more plans plan so_far.uncopied call.uncopied);
      many = omega (arith, so_far.many, ap length pushed, length-append plans (plan ∷ []));
      following = next_after plan.first now (omega arith) now_is
          ∙ ap next_number (sym (ap (λ (all : List PlanState). last_turned header.base (turned_of all)) pushed ∙ last-push header.base plans plan));
      only_read = λ honest. reads_on (g.met.D.Disk.sound c.args.disk.now honest) (so_far.only_read honest) (call.only_read (so_far.honest.1 honest));
      held = λ honest synced.
          let mid_honest = so_far.honest.1 honest in
          let mid_synced = still_synced synced (so_far.only_read honest) in
          let read = call.only_read mid_honest in
          let same = seen_same (g.met.D.Disk.sound c.loop-place.disk mid_honest) mid_synced read in
          subst (λ (all : List PlanState). AreHeldSoFar after header (c.loop-place.place + 1) all now) (sym pushed)
          (subst (λ (n : ℕ). AreHeldSoFar after header n (plans ++ plan ∷ []) now) next_place
          (more_held header c.loop-place.place plans before after c.loop-place.next (so_far.held honest synced) same (still_synced mid_synced read) plan now
          (subst (λ (i : ℕ). IsPlaced plan.first header.geometry i) index call.placed) (call.read mid_honest mid_synced) now_is));
    }

pub returns-in_err-area : goal.returns-in_err-area
returns-in_err-area g c = record {
  extent = c.in_err-area.ensures.extent ∙ c.loop-place.invariant.extent;
  faults_ok = IfOk-from_err c.from_residual-in_err-area.result _ c.from_residual-in_err-area.ensures.0;
  faults_err = err_given _ c.from_residual-in_err-area.result c.in_err-area.field-0.0 c.from_residual-in_err-area.ensures.1 (c.in_err-area.ensures.faults_err ∙ ap (faults_by c.in_err-area.field-0.0) c.loop-place.invariant.faults);
  honest = both_ways c.in_err-area.ensures.honest c.loop-place.invariant.honest;
  placed = IfOk-from_err c.from_residual-in_err-area.result _ c.from_residual-in_err-area.ensures.0;
  none = IfOk-from_err c.from_residual-in_err-area.result _ c.from_residual-in_err-area.ensures.0;
  sized = IfOk-from_err c.from_residual-in_err-area.result _ c.from_residual-in_err-area.ensures.0;
  uncopied = IfOk-from_err c.from_residual-in_err-area.result _ c.from_residual-in_err-area.ensures.0;
  many = IfOk-from_err c.from_residual-in_err-area.result _ c.from_residual-in_err-area.ensures.0;
  only_read = λ honest.
      let so_far = c.loop-place.invariant in
      reads_on (g.met.D.Disk.sound c.args.disk.now honest) (so_far.only_read honest) (c.in_err-area.ensures.only_read (so_far.honest.1 honest));
  read = λ honest synced.
      let header = c.args.header.now in
      let so_far = c.loop-place.invariant in
      let call = c.in_err-area.ensures in
      let before = g.D.Disk.state c.loop-place.disk in
      let after = g.D.Disk.state c.read_area.new.disk in
      let mid_honest = so_far.honest.1 honest in
      let mid_synced = still_synced synced (so_far.only_read honest) in
      let read = call.only_read mid_honest in
      let same = seen_same (g.met.D.Disk.sound c.loop-place.disk mid_honest) mid_synced read in
      let place : c.loop-place.place ≡ header.before_last = omega (arith, c.loop-place-test.false) in
      let held = subst (λ (n : ℕ). AreHeldSoFar before header n c.loop-place.plans.items c.loop-place.next) place (so_far.held honest synced) in
      let index : c.area_after-last.result ≡ last_area header =
      c.area_after-last.ensures.area ∙ ap (λ (size : Geometry). behind (areas_in size) header.before_last header.first_area) c.from_geometry-regions.ensures in
      at_refusal _ _ _ _ c.from_residual-in_err-area.ensures.1
      (damage_weaker c.in_err-area.field-0.0
      (λ damaged. area_damaged header header.before_last c.loop-place.plans.items before after c.loop-place.next held same (still_synced mid_synced read) (omega arith) after.seen refl
      (subst (λ (i : ℕ). IsDamaged (area_of header.geometry i) c.loop-place.next after.seen) index damaged))
      (call.read mid_honest mid_synced));
}

pub returns-clause-only_read : goal.returns-clause-only_read
returns-clause-only_read g c honest =
    let so_far = c.loop-place.invariant in
    reads_on (g.met.D.Disk.sound c.args.disk.now honest) (so_far.only_read honest) (c.in_ok-area.ensures.only_read (so_far.honest.1 honest))

pub returns-clause-read : goal.returns-clause-read
returns-clause-read g c honest synced =
    let header = c.args.header.now in
    let so_far = c.loop-place.invariant in
    let call = c.in_ok-area.ensures in
    let before = g.D.Disk.state c.loop-place.disk in
    let after = g.D.Disk.state c.read_area.new.disk in
    let mid_honest = so_far.honest.1 honest in
    let mid_synced = still_synced synced (so_far.only_read honest) in
    let read = call.only_read mid_honest in
    let same = seen_same (g.met.D.Disk.sound c.loop-place.disk mid_honest) mid_synced read in
    let place : c.loop-place.place ≡ header.before_last = omega (arith, c.loop-place-test.false) in
    let held = subst (λ (n : ℕ). AreHeldSoFar before header n c.loop-place.plans.items c.loop-place.next) place (so_far.held honest synced) in
    let index : c.area_after-last.result ≡ last_area header =
    c.area_after-last.ensures.area ∙ ap (λ (size : Geometry). behind (areas_in size) header.before_last header.first_area) c.from_geometry-regions.ensures in
    all_held header c.loop-place.plans.items before after c.loop-place.next held same (still_synced mid_synced read) c.in_ok-area.area
    (subst (λ (i : ℕ). IsPlaced c.in_ok-area.area header.geometry i) index call.placed) (call.read mid_honest mid_synced)

pub returns-clause-extent : goal.returns-clause-extent
returns-clause-extent g c =
    c.in_ok-area.ensures.extent ∙ c.loop-place.invariant.extent

pub returns-clause-honest : goal.returns-clause-honest
returns-clause-honest g c =
    both_ways c.in_ok-area.ensures.honest c.loop-place.invariant.honest

pub returns-clause-faults_ok : goal.returns-clause-faults_ok
returns-clause-faults_ok g c =
    c.in_ok-area.ensures.faults_ok ∙ c.loop-place.invariant.faults

pub returns-clause-sized : goal.returns-clause-sized
returns-clause-sized g c =
    c.loop-place.invariant.sized

pub returns-clause-uncopied : goal.returns-clause-uncopied
returns-clause-uncopied g c =
    c.loop-place.invariant.uncopied

pub returns-clause-faults_err : goal.returns-clause-faults_err
returns-clause-faults_err g c =
    tt

pub returns-clause-none : goal.returns-clause-none
returns-clause-none g c zero =
    let call = c.in_ok-area.ensures.none zero in (call.0, call.1 ∙ c.loop-place.invariant.following)
