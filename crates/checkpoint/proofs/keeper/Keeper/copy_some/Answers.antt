use Rattle.std.proofs.Common.{◌≡◌, ◌⊎◌, ◌<◌, ◌-◌, ◌*◌, ◌≤◌, ℕ, inl, inr, Option, Some, None, true, List, ◌∷◌, length, refl, rules, sym, ◌∙◌, ap, subst, arith}
use Rattle.checkpoint.specs.declared.fault.KeeperFault.TheVariants.{NoMemory, DeviceFault}
use Rattle.std.proofs.lemmas.Result.{IfOk-from_err}
use Rattle.std.specs.Prelude.{IfSome}
use Rattle.std.proofs.lemmas.Bool.{false≢true}
use Rattle.disk_model.specs.Disk.{LeavesOnly}
use Rattle.disk_model.specs.Faults.{counted}
use Rattle.disk_model.specs.laws.Moments.{begins, weakens}
use Rattle.image_model.specs.Geometry.{device_bytes_of}
use Rattle.image_model.specs.declared.command.Kind.{Kind}
use Rattle.image_model.specs.declared.geometry.Geometry.{Geometry}
use Rattle.checkpoint.specs.Keeper.{AreSized, IsSized, faults_by, plans_of, refused_by}
use Rattle.checkpoint.specs.Steps.{IsCopyTime, IsStepFault, copied_by, left_in}
use Rattle.checkpoint.specs.declared.fault.KeeperFault.{KeeperFault}
use Rattle.checkpoint.proofs.ExcludedRefusals.{device_apart, failed-full, failed-not_now, memory_apart, not_now-failed, not_now-full, ok_apart, some_apart, err_given}
use Rattle.device_image.specs.Keeper.{Copying, KeeperState, Memory, Phase, PlanState, last_turned, lefts_of, phase_in, phase_of, turned_of}
use Rattle.device_image.specs.Remembers.{Remembers}
use Rattle.device_image.specs.Keeps.{Keeps}
use Rattle.device_image.specs.Stands.{StandsFor}
use Rattle.device_image.specs.laws.Kept.{kept_content}
use Rattle.checkpoint.specs.Headers.{HasHeader}
use Rattle.checkpoint.proofs.HeaderAfterCrash.{header_left, header_torn}
use Rattle.regions.specs.Layout.{block_at}
use Rattle.checkpoint.proofs.CopyKeepsImage.{copy_held, copy_left}
use Rattle.checkpoint.proofs.keeper.Keeper.copy_some.Goals as goal
use Rattle.device_image.specs.Holds.{Holds}

-- That the bytes are read from the area that the plan copies is searched for: of another place it is found nowhere.
phase_less : (plan : PlanState) (blocks : ℕ) → plan.mapped ≡ None → phase_in (plan.left - blocks) plan.mapped ≡ Copying (left_in (phase_in plan.left plan.mapped) - blocks)
phase_less plan blocks unmapped = subst (λ (m : Option (List Kind)). phase_in (plan.left - blocks) m ≡ Copying (left_in (phase_in plan.left m) - blocks)) (sym unmapped) refl

copy_time : (plan : PlanState) → plan.mapped ≡ None → 0 < plan.left → IsCopyTime (phase_in plan.left plan.mapped)
copy_time plan unmapped some = subst (λ (m : Option (List Kind)). IsCopyTime (phase_in plan.left m)) (sym unmapped) some

pub invariant_of-self-in_default-next_copy : goal.invariant_of-self-in_default-next_copy
invariant_of-self-in_default-next_copy g c =
    let inside = c.self.inside in
    let geometry = inside.header.geometry in
    let base = inside.header.base in
    let waiting = inside.waiting.items in
    let extent = g.D.Disk.extent inside.disk in
    let is = c.self.invariant in
    let some = c.in-Some.is in
    let first : IsSized c.in-Some.plan.first geometry extent = subst (λ (p : Option PlanState). IfSome p (λ f. IsSized f.first geometry extent)) some is.2 in (
      is.0,
      is.1,
      first,
      is.3,
      λ none. absurd (some_apart _ none),
      is.5 ∙ ap (λ (p : Option PlanState). length (plans_of p waiting)) some,
      is.6,
      is.7,
      λ none. ((is.8 none).0, (is.8 none).1 ∙ ap (λ (p : Option PlanState). last_turned base (turned_of (plans_of p waiting))) some),
      is.9,
    )

pub invariant_of-self-in-Err : goal.invariant_of-self-in-Err
invariant_of-self-in-Err g c =
    let inside = c.self.inside in
    let geometry = inside.header.geometry in
    let base = inside.header.base in
    let waiting = inside.waiting.items in
    let extent = g.D.Disk.extent inside.disk in
    let is = c.self.invariant in
    let extents = c.in-Err.ensures.extent in
    let some = c.in-Some.is in
    let first : IsSized c.in-Some.plan.first geometry extent = subst (λ (p : Option PlanState). IfSome p (λ f. IsSized f.first geometry extent)) some is.2 in (
      extents ∙ is.0,
      is.1,
      subst (λ (e : ℕ). IsSized c.in-Some.plan.first geometry e) (sym extents) first,
      subst (λ (e : ℕ). AreSized waiting geometry e) (sym extents) is.3,
      λ none. absurd (some_apart _ none),
      is.5 ∙ ap (λ (p : Option PlanState). length (plans_of p waiting)) some,
      subst (λ (e : ℕ). IsSized inside.area geometry e) (sym extents) is.6,
      is.7,
      λ none. ((is.8 none).0, (is.8 none).1 ∙ ap (λ (p : Option PlanState). last_turned base (turned_of (plans_of p waiting))) some),
      is.9,
    )

pub invariant_of-self-in-Ok : goal.invariant_of-self-in-Ok
invariant_of-self-in-Ok g c =
    let inside = c.self.inside in
    let geometry = inside.header.geometry in
    let base = inside.header.base in
    let waiting = inside.waiting.items in
    let extent = g.D.Disk.extent inside.disk in
    let is = c.self.invariant in
    let extents = c.in-Ok.ensures.extent in
    let some = c.in-Some.is in
    let first : IsSized c.in-Some.plan.first geometry extent = subst (λ (p : Option PlanState). IfSome p (λ f. IsSized f.first geometry extent)) some is.2 in (
      extents ∙ is.0,
      is.1,
      subst (λ (p : PlanState). IsSized p.first geometry (g.D.Disk.extent c.copy_over-done.new.disk)) (sym c.advance.ensures) (subst (λ (e : ℕ). IsSized c.in-Some.plan.first geometry e) (sym extents) first),
      subst (λ (e : ℕ). AreSized waiting geometry e) (sym extents) is.3,
      λ none. absurd (some_apart _ none),
      is.5 ∙ ap (λ (p : Option PlanState). length (plans_of p waiting)) some,
      subst (λ (e : ℕ). IsSized inside.area geometry e) (sym extents) is.6,
      is.7,
      λ none. ((is.8 none).0, (is.8 none).1 ∙ ap (λ (p : Option PlanState). last_turned base (turned_of (plans_of p waiting))) some ∙ ap (λ (p : PlanState). last_turned base (turned_of (p ∷ waiting))) (sym c.advance.ensures)),
      is.9,
    )

pub returns-then-self : goal.returns-then-self
returns-then-self g c =
    let fails = ap (λ (k : KeeperState g.row.D.Denot). k.failed) (sym c.self.view_is) ∙ c.if-self.true in record {
      ok = tt;
      left = tt;
      err = refl;
      failed = (λ _. fails, λ _. refl);
      not_now = (λ is. absurd (failed-not_now is), λ now. absurd (false≢true (sym now.0 ∙ fails)));
      only = tt;
      not_full = failed-full;
      unchanged = inr refl;
      extent = refl;
      faults_ok = tt;
      faults_err = refl;
      honest = (λ trusted. trusted, λ trusted. trusted);
      remembered = λ commands remembers. tt;
      held = λ honest base fronts last holds. tt;
      any_moment = λ honest image number keeps. begins (g.met.D.Disk.sound c.args.self.now.disk honest) (λ content left. kept_content _ _ image number keeps content left);
      header = λ honest image number keeps. begins (g.met.D.Disk.sound c.args.self.now.disk honest) (λ content left. header_left _ _ image number keeps content left);
    }

pub returns-in_default : goal.returns-in_default
returns-in_default g c =
    let works = ap (λ (k : KeeperState g.row.D.Denot). k.failed) (sym c.self.view_is) ∙ c.if-self.false in
    let same = ap (λ (k : KeeperState g.row.D.Denot). k.disk) c.self.view_is in record {
      ok = tt;
      left = tt;
      err = c.self.view_is;
      failed = (λ is. absurd (not_now-failed is), λ fails. absurd (false≢true (sym works ∙ fails)));
      not_now = search rules;
      only = tt;
      not_full = not_now-full;
      unchanged = inr same;
      extent = ap g.D.Disk.extent same;
      faults_ok = tt;
      faults_err = ap g.D.Disk.faults same;
      honest = (λ trusted. subst g.D.Disk.honest same trusted, λ trusted. subst g.D.Disk.honest (sym same) trusted);
      remembered = λ commands remembers. tt;
      held = λ honest base fronts last holds. tt;
      any_moment = λ honest image number keeps.
          subst (λ (disk : g.row.D.Denot). LeavesOnly (g.D.Disk.state c.args.self.now.disk) (g.D.Disk.state disk) (λ content. StandsFor content image number)) (sym same)
          (begins (g.met.D.Disk.sound c.args.self.now.disk honest) (λ content left. kept_content _ _ image number keeps content left));
      header = λ honest image number keeps.
          subst (λ (disk : g.row.D.Denot). LeavesOnly (g.D.Disk.state c.args.self.now.disk) (g.D.Disk.state disk) (HasHeader c.args.self.now.geometry c.args.self.now.generation)) (sym same)
          (begins (g.met.D.Disk.sound c.args.self.now.disk honest) (λ content left. header_left _ _ image number keeps content left));
    }

pub returns-in_default-next_copy : goal.returns-in_default-next_copy
returns-in_default-next_copy g c =
    let inside = c.self.inside in
    let plan = c.in-Some.plan in
    let waiting = inside.waiting.items in
    let made : Option PlanState → KeeperState g.row.D.Denot = λ first. let plans = plans_of first waiting in record {
      disk = inside.disk;
      geometry = inside.header.geometry;
      generation = inside.header.generation;
      count = inside.count;
      base = inside.header.base;
      turned = turned_of plans;
      lefts = lefts_of plans;
      used = inside.area.gate;
      phase = phase_of plans;
      failed = inside.failed;
      memory = record { header = inside.header; slot = inside.slot; map = inside.map; plans = plans; area = inside.area };
    } in
    let works = ap (λ (k : KeeperState g.row.D.Denot). k.failed) (sym c.self.view_is) ∙ c.if-self.false in
    let same = ap (λ (k : KeeperState g.row.D.Denot). k.disk) c.self.view_is in record {
      ok = tt;
      left = tt;
      err = ap made (sym c.in-Some.is) ∙ c.self.view_is;
      failed = (λ is. absurd (not_now-failed is), λ fails. absurd (false≢true (sym works ∙ fails)));
      not_now = search rules;
      only = tt;
      not_full = not_now-full;
      unchanged = inr same;
      extent = ap g.D.Disk.extent same;
      faults_ok = tt;
      faults_err = ap g.D.Disk.faults same;
      honest = (λ trusted. subst g.D.Disk.honest same trusted, λ trusted. subst g.D.Disk.honest (sym same) trusted);
      remembered = λ commands remembers. tt;
      held = λ honest base fronts last holds. tt;
      any_moment = λ honest image number keeps.
          subst (λ (disk : g.row.D.Denot). LeavesOnly (g.D.Disk.state c.args.self.now.disk) (g.D.Disk.state disk) (λ content. StandsFor content image number)) (sym same)
          (begins (g.met.D.Disk.sound c.args.self.now.disk honest) (λ content left. kept_content _ _ image number keeps content left));
      header = λ honest image number keeps.
          subst (λ (disk : g.row.D.Denot). LeavesOnly (g.D.Disk.state c.args.self.now.disk) (g.D.Disk.state disk) (HasHeader c.args.self.now.geometry c.args.self.now.generation)) (sym same)
          (begins (g.met.D.Disk.sound c.args.self.now.disk honest) (λ content left. header_left _ _ image number keeps content left));
    }

pub returns-in_err-buffer : goal.returns-in_err-buffer
returns-in_err-buffer g c = record {
  ok = IfOk-from_err c.from_residual.result _ c.from_residual.ensures.0;
  left = IfOk-from_err c.from_residual.result _ c.from_residual.ensures.0;
  err =
      let inside = c.self.inside in
      let plan = c.in-Some.plan in
      let waiting = inside.waiting.items in
      let made : Option PlanState → KeeperState g.row.D.Denot = λ first. let plans = plans_of first waiting in record {
        disk = inside.disk;
        geometry = inside.header.geometry;
        generation = inside.header.generation;
        count = inside.count;
        base = inside.header.base;
        turned = turned_of plans;
        lefts = lefts_of plans;
        used = inside.area.gate;
        phase = phase_of plans;
        failed = inside.failed;
        memory = record { header = inside.header; slot = inside.slot; map = inside.map; plans = plans; area = inside.area };
      } in
      err_given (λ (fault : KeeperFault). made (Some plan) ≡ refused_by fault c.args.self.now inside.disk) c.from_residual.result NoMemory c.from_residual.ensures.1 (ap made (sym c.in-Some.is) ∙ c.self.view_is);
  failed =
      let works = ap (λ (k : KeeperState g.row.D.Denot). k.failed) (sym c.self.view_is) ∙ c.if-self.false in
      (λ is. absurd ((memory_apart c.from_residual.result c.from_residual.ensures.1).failed is), λ fails. absurd (false≢true (sym works ∙ fails)));
  not_now =
      let plan = c.in-Some.plan in
      let phase = ap (λ (p : Option PlanState). phase_of (plans_of p c.self.inside.waiting.items)) (sym c.in-Some.is) ∙ ap (λ (k : KeeperState g.row.D.Denot). k.phase) c.self.view_is in
      let some : 0 < plan.left = omega (arith, c.in-Some-next_copy.ensures.some.some, c.in-Some-next_copy.ensures.some.left) in
      let time : IsCopyTime c.args.self.now.phase = subst IsCopyTime phase (copy_time plan c.in-Some-next_copy.ensures.unmapped some) in
      (λ is. absurd ((memory_apart c.from_residual.result c.from_residual.ensures.1).not_now is), λ none. absurd (none.1 time));
  only = err_given IsStepFault c.from_residual.result NoMemory c.from_residual.ensures.1 tt;
  not_full = λ is. absurd ((memory_apart c.from_residual.result c.from_residual.ensures.1).full is);
  unchanged = err_given (λ (fault : KeeperFault). (fault ≡ DeviceFault) ⊎ (c.self.inside.disk ≡ c.args.self.now.disk)) c.from_residual.result NoMemory c.from_residual.ensures.1 (inr (ap (λ (k : KeeperState g.row.D.Denot). k.disk) c.self.view_is));
  extent = ap (λ (k : KeeperState g.row.D.Denot). g.D.Disk.extent k.disk) c.self.view_is;
  faults_ok = IfOk-from_err c.from_residual.result _ c.from_residual.ensures.0;
  faults_err = err_given (λ (fault : KeeperFault). g.D.Disk.faults c.self.inside.disk ≡ faults_by fault (g.D.Disk.faults c.args.self.now.disk)) c.from_residual.result NoMemory c.from_residual.ensures.1 (ap (λ (k : KeeperState g.row.D.Denot). g.D.Disk.faults k.disk) c.self.view_is);
  honest =
      let same = ap (λ (k : KeeperState g.row.D.Denot). k.disk) c.self.view_is in
      (λ trusted. subst g.D.Disk.honest same trusted, λ trusted. subst g.D.Disk.honest (sym same) trusted);
  remembered = λ commands remembers. IfOk-from_err c.from_residual.result _ c.from_residual.ensures.0;
  held = λ honest base fronts last_commands holds. IfOk-from_err c.from_residual.result _ c.from_residual.ensures.0;
  any_moment = λ honest image number keeps.
      let same = ap (λ (k : KeeperState g.row.D.Denot). k.disk) (sym c.self.view_is) in
      subst (λ (disk : g.row.D.Denot). LeavesOnly (g.D.Disk.state c.args.self.now.disk) (g.D.Disk.state disk) (λ content. StandsFor content image number)) same
      (begins (g.met.D.Disk.sound c.args.self.now.disk honest) (λ content left. kept_content _ _ image number keeps content left));
  header = λ honest image number keeps.
      let same = ap (λ (k : KeeperState g.row.D.Denot). k.disk) (sym c.self.view_is) in
      subst (λ (disk : g.row.D.Denot). LeavesOnly (g.D.Disk.state c.args.self.now.disk) (g.D.Disk.state disk) (HasHeader c.args.self.now.geometry c.args.self.now.generation)) same
      (begins (g.met.D.Disk.sound c.args.self.now.disk honest) (λ content left. header_left _ _ image number keeps content left));
}

pub invariant_of-self-in_err-buffer : goal.invariant_of-self-in_err-buffer
invariant_of-self-in_err-buffer g c =
    let inside = c.self.inside in
    let geometry = inside.header.geometry in
    let base = inside.header.base in
    let waiting = inside.waiting.items in
    let extent = g.D.Disk.extent inside.disk in
    let is = c.self.invariant in
    let some = c.in-Some.is in
    let first : IsSized c.in-Some.plan.first geometry extent = subst (λ (p : Option PlanState). IfSome p (λ f. IsSized f.first geometry extent)) some is.2 in (
      is.0,
      is.1,
      first,
      is.3,
      λ none. absurd (some_apart _ none),
      is.5 ∙ ap (λ (p : Option PlanState). length (plans_of p waiting)) some,
      is.6,
      is.7,
      λ none. ((is.8 none).0, (is.8 none).1 ∙ ap (λ (p : Option PlanState). last_turned base (turned_of (plans_of p waiting))) some),
      is.9,
    )

pub returns-in-Ok : goal.returns-in-Ok
returns-in-Ok g c = record {
  ok =
      let inside = c.self.inside in
      let plan = c.in-Some.plan in
      let waiting = inside.waiting.items in
      let made : Option PlanState → KeeperState g.row.D.Denot = λ first. let plans = plans_of first waiting in record {
        disk = inside.disk;
        geometry = inside.header.geometry;
        generation = inside.header.generation;
        count = inside.count;
        base = inside.header.base;
        turned = turned_of plans;
        lefts = lefts_of plans;
        used = inside.area.gate;
        phase = phase_of plans;
        failed = inside.failed;
        memory = record { header = inside.header; slot = inside.slot; map = inside.map; plans = plans; area = inside.area };
      } in
      let same = ap made (sym c.in-Some.is) ∙ c.self.view_is in
      let put = c.in-Some-next_copy.put in
      let put_is = c.in-Some-next_copy.ensures.some in
      let next = c.advance.new.self in
      let disk = c.copy_over-done.new.disk in
      let memory : Memory = record { header = inside.header; slot = inside.slot; map = inside.map; plans = next ∷ waiting; area = inside.area } in
      let turned = ap (λ (p : PlanState). turned_of (p ∷ waiting)) c.advance.ensures in
      let lefts = ap (λ (p : PlanState). lefts_of (p ∷ waiting)) c.advance.ensures in
      let phase = ap (λ (p : PlanState). phase_of (p ∷ waiting)) c.advance.ensures ∙ phase_less plan put.blocks c.in-Some-next_copy.ensures.unmapped in
      let moved : KeeperState g.row.D.Denot = record {
        disk = disk;
        geometry = inside.header.geometry;
        generation = inside.header.generation;
        count = inside.count;
        base = inside.header.base;
        turned = turned_of (next ∷ waiting);
        lefts = lefts_of (next ∷ waiting);
        used = inside.area.gate;
        phase = phase_of (next ∷ waiting);
        failed = inside.failed;
        memory = memory;
      } in (
        put_is.some,
        put_is.few,
        subst (λ (k : KeeperState g.row.D.Denot). moved ≡ copied_by k put.blocks disk memory) same
            (λ i. record {
              disk = disk;
              geometry = inside.header.geometry;
              generation = inside.header.generation;
              count = inside.count;
              base = inside.header.base;
              turned = turned i;
              lefts = lefts i;
              used = inside.area.gate;
              phase = phase i;
              failed = inside.failed;
              memory = memory;
            }),
      );
  left =
      let plan = c.in-Some.plan in
      let phase = ap (λ (p : Option PlanState). phase_of (plans_of p c.self.inside.waiting.items)) (sym c.in-Some.is) ∙ ap (λ (k : KeeperState g.row.D.Denot). k.phase) c.self.view_is in
      subst (λ (p : Phase). c.in-Some-next_copy.put.blocks ≤ left_in p) phase
      (subst (λ (m : Option (List Kind)). c.in-Some-next_copy.put.blocks ≤ left_in (phase_in plan.left m)) (sym c.in-Some-next_copy.ensures.unmapped) c.in-Some-next_copy.ensures.some.left);
  err = tt;
  failed =
      let works = ap (λ (k : KeeperState g.row.D.Denot). k.failed) (sym c.self.view_is) ∙ c.if-self.false in
      (λ is. absurd (ok_apart _ _ is), λ fails. absurd (false≢true (sym works ∙ fails)));
  not_now =
      let plan = c.in-Some.plan in
      let phase = ap (λ (p : Option PlanState). phase_of (plans_of p c.self.inside.waiting.items)) (sym c.in-Some.is) ∙ ap (λ (k : KeeperState g.row.D.Denot). k.phase) c.self.view_is in
      let some : 0 < plan.left = omega (arith, c.in-Some-next_copy.ensures.some.some, c.in-Some-next_copy.ensures.some.left) in
      let time : IsCopyTime c.args.self.now.phase = subst IsCopyTime phase (copy_time plan c.in-Some-next_copy.ensures.unmapped some) in
      (λ is. absurd (ok_apart _ _ is), λ none. absurd (none.1 time));
  only = tt;
  not_full = λ is. absurd (ok_apart _ _ is);
  unchanged = tt;
  extent = c.in-Ok.ensures.extent ∙ ap (λ (k : KeeperState g.row.D.Denot). g.D.Disk.extent k.disk) c.self.view_is;
  faults_ok = c.in-Ok.ensures.faults ∙ ap (λ (k : KeeperState g.row.D.Denot). g.D.Disk.faults k.disk) c.self.view_is;
  faults_err = tt;
  honest =
      let honest = c.in-Ok.ensures.honest in (
        λ trusted. subst (λ (k : KeeperState g.row.D.Denot). g.D.Disk.honest k.disk) c.self.view_is (honest.0 trusted),
        λ trusted. honest.1 (subst (λ (k : KeeperState g.row.D.Denot). g.D.Disk.honest k.disk) (sym c.self.view_is) trusted),
      );
  remembered = λ commands remembers.
      let inside = subst (λ (k : KeeperState g.row.D.Denot). Remembers k commands) (sym c.self.view_is) remembers in
      record { takes = inside.takes; noted = inside.noted };
  held = λ honest base fronts last holds.
      let inside = subst (λ (k : KeeperState g.row.D.Denot). Holds k (g.D.Disk.state k.disk) base fronts last) (sym c.self.view_is) holds in
      let sound = subst (λ (k : KeeperState g.row.D.Denot). g.D.Disk.honest k.disk) (sym c.self.view_is) honest in
      let put = c.in-Some-next_copy.put in
      let place : block_at c.from_geometry-regions.result.geometry put.first ≡ block_at inside.keeps.stands.header.geometry put.first = ap (λ (size : Geometry). block_at size put.first) (c.from_geometry-regions.ensures ∙ inside.keeps.sizes) in
      let count : length c.deref_mut.result.now ≡ 4096 * put.blocks = omega (arith, c.deref_mut.ensures.len, c.in_ok-buffer.ensures.len) in
      copy_held _ (g.D.Disk.state c.self.inside.disk) base fronts last inside c.in-Some.plan c.self.inside.waiting.items (ap (λ (p : Option PlanState). plans_of p c.self.inside.waiting.items) c.in-Some.is) put c.args.most c.in-Some-next_copy.ensures.some c.in-Some-next_copy.ensures.unmapped
      (g.D.Disk.state c.copy_over-done.new.disk) _ _ _ _ c.advance.new.self place count (search rules)
      (c.in-Ok.ensures.copied sound inside.keeps.steady) c.advance.ensures refl;
  any_moment = λ honest image number keeps.
      let put = c.in-Some-next_copy.put in
      subst (λ (k : KeeperState g.row.D.Denot). g.D.Disk.honest k.disk → Keeps k (g.D.Disk.state k.disk) image number → LeavesOnly (g.D.Disk.state k.disk) (g.D.Disk.state c.copy_over-done.new.disk) (λ content. StandsFor content image number)) c.self.view_is
      (λ sound inside.
      let place : block_at c.from_geometry-regions.result.geometry put.first ≡ block_at inside.stands.header.geometry put.first = ap (λ (size : Geometry). block_at size put.first) (c.from_geometry-regions.ensures ∙ inside.sizes) in
      let count : length c.deref_mut.result.now ≡ 4096 * put.blocks = omega (arith, c.deref_mut.ensures.len, c.in_ok-buffer.ensures.len) in
      weakens (c.copy_over-done.ensures.any_moment sound)
      (copy_left _ (g.D.Disk.state c.self.inside.disk) image number inside c.in-Some.plan c.self.inside.waiting.items (ap (λ (p : Option PlanState). plans_of p c.self.inside.waiting.items) c.in-Some.is) put c.args.most c.in-Some-next_copy.ensures.some c.in-Some-next_copy.ensures.unmapped _ _ place count))
      honest keeps;
  header = λ honest image number keeps.
      subst (λ (k : KeeperState g.row.D.Denot). g.D.Disk.honest k.disk → Keeps k (g.D.Disk.state k.disk) image number → LeavesOnly (g.D.Disk.state k.disk) (g.D.Disk.state c.copy_over-done.new.disk) (HasHeader k.geometry k.generation)) c.self.view_is
      (λ sound inside. weakens (c.copy_over-done.ensures.any_moment sound) (header_torn _ (g.D.Disk.state c.self.inside.disk) image number inside _ _ (omega arith)))
      honest keeps;
}

pub returns-in-Err : goal.returns-in-Err
returns-in-Err g c = record {
  ok = tt;
  left = tt;
  err =
      let inside = c.self.inside in
      let plan = c.in-Some.plan in
      let waiting = inside.waiting.items in
      let made : Option PlanState → KeeperState g.row.D.Denot = λ first. let plans = plans_of first waiting in record {
        disk = inside.disk;
        geometry = inside.header.geometry;
        generation = inside.header.generation;
        count = inside.count;
        base = inside.header.base;
        turned = turned_of plans;
        lefts = lefts_of plans;
        used = inside.area.gate;
        phase = phase_of plans;
        failed = inside.failed;
        memory = record { header = inside.header; slot = inside.slot; map = inside.map; plans = plans; area = inside.area };
      } in
      let same = ap made (sym c.in-Some.is) ∙ c.self.view_is in
      let disk = c.copy_over-done.new.disk in
      ap (λ (k : KeeperState g.row.D.Denot). let next : KeeperState g.row.D.Denot = record k { disk = disk; failed = true } in next) same ∙ ap (λ (f : KeeperFault). refused_by f c.args.self.now disk) (sym c.from.ensures);
  failed =
      let works = ap (λ (k : KeeperState g.row.D.Denot). k.failed) (sym c.self.view_is) ∙ c.if-self.false in
      (λ is. absurd ((device_apart c.from.result c.from.ensures).failed is), λ fails. absurd (false≢true (sym works ∙ fails)));
  not_now =
      let plan = c.in-Some.plan in
      let phase = ap (λ (p : Option PlanState). phase_of (plans_of p c.self.inside.waiting.items)) (sym c.in-Some.is) ∙ ap (λ (k : KeeperState g.row.D.Denot). k.phase) c.self.view_is in
      let some : 0 < plan.left = omega (arith, c.in-Some-next_copy.ensures.some.some, c.in-Some-next_copy.ensures.some.left) in
      let time : IsCopyTime c.args.self.now.phase = subst IsCopyTime phase (copy_time plan c.in-Some-next_copy.ensures.unmapped some) in
      (λ is. absurd ((device_apart c.from.result c.from.ensures).not_now is), λ none. absurd (none.1 time));
  only = subst IsStepFault (sym c.from.ensures) tt;
  not_full = λ is. absurd ((device_apart c.from.result c.from.ensures).full is);
  unchanged = inl c.from.ensures;
  extent = c.in-Err.ensures.extent ∙ ap (λ (k : KeeperState g.row.D.Denot). g.D.Disk.extent k.disk) c.self.view_is;
  faults_ok = tt;
  faults_err = c.in-Err.ensures.faults ∙ ap (λ (k : KeeperState g.row.D.Denot). counted (g.D.Disk.faults k.disk)) c.self.view_is ∙ ap (λ (f : KeeperFault). faults_by f (g.D.Disk.faults c.args.self.now.disk)) (sym c.from.ensures);
  honest =
      let honest = c.in-Err.ensures.honest in (
        λ trusted. subst (λ (k : KeeperState g.row.D.Denot). g.D.Disk.honest k.disk) c.self.view_is (honest.0 trusted),
        λ trusted. honest.1 (subst (λ (k : KeeperState g.row.D.Denot). g.D.Disk.honest k.disk) (sym c.self.view_is) trusted),
      );
  remembered = λ commands remembers. tt;
  held = λ honest base fronts last holds. tt;
  any_moment = λ honest image number keeps.
      let put = c.in-Some-next_copy.put in
      subst (λ (k : KeeperState g.row.D.Denot). g.D.Disk.honest k.disk → Keeps k (g.D.Disk.state k.disk) image number → LeavesOnly (g.D.Disk.state k.disk) (g.D.Disk.state c.copy_over-done.new.disk) (λ content. StandsFor content image number)) c.self.view_is
      (λ sound inside.
      let place : block_at c.from_geometry-regions.result.geometry put.first ≡ block_at inside.stands.header.geometry put.first = ap (λ (size : Geometry). block_at size put.first) (c.from_geometry-regions.ensures ∙ inside.sizes) in
      let count : length c.deref_mut.result.now ≡ 4096 * put.blocks = omega (arith, c.deref_mut.ensures.len, c.in_ok-buffer.ensures.len) in
      weakens (c.copy_over-done.ensures.any_moment sound)
      (copy_left _ (g.D.Disk.state c.self.inside.disk) image number inside c.in-Some.plan c.self.inside.waiting.items (ap (λ (p : Option PlanState). plans_of p c.self.inside.waiting.items) c.in-Some.is) put c.args.most c.in-Some-next_copy.ensures.some c.in-Some-next_copy.ensures.unmapped _ _ place count))
      honest keeps;
  header = λ honest image number keeps.
      subst (λ (k : KeeperState g.row.D.Denot). g.D.Disk.honest k.disk → Keeps k (g.D.Disk.state k.disk) image number → LeavesOnly (g.D.Disk.state k.disk) (g.D.Disk.state c.copy_over-done.new.disk) (HasHeader k.geometry k.generation)) c.self.view_is
      (λ sound inside. weakens (c.copy_over-done.ensures.any_moment sound) (header_torn _ (g.D.Disk.state c.self.inside.disk) image number inside _ _ (omega arith)))
      honest keeps;
}

pub copy_over-done-requires-clause-device : goal.copy_over-done-requires-clause-device
copy_over-done-requires-clause-device g c =
    c.self.invariant.0 ∙ ap (λ (size : Geometry). device_bytes_of size.blocks size.area) (sym c.from_geometry-regions.ensures)
