use Rattle.std.specs.Prelude.{IfSome, is_some}
use Rattle.std.proofs.Common.{◌≡◌, ◌<◌, ℕ, inl, inr, List, Option, Some, None, true, false, length, refl, rules, sym, ◌∙◌, ap, subst, arith, ◌∷◌}
use Rattle.device_image.specs.Remembers.{Remembers}
use Rattle.checkpoint.specs.declared.fault.KeeperFault.TheVariants.{NoMemory}
use Rattle.std.proofs.lemmas.Result.{IfOk-from_err}
use Rattle.std.proofs.lemmas.Bool.{false≢true}
use Rattle.disk_model.specs.Disk.{LeavesOnly, State}
use Rattle.disk_model.specs.Faults.{counted}
use Rattle.disk_model.specs.laws.Moments.{begins, weakens}
use Rattle.image_model.specs.Side.{other_of}
use Rattle.image_model.specs.declared.command.Kind.{Kind}
use Rattle.image_model.specs.declared.geometry.Geometry.{Geometry}
use Rattle.image_model.specs.declared.side.Side.{Side}
use Rattle.header_slots.specs.declared.header.Header.{Header}
use Rattle.checkpoint.specs.Keeper.{AreSized, IsSized, faults_by, plans_of, refused_by}
use Rattle.checkpoint.specs.Steps.{IsMapTime, IsStepFault, mapped_by}
use Rattle.checkpoint.specs.declared.fault.KeeperFault.{KeeperFault}
use Rattle.checkpoint.proofs.ExcludedRefusals.{device_apart, failed-full, failed-not_now, memory_apart, not_now-failed, not_now-full, ok_apart, some_apart, err_given}
use Rattle.device_image.specs.Keeper.{KeeperState, PlanState, Memory, last_turned, lefts_of, phase_in, phase_of, turned_of}
use Rattle.device_image.specs.Keeps.{Keeps}
use Rattle.device_image.specs.Stands.{StandsFor}
use Rattle.device_image.specs.laws.Kept.{kept_content}
use Rattle.checkpoint.specs.Headers.{HasHeader}
use Rattle.checkpoint.proofs.HeaderAfterCrash.{header_left, header_torn}
use Rattle.image_model.specs.Geometry.{map_bytes_of}
use Rattle.regions.specs.Layout.{map_at}
use Rattle.device_image.specs.inner.Copied.{IsMapStored}
use Rattle.checkpoint.proofs.WriteMapKeepsImage.{map_held, map_left}
use Rattle.checkpoint.proofs.keeper.Keeper.write_map.Goals as goal
use Rattle.device_image.specs.Holds.{Holds}

-- That it is the slot which isn't in force is searched for: of another slot it is found nowhere.
place_there : {size geometry : Geometry} {side spare other : Side} → size ≡ geometry → side ≡ spare → spare ≡ other → map_at size side ≡ map_at geometry other
place_there {size} {geometry} {side} sizes same is = ap (λ (s : Geometry). map_at s side) sizes ∙ ap (map_at geometry) (same ∙ is)

stored_there : {before after : State} {size geometry : Geometry} {side spare other : Side} {states : List Kind} → IsMapStored before (map_at size side) size.blocks states after → size ≡ geometry → side ≡ spare → spare ≡ other
    → IsMapStored before (map_at geometry other) geometry.blocks states after
stored_there {before} {after} {size} {geometry} {side} {spare} {other} {states} stored sizes same is =
    subst (λ (s : Side). IsMapStored before (map_at geometry s) geometry.blocks states after) (same ∙ is) (subst (λ (s : Geometry). IsMapStored before (map_at s side) s.blocks states after) sizes stored)

-- when the map's time is, of the checkpoint that is under way
left_over : (left : ℕ) (mapped : Option (List Kind)) → 0 < left → IsMapTime (phase_in left mapped) → ⊥
left_over left None more none = omega (arith, more, none)
left_over left (Some states) more never = never

mapped_before : (left : ℕ) (mapped : Option (List Kind)) → is_some mapped ≡ true → IsMapTime (phase_in left mapped) → ⊥
mapped_before left None is none = false≢true is
mapped_before left (Some states) is never = never

map_due : (left : ℕ) (mapped : Option (List Kind)) → left ≡ 0 → is_some mapped ≡ false → IsMapTime (phase_in left mapped)
map_due left None none is = none
map_due left (Some states) none is = absurd (false≢true (sym is))

pub invariant_of-self-then-left-gt0 : goal.invariant_of-self-then-left-gt0
invariant_of-self-then-left-gt0 g c =
    let inside = c.self.inside in
    let geometry = inside.header.geometry in
    let base = inside.header.base in
    let waiting = inside.waiting.items in
    let extent = g.D.Disk.extent inside.disk in
    let is = c.self.invariant in
    let some = c.in-Some.is in
    let first : IsSized c.in-Some.plan.first geometry extent = subst (λ (p : Option PlanState). IfSome p (λ f. IsSized f.first geometry extent)) some is.2 in (
      is.0,
      is.1,
      first,
      is.3,
      λ none. absurd (some_apart _ none),
      is.5 ∙ ap (λ (p : Option PlanState). length (plans_of p waiting)) some,
      is.6,
      is.7,
      λ none. ((is.8 none).0, (is.8 none).1 ∙ ap (λ (p : Option PlanState). last_turned base (turned_of (plans_of p waiting))) some),
      is.9,
    )

pub invariant_of-self-then-is_mapped : goal.invariant_of-self-then-is_mapped
invariant_of-self-then-is_mapped g c =
    let inside = c.self.inside in
    let geometry = inside.header.geometry in
    let base = inside.header.base in
    let waiting = inside.waiting.items in
    let extent = g.D.Disk.extent inside.disk in
    let is = c.self.invariant in
    let some = c.in-Some.is in
    let first : IsSized c.in-Some.plan.first geometry extent = subst (λ (p : Option PlanState). IfSome p (λ f. IsSized f.first geometry extent)) some is.2 in (
      is.0,
      is.1,
      first,
      is.3,
      λ none. absurd (some_apart _ none),
      is.5 ∙ ap (λ (p : Option PlanState). length (plans_of p waiting)) some,
      is.6,
      is.7,
      λ none. ((is.8 none).0, (is.8 none).1 ∙ ap (λ (p : Option PlanState). last_turned base (turned_of (plans_of p waiting))) some),
      is.9,
    )

pub invariant_of-self-in_err-map : goal.invariant_of-self-in_err-map
invariant_of-self-in_err-map g c =
    let inside = c.self.inside in
    let geometry = inside.header.geometry in
    let base = inside.header.base in
    let waiting = inside.waiting.items in
    let extent = g.D.Disk.extent inside.disk in
    let is = c.self.invariant in
    let some = c.in-Some.is in
    let first : IsSized c.in-Some.plan.first geometry extent = subst (λ (p : Option PlanState). IfSome p (λ f. IsSized f.first geometry extent)) some is.2 in (
      is.0,
      is.1,
      first,
      is.3,
      λ none. absurd (some_apart _ none),
      is.5 ∙ ap (λ (p : Option PlanState). length (plans_of p waiting)) some,
      is.6,
      is.7,
      λ none. ((is.8 none).0, (is.8 none).1 ∙ ap (λ (p : Option PlanState). last_turned base (turned_of (plans_of p waiting))) some),
      is.9,
    )

pub invariant_of-self-in-Err-1 : goal.invariant_of-self-in-Err-1
invariant_of-self-in-Err-1 g c =
    let inside = c.self.inside in
    let geometry = inside.header.geometry in
    let base = inside.header.base in
    let waiting = inside.waiting.items in
    let extent = g.D.Disk.extent inside.disk in
    let is = c.self.invariant in
    let extents = c.in-Err.ensures.extent in
    let some = c.in-Some.is in
    let first : IsSized c.in-Some.plan.first geometry extent = subst (λ (p : Option PlanState). IfSome p (λ f. IsSized f.first geometry extent)) some is.2 in (
      extents ∙ is.0,
      is.1,
      subst (λ (e : ℕ). IsSized c.in-Some.plan.first geometry e) (sym extents) first,
      subst (λ (e : ℕ). AreSized waiting geometry e) (sym extents) is.3,
      λ none. absurd (some_apart _ none),
      is.5 ∙ ap (λ (p : Option PlanState). length (plans_of p waiting)) some,
      subst (λ (e : ℕ). IsSized inside.area geometry e) (sym extents) is.6,
      is.7,
      λ none. ((is.8 none).0, (is.8 none).1 ∙ ap (λ (p : Option PlanState). last_turned base (turned_of (plans_of p waiting))) some),
      is.9,
    )

pub invariant_of-self-in-Ok : goal.invariant_of-self-in-Ok
invariant_of-self-in-Ok g c =
    let inside = c.self.inside in
    let geometry = inside.header.geometry in
    let base = inside.header.base in
    let waiting = inside.waiting.items in
    let extent = g.D.Disk.extent inside.disk in
    let is = c.self.invariant in
    let extents = c.in-Ok.ensures.extent in
    let some = c.in-Some.is in
    let first : IsSized c.in-Some.plan.first geometry extent = subst (λ (p : Option PlanState). IfSome p (λ f. IsSized f.first geometry extent)) some is.2 in (
      extents ∙ is.0,
      is.1,
      subst (λ (p : PlanState). IsSized p.first geometry (g.D.Disk.extent c.store_map.new.disk)) (sym c.set_map.ensures) (subst (λ (e : ℕ). IsSized c.in-Some.plan.first geometry e) (sym extents) first),
      subst (λ (e : ℕ). AreSized waiting geometry e) (sym extents) is.3,
      λ none. absurd (some_apart _ none),
      is.5 ∙ ap (λ (p : Option PlanState). length (plans_of p waiting)) some,
      subst (λ (e : ℕ). IsSized inside.area geometry e) (sym extents) is.6,
      is.7,
      λ none. ((is.8 none).0, (is.8 none).1 ∙ ap (λ (p : Option PlanState). last_turned base (turned_of (plans_of p waiting))) some ∙ ap (λ (p : PlanState). last_turned base (turned_of (p ∷ waiting))) (sym c.set_map.ensures)),
      is.9,
    )

pub returns-then-self : goal.returns-then-self
returns-then-self g c =
    let fails = ap (λ (k : KeeperState g.row.D.Denot). k.failed) (sym c.self.view_is) ∙ c.if-self.true in record {
      ok = tt;
      err = refl;
      failed = (λ _. fails, λ _. refl);
      not_now = (λ is. absurd (failed-not_now is), λ now. absurd (false≢true (sym now.0 ∙ fails)));
      full = failed-full;
      only = tt;
      unchanged = inr refl;
      extent = refl;
      faults_ok = tt;
      faults_err = refl;
      honest = (λ trusted. trusted, λ trusted. trusted);
      remembered = λ commands remembers. tt;
      held = λ honest base fronts last holds. tt;
      any_moment = λ honest image number keeps. begins (g.met.D.Disk.sound c.args.self.now.disk honest) (λ content left. kept_content _ _ image number keeps content left);
      header = λ honest image number keeps. begins (g.met.D.Disk.sound c.args.self.now.disk honest) (λ content left. header_left _ _ image number keeps content left);
    }

pub returns-in_default : goal.returns-in_default
returns-in_default g c =
    let works = ap (λ (k : KeeperState g.row.D.Denot). k.failed) (sym c.self.view_is) ∙ c.if-self.false in
    let same = ap (λ (k : KeeperState g.row.D.Denot). k.disk) c.self.view_is in record {
      ok = tt;
      err = c.self.view_is;
      failed = (λ is. absurd (not_now-failed is), λ fails. absurd (false≢true (sym works ∙ fails)));
      not_now = search rules;
      full = not_now-full;
      only = tt;
      unchanged = inr same;
      extent = ap g.D.Disk.extent same;
      faults_ok = tt;
      faults_err = ap g.D.Disk.faults same;
      honest = (λ trusted. subst g.D.Disk.honest same trusted, λ trusted. subst g.D.Disk.honest (sym same) trusted);
      remembered = λ commands remembers. tt;
      held = λ honest base fronts last holds. tt;
      any_moment = λ honest image number keeps.
          subst (λ (disk : g.row.D.Denot). LeavesOnly (g.D.Disk.state c.args.self.now.disk) (g.D.Disk.state disk) (λ content. StandsFor content image number)) (sym same)
          (begins (g.met.D.Disk.sound c.args.self.now.disk honest) (λ content left. kept_content _ _ image number keeps content left));
      header = λ honest image number keeps.
          subst (λ (disk : g.row.D.Denot). LeavesOnly (g.D.Disk.state c.args.self.now.disk) (g.D.Disk.state disk) (HasHeader c.args.self.now.geometry c.args.self.now.generation)) (sym same)
          (begins (g.met.D.Disk.sound c.args.self.now.disk honest) (λ content left. header_left _ _ image number keeps content left));
    }

pub returns-then-left-gt0 : goal.returns-then-left-gt0
returns-then-left-gt0 g c =
    let works = ap (λ (k : KeeperState g.row.D.Denot). k.failed) (sym c.self.view_is) ∙ c.if-self.false in
    let plan = c.in-Some.plan in
    let phase_is : phase_in plan.left plan.mapped ≡ c.args.self.now.phase = ap (λ (p : Option PlanState). phase_of (plans_of p c.self.inside.waiting.items)) (sym c.in-Some.is) ∙ ap (λ (k : KeeperState g.row.D.Denot). k.phase) c.self.view_is in
    let inside = c.self.inside in
    let made : Option PlanState → KeeperState g.row.D.Denot = λ first. let plans = plans_of first inside.waiting.items in record {
      disk = inside.disk;
      geometry = inside.header.geometry;
      generation = inside.header.generation;
      count = inside.count;
      base = inside.header.base;
      turned = turned_of plans;
      lefts = lefts_of plans;
      used = inside.area.gate;
      phase = phase_of plans;
      failed = inside.failed;
      memory = record { header = inside.header; slot = inside.slot; map = inside.map; plans = plans; area = inside.area };
    } in
    let same = ap (λ (k : KeeperState g.row.D.Denot). k.disk) c.self.view_is in record {
      ok = tt;
      err = ap made (sym c.in-Some.is) ∙ c.self.view_is;
      failed = (λ is. absurd (not_now-failed is), λ fails. absurd (false≢true (sym works ∙ fails)));
      not_now = (λ _. (works, λ time. left_over plan.left plan.mapped (omega (arith, c.if-left-gt0.true, c.left.ensures)) (subst IsMapTime (sym phase_is) time)), λ _. refl);
      full = not_now-full;
      only = tt;
      unchanged = inr same;
      extent = ap g.D.Disk.extent same;
      faults_ok = tt;
      faults_err = ap g.D.Disk.faults same;
      honest = (λ trusted. subst g.D.Disk.honest same trusted, λ trusted. subst g.D.Disk.honest (sym same) trusted);
      remembered = λ commands remembers. tt;
      held = λ honest base fronts last holds. tt;
      any_moment = λ honest image number keeps.
          subst (λ (disk : g.row.D.Denot). LeavesOnly (g.D.Disk.state c.args.self.now.disk) (g.D.Disk.state disk) (λ content. StandsFor content image number)) (sym same)
          (begins (g.met.D.Disk.sound c.args.self.now.disk honest) (λ content left. kept_content _ _ image number keeps content left));
      header = λ honest image number keeps.
          subst (λ (disk : g.row.D.Denot). LeavesOnly (g.D.Disk.state c.args.self.now.disk) (g.D.Disk.state disk) (HasHeader c.args.self.now.geometry c.args.self.now.generation)) (sym same)
          (begins (g.met.D.Disk.sound c.args.self.now.disk honest) (λ content left. header_left _ _ image number keeps content left));
    }

pub returns-then-is_mapped : goal.returns-then-is_mapped
returns-then-is_mapped g c =
    let works = ap (λ (k : KeeperState g.row.D.Denot). k.failed) (sym c.self.view_is) ∙ c.if-self.false in
    let plan = c.in-Some.plan in
    let phase_is : phase_in plan.left plan.mapped ≡ c.args.self.now.phase = ap (λ (p : Option PlanState). phase_of (plans_of p c.self.inside.waiting.items)) (sym c.in-Some.is) ∙ ap (λ (k : KeeperState g.row.D.Denot). k.phase) c.self.view_is in
    let inside = c.self.inside in
    let made : Option PlanState → KeeperState g.row.D.Denot = λ first. let plans = plans_of first inside.waiting.items in record {
      disk = inside.disk;
      geometry = inside.header.geometry;
      generation = inside.header.generation;
      count = inside.count;
      base = inside.header.base;
      turned = turned_of plans;
      lefts = lefts_of plans;
      used = inside.area.gate;
      phase = phase_of plans;
      failed = inside.failed;
      memory = record { header = inside.header; slot = inside.slot; map = inside.map; plans = plans; area = inside.area };
    } in
    let same = ap (λ (k : KeeperState g.row.D.Denot). k.disk) c.self.view_is in record {
      ok = tt;
      err = ap made (sym c.in-Some.is) ∙ c.self.view_is;
      failed = (λ is. absurd (not_now-failed is), λ fails. absurd (false≢true (sym works ∙ fails)));
      not_now = (λ _. (works, λ time. mapped_before plan.left plan.mapped (sym c.is_mapped.ensures ∙ c.if-is_mapped.true) (subst IsMapTime (sym phase_is) time)), λ _. refl);
      full = not_now-full;
      only = tt;
      unchanged = inr same;
      extent = ap g.D.Disk.extent same;
      faults_ok = tt;
      faults_err = ap g.D.Disk.faults same;
      honest = (λ trusted. subst g.D.Disk.honest same trusted, λ trusted. subst g.D.Disk.honest (sym same) trusted);
      remembered = λ commands remembers. tt;
      held = λ honest base fronts last holds. tt;
      any_moment = λ honest image number keeps.
          subst (λ (disk : g.row.D.Denot). LeavesOnly (g.D.Disk.state c.args.self.now.disk) (g.D.Disk.state disk) (λ content. StandsFor content image number)) (sym same)
          (begins (g.met.D.Disk.sound c.args.self.now.disk honest) (λ content left. kept_content _ _ image number keeps content left));
      header = λ honest image number keeps.
          subst (λ (disk : g.row.D.Denot). LeavesOnly (g.D.Disk.state c.args.self.now.disk) (g.D.Disk.state disk) (HasHeader c.args.self.now.geometry c.args.self.now.generation)) (sym same)
          (begins (g.met.D.Disk.sound c.args.self.now.disk honest) (λ content left. header_left _ _ image number keeps content left));
    }

pub returns-in_err-map : goal.returns-in_err-map
returns-in_err-map g c =
    let works = ap (λ (k : KeeperState g.row.D.Denot). k.failed) (sym c.self.view_is) ∙ c.if-self.false in
    let plan = c.in-Some.plan in
    let phase_is : phase_in plan.left plan.mapped ≡ c.args.self.now.phase = ap (λ (p : Option PlanState). phase_of (plans_of p c.self.inside.waiting.items)) (sym c.in-Some.is) ∙ ap (λ (k : KeeperState g.row.D.Denot). k.phase) c.self.view_is in
    let inside = c.self.inside in
    let made : Option PlanState → KeeperState g.row.D.Denot = λ first. let plans = plans_of first inside.waiting.items in record {
      disk = inside.disk;
      geometry = inside.header.geometry;
      generation = inside.header.generation;
      count = inside.count;
      base = inside.header.base;
      turned = turned_of plans;
      lefts = lefts_of plans;
      used = inside.area.gate;
      phase = phase_of plans;
      failed = inside.failed;
      memory = record { header = inside.header; slot = inside.slot; map = inside.map; plans = plans; area = inside.area };
    } in
    let same = ap (λ (k : KeeperState g.row.D.Denot). k.disk) c.self.view_is in
    let other = memory_apart c.from_residual.result c.from_residual.ensures.1 in record {
      ok =
          IfOk-from_err c.from_residual.result _ c.from_residual.ensures.0;
      err = err_given (λ (fault : KeeperFault). made (Some plan) ≡ refused_by fault c.args.self.now inside.disk) c.from_residual.result NoMemory c.from_residual.ensures.1 (ap made (sym c.in-Some.is) ∙ c.self.view_is);
      failed = (λ is. absurd (other.failed is), λ fails. absurd (false≢true (sym works ∙ fails)));
      not_now = (λ is. absurd (other.not_now is), λ due. absurd (due.1 (subst IsMapTime phase_is (map_due plan.left plan.mapped (omega (arith, c.if-left-gt0.false, c.left.ensures)) (sym c.is_mapped.ensures ∙ c.if-is_mapped.false)))));
      full = other.full;
      only =
          err_given IsStepFault c.from_residual.result NoMemory c.from_residual.ensures.1 tt;
      unchanged = err_given _ c.from_residual.result NoMemory c.from_residual.ensures.1 (inr same);
      extent = ap g.D.Disk.extent same;
      faults_ok =
          IfOk-from_err c.from_residual.result _ c.from_residual.ensures.0;
      faults_err = err_given _ c.from_residual.result NoMemory c.from_residual.ensures.1 (ap g.D.Disk.faults same);
      honest = (λ trusted. subst g.D.Disk.honest same trusted, λ trusted. subst g.D.Disk.honest (sym same) trusted);
      remembered = λ commands remembers.
          IfOk-from_err c.from_residual.result _ c.from_residual.ensures.0;
      held = λ honest base fronts last holds.
          IfOk-from_err c.from_residual.result _ c.from_residual.ensures.0;
      any_moment = λ honest image number keeps.
          let same = ap (λ (k : KeeperState g.row.D.Denot). k.disk) (sym c.self.view_is) in
          subst (λ (disk : g.row.D.Denot). LeavesOnly (g.D.Disk.state c.args.self.now.disk) (g.D.Disk.state disk) (λ content. StandsFor content image number)) same
          (begins (g.met.D.Disk.sound c.args.self.now.disk honest) (λ content left. kept_content _ _ image number keeps content left));
      header = λ honest image number keeps.
          let same = ap (λ (k : KeeperState g.row.D.Denot). k.disk) (sym c.self.view_is) in
          subst (λ (disk : g.row.D.Denot). LeavesOnly (g.D.Disk.state c.args.self.now.disk) (g.D.Disk.state disk) (HasHeader c.args.self.now.geometry c.args.self.now.generation)) same
          (begins (g.met.D.Disk.sound c.args.self.now.disk honest) (λ content left. header_left _ _ image number keeps content left));
    }

pub returns-in-Ok : goal.returns-in-Ok
returns-in-Ok g c = record {
  ok =
      let inside = c.self.inside in
      let waiting = inside.waiting.items in
      let made : Option PlanState → KeeperState g.row.D.Denot = λ first. let plans = plans_of first waiting in record {
        disk = inside.disk;
        geometry = inside.header.geometry;
        generation = inside.header.generation;
        count = inside.count;
        base = inside.header.base;
        turned = turned_of plans;
        lefts = lefts_of plans;
        used = inside.area.gate;
        phase = phase_of plans;
        failed = inside.failed;
        memory = record { header = inside.header; slot = inside.slot; map = inside.map; plans = plans; area = inside.area };
      } in
      let same = ap made (sym c.in-Some.is) ∙ c.self.view_is in
      let next = c.set_map.new.self in
      let disk = c.store_map.new.disk in
      let memory : Memory = record { header = inside.header; slot = inside.slot; map = inside.map; plans = next ∷ waiting; area = inside.area } in
      let turned = ap (λ (p : PlanState). turned_of (p ∷ waiting)) c.set_map.ensures in
      let lefts = ap (λ (p : PlanState). lefts_of (p ∷ waiting)) c.set_map.ensures in
      let phase = ap (λ (p : PlanState). phase_of (p ∷ waiting)) c.set_map.ensures in
      let mapped : KeeperState g.row.D.Denot = record {
        disk = disk;
        geometry = inside.header.geometry;
        generation = inside.header.generation;
        count = inside.count;
        base = inside.header.base;
        turned = turned_of (next ∷ waiting);
        lefts = lefts_of (next ∷ waiting);
        used = inside.area.gate;
        phase = phase_of (next ∷ waiting);
        failed = inside.failed;
        memory = memory;
      } in
      subst (λ (k : KeeperState g.row.D.Denot). mapped ≡ mapped_by k disk memory) same
      (λ i. record {
        disk = disk;
        geometry = inside.header.geometry;
        generation = inside.header.generation;
        count = inside.count;
        base = inside.header.base;
        turned = turned i;
        lefts = lefts i;
        used = inside.area.gate;
        phase = phase i;
        failed = inside.failed;
        memory = memory;
      });
  err = tt;
  failed =
      let works = ap (λ (k : KeeperState g.row.D.Denot). k.failed) (sym c.self.view_is) ∙ c.if-self.false in
      (λ is. absurd (ok_apart _ _ is), λ fails. absurd (false≢true (sym works ∙ fails)));
  not_now =
      let plan = c.in-Some.plan in
      let phase_is : phase_in plan.left plan.mapped ≡ c.args.self.now.phase = ap (λ (p : Option PlanState). phase_of (plans_of p c.self.inside.waiting.items)) (sym c.in-Some.is) ∙ ap (λ (k : KeeperState g.row.D.Denot). k.phase) c.self.view_is in
      (λ is. absurd (ok_apart _ _ is), λ due. absurd (due.1 (subst IsMapTime phase_is (map_due plan.left plan.mapped (omega (arith, c.if-left-gt0.false, c.left.ensures)) (sym c.is_mapped.ensures ∙ c.if-is_mapped.false)))));
  full =
      λ is. absurd (ok_apart _ _ is);
  only = tt;
  unchanged = tt;
  extent =
      c.in-Ok.ensures.extent ∙ ap (λ (k : KeeperState g.row.D.Denot). g.D.Disk.extent k.disk) c.self.view_is;
  faults_ok =
      c.in-Ok.ensures.faults ∙ ap (λ (k : KeeperState g.row.D.Denot). g.D.Disk.faults k.disk) c.self.view_is;
  faults_err = tt;
  honest =
      let honest = c.in-Ok.ensures.honest in (
        λ trusted. subst (λ (k : KeeperState g.row.D.Denot). g.D.Disk.honest k.disk) c.self.view_is (honest.0 trusted),
        λ trusted. honest.1 (subst (λ (k : KeeperState g.row.D.Denot). g.D.Disk.honest k.disk) (sym c.self.view_is) trusted),
      );
  remembered = λ commands remembers.
      let inside = subst (λ (k : KeeperState g.row.D.Denot). Remembers k commands) (sym c.self.view_is) remembers in
      record { takes = inside.takes; noted = inside.noted };
  held = λ honest base fronts last holds.
      let inside = subst (λ (k : KeeperState g.row.D.Denot). Holds k (g.D.Disk.state k.disk) base fronts last) (sym c.self.view_is) holds in
      let sound = subst (λ (k : KeeperState g.row.D.Denot). g.D.Disk.honest k.disk) (sym c.self.view_is) honest in
      let call = c.in-Ok.ensures in
      let geometry : c.from_geometry.result.geometry ≡ inside.keeps.stands.header.geometry = c.from_geometry.ensures ∙ inside.keeps.sizes in
      let before = g.D.Disk.state c.self.inside.disk in
      let after = g.D.Disk.state c.store_map.new.disk in
      let stored : IsMapStored before (map_at inside.keeps.stands.header.geometry (other_of inside.keeps.stands.header.map_slot)) inside.keeps.stands.header.geometry.blocks c.in_ok-map.map after =
      stored_there (call.stored sound inside.keeps.steady) geometry (search rules) (ap (λ (h : Header). other_of h.map_slot) inside.keeps.headed) in
      map_held _ before base fronts last inside c.in-Some.plan c.self.inside.waiting.items (ap (λ (p : Option PlanState). plans_of p c.self.inside.waiting.items) c.in-Some.is) (omega (arith, c.if-left-gt0.false, c.left.ensures)) after (g.met.D.Disk.sound c.store_map.new.disk (call.honest.1 sound)) c.in_ok-map.map stored
      c.in_ok-map.ensures _ c.set_map.new.self c.set_map.ensures refl;
  any_moment = λ honest image number keeps.
      subst (λ (k : KeeperState g.row.D.Denot). g.D.Disk.honest k.disk → Keeps k (g.D.Disk.state k.disk) image number → LeavesOnly (g.D.Disk.state k.disk) (g.D.Disk.state c.store_map.new.disk) (λ content. StandsFor content image number)) c.self.view_is
      (λ sound inside.
      let geometry : c.from_geometry.result.geometry ≡ inside.stands.header.geometry = c.from_geometry.ensures ∙ inside.sizes in
      weakens (c.store_map.ensures.any_moment sound)
      (map_left _ (g.D.Disk.state c.self.inside.disk) image number inside _ _ (place_there geometry (search rules) (ap (λ (h : Header). other_of h.map_slot) inside.headed)) (ap (λ (size : Geometry). map_bytes_of size.blocks) geometry)))
      honest keeps;
  header = λ honest image number keeps.
      subst (λ (k : KeeperState g.row.D.Denot). g.D.Disk.honest k.disk → Keeps k (g.D.Disk.state k.disk) image number → LeavesOnly (g.D.Disk.state k.disk) (g.D.Disk.state c.store_map.new.disk) (HasHeader k.geometry k.generation)) c.self.view_is
      (λ sound inside. weakens (c.store_map.ensures.any_moment sound) (header_torn _ (g.D.Disk.state c.self.inside.disk) image number inside _ _ (omega arith)))
      honest keeps;
}

pub returns-in-Err : goal.returns-in-Err
returns-in-Err g c = record {
  ok = tt;
  err =
      let disk = c.store_map.new.disk in
      let inside = c.self.inside in
      let made : Option PlanState → KeeperState g.row.D.Denot = λ first. let plans = plans_of first inside.waiting.items in record {
        disk = disk;
        geometry = inside.header.geometry;
        generation = inside.header.generation;
        count = inside.count;
        base = inside.header.base;
        turned = turned_of plans;
        lefts = lefts_of plans;
        used = inside.area.gate;
        phase = phase_of plans;
        failed = true;
        memory = record { header = inside.header; slot = inside.slot; map = inside.map; plans = plans; area = inside.area };
      } in
      ap made (sym c.in-Some.is) ∙ ap (λ (k : KeeperState g.row.D.Denot). let next : KeeperState g.row.D.Denot = record k { disk = disk; failed = true } in next) c.self.view_is
      ∙ ap (λ (f : KeeperFault). refused_by f c.args.self.now disk) (sym c.from.ensures);
  failed =
      let works = ap (λ (k : KeeperState g.row.D.Denot). k.failed) (sym c.self.view_is) ∙ c.if-self.false in
      (λ is. absurd ((device_apart c.from.result c.from.ensures).failed is), λ fails. absurd (false≢true (sym works ∙ fails)));
  not_now =
      let plan = c.in-Some.plan in
      let phase_is : phase_in plan.left plan.mapped ≡ c.args.self.now.phase = ap (λ (p : Option PlanState). phase_of (plans_of p c.self.inside.waiting.items)) (sym c.in-Some.is) ∙ ap (λ (k : KeeperState g.row.D.Denot). k.phase) c.self.view_is in
      (λ is. absurd ((device_apart c.from.result c.from.ensures).not_now is), λ due. absurd (due.1 (subst IsMapTime phase_is (map_due plan.left plan.mapped (omega (arith, c.if-left-gt0.false, c.left.ensures)) (sym c.is_mapped.ensures ∙ c.if-is_mapped.false)))));
  full =
      λ is. absurd ((device_apart c.from.result c.from.ensures).full is);
  only =
      subst IsStepFault (sym c.from.ensures) tt;
  unchanged =
      inl c.from.ensures;
  extent =
      c.in-Err.ensures.extent ∙ ap (λ (k : KeeperState g.row.D.Denot). g.D.Disk.extent k.disk) c.self.view_is;
  faults_ok = tt;
  faults_err =
      c.in-Err.ensures.faults ∙ ap (λ (k : KeeperState g.row.D.Denot). counted (g.D.Disk.faults k.disk)) c.self.view_is ∙ ap (λ (f : KeeperFault). faults_by f (g.D.Disk.faults c.args.self.now.disk)) (sym c.from.ensures);
  honest =
      let honest = c.in-Err.ensures.honest in (
        λ trusted. subst (λ (k : KeeperState g.row.D.Denot). g.D.Disk.honest k.disk) c.self.view_is (honest.0 trusted),
        λ trusted. honest.1 (subst (λ (k : KeeperState g.row.D.Denot). g.D.Disk.honest k.disk) (sym c.self.view_is) trusted),
      );
  remembered = λ commands remembers. tt;
  held = λ honest base fronts last holds. tt;
  any_moment = λ honest image number keeps.
      subst (λ (k : KeeperState g.row.D.Denot). g.D.Disk.honest k.disk → Keeps k (g.D.Disk.state k.disk) image number → LeavesOnly (g.D.Disk.state k.disk) (g.D.Disk.state c.store_map.new.disk) (λ content. StandsFor content image number)) c.self.view_is
      (λ sound inside.
      let geometry : c.from_geometry.result.geometry ≡ inside.stands.header.geometry = c.from_geometry.ensures ∙ inside.sizes in
      weakens (c.store_map.ensures.any_moment sound)
      (map_left _ (g.D.Disk.state c.self.inside.disk) image number inside _ _ (place_there geometry (search rules) (ap (λ (h : Header). other_of h.map_slot) inside.headed)) (ap (λ (size : Geometry). map_bytes_of size.blocks) geometry)))
      honest keeps;
  header = λ honest image number keeps.
      subst (λ (k : KeeperState g.row.D.Denot). g.D.Disk.honest k.disk → Keeps k (g.D.Disk.state k.disk) image number → LeavesOnly (g.D.Disk.state k.disk) (g.D.Disk.state c.store_map.new.disk) (HasHeader k.geometry k.generation)) c.self.view_is
      (λ sound inside. weakens (c.store_map.ensures.any_moment sound) (header_torn _ (g.D.Disk.state c.self.inside.disk) image number inside _ _ (omega arith)))
      honest keeps;
}
