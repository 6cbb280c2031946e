use Rattle.std.proofs.Common.{◌≡◌, ◌∷◌, ℕ, ◌<◌, true, inl, inr, refl, rules, sym, ◌∙◌, ap, subst, arith}
use Rattle.std.proofs.lemmas.Bool.{false≢true}
use Rattle.std.specs.Prelude.{IfSome}
use Rattle.disk_model.specs.Disk.{IsSound, LeavesOnly}
use Rattle.disk_model.specs.Faults.{counted}
use Rattle.disk_model.specs.laws.Moments.{begins, weakens}
use Rattle.header_slots.specs.Change.{IsRenewed}
use Rattle.header_slots.specs.declared.change.HeaderChange.{HeaderChange}
use Rattle.image_model.specs.Image.{apply_all}
use Rattle.image_model.specs.Side.{other_of}
use Rattle.device_image.specs.inner.CheckpointHeader.{without_first}
use Rattle.device_image.specs.Holds.{Holds}
use Rattle.device_image.specs.Keeper.{KeeperState, lefts_of, phase_of, turned_of}
use Rattle.device_image.specs.Keeps.{Keeps}
use Rattle.device_image.specs.Stands.{StandsFor}
use Rattle.device_image.specs.laws.Counted.{remembers_still}
use Rattle.device_image.specs.laws.Kept.{kept_content}
use Rattle.checkpoint.specs.Headers.{HasHeaderOrNext}
use Rattle.checkpoint.proofs.HeaderAfterCrash.{header_changes, header_left}
use Rattle.checkpoint.specs.Keeper.{AreSized, IsSized, faults_by, plans_of, refused_by}
use Rattle.checkpoint.specs.declared.fault.KeeperFault.{KeeperFault}
use Rattle.checkpoint.specs.Steps.{IsFinishTime, IsStepFault, finished_by, first_turned}
use Rattle.checkpoint.specs.inner.Steps.{map_after, plans_behind}
use Rattle.checkpoint.proofs.ExcludedRefusals.{device_apart, failed-full, failed-no_memory, failed-not_now, full-failed, full-no_memory, full-not_now, not_now-failed, not_now-full, not_now-no_memory, ok_apart}
use Rattle.checkpoint.proofs.HeaderChangeRemembers.{current_held, ending, finish_held, finish_left, finish_next, in_map, lefts-behind, phase-behind, slots_synced, turned-behind}
use Rattle.checkpoint.proofs.keeper.Keeper.finish.Goals as goal

pub returns-then-self : goal.returns-then-self
returns-then-self g c =
    let fails = ap (λ (k : KeeperState g.row.D.Denot). k.failed) (sym c.self.view_is) ∙ c.if-self.true in record {
      ok = tt;
      err = refl;
      failed = (λ _. fails, λ _. refl);
      not_now = (λ is. absurd (failed-not_now is), λ now. absurd (false≢true (sym now.0 ∙ fails)));
      full = (λ is. absurd (failed-full is), λ now. absurd (false≢true (sym now.0 ∙ fails)));
      memory = failed-no_memory;
      only = tt;
      unchanged = inr refl;
      extent = refl;
      faults_ok = tt;
      faults_err = refl;
      honest = (λ trusted. trusted, λ trusted. trusted);
      remembered = λ commands remembers. tt;
      held = λ honest base first others last holds. tt;
      any_moment = λ honest image number keeps. begins (g.met.D.Disk.sound c.args.self.now.disk honest) (λ content left. kept_content _ _ image number keeps content left);
      header = λ honest image number keeps. begins (g.met.D.Disk.sound c.args.self.now.disk honest) (λ content left. inl (header_left _ _ image number keeps content left));
    }

pub returns-in_default : goal.returns-in_default
returns-in_default g c =
    let works = ap (λ (k : KeeperState g.row.D.Denot). k.failed) (sym c.self.view_is) ∙ c.if-self.false in record {
      ok = tt;
      err = refl;
      failed = (λ is. absurd (not_now-failed is), λ fails. absurd (false≢true (sym works ∙ fails)));
      not_now = (λ _. (works, c.in_default.ensures.none), λ _. refl);
      full = (λ is. absurd (not_now-full is), λ now. absurd (c.in_default.ensures.none now.1));
      memory = not_now-no_memory;
      only = tt;
      unchanged = inr refl;
      extent = refl;
      faults_ok = tt;
      faults_err = refl;
      honest = (λ trusted. trusted, λ trusted. trusted);
      remembered = λ commands remembers. tt;
      held = λ honest base first others last holds. tt;
      any_moment = λ honest image number keeps. begins (g.met.D.Disk.sound c.args.self.now.disk honest) (λ content left. kept_content _ _ image number keeps content left);
      header = λ honest image number keeps. begins (g.met.D.Disk.sound c.args.self.now.disk honest) (λ content left. inl (header_left _ _ image number keeps content left));
    }

pub returns-in_default-next : goal.returns-in_default-next
returns-in_default-next g c =
    let works = ap (λ (k : KeeperState g.row.D.Denot). k.failed) (sym c.self.view_is) ∙ c.if-self.false in
    let time = c.in-Some.ensures.some.0 in record {
      ok = tt;
      err = refl;
      failed = (λ is. absurd (full-failed is), λ fails. absurd (false≢true (sym works ∙ fails)));
      not_now = (λ is. absurd (full-not_now is), λ now. absurd (now.1 time));
      full = (λ _. (works, time, ap (λ (k : KeeperState g.row.D.Denot). k.generation) (sym c.self.view_is) ∙ c.in_default-next.ensures.none.0 refl), λ _. refl);
      memory = full-no_memory;
      only = tt;
      unchanged = inr refl;
      extent = refl;
      faults_ok = tt;
      faults_err = refl;
      honest = (λ trusted. trusted, λ trusted. trusted);
      remembered = λ commands remembers. tt;
      held = λ honest base first others last holds. tt;
      any_moment = λ honest image number keeps. begins (g.met.D.Disk.sound c.args.self.now.disk honest) (λ content left. kept_content _ _ image number keeps content left);
      header = λ honest image number keeps. begins (g.met.D.Disk.sound c.args.self.now.disk honest) (λ content left. inl (header_left _ _ image number keeps content left));
    }

pub invariant_of-self : goal.invariant_of-self
invariant_of-self g c =
    let inside = c.self.inside in
    let geometry = inside.header.geometry in
    let is = c.self.invariant in
    let extents = c.in-Ok.ensures.extent in (
      extents ∙ is.0,
      is.1,
      subst (λ (e : ℕ). IfSome inside.plan (λ first. IsSized first.first geometry e)) (sym extents) is.2,
      subst (λ (e : ℕ). AreSized inside.waiting.items geometry e) (sym extents) is.3,
      is.4,
      is.5,
      subst (λ (e : ℕ). IsSized inside.area geometry e) (sym extents) is.6,
      is.7,
      is.8,
      is.9,
    )

pub invariant_of-self-in-Err : goal.invariant_of-self-in-Err
invariant_of-self-in-Err g c =
    let inside = c.self.inside in
    let geometry = inside.header.geometry in
    let is = c.self.invariant in
    let extents = c.in-Err.ensures.extent in (
      extents ∙ is.0,
      is.1,
      subst (λ (e : ℕ). IfSome inside.plan (λ first. IsSized first.first geometry e)) (sym extents) is.2,
      subst (λ (e : ℕ). AreSized inside.waiting.items geometry e) (sym extents) is.3,
      is.4,
      is.5,
      subst (λ (e : ℕ). IsSized inside.area geometry e) (sym extents) is.6,
      is.7,
      is.8,
      is.9,
    )

pub returns-in-Ok : goal.returns-in-Ok
returns-in-Ok g c =
    let works = ap (λ (k : KeeperState g.row.D.Denot). k.failed) (sym c.self.view_is) ∙ c.if-self.false in
    let same = ap (λ (k : KeeperState g.row.D.Denot). k.disk) c.take_over.ensures in record {
      ok =
          let inside = c.self.inside in
          let plans = plans_of inside.plan inside.waiting.items in
          let header = c.in-Some-next.header in
          let header_is : IsRenewed inside.header (without_first inside.header c.in-Some.base) header =
          subst (λ (change : HeaderChange). IsRenewed inside.header change header)
          (c.without_first.ensures.change ∙ ap (λ (k : KeeperState g.row.D.Denot). without_first k.memory.header c.in-Some.base) (sym c.self.view_is)) c.in-Some-next.ensures.some in
          let base = header_is.base ∙ c.in-Some.ensures.some.1 ∙ ap (λ (k : KeeperState g.row.D.Denot). first_turned k.base k.turned) (sym c.self.view_is) in
          let turned = turned-behind plans in
          let lefts = lefts-behind plans in
          let phase = phase-behind inside.plan inside.waiting.items c.self.invariant.9 in
          let old : KeeperState g.row.D.Denot = record {
            disk = inside.disk;
            geometry = inside.header.geometry;
            generation = inside.header.generation;
            count = inside.count;
            base = inside.header.base;
            turned = turned_of plans;
            lefts = lefts_of plans;
            used = inside.area.gate;
            phase = phase_of plans;
            failed = inside.failed;
            memory = record { header = inside.header; slot = inside.slot; map = inside.map; plans = plans; area = inside.area };
          } in
          subst (λ (k : KeeperState g.row.D.Denot). c.take_over.new.self ≡ finished_by k c.take_over.new.self.disk c.take_over.new.self.memory) c.self.view_is
          (subst (λ (now : KeeperState g.row.D.Denot). now ≡ finished_by old now.disk now.memory) (sym c.take_over.ensures)
          (λ i. record old {
            disk = c.change_header.new.disk;
            generation = header_is.generation i;
            base = base i;
            turned = turned i;
            lefts = lefts i;
            phase = phase i;
            memory = record old.memory { header = header; slot = other_of inside.slot; map = map_after plans inside.map; plans = plans_behind plans };
          }));
      err = tt;
      failed = (λ is. absurd (ok_apart _ _ is), λ fails. absurd (false≢true (sym works ∙ fails)));
      not_now = (λ is. absurd (ok_apart _ _ is), λ now. absurd (now.1 c.in-Some.ensures.some.0));
      full = search rules;
      memory = ok_apart _ _;
      only = tt;
      unchanged = tt;
      extent = ap g.D.Disk.extent same ∙ c.in-Ok.ensures.extent ∙ ap (λ (k : KeeperState g.row.D.Denot). g.D.Disk.extent k.disk) c.self.view_is;
      faults_ok = ap g.D.Disk.faults same ∙ c.in-Ok.ensures.faults ∙ ap (λ (k : KeeperState g.row.D.Denot). g.D.Disk.faults k.disk) c.self.view_is;
      faults_err = tt;
      honest = (λ trusted. subst (λ (k : KeeperState g.row.D.Denot). g.D.Disk.honest k.disk) c.self.view_is (c.in-Ok.ensures.honest.0 (subst g.D.Disk.honest same trusted)), λ trusted. subst g.D.Disk.honest (sym same) (c.in-Ok.ensures.honest.1 (subst (λ (k : KeeperState g.row.D.Denot). g.D.Disk.honest k.disk) (sym c.self.view_is) trusted)));
      remembered = λ commands remembers.
          remembers_still c.args.self.now _ commands
          (ap (λ (k : KeeperState g.row.D.Denot). k.geometry) c.take_over.ensures ∙ ap (λ (k : KeeperState g.row.D.Denot). k.geometry) c.self.view_is)
          (ap (λ (k : KeeperState g.row.D.Denot). k.memory.area.touched) c.take_over.ensures ∙ ap (λ (k : KeeperState g.row.D.Denot). k.memory.area.touched) c.self.view_is) remembers;
      held = λ honest old_base first others last holds.
          let inside = subst (λ (k : KeeperState g.row.D.Denot). Holds k (g.D.Disk.state k.disk) old_base (first ∷ others) last) (sym c.self.view_is) holds in
          let trusted = subst (λ (k : KeeperState g.row.D.Denot). g.D.Disk.honest k.disk) (sym c.self.view_is) honest in
          let before = g.D.Disk.state c.self.inside.disk in
          let sound = g.met.D.Disk.sound c.self.inside.disk trusted in
          let call = c.in-Ok.ensures in
          let inside_header = c.self.inside.header in
          let plans = plans_of c.self.inside.plan c.self.inside.waiting.items in
          let base = c.in-Some.base in
          let header = c.in-Some-next.header in
          let end = ending plans base inside_header.base c.self.inside.map
          (subst (λ (k : KeeperState g.row.D.Denot). IsFinishTime k.phase) (sym c.self.view_is) c.in-Some.ensures.some.0)
          (c.in-Some.ensures.some.1 ∙ ap (λ (k : KeeperState g.row.D.Denot). first_turned k.base k.turned) (sym c.self.view_is)) in
          let header_is : IsRenewed inside_header (without_first inside_header base) header =
          subst (λ (change : HeaderChange). IsRenewed inside_header change header)
          (c.without_first.ensures.change ∙ ap (λ (k : KeeperState g.row.D.Denot). without_first k.memory.header base) (sym c.self.view_is)) c.in-Some-next.ensures.some in
          let fits : inside_header.base < 18446744073709551616 = omega arith in
          let placed = call.in_place trusted (slots_synced _ before _ _ inside.keeps sound) inside_header (current_held _ before _ _ inside.keeps sound)
          (finish_next _ before _ _ inside.keeps sound end.plan end.rest end.is end.after end.mapped fits header base end.base_at header_is) in
          let later = g.D.Disk.state c.change_header.new.disk in
          let later_sound = subst (λ (e : ℕ). IsSound e later) call.extent (g.met.D.Disk.sound c.change_header.new.disk (call.honest.1 trusted)) in
          let old : KeeperState g.row.D.Denot = record {
            disk = c.self.inside.disk;
            geometry = inside_header.geometry;
            generation = inside_header.generation;
            count = c.self.inside.count;
            base = inside_header.base;
            turned = turned_of plans;
            lefts = lefts_of plans;
            used = c.self.inside.area.gate;
            phase = phase_of plans;
            failed = c.self.inside.failed;
            memory = record { header = inside_header; slot = c.self.inside.slot; map = c.self.inside.map; plans = plans; area = c.self.inside.area };
          } in
          subst (λ (k : KeeperState g.row.D.Denot). Holds k (g.D.Disk.state k.disk) (apply_all first old_base) others last) (sym c.take_over.ensures)
          (finish_held _ before old_base first others last inside sound end.plan end.rest end.is end.after end.mapped fits header base end.base_at header_is later later_sound _ placed
          (in_map old c.change_header.new.disk header (plans_behind plans) end.rest _ end.after (ap plans_behind end.is) end.map_is));
      any_moment = λ honest image number keeps.
          let same = ap (λ (k : KeeperState g.row.D.Denot). k.disk) (sym c.take_over.ensures) in
          subst (λ (disk : g.row.D.Denot). LeavesOnly (g.D.Disk.state c.args.self.now.disk) (g.D.Disk.state disk) (λ content. StandsFor content image number)) same
          (subst (λ (k : KeeperState g.row.D.Denot). g.D.Disk.honest k.disk → Keeps k (g.D.Disk.state k.disk) image number → LeavesOnly (g.D.Disk.state k.disk) (g.D.Disk.state c.change_header.new.disk) (λ content. StandsFor content image number)) c.self.view_is
          (λ trusted inside.
          let before = g.D.Disk.state c.self.inside.disk in
          let sound = g.met.D.Disk.sound c.self.inside.disk trusted in
          let inside_header = c.self.inside.header in
          let plans = plans_of c.self.inside.plan c.self.inside.waiting.items in
          let base = c.in-Some.base in
          let header = c.in-Some-next.header in
          let end = ending plans base inside_header.base c.self.inside.map
          (subst (λ (k : KeeperState g.row.D.Denot). IsFinishTime k.phase) (sym c.self.view_is) c.in-Some.ensures.some.0)
          (c.in-Some.ensures.some.1 ∙ ap (λ (k : KeeperState g.row.D.Denot). first_turned k.base k.turned) (sym c.self.view_is)) in
          let header_is : IsRenewed inside_header (without_first inside_header base) header =
          subst (λ (change : HeaderChange). IsRenewed inside_header change header)
          (c.without_first.ensures.change ∙ ap (λ (k : KeeperState g.row.D.Denot). without_first k.memory.header base) (sym c.self.view_is)) c.in-Some-next.ensures.some in
          let fits : inside_header.base < 18446744073709551616 = omega arith in
          weakens (c.change_header.ensures.any_moment trusted (slots_synced _ before image number inside sound) inside_header (current_held _ before image number inside sound)
          (finish_next _ before image number inside sound end.plan end.rest end.is end.after end.mapped fits header base end.base_at header_is))
          (finish_left _ before image number inside sound end.plan end.rest end.is end.after end.mapped fits header base end.base_at header_is))
          honest keeps);
      header = λ honest image number keeps.
          let same = ap (λ (k : KeeperState g.row.D.Denot). k.disk) (sym c.take_over.ensures) in
          subst (λ (disk : g.row.D.Denot). LeavesOnly (g.D.Disk.state c.args.self.now.disk) (g.D.Disk.state disk) (HasHeaderOrNext c.args.self.now.geometry c.args.self.now.generation)) same
          (subst (λ (k : KeeperState g.row.D.Denot). g.D.Disk.honest k.disk → Keeps k (g.D.Disk.state k.disk) image number → LeavesOnly (g.D.Disk.state k.disk) (g.D.Disk.state c.change_header.new.disk) (HasHeaderOrNext k.geometry k.generation)) c.self.view_is
          (λ trusted inside.
          let before = g.D.Disk.state c.self.inside.disk in
          let sound = g.met.D.Disk.sound c.self.inside.disk trusted in
          let inside_header = c.self.inside.header in
          let plans = plans_of c.self.inside.plan c.self.inside.waiting.items in
          let base = c.in-Some.base in
          let header = c.in-Some-next.header in
          let end = ending plans base inside_header.base c.self.inside.map
          (subst (λ (k : KeeperState g.row.D.Denot). IsFinishTime k.phase) (sym c.self.view_is) c.in-Some.ensures.some.0)
          (c.in-Some.ensures.some.1 ∙ ap (λ (k : KeeperState g.row.D.Denot). first_turned k.base k.turned) (sym c.self.view_is)) in
          let header_is : IsRenewed inside_header (without_first inside_header base) header =
          subst (λ (change : HeaderChange). IsRenewed inside_header change header)
          (c.without_first.ensures.change ∙ ap (λ (k : KeeperState g.row.D.Denot). without_first k.memory.header base) (sym c.self.view_is)) c.in-Some-next.ensures.some in
          let fits : inside_header.base < 18446744073709551616 = omega arith in
          weakens (c.change_header.ensures.any_moment trusted (slots_synced _ before image number inside sound) inside_header (current_held _ before image number inside sound)
          (finish_next _ before image number inside sound end.plan end.rest end.is end.after end.mapped fits header base end.base_at header_is))
          (header_changes _ before image number inside sound header header_is.generation header_is.geometry))
          honest keeps);
    }

pub returns-in-Err : goal.returns-in-Err
returns-in-Err g c =
    let works = ap (λ (k : KeeperState g.row.D.Denot). k.failed) (sym c.self.view_is) ∙ c.if-self.false in
    let other = device_apart c.from.result c.from.ensures in record {
      ok = tt;
      err = ap (λ (k : KeeperState g.row.D.Denot). record k { disk = c.change_header.new.disk; failed = true }) c.self.view_is ∙ ap (λ (f : KeeperFault). refused_by f c.args.self.now c.change_header.new.disk) (sym c.from.ensures);
      failed = (λ is. absurd (other.failed is), λ fails. absurd (false≢true (sym works ∙ fails)));
      not_now = (λ is. absurd (other.not_now is), λ now. absurd (now.1 c.in-Some.ensures.some.0));
      full = search rules;
      memory = search rules;
      only = subst IsStepFault (sym c.from.ensures) tt;
      unchanged = inl c.from.ensures;
      extent = c.in-Err.ensures.extent ∙ ap (λ (k : KeeperState g.row.D.Denot). g.D.Disk.extent k.disk) c.self.view_is;
      faults_ok = tt;
      faults_err = c.in-Err.ensures.faults ∙ ap (λ (k : KeeperState g.row.D.Denot). counted (g.D.Disk.faults k.disk)) c.self.view_is ∙ ap (λ (f : KeeperFault). faults_by f (g.D.Disk.faults c.args.self.now.disk)) (sym c.from.ensures);
      honest = (λ trusted. subst (λ (k : KeeperState g.row.D.Denot). g.D.Disk.honest k.disk) c.self.view_is (c.in-Err.ensures.honest.0 trusted), λ trusted. c.in-Err.ensures.honest.1 (subst (λ (k : KeeperState g.row.D.Denot). g.D.Disk.honest k.disk) (sym c.self.view_is) trusted));
      remembered = λ commands remembers. tt;
      held = λ honest base first others last holds. tt;
      any_moment = λ honest image number keeps.
          subst (λ (k : KeeperState g.row.D.Denot). g.D.Disk.honest k.disk → Keeps k (g.D.Disk.state k.disk) image number → LeavesOnly (g.D.Disk.state k.disk) (g.D.Disk.state c.change_header.new.disk) (λ content. StandsFor content image number)) c.self.view_is
          (λ trusted inside.
          let before = g.D.Disk.state c.self.inside.disk in
          let sound = g.met.D.Disk.sound c.self.inside.disk trusted in
          let inside_header = c.self.inside.header in
          let plans = plans_of c.self.inside.plan c.self.inside.waiting.items in
          let base = c.in-Some.base in
          let header = c.in-Some-next.header in
          let end = ending plans base inside_header.base c.self.inside.map
          (subst (λ (k : KeeperState g.row.D.Denot). IsFinishTime k.phase) (sym c.self.view_is) c.in-Some.ensures.some.0)
          (c.in-Some.ensures.some.1 ∙ ap (λ (k : KeeperState g.row.D.Denot). first_turned k.base k.turned) (sym c.self.view_is)) in
          let header_is : IsRenewed inside_header (without_first inside_header base) header =
          subst (λ (change : HeaderChange). IsRenewed inside_header change header)
          (c.without_first.ensures.change ∙ ap (λ (k : KeeperState g.row.D.Denot). without_first k.memory.header base) (sym c.self.view_is)) c.in-Some-next.ensures.some in
          let fits : inside_header.base < 18446744073709551616 = omega arith in
          weakens (c.change_header.ensures.any_moment trusted (slots_synced _ before image number inside sound) inside_header (current_held _ before image number inside sound)
          (finish_next _ before image number inside sound end.plan end.rest end.is end.after end.mapped fits header base end.base_at header_is))
          (finish_left _ before image number inside sound end.plan end.rest end.is end.after end.mapped fits header base end.base_at header_is))
          honest keeps;
      header = λ honest image number keeps.
          subst (λ (k : KeeperState g.row.D.Denot). g.D.Disk.honest k.disk → Keeps k (g.D.Disk.state k.disk) image number → LeavesOnly (g.D.Disk.state k.disk) (g.D.Disk.state c.change_header.new.disk) (HasHeaderOrNext k.geometry k.generation)) c.self.view_is
          (λ trusted inside.
          let before = g.D.Disk.state c.self.inside.disk in
          let sound = g.met.D.Disk.sound c.self.inside.disk trusted in
          let inside_header = c.self.inside.header in
          let plans = plans_of c.self.inside.plan c.self.inside.waiting.items in
          let base = c.in-Some.base in
          let header = c.in-Some-next.header in
          let end = ending plans base inside_header.base c.self.inside.map
          (subst (λ (k : KeeperState g.row.D.Denot). IsFinishTime k.phase) (sym c.self.view_is) c.in-Some.ensures.some.0)
          (c.in-Some.ensures.some.1 ∙ ap (λ (k : KeeperState g.row.D.Denot). first_turned k.base k.turned) (sym c.self.view_is)) in
          let header_is : IsRenewed inside_header (without_first inside_header base) header =
          subst (λ (change : HeaderChange). IsRenewed inside_header change header)
          (c.without_first.ensures.change ∙ ap (λ (k : KeeperState g.row.D.Denot). without_first k.memory.header base) (sym c.self.view_is)) c.in-Some-next.ensures.some in
          let fits : inside_header.base < 18446744073709551616 = omega arith in
          weakens (c.change_header.ensures.any_moment trusted (slots_synced _ before image number inside sound) inside_header (current_held _ before image number inside sound)
          (finish_next _ before image number inside sound end.plan end.rest end.is end.after end.mapped fits header base end.base_at header_is))
          (header_changes _ before image number inside sound header header_is.generation header_is.geometry))
          honest keeps;
    }
