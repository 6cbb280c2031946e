use Rattle.std.proofs.Common.{◌≡◌, ◌⊎◌, ◌<◌, ◌+◌, ◌%◌, inl, inr, ℕ, zero, suc, false, true, None, Some, List, [], ◌∷◌, ◌++◌, length, refl, sym, ◌∙◌, ap, subst, arith, rules}
use Rattle.std.proofs.lemmas.Result.{IfOk-from_err}
use Rattle.std.specs.FinMap.{len}
use Rattle.std.specs.Bool.{◌==◌}
use Rattle.std.specs.Prelude.{IfErr, IfSome}
use Rattle.std.proofs.lemmas.Bool.{false≢true}
use Rattle.disk_model.specs.Disk.{IsSound, LeavesOnly}
use Rattle.disk_model.specs.Faults.{counted}
use Rattle.disk_model.specs.laws.Moments.{begins, weakens}
use Rattle.header_slots.specs.Change.{IsRenewed}
use Rattle.header_slots.specs.declared.change.HeaderChange.{HeaderChange}
use Rattle.image_model.specs.Dirty.{dirty_blocks}
use Rattle.image_model.specs.Geometry.{device_bytes_of}
use Rattle.image_model.specs.declared.geometry.Geometry.{Geometry}
use Rattle.journal_format.specs.Area.{AreaState}
use Rattle.journal_format.specs.declared.touch.TouchedRange.{TouchedRange}
use Rattle.regions.specs.Layout.{area_at, area_size, areas_in, behind}
use Rattle.device_image.specs.inner.CheckpointHeader.{with_next}
use Rattle.device_image.specs.Holds.{Holds}
use Rattle.device_image.specs.Keeper.{AreUncopied, IsPlanOf, KeeperState, Memory, PlanState, count_puts, last_number, last_turned, lefts_of, phase_of, turned_of}
use Rattle.device_image.specs.Keeps.{Keeps}
use Rattle.device_image.specs.Remembers.{Remembers, TellOf}
use Rattle.device_image.specs.Stands.{StandsFor}
use Rattle.device_image.specs.laws.CheckpointBounds.{plan_left}
use Rattle.device_image.specs.laws.Kept.{kept_content}
use Rattle.checkpoint.specs.Headers.{HasHeaderOrNext}
use Rattle.checkpoint.proofs.HeaderAfterCrash.{header_left, header_turns}
use Rattle.checkpoint.specs.Keeper.{AreSized, IsSized, faults_by, plans_of, refused_by}
use Rattle.checkpoint.specs.Steps.{IsRotateTime, IsStepFault, phase_with, rotated_by}
use Rattle.checkpoint.specs.declared.fault.KeeperFault.{KeeperFault}
use Rattle.checkpoint.specs.declared.fault.KeeperFault.TheVariants.{NoMemory, DeviceFault}
use Rattle.checkpoint.proofs.ExcludedRefusals.{Given, device_apart, err_given, failed-full, failed-not_now, full-failed, full-not_now, memory_apart, not_now-failed, no_memory, ok_apart, some_apart}
use Rattle.checkpoint.proofs.AreasReadInTurn.{last-push}
use Rattle.checkpoint.proofs.HeaderChangeRemembers.{ArePlansSized, added, comes_next, current_held, from_above, last_counted, lefts-push, next_sized, phase-push, rotate_held, rotate_left, rotated_left, sized_after, slots_synced, turned-push, uncopied_after}
use Rattle.checkpoint.proofs.keeper.Keeper.rotate.Goals as goal

above_zero : (n : ℕ) → false ≡ (n == 0) → 0 < n
above_zero zero same = absurd (false≢true same)
above_zero (suc n) same = omega arith

pub invariant_of-self-in-Ok : goal.invariant_of-self-in-Ok
invariant_of-self-in-Ok g c =
    let inside_header = c.self.inside.header in
    let header_is : IsRenewed inside_header (with_next inside_header) c.in-Some.header =
    subst (λ (change : HeaderChange). IsRenewed inside_header change c.in-Some.header) (c.with_next.ensures ∙ ap (λ (k : KeeperState g.row.D.Denot). with_next k.memory.header) (sym c.self.view_is)) c.in-Some.ensures.some in
    let room : inside_header.before_last + 1 < areas_in inside_header.geometry =
    subst (λ (k : KeeperState g.row.D.Denot). k.memory.header.before_last + 1 < areas_in k.memory.header.geometry) (sym c.self.view_is) (c.if-not-has_spare_area.ensures.room refl) in
    let from = c.next_area-next.result.from in
    let from_is : from ≡ area_at inside_header.geometry (behind (areas_in inside_header.geometry) (suc inside_header.before_last) inside_header.first_area) =
    ap (λ (a : AreaState). a.from) c.next_area-next.ensures in
    let old = c.self.inside.plan in
    let new = c.add_plan.new.plan in
    let waiting = c.self.inside.waiting.items in
    let more = c.add_plan.new.waiting.items in
    let last = c.new-last.result in
    let some : IfSome old (λ first. (new ≡ Some first) × (more ≡ waiting ++ last ∷ [])) =
    subst (λ (w : List PlanState). IfSome old (λ first. (new ≡ Some first) × (more ≡ w ++ last ∷ []))) c.reserve.ensures.items c.add_plan.ensures.behind in
    let added_is : plans_of new more ≡ plans_of old waiting ++ last ∷ [] = added old new waiting more last c.add_plan.ensures.first some in
    let last_is : IsPlanOf c.self.inside.area last = c.new-last.ensures in
    let area_is : c.start_area.new.area ≡ record { from = from; bytes = area_size inside_header.geometry; blocks = inside_header.geometry.blocks; next = c.self.inside.area.next; gate = 0; touched = [] } =
    c.in-Ok.ensures.ok
    ∙ ap (λ (a : AreaState). let area : AreaState = record { from = from; bytes = a.bytes; blocks = a.blocks; next = a.next; gate = 0; touched = [] } in area) c.next_area-next.ensures in
    let extent = g.D.Disk.extent c.self.inside.disk in
    let now = g.D.Disk.extent c.start_area.new.disk in
    let header = c.in-Some.header in
    let is = c.self.invariant in
    let sized : ArePlansSized old waiting inside_header.geometry extent inside_header.before_last = record { first = is.2; behind = is.3; none = is.4; many = is.5 } in
    let kept = last_is.remembered in
    let last_sized : IsSized last.first inside_header.geometry extent = record { bytes = kept.bytes ∙ is.6.bytes; blocks = kept.blocks ∙ is.6.blocks; inside = omega (arith, is.6.inside, kept.from, kept.bytes) } in
    let after = sized_after old new waiting more last inside_header.geometry extent inside_header.before_last c.add_plan.ensures.first some sized last_sized in
    let same : extent ≡ now = sym c.in-Ok.ensures.extent in
    let there = subst (λ (n : ℕ). ArePlansSized new more header.geometry now n) (sym header_is.before_last)
    (subst (λ (e : ℕ). ArePlansSized new more header.geometry e (inside_header.before_last + 1)) same
    (subst (λ (size : Geometry). ArePlansSized new more size extent (inside_header.before_last + 1)) (sym header_is.geometry) after)) in
    let area = next_sized c.start_area.new.area inside_header.geometry (suc inside_header.before_last) inside_header.first_area extent inside_header.first_inside
    (ap (λ (a : AreaState). a.from) area_is ∙ from_is) (ap (λ (a : AreaState). a.bytes) area_is) (ap (λ (a : AreaState). a.blocks) area_is) is.0 in
    let fits : c.self.inside.count < 18446744073709551616 = omega arith in (
      sym same ∙ is.0 ∙ ap (λ (size : Geometry). device_bytes_of size.blocks size.area) (sym header_is.geometry),
      is.1 ∙ ap (λ (size : Geometry). size.blocks) (sym header_is.geometry),
      there.first,
      there.behind,
      there.none,
      there.many,
      subst (λ (e : ℕ). IsSized c.start_area.new.area header.geometry e) same (subst (λ (size : Geometry). IsSized c.start_area.new.area size extent) (sym header_is.geometry) area),
      ap (λ (a : AreaState). a.next) area_is ∙ is.7,
      λ none. (
        ap (λ (a : AreaState). a.touched) area_is,
        sym (ap (λ (all : List PlanState). last_turned header.base (turned_of all)) added_is ∙ last-push header.base (plans_of old waiting) last ∙ ap (λ (n : ℕ). (n + 18446744073709551615) % 18446744073709551616) kept.next
            ∙ last_counted c.self.inside.area c.self.inside.count is.7 fits),
      ),
      uncopied_after old new waiting more last c.add_plan.ensures.first some is.9 last_is.uncopied,
    )

pub start_area-requires-clause-inside : goal.start_area-requires-clause-inside
start_area-requires-clause-inside g c =
    let header = c.self.inside.header in
    let next = c.next_area-next.ensures in
    (next_sized c.next_area-next.result header.geometry (suc header.before_last) header.first_area (g.D.Disk.extent c.self.inside.disk) header.first_inside
    (ap (λ (a : AreaState). a.from) next) (ap (λ (a : AreaState). a.bytes) next) (ap (λ (a : AreaState). a.blocks) next) c.self.invariant.0).inside

pub invariant_of-self : goal.invariant_of-self
invariant_of-self g c =
    let inside = c.self.inside in
    let geometry = inside.header.geometry in
    let extent = g.D.Disk.extent inside.disk in
    let is = c.self.invariant in
    let same = c.reserve.ensures.items in (
      is.0,
      is.1,
      is.2,
      subst (λ (w : List PlanState). AreSized w geometry extent) (sym same) is.3,
      λ none. same ∙ is.4 none,
      is.5 ∙ ap (λ (w : List PlanState). length (plans_of inside.plan w)) (sym same),
      is.6,
      is.7,
      λ none. ((is.8 none).0, (is.8 none).1 ∙ ap (λ (w : List PlanState). last_turned inside.header.base (turned_of (plans_of inside.plan w))) (sym same)),
      subst AreUncopied (sym same) is.9,
    )

pub invariant_of-self-2 : goal.invariant_of-self-2
invariant_of-self-2 g c =
    let inside = c.self.inside in
    let geometry = inside.header.geometry in
    let extent = g.D.Disk.extent inside.disk in
    let is = c.self.invariant in
    let same = c.reserve.ensures.items in (
      is.0,
      is.1,
      is.2,
      subst (λ (w : List PlanState). AreSized w geometry extent) (sym same) is.3,
      λ none. same ∙ is.4 none,
      is.5 ∙ ap (λ (w : List PlanState). length (plans_of inside.plan w)) (sym same),
      is.6,
      is.7,
      λ none. ((is.8 none).0, (is.8 none).1 ∙ ap (λ (w : List PlanState). last_turned inside.header.base (turned_of (plans_of inside.plan w))) (sym same)),
      subst AreUncopied (sym same) is.9,
    )

pub invariant_of-self-in-Err-1 : goal.invariant_of-self-in-Err-1
invariant_of-self-in-Err-1 g c =
    let inside = c.self.inside in
    let geometry = inside.header.geometry in
    let extent = g.D.Disk.extent inside.disk in
    let is = c.self.invariant in
    let extents = c.in-Err.ensures.extent in
    let same = c.reserve.ensures.items in (
      extents ∙ is.0,
      is.1,
      subst (λ (e : ℕ). IfSome inside.plan (λ first. IsSized first.first geometry e)) (sym extents) is.2,
      subst (λ (e : ℕ). AreSized c.reserve.new.self.items geometry e) (sym extents) (subst (λ (w : List PlanState). AreSized w geometry extent) (sym same) is.3),
      λ none. same ∙ is.4 none,
      is.5 ∙ ap (λ (w : List PlanState). length (plans_of inside.plan w)) (sym same),
      subst (λ (e : ℕ). IsSized inside.area geometry e) (sym extents) is.6,
      is.7,
      λ none. ((is.8 none).0, (is.8 none).1 ∙ ap (λ (w : List PlanState). last_turned inside.header.base (turned_of (plans_of inside.plan w))) (sym same)),
      subst AreUncopied (sym same) is.9,
    )

pub add_plan-requires-clause-none : goal.add_plan-requires-clause-none
add_plan-requires-clause-none g c =
    λ none. c.reserve.ensures.items ∙ c.self.invariant.4 none

pub returns-then-self : goal.returns-then-self
returns-then-self g c =
    let fails = ap (λ (k : KeeperState g.row.D.Denot). k.failed) (sym c.self.view_is) ∙ c.if-self.true in record {
      ok = tt;
      err = refl;
      failed = (λ _. fails, λ _. refl);
      not_now = (λ is. absurd (failed-not_now is), λ now. absurd (false≢true (sym now.0 ∙ fails)));
      full = (λ is. absurd (failed-full is), λ now. absurd (false≢true (sym now.0 ∙ fails)));
      only = tt;
      unchanged = inr refl;
      extent = refl;
      faults_ok = tt;
      faults_err = refl;
      honest = (λ trusted. trusted, λ trusted. trusted);
      fresh = tt;
      left = λ commands remembers. tt;
      phase = λ commands remembers. tt;
      held = λ honest base fronts last holds. tt;
      any_moment = λ honest image number keeps. begins (g.met.D.Disk.sound c.args.self.now.disk honest) (λ content left. kept_content _ _ image number keeps content left);
      header = λ honest image number keeps. begins (g.met.D.Disk.sound c.args.self.now.disk honest) (λ content left. inl (header_left _ _ image number keeps content left));
    }

pub returns-then-not-has_spare_area : goal.returns-then-not-has_spare_area
returns-then-not-has_spare_area g c =
    let works = ap (λ (k : KeeperState g.row.D.Denot). k.failed) (sym c.self.view_is) ∙ c.if-self.false in record {
      ok = tt;
      err = refl;
      failed = (λ is. absurd (not_now-failed is), λ fails. absurd (false≢true (sym works ∙ fails)));
      not_now = search rules;
      full = search rules;
      only = tt;
      unchanged = inr refl;
      extent = refl;
      faults_ok = tt;
      faults_err = refl;
      honest = (λ trusted. trusted, λ trusted. trusted);
      fresh = tt;
      left = λ commands remembers. tt;
      phase = λ commands remembers. tt;
      held = λ honest base fronts last holds. tt;
      any_moment = λ honest image number keeps. begins (g.met.D.Disk.sound c.args.self.now.disk honest) (λ content left. kept_content _ _ image number keeps content left);
      header = λ honest image number keeps. begins (g.met.D.Disk.sound c.args.self.now.disk honest) (λ content left. inl (header_left _ _ image number keeps content left));
    }

pub returns-in_default : goal.returns-in_default
returns-in_default g c =
    let works = ap (λ (k : KeeperState g.row.D.Denot). k.failed) (sym c.self.view_is) ∙ c.if-self.false in
    let time : IsRotateTime c.args.self.now = (c.if-not-has_spare_area.ensures.spare.0 refl, subst (λ (k : KeeperState g.row.D.Denot). 0 < k.used) c.self.view_is (above_zero c.self.inside.area.gate c.if-is_empty.ensures)) in record {
      ok = tt;
      err = refl;
      failed = (λ is. absurd (full-failed is), λ fails. absurd (false≢true (sym works ∙ fails)));
      not_now = (λ is. absurd (full-not_now is), λ now. absurd (now.1 time));
      full = (λ _. (works, time, ap (λ (k : KeeperState g.row.D.Denot). k.generation) (sym c.self.view_is) ∙ c.in_default.ensures.none.0 refl), λ _. refl);
      only = tt;
      unchanged = inr refl;
      extent = refl;
      faults_ok = tt;
      faults_err = refl;
      honest = (λ trusted. trusted, λ trusted. trusted);
      fresh = tt;
      left = λ commands remembers. tt;
      phase = λ commands remembers. tt;
      held = λ honest base fronts last holds. tt;
      any_moment = λ honest image number keeps. begins (g.met.D.Disk.sound c.args.self.now.disk honest) (λ content left. kept_content _ _ image number keeps content left);
      header = λ honest image number keeps. begins (g.met.D.Disk.sound c.args.self.now.disk honest) (λ content left. inl (header_left _ _ image number keeps content left));
    }

pub returns-in-Ok : goal.returns-in-Ok
returns-in-Ok g c =
    let inside_header = c.self.inside.header in
    let header_is : IsRenewed inside_header (with_next inside_header) c.in-Some.header =
    subst (λ (change : HeaderChange). IsRenewed inside_header change c.in-Some.header) (c.with_next.ensures ∙ ap (λ (k : KeeperState g.row.D.Denot). with_next k.memory.header) (sym c.self.view_is)) c.in-Some.ensures.some in
    let room : inside_header.before_last + 1 < areas_in inside_header.geometry =
    subst (λ (k : KeeperState g.row.D.Denot). k.memory.header.before_last + 1 < areas_in k.memory.header.geometry) (sym c.self.view_is) (c.if-not-has_spare_area.ensures.room refl) in
    let from = c.next_area-next.result.from in
    let from_is : from ≡ area_at inside_header.geometry (behind (areas_in inside_header.geometry) (suc inside_header.before_last) inside_header.first_area) =
    ap (λ (a : AreaState). a.from) c.next_area-next.ensures in
    let old = c.self.inside.plan in
    let new = c.add_plan.new.plan in
    let waiting = c.self.inside.waiting.items in
    let more = c.add_plan.new.waiting.items in
    let last = c.new-last.result in
    let some : IfSome old (λ first. (new ≡ Some first) × (more ≡ waiting ++ last ∷ [])) =
    subst (λ (w : List PlanState). IfSome old (λ first. (new ≡ Some first) × (more ≡ w ++ last ∷ []))) c.reserve.ensures.items c.add_plan.ensures.behind in
    let added_is : plans_of new more ≡ plans_of old waiting ++ last ∷ [] = added old new waiting more last c.add_plan.ensures.first some in
    let last_is : IsPlanOf c.self.inside.area last = c.new-last.ensures in
    let works = ap (λ (k : KeeperState g.row.D.Denot). k.failed) (sym c.self.view_is) ∙ c.if-self.false in
    let time : IsRotateTime c.args.self.now = (c.if-not-has_spare_area.ensures.spare.0 refl, subst (λ (k : KeeperState g.row.D.Denot). 0 < k.used) c.self.view_is (above_zero c.self.inside.area.gate c.if-is_empty.ensures)) in record {
      ok =
          let inside = c.self.inside in
          let plans = plans_of old waiting in
          let fits : inside.count < 18446744073709551616 = omega arith in
          let count : last_number last.first ≡ inside.count =
          ap (λ (n : ℕ). (n + 18446744073709551615) % 18446744073709551616) last_is.remembered.next ∙ last_counted inside.area inside.count c.self.invariant.7 fits in
          let left : last.left ≡ count_puts inside.header.geometry.blocks inside.area.touched =
          plan_left inside.area last last_is ∙ ap (λ (b : ℕ). count_puts b inside.area.touched) c.self.invariant.6.blocks in
          let turned = ap turned_of added_is ∙ turned-push plans last ∙ ap (λ (n : ℕ). turned_of plans ++ n ∷ []) count in
          let lefts = ap lefts_of added_is ∙ lefts-push plans last ∙ ap (λ (n : ℕ). lefts_of plans ++ n ∷ []) left in
          let phase = ap phase_of added_is ∙ phase-push plans last (ap (λ (p : PlanState). p.mapped) last_is.uncopied) ∙ ap (phase_with (phase_of plans)) left in
          let used : c.start_area.new.area.gate ≡ 0 = ap (λ (a : AreaState). a.gate) c.in-Ok.ensures.ok in
          let memory : Memory = record { header = c.in-Some.header; slot = c.other-self-inside.result; map = inside.map; plans = plans_of new more; area = c.start_area.new.area } in
          let made : KeeperState g.row.D.Denot = record {
            disk = c.start_area.new.disk;
            geometry = c.in-Some.header.geometry;
            generation = c.in-Some.header.generation;
            count = inside.count;
            base = c.in-Some.header.base;
            turned = turned_of (plans_of new more);
            lefts = lefts_of (plans_of new more);
            used = c.start_area.new.area.gate;
            phase = phase_of (plans_of new more);
            failed = inside.failed;
            memory = memory;
          } in
          subst (λ (k : KeeperState g.row.D.Denot). made ≡ rotated_by k c.start_area.new.disk memory) c.self.view_is
          (λ i. record {
            disk = c.start_area.new.disk;
            geometry = header_is.geometry i;
            generation = header_is.generation i;
            count = inside.count;
            base = header_is.base i;
            turned = turned i;
            lefts = lefts i;
            used = used i;
            phase = phase i;
            failed = inside.failed;
            memory = memory;
          });
      err = tt;
      failed =
          (λ is. absurd (ok_apart _ _ is), λ fails. absurd (false≢true (sym works ∙ fails)));
      not_now =
          (λ is. absurd (ok_apart _ _ is), λ none. absurd (none.1 time));
      full = (λ is. absurd (ok_apart _ _ is), λ full. let none : Some c.in-Some.header ≡ None = c.in-Some.ensures.none.1 (ap (λ (k : KeeperState g.row.D.Denot). k.generation) c.self.view_is ∙ full.2) in absurd (some_apart _ none));
      only = tt;
      unchanged = tt;
      extent = c.in-Ok.ensures.extent ∙ ap (λ (k : KeeperState g.row.D.Denot). g.D.Disk.extent k.disk) c.self.view_is;
      faults_ok = c.in-Ok.ensures.faults ∙ ap (λ (k : KeeperState g.row.D.Denot). g.D.Disk.faults k.disk) c.self.view_is;
      faults_err = tt;
      honest =
          let honest = c.in-Ok.ensures.honest in (
            λ trusted. subst (λ (k : KeeperState g.row.D.Denot). g.D.Disk.honest k.disk) c.self.view_is (honest.0 trusted),
            λ trusted. honest.1 (subst (λ (k : KeeperState g.row.D.Denot). g.D.Disk.honest k.disk) (sym c.self.view_is) trusted),
          );
      fresh = record {
        takes = search rules;
        noted = subst (λ (t : List TouchedRange). (block : ℕ) → TellOf block t []) (sym (ap (λ (a : AreaState). a.touched) c.in-Ok.ensures.ok)) (λ block. record { any = refl; put = refl });
      };
      left = λ commands remembers.
          let inside = subst (λ (k : KeeperState g.row.D.Denot). Remembers k commands) (sym c.self.view_is) remembers in
          let left = rotated_left _ last commands c.self.invariant.6.blocks last_is inside in
          ap lefts_of added_is ∙ lefts-push (plans_of old waiting) last ∙ ap (λ (n : ℕ). lefts_of (plans_of old waiting) ++ n ∷ []) left
          ∙ ap (λ (k : KeeperState g.row.D.Denot). k.lefts ++ len (dirty_blocks 0 commands) ∷ []) c.self.view_is;
      phase = λ commands remembers.
          let inside = subst (λ (k : KeeperState g.row.D.Denot). Remembers k commands) (sym c.self.view_is) remembers in
          let left = rotated_left _ last commands c.self.invariant.6.blocks last_is inside in
          ap phase_of added_is ∙ phase-push (plans_of old waiting) last (ap (λ (p : PlanState). p.mapped) last_is.uncopied) ∙ ap (phase_with (phase_of (plans_of old waiting))) left
          ∙ ap (λ (k : KeeperState g.row.D.Denot). phase_with k.phase (len (dirty_blocks 0 commands))) c.self.view_is;
      held = λ honest base fronts last_commands holds.
          let inside = subst (λ (k : KeeperState g.row.D.Denot). Holds k (g.D.Disk.state k.disk) base fronts last_commands) (sym c.self.view_is) holds in
          let trusted = subst (λ (k : KeeperState g.row.D.Denot). g.D.Disk.honest k.disk) (sym c.self.view_is) honest in
          let before = g.D.Disk.state c.self.inside.disk in
          let sound = g.met.D.Disk.sound c.self.inside.disk trusted in
          let call = c.in-Ok.ensures in
          let area_is : c.start_area.new.area ≡ record { from = from; bytes = area_size inside_header.geometry; blocks = inside_header.geometry.blocks; next = c.self.inside.area.next; gate = 0; touched = [] } =
          c.in-Ok.ensures.ok
          ∙ ap (λ (a : AreaState). let area : AreaState = record { from = from; bytes = a.bytes; blocks = a.blocks; next = a.next; gate = 0; touched = [] } in area) c.next_area-next.ensures in
          let turn = call.begun trusted inside.keeps.steady (slots_synced _ before _ _ inside.keeps sound)
          (from_above _ before _ _ inside.keeps sound c.in-Some.header header_is room from from_is) inside_header (current_held _ before _ _ inside.keeps sound)
          (comes_next _ before _ _ inside.keeps sound c.in-Some.header header_is room from from_is) in
          let after = g.D.Disk.state c.start_area.new.disk in
          let after_sound = subst (λ (e : ℕ). IsSound e after) call.extent (g.met.D.Disk.sound c.start_area.new.disk (call.honest.1 trusted)) in
          let made : List PlanState → KeeperState g.row.D.Denot = λ all. record {
            disk = c.start_area.new.disk;
            geometry = c.in-Some.header.geometry;
            generation = c.in-Some.header.generation;
            count = c.self.inside.count;
            base = c.in-Some.header.base;
            turned = turned_of (plans_of new more);
            lefts = lefts_of (plans_of new more);
            used = c.start_area.new.area.gate;
            phase = phase_of all;
            failed = c.self.inside.failed;
            memory = record { header = c.in-Some.header; slot = c.other-self-inside.result; map = c.self.inside.map; plans = all; area = c.start_area.new.area };
          } in
          rotate_held _ before base fronts last_commands inside sound c.in-Some.header header_is room from from_is after after_sound (made (plans_of new more)) c.other-self-inside.result c.start_area.new.area last
          c.other-self-inside.ensures turn area_is last_is (ap made added_is);
      any_moment = λ honest image number keeps.
          subst (λ (k : KeeperState g.row.D.Denot). g.D.Disk.honest k.disk → Keeps k (g.D.Disk.state k.disk) image number → LeavesOnly (g.D.Disk.state k.disk) (g.D.Disk.state c.start_area.new.disk) (λ content. StandsFor content image number)) c.self.view_is
          (λ trusted inside.
          let before = g.D.Disk.state c.self.inside.disk in
          let sound = g.met.D.Disk.sound c.self.inside.disk trusted in
          weakens (c.start_area.ensures.any_moment trusted inside.steady (slots_synced _ before image number inside sound)
          (from_above _ before image number inside sound c.in-Some.header header_is room from from_is) inside_header (current_held _ before image number inside sound)
          (comes_next _ before image number inside sound c.in-Some.header header_is room from from_is))
          (rotate_left _ before image number inside sound c.in-Some.header header_is room from from_is))
          honest keeps;
      header = λ honest image number keeps.
          subst (λ (k : KeeperState g.row.D.Denot). g.D.Disk.honest k.disk → Keeps k (g.D.Disk.state k.disk) image number → LeavesOnly (g.D.Disk.state k.disk) (g.D.Disk.state c.start_area.new.disk) (HasHeaderOrNext k.geometry k.generation)) c.self.view_is
          (λ trusted inside.
          let before = g.D.Disk.state c.self.inside.disk in
          let sound = g.met.D.Disk.sound c.self.inside.disk trusted in
          weakens (c.start_area.ensures.any_moment trusted inside.steady (slots_synced _ before image number inside sound)
          (from_above _ before image number inside sound c.in-Some.header header_is room from from_is) inside_header (current_held _ before image number inside sound)
          (comes_next _ before image number inside sound c.in-Some.header header_is room from from_is))
          (header_turns _ before image number inside sound c.in-Some.header header_is.generation header_is.geometry from))
          honest keeps;
    }

pub returns-in-Err : goal.returns-in-Err
returns-in-Err g c =
    let works = ap (λ (k : KeeperState g.row.D.Denot). k.failed) (sym c.self.view_is) ∙ c.if-self.false in
    let time : IsRotateTime c.args.self.now = (c.if-not-has_spare_area.ensures.spare.0 refl, subst (λ (k : KeeperState g.row.D.Denot). 0 < k.used) c.self.view_is (above_zero c.self.inside.area.gate c.if-is_empty.ensures)) in
    let apart = device_apart c.from.result c.from.ensures in record {
      ok = tt;
      err =
          let inside = c.self.inside in
          let disk = c.start_area.new.disk in
          let made : List PlanState → KeeperState g.row.D.Denot = λ waiting. let plans = plans_of inside.plan waiting in record {
            disk = disk;
            geometry = inside.header.geometry;
            generation = inside.header.generation;
            count = inside.count;
            base = inside.header.base;
            turned = turned_of plans;
            lefts = lefts_of plans;
            used = inside.area.gate;
            phase = phase_of plans;
            failed = true;
            memory = record { header = inside.header; slot = inside.slot; map = inside.map; plans = plans; area = inside.area };
          } in
          ap made c.reserve.ensures.items ∙ ap (λ (k : KeeperState g.row.D.Denot). let next : KeeperState g.row.D.Denot = record k { disk = disk; failed = true } in next) c.self.view_is
          ∙ ap (λ (f : KeeperFault). refused_by f c.args.self.now disk) (sym c.from.ensures);
      failed =
          (λ is. absurd (apart.failed is), λ fails. absurd (false≢true (sym works ∙ fails)));
      not_now =
          (λ is. absurd (apart.not_now is), λ none. absurd (none.1 time));
      full = (λ is. absurd (apart.full is), λ full. let none : Some c.in-Some.header ≡ None = c.in-Some.ensures.none.1 (ap (λ (k : KeeperState g.row.D.Denot). k.generation) c.self.view_is ∙ full.2) in absurd (some_apart _ none));
      only = subst IsStepFault (sym c.from.ensures) tt;
      unchanged = inl c.from.ensures;
      extent = c.in-Err.ensures.extent ∙ ap (λ (k : KeeperState g.row.D.Denot). g.D.Disk.extent k.disk) c.self.view_is;
      faults_ok = tt;
      faults_err = c.in-Err.ensures.faults ∙ ap (λ (k : KeeperState g.row.D.Denot). counted (g.D.Disk.faults k.disk)) c.self.view_is ∙ ap (λ (f : KeeperFault). faults_by f (g.D.Disk.faults c.args.self.now.disk)) (sym c.from.ensures);
      honest =
          let honest = c.in-Err.ensures.honest in (
            λ trusted. subst (λ (k : KeeperState g.row.D.Denot). g.D.Disk.honest k.disk) c.self.view_is (honest.0 trusted),
            λ trusted. honest.1 (subst (λ (k : KeeperState g.row.D.Denot). g.D.Disk.honest k.disk) (sym c.self.view_is) trusted),
          );
      fresh = tt;
      left = λ commands remembers. tt;
      phase = λ commands remembers. tt;
      held = λ honest base fronts last holds. tt;
      any_moment = λ honest image number keeps.
          subst (λ (k : KeeperState g.row.D.Denot). g.D.Disk.honest k.disk → Keeps k (g.D.Disk.state k.disk) image number → LeavesOnly (g.D.Disk.state k.disk) (g.D.Disk.state c.start_area.new.disk) (λ content. StandsFor content image number)) c.self.view_is
          (λ trusted inside.
          let before = g.D.Disk.state c.self.inside.disk in
          let sound = g.met.D.Disk.sound c.self.inside.disk trusted in
          let inside_header = c.self.inside.header in
          let header_is : IsRenewed inside_header (with_next inside_header) c.in-Some.header =
          subst (λ (change : HeaderChange). IsRenewed inside_header change c.in-Some.header) (c.with_next.ensures ∙ ap (λ (k : KeeperState g.row.D.Denot). with_next k.memory.header) (sym c.self.view_is)) c.in-Some.ensures.some in
          let room : inside_header.before_last + 1 < areas_in inside_header.geometry =
          subst (λ (k : KeeperState g.row.D.Denot). k.memory.header.before_last + 1 < areas_in k.memory.header.geometry) (sym c.self.view_is) (c.if-not-has_spare_area.ensures.room refl) in
          let from = c.next_area-next.result.from in
          let from_is : from ≡ area_at inside_header.geometry (behind (areas_in inside_header.geometry) (suc inside_header.before_last) inside_header.first_area) =
          ap (λ (a : AreaState). a.from) c.next_area-next.ensures in
          weakens (c.start_area.ensures.any_moment trusted inside.steady (slots_synced _ before image number inside sound)
          (from_above _ before image number inside sound c.in-Some.header header_is room from from_is) inside_header (current_held _ before image number inside sound)
          (comes_next _ before image number inside sound c.in-Some.header header_is room from from_is))
          (rotate_left _ before image number inside sound c.in-Some.header header_is room from from_is))
          honest keeps;
      header = λ honest image number keeps.
          subst (λ (k : KeeperState g.row.D.Denot). g.D.Disk.honest k.disk → Keeps k (g.D.Disk.state k.disk) image number → LeavesOnly (g.D.Disk.state k.disk) (g.D.Disk.state c.start_area.new.disk) (HasHeaderOrNext k.geometry k.generation)) c.self.view_is
          (λ trusted inside.
          let before = g.D.Disk.state c.self.inside.disk in
          let sound = g.met.D.Disk.sound c.self.inside.disk trusted in
          let inside_header = c.self.inside.header in
          let header_is : IsRenewed inside_header (with_next inside_header) c.in-Some.header =
          subst (λ (change : HeaderChange). IsRenewed inside_header change c.in-Some.header) (c.with_next.ensures ∙ ap (λ (k : KeeperState g.row.D.Denot). with_next k.memory.header) (sym c.self.view_is)) c.in-Some.ensures.some in
          let room : inside_header.before_last + 1 < areas_in inside_header.geometry =
          subst (λ (k : KeeperState g.row.D.Denot). k.memory.header.before_last + 1 < areas_in k.memory.header.geometry) (sym c.self.view_is) (c.if-not-has_spare_area.ensures.room refl) in
          let from = c.next_area-next.result.from in
          let from_is : from ≡ area_at inside_header.geometry (behind (areas_in inside_header.geometry) (suc inside_header.before_last) inside_header.first_area) =
          ap (λ (a : AreaState). a.from) c.next_area-next.ensures in
          weakens (c.start_area.ensures.any_moment trusted inside.steady (slots_synced _ before image number inside sound)
          (from_above _ before image number inside sound c.in-Some.header header_is room from from_is) inside_header (current_held _ before image number inside sound)
          (comes_next _ before image number inside sound c.in-Some.header header_is room from from_is))
          (header_turns _ before image number inside sound c.in-Some.header header_is.generation header_is.geometry from))
          honest keeps;
    }

pub with_next-requires : goal.with_next-requires
with_next-requires g c = c.if-not-has_spare_area.ensures.room refl

pub next-requires-clause-few : goal.next-requires-clause-few
next-requires-clause-few g c =
    let header = c.self.inside.header in
    let room : header.before_last + 1 < areas_in header.geometry =
    subst (λ (k : KeeperState g.row.D.Denot). k.memory.header.before_last + 1 < areas_in k.memory.header.geometry) (sym c.self.view_is) (c.if-not-has_spare_area.ensures.room refl) in
    subst (λ (change : HeaderChange). change.before_last < areas_in header.geometry) (sym (c.with_next.ensures ∙ ap (λ (k : KeeperState g.row.D.Denot). with_next k.memory.header) (sym c.self.view_is))) room

pub next-requires-clause-first : goal.next-requires-clause-first
next-requires-clause-first g c =
    let header = c.self.inside.header in
    subst (λ (change : HeaderChange). change.first_area < areas_in header.geometry) (sym (c.with_next.ensures ∙ ap (λ (k : KeeperState g.row.D.Denot). with_next k.memory.header) (sym c.self.view_is))) header.first_inside

pub next_area-next-requires : goal.next_area-next-requires
next_area-next-requires g c =
    subst (λ (k : KeeperState g.row.D.Denot). k.memory.header.before_last + 1 < areas_in k.memory.header.geometry) (sym c.self.view_is) (c.if-not-has_spare_area.ensures.room refl)

pub returns-in_err-touches : goal.returns-in_err-touches
returns-in_err-touches g c =
    let works = ap (λ (k : KeeperState g.row.D.Denot). k.failed) (sym c.self.view_is) ∙ c.if-self.false in
    let time : IsRotateTime c.args.self.now = (c.if-not-has_spare_area.ensures.spare.0 refl, subst (λ (k : KeeperState g.row.D.Denot). 0 < k.used) c.self.view_is (above_zero c.self.inside.area.gate c.if-is_empty.ensures)) in
    let left = memory_apart c.from_residual.result c.from_residual.ensures.1 in record {
      ok = IfOk-from_err c.from_residual.result _ c.from_residual.ensures.0;
      err = subst (λ (r : Given (Unit {0})). IfErr r (λ fault. c.args.self.now ≡ refused_by fault c.args.self.now c.args.self.now.disk)) (sym (no_memory c.from_residual.result c.from_residual.ensures.1)) refl;
      failed =
          (λ is. absurd (left.failed is), λ fails. absurd (false≢true (sym works ∙ fails)));
      not_now =
          (λ is. absurd (left.not_now is), λ none. absurd (none.1 time));
      full =
          (λ is. absurd (left.full is), λ full. let none : Some c.in-Some.header ≡ None = c.in-Some.ensures.none.1 (ap (λ (k : KeeperState g.row.D.Denot). k.generation) c.self.view_is ∙ full.2) in absurd (some_apart _ none));
      only = subst (λ (r : Given (Unit {0})). IfErr r IsStepFault) (sym (no_memory c.from_residual.result c.from_residual.ensures.1)) tt;
      unchanged =
          let disk = c.args.self.now.disk in
          err_given (λ (fault : KeeperFault). (fault ≡ DeviceFault) ⊎ (disk ≡ disk)) c.from_residual.result NoMemory c.from_residual.ensures.1 (inr refl);
      extent = refl;
      faults_ok = IfOk-from_err c.from_residual.result _ c.from_residual.ensures.0;
      faults_err =
          let faults = g.D.Disk.faults c.args.self.now.disk in
          subst (λ (r : Given (Unit {0})). IfErr r (λ fault. faults ≡ faults_by fault faults)) (sym (no_memory c.from_residual.result c.from_residual.ensures.1)) refl;
      honest = (λ trusted. trusted, λ trusted. trusted);
      fresh = IfOk-from_err c.from_residual.result _ c.from_residual.ensures.0;
      left = λ commands remembers. IfOk-from_err c.from_residual.result _ c.from_residual.ensures.0;
      phase = λ commands remembers. IfOk-from_err c.from_residual.result _ c.from_residual.ensures.0;
      held = λ honest base fronts last_commands holds. IfOk-from_err c.from_residual.result _ c.from_residual.ensures.0;
      any_moment = λ honest image number keeps. begins (g.met.D.Disk.sound c.args.self.now.disk honest) (λ content left. kept_content _ _ image number keeps content left);
      header = λ honest image number keeps. begins (g.met.D.Disk.sound c.args.self.now.disk honest) (λ content left. inl (header_left _ _ image number keeps content left));
    }

pub returns-in_err-reserve : goal.returns-in_err-reserve
returns-in_err-reserve g c =
    let works = ap (λ (k : KeeperState g.row.D.Denot). k.failed) (sym c.self.view_is) ∙ c.if-self.false in
    let time : IsRotateTime c.args.self.now = (c.if-not-has_spare_area.ensures.spare.0 refl, subst (λ (k : KeeperState g.row.D.Denot). 0 < k.used) c.self.view_is (above_zero c.self.inside.area.gate c.if-is_empty.ensures)) in
    let left = memory_apart c.from_residual-in_err-reserve.result c.from_residual-in_err-reserve.ensures.1 in record {
      ok = IfOk-from_err c.from_residual-in_err-reserve.result _ c.from_residual-in_err-reserve.ensures.0;
      err =
          let inside = c.self.inside in
          let made : List PlanState → KeeperState g.row.D.Denot = λ waiting. let plans = plans_of inside.plan waiting in record {
            disk = inside.disk;
            geometry = inside.header.geometry;
            generation = inside.header.generation;
            count = inside.count;
            base = inside.header.base;
            turned = turned_of plans;
            lefts = lefts_of plans;
            used = inside.area.gate;
            phase = phase_of plans;
            failed = inside.failed;
            memory = record { header = inside.header; slot = inside.slot; map = inside.map; plans = plans; area = inside.area };
          } in
          subst (λ (r : Given (Unit {0})). IfErr r (λ fault. made c.reserve.new.self.items ≡ refused_by fault c.args.self.now inside.disk)) (sym (no_memory c.from_residual-in_err-reserve.result c.from_residual-in_err-reserve.ensures.1)) (ap made c.reserve.ensures.items ∙ c.self.view_is);
      failed =
          (λ is. absurd (left.failed is), λ fails. absurd (false≢true (sym works ∙ fails)));
      not_now =
          (λ is. absurd (left.not_now is), λ none. absurd (none.1 time));
      full =
          (λ is. absurd (left.full is), λ full. let none : Some c.in-Some.header ≡ None = c.in-Some.ensures.none.1 (ap (λ (k : KeeperState g.row.D.Denot). k.generation) c.self.view_is ∙ full.2) in absurd (some_apart _ none));
      only = subst (λ (r : Given (Unit {0})). IfErr r IsStepFault) (sym (no_memory c.from_residual-in_err-reserve.result c.from_residual-in_err-reserve.ensures.1)) tt;
      unchanged =
          err_given (λ (fault : KeeperFault). (fault ≡ DeviceFault) ⊎ (c.self.inside.disk ≡ c.args.self.now.disk)) c.from_residual-in_err-reserve.result NoMemory c.from_residual-in_err-reserve.ensures.1
          (inr (ap (λ (k : KeeperState g.row.D.Denot). k.disk) c.self.view_is));
      extent = ap (λ (k : KeeperState g.row.D.Denot). g.D.Disk.extent k.disk) c.self.view_is;
      faults_ok = IfOk-from_err c.from_residual-in_err-reserve.result _ c.from_residual-in_err-reserve.ensures.0;
      faults_err =
          let faults = g.D.Disk.faults c.args.self.now.disk in
          subst (λ (r : Given (Unit {0})). IfErr r (λ fault. g.D.Disk.faults c.self.inside.disk ≡ faults_by fault faults)) (sym (no_memory c.from_residual-in_err-reserve.result c.from_residual-in_err-reserve.ensures.1)) (ap (λ (k : KeeperState g.row.D.Denot). g.D.Disk.faults k.disk) c.self.view_is);
      honest = (
        λ trusted. subst (λ (k : KeeperState g.row.D.Denot). g.D.Disk.honest k.disk) c.self.view_is trusted,
        λ trusted. subst (λ (k : KeeperState g.row.D.Denot). g.D.Disk.honest k.disk) (sym c.self.view_is) trusted,
      );
      fresh = IfOk-from_err c.from_residual-in_err-reserve.result _ c.from_residual-in_err-reserve.ensures.0;
      left = λ commands remembers. IfOk-from_err c.from_residual-in_err-reserve.result _ c.from_residual-in_err-reserve.ensures.0;
      phase = λ commands remembers. IfOk-from_err c.from_residual-in_err-reserve.result _ c.from_residual-in_err-reserve.ensures.0;
      held = λ honest base fronts last_commands holds. IfOk-from_err c.from_residual-in_err-reserve.result _ c.from_residual-in_err-reserve.ensures.0;
      any_moment = λ honest image number keeps.
          let same = ap (λ (k : KeeperState g.row.D.Denot). k.disk) (sym c.self.view_is) in
          subst (λ (disk : g.row.D.Denot). LeavesOnly (g.D.Disk.state c.args.self.now.disk) (g.D.Disk.state disk) (λ content. StandsFor content image number)) same
          (begins (g.met.D.Disk.sound c.args.self.now.disk honest) (λ content left. kept_content _ _ image number keeps content left));
      header = λ honest image number keeps.
          let same = ap (λ (k : KeeperState g.row.D.Denot). k.disk) (sym c.self.view_is) in
          subst (λ (disk : g.row.D.Denot). LeavesOnly (g.D.Disk.state c.args.self.now.disk) (g.D.Disk.state disk) (HasHeaderOrNext c.args.self.now.geometry c.args.self.now.generation)) same
          (begins (g.met.D.Disk.sound c.args.self.now.disk honest) (λ content left. inl (header_left _ _ image number keeps content left)));
    }
