use Rattle.std.proofs.Common.{◌≡◌, ℕ, ◌+◌, ◌⊎◌, ⊎_elim, List, length, map, false, inl, inr, refl, sym, ◌∙◌, ap, subst, arith, rules}
use Rattle.std.proofs.lemmas.Bool.{false≢true}
use Rattle.std.proofs.lemmas.List.{length-map}
use Rattle.std.specs.Prelude.{IfSome}
use Rattle.disk_model.specs.Disk.{State, LeavesOnly}
use Rattle.disk_model.specs.laws.Moments.{begins, weakens}
use Rattle.image_model.specs.Change.{AreChanges, change_of}
use Rattle.image_model.specs.Image.{Image, apply_all}
use Rattle.image_model.specs.declared.geometry.Geometry.{Geometry}
use Rattle.journal_format.specs.Area.{AreaState}
use Rattle.regions.specs.Layout.{area_size}
use Rattle.journal_format.specs.Group.{IsGroup, Numbered}
use Rattle.journal_format.specs.GroupList.{IsHeld, LeavesEither}
use Rattle.journal_format.specs.Spelling.{StoredGroup, stored_of}
use Rattle.journal.specs.laws.Added.{size-stored}
use Rattle.checkpoint.specs.Faults.{of_journal}
use Rattle.checkpoint.specs.Keeper.{AreSized, IsAppendFault, IsSized, faults_by}
use Rattle.checkpoint.specs.declared.fault.KeeperFault.{KeeperFault}
use Rattle.checkpoint.specs.declared.fault.KeeperFault.TheVariants.{AreaFull, Failed, OutOfOrder}
use Rattle.device_image.specs.Keeper.{KeeperState}
use Rattle.device_image.specs.Keeps.{Keeps}
use Rattle.device_image.specs.Stands.{StandsFor}
use Rattle.device_image.specs.laws.Kept.{first, kept_content}
use Rattle.checkpoint.proofs.AppendKeepsImage.{more_held, leaves_either, count_below, count_above, count_on, allowed, filled, is_next, never_failed, ordered, same_count}
use Rattle.checkpoint.proofs.keeper.Keeper.append.Goals as goal
use Rattle.device_image.specs.Holds.{Holds, joined}
use Rattle.device_image.specs.Remembers.{Remembers}
use Rattle.device_image.specs.laws.Counted.{remembers_more}

-- the area takes what the keeper's sizes take
taken : {D : Type 0} (keeper : KeeperState D) (state : State) (image : Image) (number : ℕ) (group : Numbered) → Keeps keeper state image number
    → AreChanges keeper.geometry.blocks (map change_of group.commands) → AreChanges keeper.memory.area.blocks (map change_of group.commands)
taken keeper state image number group keeps changes =
    let blocks : keeper.geometry.blocks ≡ keeper.memory.area.blocks = ap (λ (size : Geometry). size.blocks) keeps.sizes ∙ sym keeps.areas.placed.blocks in
    subst (λ (n : ℕ). AreChanges n (map change_of group.commands)) blocks changes

-- the journal's clause on any moment as the keeper's
any_moment : {D : Type 0} (state : D → State) (honest : D → Type 0) (inside now : KeeperState D) (group : Numbered) (after : State) (image : Image) (number : ℕ) → inside ≡ now
    → (honest inside.disk → (number : ℕ) (groups : List StoredGroup) → IsHeld inside.memory.area number groups (state inside.disk) → AreChanges inside.memory.area.blocks (map change_of group.commands)
    → LeavesOnly (state inside.disk) after (LeavesEither inside.memory.area number groups (stored_of group) (state inside.disk)))
    → honest now.disk → Keeps now (state now.disk) image number → AreChanges now.geometry.blocks (map change_of group.commands)
    → LeavesOnly (state now.disk) after (λ content. StandsFor content image number ⊎ StandsFor content (apply_all (map change_of group.commands) image) (number + length group.commands))
any_moment {D} state honest inside now group after image number same clause =
    subst (λ (k : KeeperState D). honest k.disk → Keeps k (state k.disk) image number → AreChanges k.geometry.blocks (map change_of group.commands)
    → LeavesOnly (state k.disk) after (λ content. StandsFor content image number ⊎ StandsFor content (apply_all (map change_of group.commands) image) (number + length group.commands))) same
    (λ is_honest keeps changes.
    let long : length (map change_of group.commands) ≡ length group.commands = length-map group.commands change_of in
    weakens (clause is_honest (first inside (state inside.disk) image number keeps) keeps.areas.groups keeps.areas.held (taken inside (state inside.disk) image number group keeps changes))
    (λ content left. leaves_either inside (state inside.disk) image number keeps (stored_of group) (number + length group.commands) content (omega (arith, long)) left))

failed_apart : (◌≡◌ {A = KeeperFault} Failed AreaFull → ⊥) × (◌≡◌ {A = KeeperFault} Failed OutOfOrder → ⊥)
failed_apart = (λ same. cc, λ same. cc)

pub returns-then-self : goal.returns-then-self
returns-then-self g c =
    let fails = ap (λ (k : KeeperState g.row.D.Denot). k.failed) (sym c.self.view_is) ∙ c.if-self.true in record {
      ok = tt;
      err = refl;
      group_back = refl;
      unchanged = inr refl;
      extent = refl;
      honest = (λ trusted. trusted, λ trusted. trusted);
      remembered = λ commands remembers changes. tt;
      failed = (λ _. fails, λ _. refl);
      full = (λ is. absurd (failed_apart.0 is), λ now. absurd (false≢true (sym now.0 ∙ fails)));
      out_of_order = (λ is. absurd (failed_apart.1 is), λ now. absurd (false≢true (sym now.0 ∙ fails)));
      only = tt;
      faults_ok = tt;
      faults_err = refl;
      held = λ honest base fronts last holds changes. tt;
      any_moment = λ honest image number keeps changes. begins (g.met.D.Disk.sound c.args.self.now.disk honest) (λ content left. inl (kept_content _ _ image number keeps content left));
    }

pub invariant_of-self-in-Err : goal.invariant_of-self-in-Err
invariant_of-self-in-Err g c =
    let inside = c.self.inside in
    let geometry = inside.header.geometry in
    let extent = g.D.Disk.extent c.append.new.disk in
    let is = c.self.invariant in
    let extents = c.in-Err.ensures.extent in
    let same = c.in-Err.ensures.err in (
      extents ∙ is.0,
      is.1,
      subst (λ (e : ℕ). IfSome inside.plan (λ first. IsSized first.first geometry e)) (sym extents) is.2,
      subst (λ (e : ℕ). AreSized inside.waiting.items geometry e) (sym extents) is.3,
      is.4,
      is.5,
      subst (λ (area : AreaState). IsSized area geometry extent) (sym same) (subst (λ (e : ℕ). IsSized inside.area geometry e) (sym extents) is.6),
      ap (λ (area : AreaState). area.next) same ∙ is.7,
      λ none. let was = is.8 (ap (λ (area : AreaState). area.gate) (sym same) ∙ none) in (ap (λ (area : AreaState). area.touched) same ∙ was.0, was.1),
      is.9,
    )

pub returns-in-Ok : goal.returns-in-Ok
returns-in-Ok g c =
    let keeper = c.self.inside in
    let group = c.args.group in
    let works : c.args.self.now.failed ≡ false = ap (λ (k : KeeperState g.row.D.Denot). k.failed) (sym c.self.view_is) ∙ c.if-self.false in
    let count : keeper.count ≡ c.args.self.now.count = ap (λ (k : KeeperState g.row.D.Denot). k.count) c.self.view_is in
    let used : keeper.area.gate ≡ c.args.self.now.used = ap (λ (k : KeeperState g.row.D.Denot). k.used) c.self.view_is in
    let size : area_size keeper.header.geometry ≡ area_size c.args.self.now.geometry = ap (λ (k : KeeperState g.row.D.Denot). area_size k.geometry) c.self.view_is in
    let invariant = c.self.invariant in record {
      ok = search rules;
      err = tt;
      group_back = tt;
      unchanged = tt;
      extent = c.in-Ok.ensures.extent ∙ ap (λ (k : KeeperState g.row.D.Denot). g.D.Disk.extent k.disk) c.self.view_is;
      honest = (λ trusted. subst (λ (k : KeeperState g.row.D.Denot). g.D.Disk.honest k.disk) c.self.view_is (c.in-Ok.ensures.honest.0 trusted), λ trusted. c.in-Ok.ensures.honest.1 (subst (λ (k : KeeperState g.row.D.Denot). g.D.Disk.honest k.disk) (sym c.self.view_is) trusted));
      remembered = λ commands remembers changes.
          let group = c.args.group in
          let inside = subst (λ (k : KeeperState g.row.D.Denot). Remembers k commands) (sym c.self.view_is) remembers in
          let sizes = subst (λ (k : KeeperState g.row.D.Denot). AreChanges k.geometry.blocks (map change_of group.commands)) (sym c.self.view_is) changes in
          remembers_more _ _ commands (map change_of group.commands) (c.self.inside.area.from + c.self.inside.area.gate + 17) refl (ap (λ (area : AreaState). area.touched) c.in-Ok.ensures.ok) sizes inside;
      failed = (λ is. absurd is, λ fails. absurd (false≢true (sym works ∙ fails)));
      full = (λ is. absurd is, λ given. absurd (c.in-Ok.ensures.full.1 (omega (arith, given.1, used, size, invariant.6.bytes))));
      out_of_order = (λ is. absurd is, λ given. absurd (c.in-Ok.ensures.out_of_order.1 (omega (arith, given.1, used, size, invariant.6.bytes), λ follows. given.2 (count_above keeper.area.next group.first keeper.count invariant.7 (omega arith) follows ∙ ap (λ (n : ℕ). n + 1) count))));
      only = tt;
      faults_ok = c.in-Ok.ensures.faults_ok ∙ ap (λ (k : KeeperState g.row.D.Denot). g.D.Disk.faults k.disk) c.self.view_is;
      faults_err = tt;
      held = λ honest base fronts last holds changes.
          let keeper = c.self.inside in
          let group = c.args.group in
          let inside = subst (λ (k : KeeperState g.row.D.Denot). Holds k (g.D.Disk.state k.disk) base fronts last) (sym c.self.view_is) holds in
          let sound = subst (λ (k : KeeperState g.row.D.Denot). g.D.Disk.honest k.disk) (sym c.self.view_is) honest in
          let sizes = subst (λ (k : KeeperState g.row.D.Denot). AreChanges k.geometry.blocks (map change_of group.commands)) (sym c.self.view_is) changes in
          let long : length (map change_of group.commands) ≡ length group.commands = length-map group.commands change_of in
          let whole : IsGroup group.first group.commands = search rules in
          let grown_is = c.in-Ok.ensures.ok in
          let full = c.in-Ok.ensures.full in
          let next = is_next keeper.area.next group.first (λ not. c.in-Ok.ensures.out_of_order.1 (omega (arith, full.1), not)) in
          let honest_after = c.in-Ok.ensures.honest.1 sound in
          more_held _ (g.D.Disk.state keeper.disk) base fronts last inside (stored_of group) (g.D.Disk.state c.append.new.disk) _ (keeper.header.base + length (joined fronts) + length last + length group.commands)
          (g.met.D.Disk.sound c.append.new.disk honest_after)
          (omega (arith, long))
          (c.in-Ok.ensures.stored sound (first _ (g.D.Disk.state keeper.disk) _ _ inside.keeps) inside.keeps.areas.groups inside.keeps.areas.held (taken _ _ _ _ group inside.keeps sizes))
          (ap (λ (area : AreaState). area.from) grown_is) (ap (λ (area : AreaState). area.bytes) grown_is) (ap (λ (area : AreaState). area.blocks) grown_is)
          refl refl refl refl refl refl refl refl
          (count_on keeper.area.next group.first (length group.commands) keeper.count (keeper.header.base + length (joined fronts) + length last) c.next.result c.self.invariant.7 (omega arith) next whole.some whole.numbers (c.next.ensures ∙ ap (λ (area : AreaState). area.next) grown_is) inside.keeps.counted)
          (omega (arith, ap (λ (area : AreaState). area.gate) grown_is, size-stored group)) refl;
      any_moment = λ honest image number keeps changes.
          any_moment g.D.Disk.state g.D.Disk.honest _ c.args.self.now c.args.group (g.D.Disk.state c.append.new.disk) image number c.self.view_is c.append.ensures.any_moment honest keeps changes;
    }

pub returns-in-Err : goal.returns-in-Err
returns-in-Err g c =
    let keeper = c.self.inside in
    let group = c.args.group in
    let whole : IsGroup group.first group.commands = search rules in
    let works : c.args.self.now.failed ≡ false = ap (λ (k : KeeperState g.row.D.Denot). k.failed) (sym c.self.view_is) ∙ c.if-self.false in
    let count : keeper.count ≡ c.args.self.now.count = ap (λ (k : KeeperState g.row.D.Denot). k.count) c.self.view_is in
    let used : keeper.area.gate ≡ c.args.self.now.used = ap (λ (k : KeeperState g.row.D.Denot). k.used) c.self.view_is in
    let size : area_size keeper.header.geometry ≡ area_size c.args.self.now.geometry = ap (λ (k : KeeperState g.row.D.Denot). area_size k.geometry) c.self.view_is in
    let invariant = c.self.invariant in record {
      ok = tt;
      err = search rules;
      group_back = c.in-Err.ensures.group_back;
      unchanged = ⊎_elim (λ fails. inl (c.from-fault.ensures ∙ ap of_journal fails)) (λ same. inr (same ∙ ap (λ (k : KeeperState g.row.D.Denot). k.disk) c.self.view_is)) c.in-Err.ensures.unchanged;
      extent = c.in-Err.ensures.extent ∙ ap (λ (k : KeeperState g.row.D.Denot). g.D.Disk.extent k.disk) c.self.view_is;
      honest = (λ trusted. subst (λ (k : KeeperState g.row.D.Denot). g.D.Disk.honest k.disk) c.self.view_is (c.in-Err.ensures.honest.0 trusted), λ trusted. c.in-Err.ensures.honest.1 (subst (λ (k : KeeperState g.row.D.Denot). g.D.Disk.honest k.disk) (sym c.self.view_is) trusted));
      remembered = λ commands remembers changes. tt;
      failed = (λ is. absurd (never_failed c.in-Err.fault (sym c.from-fault.ensures ∙ is)), λ fails. absurd (false≢true (sym works ∙ fails)));
      full = (λ is. (works, omega (arith, c.in-Err.ensures.full.0 (filled c.in-Err.fault (sym c.from-fault.ensures ∙ is)), used, size, invariant.6.bytes)), λ given. c.from-fault.ensures ∙ ap of_journal (c.in-Err.ensures.full.1 (omega (arith, given.1, used, size, invariant.6.bytes))));
      out_of_order = (
        λ is.
            let given = c.in-Err.ensures.out_of_order.0 (ordered c.in-Err.fault (sym c.from-fault.ensures ∙ is)) in
            (works, omega (arith, given.0, used, size, invariant.6.bytes), λ same. given.1 (count_below keeper.area.next group.first keeper.count invariant.7 (omega (arith, whole.some, whole.numbers)) (same ∙ ap (λ (n : ℕ). n + 1) (sym count)))),
        λ given. c.from-fault.ensures ∙ ap of_journal (c.in-Err.ensures.out_of_order.1 (omega (arith, given.1, used, size, invariant.6.bytes), λ follows. given.2 (count_above keeper.area.next group.first keeper.count invariant.7 (omega arith) follows ∙ ap (λ (n : ℕ). n + 1) count))),
      );
      only = subst IsAppendFault (sym c.from-fault.ensures) (allowed c.in-Err.fault c.in-Err.ensures.undamaged);
      faults_ok = tt;
      faults_err = c.in-Err.ensures.faults_err ∙ same_count c.in-Err.fault _ ∙ ap (λ (f : KeeperFault). faults_by f (g.D.Disk.faults keeper.disk)) (sym c.from-fault.ensures) ∙ ap (λ (k : KeeperState g.row.D.Denot). faults_by c.from-fault.result (g.D.Disk.faults k.disk)) c.self.view_is;
      held = λ honest base fronts last holds changes. tt;
      any_moment = λ honest image number keeps changes.
          any_moment g.D.Disk.state g.D.Disk.honest _ c.args.self.now c.args.group (g.D.Disk.state c.append.new.disk) image number c.self.view_is c.append.ensures.any_moment honest keeps changes;
    }
