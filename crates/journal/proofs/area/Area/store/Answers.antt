use Rattle.std.proofs.Common.{◌≡◌, ◌⊎◌, inl, inr, ◌+◌, ◌≤◌, List, ◌++◌, length, take, ap, ◌∙◌, refl, subst, arith}
use Rattle.std.proofs.lemmas.List.{length-map, take_all}
use Rattle.std.proofs.lemmas.Result.{IfOk-from_err}
use Rattle.disk_model.specs.laws.Moments.{begins, weakens}
use Rattle.image_model.specs.Change.{change_of}
use Rattle.journal_format.specs.Area.{AreaState}
use Rattle.journal_format.specs.Faults.{faults_by}
use Rattle.journal_format.specs.Group.{number_after}
use Rattle.journal_format.specs.GroupList.{size_of, number_behind}
use Rattle.journal_format.specs.Spelling.{stored_of}
use Rattle.journal_format.specs.Touches.{touched_by_changes}
use Rattle.journal_format.specs.declared.fault.JournalFault.TheVariants.{NoMemory, DeviceFault, AreaFull, OutOfOrder, DamagedGroup}
use Rattle.journal_format.specs.declared.touch.TouchedRange.{TouchedRange}
use Rattle.journal.specs.laws.Added.{length-written, size-stored, follows, stays_either, range_synced, either_at, held_after_at}
use Rattle.journal.proofs.RefusalHandedOn.{err_with, which_as, other_one, only_undamaged, only_kept, ok_apart}
use Rattle.journal.proofs.area.Area.store.Goals as goal

-- which refusals those of memory and of the device aren't
memory_full : NoMemory ≡ AreaFull → ⊥
memory_full is = cc

memory_late : NoMemory ≡ OutOfOrder → ⊥
memory_late is = cc

memory_damage : NoMemory ≡ DamagedGroup → ⊥
memory_damage is = cc

device_full : DeviceFault ≡ AreaFull → ⊥
device_full is = cc

device_late : DeviceFault ≡ OutOfOrder → ⊥
device_late is = cc

device_damage : DeviceFault ≡ DamagedGroup → ⊥
device_damage is = cc

-- what a list begins with, under another name
begins_with : (held begun new : List TouchedRange) → begun ≡ held → take (length begun) new ≡ begun → take (length held) new ≡ held
begins_with held begun new same begins = subst (λ (list : List TouchedRange). take (length list) new ≡ list) same begins

begins_itself : (list : List TouchedRange) → take (length list) list ≡ list
begins_itself list = take_all (length list) list (omega arith)

pub returns-in_err-check_group : goal.returns-in_err-check_group
returns-in_err-check_group g c = record {
  noted = IfOk-from_err c.from_residual.result _ c.from_residual.ensures.0;
  same = refl;
  begins = begins_itself c.args.self.now.touched;
  fits = IfOk-from_err c.from_residual.result _ c.from_residual.ensures.0;
  extent = refl;
  honest = (λ honest. honest, λ honest. honest);
  full = which_as c.from_residual.result c.in_err-check_group.field-0.0 AreaFull c.from_residual.ensures.1 c.in_err-check_group.ensures.full;
  out_of_order = which_as c.from_residual.result c.in_err-check_group.field-0.0 OutOfOrder c.from_residual.ensures.1 c.in_err-check_group.ensures.out_of_order;
  undamaged = err_with c.from_residual.result c.in_err-check_group.field-0.0 (λ fault. fault ≡ DamagedGroup → ⊥) c.from_residual.ensures.1 (only_undamaged c.in_err-check_group.field-0.0 c.in_err-check_group.ensures.only);
  faults_ok = IfOk-from_err c.from_residual.result _ c.from_residual.ensures.0;
  faults_err = err_with c.from_residual.result c.in_err-check_group.field-0.0 (λ fault. g.D.Disk.faults c.args.disk.now ≡ faults_by fault (g.D.Disk.faults c.args.disk.now)) c.from_residual.ensures.1 (only_kept c.in_err-check_group.field-0.0 _ c.in_err-check_group.ensures.only);
  unchanged = err_with c.from_residual.result c.in_err-check_group.field-0.0 (λ fault. (fault ≡ DeviceFault) ⊎ (c.args.disk.now ≡ c.args.disk.now)) c.from_residual.ensures.1 (inr refl);
  stored = λ honest first groups held changes. IfOk-from_err c.from_residual.result _ c.from_residual.ensures.0;
  any_moment = λ honest first groups held changes.
      begins (g.met.D.Disk.sound c.args.disk.now honest) (stays_either c.args.self.now first groups _ held (stored_of c.args.group.now));
}

pub returns-in_err-spell : goal.returns-in_err-spell
returns-in_err-spell g c = record {
  noted = IfOk-from_err c.from_residual-in_err-spell.result _ c.from_residual-in_err-spell.ensures.0;
  same = ap (λ (area : AreaState). record area { touched = c.self.inside.touched.items }) c.self.view_is;
  begins =
      begins_with _ _ _ (ap (λ (area : AreaState). area.touched) c.self.view_is) (begins_itself c.self.inside.touched.items);
  fits = IfOk-from_err c.from_residual-in_err-spell.result _ c.from_residual-in_err-spell.ensures.0;
  extent = refl;
  honest = (λ honest. honest, λ honest. honest);
  full = other_one c.from_residual-in_err-spell.result NoMemory AreaFull c.from_residual-in_err-spell.ensures.1 memory_full (λ over. absurd (omega (arith, over, c.in_ok-check_group.ensures.fits)));
  out_of_order = other_one c.from_residual-in_err-spell.result NoMemory OutOfOrder c.from_residual-in_err-spell.ensures.1 memory_late (λ at. at.1 c.in_ok-check_group.ensures.next);
  undamaged = err_with c.from_residual-in_err-spell.result NoMemory (λ fault. fault ≡ DamagedGroup → ⊥) c.from_residual-in_err-spell.ensures.1 memory_damage;
  faults_ok = IfOk-from_err c.from_residual-in_err-spell.result _ c.from_residual-in_err-spell.ensures.0;
  faults_err = err_with c.from_residual-in_err-spell.result NoMemory (λ fault. g.D.Disk.faults c.args.disk.now ≡ faults_by fault (g.D.Disk.faults c.args.disk.now)) c.from_residual-in_err-spell.ensures.1 refl;
  unchanged = err_with c.from_residual-in_err-spell.result NoMemory (λ fault. (fault ≡ DeviceFault) ⊎ (c.args.disk.now ≡ c.args.disk.now)) c.from_residual-in_err-spell.ensures.1 (inr refl);
  stored = λ honest first groups held changes. IfOk-from_err c.from_residual-in_err-spell.result _ c.from_residual-in_err-spell.ensures.0;
  any_moment = λ honest first groups held changes.
      begins (g.met.D.Disk.sound c.args.disk.now honest) (stays_either c.args.self.now first groups _ held (stored_of c.args.group.now));
}

pub write_group-requires : goal.write_group-requires
write_group-requires g c =
    let bytes = c.deref.ensures.value ∙ c.in_ok-spell.ensures.spelled in
    omega (
      arith,
      ap length bytes,
      length-written (stored_of c.args.group.now),
      size-stored c.args.group.now,
      c.in_ok-check_group.ensures.fits,
      c.requires,
      ap (λ (area : AreaState). area.from) c.self.view_is,
      ap (λ (area : AreaState). area.gate) c.self.view_is,
    )

pub returns-in_err-write_group : goal.returns-in_err-write_group
returns-in_err-write_group g c = record {
  noted = IfOk-from_err c.from_residual-in_err-write_group.result _ c.from_residual-in_err-write_group.ensures.0;
  same = ap (λ (area : AreaState). record area { touched = c.note.new.touched.items }) c.self.view_is;
  begins =
      begins_with _ _ _ (ap (λ (area : AreaState). area.touched) c.self.view_is) c.in_ok-note.ensures.begins;
  fits = IfOk-from_err c.from_residual-in_err-write_group.result _ c.from_residual-in_err-write_group.ensures.0;
  extent = c.in_err-write_group.ensures.extent;
  honest = c.in_err-write_group.ensures.honest;
  full = other_one c.from_residual-in_err-write_group.result DeviceFault AreaFull c.from_residual-in_err-write_group.ensures.1 device_full (λ over. absurd (omega (arith, over, c.in_ok-check_group.ensures.fits)));
  out_of_order = other_one c.from_residual-in_err-write_group.result DeviceFault OutOfOrder c.from_residual-in_err-write_group.ensures.1 device_late (λ at. at.1 c.in_ok-check_group.ensures.next);
  undamaged = err_with c.from_residual-in_err-write_group.result DeviceFault (λ fault. fault ≡ DamagedGroup → ⊥) c.from_residual-in_err-write_group.ensures.1 device_damage;
  faults_ok = IfOk-from_err c.from_residual-in_err-write_group.result _ c.from_residual-in_err-write_group.ensures.0;
  faults_err = err_with c.from_residual-in_err-write_group.result DeviceFault (λ fault. g.D.Disk.faults c.write_group.new.disk ≡ faults_by fault (g.D.Disk.faults c.args.disk.now)) c.from_residual-in_err-write_group.ensures.1 c.in_err-write_group.ensures.faults;
  unchanged = err_with c.from_residual-in_err-write_group.result DeviceFault (λ fault. (fault ≡ DeviceFault) ⊎ (c.write_group.new.disk ≡ c.args.disk.now)) c.from_residual-in_err-write_group.ensures.1 (inl refl);
  stored = λ honest first groups held changes. IfOk-from_err c.from_residual-in_err-write_group.result _ c.from_residual-in_err-write_group.ensures.0;
  any_moment = λ honest first groups held changes.
      let area = c.args.self.now in
      let group = c.args.group.now in
      let bytes = c.deref.ensures.value ∙ c.in_ok-spell.ensures.spelled in
      let place : c.self.inside.from + c.self.inside.gate ≡ area.from + area.gate = omega (arith, ap (λ (area : AreaState). area.from) c.self.view_is, ap (λ (area : AreaState). area.gate) c.self.view_is) in
      let next = follows area group c.check_group.ensures.sound c.in_ok-check_group.ensures.next changes in
      let fits : area.gate + 1 + size_of (stored_of group) ≤ area.bytes = omega (arith, size-stored group, c.in_ok-check_group.ensures.fits) in
      weakens (c.write_group.ensures.any_moment honest (range_synced area first groups _ held (stored_of group) next fits _ _ place bytes))
      (either_at area first groups _ held (stored_of group) next fits _ _ place bytes);
}

pub returns : goal.returns
returns g c = record {
  noted =
      ap (λ (area : AreaState). record area { touched = c.note.new.touched.items }) c.self.view_is
      ∙ ap (λ (touched : List TouchedRange). record c.args.self.now { touched = touched })
      (c.in_ok-note.ensures.noted ∙ ap (λ (area : AreaState). area.touched ++ touched_by_changes (area.from + area.gate + 17) (stored_of c.args.group.now).changes) c.self.view_is);
  same = ap (λ (area : AreaState). record area { touched = c.note.new.touched.items }) c.self.view_is;
  begins =
      begins_with _ _ _ (ap (λ (area : AreaState). area.touched) c.self.view_is) c.in_ok-note.ensures.begins;
  fits = c.in_ok-check_group.ensures.fits;
  extent = c.in_ok-write_group.ensures.extent;
  honest = c.in_ok-write_group.ensures.honest;
  full = (λ is. absurd (ok_apart _ AreaFull is), λ over. absurd (omega (arith, over, c.in_ok-check_group.ensures.fits)));
  out_of_order = (λ is. absurd (ok_apart _ OutOfOrder is), λ at. absurd (at.1 c.in_ok-check_group.ensures.next));
  undamaged = tt;
  faults_ok = c.in_ok-write_group.ensures.faults;
  faults_err = tt;
  unchanged = tt;
  stored = λ honest first groups held changes.
      let area = c.args.self.now in
      let group = c.args.group.now in
      let bytes = c.deref.ensures.value ∙ c.in_ok-spell.ensures.spelled in
      let place : c.self.inside.from + c.self.inside.gate ≡ area.from + area.gate = omega (arith, ap (λ (area : AreaState). area.from) c.self.view_is, ap (λ (area : AreaState). area.gate) c.self.view_is) in
      let next = follows area group c.check_group.ensures.sound c.in_ok-check_group.ensures.next changes in
      let fits : area.gate + 1 + size_of (stored_of group) ≤ area.bytes = omega (arith, size-stored group, c.in_ok-check_group.ensures.fits) in
      let number : number_after group ≡ number_behind (stored_of group) = omega (arith, length-map group.commands change_of) in
      held_after_at area first groups _ held (stored_of group) next fits _ _ place bytes _ _ _ _ number (omega (arith, size-stored group)) refl
      (c.in_ok-write_group.ensures.stored honest (range_synced area first groups _ held (stored_of group) next fits _ _ place bytes));
  any_moment = λ honest first groups held changes.
      let area = c.args.self.now in
      let group = c.args.group.now in
      let bytes = c.deref.ensures.value ∙ c.in_ok-spell.ensures.spelled in
      let place : c.self.inside.from + c.self.inside.gate ≡ area.from + area.gate = omega (arith, ap (λ (area : AreaState). area.from) c.self.view_is, ap (λ (area : AreaState). area.gate) c.self.view_is) in
      let next = follows area group c.check_group.ensures.sound c.in_ok-check_group.ensures.next changes in
      let fits : area.gate + 1 + size_of (stored_of group) ≤ area.bytes = omega (arith, size-stored group, c.in_ok-check_group.ensures.fits) in
      weakens (c.write_group.ensures.any_moment honest (range_synced area first groups _ held (stored_of group) next fits _ _ place bytes))
      (either_at area first groups _ held (stored_of group) next fits _ _ place bytes);
}

pub invariant_of-self-in_err-note : goal.invariant_of-self-in_err-note
invariant_of-self-in_err-note g c =
    (c.self.invariant.0, c.self.invariant.1, c.in_err-note.ensures.within c.self.inside.from (c.self.inside.from + c.self.inside.bytes) (omega arith) (omega (arith, c.in_ok-check_group.ensures.fits, ap (λ (area : AreaState). area.gate) c.self.view_is, ap (λ (area : AreaState). area.bytes) c.self.view_is)) c.self.invariant.2)

pub returns-in_err-note : goal.returns-in_err-note
returns-in_err-note g c = record {
  noted = IfOk-from_err c.from_residual-in_err-note.result _ c.from_residual-in_err-note.ensures.0;
  same = ap (λ (area : AreaState). record area { touched = c.note.new.touched.items }) c.self.view_is;
  begins =
      begins_with _ _ _ (ap (λ (area : AreaState). area.touched) c.self.view_is) c.in_err-note.ensures.begins;
  fits = IfOk-from_err c.from_residual-in_err-note.result _ c.from_residual-in_err-note.ensures.0;
  extent = refl;
  honest = (λ honest. honest, λ honest. honest);
  full = other_one c.from_residual-in_err-note.result NoMemory AreaFull c.from_residual-in_err-note.ensures.1 memory_full (λ over. absurd (omega (arith, over, c.in_ok-check_group.ensures.fits)));
  out_of_order = other_one c.from_residual-in_err-note.result NoMemory OutOfOrder c.from_residual-in_err-note.ensures.1 memory_late (λ at. at.1 c.in_ok-check_group.ensures.next);
  undamaged = err_with c.from_residual-in_err-note.result NoMemory (λ fault. fault ≡ DamagedGroup → ⊥) c.from_residual-in_err-note.ensures.1 memory_damage;
  faults_ok = IfOk-from_err c.from_residual-in_err-note.result _ c.from_residual-in_err-note.ensures.0;
  faults_err = err_with c.from_residual-in_err-note.result NoMemory (λ fault. g.D.Disk.faults c.args.disk.now ≡ faults_by fault (g.D.Disk.faults c.args.disk.now)) c.from_residual-in_err-note.ensures.1 refl;
  unchanged = err_with c.from_residual-in_err-note.result NoMemory (λ fault. (fault ≡ DeviceFault) ⊎ (c.args.disk.now ≡ c.args.disk.now)) c.from_residual-in_err-note.ensures.1 (inr refl);
  stored = λ honest first groups held changes. IfOk-from_err c.from_residual-in_err-note.result _ c.from_residual-in_err-note.ensures.0;
  any_moment = λ honest first groups held changes.
      begins (g.met.D.Disk.sound c.args.disk.now honest) (stays_either c.args.self.now first groups _ held (stored_of c.args.group.now));
}

pub invariant_of-self-in_err-write_group : goal.invariant_of-self-in_err-write_group
invariant_of-self-in_err-write_group g c =
    (c.self.invariant.0, c.self.invariant.1, c.in_ok-note.ensures.within c.self.inside.from (c.self.inside.from + c.self.inside.bytes) (omega arith) (omega (arith, c.in_ok-check_group.ensures.fits, ap (λ (area : AreaState). area.gate) c.self.view_is, ap (λ (area : AreaState). area.bytes) c.self.view_is)) c.self.invariant.2)

pub invariant_of-self-2 : goal.invariant_of-self-2
invariant_of-self-2 g c =
    (c.self.invariant.0, c.self.invariant.1, c.in_ok-note.ensures.within c.self.inside.from (c.self.inside.from + c.self.inside.bytes) (omega arith) (omega (arith, c.in_ok-check_group.ensures.fits, ap (λ (area : AreaState). area.gate) c.self.view_is, ap (λ (area : AreaState). area.bytes) c.self.view_is)) c.self.invariant.2)
