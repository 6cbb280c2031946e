use Rattle.std.proofs.Common.{◌≡◌, ◌+◌, ◌∙◌, List, ap, sym, subst, refl, arith}
use Rattle.std.proofs.lemmas.Result.{IfOk-from_err}
use Rattle.journal_format.specs.declared.touch.TouchedRange.{TouchedRange}
use Rattle.journal_format.specs.Scanning.{FoundList, IsScanFault}
use Rattle.journal_format.specs.Touches.{AreWithin}
use Rattle.journal_format.specs.laws.Chained.{none_read, reads_on}
use Rattle.journal_format.specs.laws.Groups.{lead_none, lead_more, lead_ends, lead_damaged}
use Rattle.journal_format.specs.laws.Noted.{passed_on}
use Rattle.journal_format.specs.Faults.{faults_by}
use Rattle.journal_format.specs.declared.fault.JournalFault.TheVariants.{NoMemory}
use Rattle.journal_format.proofs.RefusalHandedOn.{err_with, memory_undamaged}
use Rattle.journal_format.proofs.scan.Place.list_end.Goals as goal

pub loop-window-init : goal.loop-window-init
loop-window-init g c =
    let area = c.args.self.now in
    record {
      extent = refl;
      faults = refl;
      honest = (λ honest. honest, λ honest. honest);
      only_read = λ honest. none_read (g.met.D.Disk.sound c.args.disk.now honest);
      within = c.requires.some;
      none = λ none. (c.requires.none_noted, refl);
      noted = subst (AreWithin area.from (area.from + area.bytes)) (sym c.requires.none_noted) tt;
      read_as = λ honest content known. record { scanned = known; held = λ k below. absurd (omega (arith, below, c.in_ok-window.ensures)) };
      found = λ honest content known. lead_none area.blocks content area.from c.args.next c.args.touched.now.items c.requires.none_noted;
    }

pub returns-in_err-behind : goal.returns-in_err-behind
returns-in_err-behind g c = record {
  causes = err_with c.from_residual-in_err-behind.result c.in_err-behind.field-0.0 IsScanFault c.from_residual-in_err-behind.ensures.1 c.in_err-behind.ensures.causes;
  extent = c.in_err-behind.ensures.extent ∙ c.loop-window.invariant.extent;
  faults_ok = IfOk-from_err c.from_residual-in_err-behind.result _ c.from_residual-in_err-behind.ensures.0;
  faults_err = err_with c.from_residual-in_err-behind.result c.in_err-behind.field-0.0 (λ fault. g.D.Disk.faults c.group_at.new.disk ≡ faults_by fault (g.D.Disk.faults c.args.disk.now)) c.from_residual-in_err-behind.ensures.1 (c.in_err-behind.ensures.faults_err ∙ ap (faults_by c.in_err-behind.field-0.0) c.loop-window.invariant.faults);
  honest =
      let loop = c.loop-window.invariant in
      let read = c.in_err-behind.ensures in
      (λ honest. loop.honest.0 (read.honest.0 honest), λ honest. read.honest.1 (loop.honest.1 honest));
  only_read = λ honest.
      let loop = c.loop-window.invariant in
      reads_on (g.met.D.Disk.sound c.args.disk.now honest) (loop.only_read honest) (c.in_err-behind.ensures.only_read (loop.honest.1 honest));
  inside = IfOk-from_err c.from_residual-in_err-behind.result _ c.from_residual-in_err-behind.ensures.0;
  within = IfOk-from_err c.from_residual-in_err-behind.result _ c.from_residual-in_err-behind.ensures.0;
  none = IfOk-from_err c.from_residual-in_err-behind.result _ c.from_residual-in_err-behind.ensures.0;
  found = λ honest content known. IfOk-from_err c.from_residual-in_err-behind.result _ c.from_residual-in_err-behind.ensures.0;
  damaged = λ honest content known damaged.
      let area = c.args.self.now in
      let loop = c.loop-window.invariant in
      lead_damaged area.blocks content area.from c.args.next _ _ _ (loop.found honest content known) area.bytes loop.within
      (c.in_err-behind.ensures.damaged (loop.honest.1 honest) content (loop.read_as honest content known)
      (passed_on c.from_residual-in_err-behind.result c.in_err-behind.field-0.0 _ c.from_residual-in_err-behind.ensures.1 damaged));
}

pub loop-window-preserved : goal.loop-window-preserved
loop-window-preserved g c =
    let area = c.args.self.now in
    let loop = c.loop-window.invariant in
    let read = c.in_ok-behind.ensures in
    let later = rw c.in-Some.is at read.later in
    record {
      extent = read.extent ∙ loop.extent;
      faults = read.faults_ok ∙ loop.faults;
      honest = (λ honest. loop.honest.0 (read.honest.0 honest), λ honest. read.honest.1 (loop.honest.1 honest));
      only_read = λ honest. reads_on (g.met.D.Disk.sound c.args.disk.now honest) (loop.only_read honest) (read.only_read (loop.honest.1 honest));
      within = later.1;
      none = λ none. absurd (omega (arith, later.0, none));
      noted = read.within loop.noted;
      read_as = λ honest content known. read.read_as (loop.honest.1 honest) content (loop.read_as honest content known);
      found = λ honest content known.
          let more = rw c.in-Some.is at (read.found (loop.honest.1 honest) content (loop.read_as honest content known)) in
          lead_more area.blocks content area.from c.args.next _ _ _ (loop.found honest content known) c.in-Some.behind.gate c.in-Some.behind.next _ more;
    }

pub returns-clause-only_read : goal.returns-clause-only_read
returns-clause-only_read g c honest =
    reads_on (g.met.D.Disk.sound c.args.disk.now honest) (c.loop-window.invariant.only_read honest) (c.in_ok-behind.ensures.only_read (c.loop-window.invariant.honest.1 honest))

pub returns-clause-within : goal.returns-clause-within
returns-clause-within g c = c.in_ok-behind.ensures.within c.loop-window.invariant.noted

pub returns-clause-found : goal.returns-clause-found
returns-clause-found g c honest content known =
    let area = c.args.self.now in
    let loop = c.loop-window.invariant in
    let read = c.in_ok-behind.ensures in
    let closed = rw c.in_default.is at (read.closed (loop.honest.1 honest) content (loop.read_as honest content known)) in
    let same = rw c.in_default.is at read.same in
    subst (λ (touched : List TouchedRange). FoundList area.blocks content area.from c.args.next c.loop-window.end.gate c.loop-window.end.next touched) (sym {A = List TouchedRange} same)
    (lead_ends area.blocks content area.from c.args.next _ _ _ (loop.found honest content known) closed)

pub returns-clause-honest : goal.returns-clause-honest
returns-clause-honest g c =
    let loop = c.loop-window.invariant in
    let read = c.in_ok-behind.ensures in
    (λ honest. loop.honest.0 (read.honest.0 honest), λ honest. read.honest.1 (loop.honest.1 honest))

pub returns-clause-none : goal.returns-clause-none
returns-clause-none g c none =
    let same = rw c.in_default.is at c.in_ok-behind.ensures.same in
    let empty = c.loop-window.invariant.none none in
    (same ∙ empty.0, empty.1)

pub returns-in_err-window : goal.returns-in_err-window
returns-in_err-window g c = record {
  causes = err_with c.from_residual.result NoMemory IsScanFault c.from_residual.ensures.1 tt;
  extent = refl;
  faults_ok = IfOk-from_err c.from_residual.result _ c.from_residual.ensures.0;
  faults_err = err_with c.from_residual.result NoMemory (λ fault. g.D.Disk.faults c.args.disk.now ≡ faults_by fault (g.D.Disk.faults c.args.disk.now)) c.from_residual.ensures.1 refl;
  honest = (λ honest. honest, λ honest. honest);
  only_read = λ honest. none_read (g.met.D.Disk.sound c.args.disk.now honest);
  inside = IfOk-from_err c.from_residual.result _ c.from_residual.ensures.0;
  within = IfOk-from_err c.from_residual.result _ c.from_residual.ensures.0;
  none = IfOk-from_err c.from_residual.result _ c.from_residual.ensures.0;
  found = λ honest content known. IfOk-from_err c.from_residual.result _ c.from_residual.ensures.0;
  damaged = λ honest content known damaged. absurd (memory_undamaged c.from_residual.result c.from_residual.ensures.1 damaged);
}
