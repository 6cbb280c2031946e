use Rattle.std.proofs.Common.{◌≡◌, ◌≤◌, ◌+◌, ◌∙◌, ℕ, List, [], ◌∷◌, length, ap, sym, subst, refl, arith}
use Rattle.std.proofs.lemmas.Result.{IfOk-from_err}
use Rattle.image_model.specs.Change.{Change}
use Rattle.journal_format.specs.declared.touch.TouchedRange.{TouchedRange}
use Rattle.journal_format.specs.inner.Scanning.{FoundChanges, StandBetween}
use Rattle.journal_format.specs.Touches.{AreWithin, ranges_of}
use Rattle.journal_format.specs.laws.Chained.{none_read, reads_on}
use Rattle.journal_format.specs.laws.Found.{found_none, left_none, found_more, left_more, none_next, within_append, within_more}
use Rattle.journal_format.specs.laws.Noted.{passed_on}
use Rattle.journal_format.specs.Faults.{faults_by}
use Rattle.journal_format.specs.Scanning.{IsScanFault}
use Rattle.journal_format.specs.declared.fault.JournalFault.TheVariants.{NoMemory, DamagedGroup}
use Rattle.journal_format.proofs.RefusalHandedOn.{err_with, memory_undamaged, ok_apart}
use Rattle.journal_format.proofs.scan.Place.commands.Goals as goal

pub loop-init : goal.loop-init
loop-init g c =
    let area = c.args.self.now in
    record {
      extent = refl;
      faults = refl;
      honest = (λ honest. honest, λ honest. honest);
      only_read = λ honest. none_read (g.met.D.Disk.sound c.args.disk.now honest);
      order = c.requires.order;
      within = λ within. within;
      read_as = λ honest content known. known;
      found = λ honest content known. found_none area.blocks content (area.from + c.args.from) c.args.touched.now.items;
      left = λ honest content known. left_none area.blocks content (area.from + c.args.from) (area.from + c.args.end) c.args.count;
    }

pub loop-preserved : goal.loop-preserved
loop-preserved g c =
    let area = c.args.self.now in
    let loop = c.loop.invariant in
    let read = c.in_ok-found.ensures in
    record {
      extent = read.extent ∙ loop.extent;
      faults = read.faults_ok ∙ loop.faults;
      honest = (λ honest. loop.honest.0 (read.honest.0 honest), λ honest. read.honest.1 (loop.honest.1 honest));
      only_read = λ honest. reads_on (g.met.D.Disk.sound c.args.disk.now honest) (loop.only_read honest) (read.only_read (loop.honest.1 honest));
      order = read.inside.1;
      within = λ within.
          subst (AreWithin area.from (area.from + area.bytes)) (sym {A = List TouchedRange} c.in_ok-note.ensures.ok)
          (within_append area.from (area.from + area.bytes) c.loop.touched.items (ranges_of c.in_ok-found.found.touch) (loop.within within)
          (within_more area.from (area.from + c.in_ok-found.found.end) (area.from + area.bytes) (omega (arith, read.inside.1, c.requires.inside)) (ranges_of c.in_ok-found.found.touch) read.within));
      read_as = λ honest content known. read.read_as (loop.honest.1 honest) content (loop.read_as honest content known);
      found = λ honest content known. found_more area.blocks content (area.from + c.args.from) _ _ _ _ _ _ _ (loop.found honest content known) (read.found (loop.honest.1 honest) content (loop.read_as honest content known)) c.in_ok-note.ensures.ok;
      left = λ honest content known. left_more area.blocks area.blocks_fit content (area.from + c.args.from) _ _ _ _ (loop.left honest content known) _ _ (read.found (loop.honest.1 honest) content (loop.read_as honest content known)) c.loop-test.true;
    }

pub returns-in_err-found : goal.returns-in_err-found
returns-in_err-found g c = record {
  causes = err_with c.from_residual.result c.in_err-found.field-0.0 IsScanFault c.from_residual.ensures.1 c.in_err-found.ensures.causes;
  extent = c.in_err-found.ensures.extent ∙ c.loop.invariant.extent;
  faults_ok = IfOk-from_err c.from_residual.result _ c.from_residual.ensures.0;
  faults_err = err_with c.from_residual.result c.in_err-found.field-0.0 (λ fault. g.D.Disk.faults c.command.new.disk ≡ faults_by fault (g.D.Disk.faults c.args.disk.now)) c.from_residual.ensures.1 (c.in_err-found.ensures.faults_err ∙ ap (faults_by c.in_err-found.field-0.0) c.loop.invariant.faults);
  honest =
      let loop = c.loop.invariant in
      let read = c.in_err-found.ensures in
      (λ honest. loop.honest.0 (read.honest.0 honest), λ honest. read.honest.1 (loop.honest.1 honest));
  only_read = λ honest.
      let loop = c.loop.invariant in
      reads_on (g.met.D.Disk.sound c.args.disk.now honest) (loop.only_read honest) (c.in_err-found.ensures.only_read (loop.honest.1 honest));
  read_as = λ honest content known.
      let loop = c.loop.invariant in
      c.in_err-found.ensures.read_as (loop.honest.1 honest) content (loop.read_as honest content known);
  within = IfOk-from_err c.from_residual.result _ c.from_residual.ensures.0;
  found = λ honest content known. IfOk-from_err c.from_residual.result _ c.from_residual.ensures.0;
  damaged = λ honest content known damaged.
      let area = c.args.self.now in
      let loop = c.loop.invariant in
      none_next area.blocks area.blocks_fit content (area.from + c.args.from) _ _ _ _ (loop.left honest content known)
      (c.in_err-found.ensures.damaged (loop.honest.1 honest) content (loop.read_as honest content known) (passed_on c.from_residual.result c.in_err-found.field-0.0 _ c.from_residual.ensures.1 damaged))
      c.loop-test.true;
}

pub returns-in_err-note : goal.returns-in_err-note
returns-in_err-note g c = record {
  causes = err_with c.from_residual-in_err-note.result NoMemory IsScanFault c.from_residual-in_err-note.ensures.1 tt;
  extent = c.in_ok-found.ensures.extent ∙ c.loop.invariant.extent;
  faults_ok = IfOk-from_err c.from_residual-in_err-note.result _ c.from_residual-in_err-note.ensures.0;
  faults_err = err_with c.from_residual-in_err-note.result NoMemory (λ fault. g.D.Disk.faults c.command.new.disk ≡ faults_by fault (g.D.Disk.faults c.args.disk.now)) c.from_residual-in_err-note.ensures.1 (c.in_ok-found.ensures.faults_ok ∙ c.loop.invariant.faults);
  honest =
      let loop = c.loop.invariant in
      let read = c.in_ok-found.ensures in
      (λ honest. loop.honest.0 (read.honest.0 honest), λ honest. read.honest.1 (loop.honest.1 honest));
  only_read = λ honest.
      let loop = c.loop.invariant in
      reads_on (g.met.D.Disk.sound c.args.disk.now honest) (loop.only_read honest) (c.in_ok-found.ensures.only_read (loop.honest.1 honest));
  read_as = λ honest content known.
      let loop = c.loop.invariant in
      c.in_ok-found.ensures.read_as (loop.honest.1 honest) content (loop.read_as honest content known);
  within = IfOk-from_err c.from_residual-in_err-note.result _ c.from_residual-in_err-note.ensures.0;
  found = λ honest content known. IfOk-from_err c.from_residual-in_err-note.result _ c.from_residual-in_err-note.ensures.0;
  damaged = λ honest content known damaged. absurd (memory_undamaged c.from_residual-in_err-note.result c.from_residual-in_err-note.ensures.1 damaged);
}

-- where all were read and the end isn't reached, this many changes don't stand up to it
none_left : (image : ℕ) (content : List ℕ) (place end passed count : ℕ) (left : List Change) → StandBetween image content place end left → passed + length left ≡ count → count ≤ passed → (place ≡ end → ⊥) → ⊥
none_left image content place end passed count [] between is all apart =
    let same : place ≡ end = omega (arith, between.end_is) in
    apart same
none_left image content place end passed count (change ∷ left) between is all apart = absurd (omega (arith, is, all))

pub returns-else-place-end : goal.returns-else-place-end
returns-else-place-end g c = record {
  causes = tt;
  extent = c.loop.invariant.extent;
  faults_ok = tt;
  faults_err = c.loop.invariant.faults;
  honest = c.loop.invariant.honest;
  only_read = c.loop.invariant.only_read;
  read_as = c.loop.invariant.read_as;
  within = tt;
  found = λ honest content known. tt;
  damaged = λ honest content known damaged changes between is.
      let there = (c.loop.invariant.left honest content known).rest changes between is in
      none_left c.args.self.now.blocks content _ _ _ _ there.0 there.1 there.2 c.loop-test.false (λ same. c.if-place-end.false (omega (arith, same)));
}

pub returns-then-place-end : goal.returns-then-place-end
returns-then-place-end g c = record {
  causes = tt;
  extent = c.loop.invariant.extent;
  faults_ok = c.loop.invariant.faults;
  faults_err = tt;
  honest = c.loop.invariant.honest;
  only_read = c.loop.invariant.only_read;
  read_as = c.loop.invariant.read_as;
  within = c.loop.invariant.within;
  found = λ honest content known.
      let area = c.args.self.now in
      let all : c.loop.counter ≡ c.args.count = omega arith in
      let up_to = λ (place count : ℕ). FoundChanges area.blocks content (area.from + c.args.from) (area.from + place) count c.args.touched.now.items c.loop.touched.items in
      subst (λ (count : ℕ). up_to c.args.end count) all (subst (λ (place : ℕ). up_to place c.loop.counter) c.if-place-end.true (c.loop.invariant.found honest content known));
  damaged = λ honest content known damaged. absurd (ok_apart _ DamagedGroup damaged);
}
