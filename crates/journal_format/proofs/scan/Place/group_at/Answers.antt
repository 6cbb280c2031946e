use Rattle.std.proofs.Common.{◌≡◌, ◌∙◌, ap, sym, refl}
use Rattle.std.proofs.lemmas.Result.{IfOk-from_err}
use Rattle.journal_format.specs.Faults.{faults_by}
use Rattle.journal_format.specs.Scanning.{IsScanFault}
use Rattle.journal_format.specs.declared.fault.JournalFault.TheVariants.{DeviceFault, DamagedGroup}
use Rattle.journal_format.specs.laws.Chained.{reads_on}
use Rattle.journal_format.specs.laws.Noted.{passed_on}
use Rattle.journal_format.proofs.RefusalHandedOn.{err_with, not_damaged, ok_apart}
use Rattle.journal_format.proofs.scan.Place.group_at.Goals as goal

pub returns-in_err-byte : goal.returns-in_err-byte
returns-in_err-byte g c = record {
  causes = err_with c.from_residual.result DeviceFault IsScanFault c.from_residual.ensures.1 tt;
  extent = c.in_err-byte.ensures.extent;
  faults_ok = IfOk-from_err c.from_residual.result _ c.from_residual.ensures.0;
  faults_err = err_with c.from_residual.result DeviceFault (λ fault. g.D.Disk.faults c.byte.new.disk ≡ faults_by fault (g.D.Disk.faults c.args.disk.now)) c.from_residual.ensures.1 c.in_err-byte.ensures.faults;
  honest = c.in_err-byte.ensures.honest;
  only_read = c.in_err-byte.ensures.only_read;
  read_as = c.in_err-byte.ensures.read_as;
  later = IfOk-from_err c.from_residual.result _ c.from_residual.ensures.0;
  within = IfOk-from_err c.from_residual.result _ c.from_residual.ensures.0;
  same = IfOk-from_err c.from_residual.result _ c.from_residual.ensures.0;
  closed = λ honest content known. IfOk-from_err c.from_residual.result _ c.from_residual.ensures.0;
  found = λ honest content known. IfOk-from_err c.from_residual.result _ c.from_residual.ensures.0;
  damaged = λ honest content known damaged. absurd (not_damaged c.from_residual.result c.from_residual.ensures.1 damaged);
}

pub returns-then-branch-ne-OPEN : goal.returns-then-branch-ne-OPEN
returns-then-branch-ne-OPEN g c = record {
  causes = tt;
  extent = c.in_ok-byte.ensures.extent;
  faults_ok = c.in_ok-byte.ensures.faults;
  faults_err = tt;
  honest = c.in_ok-byte.ensures.honest;
  only_read = c.in_ok-byte.ensures.only_read;
  read_as = c.in_ok-byte.ensures.read_as;
  later = tt;
  within = λ within. within;
  same = refl;
  closed = λ honest content known is_open. c.if-branch-ne-OPEN.true (sym (c.in_ok-byte.ensures.bytes honest content known) ∙ is_open);
  found = λ honest content known. tt;
  damaged = λ honest content known damaged. absurd (ok_apart _ DamagedGroup damaged);
}

pub returns-in_err-found : goal.returns-in_err-found
returns-in_err-found g c = record {
  causes = err_with c.from_residual-in_err-found.result c.in_err-found.field-0.0 IsScanFault c.from_residual-in_err-found.ensures.1 c.in_err-found.ensures.causes;
  extent = c.in_err-found.ensures.extent ∙ c.in_ok-byte.ensures.extent;
  faults_ok = IfOk-from_err c.from_residual-in_err-found.result _ c.from_residual-in_err-found.ensures.0;
  faults_err = err_with c.from_residual-in_err-found.result c.in_err-found.field-0.0 (λ fault. g.D.Disk.faults c.open_group.new.disk ≡ faults_by fault (g.D.Disk.faults c.args.disk.now)) c.from_residual-in_err-found.ensures.1 (c.in_err-found.ensures.faults_err ∙ ap (faults_by c.in_err-found.field-0.0) c.in_ok-byte.ensures.faults);
  honest =
      let first = c.byte.ensures in
      let second = c.open_group.ensures in
      (λ honest. first.honest.0 (second.honest.0 honest), λ honest. second.honest.1 (first.honest.1 honest));
  only_read = λ honest. reads_on (g.met.D.Disk.sound c.args.disk.now honest) (c.byte.ensures.only_read honest) (c.open_group.ensures.only_read (c.byte.ensures.honest.1 honest));
  read_as = λ honest content known.
      let first = c.byte.ensures in
      c.open_group.ensures.read_as (first.honest.1 honest) content (first.read_as honest content known);
  later = IfOk-from_err c.from_residual-in_err-found.result _ c.from_residual-in_err-found.ensures.0;
  within = IfOk-from_err c.from_residual-in_err-found.result _ c.from_residual-in_err-found.ensures.0;
  same = IfOk-from_err c.from_residual-in_err-found.result _ c.from_residual-in_err-found.ensures.0;
  closed = λ honest content known. IfOk-from_err c.from_residual-in_err-found.result _ c.from_residual-in_err-found.ensures.0;
  found = λ honest content known. IfOk-from_err c.from_residual-in_err-found.result _ c.from_residual-in_err-found.ensures.0;
  damaged = λ honest content known damaged.
      c.in_err-found.ensures.damaged (c.in_ok-byte.ensures.honest.1 honest) content (c.in_ok-byte.ensures.read_as honest content known) (c.in_ok-byte.ensures.bytes honest content known ∙ c.if-branch-ne-OPEN.false)
      (passed_on c.from_residual-in_err-found.result c.in_err-found.field-0.0 _ c.from_residual-in_err-found.ensures.1 damaged);
}

pub returns : goal.returns
returns g c = record {
  causes = tt;
  extent = c.in_ok-found.ensures.extent ∙ c.in_ok-byte.ensures.extent;
  faults_ok = c.in_ok-found.ensures.faults_ok ∙ c.in_ok-byte.ensures.faults;
  faults_err = tt;
  honest =
      let first = c.byte.ensures in
      let second = c.open_group.ensures in
      (λ honest. first.honest.0 (second.honest.0 honest), λ honest. second.honest.1 (first.honest.1 honest));
  only_read = λ honest. reads_on (g.met.D.Disk.sound c.args.disk.now honest) (c.byte.ensures.only_read honest) (c.open_group.ensures.only_read (c.byte.ensures.honest.1 honest));
  read_as = λ honest content known.
      let first = c.byte.ensures in
      c.open_group.ensures.read_as (first.honest.1 honest) content (first.read_as honest content known);
  later = c.in_ok-found.ensures.later;
  within = c.in_ok-found.ensures.within;
  same = tt;
  closed = λ honest content known. tt;
  found = λ honest content known. c.in_ok-found.ensures.found (c.in_ok-byte.ensures.honest.1 honest) content (c.in_ok-byte.ensures.read_as honest content known) (c.in_ok-byte.ensures.bytes honest content known ∙ c.if-branch-ne-OPEN.false);
  damaged = λ honest content known damaged. absurd (ok_apart _ DamagedGroup damaged);
}
