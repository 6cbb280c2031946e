use Rattle.std.proofs.Common.{◌≡◌, ◌+◌, ◌∙◌, ap, sym, refl, arith, rules}
use Rattle.std.proofs.lemmas.Grind.{common_steps}
use Rattle.std.proofs.lemmas.Bool.{false≢true}
use Rattle.std.proofs.lemmas.Result.{IfOk-from_err}
use Rattle.journal_format.specs.Faults.{faults_by}
use Rattle.journal_format.specs.Scanning.{IsScanFault}
use Rattle.journal_format.specs.declared.fault.JournalFault.TheVariants.{DeviceFault, DamagedGroup}
use Rattle.journal_format.specs.laws.Chained.{none_read, reads_on}
use Rattle.journal_format.specs.laws.Groups.{no_group, no_body, group_found}
use Rattle.journal_format.specs.laws.Noted.{passed_on}
use Rattle.journal_format.proofs.RefusalHandedOn.{err_with, not_damaged, ok_apart}
use Rattle.journal_format.proofs.scan.Place.open_group.Goals as goal
use Rattle.journal_format.proofs.scan.Place.open_group.Goals.{then-not-is_next-via-then-not-is_next, then-not-is_next-via-else-not-is_next+then-self-at-2}

pub returns-then-self-at : goal.returns-then-self-at
returns-then-self-at g c = record {
  causes = tt;
  extent = refl;
  faults_ok = tt;
  faults_err = refl;
  honest = (λ honest. honest, λ honest. honest);
  only_read = λ honest. none_read (g.met.D.Disk.sound c.args.disk.now honest);
  read_as = λ honest content known. known;
  later = tt;
  within = tt;
  found = λ honest content known is_open. tt;
  damaged = λ honest content known is_open damaged. record { is_open = is_open; none = λ group next stands inside. omega (arith, inside, c.if-self-at.true, c.requires.inside) };
}

pub returns-in_err-head : goal.returns-in_err-head
returns-in_err-head g c = record {
  causes = err_with c.from_residual.result DeviceFault IsScanFault c.from_residual.ensures.1 tt;
  extent = c.in_err-head.ensures.extent;
  faults_ok = IfOk-from_err c.from_residual.result _ c.from_residual.ensures.0;
  faults_err = err_with c.from_residual.result DeviceFault (λ fault. g.D.Disk.faults c.group_head.new.disk ≡ faults_by fault (g.D.Disk.faults c.args.disk.now)) c.from_residual.ensures.1 c.in_err-head.ensures.faults;
  honest = c.in_err-head.ensures.honest;
  only_read = c.in_err-head.ensures.only_read;
  read_as = c.in_err-head.ensures.read_as;
  later = IfOk-from_err c.from_residual.result _ c.from_residual.ensures.0;
  within = IfOk-from_err c.from_residual.result _ c.from_residual.ensures.0;
  found = λ honest content known is_open. IfOk-from_err c.from_residual.result _ c.from_residual.ensures.0;
  damaged = λ honest content known is_open damaged. absurd (not_damaged c.from_residual.result c.from_residual.ensures.1 damaged);
}

pub returns-then-not-is_next : goal.returns-then-not-is_next
returns-then-not-is_next g c = record {
  causes = tt;
  extent = c.in_ok-head.ensures.extent;
  faults_ok = tt;
  faults_err = c.in_ok-head.ensures.faults;
  honest = c.in_ok-head.ensures.honest;
  only_read = c.in_ok-head.ensures.only_read;
  read_as = c.in_ok-head.ensures.read_as;
  later = tt;
  within = tt;
  found = λ honest content known is_open. tt;
  damaged = λ honest content known is_open damaged.
      let area = c.args.self.now in
      let head = c.in_ok-head.head in
      no_group area.blocks content (area.from + c.args.at.gate) c.args.at.next head.body head.first head.count head.body_fits head.first_fits head.count_fits (c.in_ok-head.ensures.bytes honest content known) is_open
      (area.from + area.bytes)
      (λ is inside. elim c.then-not-is_next.branch [
        | then-not-is_next-via-then-not-is_next w ↦ false≢true (sym w.if-not-is_next.true ∙ c.is_next.ensures.1 is)
        | then-not-is_next-via-else-not-is_next+then-self-at-2 w ↦ omega (arith, inside, w.if-self-at-2.true)
      ]);
}

pub returns-in_err-commands : goal.returns-in_err-commands
returns-in_err-commands g c = record {
  causes = err_with c.from_residual-in_err-commands.result c.in_err-commands.field-0.0 IsScanFault c.from_residual-in_err-commands.ensures.1 c.in_err-commands.ensures.causes;
  extent = c.in_err-commands.ensures.extent ∙ c.in_ok-head.ensures.extent;
  faults_ok = IfOk-from_err c.from_residual-in_err-commands.result _ c.from_residual-in_err-commands.ensures.0;
  faults_err = err_with c.from_residual-in_err-commands.result c.in_err-commands.field-0.0 (λ fault. g.D.Disk.faults c.commands.new.disk ≡ faults_by fault (g.D.Disk.faults c.args.disk.now)) c.from_residual-in_err-commands.ensures.1 (c.in_err-commands.ensures.faults_err ∙ ap (faults_by c.in_err-commands.field-0.0) c.in_ok-head.ensures.faults);
  honest =
      let first = c.in_ok-head.ensures in
      let second = c.commands.ensures in
      (λ honest. first.honest.0 (second.honest.0 honest), λ honest. second.honest.1 (first.honest.1 honest));
  only_read = λ honest. reads_on (g.met.D.Disk.sound c.args.disk.now honest) (c.in_ok-head.ensures.only_read honest) (c.commands.ensures.only_read (c.in_ok-head.ensures.honest.1 honest));
  read_as = λ honest content known.
      let first = c.in_ok-head.ensures in
      c.commands.ensures.read_as (first.honest.1 honest) content (first.read_as honest content known);
  later = IfOk-from_err c.from_residual-in_err-commands.result _ c.from_residual-in_err-commands.ensures.0;
  within = IfOk-from_err c.from_residual-in_err-commands.result _ c.from_residual-in_err-commands.ensures.0;
  found = λ honest content known is_open. IfOk-from_err c.from_residual-in_err-commands.result _ c.from_residual-in_err-commands.ensures.0;
  damaged = λ honest content known is_open damaged.
      let area = c.args.self.now in
      let head = c.in_ok-head.head in
      no_body area.blocks content (area.from + c.args.at.gate) c.args.at.next head.body head.first head.count head.body_fits head.first_fits head.count_fits (c.in_ok-head.ensures.bytes honest content known) is_open
      (area.from + (c.args.at.gate + 17)) (area.from + (c.args.at.gate + 17 + head.body)) (omega arith) (omega arith)
      (area.from + area.bytes)
      (c.in_err-commands.ensures.damaged (c.in_ok-head.ensures.honest.1 honest) content (c.in_ok-head.ensures.read_as honest content known)
      (passed_on c.from_residual-in_err-commands.result c.in_err-commands.field-0.0 _ c.from_residual-in_err-commands.ensures.1 damaged));
}

pub returns : goal.returns
returns g c = record {
  causes = tt;
  extent = c.in_ok-commands.ensures.extent ∙ c.in_ok-head.ensures.extent;
  faults_ok = c.in_ok-commands.ensures.faults_ok ∙ c.in_ok-head.ensures.faults;
  faults_err = tt;
  honest =
      let first = c.in_ok-head.ensures in
      let second = c.commands.ensures in
      (λ honest. first.honest.0 (second.honest.0 honest), λ honest. second.honest.1 (first.honest.1 honest));
  only_read = λ honest. reads_on (g.met.D.Disk.sound c.args.disk.now honest) (c.in_ok-head.ensures.only_read honest) (c.commands.ensures.only_read (c.in_ok-head.ensures.honest.1 honest));
  read_as = λ honest content known.
      let first = c.in_ok-head.ensures in
      c.commands.ensures.read_as (first.honest.1 honest) content (first.read_as honest content known);
  later = first_of (search rules, grind (arith, common_steps));
  within = c.in_ok-commands.ensures.within;
  found = λ honest content known is_open.
      let area = c.args.self.now in
      let head = c.in_ok-head.head in
      group_found area.blocks content (area.from + c.args.at.gate) c.args.at.next head.body head.first head.count head.body_fits head.first_fits head.count_fits (c.in_ok-head.ensures.bytes honest content known) is_open
      (area.from + (c.args.at.gate + 17)) (area.from + (c.args.at.gate + 17 + head.body)) (omega arith) (omega arith)
      c.args.touched.now.items c.commands.new.touched.items _ _ refl refl (c.is_next.ensures.0 c.if-not-is_next.false)
      (c.in_ok-commands.ensures.found (c.in_ok-head.ensures.honest.1 honest) content (c.in_ok-head.ensures.read_as honest content known));
  damaged = λ honest content known is_open damaged. absurd (ok_apart _ DamagedGroup damaged);
}
