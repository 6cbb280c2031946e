use Rattle.std.proofs.Common.{◌≡◌, ◌+◌, ◌≤◌, ◌∙◌, ap, refl, subst, arith}
use Rattle.std.proofs.lemmas.Result.{IfOk-from_err}
use Rattle.disk_model.specs.Disk.{IsSyncedIn}
use Rattle.journal_format.specs.Area.{AreaState}
use Rattle.journal_format.specs.Faults.{faults_by}
use Rattle.journal_format.specs.GroupList.{HoldsList, IsDamaged}
use Rattle.journal_format.specs.Scanning.{IsScanFault}
use Rattle.journal_format.specs.declared.fault.JournalFault.TheVariants.{DamagedGroup}
use Rattle.journal_format.specs.laws.Groups.{damage_of, holds_list, list_of}
use Rattle.journal_format.specs.laws.Noted.{passed_on}
use Rattle.journal_format.specs.laws.OneList.{damaged_none}
use Rattle.journal_format.specs.laws.Windows.{scanned_before, scanned_after, scanned_on}
use Rattle.journal.proofs.RefusalHandedOn.{err_with, ok_apart}
use Rattle.journal.proofs.area.Area.scan.Goals as goal

pub returns-in_err-end : goal.returns-in_err-end
returns-in_err-end g c = record {
  err = err_with c.from_residual.result c.in_err-end.field-0.0 (λ fault. c.args.self.now ≡ c.args.self.now) c.from_residual.ensures.1 refl;
  causes = err_with c.from_residual.result c.in_err-end.field-0.0 IsScanFault c.from_residual.ensures.1 c.in_err-end.ensures.causes;
  same = (refl, refl, refl);
  none = IfOk-from_err c.from_residual.result _ c.from_residual.ensures.0;
  extent = c.in_err-end.ensures.extent;
  honest = c.in_err-end.ensures.honest;
  faults_ok = IfOk-from_err c.from_residual.result _ c.from_residual.ensures.0;
  faults_err = err_with c.from_residual.result c.in_err-end.field-0.0 (λ fault. g.D.Disk.faults c.list_end.new.disk ≡ faults_by fault (g.D.Disk.faults c.args.disk.now)) c.from_residual.ensures.1 c.in_err-end.ensures.faults_err;
  only_read = c.in_err-end.ensures.only_read;
  held = λ honest synced. IfOk-from_err c.from_residual.result _ c.from_residual.ensures.0;
  damaged = λ honest synced damaged.
      let content = (g.D.Disk.state c.args.disk.now).seen in
      let sound = g.met.D.Disk.sound c.args.disk.now honest in
      subst (λ (area : AreaState). IsSyncedIn (g.D.Disk.state c.args.disk.now) area.from area.bytes → area.from + area.bytes ≤ g.D.Disk.extent c.args.disk.now → IsDamaged area area.next content) c.self.view_is
      (λ synced inside. damage_of _ _ content (c.in_err-end.ensures.damaged honest content (scanned_before c.self.inside.from c.self.inside.bytes sound inside synced)
      (passed_on c.from_residual.result c.in_err-end.field-0.0 _ c.from_residual.ensures.1 damaged)))
      synced c.requires;
  damage_found = λ honest synced damaged. c.from_residual.ensures.0;
}

pub returns : goal.returns
returns g c = record {
  err = tt;
  causes = tt;
  same = (ap (λ (area : AreaState). area.from) c.self.view_is, ap (λ (area : AreaState). area.bytes) c.self.view_is, ap (λ (area : AreaState). area.blocks) c.self.view_is);
  none = λ at.
      let empty = c.in_ok-end.ensures.none at in
      (empty.0, empty.1 ∙ ap (λ (area : AreaState). area.next) c.self.view_is);
  extent = c.in_ok-end.ensures.extent;
  honest = c.in_ok-end.ensures.honest;
  faults_ok = c.in_ok-end.ensures.faults_ok;
  faults_err = tt;
  only_read = c.in_ok-end.ensures.only_read;
  held = λ honest synced.
      let before = g.D.Disk.state c.args.disk.now in
      let after = g.D.Disk.state c.list_end.new.disk in
      let sound = g.met.D.Disk.sound c.args.disk.now honest in
      let read = c.in_ok-end.ensures.only_read honest in
      subst (λ (area : AreaState). IsSyncedIn before area.from area.bytes → area.from + area.bytes ≤ g.D.Disk.extent c.args.disk.now → HoldsList (record {
        from = c.self.inside.from;
        bytes = c.self.inside.bytes;
        blocks = c.self.inside.blocks;
        next = c.in_ok-end.end.next;
        gate = c.in_ok-end.end.gate;
        touched = c.list_end.new.touched.items;
      }) area.next after) c.self.view_is
      (λ synced inside. holds_list c.self.inside.from c.self.inside.bytes c.self.inside.blocks c.self.inside.next _ _ _ after
      (c.in_ok-end.ensures.found honest after.seen (scanned_after c.self.inside.from c.self.inside.bytes sound read inside synced))
      c.in_ok-end.ensures.inside
      (scanned_on before.seen c.self.inside.from c.self.inside.bytes sound read (scanned_before c.self.inside.from c.self.inside.bytes sound inside synced)).synced)
      synced c.requires;
  damaged = λ honest synced damaged. absurd (ok_apart _ DamagedGroup damaged);
  damage_found = λ honest synced damaged.
      let before = g.D.Disk.state c.args.disk.now in
      let sound = g.met.D.Disk.sound c.args.disk.now honest in
      absurd (subst (λ (area : AreaState). IsSyncedIn before area.from area.bytes → area.from + area.bytes ≤ g.D.Disk.extent c.args.disk.now → IsDamaged area area.next before.seen → ⊥) c.self.view_is
      (λ synced inside damaged.
      let found = c.in_ok-end.ensures.found honest before.seen (scanned_before c.self.inside.from c.self.inside.bytes sound inside synced) in
      damaged_none _ c.self.inside.next before.seen found.groups (omega (arith, c.self.ranges)) damaged (list_of _ c.self.inside.next _ _ _ before.seen found c.in_ok-end.ensures.inside))
      synced c.requires damaged);
}
