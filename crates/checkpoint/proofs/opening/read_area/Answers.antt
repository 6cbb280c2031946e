use Rattle.std.proofs.Common.{◌≡◌, ℕ, Err, List, ◌∙◌, ap, subst}
use Rattle.std.proofs.lemmas.Result.{IfOk-from_err}
use Rattle.image_model.specs.declared.geometry.Geometry.{Geometry}
use Rattle.journal_format.specs.Area.{AreaState}
use Rattle.journal_format.specs.GroupList.{IsDamaged}
use Rattle.regions.specs.Layout.{area_at}
use Rattle.device_image.specs.Stands.{area_of}
use Rattle.checkpoint.proofs.AreasReadInTurn.{moved_damage, scan_refused}
use Rattle.checkpoint.proofs.SyncedReads.{at_refusal, seen_same}
use Rattle.checkpoint.proofs.opening.read_area.Goals as goal

pub returns-in_err-scan-clause-read : goal.returns-in_err-scan-clause-read
returns-in_err-scan-clause-read g c honest synced =
    let call = c.in_err-scan.ensures in
    let area = c.new-area.result in
    let before = g.D.Disk.state c.args.disk.now in
    let after = g.D.Disk.state c.scan.new.disk in
    let new = c.new-area.ensures in
    let from : area.from ≡ area_at c.args.geometry.now c.args.index = ap (λ (a : AreaState). a.from) new ∙ c.area_from-from.ensures.place ∙ ap (λ (size : Geometry). area_at size c.args.index) c.from_geometry.ensures in
    let same = seen_same (g.met.D.Disk.sound c.args.disk.now honest) synced (call.only_read honest) in
    let first : area.next ≡ c.args.next = ap (λ (a : AreaState). a.next) new in
    at_refusal _ _ _ _ c.from_residual.ensures.1
    (scan_refused c.in_err-scan.field-0.0 _ call.causes (λ is.
    moved_damage area (area_of c.args.geometry.now c.args.index) c.args.next after.seen from (ap (λ (a : AreaState). a.bytes) new ∙ c.area_size.ensures) (ap (λ (a : AreaState). a.blocks) new)
    (subst (λ (content : List ℕ). IsDamaged area c.args.next content) same
    (subst (λ (n : ℕ). IsDamaged area n before.seen) first (call.damaged honest (λ place within. synced place) (ap Err is))))))

pub returns-in_err-scan-clause-faults_ok : goal.returns-in_err-scan-clause-faults_ok
returns-in_err-scan-clause-faults_ok g c =
    IfOk-from_err c.from_residual.result _ c.from_residual.ensures.0

pub returns-in_err-scan-clause-placed : goal.returns-in_err-scan-clause-placed
returns-in_err-scan-clause-placed g c =
    IfOk-from_err c.from_residual.result _ c.from_residual.ensures.0

pub returns-in_err-scan-clause-none : goal.returns-in_err-scan-clause-none
returns-in_err-scan-clause-none g c =
    IfOk-from_err c.from_residual.result _ c.from_residual.ensures.0

pub returns-in_err-scan-clause-extent : goal.returns-in_err-scan-clause-extent
returns-in_err-scan-clause-extent g c =
    c.in_err-scan.ensures.extent

pub returns-in_err-scan-clause-honest : goal.returns-in_err-scan-clause-honest
returns-in_err-scan-clause-honest g c =
    c.in_err-scan.ensures.honest

pub returns-in_err-scan-clause-only_read : goal.returns-in_err-scan-clause-only_read
returns-in_err-scan-clause-only_read g c =
    c.in_err-scan.ensures.only_read

pub returns-clause-extent : goal.returns-clause-extent
returns-clause-extent g c =
    c.in_ok-scan.ensures.extent

pub returns-clause-honest : goal.returns-clause-honest
returns-clause-honest g c =
    c.in_ok-scan.ensures.honest

pub returns-clause-only_read : goal.returns-clause-only_read
returns-clause-only_read g c =
    c.in_ok-scan.ensures.only_read

pub returns-clause-faults_ok : goal.returns-clause-faults_ok
returns-clause-faults_ok g c =
    c.in_ok-scan.ensures.faults_ok

pub returns-clause-faults_err : goal.returns-clause-faults_err
returns-clause-faults_err g c =
    tt
