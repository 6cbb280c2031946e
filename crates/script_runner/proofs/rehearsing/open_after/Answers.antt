use Rattle.std.proofs.Common.{◌∙◌, sym, subst}
use Rattle.std.proofs.lemmas.Result.{IfOk-weaker}
use Rattle.disk_model.specs.Disk.{MayLeave}
use Rattle.disk_model.specs.SimDisk.{seen_bytes, state_now}
use Rattle.disk_model.specs.laws.Contents.{leaves_seen}
use Rattle.script_runner.proofs.rehearsing.open_after.Goals as goal

-- what a crash left of the crashed device it left of the device before it
pub returns-in-Crash-clause-found : goal.returns-in-Crash-clause-found
returns-in-Crash-clause-found g c =
    let crashed = c.crash.new.self in
    IfOk-weaker c.open_again.result _ _
    (λ opened found.
    let (image, (content, may, stands)) = found in
    let same = leaves_seen (state_now crashed) content c.crash.ensures.found.synced may in
    (image, (content, subst (MayLeave (state_now c.args.disk)) (sym (same ∙ c.crash.ensures.found.seen)) c.crash.ensures.allowed, stands)))
    c.open_again.ensures.found
