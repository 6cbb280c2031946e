use Rattle.std.proofs.Common.{◌∙◌, subst, ℕ, List}
use Rattle.device_image.specs.Stands.{StandsFor}
use Rattle.disk_model.specs.SimDisk.{seen_bytes, state_now}
use Rattle.disk_model.specs.laws.Contents.{leaves_seen}
use Rattle.script_runner.proofs.rehearsing.open_again.Goals as goal

pub returns-in-Ok-open : goal.returns-in-Ok-open
returns-in-Ok-open g c =
    let keeper = c.in-Ok-open.opened.0 in
    let opened = c.in-Ok-open.ensures.opened tt in
    let crashed = c.crash.new.self in
    let same = leaves_seen (state_now crashed) opened.content c.crash.ensures.found.synced opened.fixed in
    let again = subst (λ (content : List ℕ). StandsFor content opened.image keeper.count) (same ∙ c.crash.ensures.found.seen) opened.stands in
    record {
      recovered = c.in-Ok-open.ensures.recovered;
      keeps = (opened.image, opened.keeps);
      found = (opened.image, c.in-Err.ensures.refused tt (seen_bytes crashed) opened.image keeper.count c.crash.ensures.allowed again);
    }

pub returns-in-Ok-clause-recovered : goal.returns-in-Ok-clause-recovered
returns-in-Ok-clause-recovered g c = c.in-Ok.ensures.recovered

pub returns-in-Ok-clause-keeps : goal.returns-in-Ok-clause-keeps
returns-in-Ok-clause-keeps g c =
    let opened = c.in-Ok.ensures.opened tt in
    (opened.image, opened.keeps)

pub returns-in-Ok-clause-found : goal.returns-in-Ok-clause-found
returns-in-Ok-clause-found g c =
    let opened = c.in-Ok.ensures.opened tt in
    (opened.image, (opened.content, opened.fixed, opened.stands))
