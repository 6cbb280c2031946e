use Rattle.export.proofs.OpeningFindsImage.{found}
use Rattle.export.proofs.OpeningWithoutMemory.{handed_back}
use Rattle.export.proofs.export.OpenDevice.open.Goals as goal

pub returns-in-Err-new-clause-found : goal.returns-in-Err-new-clause-found
returns-in-Err-new-clause-found g c = λ honest.
    let (content, opening) = c.in-Ok.ensures.found honest in
    let keeper = c.in-Ok.keeper in
    (content, handed_back (g.D.Disk.state c.args.disk) g.D.Disk.state keeper c.into_disk.result c.into_disk.ensures content opening)

pub returns-in-Err-new-clause-any_moment : goal.returns-in-Err-new-clause-any_moment
returns-in-Err-new-clause-any_moment g c = λ honest synced image number stands. rw c.into_disk.ensures (c.in-Ok.ensures.any_moment honest synced image number stands)

pub returns-in-Err-new-clause-at_rest : goal.returns-in-Err-new-clause-at_rest
returns-in-Err-new-clause-at_rest g c = λ honest synced rest. rw c.into_disk.ensures (c.in-Ok.ensures.at_rest honest synced rest)

pub returns-in-Ok-new-clause-held : goal.returns-in-Ok-new-clause-held
returns-in-Ok-new-clause-held g c = λ sure.
    let keeper = c.in-Ok.keeper in
    let (content, opening) = c.in-Ok.ensures.found (c.in-Ok.ensures.honest.0 sure) in
    let outcome = opening.outcome in
    found keeper (g.D.Disk.state keeper.disk) outcome.0 (c.keeper_laws.ensures.empty keeper outcome.0 keeper.count outcome.2 c.in-Ok.ensures.recovered.phase c.in-Ok.ensures.recovered.used)
