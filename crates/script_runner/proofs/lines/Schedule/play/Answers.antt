use Rattle.script_runner.proofs.lines.Schedule.play.Goals as goal

pub live-requires-clause-keeps : goal.live-requires-clause-keeps
live-requires-clause-keeps c =
    let opened = c.in-Ok.ensures.opened tt in
    (opened.image, opened.keeps)
