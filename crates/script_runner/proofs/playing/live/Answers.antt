use Rattle.std.proofs.Common.{◌∙◌, ap, length}
use Rattle.disk_model.specs.declared.sim.SimDisk.{SimDisk}
use Rattle.script_runner.proofs.playing.live.Goals.{in-Some, in_default-armed}
use Rattle.script_runner.proofs.playing.live.Goals as goal

pub begin-requires-clause-board : goal.begin-requires-clause-board
begin-requires-clause-board g c = c.requires.board

pub begin-requires-clause-named : goal.begin-requires-clause-named
begin-requires-clause-named g c = c.requires.named

pub begin-requires-clause-opening : goal.begin-requires-clause-opening
begin-requires-clause-opening g c = c.requires.opening

pub begin-requires-clause-recovered : goal.begin-requires-clause-recovered
begin-requires-clause-recovered g c = c.requires.recovered

pub begin-requires-clause-keeps : goal.begin-requires-clause-keeps
begin-requires-clause-keeps g c = ∣ (λ _. c.requires.keeps) ∣₁

pub returns-in-Ok-done : goal.returns-in-Ok-done
returns-in-Ok-done g c =
    let begun = ap (λ keeper. length keeper.disk.bytes.items) c.in-Ok.ensures in
    let ended = ap (λ (disk : SimDisk). length disk.bytes.items) c.end-ended.ensures.disk ∙ c.carry_out_all-done.ensures in
    elim c.match-armed.branch [
      | in-Some w ↦ ended ∙ ap (λ life. length life.keeper.disk.bytes.items) w.life-is ∙ w.arm.ensures ∙ begun
      | in_default-armed w ↦ ended ∙ ap (λ life. length life.keeper.disk.bytes.items) w.life-is ∙ begun
    ]
