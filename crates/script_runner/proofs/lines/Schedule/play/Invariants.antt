use Rattle.std.proofs.Common.{◌≡◌, length}
use Rattle.script_runner.proofs.lines.Schedule.play.Given as goal

-- the device keeps its size
abbrev pub invariant-loop-steps : goal.invariant-loop-steps
invariant-loop-steps l = length l.disk.bytes.items ≡ length l.fn.disk.bytes.items

-- the board that was just made
abbrev pub ghosts-live : goal.ghosts-live
ghosts-live a = record { board = a.blank.board; opening = a.blank.opening }
