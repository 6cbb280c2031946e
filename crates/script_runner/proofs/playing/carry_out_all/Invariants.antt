use Rattle.std.proofs.Common.{◌≡◌, length}
use Rattle.script_runner.proofs.playing.carry_out_all.Given as goal

-- the device keeps its size
abbrev pub invariant-loop-line : goal.invariant-loop-line
invariant-loop-line g l = length l.life.keeper.disk.bytes.items ≡ length l.fn.life.keeper.disk.bytes.items
