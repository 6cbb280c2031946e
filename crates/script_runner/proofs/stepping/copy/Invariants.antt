use Rattle.std.proofs.Common.{◌≡◌, length}
use Rattle.script_runner.proofs.stepping.copy.Given as goal

-- the device keeps its size
abbrev pub invariant-loop : goal.invariant-loop
invariant-loop g l = length l.life.keeper.disk.bytes.items ≡ length l.fn.life.keeper.disk.bytes.items
