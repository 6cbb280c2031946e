use Rattle.std.proofs.Common.{ℕ, ◌<◌}
use Rattle.server.specs.Sessions.{HasCall}
use Rattle.server.proofs.session_pass.LastSessionPass.has_all.Given as goal

-- the passes looked at so far have joined
abbrev pub invariant-loop-at : goal.invariant-loop-at
invariant-loop-at g l = (by : ℕ) → by < l.at → ∥ HasCall by l.self.last.roster.calls ∥₁
