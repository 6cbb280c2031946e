-- a base that the order of an export has noted
use Rattle.std.specs.Prelude.{ℕ}
use Rattle.export.specs.declared.commit_queue.NotedBase.{NotedBase}

-- the number of the last command in it
abbrev pub base_of : NotedBase → ℕ
base_of noted = noted.number
