-- What a device is after reads alone.
use Rattle.disk_model.specs.Disk.{State, IsKept, MayLeave, LeavesOnly}

-- after reads, good or failed: nothing was written, and a crash leaves what it might have left before
pub record IsOnlyRead (before after : State) : Type 0 where
  pub kept : IsKept before after
  pub any_moment : LeavesOnly before after (MayLeave before)
