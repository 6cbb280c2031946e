-- A call of a device over a file, and what it got.
use Rattle.std.specs.Prelude.{◌≡◌, ℕ, ◌+◌, ◌%◌, List, Result}
use Rattle.disk_model.specs.declared.disk.DeviceFault.{DeviceFault}
use Rattle.disk_model.specs.declared.file.FileDisk.{FileDisk}
use Rattle.disk_model.specs.declared.file.Seal.{Seal}

pub data FileCall : Type 0 where
  -- where it read, and the bytes that it got
  Read : ℕ → List ℕ → Result (Unit {0}) DeviceFault → FileCall
  -- where it wrote, and what
  Write : ℕ → List ℕ → Result (Unit {0}) DeviceFault → FileCall
  Sync : Result (Unit {0}) DeviceFault → FileCall

-- The device took this call between these two values of it, and counted it. No other crate can name the value of `Seal`. So only
-- `FileDisk` can prove of a call that it was taken, and nobody else can prove it or refute it.
pub data Took {F : Type 0} (before : FileDisk F) (call : FileCall) (after : FileDisk F) : Type 0 where
  Taken : Seal → after.calls ≡ (before.calls + 1) % 18446744073709551616 → Took before call after
