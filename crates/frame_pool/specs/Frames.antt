-- the bytes that frames have
use Rattle.std.specs.Prelude.{ℕ, ◌+◌, ◌≤◌, List, replicate, Option, unwrap_or}
use Rattle.frame_pool.specs.Cells.{IsWritten}
use Rattle.frame_pool.specs.Lists.{ListsState, times}

-- the bytes of a frame, or zeros where it has none
abbrev pub shown : Option (List ℕ) → List ℕ
shown bytes = unwrap_or bytes (replicate 4096 0)

-- Each frame on the clean and dirty lists has bytes, so that one which was never written is free.
abbrev pub HaveBytes : ListsState → List (Option (List ℕ)) → Type 0
HaveBytes lists frames = (frame : ℕ) → 1 ≤ times frame lists.clean + times frame lists.dirty → IsWritten frames frame
