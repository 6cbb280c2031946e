-- Definitions for contracts between functions of this crate, next to those of `Puts`.
use Rattle.std.specs.Prelude.{ℕ, ◌+◌, ◌<◌, ◌≤◌, ◌-◌, ◌*◌}
use Rattle.latest_writes.specs.declared.range.PutRange.{PutRange}

-- the blocks of a put from this one on
abbrev pub put_from : ℕ → PutRange → PutRange
put_from block put = record {
  first = put.first + (block - put.first);
  blocks = put.blocks - (block - put.first);
  place = put.place + 4096 * (block - put.first);
}

-- a put ends before or at the block, or after it
abbrev pub EndsBy : ℕ → PutRange → Type 0
EndsBy block put = put.first + put.blocks ≤ block

abbrev pub EndsBehind : ℕ → PutRange → Type 0
EndsBehind block put = block < put.first + put.blocks
