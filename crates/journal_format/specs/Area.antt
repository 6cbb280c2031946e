-- areas as callers see them
use Rattle.std.specs.Prelude.{ℕ, List}
use Rattle.journal_format.specs.declared.touch.TouchedRange.{TouchedRange}

-- an area of a device
pub record AreaState : Type 0 where
  -- its first byte on the device, and its number of bytes
  pub from : ℕ
  pub bytes : ℕ
  -- the blocks of the image that its commands are for
  pub blocks : ℕ
  -- the number that the next group begins with; 0 where no number is left
  pub next : ℕ
  -- the place in the area of the gate after its last group
  pub gate : ℕ
  -- what its commands touched, in their order
  pub touched : List TouchedRange
