-- The last touches of an area as ranges, each of blocks that follow one another in the image, and where they were put
-- also in the area.
use Rattle.std.specs.Prelude.{ℕ, ◌≡◌, ◌+◌, ◌<◌, ◌≤◌, List, [], ◌∷◌, Option, None}
use Rattle.latest_writes.specs.declared.touch.LastTouch.{LastTouch}
use Rattle.journal_format.specs.Touches.{last_touch}
use Rattle.journal_format.specs.declared.touch.TouchedRange.{TouchedRange}
use Rattle.latest_writes.specs.declared.range.LastRange.{LastRange}
use Rattle.latest_writes.specs.Touches.{HasBytesWithin, later, said_by, touch_on_device, touch_within}

-- what the ranges say of the block
abbrev pub touch_at : ℕ → List LastRange → Option LastTouch
touch_at block [] = None
touch_at block (range ∷ ranges) = later (said_by range.first range.blocks range.touch block) (touch_at block ranges)

-- at least one block; block numbers, and the places of a put's bytes, have 32 bits
pub record IsRange (range : LastRange) : Type 0 where
  pub some : 1 ≤ range.blocks
  pub blocks_fit : range.first + range.blocks ≤ 4294967295
  pub bytes_fit : HasBytesWithin 4294967295 range.blocks range.touch

-- ranges from one block on up to another, each after the one before it
abbrev pub AreRanges : ℕ → ℕ → List LastRange → Type 0
AreRanges from to [] = from ≤ to
AreRanges from to (range ∷ ranges) = (from ≤ range.first) × IsRange range × AreRanges (range.first + range.blocks) to ranges

-- the next range begins where the range ends, in the image and in the area, or is of the same kind
abbrev pub GoesOn : LastRange → LastRange → Type 0
GoesOn range next = (range.first + range.blocks ≡ next.first) × (touch_within range.blocks range.touch ≡ next.touch)

-- no range goes on where the one before it ends
abbrev pub EndsBefore : LastRange → List LastRange → Type 0
EndsBefore range [] = Unit {0}
EndsBefore range (next ∷ ranges) = GoesOn range next → ⊥

abbrev pub AreLongest : List LastRange → Type 0
AreLongest [] = Unit {0}
AreLongest (range ∷ ranges) = EndsBefore range ranges × AreLongest ranges

-- the ranges say of each block before `blocks` its last touch by an area that begins at this place, and nothing of others
pub record AreLastTouches (from blocks : ℕ) (touched : List TouchedRange) (ranges : List LastRange) : Type 0 where
  pub apart : AreRanges 0 4294967295 ranges
  pub longest : AreLongest ranges
  pub exact : (block : ℕ) → block < blocks → touch_on_device from (touch_at block ranges) ≡ last_touch block touched
  pub none : (block : ℕ) → blocks ≤ block → touch_at block ranges ≡ None
