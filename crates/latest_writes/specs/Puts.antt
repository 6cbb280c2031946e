-- The blocks whose last touch is a put.
use Rattle.std.specs.Prelude.{ℕ, ◌≡◌, ◌≢◌, ◌+◌, ◌*◌, ◌<◌, ◌≤◌, Bool, true, false, List, [], ◌∷◌, Option, Some, None}
use Rattle.std.specs.List.{flat_map}
use Rattle.latest_writes.specs.declared.touch.LastTouch.{LastTouch}
use Rattle.latest_writes.specs.declared.touch.LastTouch.TheVariants.{Put, Clear}
use Rattle.latest_writes.specs.declared.range.LastRange.{LastRange}
use Rattle.latest_writes.specs.declared.range.PutRange.{PutRange}
use Rattle.latest_writes.specs.Ranges.{touch_at}

-- whether the last touch of a block is a put
abbrev pub is_put : Option LastTouch → Bool
is_put None = false
is_put (Some (Put place)) = true
is_put (Some (Clear kind)) = false

-- from this block on no block's last touch is a put
abbrev pub HasNoPut : ℕ → List LastRange → Type 0
HasNoPut from ranges = (block : ℕ) → from ≤ block → is_put (touch_at block ranges) ≡ false

-- The first block from a number on whose last touch is a put, and how many blocks from there follow one another in the
-- image and in the area.
pub record IsNextPut (from : ℕ) (ranges : List LastRange) (put : PutRange) : Type 0 where
  pub behind : from ≤ put.first
  pub first : (block : ℕ) → from ≤ block → block < put.first → is_put (touch_at block ranges) ≡ false
  pub some : 1 ≤ put.blocks
  pub puts : (k : ℕ) → k < put.blocks → touch_at (put.first + k) ranges ≡ Some (Put (put.place + 4096 * k))
  pub longest : touch_at (put.first + put.blocks) ranges ≢ Some (Put (put.place + 4096 * put.blocks))

-- what of a range are puts
abbrev pub put_of : ℕ → ℕ → LastTouch → List PutRange
put_of first blocks (Put place) = record { first = first; blocks = blocks; place = place } ∷ []
put_of first blocks (Clear kind) = []

-- the puts among ranges
abbrev pub puts_of : List LastRange → List PutRange
puts_of ranges = flat_map (λ range. put_of range.first range.blocks range.touch) ranges
