-- A checkpoint that is under way, in memory: what is left of it, and what comes next.
use Rattle.std.specs.Prelude.{ℕ, ◌≡◌, ◌+◌, ◌*◌, ◌<◌, ◌≤◌, false, List, [], ◌∷◌, length, Option, Some, IfSome}
use Rattle.journal_format.specs.Area.{AreaState}
use Rattle.journal_format.specs.Touches.{last_touch}
use Rattle.image_model.specs.declared.command.Kind.{Kind}
use Rattle.journal_format.specs.declared.touch.Touch.TheVariants.{Put}
use Rattle.journal_format.specs.declared.touch.TouchedRange.{TouchedRange}
use Rattle.latest_writes.specs.Ranges.{AreLastTouches}
use Rattle.latest_writes.specs.Resolved.{ResolvedTouches}
use Rattle.latest_writes.specs.Touches.{on_device}
use Rattle.latest_writes.specs.declared.range.LastRange.{LastRange}
use Rattle.latest_writes.specs.declared.range.PutRange.{PutRange}
use Rattle.device_image.specs.Keeper.{PlanState, count_puts, is_put}

-- the last touches of blocks by an area that begins at this place, as ranges of the device
abbrev pub told_by : ℕ → List LastRange → List TouchedRange
told_by from [] = []
told_by from (range ∷ ranges) = record { first = range.first; blocks = range.blocks; touch = on_device from range.touch } ∷ told_by from ranges

-- an area of this many bytes from this place on, by the number after its list and its last touches
abbrev pub remembered : ℕ → ℕ → ℕ → ResolvedTouches → AreaState
remembered from bytes next touches = record { from = from; bytes = bytes; blocks = touches.blocks; next = next; gate = 0; touched = told_by from touches.ranges }

-- what is kept of the area: the last touches of its blocks, and how many of them are left to copy
pub record IsPlan (first : AreaState) (touches : ResolvedTouches) (copied left : ℕ) (mapped : Option (List Kind)) : Type 0 where
  pub blocks : touches.blocks ≡ first.blocks
  pub few : first.blocks ≤ 16777216
  pub last : AreLastTouches first.from first.blocks first.touched touches.ranges
  pub puts_within : (block place : ℕ) → last_touch block first.touched ≡ Some (Put place) → place + 4096 ≤ first.from + first.bytes
  pub within : copied ≤ first.blocks
  pub counted : left + count_puts copied first.touched ≡ count_puts first.blocks first.touched
  pub done : IfSome mapped (λ states. (left ≡ 0) × (length states ≡ first.blocks))

-- The next blocks to copy, at most this many: they are those of puts from the first block on that is left, and follow one
-- another in the image and in the area.
pub record IsNextCopy (plan : PlanState) (most : ℕ) (put : PutRange) : Type 0 where
  pub behind : plan.copied ≤ put.first
  pub some : 1 ≤ put.blocks
  pub few : put.blocks ≤ most
  pub inside : put.first + put.blocks ≤ plan.first.blocks
  pub fits : put.first + put.blocks ≤ 16777216
  pub first : (block : ℕ) → plan.copied ≤ block → block < put.first → is_put (last_touch block plan.first.touched) ≡ false
  pub puts : (k : ℕ) → k < put.blocks → last_touch (put.first + k) plan.first.touched ≡ Some (Put (plan.first.from + (put.place + 4096 * k)))
  pub left : put.blocks ≤ plan.left
  pub bytes : put.place + 4096 * put.blocks ≤ plan.first.bytes
