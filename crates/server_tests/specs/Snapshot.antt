-- What a second handle gives that has a copy of the data, and what it vouches for.
use Rattle.std.specs.Prelude.{◌≡◌, ℕ, ◌+◌, ◌*◌, ◌-◌, ◌<◌, ◌≤◌, List, length, slice_index}
use Rattle.image_model.specs.Geometry.{map_bytes_of}
use Rattle.order_book.specs.Reading.{LiesIn}
use Rattle.shared_store.specs.Orders.{SpanRead}

-- the first byte of the data on a device of these sizes
abbrev pub data_at : ℕ → ℕ → ℕ
data_at blocks area = 8192 + 2 * area + 2 * map_bytes_of blocks

-- these bytes stand in the data, from that one on
pub record StandsIn (copy : List ℕ) (from : ℕ) (bytes : List ℕ) : Type 0 where
  pub inside : from + length bytes ≤ length copy
  pub same : (k : ℕ) → k < length bytes → slice_index bytes k ≡ slice_index copy (from + k)

-- what it gives from a place of the device on: bytes of the copy
abbrev pub GivesOf : List ℕ → ℕ → ℕ → ℕ → List ℕ → Type 0
GivesOf copy blocks area place bytes = (data_at blocks area ≤ place) × StandsIn copy (place - data_at blocks area) bytes

-- What it vouches for: blocks of the copy, for an order that has noted the copy's base.
pub record VouchesOf (copy : List ℕ) (base : ℕ) (read : SpanRead) : Type 0 where
  pub noted : read.order.base ≡ base
  pub same : (j k : ℕ) → 4096 * j < length read.bytes → k < 4096 → LiesIn (read.first + j) read.span
      → (4096 * (read.first + j) + k < length copy) × (slice_index read.bytes (4096 * j + k) ≡ slice_index copy (4096 * (read.first + j) + k))
