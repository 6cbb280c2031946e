-- What a second handle of a file gave, and what it vouched for: events, which only the functions of the handle can prove. A handle's
-- crate has a private type for `Seal`, whose value no other crate can name. So elsewhere nothing proves such an event, and nothing
-- refutes it. That the bytes are right is a premise.
use Rattle.std.specs.Prelude.{ℕ, ◌*◌, ◌-◌, List, slice_range}
use Rattle.image_model.specs.declared.geometry.Geometry.{Geometry}
use Rattle.regions.specs.Layout.{block_at}
use Rattle.shared_store.specs.Orders.{SpanRead}

-- A read of the handle gave these bytes, from this place of the device on. It was asked for them under this base.
pub data Gave {H : Type 0} (Seal : Type 0) (handle : H) (base place : ℕ) (bytes : List ℕ) : Type 0 where
  Given : Seal → Gave Seal handle base place bytes

-- The handle was asked to vouch for these bytes over this order. Those in the span are what a read of it gave, under the base that the
-- order has noted still.
pub data Vouched {H : Type 0} (Seal : Type 0) (handle : H) (read : SpanRead) : Type 0 where
  Asked : Seal → (geometry : Geometry)
      → Gave Seal handle read.order.base (block_at geometry read.span.first) (slice_range read.bytes (4096 * (read.span.first - read.first)) (4096 * (read.span.end - read.first)))
      → Vouched Seal handle read
