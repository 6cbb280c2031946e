-- which header is in force in what a crash leaves
use Rattle.std.specs.Prelude.{ℕ, zero, suc, ◌≡◌, ◌+◌, ◌≤◌, ◌⊎◌, List, length}
use Rattle.disk_model.specs.Disk.{State, LeavesOnly}
use Rattle.header_slots.specs.Slots.{HoldsHeader}
use Rattle.header_slots.specs.declared.header.Header.{Header}
use Rattle.image_model.specs.declared.geometry.Geometry.{Geometry}
use Rattle.image_model.specs.declared.side.Side.{Side}

-- The header in force has these sizes, this layout and this generation.
pub record HasHeader (geometry : Geometry) (generation : ℕ) (content : List ℕ) : Type 0 where
  pub header : Header
  pub slot : Side
  pub in_force : HoldsHeader content (length content) header slot
  pub sizes : header.geometry ≡ geometry
  pub number : header.generation ≡ generation

-- the same, or the next generation
abbrev pub HasHeaderOrNext : Geometry → ℕ → List ℕ → Type 0
HasHeaderOrNext geometry generation content = HasHeader geometry generation content ⊎ HasHeader geometry (generation + 1) content

-- At most this many headers come into force between two devices, one after another, each with the generation after the one before
-- it, and none with other sizes or in another layout. Between two headers there is a device from which a crash leaves the first of
-- the two alone.
abbrev pub HeadersFollow : {D : Type 0} → (D → State) → Geometry → ℕ → ℕ → State → State → Type 0
HeadersFollow state geometry generation zero before after = LeavesOnly before after (HasHeader geometry generation)
HeadersFollow {D} state geometry generation (suc headers) before after =
    (mid : D) × HeadersFollow state geometry generation headers before (state mid) × LeavesOnly (state mid) after (HasHeaderOrNext geometry (generation + headers))

-- the same of a number of headers that isn't told
abbrev pub HeadersFollowUpTo : {D : Type 0} → (D → State) → Geometry → ℕ → ℕ → State → State → Type 0
HeadersFollowUpTo state geometry generation most before after = (headers : ℕ) × (headers ≤ most) × HeadersFollow state geometry generation headers before after
