-- What a crash leaves of a device while it is formatted, and what stands on it between the steps.
use Rattle.std.specs.Prelude.{ℕ, ◌≡◌, ◌≢◌, ◌<◌, ◌≤◌, ◌⊎◌, List, length, slice_index}
use Rattle.disk_model.specs.Disk.{State, IsSteady}
use Rattle.header_slots.specs.Slots.{HoldsHeader, HoldsNone}
use Rattle.header_slots.specs.declared.header.Header.{Header}
use Rattle.image_model.specs.Image.{Image}
use Rattle.image_model.specs.declared.side.Side.TheVariants.{Zero}
use Rattle.image_model.specs.laws.Layouts.{areas_some}
use Rattle.image_model.specs.declared.geometry.Geometry.{Geometry}
use Rattle.device_image.specs.Stands.{StandsFor, holes}

-- What a crash may leave that differs in the gates of the two headers alone: any bytes there and at unsynced places.
pub record LeavesButGates (state : State) (content : List ℕ) : Type 0 where
  pub size : length content ≡ length state.seen
  pub bytes : (place : ℕ) → slice_index content place < 256
  pub same : (place : ℕ) → (state.unsynced place → ⊥) → place ≢ 0 → place ≢ 4096 → slice_index content place ≡ slice_index state.seen place

-- the header of a device that was just formatted
abbrev pub first_header : Geometry → Header
first_header geometry = record {
  generation = 1;
  geometry = geometry;
  before_last = 0;
  first_area = 0;
  map_slot = Zero;
  base = 0;
  few_areas = areas_some geometry.layout;
  first_inside = areas_some geometry.layout;
}

-- The gates of both headers are closed, which is stable, and no place is loose.
pub record AreClosed (state : State) : Type 0 where
  pub zero_closed : slice_index state.seen 0 ≡ 0
  pub one_closed : slice_index state.seen 4096 ≡ 0
  pub zero_synced : state.unsynced 0 → ⊥
  pub one_synced : state.unsynced 4096 → ⊥
  pub steady : IsSteady state

-- A device that was just made this image: its header is in force, in slot 0, with zeroes after it up to the end of the slot, and
-- it stands for the image, of which no command is the last.
pub record IsMade (content : List ℕ) (geometry : Geometry) (image : Image) : Type 0 where
  pub header : HoldsHeader content (length content) (first_header geometry) Zero
  pub rest : (place : ℕ) → 40 ≤ place → place < 4096 → slice_index content place ≡ 0
  pub stands : StandsFor content image 0

-- A device that was just formatted: its image is one of holes of that size.
abbrev pub IsFormatted : List ℕ → Geometry → Type 0
IsFormatted content geometry = IsMade content geometry (holes geometry.blocks)

-- What a crash leaves while a device is formatted: at first what it might have left before, but for the gates of the
-- headers; then no header is in force; at last the formatted device.
abbrev pub LeavesFormat : State → Geometry → List ℕ → Type 0
LeavesFormat state geometry content = LeavesButGates state content ⊎ (HoldsNone content (length content) ⊎ IsFormatted content geometry)
