-- Definitions for contracts between functions of this crate, next to those of `Format`.
use Rattle.std.specs.Prelude.{ℕ, ◌≡◌, ◌<◌, ◌≤◌, List, slice_index}
use Rattle.header_slots.specs.Header.{SpellsAt}
use Rattle.image_model.specs.declared.command.Kind.{Kind}
use Rattle.image_model.specs.declared.side.Side.TheVariants.{Zero}
use Rattle.image_model.specs.declared.geometry.Geometry.{Geometry}
use Rattle.regions.specs.Layout.{area_at, map_at}
use Rattle.regions.specs.Map.{HoldsMap}
use Rattle.checkpoint.specs.Format.{first_header}

-- All that is written of a fresh device but for its data and the gates of the headers: the header in slot 0 and zeroes after it,
-- a closed gate that begins the first area, and the map of these states.
pub record IsFresh (content : List ℕ) (geometry : Geometry) (states : List Kind) : Type 0 where
  pub spelled : SpellsAt content 1 (first_header geometry)
  pub rest : (place : ℕ) → 40 ≤ place → place < 4096 → slice_index content place ≡ 0
  pub gate : slice_index content (area_at geometry 0) ≡ 0
  pub map : HoldsMap content (map_at geometry Zero) geometry.blocks states
