-- a header as bytes, by docs/FORMATS.md, "Header slot"
use Rattle.std.specs.Prelude.{ℕ, ◌≡◌, ◌≢◌, ◌+◌, ◌<◌, ◌≤◌, List, length, slice_index}
use Rattle.header_slots.specs.declared.header.Header.{Header}
use Rattle.header_slots.specs.Number.{number_at}
use Rattle.image_model.specs.Layout.{AreSizesOf, area_size_of, areas_of}
use Rattle.image_model.specs.Side.{index_of}
use Rattle.image_model.specs.declared.layout.Layout.{Layout}
use Rattle.image_model.specs.declared.layout.Layout.TheVariants.{One, Two}

-- `NBDJRNL1` and `NBDJRNL2` as numbers
abbrev pub magic_of : Layout → ℕ
magic_of One = 0x4e42444a524e4c31
magic_of Two = 0x4e42444a524e4c32

-- the byte that tells how many areas are in use before the last
abbrev pub mode_of : Layout → ℕ → ℕ
mode_of One before_last = before_last
mode_of Two before_last = before_last + 1

-- The 39 bytes from this place on, after a gate, spell this header.
pub record SpellsAt (content : List ℕ) (place : ℕ) (header : Header) : Type 0 where
  pub begins : number_at place 8 content ≡ magic_of header.geometry.layout
  pub generation : number_at (place + 8) 8 content ≡ header.generation
  pub blocks : number_at (place + 16) 8 content ≡ header.geometry.blocks
  pub area : number_at (place + 24) 4 content ≡ area_size_of header.geometry.layout header.geometry.area
  pub mode : slice_index content (place + 28) ≡ mode_of header.geometry.layout header.before_last
  pub first_area : slice_index content (place + 29) ≡ header.first_area
  pub map_slot : slice_index content (place + 30) ≡ index_of header.map_slot
  pub base : number_at (place + 31) 8 content ≡ header.base

-- what stands after a slot's gate, up to the slot's end: the header, and zeroes
pub record IsBodyOf (header : Header) (bytes : List ℕ) : Type 0 where
  pub size : length bytes ≡ 4095
  pub spelled : SpellsAt bytes 0 header
  pub rest : (k : ℕ) → 39 ≤ k → slice_index bytes k ≡ 0

-- The 39 bytes from this place on spell no header: no layout has their magic, or one has, of which another field is bad.
pub data IsBadAt (content : List ℕ) (place : ℕ) : Type 0 where
  another_magic : ((layout : Layout) → number_at place 8 content ≢ magic_of layout) → IsBadAt content place
  outside_limits : (layout : Layout) → number_at place 8 content ≡ magic_of layout
      → ¬ (AreSizesOf layout (number_at (place + 16) 8 content) (number_at (place + 24) 4 content)) → IsBadAt content place
  no_mode : (layout : Layout) → number_at place 8 content ≡ magic_of layout
      → ((before_last : ℕ) → before_last < areas_of layout → slice_index content (place + 28) ≢ mode_of layout before_last) → IsBadAt content place
  no_first_area : (layout : Layout) → number_at place 8 content ≡ magic_of layout → areas_of layout ≤ slice_index content (place + 29) → IsBadAt content place
  no_map_slot : 1 < slice_index content (place + 30) → IsBadAt content place
