-- what is bad of a content that has a good header
use Rattle.std.specs.Prelude.{ℕ, ◌⊎◌, List, [], ◌∷◌, length}
use Rattle.header_slots.specs.Slots.{HoldsHeader}
use Rattle.header_slots.specs.declared.header.Header.{Header}
use Rattle.image_model.specs.declared.command.Kind.{Kind}
use Rattle.image_model.specs.declared.geometry.Geometry.{Geometry}
use Rattle.image_model.specs.declared.side.Side.{Side}
use Rattle.journal_format.specs.GroupList.{IsDamaged, IsList, next_behind}
use Rattle.journal_format.specs.Spelling.{StoredGroup}
use Rattle.regions.specs.Layout.{map_at}
use Rattle.regions.specs.Map.{HoldsMap, HoldsBadMap}
use Rattle.device_image.specs.Stands.{area_of, in_use, next_number}

-- The map slot that the header in force names holds no map.
pub record HasBadMap (content : List ℕ) : Type 0 where
  pub header : Header
  pub slot : Side
  pub in_force : HoldsHeader content (length content) header slot
  pub map : HoldsBadMap content (map_at header.geometry header.map_slot) header.geometry.blocks

-- One of these areas is damaged, after the lists of those before it; the first of them begins with the number `next`.
abbrev pub IsOneDamaged : List ℕ → List ℕ → Geometry → ℕ → Type 0
IsOneDamaged [] content geometry next = ⊥
IsOneDamaged (area ∷ areas) content geometry next =
    IsDamaged (area_of geometry area) next content
    ⊎ ((groups : List StoredGroup) × IsList (area_of geometry area) next groups content × IsOneDamaged areas content geometry (next_behind next groups))

-- An area in use is damaged.
abbrev pub IsAreaDamaged : List ℕ → Header → Type 0
IsAreaDamaged content header = IsOneDamaged (in_use header) content header.geometry (next_number header.base)

-- Header and map are good, and an area in use is damaged.
pub record HasDamagedGroup (content : List ℕ) : Type 0 where
  pub header : Header
  pub slot : Side
  pub states : List Kind
  pub in_force : HoldsHeader content (length content) header slot
  pub map : HoldsMap content (map_at header.geometry header.map_slot) header.geometry.blocks states
  pub damaged : IsAreaDamaged content header
