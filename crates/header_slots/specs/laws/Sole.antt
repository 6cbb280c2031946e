-- At most one header is in force, and of the three answers at most one stands.
use Rattle.std.proofs.Common.{◌≡◌, ℕ, ◌+◌, ◌%◌, ◌<◌, ◌≤◌, inl, inr, List, refl, sym, ◌∙◌, ap, arith, subst}
use Rattle.std.proofs.Math.Bridge.{le_prop}
use Rattle.std.proofs.Math.Nat.{ℕ_set}
use Rattle.image_model.specs.declared.geometry.Geometry.{Geometry}
use Rattle.header_slots.specs.declared.header.Header.{Header}
use Rattle.image_model.specs.declared.side.Side.{Side}
use Rattle.image_model.specs.declared.side.Side.TheVariants.{Zero, One}
use Rattle.image_model.specs.Side.{index_of}
use Rattle.header_slots.specs.Header.{SpellsAt, IsBadAt, another_magic, magic_of, mode_of, outside_limits, no_mode, no_first_area, no_map_slot}
use Rattle.header_slots.specs.Number.{number_at}
use Rattle.image_model.specs.Geometry.{device_bytes_of}
use Rattle.image_model.specs.Layout.{AreSizesOf, area_size_of, areas_of}
use Rattle.image_model.specs.declared.layout.Layout.{Layout}
use Rattle.image_model.specs.declared.layout.Layout.TheVariants as layouts
use Rattle.header_slots.specs.Slots.{slot_at, IsOpen, IsInForce, HoldsHeader, HoldsNone, HoldsBad, AreEqual, IsBad, equal_generations, no_header_there, another_size}

both : (content : List ℕ) → IsInForce content Zero → IsInForce content One → ⊥
both content zero one =
    let less = zero.greatest one.gate in
    let greater = one.greatest zero.gate in
    omega arith

pub one_slot : (content : List ℕ) (slot other : Side) → IsInForce content slot → IsInForce content other → slot ≡ other
one_slot content Zero Zero force others = refl
one_slot content One One force others = refl
one_slot content Zero One force others = absurd (both content force others)
one_slot content One Zero force others = absurd (both content others force)

index_within : (side : Side) → index_of side ≤ 1
index_within Zero = omega arith
index_within One = omega arith

same_side : (side other : Side) → index_of side ≡ index_of other → side ≡ other
same_side Zero Zero same = refl
same_side One One same = refl
same_side Zero One same = absurd (omega arith)
same_side One Zero same = absurd (omega arith)

-- a layout is told by its magic, and what is spelled by what it is
same_layout : (layout other : Layout) → magic_of layout ≡ magic_of other → layout ≡ other
same_layout layouts.One layouts.One same = refl
same_layout layouts.One layouts.Two same = absurd (omega (arith, same))
same_layout layouts.Two layouts.One same = absurd (omega (arith, same))
same_layout layouts.Two layouts.Two same = refl

same_size : (layout : Layout) (area other : ℕ) → area % 8192 ≡ 0 → other % 8192 ≡ 0 → area_size_of layout area ≡ area_size_of layout other → area ≡ other
same_size layouts.One area other whole also same = same
same_size layouts.Two area other whole also same = omega (arith, whole, also, same)

same_mode : (layout : Layout) (before_last other : ℕ) → mode_of layout before_last ≡ mode_of layout other → before_last ≡ other
same_mode layouts.One before_last other same = same
same_mode layouts.Two before_last other same = omega (arith, same)

whole_prop : (rest : ℕ) (this other : rest ≡ 0) → this ≡ other
whole_prop rest this other = ℕ_set rest 0 this other

pub same_geometry : (geometry other : Geometry) → geometry.blocks ≡ other.blocks → geometry.area ≡ other.area → geometry.layout ≡ other.layout → geometry ≡ other
same_geometry geometry other blocks area layout =
    let Same : ℕ → ℕ → Layout → Type 0 = λ count bytes how.
    (some : 1 ≤ count) (few : count ≤ 16777216) (large : 2097152 ≤ bytes) (each : 2097152 ≤ area_size_of how bytes) (small : bytes ≤ 1073741824) (whole : bytes % 8192 ≡ 0)
    → geometry ≡ record { blocks = count; area = bytes; layout = how; some_blocks = some; not_too_many = few; area_not_too_small = large; areas_not_too_small = each; area_not_too_large = small; area_whole = whole } in
    let here : Same geometry.blocks geometry.area geometry.layout = λ some few large each small whole. λ i. record {
      blocks = geometry.blocks;
      area = geometry.area;
      layout = geometry.layout;
      some_blocks = le_prop geometry.some_blocks some i;
      not_too_many = le_prop geometry.not_too_many few i;
      area_not_too_small = le_prop geometry.area_not_too_small large i;
      areas_not_too_small = le_prop geometry.areas_not_too_small each i;
      area_not_too_large = le_prop geometry.area_not_too_large small i;
      area_whole = whole_prop (geometry.area % 8192) geometry.area_whole whole i;
    } in
    subst (λ (how : Layout). Same other.blocks other.area how) layout
    (subst (λ (count : ℕ). Same count other.area geometry.layout) blocks (subst (λ (bytes : ℕ). Same geometry.blocks bytes geometry.layout) area here))
    other.some_blocks other.not_too_many other.area_not_too_small other.areas_not_too_small other.area_not_too_large other.area_whole

-- headers with the same fields are one
pub same_fields : (header other : Header) → header.generation ≡ other.generation → header.geometry ≡ other.geometry → header.before_last ≡ other.before_last
    → header.first_area ≡ other.first_area → header.map_slot ≡ other.map_slot → header.base ≡ other.base → header ≡ other
same_fields header other generation geometry before_last first_area map_slot base =
    let Same : Geometry → ℕ → ℕ → Type 0 = λ size front first. (few : front < areas_of size.layout) (inside : first < areas_of size.layout)
    → header ≡ record { generation = other.generation; geometry = size; before_last = front; first_area = first; map_slot = other.map_slot; base = other.base; few_areas = few; first_inside = inside } in
    let here : Same header.geometry header.before_last header.first_area = λ few inside. λ i. record {
      generation = generation i;
      geometry = header.geometry;
      before_last = header.before_last;
      first_area = header.first_area;
      map_slot = map_slot i;
      base = base i;
      few_areas = le_prop header.few_areas few i;
      first_inside = le_prop header.first_inside inside i;
    } in
    subst (λ (size : Geometry). Same size other.before_last other.first_area) geometry
    (subst (λ (front : ℕ). Same header.geometry front other.first_area) before_last (subst (λ (first : ℕ). Same header.geometry header.before_last first) first_area here))
    other.few_areas other.first_inside

spelled_layout : (content : List ℕ) (place : ℕ) (header : Header) (layout : Layout) → SpellsAt content place header → number_at place 8 content ≡ magic_of layout → header.geometry.layout ≡ layout
spelled_layout content place header layout spells begins = same_layout header.geometry.layout layout (sym spells.begins ∙ begins)

spelled_geometry : (content : List ℕ) (place : ℕ) (header other : Header) → SpellsAt content place header → SpellsAt content place other → header.geometry ≡ other.geometry
spelled_geometry content place header other first second =
    let layout = spelled_layout content place header other.geometry.layout first second.begins in
    let size : area_size_of other.geometry.layout header.geometry.area ≡ area_size_of other.geometry.layout other.geometry.area =
    ap (λ (how : Layout). area_size_of how header.geometry.area) (sym layout) ∙ sym first.area ∙ second.area in
    same_geometry header.geometry other.geometry (sym first.blocks ∙ second.blocks)
    (same_size other.geometry.layout header.geometry.area other.geometry.area header.geometry.area_whole other.geometry.area_whole size) layout

pub one_header : (content : List ℕ) (place : ℕ) (header other : Header) → SpellsAt content place header → SpellsAt content place other → header ≡ other
one_header content place header other first second =
    let geometry = spelled_geometry content place header other first second in
    let mode : mode_of other.geometry.layout header.before_last ≡ mode_of other.geometry.layout other.before_last =
    ap (λ (size : Geometry). mode_of size.layout header.before_last) (sym geometry) ∙ sym first.mode ∙ second.mode in
    same_fields header other (sym first.generation ∙ second.generation) geometry
    (same_mode other.geometry.layout header.before_last other.before_last mode) (sym first.first_area ∙ second.first_area)
    (same_side header.map_slot other.map_slot (sym first.map_slot ∙ second.map_slot)) (sym first.base ∙ second.base)

pub held_or_none : (content : List ℕ) (size : ℕ) (header : Header) (slot : Side) → HoldsHeader content size header slot → HoldsNone content size → ⊥
held_or_none content size header slot holds none = elim none [
  | inl short ↦ let room = holds.room in omega arith
  | inr closed ↦ closed slot holds.in_force.gate
]

sizes_spelled : (layout : Layout) (geometry : Geometry) → geometry.layout ≡ layout → AreSizesOf layout geometry.blocks (area_size_of layout geometry.area)
sizes_spelled layouts.One geometry is = (geometry.some_blocks, geometry.not_too_many, geometry.area_not_too_small, geometry.area_not_too_large, geometry.area_whole)
sizes_spelled layouts.Two geometry is =
    let each = subst (λ (how : Layout). 2097152 ≤ area_size_of how geometry.area) is geometry.areas_not_too_small in
    let whole = geometry.area_whole in let large = geometry.area_not_too_large in
    (geometry.some_blocks, geometry.not_too_many, each, omega (arith, large), omega (arith, whole))

spelled_or_bad : (content : List ℕ) (place : ℕ) (header : Header) → SpellsAt content place header → IsBadAt content place → ⊥
spelled_or_bad content place header spells (another_magic wrong) = wrong header.geometry.layout spells.begins
spelled_or_bad content place header spells (outside_limits layout begins outside) =
    let is = spelled_layout content place header layout spells begins in
    let area : number_at (place + 24) 4 content ≡ area_size_of layout header.geometry.area = spells.area ∙ ap (λ (how : Layout). area_size_of how header.geometry.area) is in
    outside
    (subst (λ (count : ℕ). AreSizesOf layout count (number_at (place + 24) 4 content)) (sym spells.blocks)
    (subst (λ (bytes : ℕ). AreSizesOf layout header.geometry.blocks bytes) (sym area) (sizes_spelled layout header.geometry is)))
spelled_or_bad content place header spells (no_mode layout begins none) =
    let is = spelled_layout content place header layout spells begins in
    none header.before_last (subst (λ (how : Layout). header.before_last < areas_of how) is header.few_areas)
    (spells.mode ∙ ap (λ (how : Layout). mode_of how header.before_last) is)
spelled_or_bad content place header spells (no_first_area layout begins above) =
    let is = spelled_layout content place header layout spells begins in
    let inside = subst (λ (how : Layout). header.first_area < areas_of how) is header.first_inside in
    let first = spells.first_area in
    omega (arith, above, inside, first)
spelled_or_bad content place header spells (no_map_slot above) =
    let side = spells.map_slot in let within = index_within header.map_slot in omega arith

-- equal generations put neither slot in force
equal_or_force : (content : List ℕ) (slot : Side) → AreEqual content → IsInForce content slot → ⊥
equal_or_force content Zero equal force =
    let less = force.greatest equal.one_open in let same = equal.same in omega arith
equal_or_force content One equal force =
    let less = force.greatest equal.zero_open in let same = equal.same in omega arith

held_or_bad_case : (content : List ℕ) (size : ℕ) (header : Header) (slot : Side) → HoldsHeader content size header slot → IsBad content size → ⊥
held_or_bad_case content size header slot holds (equal_generations equal) = equal_or_force content slot equal holds.in_force
held_or_bad_case content size header slot holds (no_header_there other force bad) =
    let same = one_slot content slot other holds.in_force force in
    let spelled = subst (λ (s : Side). SpellsAt content (slot_at s + 1) header) same holds.spelled in
    spelled_or_bad content (slot_at other + 1) header spelled bad
held_or_bad_case content size header slot holds (another_size other wrong force spells size_differs) =
    let same = one_slot content slot other holds.in_force force in
    let spelled = subst (λ (s : Side). SpellsAt content (slot_at s + 1) header) same holds.spelled in
    let geometry = spelled_geometry content (slot_at other + 1) header wrong spelled spells in
    size_differs (holds.whole ∙ ap (λ (size : Geometry). device_bytes_of size.blocks size.area) geometry)

pub held_or_bad : (content : List ℕ) (size : ℕ) (header : Header) (slot : Side) → HoldsHeader content size header slot → HoldsBad content size → ⊥
held_or_bad content size header slot holds bad = held_or_bad_case content size header slot holds bad.1

none_or_bad_case : (content : List ℕ) (size : ℕ) → ((slot : Side) → IsOpen content slot → ⊥) → IsBad content size → ⊥
none_or_bad_case content size closed (equal_generations equal) = closed Zero equal.zero_open
none_or_bad_case content size closed (no_header_there slot force bad) = closed slot force.gate
none_or_bad_case content size closed (another_size slot header force spells differs) = closed slot force.gate

pub none_or_bad : (content : List ℕ) (size : ℕ) → HoldsNone content size → HoldsBad content size → ⊥
none_or_bad content size none bad = elim none [
  | inl short ↦ let room = bad.0 in omega arith
  | inr closed ↦ none_or_bad_case content size closed bad.1
]
