-- A keeper whose journal is empty, once the header in force says layout 2: the one area in use has half the bytes, and begins
-- where it did.
use Rattle.std.proofs.Common.{◌≡◌, ⊎_elim, ℕ, zero, suc, ◌+◌, ◌*◌, ◌/◌, ◌≤◌, ◌<◌, false, if◌then◌else◌, IsTrue, Option, Some, None, List, [], ◌∷◌, ◌++◌, length, slice_index, refl, sym, ◌∙◌, ap, subst, arith}
use Rattle.std.proofs.lemmas.List.Sums.{sum_by-cons}
use Rattle.alloc_map.specs.Codes.{state_at}
use Rattle.disk_model.specs.Disk.{State, IsSound}
use Rattle.header_slots.specs.Change.{IsInPlace, LeavesEither}
use Rattle.header_slots.specs.Slots.{HoldsHeader}
use Rattle.header_slots.specs.declared.header.Header.{Header}
use Rattle.image_model.specs.Geometry.{map_bytes_of}
use Rattle.image_model.specs.Image.{Image, apply_all}
use Rattle.image_model.specs.Layout.{area_size_of, areas_of}
use Rattle.image_model.specs.Side.{index_of, other_of}
use Rattle.image_model.specs.declared.command.Kind.{Kind}
use Rattle.image_model.specs.declared.geometry.Geometry.{Geometry}
use Rattle.image_model.specs.declared.layout.Layout.{Layout}
use Rattle.image_model.specs.declared.layout.Layout.TheVariants as layouts
use Rattle.image_model.specs.declared.side.Side.{Side}
use Rattle.image_model.specs.laws.Layouts.{areas_some}
use Rattle.journal_format.specs.Area.{AreaState}
use Rattle.journal_format.specs.GroupList.{IsList, IsOpen, Stand, next_behind, size_of, sizes_of}
use Rattle.journal_format.specs.Spelling.{StoredGroup}
use Rattle.regions.specs.Layout.{area_at, area_size, areas_in, behind, map_at}
use Rattle.regions.specs.Map.{HoldsMap}
use Rattle.regions.specs.laws.Ring.{area_low}
use Rattle.device_image.specs.Keeper.{KeeperState, One, PlanState, is_put, phase_in, phase_of}
use Rattle.device_image.specs.Keeps.{Keeps, behind_lists, touched_first}
use Rattle.device_image.specs.Stands.{StandsFor, all_changes, area_of, is_data, next_number, stored_image}
use Rattle.device_image.specs.laws.AfterCall.{front_empty}
use Rattle.device_image.specs.laws.CheckpointBounds.{fronts_many}
use Rattle.device_image.specs.laws.Frame.{image_kept, map_low}
use Rattle.device_image.specs.laws.Free.{stands_still}
use Rattle.device_image.specs.laws.HeaderReplaced.{slot_kept}
use Rattle.device_image.specs.laws.Kept.{held as fronts_held}
use Rattle.journal_format.specs.Touches.{last_touch}

-- the same sizes, in layout 1 and in layout 2
pub record AreHalved (whole halved : Geometry) : Type 0 where
  pub one : whole.layout ≡ layouts.One
  pub two : halved.layout ≡ layouts.Two
  pub blocks : halved.blocks ≡ whole.blocks
  pub area : halved.area ≡ whole.area

-- the header with areas of half the bytes, of which one is in use
abbrev pub upgraded : (header : Header) (geometry : Geometry) → 2 * header.first_area < areas_in geometry → Header
upgraded header geometry inside = record {
  generation = header.generation + 1;
  geometry = geometry;
  before_last = 0;
  first_area = 2 * header.first_area;
  map_slot = header.map_slot;
  base = header.base;
  few_areas = areas_some geometry.layout;
  first_inside = inside;
}

pub halved_inside : (whole halved : Geometry) (first : ℕ) → AreHalved whole halved → first < areas_in whole → 2 * first < areas_in halved
halved_inside whole halved first are inside =
    let two : areas_in whole ≡ 2 = ap areas_of are.one in
    let four : areas_in halved ≡ 4 = ap areas_of are.two in
    omega (arith, inside, two, four)

-- an area begins where the first of the two begins that have its bytes
halved_at : (whole half first : ℕ) → half * 2 ≡ whole → first < 2 → 8192 + half * (2 * first) ≡ 8192 + whole * first
halved_at whole half zero is few = omega arith
halved_at whole half (suc zero) is few = omega (arith, is)
halved_at whole half (suc (suc first)) is few = absurd (omega (arith, few))

pub area_halved : (whole halved : Geometry) (first : ℕ) → AreHalved whole halved → first < areas_in whole → area_at halved (2 * first) ≡ area_at whole first
area_halved whole halved first are inside =
    let two : areas_in whole ≡ 2 = ap areas_of are.one in
    let all : area_size whole ≡ whole.area = ap (λ (layout : Layout). area_size_of layout whole.area) are.one in
    let half : area_size halved ≡ halved.area / 2 = ap (λ (layout : Layout). area_size_of layout halved.area) are.two in
    halved_at (area_size whole) (area_size halved) first (let even = whole.area_whole in let same = are.area in omega (arith, all, half, even, same)) (omega (arith, inside, two))

no_plans : (plans : List PlanState) → phase_of plans ≡ One → plans ≡ []
no_plans [] is = refl
no_plans (plan ∷ plans) is = absurd (never plan.mapped is)
  where
    never : (mapped : Option (List Kind)) → phase_in plan.left mapped ≡ One → ⊥
    never None is = cc
    never (Some states) is = cc

no_groups : (groups : List StoredGroup) → sizes_of groups ≡ 0 → groups ≡ []
no_groups [] none = refl
no_groups (group ∷ groups) none = absurd (let sum = sum_by-cons size_of group groups in omega (arith, none, sum))

never_true : IsTrue false → ⊥
never_true is = cc

module _ {D : Type 0} (keeper : KeeperState D) (before : State) (image : Image) (number : ℕ) (keeps : Keeps keeper before image number) (one : keeper.phase ≡ One) (none : keeper.used ≡ 0)
    (geometry : Geometry) (halved : AreHalved keeps.stands.header.geometry geometry) (extent : ℕ) (sound : IsSound extent before) where
  plans_empty : keeper.memory.plans ≡ []
  plans_empty = no_plans keeper.memory.plans (sym keeps.phase ∙ one)

  nothing_before_last : keeps.areas.front ≡ []
  nothing_before_last = front_empty keeper before image number keeps one

  groups_empty : keeps.areas.groups ≡ []
  groups_empty = no_groups keeps.areas.groups (sym keeps.taken ∙ none)

  pub lists_are : keeps.stands.lists ≡ [] ∷ []
  lists_are = keeps.areas.are ∙ (λ i. nothing_before_last i ++ groups_empty i ∷ [])

  before_last : keeps.stands.header.before_last ≡ 0
  before_last =
      let header = keeps.stands.header in
      fronts_many (areas_in header.geometry) header.before_last header.first_area header.geometry (next_number header.base) keeps.areas.front keeper.memory.plans before keeps.areas.earlier_held
      ∙ ap length plans_empty

  -- nothing is unsynced where nothing is to be copied
  pub rest_synced : (place : ℕ) → before.unsynced place → ⊥
  rest_synced place unsynced =
      let copy = keeps.unsynced place unsynced in
      never_true (subst (λ (front : List (List StoredGroup)). IsTrue (is_put (last_touch copy.block (touched_first keeps.stands.header front)))) nothing_before_last copy.put)

  pub inside : 2 * keeps.stands.header.first_area < areas_in geometry
  inside = halved_inside keeps.stands.header.geometry geometry keeps.stands.header.first_area halved keeps.stands.header.first_inside

  abbrev pub new_header : Header
  new_header = upgraded keeps.stands.header geometry inside

  abbrev pub new_from : ℕ
  new_from = area_at geometry (2 * keeps.stands.header.first_area)

  same_place : new_from ≡ keeper.memory.area.from
  same_place =
      let header = keeps.stands.header in
      area_halved header.geometry geometry header.first_area halved header.first_inside
      ∙ sym (keeps.areas.placed.from ∙ ap (λ (n : ℕ). area_at header.geometry (behind (areas_in header.geometry) n header.first_area)) before_last)

  closed : IsOpen before.seen keeper.memory.area.from → ⊥
  closed = subst (λ (groups : List StoredGroup). Stand keeper.memory.area.blocks before.seen keeper.memory.area.from (behind_lists (next_number keeps.stands.header.base) keeps.areas.front) groups) groups_empty keeps.areas.held.list.stand

  positive : 0 < area_size geometry
  positive = omega (arith, geometry.areas_not_too_small)

  module _ (content : List ℕ) (size : length content ≡ length before.seen) (same : (place : ℕ) → 8192 ≤ place → slice_index content place ≡ slice_index before.seen place) where
    pub list_there : IsList (area_of geometry (2 * keeps.stands.header.first_area)) (next_number keeps.stands.header.base) [] content
    list_there = record {
      stand = λ is_open. closed (ap (slice_index before.seen) (sym same_place) ∙ sym (same new_from (area_low geometry (2 * keeps.stands.header.first_area))) ∙ is_open);
      inside = positive;
    }

    pub map_there : HoldsMap content (map_at geometry keeps.stands.header.map_slot) geometry.blocks keeps.stands.states
    map_there =
        let header = keeps.stands.header in
        let whole = header.geometry in
        let kept = slot_kept before.seen content keeps.stands.states whole header.map_slot (λ place within. same place (omega (arith, within.0, map_low whole header.map_slot))) keeps.stands.map in
        subst (λ (blocks : ℕ). HoldsMap content (8192 + 2 * geometry.area + map_bytes_of blocks * index_of header.map_slot) blocks keeps.stands.states) (sym halved.blocks)
        (subst (λ (area : ℕ). HoldsMap content (8192 + 2 * area + map_bytes_of whole.blocks * index_of header.map_slot) whole.blocks keeps.stands.states) (sym halved.area) kept)

    image_there : stored_image content keeps.stands.header.geometry keeps.stands.states ≡ stored_image content geometry keeps.stands.states
    image_there =
        let blocks = sym halved.blocks in
        let area = sym halved.area in
        λ i. record {
          blocks = blocks i;
          byte = λ place. if is_data (state_at keeps.stands.states (place / 4096)) then slice_index content (8192 + 2 * area i + 2 * map_bytes_of (blocks i) + 4096 * 0 + place) else 0;
          kind = λ block. state_at keeps.stands.states block;
        }

    pub shown : image ≡ apply_all (all_changes ([] ∷ [])) (stored_image content geometry keeps.stands.states)
    shown =
        keeps.stands.shows
        ∙ ap (λ (lists : List (List StoredGroup)). apply_all (all_changes lists) (stored_image before.seen keeps.stands.header.geometry keeps.stands.states)) lists_are
        ∙ sym (image_kept before.seen content keeps.stands.header.geometry (λ place above. same place (omega (arith, above))) keeps.stands.states)
        ∙ image_there

    pub long : length content ≡ extent
    long = size ∙ sound.size

    abbrev pub stands_upgraded : (slot : Side) → HoldsHeader content extent new_header slot → StandsFor content image number
    stands_upgraded slot in_force = record {
      header = new_header;
      slot = slot;
      states = keeps.stands.states;
      lists = [] ∷ [];
      in_force = subst (λ (n : ℕ). HoldsHeader content n new_header slot) (sym long) in_force;
      map = map_there;
      held = (list_there, tt);
      count = keeps.stands.count ∙ ap (λ (lists : List (List StoredGroup)). keeps.stands.header.base + length (all_changes lists)) lists_are;
      shows = shown;
    }

    pub stands_before : HoldsHeader content extent keeps.stands.header keeps.stands.slot → StandsFor content image number
    stands_before in_force =
        stands_still before.seen content image number keeps.stands keeps.areas.front keeps.areas.groups keeps.areas.are (λ place above used. same place above) (fronts_held keeper before image number keeps)
        (subst (λ (n : ℕ). HoldsHeader content n keeps.stands.header keeps.stands.slot) (sym long) in_force)

  -- while the header changes
  pub upgrade_left : (content : List ℕ) → LeavesEither before extent keeps.stands.header keeps.stands.slot new_header content → StandsFor content image number
  upgrade_left content left =
      let same : (place : ℕ) → 8192 ≤ place → slice_index content place ≡ slice_index before.seen place = λ place above. left.outside.same place above (rest_synced place) in
      ⊎_elim
      (λ held. stands_before content left.outside.size same held)
      (λ new. stands_upgraded content left.outside.size same (other_of keeps.stands.slot) new)
      left.either

  -- and once it has changed
  abbrev pub new_area : AreaState
  new_area = record { from = new_from; bytes = area_size geometry; blocks = geometry.blocks; next = keeper.memory.area.next; gate = 0; touched = [] }

  abbrev pub keeper_with : D → List PlanState → KeeperState D
  keeper_with disk plans = record keeper {
    disk = disk;
    geometry = geometry;
    generation = keeps.stands.header.generation + 1;
    memory = record keeper.memory { header = new_header; slot = other_of keeps.stands.slot; plans = plans; area = new_area };
  }

  pub keeps_upgraded : (after : State) → IsSound extent after → IsInPlace before extent new_header (other_of keeps.stands.slot) after → (now : KeeperState D) → now ≡ keeper_with now.disk keeper.memory.plans → Keeps now after image number
  keeps_upgraded after after_sound in_place now now_is =
      let header = keeps.stands.header in
      let size : length after.seen ≡ length before.seen = after_sound.size ∙ sym sound.size in
      let same : (place : ℕ) → 8192 ≤ place → slice_index after.seen place ≡ slice_index before.seen place = λ place above. in_place.others place above (keeps.steady place) in
      let list = list_there after.seen size same in
      subst (λ (k : KeeperState D). Keeps k after image number) (sym now_is)
      (subst (λ (plans : List PlanState). Keeps (keeper_with now.disk plans) after image number) (sym plans_empty)
      (record {
        works = keeps.works;
        steady = λ place loose. in_place.synced place (after_sound.loose place loose);
        stands = stands_upgraded after.seen size same (other_of keeps.stands.slot) in_place.held;
        sizes = refl;
        generation = refl;
        from_base = keeps.from_base;
        headed = refl;
        slotted = refl;
        counted = keeps.counted;
        mapped = keeps.mapped;
        areas = record {
          front = [];
          groups = [];
          are = refl;
          earlier_held = tt;
          placed = record { from = refl; bytes = refl; blocks = refl };
          held = record {
            list = record { stand = list.stand; inside = list.inside };
            gate = refl;
            next = keeps.areas.held.next ∙ (λ i. next_behind (behind_lists (next_number header.base) (nothing_before_last i)) (groups_empty i));
            touched = refl;
            synced = λ place within. in_place.synced place;
          };
        };
        taken = none;
        phase = one;
        phased = tt;
        unsynced = λ place unsynced. absurd (in_place.synced place unsynced);
      }))
