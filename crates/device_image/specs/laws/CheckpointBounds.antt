-- A keeper while a checkpoint begins and ends: the header in force changes.
use Rattle.std.proofs.Common.{◌≡◌, ◌≢◌, ⊎_elim, ℕ, zero, suc, ◌+◌, ◌-◌, ◌*◌, ◌≤◌, ◌<◌, true, Option, Some, None, List, [], ◌∷◌, ◌++◌, length, slice_index, refl, sym, ◌∙◌, ap, subst, arith}
use Rattle.std.proofs.lemmas.Bool.{cases_lt}
use Rattle.disk_model.specs.Disk.{State, InRange, IsSound}
use Rattle.header_slots.specs.Change.{IsInPlace, LeavesEither}
use Rattle.header_slots.specs.Slots.{HoldsHeader}
use Rattle.header_slots.specs.declared.header.Header.{Header}
use Rattle.image_model.specs.Image.{Image, apply_all}
use Rattle.image_model.specs.Side.{other_of}
use Rattle.image_model.specs.declared.command.Kind.{Kind}
use Rattle.image_model.specs.declared.geometry.Geometry.{Geometry}
use Rattle.image_model.specs.declared.side.Side.{Side}
use Rattle.journal_format.specs.Area.{AreaState}
use Rattle.journal_format.specs.GroupList.{IsHeld, changes_of, next_behind}
use Rattle.journal_format.specs.Spelling.{StoredGroup}
use Rattle.journal_format.specs.Touches.{last_touch, touched_by_groups}
use Rattle.journal_format.specs.declared.touch.Touch.TheVariants.{Put}
use Rattle.journal_format.specs.declared.touch.TouchedRange.{TouchedRange}
use Rattle.regions.specs.Layout.{area_at, area_size, areas_in, behind, block_at, next_of, ring}
use Rattle.regions.specs.laws.Ring.{area_high, area_low, behind_apart, behind_below, next_below, ring-last}
use Rattle.device_image.specs.inner.Copied.{IsAreaStarted, LeavesAreaStart}
use Rattle.device_image.specs.inner.Free.{IsFree, in_spare_area, to_be_copied}
use Rattle.device_image.specs.Keeper.{AreStatesAfter, AreUncopied, IsPlanOf, IsRemembered, IsUncopied, KeeperState, PlanState, count_puts, earlier_of, is_put, last_number, phase_of}
use Rattle.device_image.specs.Keeps.{AreHeld, IsCopying, IsInPhase, IsListed, IsMapWritten, IsPlaced, Keeps, behind_lists, touched_first}
use Rattle.device_image.specs.Stands.{StandsFor, HoldLists, all_changes, areas_before_last, in_use, last_area, next_number, stored_image}
use Rattle.device_image.specs.laws.Copied.{phase_on}
use Rattle.device_image.specs.laws.Frame.{last_inside, moved_list, one_kept}
use Rattle.device_image.specs.laws.Free.{area_same, areas_same, before_last_used, ring_inside, stands_still}
use Rattle.device_image.specs.laws.HeaderReplaced.{areas_above, begins_turn, ends_turn, follows}
use Rattle.device_image.specs.laws.Headers.{begun, ended}
use Rattle.device_image.specs.laws.Kept.{held as fronts_held}
use Rattle.device_image.specs.laws.Lists.{KeepsLists}
use Rattle.device_image.specs.laws.Puts.{count_more, count_one, count_same, count_zero}
use Rattle.device_image.specs.laws.Steps.{held_stay}

-- as many areas stand before the last as checkpoints are to be carried out
pub fronts_many : (count n first : ℕ) (geometry : Geometry) (next : ℕ) (front : List (List StoredGroup)) (plans : List PlanState) (state : State)
    → AreHeld (ring count n first) geometry next front (earlier_of plans) state → n ≡ length plans
fronts_many count zero first geometry next [] [] state held = refl
fronts_many count zero first geometry next [] (plan ∷ plans) state held = absurd held
fronts_many count zero first geometry next (groups ∷ front) plans state held = absurd held
fronts_many count (suc n) first geometry next [] plans state held = absurd held
fronts_many count (suc n) first geometry next (groups ∷ front) [] state held = absurd held
fronts_many count (suc n) first geometry next (groups ∷ front) (plan ∷ plans) state held =
    let rest = fronts_many count n (next_of count first) geometry (next_behind next groups) front plans state held.2 in
    omega (arith, rest)

pub front_none : (areas : List ℕ) (geometry : Geometry) (next : ℕ) (front : List (List StoredGroup)) (state : State) → AreHeld areas geometry next front [] state → front ≡ []
front_none [] geometry next [] state held = refl
front_none [] geometry next (groups ∷ front) state held = absurd held
front_none (area ∷ areas) geometry next [] state held = absurd held
front_none (area ∷ areas) geometry next (groups ∷ front) state held = absurd held

-- an area that is held, by what a checkpoint of it remembers
pub listed_of : (remembered area : AreaState) (first : ℕ) (groups : List StoredGroup) (state : State) → IsRemembered remembered area → IsHeld area first groups state → IsListed remembered first groups state
listed_of remembered area first groups state is held = record {
  list = moved_list area remembered first groups state.seen (sym is.from) (sym is.bytes) (sym is.blocks) held.list;
  next = is.next ∙ held.next;
  touched = λ block below.
      is.touched block (omega (arith, below, is.blocks))
      ∙ ap (last_touch block) held.touched
      ∙ ap (λ (place : ℕ). last_touch block (touched_by_groups place groups)) (sym is.from);
  synced = λ place within. held.synced place (omega (arith, within.0, is.from), omega (arith, within.1, is.from, is.bytes));
}

pub placed_of : (remembered area : AreaState) (geometry : Geometry) (index : ℕ) → IsRemembered remembered area → IsPlaced area geometry index → IsPlaced remembered geometry index
placed_of remembered area geometry index is placed = record { from = is.from ∙ placed.from; bytes = is.bytes ∙ placed.bytes; blocks = is.blocks ∙ placed.blocks }

-- how many blocks it leaves to copy
pub plan_left : (area : AreaState) (plan : PlanState) → IsPlanOf area plan → plan.left ≡ count_puts area.blocks area.touched
plan_left area plan is =
    ap (λ (p : PlanState). p.left) is.uncopied
    ∙ ap (λ (blocks : ℕ). count_puts blocks plan.first.touched) is.remembered.blocks
    ∙ count_same area.blocks area.blocks plan.first.touched area.touched (omega arith) is.remembered.touched

-- one more area after those that are held
pub held_more : (areas : List ℕ) (last : ℕ) (geometry : Geometry) (next : ℕ) (front : List (List StoredGroup)) (groups : List StoredGroup) (earlier : List AreaState) (area : AreaState) (state : State)
    → AreHeld areas geometry next front earlier state → IsPlaced area geometry last → IsListed area (behind_lists next front) groups state
    → AreHeld (areas ++ last ∷ []) geometry next (front ++ groups ∷ []) (earlier ++ area ∷ []) state
held_more [] last geometry next [] groups [] area state held placed here = (placed, here, tt)
held_more [] last geometry next [] groups (other ∷ earlier) area state held placed here = absurd held
held_more [] last geometry next (list ∷ front) groups earlier area state held placed here = absurd held
held_more (index ∷ areas) last geometry next [] groups earlier area state held placed here = absurd held
held_more (index ∷ areas) last geometry next (list ∷ front) groups [] area state held placed here = absurd held
held_more (index ∷ areas) last geometry next (list ∷ front) groups (other ∷ earlier) area state held placed here =
    (held.0, held.1, held_more areas last geometry (next_behind next list) front groups earlier area state held.2 placed here)

pub earlier-push : (plans : List PlanState) (plan : PlanState) → earlier_of (plans ++ plan ∷ []) ≡ earlier_of plans ++ plan.first ∷ []
earlier-push [] plan = refl
earlier-push (first ∷ plans) plan = ap (λ (rest : List AreaState). first.first ∷ rest) (earlier-push plans plan)

pub uncopied_more : (plans : List PlanState) (plan : PlanState) → AreUncopied plans → IsUncopied plan → AreUncopied (plans ++ plan ∷ [])
uncopied_more [] plan are is = (is, tt)
uncopied_more (first ∷ plans) plan are is = (are.0, uncopied_more plans plan are.1 is)

pub behind-push : (next : ℕ) (front : List (List StoredGroup)) (groups : List StoredGroup) → behind_lists next (front ++ groups ∷ []) ≡ next_behind (behind_lists next front) groups
behind-push next [] groups = refl
behind-push next (list ∷ front) groups = behind-push (next_behind next list) front groups

-- where as many puts are before a block as before a later one, there is none between
copied_all : (touched : List TouchedRange) (copied blocks block : ℕ) → copied ≤ blocks → count_puts copied touched ≡ count_puts blocks touched → block < blocks → is_put (last_touch block touched) ≡ true → block < copied
copied_all touched copied blocks block within same below put = ⊎_elim
    (λ early. early)
    (λ late.
    let gap = block - copied in
    let here : copied + gap ≡ block = omega (arith, late) in
    let rest = blocks - suc block in
    let end : suc block + rest ≡ blocks = omega (arith, below) in
    let before_it = count_more copied gap touched in
    let behind_it = count_more (suc block) rest touched in
    let one : count_puts (suc block) touched ≡ count_puts block touched + 1 = count_one block touched put in
    absurd (omega (arith, same, before_it, behind_it, one, ap (λ (b : ℕ). count_puts b touched) here, ap (λ (b : ℕ). count_puts b touched) end)))
    (cases_lt block copied)

-- nothing of the first area is copied yet
pub uncopied_copying : (count n : ℕ) (header : Header) (plan : PlanState) (next : ℕ) (front : List (List StoredGroup)) (earlier : List AreaState) (state : State) (states : List Kind)
    → AreHeld (ring count n header.first_area) header.geometry next front (plan.first ∷ earlier) state → IsUncopied plan → IsCopying plan state header states front
uncopied_copying count zero header plan next [] earlier state states held is = absurd held
uncopied_copying count zero header plan next (groups ∷ front) earlier state states held is = absurd held
uncopied_copying count (suc n) header plan next [] earlier state states held is = absurd held
uncopied_copying count (suc n) header plan next (groups ∷ front) earlier state states held is =
    let touches = touched_by_groups (area_at header.geometry header.first_area) groups in
    let puts : count_puts plan.first.blocks plan.first.touched ≡ count_puts header.geometry.blocks touches =
    count_same plan.first.blocks plan.first.blocks plan.first.touched (touched_by_groups plan.first.from groups) (omega arith) held.1.touched
    ∙ ap (λ (place : ℕ). count_puts plan.first.blocks (touched_by_groups place groups)) held.0.from
    ∙ ap (λ (blocks : ℕ). count_puts blocks touches) held.0.blocks in
    let none : plan.copied ≡ 0 = ap (λ (p : PlanState). p.copied) is in
    let left = ap (λ (p : PlanState). p.left) is in
    let zeroes : count_puts plan.copied touches ≡ 0 = ap (λ (block : ℕ). count_puts block touches) none ∙ count_zero touches in
    record {
      within = omega (arith, none);
      counted = omega (arith, left, puts, zeroes);
      are_copied = λ block from below. absurd (omega (arith, none, below));
      map_written = subst (λ (mapped : Option (List Kind)). IsMapWritten mapped state header states (groups ∷ front) plan.left) (sym (ap (λ (p : PlanState). p.mapped) is)) tt;
    }

pub uncopied_phase : (count n : ℕ) (header : Header) (plans : List PlanState) (next : ℕ) (front : List (List StoredGroup)) (state : State) (states : List Kind)
    → AreHeld (ring count n header.first_area) header.geometry next front (earlier_of plans) state → AreUncopied plans → IsInPhase plans state header states front
uncopied_phase count n header [] next front state states held are = tt
uncopied_phase count n header (plan ∷ plans) next front state states held are =
    (uncopied_copying count n header plan next front (earlier_of plans) state states held are.0, are.1)

-- the checkpoint of the first area goes on where another one comes into use
map_grown : (header : Header) (room : suc header.before_last < areas_in header.geometry) (mapped : Option (List Kind)) (state : State) (states : List Kind) (groups : List StoredGroup) (front more : List (List StoredGroup)) (left : ℕ)
    → IsMapWritten mapped state header states (groups ∷ front) left → IsMapWritten mapped state (begun header room) states (groups ∷ front ++ more) left
map_grown header room None state states groups front more left written = tt
map_grown header room (Some after) state states groups front more left written = written

copying_grown : (areas : List ℕ) (header : Header) (room : suc header.before_last < areas_in header.geometry) (plan : PlanState) (state : State) (states : List Kind) (next : ℕ) (front more : List (List StoredGroup)) (earlier : List AreaState)
    → AreHeld areas header.geometry next front (plan.first ∷ earlier) state → IsCopying plan state header states front → IsCopying plan state (begun header room) states (front ++ more)
copying_grown [] header room plan state states next [] more earlier held copying = absurd held
copying_grown [] header room plan state states next (groups ∷ front) more earlier held copying = absurd held
copying_grown (area ∷ areas) header room plan state states next [] more earlier held copying = absurd held
copying_grown (area ∷ areas) header room plan state states next (groups ∷ front) more earlier held copying = record {
  within = copying.within;
  counted = copying.counted;
  are_copied = copying.are_copied;
  map_written = map_grown header room plan.mapped state states groups front more plan.left copying.map_written;
}

phase_grown : (count : ℕ) (header : Header) (room : suc header.before_last < areas_in header.geometry) (plans : List PlanState) (plan : PlanState) (state : State) (states : List Kind) (next : ℕ) (front : List (List StoredGroup)) (groups : List StoredGroup)
    → AreHeld (ring count header.before_last header.first_area) header.geometry next front (earlier_of plans) state
    → AreHeld (ring count (suc header.before_last) header.first_area) header.geometry next (front ++ groups ∷ []) (earlier_of (plans ++ plan ∷ [])) state
    → IsInPhase plans state header states front → IsUncopied plan → IsInPhase (plans ++ plan ∷ []) state (begun header room) states (front ++ groups ∷ [])
phase_grown count header room [] plan state states next front groups held grown phased is =
    uncopied_phase count (suc header.before_last) (begun header room) (plan ∷ []) next (front ++ groups ∷ []) state states grown (is, tt)
phase_grown count header room (first ∷ plans) plan state states next front groups held grown phased is =
    (copying_grown (ring count header.before_last header.first_area) header room first state states next front (groups ∷ []) (earlier_of plans) held phased.0, uncopied_more plans plan phased.1 is)

-- another area comes into use
module _ {D : Type 0} (keeper : KeeperState D) (before : State) (image : Image) (number : ℕ) (keeps : Keeps keeper before image number) (room : suc keeps.stands.header.before_last < areas_in keeps.stands.header.geometry)
    (extent : ℕ) (sound : IsSound extent before) (positive : 0 < area_size keeps.stands.header.geometry) where
  abbrev pub next_area : ℕ
  next_area = behind (areas_in keeps.stands.header.geometry) (suc keeps.stands.header.before_last) keeps.stands.header.first_area

  abbrev pub next_from : ℕ
  next_from = area_at keeps.stands.header.geometry next_area

  module _ (content : List ℕ) (size : length content ≡ length before.seen)
      (same : (place : ℕ) → 8192 ≤ place → place ≢ next_from → (before.unsynced place → ⊥) → slice_index content place ≡ slice_index before.seen place) where
    pub long : length content ≡ extent
    long = size ∙ sound.size

    pub free_same : (place : ℕ) → 8192 ≤ place → (IsFree keeps.stands.header keeps.areas.front place → ⊥) → slice_index content place ≡ slice_index before.seen place
    free_same place above used = same place above
        (λ is. used (in_spare_area (suc keeps.stands.header.before_last) (omega arith) room (omega (arith, is), omega (arith, is, positive))))
        (λ unsynced. used (to_be_copied (keeps.unsynced place unsynced)))

    abbrev pub stands_begun : (slot : Side) → slice_index content next_from ≡ 0 → HoldsHeader content extent (begun keeps.stands.header room) slot → StandsFor content image number
    stands_begun slot closed in_force =
        begins_turn before.seen content image number keeps.stands keeps.areas.front keeps.areas.groups keeps.areas.are free_same (fronts_held keeper before image number keeps) room positive
        (λ is_open. absurd (omega (arith, closed, is_open)))
        slot (subst (λ (n : ℕ). HoldsHeader content n (begun keeps.stands.header room) slot) (sym long) in_force)

    pub stands_before : HoldsHeader content extent keeps.stands.header keeps.stands.slot → StandsFor content image number
    stands_before in_force =
        stands_still before.seen content image number keeps.stands keeps.areas.front keeps.areas.groups keeps.areas.are free_same (fronts_held keeper before image number keeps)
        (subst (λ (n : ℕ). HoldsHeader content n keeps.stands.header keeps.stands.slot) (sym long) in_force)

  pub begin_left : (content : List ℕ) → LeavesAreaStart before extent next_from keeps.stands.header keeps.stands.slot (begun keeps.stands.header room) content → StandsFor content image number
  begin_left content left = ⊎_elim
      (λ held. stands_before content left.size left.others held)
      (λ new. stands_begun content left.size left.others (other_of keeps.stands.slot) new.0 new.1)
      left.either

  -- once it is in use
  module _ (after : State) (after_sound : IsSound extent after) (begun_is : IsAreaStarted before extent next_from (begun keeps.stands.header room) (other_of keeps.stands.slot) after) where
    size_after : length after.seen ≡ length before.seen
    size_after = after_sound.size ∙ sym sound.size

    used_same : (place : ℕ) → 8192 ≤ place → (IsFree keeps.stands.header keeps.areas.front place → ⊥) → slice_index after.seen place ≡ slice_index before.seen place
    used_same place above used = begun_is.others place above
        (λ is. used (in_spare_area (suc keeps.stands.header.before_last) (omega arith) room (omega (arith, is), omega (arith, is, positive))))

    fronts_after : AreHeld (areas_before_last keeps.stands.header) keeps.stands.header.geometry (next_number keeps.stands.header.base) keeps.areas.front (earlier_of keeper.memory.plans) after
    fronts_after =
        let header = keeps.stands.header in
        let inside = ring_inside header.geometry header.before_last header.first_area header.first_inside in
        held_stay (areas_before_last header) header.geometry (next_number header.base) keeps.areas.front (earlier_of keeper.memory.plans) before after inside
        (areas_same before.seen after.seen header keeps.areas.front used_same (areas_before_last header) inside (before_last_used header))
        (λ place below. begun_is.synced place) keeps.areas.earlier_held

    last_after : IsHeld keeper.memory.area (behind_lists (next_number keeps.stands.header.base) keeps.areas.front) keeps.areas.groups after
    last_after =
        let header = keeps.stands.header in
        one_kept keeper.memory.area header.geometry (last_area header) _ keeps.areas.groups before after keeps.areas.placed
        (area_same before.seen after.seen header keeps.areas.front used_same (last_area header) (last_inside header)
        (λ places behind_it few. behind_apart (areas_in header.geometry) header.before_last places header.first_area header.first_inside behind_it few))
        (λ place here. begun_is.synced place) keeps.areas.held

    phase_after : IsInPhase keeper.memory.plans after keeps.stands.header keeps.stands.states keeps.areas.front
    phase_after =
        let header = keeps.stands.header in
        phase_on keeper before image number keeps after first_after
        (λ place above. begun_is.others place (omega (arith, above)) (λ is. omega (arith, is, above, next_high)))
        (λ synced. begun_is.synced) keeper.memory.plans keeps.phased
      where
        next_high : next_from + area_size keeps.stands.header.geometry ≤ 8192 + 2 * keeps.stands.header.geometry.area
        next_high = area_high keeps.stands.header.geometry next_area
            (behind_below (areas_in keeps.stands.header.geometry) (suc keeps.stands.header.before_last) keeps.stands.header.first_area keeps.stands.header.first_inside)

        first_after : (place : ℕ) → InRange (area_at keeps.stands.header.geometry keeps.stands.header.first_area) (area_size keeps.stands.header.geometry) place → slice_index after.seen place ≡ slice_index before.seen place
        first_after = area_same before.seen after.seen keeps.stands.header keeps.areas.front used_same keeps.stands.header.first_area keeps.stands.header.first_inside
            (λ places behind_it few. behind_apart (areas_in keeps.stands.header.geometry) 0 places keeps.stands.header.first_area keeps.stands.header.first_inside (omega (arith, behind_it)) few)

    module _ (plan : PlanState) (plan_is : IsPlanOf keeper.memory.area plan) where
      all_after : AreHeld (areas_before_last (begun keeps.stands.header room)) keeps.stands.header.geometry (next_number keeps.stands.header.base) (keeps.areas.front ++ keeps.areas.groups ∷ []) (earlier_of (keeper.memory.plans ++ plan ∷ [])) after
      all_after =
          let header = keeps.stands.header in
          let lists = keeps.areas.front ++ keeps.areas.groups ∷ [] in
          subst (λ (areas : List ℕ). AreHeld areas header.geometry (next_number header.base) lists (earlier_of (keeper.memory.plans ++ plan ∷ [])) after) (sym (ring-last (areas_in header.geometry) header.before_last header.first_area))
          (subst (λ (earlier : List AreaState). AreHeld (areas_before_last header ++ last_area header ∷ []) header.geometry (next_number header.base) lists earlier after) (sym (earlier-push keeper.memory.plans plan))
          (held_more (areas_before_last header) (last_area header) header.geometry (next_number header.base) keeps.areas.front keeps.areas.groups (earlier_of keeper.memory.plans) plan.first after
          fronts_after (placed_of plan.first keeper.memory.area header.geometry (last_area header) plan_is.remembered keeps.areas.placed)
          (listed_of plan.first keeper.memory.area _ keeps.areas.groups after plan_is.remembered last_after)))

      pub keeps_begun : (now : KeeperState D) (next : AreaState)
          → next ≡ record { from = next_from; bytes = area_size keeps.stands.header.geometry; blocks = keeps.stands.header.geometry.blocks; next = keeper.memory.area.next; gate = 0; touched = [] }
          → now ≡ record keeper {
            disk = now.disk;
            generation = keeper.generation + 1;
            used = 0;
            turned = now.turned;
            lefts = now.lefts;
            phase = phase_of (keeper.memory.plans ++ plan ∷ []);
            memory = record keeper.memory { header = begun keeps.stands.header room; slot = other_of keeps.stands.slot; plans = keeper.memory.plans ++ plan ∷ []; area = next };
          } → KeepsLists now after image number (keeps.areas.front ++ keeps.areas.groups ∷ []) []
      keeps_begun now next next_is now_is =
          let header = keeps.stands.header in
          let geometry = header.geometry in
          let plans = keeper.memory.plans ++ plan ∷ [] in
          let lists = keeps.areas.front ++ keeps.areas.groups ∷ [] in
          subst (λ (k : KeeperState D). KeepsLists k after image number lists []) (sym now_is)
          (subst (λ (a : AreaState). KeepsLists (record keeper { disk = now.disk; generation = keeper.generation + 1; used = 0; turned = now.turned; lefts = now.lefts; phase = phase_of plans; memory = record keeper.memory { header = begun header room; slot = other_of keeps.stands.slot; plans = plans; area = a } }) after image number lists []) (sym next_is)
          (record {
            keeps = record {
              works = keeps.works;
              steady = λ place loose. begun_is.synced place (after_sound.loose place loose);
              stands = stands_begun after.seen size_after (λ place above other unsynced. begun_is.others place above other) (other_of keeps.stands.slot) begun_is.closed begun_is.held;
              sizes = keeps.sizes;
              generation = ap (λ (n : ℕ). n + 1) keeps.generation;
              from_base = keeps.from_base;
              headed = refl;
              slotted = refl;
              counted = keeps.counted;
              mapped = keeps.mapped;
              areas = record {
                front = lists;
                groups = [];
                are = ap (λ (all : List (List StoredGroup)). all ++ [] ∷ []) keeps.areas.are;
                earlier_held = all_after;
                placed = record { from = refl; bytes = refl; blocks = refl };
                held = record {
                  list = record { stand = λ is_open. absurd (omega (arith, begun_is.closed, is_open)); inside = positive };
                  gate = refl;
                  next = last_after.next ∙ sym (behind-push (next_number header.base) keeps.areas.front keeps.areas.groups);
                  touched = refl;
                  synced = λ place within. begun_is.synced place;
                };
              };
              taken = refl;
              phase = refl;
              phased = phase_grown (areas_in geometry) header room keeper.memory.plans plan after keeps.stands.states (next_number header.base) keeps.areas.front keeps.areas.groups
                  fronts_after all_after phase_after plan_is.uncopied;
              unsynced = λ place unsynced. absurd (begun_is.synced place unsynced);
            };
            front_is = refl;
            groups_are = refl;
          }))

-- the first of several areas in use, and those after it before the last
pub record AreSeveral (header : Header) (front : List (List StoredGroup)) (plan : PlanState) (rest : List PlanState) (state : State) : Type 0 where
  pub first : List StoredGroup
  pub others : List (List StoredGroup)
  pub is : front ≡ first ∷ others
  pub first_placed : IsPlaced plan.first header.geometry header.first_area
  pub first_held : IsListed plan.first (next_number header.base) first state
  pub others_held : AreHeld (ring (areas_in header.geometry) (length rest) (next_of (areas_in header.geometry) header.first_area)) header.geometry (next_behind (next_number header.base) first) others (earlier_of rest) state

several : (header : Header) (front : List (List StoredGroup)) (plan : PlanState) (rest : List PlanState) (state : State)
    → AreHeld (ring (areas_in header.geometry) (suc (length rest)) header.first_area) header.geometry (next_number header.base) front (plan.first ∷ earlier_of rest) state → AreSeveral header front plan rest state
several header [] plan rest state held = absurd held
several header (first ∷ others) plan rest state held = record { first = first; others = others; is = refl; first_placed = held.0; first_held = held.1; others_held = held.2 }

-- all of the first area is copied and the map is written
module _ {D : Type 0} (keeper : KeeperState D) (before : State) (image : Image) (number : ℕ) (keeps : Keeps keeper before image number) (plan : PlanState) (rest : List PlanState) (is : keeper.memory.plans ≡ plan ∷ rest) (after : List Kind) (mapped : plan.mapped ≡ Some after) where
  pub copying : IsCopying plan before keeps.stands.header keeps.stands.states keeps.areas.front × AreUncopied rest
  copying = subst (λ (p : List PlanState). IsInPhase p before keeps.stands.header keeps.stands.states keeps.areas.front) is keeps.phased

  pub written : IsMapWritten (Some after) before keeps.stands.header keeps.stands.states keeps.areas.front plan.left
  written = subst (λ (m : Option (List Kind)). IsMapWritten m before keeps.stands.header keeps.stands.states keeps.areas.front plan.left) mapped copying.0.map_written

  abbrev pub held_before : AreHeld (areas_before_last keeps.stands.header) keeps.stands.header.geometry (next_number keeps.stands.header.base) keeps.areas.front (earlier_of (plan ∷ rest)) before
  held_before = subst (λ (p : List PlanState). AreHeld (areas_before_last keeps.stands.header) keeps.stands.header.geometry (next_number keeps.stands.header.base) keeps.areas.front (earlier_of p) before) is keeps.areas.earlier_held

  pub many : keeps.stands.header.before_last ≡ suc (length rest)
  many = fronts_many (areas_in keeps.stands.header.geometry) keeps.stands.header.before_last keeps.stands.header.first_area keeps.stands.header.geometry (next_number keeps.stands.header.base) keeps.areas.front (plan ∷ rest) before held_before

  pub parts : AreSeveral keeps.stands.header keeps.areas.front plan rest before
  parts = several keeps.stands.header keeps.areas.front plan rest before
      (subst (λ (n : ℕ). AreHeld (ring (areas_in keeps.stands.header.geometry) n keeps.stands.header.first_area) keeps.stands.header.geometry (next_number keeps.stands.header.base) keeps.areas.front (plan.first ∷ earlier_of rest) before) many held_before)

  abbrev pub lists_behind : List (List StoredGroup)
  lists_behind = parts.others ++ keeps.areas.groups ∷ []

  pub ending_lists : keeps.stands.lists ≡ parts.first ∷ lists_behind
  ending_lists = keeps.areas.are ∙ ap (λ (front : List (List StoredGroup)). front ++ keeps.areas.groups ∷ []) parts.is

  pub all_held : HoldLists (in_use keeps.stands.header) before.seen keeps.stands.header.geometry (next_number keeps.stands.header.base) (parts.first ∷ lists_behind)
  all_held = subst (λ (lists : List (List StoredGroup)). HoldLists (in_use keeps.stands.header) before.seen keeps.stands.header.geometry (next_number keeps.stands.header.base) lists) ending_lists keeps.stands.held

  -- the header that comes next
  abbrev pub ended_header : Header
  ended_header = ended keeps.stands.header (length rest) many (keeps.stands.header.base + length (changes_of parts.first))

  module _ (extent : ℕ) (sound : IsSound extent before) (fits : keeps.stands.header.base < 18446744073709551616) (content : List ℕ) (size : length content ≡ length before.seen)
      (same : (place : ℕ) → 8192 ≤ place → slice_index content place ≡ slice_index before.seen place) where
    pub extent_is : length content ≡ extent
    extent_is = size ∙ sound.size

    -- the puts of the first area are copied
    pub puts_copied : (block from : ℕ) → block < keeps.stands.header.geometry.blocks → last_touch block (touched_by_groups (area_at keeps.stands.header.geometry keeps.stands.header.first_area) parts.first) ≡ Some (Put from)
        → (k : ℕ) → k < 4096 → slice_index before.seen (block_at keeps.stands.header.geometry block + k) ≡ slice_index before.seen (from + k)
    puts_copied block from below put =
        let touched = subst (λ (front : List (List StoredGroup)). last_touch block (touched_first keeps.stands.header front) ≡ Some (Put from)) (sym parts.is) put in
        let all : block < plan.copied = copied_all (touched_first keeps.stands.header keeps.areas.front) plan.copied keeps.stands.header.geometry.blocks block copying.0.within (omega (arith, copying.0.counted, written.0)) below (ap is_put touched) in
        copying.0.are_copied block from all touched

    pub states_after : AreStatesAfter (touched_by_groups (area_at keeps.stands.header.geometry keeps.stands.header.first_area) parts.first) keeps.stands.states after
    states_after = subst (λ (front : List (List StoredGroup)). AreStatesAfter (touched_first keeps.stands.header front) keeps.stands.states after) parts.is written.1

    abbrev pub stands_ended : (slot : Side) → HoldsHeader content extent ended_header slot → StandsFor content image number
    stands_ended slot in_force =
        let header = keeps.stands.header in
        ends_turn before.seen content header keeps.stands.states after (length rest) many parts.first lists_behind image number fits keeps.stands.map.count written.2
        states_after puts_copied all_held
        (keeps.stands.count ∙ ap (λ (lists : List (List StoredGroup)). header.base + length (all_changes lists)) ending_lists)
        (keeps.stands.shows ∙ ap (λ (lists : List (List StoredGroup)). apply_all (all_changes lists) (stored_image before.seen header.geometry keeps.stands.states)) ending_lists)
        same slot (subst (λ (n : ℕ). HoldsHeader content n ended_header slot) (sym extent_is) in_force)

    pub stands_unended : HoldsHeader content extent keeps.stands.header keeps.stands.slot → StandsFor content image number
    stands_unended in_force =
        stands_still before.seen content image number keeps.stands keeps.areas.front keeps.areas.groups keeps.areas.are
        (λ place above used. same place above) (fronts_held keeper before image number keeps)
        (subst (λ (n : ℕ). HoldsHeader content n keeps.stands.header keeps.stands.slot) (sym extent_is) in_force)

  -- while the header changes
  pub end_left : (extent : ℕ) (sound : IsSound extent before) (fits : keeps.stands.header.base < 18446744073709551616) (content : List ℕ)
      → LeavesEither before extent keeps.stands.header keeps.stands.slot ended_header content → StandsFor content image number
  end_left extent sound fits content left =
      let same : (place : ℕ) → 8192 ≤ place → slice_index content place ≡ slice_index before.seen place = λ place above. left.outside.same place above (written.3 place) in
      ⊎_elim
      (λ held. stands_unended extent sound fits content left.outside.size same held)
      (λ new. stands_ended extent sound fits content left.outside.size same (other_of keeps.stands.slot) new)
      left.either

  -- the number of the last command in the first area
  pub base_is : (extent : ℕ) → keeps.stands.header.base < 18446744073709551616 → keeps.stands.header.base + length (changes_of parts.first) ≡ last_number plan.first
  base_is extent fits =
      let following = follows plan.first.blocks before.seen plan.first.from (next_number keeps.stands.header.base) keeps.stands.header.base parts.first fits refl parts.first_held.list.stand in
      omega (arith, following.following, following.fits, parts.first_held.next)

  -- once the first area is no longer in use
  pub keeps_ended : (extent : ℕ) (sound : IsSound extent before) (fits : keeps.stands.header.base < 18446744073709551616) (state : State) (after_sound : IsSound extent state) (now : KeeperState D) (header : Header)
      → header ≡ ended_header → IsInPlace before extent header (other_of keeps.stands.slot) state
      → now ≡ record keeper {
        disk = now.disk;
        generation = header.generation;
        base = header.base;
        turned = now.turned;
        lefts = now.lefts;
        phase = phase_of rest;
        memory = record keeper.memory { header = header; slot = other_of keeps.stands.slot; map = after; plans = rest };
      } → KeepsLists now state image number parts.others keeps.areas.groups
  keeps_ended extent sound fits state after_sound now header header_is in_place now_is =
      let old = keeps.stands.header in
      let geometry = old.geometry in
      let new = ended_header in
      let size : length state.seen ≡ length before.seen = after_sound.size ∙ sym sound.size in
      let same : (place : ℕ) → 8192 ≤ place → slice_index state.seen place ≡ slice_index before.seen place = λ place above. in_place.others place above (keeps.steady place) in
      let held : HoldsHeader state.seen extent new (other_of keeps.stands.slot) = subst (λ (h : Header). HoldsHeader state.seen extent h (other_of keeps.stands.slot)) header_is in_place.held in
      let number_is = (follows plan.first.blocks before.seen plan.first.from (next_number old.base) old.base parts.first fits refl parts.first_held.list.stand).following in
      let fronts : AreHeld (areas_before_last new) geometry (next_number new.base) parts.others (earlier_of rest) state =
      held_stay (areas_before_last new) geometry (next_number new.base) parts.others (earlier_of rest) before state
      (ring_inside geometry (length rest) (next_of (areas_in geometry) old.first_area) (next_below (areas_in geometry) old.first_area old.first_inside))
      (areas_above (areas_before_last new) geometry before.seen state.seen same) (λ place below. in_place.synced place)
      (subst (λ (next : ℕ). AreHeld (areas_before_last new) geometry next parts.others (earlier_of rest) before) number_is parts.others_held) in
      let last : IsHeld keeper.memory.area (behind_lists (next_number new.base) parts.others) keeps.areas.groups before =
      subst (λ (next : ℕ). IsHeld keeper.memory.area (behind_lists next parts.others) keeps.areas.groups before) number_is
      (subst (λ (front : List (List StoredGroup)). IsHeld keeper.memory.area (behind_lists (next_number old.base) front) keeps.areas.groups before) parts.is keeps.areas.held) in
      let placed : IsPlaced keeper.memory.area geometry (last_area new) =
      subst (λ (n : ℕ). IsPlaced keeper.memory.area geometry (behind (areas_in geometry) n old.first_area)) many keeps.areas.placed in
      subst (λ (k : KeeperState D). KeepsLists k state image number parts.others keeps.areas.groups) (sym now_is)
      (subst (λ (h : Header). KeepsLists (record keeper { disk = now.disk; generation = h.generation; base = h.base; turned = now.turned; lefts = now.lefts; phase = phase_of rest; memory = record keeper.memory { header = h; slot = other_of keeps.stands.slot; map = after; plans = rest } }) state image number parts.others keeps.areas.groups) (sym header_is)
      (record {
        keeps = record {
          works = keeps.works;
          steady = λ place loose. in_place.synced place (after_sound.loose place loose);
          stands = stands_ended extent sound fits state.seen size same (other_of keeps.stands.slot) held;
          sizes = keeps.sizes;
          generation = refl;
          from_base = refl;
          headed = refl;
          slotted = refl;
          counted = keeps.counted;
          mapped = refl;
          areas = record {
            front = parts.others;
            groups = keeps.areas.groups;
            are = refl;
            earlier_held = fronts;
            placed = placed;
            held = one_kept keeper.memory.area geometry (last_area new) _ keeps.areas.groups before state placed
                (λ place here. same place (omega (arith, here.0, area_low geometry (last_area new)))) (λ place here. in_place.synced place) last;
          };
          taken = keeps.taken;
          phase = refl;
          phased = uncopied_phase (areas_in geometry) (length rest) new rest (next_number new.base) parts.others state after fronts copying.1;
          unsynced = λ place unsynced. absurd (in_place.synced place unsynced);
        };
        front_is = refl;
        groups_are = refl;
      }))
