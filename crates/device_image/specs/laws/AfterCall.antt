-- What a keeper holds after each of its calls.
use Rattle.std.proofs.Common.{None, ◌≡◌, ℕ, ◌+◌, ◌*◌, ◌≤◌, ◌<◌, Bool, true, false, ◌||◌, List, [], ◌∷◌, ◌++◌, Option, Some, length, map, slice_index, refl, sym, ◌∙◌, ap, subst, arith, append_assoc, length-append}
use Rattle.std.proofs.lemmas.List.{append-nil}
use Rattle.std.proofs.lemmas.List.Sums.{sum_by-cons}
use Rattle.disk_model.specs.Disk.{State, IsSound}
use Rattle.image_model.specs.Change.{Change}
use Rattle.image_model.specs.Image.{Image, apply_all}
use Rattle.image_model.specs.declared.command.Kind.{Kind}
use Rattle.image_model.specs.declared.geometry.Geometry.{Geometry}
use Rattle.journal_format.specs.GroupList.{size_of, sizes_of, changes_of}
use Rattle.journal_format.specs.Spelling.{StoredGroup}
use Rattle.journal_format.specs.Touches.{last_touch}
use Rattle.regions.specs.Layout.{area_at, block_at}
use Rattle.device_image.specs.Holds.{HoldsAs, Holds, IsBase, is_written, joined}
use Rattle.device_image.specs.Keeper.{earlier_of, phase_in, One, phase_of, KeeperState, PlanState, is_put}
use Rattle.device_image.specs.Keeps.{AreHeld, Keeps, touched_first}
use Rattle.device_image.specs.Stands.{all_changes, area_of, areas_before_last, next_number, stored_image}
use Rattle.device_image.specs.laws.Frame.{all_changes-append, apply_all-append, changes-append, image_kept, moved_list}
use Rattle.device_image.specs.laws.HeaderReplaced.{taken_over}
use Rattle.device_image.specs.laws.AfterWrite.{base_of, base_stays, holds_lists, joined_lists, made_blocks, made_byte, made_kind, unwritten_put}
use Rattle.device_image.specs.laws.Lists.{KeepsLists}
use Rattle.device_image.specs.laws.Written.{written_append}
use Rattle.device_image.specs.laws.CheckpointBounds.{front_none, parts, puts_copied, states_after}

pub moved_base : (base : Image) (content : List ℕ) (geometry size : Geometry) (states map : List Kind) (commands : List Change) → size ≡ geometry → map ≡ states
    → IsBase base content geometry states commands → IsBase base content size map commands
moved_base base content geometry size states map commands size_is map_is is =
    subst (λ (g : Geometry). IsBase base content g map commands) (sym size_is) (subst (λ (m : List Kind). IsBase base content geometry m commands) (sym map_is) is)

module _ {D : Type 0} (keeper : KeeperState D) (before : State) (base : Image) (fronts : List (List Change)) (last : List Change) (holds : Holds keeper before base fronts last) where
  abbrev pub image : Image
  image = apply_all last (apply_all (joined fronts) base)

  abbrev pub number : ℕ
  number = keeper.base + length (joined fronts) + length last

  pub front_changes : all_changes holds.keeps.areas.front ≡ joined fronts
  front_changes = sym (joined_lists holds.keeps.areas.front) ∙ ap joined holds.before_last

  -- the blocks that no command of the areas in front writes have no put as their last touch there
  unwritten : (block : ℕ) → is_written block (joined fronts) ≡ false → is_put (last_touch block (touched_first holds.keeps.stands.header holds.keeps.areas.front)) ≡ false
  unwritten block none =
      unwritten_put keeper before image number holds.keeps block (ap (is_written block) front_changes ∙ none)

  in_place : (content : List ℕ) (block offset : ℕ) → slice_index content (block_at holds.keeps.stands.header.geometry block + offset) ≡ slice_index before.seen (block_at holds.keeps.stands.header.geometry block + offset)
      → slice_index content (block_at keeper.geometry block + offset) ≡ slice_index before.seen (block_at keeper.geometry block + offset)
  in_place content block offset = subst (λ (g : Geometry). slice_index content (block_at g block + offset) ≡ slice_index before.seen (block_at g block + offset)) (sym holds.keeps.sizes)

  -- the areas hold what they held, and data stay but for blocks that are to be copied
  pub holds_still : (now : KeeperState D) (after : State) → KeepsLists now after image number holds.keeps.areas.front holds.keeps.areas.groups
      → now.base ≡ keeper.base → now.geometry ≡ keeper.geometry → now.memory.map ≡ keeper.memory.map
      → ((block offset : ℕ) → offset < 4096 → is_put (last_touch block (touched_first holds.keeps.stands.header holds.keeps.areas.front)) ≡ false
      → slice_index after.seen (block_at holds.keeps.stands.header.geometry block + offset) ≡ slice_index before.seen (block_at holds.keeps.stands.header.geometry block + offset))
      → Holds now after base fronts last
  holds_still now after lists base_is geometry_is map_is same =
      holds_lists now after image number holds.keeps.areas.front holds.keeps.areas.groups lists base fronts last refl (omega (arith, base_is)) holds.before_last holds.in_last
      (moved_base base after.seen keeper.geometry now.geometry keeper.memory.map now.memory.map (joined fronts) geometry_is map_is
      (base_stays base before.seen after.seen keeper.geometry keeper.memory.map (joined fronts) (joined fronts) holds.is_base (λ block none. none)
      (λ block offset small none. in_place after.seen block offset (same block offset small (unwritten block none)))))

  -- commands were added after the others
  pub holds_more : (now : KeeperState D) (after : State) (group : StoredGroup) (count : ℕ) → KeepsLists now after (apply_all group.changes image) count holds.keeps.areas.front (holds.keeps.areas.groups ++ group ∷ [])
      → count ≡ number + length group.changes → now.base ≡ keeper.base → now.geometry ≡ keeper.geometry → now.memory.map ≡ keeper.memory.map
      → ((block offset : ℕ) → offset < 4096 → is_put (last_touch block (touched_first holds.keeps.stands.header holds.keeps.areas.front)) ≡ false
      → slice_index after.seen (block_at holds.keeps.stands.header.geometry block + offset) ≡ slice_index before.seen (block_at holds.keeps.stands.header.geometry block + offset))
      → Holds now after base fronts (last ++ group.changes)
  holds_more now after group count lists count_is base_is geometry_is map_is same =
      holds_lists now after (apply_all group.changes image) count holds.keeps.areas.front (holds.keeps.areas.groups ++ group ∷ []) lists base fronts (last ++ group.changes)
      (sym (apply_all-append last group.changes (apply_all (joined fronts) base)))
      (omega (arith, count_is, base_is, length-append last group.changes))
      holds.before_last
      (changes-append holds.keeps.areas.groups (group ∷ []) ∙ ap (λ (more : List Change). changes_of holds.keeps.areas.groups ++ more) (append-nil group.changes)
      ∙ ap (λ (more : List Change). more ++ group.changes) holds.in_last)
      (moved_base base after.seen keeper.geometry now.geometry keeper.memory.map now.memory.map (joined fronts) geometry_is map_is
      (base_stays base before.seen after.seen keeper.geometry keeper.memory.map (joined fronts) (joined fronts) holds.is_base (λ block none. none)
      (λ block offset small none. in_place after.seen block offset (same block offset small (unwritten block none)))))

pub joined-push : (fronts : List (List Change)) (last : List Change) → joined (fronts ++ last ∷ []) ≡ joined fronts ++ last
joined-push [] last = append-nil last
joined-push (front ∷ fronts) last = ap (λ (more : List Change). front ++ more) (joined-push fronts last) ∙ sym (append_assoc front (joined fronts) last)

changes-push : (lists : List (List StoredGroup)) (groups : List StoredGroup) → map changes_of (lists ++ groups ∷ []) ≡ map changes_of lists ++ changes_of groups ∷ []
changes-push [] groups = refl
changes-push (list ∷ lists) groups = ap (λ (rest : List (List Change)). changes_of list ∷ rest) (changes-push lists groups)

first_unwritten : (a b : Bool) → (a || b) ≡ false → a ≡ false
first_unwritten true b none = none
first_unwritten false b none = refl

-- the last area in use came to stand before another
pub holds_begun : {D : Type 0} (keeper : KeeperState D) (before : State) (base : Image) (fronts : List (List Change)) (last : List Change) (holds : Holds keeper before base fronts last) (now : KeeperState D) (after : State)
    → KeepsLists now after (apply_all last (apply_all (joined fronts) base)) (keeper.base + length (joined fronts) + length last) (holds.keeps.areas.front ++ holds.keeps.areas.groups ∷ []) []
    → now.base ≡ keeper.base → now.geometry ≡ keeper.geometry → now.memory.map ≡ keeper.memory.map
    → ((block offset : ℕ) → offset < 4096 → is_put (last_touch block (touched_first holds.keeps.stands.header holds.keeps.areas.front)) ≡ false
    → slice_index after.seen (block_at holds.keeps.stands.header.geometry block + offset) ≡ slice_index before.seen (block_at holds.keeps.stands.header.geometry block + offset))
    → Holds now after base (fronts ++ last ∷ []) []
holds_begun keeper before base fronts last holds now after lists base_is geometry_is map_is same =
    let more = joined-push fronts last in
    let was : (block : ℕ) → is_written block (joined (fronts ++ last ∷ [])) ≡ false → is_written block (joined fronts) ≡ false =
    λ block none. first_unwritten _ _ (sym (written_append block (joined fronts) last) ∙ sym (ap (is_written block) more) ∙ none) in
    holds_lists now after (apply_all last (apply_all (joined fronts) base)) (keeper.base + length (joined fronts) + length last) (holds.keeps.areas.front ++ holds.keeps.areas.groups ∷ []) [] lists base (fronts ++ last ∷ []) []
    (sym (apply_all-append (joined fronts) last base) ∙ ap (λ (changes : List Change). apply_all changes base) (sym more))
    (omega (arith, base_is, ap length more, length-append (joined fronts) last))
    (changes-push holds.keeps.areas.front holds.keeps.areas.groups ∙ (λ i. holds.before_last i ++ holds.in_last i ∷ [])) refl
    (moved_base base after.seen keeper.geometry now.geometry keeper.memory.map now.memory.map (joined (fronts ++ last ∷ [])) geometry_is map_is
    (base_stays base before.seen after.seen keeper.geometry keeper.memory.map (joined fronts) (joined (fronts ++ last ∷ [])) holds.is_base was
    (λ block offset small none. in_place keeper before base fronts last holds after.seen block offset (same block offset small (unwritten keeper before base fronts last holds block (was block none))))))

-- what the commands of the first area make of the base is then what map and data hold
base_ended : {D : Type 0} (keeper : KeeperState D) (before : State) (image : Image) (number : ℕ) (keeps : Keeps keeper before image number) (plan : PlanState) (rest : List PlanState) (is : keeper.memory.plans ≡ plan ∷ rest)
    (after : List Kind) (mapped : plan.mapped ≡ Some after) (extent : ℕ) (sound : IsSound extent before) (fits : keeps.stands.header.base < 18446744073709551616) (content : List ℕ) (size : length content ≡ length before.seen)
    (same : (place : ℕ) → 8192 ≤ place → slice_index content place ≡ slice_index before.seen place) (base : Image) (more : List Change)
    → IsBase base before.seen keeps.stands.header.geometry keeps.stands.states (changes_of (parts keeper before image number keeps plan rest is after mapped).first ++ more)
    → IsBase (apply_all (changes_of (parts keeper before image number keeps plan rest is after mapped).first) base) content keeps.stands.header.geometry after more
base_ended keeper before image number keeps plan rest is after mapped extent sound fits content size same base more held =
    let header = keeps.stands.header in
    let geometry = header.geometry in
    let place = area_at geometry header.first_area in
    let first = (parts keeper before image number keeps plan rest is after mapped).first in
    let placed = (parts keeper before image number keeps plan rest is after mapped).first_placed in
    let list = moved_list plan.first (area_of geometry header.first_area) _ _ before.seen placed.from placed.bytes placed.blocks (parts keeper before image number keeps plan rest is after mapped).first_held.list in
    let taken = taken_over before.seen geometry place (next_number header.base) first list.stand keeps.stands.states after keeps.stands.map.count
    (states_after keeper before image number keeps plan rest is after mapped extent sound fits content size same)
    (puts_copied keeper before image number keeps plan rest is after mapped extent sound fits content size same) in
    let kept = image_kept before.seen content geometry (λ p above. same p (omega (arith, above))) after in
    record {
      blocks = made_blocks base before.seen geometry keeps.stands.states place (next_number header.base) first list.stand more held;
      kinds = λ block. made_kind base before.seen geometry keeps.stands.states place (next_number header.base) first list.stand more held block ∙ ap (λ (i : Image). i.kind block) taken;
      bytes = λ block offset small none.
          made_byte base before.seen geometry keeps.stands.states place (next_number header.base) first list.stand more held block offset small none
          ∙ ap (λ (i : Image). i.byte (4096 * block + offset)) (taken ∙ sym kept);
    }

first_changes : (front : List (List StoredGroup)) (list : List StoredGroup) (others : List (List StoredGroup)) (first : List Change) (rest : List (List Change)) → front ≡ list ∷ others → map changes_of front ≡ first ∷ rest
    → (changes_of list ≡ first) × (map changes_of others ≡ rest)
first_changes front list others first rest is held =
    let same : changes_of list ∷ map changes_of others ≡ first ∷ rest = sym (ap (map changes_of) is) ∙ held in
    (cc, cc)

-- the first area was let go, once all of it is in map and data
pub holds_ended : {D : Type 0} (keeper : KeeperState D) (before : State) (base : Image) (first : List Change) (others : List (List Change)) (last : List Change) (holds : Holds keeper before base (first ∷ others) last)
    (plan : PlanState) (rest : List PlanState) (is : keeper.memory.plans ≡ plan ∷ rest) (after : List Kind) (mapped : plan.mapped ≡ Some after) (extent : ℕ) (sound : IsSound extent before) (fits : holds.keeps.stands.header.base < 18446744073709551616)
    (now : KeeperState D) (state : State) → length state.seen ≡ length before.seen → ((place : ℕ) → 8192 ≤ place → slice_index state.seen place ≡ slice_index before.seen place)
    → KeepsLists now state (apply_all last (apply_all (first ++ joined others) base)) (keeper.base + length (first ++ joined others) + length last)
    (parts keeper before (apply_all last (apply_all (first ++ joined others) base)) (keeper.base + length (first ++ joined others) + length last) holds.keeps plan rest is after mapped).others holds.keeps.areas.groups
    → now.base ≡ keeper.base + length (changes_of (parts keeper before (apply_all last (apply_all (first ++ joined others) base)) (keeper.base + length (first ++ joined others) + length last) holds.keeps plan rest is after mapped).first)
    → now.geometry ≡ keeper.geometry → now.memory.map ≡ after
    → Holds now state (apply_all first base) others last
holds_ended keeper before base first others last holds plan rest is after mapped extent sound fits now state size same lists base_is geometry_is map_is =
    let image = apply_all last (apply_all (first ++ joined others) base) in
    let number = keeper.base + length (first ++ joined others) + length last in
    let several = parts keeper before image number holds.keeps plan rest is after mapped in
    let are = first_changes holds.keeps.areas.front several.first several.others first others several.is holds.before_last in
    let held : IsBase base before.seen holds.keeps.stands.header.geometry holds.keeps.stands.states (changes_of several.first ++ joined others) =
    subst (λ (c : List Change). IsBase base before.seen holds.keeps.stands.header.geometry holds.keeps.stands.states (c ++ joined others)) (sym are.0)
    (moved_base base before.seen keeper.geometry holds.keeps.stands.header.geometry keeper.memory.map holds.keeps.stands.states (first ++ joined others) (sym holds.keeps.sizes) (sym holds.keeps.mapped) holds.is_base) in
    let ended = subst (λ (c : List Change). IsBase (apply_all c base) state.seen holds.keeps.stands.header.geometry after (joined others)) are.0
    (base_ended keeper before image number holds.keeps plan rest is after mapped extent sound fits state.seen size same base (joined others) held) in
    holds_lists now state image number several.others holds.keeps.areas.groups lists (apply_all first base) others last
    (ap (apply_all last) (apply_all-append first (joined others) base))
    (omega (arith, base_is, ap length are.0, length-append first (joined others))) are.1 holds.in_last
    (moved_base (apply_all first base) state.seen holds.keeps.stands.header.geometry now.geometry after now.memory.map (joined others) (geometry_is ∙ holds.keeps.sizes) map_is ended)

-- no checkpoint is to be carried out where no area holds anything before the last
no_plans : (areas : List ℕ) (geometry : Geometry) (next : ℕ) (front : List (List StoredGroup)) (plans : List PlanState) (state : State) → AreHeld areas geometry next front (earlier_of plans) state → map changes_of front ≡ [] → plans ≡ []
no_plans [] geometry next [] [] state held none = refl
no_plans [] geometry next [] (plan ∷ plans) state held none = absurd held
no_plans (area ∷ areas) geometry next [] plans state held none = absurd held
no_plans areas geometry next (groups ∷ front) plans state held none = cc

-- so one area is in use
pub one_in_use : {D : Type 0} (keeper : KeeperState D) (state : State) (base : Image) (last : List Change) → Holds keeper state base [] last → keeper.phase ≡ One
one_in_use keeper state base last holds =
    let keeps = holds.keeps in
    keeps.phase
    ∙ ap phase_of (no_plans (areas_before_last keeps.stands.header) keeps.stands.header.geometry (next_number keeps.stands.header.base) keeps.areas.front keeper.memory.plans state keeps.areas.earlier_held holds.before_last)

module _ {D : Type 0} (keeper : KeeperState D) (state : State) (image : Image) (number : ℕ) (keeps : Keeps keeper state image number) where
  phase_one : (plans : List PlanState) → phase_of plans ≡ One → plans ≡ []
  phase_one [] is = refl
  phase_one (plan ∷ plans) is = absurd (never plan.mapped is)
    where
      never : (mapped : Option (List Kind)) → phase_in plan.left mapped ≡ One → ⊥
      never None is = cc
      never (Some states) is = cc

  pub front_empty : keeper.phase ≡ One → keeps.areas.front ≡ []
  front_empty is =
      let none = phase_one keeper.memory.plans (sym keeps.phase ∙ is) in
      front_none (areas_before_last keeps.stands.header) keeps.stands.header.geometry (next_number keeps.stands.header.base) keeps.areas.front state
      (subst (λ (p : List PlanState). AreHeld (areas_before_last keeps.stands.header) keeps.stands.header.geometry (next_number keeps.stands.header.base) keeps.areas.front (earlier_of p) state) none keeps.areas.earlier_held)

  abbrev stored : Image
  stored = stored_image state.seen keeps.stands.header.geometry keeps.stands.states

  changes_are : all_changes keeps.stands.lists ≡ all_changes keeps.areas.front ++ changes_of keeps.areas.groups
  changes_are =
      ap all_changes keeps.areas.are ∙ all_changes-append keeps.areas.front (keeps.areas.groups ∷ [])
      ∙ ap (λ (more : List Change). all_changes keeps.areas.front ++ more) (append-nil (changes_of keeps.areas.groups))

  image_made : image ≡ apply_all (changes_of keeps.areas.groups) (apply_all (all_changes keeps.areas.front) stored)
  image_made =
      keeps.stands.shows ∙ ap (λ (changes : List Change). apply_all changes stored) changes_are
      ∙ apply_all-append (all_changes keeps.areas.front) (changes_of keeps.areas.groups) stored

  number_made : number ≡ keeper.base + length (all_changes keeps.areas.front) + length (changes_of keeps.areas.groups)
  number_made = omega (arith, keeps.stands.count, keeps.from_base, ap length changes_are, length-append (all_changes keeps.areas.front) (changes_of keeps.areas.groups))

  pub held_as : HoldsAs keeper state image number
  held_as =
      let fronts = map changes_of keeps.areas.front in
      let same = sym (joined_lists keeps.areas.front) in
      let image_is = image_made ∙ ap (λ (changes : List Change). apply_all (changes_of keeps.areas.groups) (apply_all changes stored)) same in
      let number_is : number ≡ keeper.base + length (joined fronts) + length (changes_of keeps.areas.groups) = omega (arith, number_made, ap length same) in
      record {
        base = stored;
        fronts = fronts;
        last = changes_of keeps.areas.groups;
        holds = holds_lists keeper state image number keeps.areas.front keeps.areas.groups (record { keeps = keeps; front_is = refl; groups_are = refl }) stored
            fronts (changes_of keeps.areas.groups) image_is number_is refl refl
            (moved_base stored state.seen keeps.stands.header.geometry keeper.geometry keeps.stands.states keeper.memory.map (joined fronts) keeps.sizes keeps.mapped
            (base_of stored state.seen keeps.stands.header.geometry keeps.stands.states (joined fronts) refl));
        image_is = image_is;
        number_is = number_is;
        one = λ is. ap (map changes_of) (front_empty is);
        several = λ none. keeps.phase
            ∙ ap phase_of (no_plans (areas_before_last keeps.stands.header) keeps.stands.header.geometry (next_number keeps.stands.header.base) keeps.areas.front keeper.memory.plans state keeps.areas.earlier_held none);
      }

  -- the keeper that holds what makes the same image keeps it
  pub keeps_again : (now : KeeperState D) (after : State) (base : Image) (fronts : List (List Change)) (last : List Change) → Holds now after base fronts last → image ≡ apply_all last (apply_all (joined fronts) base) → now.count ≡ keeper.count → Keeps now after image number
  keeps_again now after base fronts last holds image_is count_is =
      subst (λ (n : ℕ). Keeps now after image n) (sym holds.keeps.counted ∙ count_is ∙ keeps.counted)
      (subst (λ (i : Image). Keeps now after i (now.base + length (joined fronts) + length last)) (sym image_is) holds.keeps)

  no_groups : (groups : List StoredGroup) → sizes_of groups ≡ 0 → groups ≡ []
  no_groups [] none = refl
  no_groups (group ∷ groups) none = absurd (let sum = sum_by-cons size_of group groups in omega (arith, none, sum))

  -- nothing is held over the image where one area is in use and its list is empty
  pub held_empty : keeper.phase ≡ One → keeper.used ≡ 0 → Holds keeper state image [] []
  held_empty one none =
      let front = front_empty one in
      let groups = no_groups keeps.areas.groups (sym keeps.taken ∙ none) in
      let image_is : image ≡ stored = image_made ∙ (λ i. apply_all (changes_of (groups i)) (apply_all (all_changes (front i)) stored)) in
      holds_lists keeper state image number keeps.areas.front keeps.areas.groups (record { keeps = keeps; front_is = refl; groups_are = refl }) image [] [] refl
      (omega (arith, number_made, ap (λ (f : List (List StoredGroup)). length (all_changes f)) front, ap (λ (g : List StoredGroup). length (changes_of g)) groups))
      (ap (map changes_of) front) (ap changes_of groups)
      (moved_base image state.seen keeps.stands.header.geometry keeper.geometry keeps.stands.states keeper.memory.map [] keeps.sizes keeps.mapped
      (base_of image state.seen keeps.stands.header.geometry keeps.stands.states [] image_is))
