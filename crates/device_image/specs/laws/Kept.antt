-- What a keeper keeps: a crash leaves it, and so does all that changes only the last area and data that are to be copied.
use Rattle.std.proofs.Common.{◌≡◌, ℕ, ◌+◌, ◌*◌, ◌<◌, List, [], ◌∷◌, ◌++◌, length, slice_index, sym, ◌∙◌, ap, arith, append_assoc, length-append}
use Rattle.std.proofs.lemmas.List.{append-nil}
use Rattle.disk_model.specs.Disk.{State, InRange, MayLeave}
use Rattle.image_model.specs.Change.{Change}
use Rattle.image_model.specs.Image.{Image, apply_all}
use Rattle.image_model.specs.declared.geometry.Geometry.{Geometry}
use Rattle.journal_format.specs.GroupList.{IsList, changes_of}
use Rattle.journal_format.specs.Spelling.{StoredGroup}
use Rattle.device_image.specs.Keeper.{KeeperState, earlier_of}
use Rattle.device_image.specs.Keeps.{IsCopyPlace, Keeps, behind_lists}
use Rattle.device_image.specs.Stands.{StandsFor, HoldLists, all_changes, next_number, stored_image}
use Rattle.device_image.specs.laws.Frame.{fronts_of, held_lists, last_of, list_kept, moved_list, stands_with, all_changes-append, apply_all-append, blocks-apply_all, changes-append}

-- the image has the blocks of the keeper's geometry
pub kept_size : {D : Type 0} (keeper : KeeperState D) (state : State) (image : Image) (number : ℕ) → Keeps keeper state image number → image.blocks ≡ keeper.geometry.blocks
kept_size keeper state image number keeps =
    ap (λ (i : Image). i.blocks) keeps.stands.shows
    ∙ blocks-apply_all (all_changes keeps.stands.lists) (stored_image state.seen keeps.stands.header.geometry keeps.stands.states)
    ∙ ap (λ (size : Geometry). size.blocks) (sym keeps.sizes)

-- the changes with one group more
pub changes-push : (front : List (List StoredGroup)) (groups : List StoredGroup) (group : StoredGroup)
    → all_changes (front ++ (groups ++ group ∷ []) ∷ []) ≡ all_changes (front ++ groups ∷ []) ++ group.changes
changes-push front groups group =
    all_changes-append front ((groups ++ group ∷ []) ∷ [])
    ∙ ap (λ (more : List Change). all_changes front ++ more)
    (append-nil (changes_of (groups ++ group ∷ [])) ∙ changes-append groups (group ∷ []) ∙ ap (λ (more : List Change). changes_of groups ++ more) (append-nil group.changes))
    ∙ sym (append_assoc (all_changes front) (changes_of groups) group.changes)
    ∙ ap (λ (some : List Change). some ++ group.changes)
    (ap (λ (more : List Change). all_changes front ++ more) (sym (append-nil (changes_of groups))) ∙ sym (all_changes-append front (groups ∷ [])))

module _ {D : Type 0} (keeper : KeeperState D) (state : State) (image : Image) (number : ℕ) (keeps : Keeps keeper state image number) where
  abbrev pub first : ℕ
  first = behind_lists (next_number keeps.stands.header.base) keeps.areas.front

  pub held : HoldLists (fronts_of keeps.stands) state.seen keeps.stands.header.geometry (next_number keeps.stands.header.base) keeps.areas.front
  held = held_lists _ _ _ _ (earlier_of keeper.memory.plans) state keeps.areas.earlier_held

  pub low_synced : (place : ℕ) → place < 8192 + 2 * keeps.stands.header.geometry.area → state.unsynced place → ⊥
  low_synced place below unsynced = let copy = keeps.unsynced place unsynced in omega (arith, below, copy.inside.0)

  pub in_area : (place : ℕ) → InRange keeper.memory.area.from keeper.memory.area.bytes place → InRange (last_of keeps.stands).from (last_of keeps.stands).bytes place
  in_area place within = (omega (arith, within.0, keeps.areas.placed.from), omega (arith, within.1, keeps.areas.placed.from, keeps.areas.placed.bytes))

  -- the last area has this list, and all else stays but for data that are to be copied
  module _ (content : List ℕ) (size : length content ≡ length state.seen)
      (same : (place : ℕ) → (InRange (last_of keeps.stands).from (last_of keeps.stands).bytes place → ⊥) → (IsCopyPlace keeps.stands.header keeps.areas.front place → ⊥) → slice_index content place ≡ slice_index state.seen place) where
    abbrev pub stands_there : (groups : List StoredGroup) (other : Image) (count : ℕ) → IsList keeper.memory.area first groups content
        → count ≡ keeps.stands.header.base + length (all_changes (keeps.areas.front ++ groups ∷ []))
        → other ≡ apply_all (all_changes (keeps.areas.front ++ groups ∷ [])) (stored_image state.seen keeps.stands.header.geometry keeps.stands.states)
        → StandsFor content other count
    stands_there groups other count list count_is shows =
        stands_with state.seen content image other number count keeps.stands keeps.areas.front groups size same held
        (moved_list keeper.memory.area (last_of keeps.stands) _ _ content keeps.areas.placed.from keeps.areas.placed.bytes keeps.areas.placed.blocks list) count_is shows

    pub stands_same : IsList keeper.memory.area first keeps.areas.groups content → StandsFor content image number
    stands_same list = stands_there keeps.areas.groups image number list
        (keeps.stands.count ∙ ap (λ (lists : List (List StoredGroup)). keeps.stands.header.base + length (all_changes lists)) keeps.areas.are)
        (keeps.stands.shows ∙ ap (λ (lists : List (List StoredGroup)). apply_all (all_changes lists) (stored_image state.seen keeps.stands.header.geometry keeps.stands.states)) keeps.areas.are)

    pub more_count : (group : StoredGroup) (count : ℕ) → count ≡ number + length group.changes
        → count ≡ keeps.stands.header.base + length (all_changes (keeps.areas.front ++ (keeps.areas.groups ++ group ∷ []) ∷ []))
    more_count group count count_is =
        let push = changes-push keeps.areas.front keeps.areas.groups group in
        let were = ap (λ (lists : List (List StoredGroup)). length (all_changes lists)) keeps.areas.are in
        omega (arith, count_is, keeps.stands.count, were, ap length push, length-append (all_changes (keeps.areas.front ++ keeps.areas.groups ∷ [])) group.changes)

    pub more_shows : (group : StoredGroup) → apply_all group.changes image
        ≡ apply_all (all_changes (keeps.areas.front ++ (keeps.areas.groups ++ group ∷ []) ∷ [])) (stored_image state.seen keeps.stands.header.geometry keeps.stands.states)
    more_shows group =
        let base = stored_image state.seen keeps.stands.header.geometry keeps.stands.states in
        ap (apply_all group.changes) (keeps.stands.shows ∙ ap (λ (lists : List (List StoredGroup)). apply_all (all_changes lists) base) keeps.areas.are)
        ∙ sym (apply_all-append (all_changes (keeps.areas.front ++ keeps.areas.groups ∷ [])) group.changes base)
        ∙ ap (λ (changes : List Change). apply_all changes base) (sym (changes-push keeps.areas.front keeps.areas.groups group))

    abbrev pub stands_more : (group : StoredGroup) (count : ℕ) → count ≡ number + length group.changes → IsList keeper.memory.area first (keeps.areas.groups ++ group ∷ []) content
        → StandsFor content (apply_all group.changes image) count
    stands_more group count count_is list = stands_there (keeps.areas.groups ++ group ∷ []) (apply_all group.changes image) count list (more_count group count count_is) (more_shows group)

  -- a crash leaves the image
  pub kept_content : (content : List ℕ) → MayLeave state content → StandsFor content image number
  kept_content content left = stands_same content left.size
      (λ place outside none. left.same place (λ unsynced. none (keeps.unsynced place unsynced)))
      (list_kept keeper.memory.area first keeps.areas.groups state.seen content (λ place within. left.same place (keeps.areas.held.synced place within)) keeps.areas.held.list)
