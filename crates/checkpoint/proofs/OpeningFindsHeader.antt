-- What an opening finds, and what it leaves.
use Rattle.std.proofs.Common.{◌≡◌, inl, inr, ⊎_elim, ℕ, zero, suc, ◌+◌, ◌≤◌, ◌<◌, ◌^◌, Option, Some, None, Result, Ok, List, [], ◌∷◌, ◌++◌, length, refl, sym, ◌∙◌, ap, subst, arith}
use Rattle.std.proofs.lemmas.List.Sums.{sum_by-cons}
use Rattle.disk_model.specs.Disk.{State, IsAllSynced, LeavesOnly, MayLeave}
use Rattle.disk_model.specs.laws.Contents.{leaves_seen}
use Rattle.disk_model.specs.laws.Moments.{goes_on, weakens}
use Rattle.header_slots.specs.declared.header.Header.{Header}
use Rattle.image_model.specs.Image.{Image}
use Rattle.image_model.specs.declared.command.Kind.{Kind}
use Rattle.image_model.specs.declared.geometry.Geometry.{Geometry}
use Rattle.journal_format.specs.Area.{AreaState}
use Rattle.journal_format.specs.GroupList.{IsList, Stand, next_behind, size_of, sizes_of}
use Rattle.journal_format.specs.Spelling.{StoredGroup}
use Rattle.journal_format.specs.laws.OneList.{one_list}
use Rattle.regions.specs.Layout.{area_at, areas_in, behind}
use Rattle.device_image.specs.Keeper.{KeeperState, One, PlanState, earlier_of, phase_in, phase_of, turned_of}
use Rattle.device_image.specs.Keeps.{AreHeld, Keeps, behind_lists}
use Rattle.device_image.specs.Stands.{StandsFor, all_changes, area_of, areas_before_last, next_number}
use Rattle.device_image.specs.laws.CheckpointBounds.{fronts_many}
use Rattle.device_image.specs.laws.Frame.{moved_list}
use Rattle.device_image.specs.laws.Sole.{same_header}
use Rattle.checkpoint.specs.Headers.{HasHeader, HeadersFollow, HeadersFollowUpTo}
use Rattle.checkpoint.specs.Opening.{AreHeadersInTurn, HasLastGeneration, IsAtRest, IsFixed, IsFixedOrNot, IsOpeningRefused, IsRefused, LacksGenerations, StandsAs, disk_after, headers_for, headers_for_last, headers_from}
use Rattle.checkpoint.specs.inner.Opening.{IsReadFixed, IsReadFixedOrNot}
use Rattle.checkpoint.specs.inner.Recovery.{IsRecoveryFault, headers_at}
use Rattle.checkpoint.proofs.HeaderAfterCrash.{follows_after}
use Rattle.checkpoint.specs.declared.fault.KeeperFault.{KeeperFault}
use Rattle.checkpoint.specs.declared.fault.KeeperFault.TheVariants.{NoMemory, DeviceFault, BadMap, NoHeader, BadHeader, NumbersFull, AreaFull, OutOfOrder, DamagedGroup, NotNow, Failed, AreaSmall}

no_front : (sides : List ℕ) (geometry : Geometry) (next : ℕ) (front : List (List StoredGroup)) (state : State) → AreHeld sides geometry next front [] state → front ≡ []
no_front [] geometry next [] state held = refl
no_front [] geometry next (groups ∷ front) state held = absurd held
no_front (side ∷ sides) geometry next [] state held = absurd held
no_front (side ∷ sides) geometry next (groups ∷ front) state held = absurd held

no_groups : (groups : List StoredGroup) → sizes_of groups ≡ 0 → groups ≡ []
no_groups [] none = refl
no_groups (group ∷ groups) none = absurd (omega (arith, none, sum_by-cons size_of group groups))

pub no_plan : (plans : List PlanState) → phase_of plans ≡ One → plans ≡ []
no_plan [] is = refl
no_plan (plan ∷ plans) is = absurd (never plan.mapped is)
  where
    never : (mapped : Option (List Kind)) → phase_in plan.left mapped ≡ One → ⊥
    never None is = cc
    never (Some map) is = cc

alone : (plans : List PlanState) (n : ℕ) → n ≡ length plans → n ≡ 0 → plans ≡ []
alone [] n many one = refl
alone (plan ∷ plans) n many one = absurd (omega (arith, many, one))

turned_many : (plans : List PlanState) → length (turned_of plans) ≡ length plans
turned_many [] = refl
turned_many (plan ∷ plans) = ap (λ (n : ℕ). suc n) (turned_many plans)

front_many : (sides : List ℕ) (geometry : Geometry) (next : ℕ) (front : List (List StoredGroup)) (plans : List PlanState) (state : State) → AreHeld sides geometry next front (earlier_of plans) state → length front ≡ length plans
front_many [] geometry next [] [] state held = refl
front_many [] geometry next [] (plan ∷ plans) state held = absurd held
front_many [] geometry next (groups ∷ front) plans state held = absurd held
front_many (side ∷ sides) geometry next [] plans state held = absurd held
front_many (side ∷ sides) geometry next (groups ∷ front) [] state held = absurd held
front_many (side ∷ sides) geometry next (groups ∷ front) (plan ∷ plans) state held =
    ap (λ (n : ℕ). suc n) (front_many sides geometry (next_behind next groups) front plans state held.2)

headers_last : (groups : List StoredGroup) (used : ℕ) → used ≡ sizes_of groups → headers_at used ≡ headers_for_last groups
headers_last [] used is = ap headers_at is
headers_last (group ∷ groups) zero is = absurd (omega (arith, is, sum_by-cons size_of group groups))
headers_last (group ∷ groups) (suc place) is = refl

-- a header for each list before the last, and those for the last
headers_after : (first : List StoredGroup) (front : List (List StoredGroup)) (groups : List StoredGroup) → headers_from first (front ++ groups ∷ []) ≡ length front + 1 + headers_for_last groups
headers_after first [] groups = omega arith
headers_after first (next ∷ front) groups = let rest = headers_after next front groups in omega (arith, rest)

headers_all : (front : List (List StoredGroup)) (groups : List StoredGroup) → headers_for (front ++ groups ∷ []) ≡ length front + headers_for_last groups
headers_all [] groups = omega arith
headers_all (first ∷ front) groups = let rest = headers_after first front groups in omega (arith, rest)

module _ {D : Type 0} (keeper : KeeperState D) (state : State) (image : Image) (number : ℕ) (keeps : Keeps keeper state image number) where
  -- all headers that it takes to empty the journal, and the generation after them
  pub headers_most : keeper.turned ≡ turned_of keeper.memory.plans → length keeper.turned + headers_at keeper.used ≡ headers_for keeps.stands.lists
  headers_most turned =
      let header = keeps.stands.header in
      let in_turn : length keeper.turned ≡ length keeper.memory.plans = ap length turned ∙ turned_many keeper.memory.plans in
      let fronts = front_many (areas_before_last header) header.geometry (next_number header.base) keeps.areas.front keeper.memory.plans state keeps.areas.earlier_held in
      let last = headers_last keeps.areas.groups keeper.used keeps.taken in
      let all : headers_for keeps.stands.lists ≡ length keeps.areas.front + headers_for_last keeps.areas.groups = ap headers_for keeps.areas.are ∙ headers_all keeps.areas.front keeps.areas.groups in
      omega (arith, in_turn, fronts, last, all)

  pub headers_left : keeper.turned ≡ turned_of keeper.memory.plans → keeper.generation + length keeper.turned + headers_at keeper.used ≡ keeps.stands.header.generation + headers_for keeps.stands.lists
  headers_left turned = let most = headers_most turned in omega (arith, keeps.generation, most)

  front_empty : keeper.memory.plans ≡ [] → keeps.areas.front ≡ []
  front_empty none =
      let header = keeps.stands.header in
      no_front (areas_before_last header) header.geometry (next_number header.base) keeps.areas.front state
      (subst (λ (list : List AreaState). AreHeld (areas_before_last header) header.geometry (next_number header.base) keeps.areas.front list state) (ap earlier_of none) keeps.areas.earlier_held)

  -- where the journal is empty all is at the base
  pub empty_base : keeper.phase ≡ One → keeper.used ≡ 0 → keeper.base ≡ number
  empty_base one none =
      let front = front_empty (no_plan keeper.memory.plans (sym keeps.phase ∙ one)) in
      let groups = no_groups keeps.areas.groups (sym keeps.taken ∙ none) in
      let lists : keeps.stands.lists ≡ [] ∷ [] = keeps.areas.are ∙ (λ i. front i ++ groups i ∷ []) in
      let changes : length (all_changes keeps.stands.lists) ≡ 0 = ap (λ (l : List (List StoredGroup)). length (all_changes l)) lists in
      omega (arith, keeps.from_base, keeps.stands.count, changes)

  -- and so it is where one area is in use and its list is empty
  pub rests : IsAtRest state.seen → (keeper.phase ≡ One) × (keeper.used ≡ 0)
  rests rest =
      let header = keeps.stands.header in
      let is : rest.header ≡ header = same_header state.seen (length state.seen) rest.header header rest.slot keeps.stands.slot rest.in_force keeps.stands.in_force in
      let one : header.before_last ≡ 0 = ap (λ (h : Header). h.before_last) (sym is) ∙ rest.one in
      let many = fronts_many (areas_in header.geometry) header.before_last header.first_area header.geometry (next_number header.base) keeps.areas.front keeper.memory.plans state keeps.areas.earlier_held in
      let none = alone keeper.memory.plans header.before_last many one in
      let front = front_empty none in
      let area = keeper.memory.area in
      let from : area.from ≡ area_at header.geometry header.first_area = keeps.areas.placed.from ∙ ap (λ (n : ℕ). area_at header.geometry (behind (areas_in header.geometry) n header.first_area)) one in
      let few : header.geometry.blocks < 2 ^ 64 = omega (arith, header.geometry.not_too_many) in
      let rested : Stand header.geometry.blocks state.seen (area_at header.geometry header.first_area) (next_number header.base) [] =
      subst (λ (h : Header). Stand h.geometry.blocks state.seen (area_at h.geometry h.first_area) (next_number h.base) []) is rest.list.stand in
      let here : Stand header.geometry.blocks state.seen (area_at header.geometry header.first_area) (next_number header.base) keeps.areas.groups =
      subst (λ (blocks : ℕ). Stand blocks state.seen (area_at header.geometry header.first_area) (next_number header.base) keeps.areas.groups) keeps.areas.placed.blocks
      (subst (λ (place : ℕ). Stand area.blocks state.seen place (next_number header.base) keeps.areas.groups) from
      (subst (λ (lists : List (List StoredGroup)). Stand area.blocks state.seen area.from (behind_lists (next_number header.base) lists) keeps.areas.groups) front keeps.areas.held.list.stand)) in
      let groups = one_list header.geometry.blocks few state.seen (area_at header.geometry header.first_area) (next_number header.base) keeps.areas.groups [] here rested in
      (keeps.phase ∙ ap phase_of none, keeps.taken ∙ ap sizes_of groups)

  -- and one area is in use and its list is empty where it is so
  pub at_rest : keeper.phase ≡ One → keeper.used ≡ 0 → IsAtRest state.seen
  at_rest one none =
      let header = keeps.stands.header in
      let plans = no_plan keeper.memory.plans (sym keeps.phase ∙ one) in
      let front = front_empty plans in
      let groups = no_groups keeps.areas.groups (sym keeps.taken ∙ none) in
      let many = fronts_many (areas_in header.geometry) header.before_last header.first_area header.geometry (next_number header.base) keeps.areas.front keeper.memory.plans state keeps.areas.earlier_held in
      let before_last : header.before_last ≡ 0 = many ∙ ap length plans in
      let from = keeps.areas.placed.from ∙ ap (λ (n : ℕ). area_at header.geometry (behind (areas_in header.geometry) n header.first_area)) before_last in
      let list = subst (λ (lists : List (List StoredGroup)). IsList keeper.memory.area (behind_lists (next_number header.base) lists) [] state.seen) front
      (subst (λ (g : List StoredGroup). IsList keeper.memory.area (behind_lists (next_number header.base) keeps.areas.front) g state.seen) groups keeps.areas.held.list) in
      record {
        header = header;
        slot = keeps.stands.slot;
        in_force = keeps.stands.in_force;
        one = before_last;
        list = moved_list keeper.memory.area (area_of header.geometry header.first_area) (next_number header.base) [] state.seen from keeps.areas.placed.bytes keeps.areas.placed.blocks list;
      }

-- a refusal of reading a device, as one of an opening
pub refused_opening : (fault : KeeperFault) (found after : List ℕ) → IsRefused fault found → IsOpeningRefused fault found after
refused_opening NoMemory found after refused = tt
refused_opening DeviceFault found after refused = tt
refused_opening BadMap found after refused = refused
refused_opening NoHeader found after refused = refused
refused_opening BadHeader found after refused = refused
refused_opening NumbersFull found after refused = absurd refused
refused_opening AreaFull found after refused = refused
refused_opening OutOfOrder found after refused = refused
refused_opening DamagedGroup found after refused = refused
refused_opening NotNow found after refused = refused
refused_opening Failed found after refused = refused
refused_opening AreaSmall found after refused = refused

-- and one of a recovery
pub refused_recovery : (fault : KeeperFault) (found after : List ℕ) → IsRecoveryFault fault → (fault ≡ NumbersFull → StandsAs found after × HasLastGeneration after × (IsAtRest after → ⊥) × LacksGenerations found) → IsOpeningRefused fault found after
refused_recovery NoMemory found after cause full = tt
refused_recovery DeviceFault found after cause full = tt
refused_recovery BadMap found after cause full = absurd cause
refused_recovery NoHeader found after cause full = absurd cause
refused_recovery BadHeader found after cause full = absurd cause
refused_recovery NumbersFull found after cause full = full refl
refused_recovery AreaFull found after cause full = cause
refused_recovery OutOfOrder found after cause full = cause
refused_recovery DamagedGroup found after cause full = absurd cause
refused_recovery NotNow found after cause full = cause
refused_recovery Failed found after cause full = cause
refused_recovery AreaSmall found after cause full = cause

-- the numbers are full of a keeper whose generation is the last one
pub is_full : {D : Type 0} (keeper : KeeperState D) (state : State) (image : Image) (number : ℕ) → Keeps keeper state image number → keeper.generation ≡ 18446744073709551615 → HasLastGeneration state.seen
is_full keeper state image number keeps last = record {
  header = keeps.stands.header;
  slot = keeps.stands.slot;
  in_force = keeps.stands.in_force;
  last = sym keeps.generation ∙ last;
}

-- where nothing was unsynced, a crash leaves what stood
pub stood_content : (before : State) (image : Image) (number : ℕ) → IsAllSynced before → StandsFor before.seen image number → (content : List ℕ) → MayLeave before content → StandsFor content image number
stood_content before image number synced stands content left = subst (λ (c : List ℕ). StandsFor c image number) (sym (leaves_seen before content synced left)) stands

-- what a crash leaves of a device that was read alone
abbrev read_fixed : {D : Type 0} {before : State} {state : D → State} {after : State} {found : List ℕ} → IsReadFixed before state after found → IsFixed before state after found
read_fixed is = record { first = is.first; synced = is.synced; seen = is.seen; until_then = is.until_then; from_then = weakens is.from_then (λ content same. inl same) }

abbrev pub CrashAndHeaders : {D : Type 0} → State → (D → State) → Result (KeeperState D) (KeeperFault × D) → List ℕ → Type 0
CrashAndHeaders before state result found = (crash : IsFixedOrNot before state result found) × AreHeadersInTurn before state result found crash

pub read_leaves : {D : Type 0} (before : State) (state : D → State) (found : List ℕ) (result : Result (KeeperState D) (KeeperFault × D)) → IsReadFixedOrNot before state result found → CrashAndHeaders before state result found
read_leaves before state found result (inl is) = (inl (read_fixed is), inl is.from_then)
read_leaves before state found result (inr failed) = (inr failed, tt)

-- what a crash leaves while what was read is recovered
pub recovers : {D : Type 0} (before : State) (state : D → State) (found : List ℕ) (keeper : KeeperState D) (result : Result (KeeperState D) (KeeperFault × D)) (image : Image) (number : ℕ) (stands : StandsFor found image number) (most : ℕ)
    → keeper.geometry ≡ stands.header.geometry → keeper.generation ≡ stands.header.generation → most ≡ headers_for stands.lists
    → IsReadFixedOrNot before state (Ok keeper) found → LeavesOnly (state keeper.disk) (state (disk_after result)) (λ content. StandsFor content image number)
    → HeadersFollowUpTo state keeper.geometry keeper.generation most (state keeper.disk) (state (disk_after result)) → CrashAndHeaders before state result found
recovers {D} before state found keeper result image number stands most sizes generation most_is (inl is) call headers =
    let found_header : HasHeader stands.header.geometry stands.header.generation found = record { header = stands.header; slot = stands.slot; in_force = stands.in_force; sizes = refl; number = refl } in
    let still = weakens is.from_then (λ content same. subst (HasHeader stands.header.geometry stands.header.generation) (sym same) found_header) in
    let few : headers.0 ≤ headers_for stands.lists = omega (arith, headers.1, most_is) in
    let there = subst (λ (n : ℕ). HeadersFollow state stands.header.geometry n headers.0 (state keeper.disk) (state (disk_after result))) generation
    (subst (λ (size : Geometry). HeadersFollow state size keeper.generation headers.0 (state keeper.disk) (state (disk_after result))) sizes headers.2) in (
      inl (record {
        first = is.first;
        synced = is.synced;
        seen = is.seen;
        until_then = is.until_then;
        from_then = goes_on (weakens is.from_then (λ content same. inl same)) call (λ content stood. inr (image, number, stands, stood));
      }),
      inr (image, number, stands, (headers.0, few, follows_after state stands.header.geometry stands.header.generation headers.0 _ _ _ still there)),
    )
recovers before state found keeper result image number stands most sizes generation most_is (inr failed) call headers = absurd failed

-- and while what was opened is changed
pub changes : {D : Type 0} (before : State) (state : D → State) (found : List ℕ) (keeper : KeeperState D) (result : Result (KeeperState D) (KeeperFault × D)) (image : Image) (number : ℕ) → StandsFor found image number
    → IsFixedOrNot before state (Ok keeper) found → LeavesOnly (state keeper.disk) (state (disk_after result)) (λ content. StandsFor content image number) → IsFixedOrNot before state result found
changes before state found keeper result image number stands opened call = ⊎_elim
    (λ is. inl (record {
      first = is.first;
      synced = is.synced;
      seen = is.seen;
      until_then = is.until_then;
      from_then = goes_on is.from_then call (λ content stood. inr (image, number, stands, stood));
    }))
    (λ failed. absurd failed)
    opened
