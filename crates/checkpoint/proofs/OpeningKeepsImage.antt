-- What is read of a good device, as what a keeper keeps.
use Rattle.std.proofs.Common.{◌≡◌, ℕ, ◌+◌, ◌%◌, ◌<◌, Option, List, [], ◌∷◌, ◌++◌, length, false, refl, sym, ◌∙◌, ap, subst, arith, length-append}
use Rattle.std.proofs.lemmas.List.{append-nil}
use Rattle.disk_model.specs.Disk.{State, IsAllSynced, IsSound, MayLeave}
use Rattle.disk_model.specs.laws.Contents.{leaves_seen}
use Rattle.header_slots.specs.declared.header.Header.{Header}
use Rattle.image_model.specs.Change.{Change}
use Rattle.image_model.specs.declared.geometry.Geometry.{Geometry}
use Rattle.image_model.specs.declared.side.Side.{Side}
use Rattle.image_model.specs.Image.{Image, apply_all}
use Rattle.image_model.specs.declared.command.Kind.{Kind}
use Rattle.journal_format.specs.Area.{AreaState}
use Rattle.journal_format.specs.GroupList.{IsHeld, next_behind, changes_of}
use Rattle.journal_format.specs.Spelling.{StoredGroup}
use Rattle.regions.specs.Layout.{area_at, areas_in}
use Rattle.regions.specs.laws.Ring.{ring-last}
use Rattle.device_image.specs.Keeper.{AreUncopied, KeeperState, PlanState, earlier_of, phase_in, phase_of}
use Rattle.device_image.specs.Keeps.{AreHeld, IsInPhase, IsPlaced, Keeps, behind_lists}
use Rattle.checkpoint.specs.Opening.{IsPassing, IsRefused}
use Rattle.checkpoint.specs.inner.Opening.{IsOpened}
use Rattle.checkpoint.specs.inner.Recovery.{IsBegun}
use Rattle.device_image.specs.Stands.{StandsFor, HoldLists, all_changes, area_of, areas_before_last, in_use, last_area, next_number, stored_image}
use Rattle.checkpoint.specs.declared.fault.KeeperFault.{KeeperFault}
use Rattle.checkpoint.specs.declared.fault.KeeperFault.TheVariants.{NoMemory, DeviceFault, BadMap, NoHeader, BadHeader, NumbersFull, AreaFull, OutOfOrder, DamagedGroup, NotNow, Failed, AreaSmall}
use Rattle.device_image.specs.laws.CheckpointBounds.{uncopied_phase}
use Rattle.device_image.specs.laws.Frame.{all_changes-append, held_lists, moved_list, with_last}
use Rattle.device_image.specs.laws.Sole.{one_image, one_number}
use Rattle.device_image.specs.laws.HeaderReplaced.{follows}
use Rattle.checkpoint.proofs.RefusedHasNoImage.{never_refused}

-- and the same after lists of such groups
pub record FollowsLists (last next : ℕ) (lists : List (List StoredGroup)) : Type 0 where
  pub following : behind_lists next lists ≡ next_number (last + length (all_changes lists))
  pub fits : last + length (all_changes lists) < 18446744073709551616

follows_lists : (areas : List ℕ) (content : List ℕ) (geometry : Geometry) (next last : ℕ) (lists : List (List StoredGroup)) → last < 18446744073709551616 → next ≡ next_number last
    → HoldLists areas content geometry next lists → FollowsLists last next lists
follows_lists [] content geometry next last [] fits is holds = record { following = omega (arith, is); fits = omega (arith, fits) }
follows_lists [] content geometry next last (groups ∷ lists) fits is holds = absurd holds
follows_lists (area ∷ areas) content geometry next last [] fits is holds = absurd holds
follows_lists (area ∷ areas) content geometry next last (groups ∷ lists) fits is holds =
    let first = follows geometry.blocks content (area_at geometry area) next last groups fits is holds.0.stand in
    let all : length (all_changes (groups ∷ lists)) ≡ length (changes_of groups) + length (all_changes lists) = length-append (changes_of groups) (all_changes lists) in
    let rest = follows_lists areas content geometry (next_behind next groups) (last + length (changes_of groups)) lists first.fits first.following holds.1 in
    let same : last + length (changes_of groups) + length (all_changes lists) ≡ last + length (all_changes (groups ∷ lists)) = omega (arith, all) in
    record {
      following = rest.following ∙ ap next_number same;
      fits = omega (arith, rest.fits, same);
    }

-- a checkpoint of which nothing was copied has begun
pub uncopied_begun : (plans : List PlanState) → AreUncopied plans → IsBegun (phase_of plans)
uncopied_begun [] uncopied = tt
uncopied_begun (plan ∷ plans) uncopied = subst (λ (mapped : Option (List Kind)). IsBegun (phase_in plan.left mapped)) (sym (ap (λ (p : PlanState). p.mapped) uncopied.0)) tt

module _ (state : State) (header : Header) (slot : Side) (states : List Kind) (plans : List PlanState) (area : AreaState) (opened : IsOpened state header slot states plans area) (fits : header.base < 18446744073709551616) where
  pub held : HoldLists (areas_before_last header) state.seen header.geometry (next_number header.base) opened.areas.front
  held = held_lists _ _ _ _ (earlier_of plans) state opened.areas.earlier_held

  -- the number before the area's next is that of the last command
  pub last_number : (count : ℕ) → count ≡ (area.next + 18446744073709551615) % 18446744073709551616 → count ≡ header.base + length (all_changes opened.lists)
  last_number count is =
      let first = follows_lists _ state.seen header.geometry _ header.base opened.areas.front fits refl held in
      let last = follows area.blocks state.seen area.from _ (header.base + length (all_changes opened.areas.front)) opened.areas.groups first.fits first.following opened.areas.held.list.stand in
      let all = ap (λ (lists : List (List StoredGroup)). length (all_changes lists)) opened.areas.are
      ∙ ap length (all_changes-append opened.areas.front (opened.areas.groups ∷ []) ∙ ap (λ (more : List Change). all_changes opened.areas.front ++ more) (append-nil (changes_of opened.areas.groups)))
      ∙ length-append (all_changes opened.areas.front) (changes_of opened.areas.groups) in
      omega (arith, is, opened.areas.held.next, last.following, last.fits, all)

  abbrev pub opened_image : Image
  opened_image = apply_all (all_changes opened.lists) (stored_image state.seen header.geometry states)

  abbrev pub opened_stands : (count : ℕ) → count ≡ header.base + length (all_changes opened.lists) → StandsFor state.seen opened_image count
  opened_stands count is = record {
    header = header;
    slot = slot;
    states = states;
    lists = opened.lists;
    in_force = opened.in_force;
    map = opened.map;
    held = subst (λ (lists : List (List StoredGroup)). HoldLists (in_use header) state.seen header.geometry (next_number header.base) lists) (sym opened.areas.are)
        (subst (λ (areas : List ℕ). HoldLists areas state.seen header.geometry (next_number header.base) (opened.areas.front ++ opened.areas.groups ∷ [])) (sym (ring-last (areas_in header.geometry) header.before_last header.first_area))
        (with_last _ (last_area header) state.seen header.geometry (next_number header.base) opened.areas.front opened.areas.groups held
        (moved_list area (area_of header.geometry (last_area header)) _ _ state.seen opened.areas.placed.from opened.areas.placed.bytes opened.areas.placed.blocks opened.areas.held.list)));
    count = is;
    shows = refl;
  }

  pub opened_keeps : {D : Type 0} (keeper : KeeperState D) {extent : ℕ} → IsSound extent state → keeper.failed ≡ false → keeper.geometry ≡ header.geometry → keeper.generation ≡ header.generation → keeper.base ≡ header.base
      → keeper.phase ≡ phase_of keeper.memory.plans → keeper.memory.header ≡ header → keeper.memory.slot ≡ slot → keeper.memory.map ≡ states → keeper.memory.plans ≡ plans → keeper.memory.area ≡ area → keeper.used ≡ area.gate
      → keeper.count ≡ (area.next + 18446744073709551615) % 18446744073709551616 → Keeps keeper state opened_image keeper.count
  opened_keeps keeper sound works sizes generation base phase header_is slot_is map plan_is area_is used counted = record {
    works = works;
    steady = λ place loose. opened.synced place (sound.loose place loose);
    stands = opened_stands keeper.count (last_number keeper.count counted);
    sizes = sizes;
    generation = generation;
    from_base = base;
    headed = header_is;
    slotted = slot_is;
    counted = refl;
    mapped = map;
    areas = record {
      front = opened.areas.front;
      groups = opened.areas.groups;
      are = opened.areas.are;
      earlier_held = subst (λ (list : List AreaState). AreHeld (areas_before_last header) header.geometry (next_number header.base) opened.areas.front list state) (ap earlier_of (sym plan_is)) opened.areas.earlier_held;
      placed = subst (λ (a : AreaState). IsPlaced a header.geometry (last_area header)) (sym area_is) opened.areas.placed;
      held = subst (λ (a : AreaState). IsHeld a (behind_lists (next_number header.base) opened.areas.front) opened.areas.groups state) (sym area_is) opened.areas.held;
    };
    taken = used ∙ opened.areas.held.gate;
    phase = phase;
    phased = subst (λ (p : List PlanState). IsInPhase p state header states opened.areas.front) (sym plan_is)
        (uncopied_phase (areas_in header.geometry) header.before_last header plans (next_number header.base) opened.areas.front state states opened.areas.earlier_held opened.uncopied);
    unsynced = λ place unsynced. absurd (opened.synced place unsynced);
  }

-- where nothing was unsynced, what stood is what is kept
pub stood : (before after : State) (image : Image) (number : ℕ) → IsAllSynced before → MayLeave before after.seen → StandsFor before.seen image number → StandsFor after.seen image number
stood before after image number synced left stands = subst (λ (content : List ℕ). StandsFor content image number) (sym (leaves_seen before after.seen synced left)) stands

pub keeps_same : {D : Type 0} (keeper : KeeperState D) (state : State) (image other : Image) (number next : ℕ) → Keeps keeper state image number → StandsFor state.seen other next → Keeps keeper state other next
keeps_same keeper state image other number next keeps stands =
    let numbers = one_number state.seen image other number next keeps.stands stands in
    let images = one_image state.seen image other number next keeps.stands stands in
    subst (λ (i : Image). Keeps keeper state i next) images (subst (λ (n : ℕ). Keeps keeper state image n) numbers keeps)

pub passes : (content : List ℕ) (image : Image) (number : ℕ) (fault : KeeperFault) → IsRefused fault content → StandsFor content image number → IsPassing fault
passes content image number NoMemory refused stands = tt
passes content image number DeviceFault refused stands = tt
passes content image number BadMap refused stands = never_refused content image number stands BadMap refused (λ passing. passing)
passes content image number NoHeader refused stands = never_refused content image number stands NoHeader refused (λ passing. passing)
passes content image number BadHeader refused stands = never_refused content image number stands BadHeader refused (λ passing. passing)
passes content image number NumbersFull refused stands = tt
passes content image number AreaFull refused stands = refused
passes content image number OutOfOrder refused stands = refused
passes content image number DamagedGroup refused stands = never_refused content image number stands DamagedGroup refused (λ passing. passing)
passes content image number NotNow refused stands = refused
passes content image number Failed refused stands = refused
passes content image number AreaSmall refused stands = refused
