-- A keeper while an opening recovers it.
use Rattle.std.proofs.Common.{◌≡◌, ◌≢◌, ℕ, ◌+◌, ◌-◌, ◌≤◌, Result, Ok, Err, IfErr, OnOk, List, [], ◌∷◌, ◌++◌, refl, sym, ◌∙◌, ap, subst, arith, false}
use Rattle.disk_model.specs.Disk.{State, LeavesOnly}
use Rattle.device_image.specs.Keeper.{KeeperState, Memory, Phase, Copying, Mapped, One}
use Rattle.device_image.specs.Keeps.{Keeps}
use Rattle.image_model.specs.Image.{Image, apply_all}
use Rattle.image_model.specs.declared.geometry.Geometry.{Geometry}
use Rattle.checkpoint.specs.Headers.{HasHeader, HasHeaderOrNext}
use Rattle.checkpoint.specs.Keeper.{refused_by}
use Rattle.checkpoint.specs.inner.Recovery.{IsRecoveryFault, IsBegun}
use Rattle.checkpoint.specs.Steps.{IsStepFault, behind_first, copied_by, fewer, finished_by, first_turned, left_in, mapped_by, phase_left}
use Rattle.device_image.specs.Holds.{Holds, joined}
use Rattle.device_image.specs.laws.AfterCall.{held_as, joined-push, keeps_again}
use Rattle.device_image.specs.laws.Frame.{apply_all-append}
use Rattle.image_model.specs.Change.{Change}
use Rattle.checkpoint.specs.declared.fault.KeeperFault.{KeeperFault}
use Rattle.checkpoint.specs.declared.fault.KeeperFault.TheVariants.{NoMemory, DeviceFault, BadMap, NoHeader, BadHeader, NumbersFull, AreaFull, OutOfOrder, DamagedGroup, NotNow, Failed, AreaSmall}
use Rattle.device_image.specs.Remembers.{Remembers}
use Rattle.checkpoint.specs.Recovery.{IsRecovered}

-- a step in its time, of a keeper that hasn't failed, gives the refusals of a recovery
pub in_time : (fault : KeeperFault) → IsStepFault fault → (fault ≡ Failed → ⊥) → (fault ≡ NotNow → ⊥) → IsRecoveryFault fault
in_time NoMemory is works now = tt
in_time DeviceFault is works now = tt
in_time BadMap is works now = is
in_time NoHeader is works now = is
in_time BadHeader is works now = is
in_time NumbersFull is works now = tt
in_time AreaFull is works now = is
in_time OutOfOrder is works now = is
in_time DamagedGroup is works now = is
in_time NotNow is works now = now refl
in_time Failed is works now = works refl
in_time AreaSmall is works now = is

-- a keeper of which some blocks more were copied
abbrev pub copied_to : {D : Type 0} → KeeperState D → D → ℕ → List ℕ → Memory → KeeperState D
copied_to keeper disk left lefts memory = record keeper { disk = disk; lefts = lefts; phase = Copying left; memory = memory }

fewer_again : (lefts : List ℕ) (some more : ℕ) → fewer more (fewer some lefts) ≡ fewer (some + more) lefts
fewer_again [] some more = refl
fewer_again (left ∷ lefts) some more = ap (λ (n : ℕ). n ∷ lefts) (let same : left - some - more ≡ left - (some + more) = omega arith in same)

behind_fewer : (lefts : List ℕ) (blocks : ℕ) → behind_first (fewer blocks lefts) ≡ behind_first lefts
behind_fewer [] blocks = refl
behind_fewer (left ∷ lefts) blocks = refl

pub fewer_none : (lefts : List ℕ) → lefts ≡ fewer 0 lefts
fewer_none [] = refl
fewer_none (left ∷ lefts) = ap (λ (n : ℕ). n ∷ lefts) (let same : left ≡ left - 0 = omega arith in same)

module _ {D : Type 0} where
  pub copied_first : (keeper : KeeperState D) → keeper.phase ≡ Copying (left_in keeper.phase)
      → keeper ≡ copied_to keeper keeper.disk (left_in keeper.phase) (fewer (left_in keeper.phase - left_in keeper.phase) keeper.lefts) keeper.memory
  copied_first keeper is =
      let none : 0 ≡ left_in keeper.phase - left_in keeper.phase = omega arith in
      ap (λ (phase : Phase). let with_phase : KeeperState D = record keeper { phase = phase } in with_phase) is
      ∙ ap (λ (lefts : List ℕ). copied_to keeper keeper.disk (left_in keeper.phase) lefts keeper.memory) (fewer_none keeper.lefts ∙ ap (λ (n : ℕ). fewer n keeper.lefts) none)

  -- the header stays while blocks are copied
  pub header_of : (old mid : KeeperState D) (disk : D) (left : ℕ) (lefts : List ℕ) (memory : Memory) → mid ≡ copied_to old disk left lefts memory → (content : List ℕ) → HasHeader mid.geometry mid.generation content → HasHeader old.geometry old.generation content
  header_of old mid disk left lefts memory is content has = subst (λ (k : KeeperState D). HasHeader k.geometry k.generation content) is has

  pub left_next : (mid new : KeeperState D) (blocks : ℕ) → new ≡ copied_by mid blocks new.disk new.memory → left_in new.phase ≡ left_in mid.phase - blocks
  left_next mid new blocks is = ap (λ (k : KeeperState D). left_in k.phase) is

  pub copied_next : (old mid new : KeeperState D) (blocks : ℕ) → left_in mid.phase ≤ left_in old.phase → blocks ≤ left_in mid.phase
      → mid ≡ copied_to old mid.disk (left_in mid.phase) (fewer (left_in old.phase - left_in mid.phase) old.lefts) mid.memory → new ≡ copied_by mid blocks new.disk new.memory
      → new ≡ copied_to old new.disk (left_in new.phase) (fewer (left_in old.phase - left_in new.phase) old.lefts) new.memory
  copied_next old mid new blocks below some so_far is =
      let left : left_in mid.phase - blocks ≡ left_in new.phase = sym (left_next mid new blocks is) in
      let all : left_in old.phase - left_in mid.phase + blocks ≡ left_in old.phase - left_in new.phase = omega (arith, left, below, some) in
      is ∙ ap (λ (k : KeeperState D). copied_by k blocks new.disk new.memory) so_far
      ∙ ap (λ (n : ℕ). copied_to old new.disk n (fewer blocks (fewer (left_in old.phase - left_in mid.phase) old.lefts)) new.memory) left
      ∙ ap (λ (lefts : List ℕ). copied_to old new.disk (left_in new.phase) lefts new.memory)
      (fewer_again old.lefts (left_in old.phase - left_in mid.phase) blocks ∙ ap (λ (n : ℕ). fewer n old.lefts) all)

  pub copied_last : (old new : KeeperState D) → new ≡ copied_to old new.disk (left_in new.phase) (fewer (left_in old.phase - left_in new.phase) old.lefts) new.memory → left_in new.phase ≡ 0
      → new ≡ copied_by old (left_in old.phase) new.disk new.memory
  copied_last old new so_far none =
      let left : left_in new.phase ≡ left_in old.phase - left_in old.phase = omega (arith, none) in
      let all : left_in old.phase - left_in new.phase ≡ left_in old.phase = omega (arith, none) in
      so_far ∙ ap (λ (n : ℕ). copied_to old new.disk n (fewer (left_in old.phase - left_in new.phase) old.lefts) new.memory) left
      ∙ ap (λ (n : ℕ). copied_to old new.disk (left_in old.phase - left_in old.phase) (fewer n old.lefts) new.memory) all

  pub never_one : (keeper : KeeperState D) → keeper.phase ≡ Mapped → keeper.phase ≡ One → ⊥
  never_one keeper is one = cc

  -- the next header, of a keeper for which this many have come into force
  pub step_next : (old mid : KeeperState D) (headers : ℕ) (before after : State) → mid.geometry ≡ old.geometry → mid.generation ≡ old.generation + headers → LeavesOnly before after (HasHeaderOrNext mid.geometry mid.generation) → LeavesOnly before after (HasHeaderOrNext old.geometry (old.generation + headers))
  step_next old mid headers before after sizes number call = subst (λ (n : ℕ). LeavesOnly before after (HasHeaderOrNext old.geometry n)) number (subst (λ (size : Geometry). LeavesOnly before after (HasHeaderOrNext size mid.generation)) sizes call)

  -- a checkpoint that is carried to its end, in three steps
  pub finished_last : (old copied mapped new : KeeperState D) (blocks : ℕ) → copied ≡ copied_by old blocks copied.disk copied.memory → mapped ≡ mapped_by copied mapped.disk mapped.memory
      → new ≡ finished_by mapped new.disk new.memory → new ≡ finished_by old new.disk new.memory
  finished_last old copied mapped new blocks first second third =
      third ∙ ap (λ (k : KeeperState D). finished_by k new.disk new.memory) second ∙ ap (λ (k : KeeperState D). finished_by (mapped_by k mapped.disk mapped.memory) new.disk new.memory) first
      ∙ ap (λ (lefts : List ℕ). let made : KeeperState D = record old {
        disk = new.disk;
        generation = old.generation + 1;
        base = first_turned old.base old.turned;
        turned = behind_first old.turned;
        lefts = lefts;
        phase = phase_left lefts;
        memory = new.memory;
      } in made) (behind_fewer old.lefts blocks)

  -- a refusal that isn't a fault of the device leaves the keeper as it was
  pub still_kept : {T : Type 0} (state : D → State) (result : Result T KeeperFault) (old new : KeeperState D) (image : Image) (number : ℕ) → IfErr result (λ fault. new ≡ refused_by fault old new.disk)
      → Keeps old (state old.disk) image number → IfErr result (λ fault. fault ≢ DeviceFault → Keeps new (state new.disk) image number)
  still_kept state (Ok done) old new image number is keeps = tt
  still_kept state (Err DeviceFault) old new image number is keeps = λ other. absurd (other refl)
  still_kept state (Err NoMemory) old new image number is keeps = λ other. subst (λ (k : KeeperState D). Keeps k (state k.disk) image number) (sym is) keeps
  still_kept state (Err BadMap) old new image number is keeps = λ other. subst (λ (k : KeeperState D). Keeps k (state k.disk) image number) (sym is) keeps
  still_kept state (Err NoHeader) old new image number is keeps = λ other. subst (λ (k : KeeperState D). Keeps k (state k.disk) image number) (sym is) keeps
  still_kept state (Err BadHeader) old new image number is keeps = λ other. subst (λ (k : KeeperState D). Keeps k (state k.disk) image number) (sym is) keeps
  still_kept state (Err NumbersFull) old new image number is keeps = λ other. subst (λ (k : KeeperState D). Keeps k (state k.disk) image number) (sym is) keeps
  still_kept state (Err AreaFull) old new image number is keeps = λ other. subst (λ (k : KeeperState D). Keeps k (state k.disk) image number) (sym is) keeps
  still_kept state (Err OutOfOrder) old new image number is keeps = λ other. subst (λ (k : KeeperState D). Keeps k (state k.disk) image number) (sym is) keeps
  still_kept state (Err DamagedGroup) old new image number is keeps = λ other. subst (λ (k : KeeperState D). Keeps k (state k.disk) image number) (sym is) keeps
  still_kept state (Err NotNow) old new image number is keeps = λ other. subst (λ (k : KeeperState D). Keeps k (state k.disk) image number) (sym is) keeps
  still_kept state (Err Failed) old new image number is keeps = λ other. subst (λ (k : KeeperState D). Keeps k (state k.disk) image number) (sym is) keeps
  still_kept state (Err AreaSmall) old new image number is keeps = λ other. subst (λ (k : KeeperState D). Keeps k (state k.disk) image number) (sym is) keeps

  -- what holds the same as a keeper that keeps an image keeps it
  pub keeps_by : (old new : KeeperState D) (before after : State) (image : Image) (number : ℕ) → Keeps old before image number → new.count ≡ old.count
      → ((base : Image) (fronts : List (List Change)) (last : List Change) → Holds old before base fronts last → Holds new after base fronts last) → Keeps new after image number
  keeps_by old new before after image number keeps count held =
      let what = held_as old before image number keeps in
      keeps_again old before image number keeps new after what.base what.fronts what.last (held what.base what.fronts what.last what.holds) what.image_is count

  -- the same where the commands of the last area come to stand in front
  pub keeps_begun : (old new : KeeperState D) (before after : State) (image : Image) (number : ℕ) → Keeps old before image number → new.count ≡ old.count
      → ((base : Image) (fronts : List (List Change)) (last : List Change) → Holds old before base fronts last → Holds new after base (fronts ++ last ∷ []) []) → Keeps new after image number
  keeps_begun old new before after image number keeps count held =
      let what = held_as old before image number keeps in
      keeps_again old before image number keeps new after what.base (what.fronts ++ what.last ∷ []) [] (held what.base what.fronts what.last what.holds)
      (what.image_is ∙ sym (apply_all-append (joined what.fronts) what.last what.base) ∙ ap (λ (changes : List Change). apply_all changes what.base) (sym (joined-push what.fronts what.last))) count

  ended_by : (old new : KeeperState D) (before after : State) (image : Image) (number : ℕ) (keeps : Keeps old before image number) (base : Image) (fronts : List (List Change)) (last : List Change) → (fronts ≡ [] → ⊥) → new.count ≡ old.count
      → Holds old before base fronts last → image ≡ apply_all last (apply_all (joined fronts) base)
      → ((base : Image) (first : List Change) (others : List (List Change)) (last : List Change) → Holds old before base (first ∷ others) last → Holds new after (apply_all first base) others last) → Keeps new after image number
  ended_by old new before after image number keeps base [] last some count holds image_is held = absurd (some refl)
  ended_by old new before after image number keeps base (first ∷ others) last some count holds image_is held =
      keeps_again old before image number keeps new after (apply_all first base) others last (held base first others last holds)
      (image_is ∙ ap (apply_all last) (apply_all-append first (joined others) base)) count

  -- and where the commands of the first area are carried into map and data, unless that is refused
  pub keeps_ended : {T : Type 0} (result : Result T KeeperFault) (old new : KeeperState D) (before after : State) (image : Image) (number : ℕ) → Keeps old before image number → (old.phase ≡ One → ⊥) → OnOk result (new.count ≡ old.count)
      → ((base : Image) (first : List Change) (others : List (List Change)) (last : List Change) → Holds old before base (first ∷ others) last → OnOk result (Holds new after (apply_all first base) others last)) → OnOk result (Keeps new after image number)
  keeps_ended (Err fault) old new before after image number keeps several count held = tt
  keeps_ended (Ok done) old new before after image number keeps several count held =
      let what = held_as old before image number keeps in
      ended_by old new before after image number keeps what.base what.fronts what.last (λ none. several (what.several none)) count what.holds what.image_is held

  pub count_ended : {T : Type 0} (result : Result T KeeperFault) (old new : KeeperState D) → OnOk result (new ≡ finished_by old new.disk new.memory) → OnOk result (new.count ≡ old.count)
  count_ended (Err fault) old new is = tt
  count_ended (Ok done) old new is = ap (λ (k : KeeperState D). k.count) is

  pub sizes_ended : {T : Type 0} (result : Result T KeeperFault) (old new : KeeperState D) (geometry : Geometry) → old.geometry ≡ geometry → OnOk result (new ≡ finished_by old new.disk new.memory) → OnOk result (new.geometry ≡ geometry)
  sizes_ended (Err fault) old new geometry same is = tt
  sizes_ended (Ok done) old new geometry same is = ap (λ (k : KeeperState D). k.geometry) is ∙ same

  pub generation_ended : {T : Type 0} (result : Result T KeeperFault) (old new : KeeperState D) (generation : ℕ) → old.generation + 1 ≡ generation → OnOk result (new ≡ finished_by old new.disk new.memory) → OnOk result (new.generation ≡ generation)
  generation_ended (Err fault) old new generation one_more is = tt
  generation_ended (Ok done) old new generation one_more is = ap (λ (k : KeeperState D). k.generation) is ∙ one_more

  -- what an opening leaves once a checkpoint of the one area that was in use has ended
  pub recovered_by : {T : Type 0} (result : Result T KeeperFault) (old new : KeeperState D) (left : ℕ) → OnOk result (new ≡ finished_by old new.disk new.memory) → old.failed ≡ false → old.used ≡ 0 → old.turned ≡ old.count ∷ [] → old.lefts ≡ left ∷ []
      → OnOk result (Remembers new []) → OnOk result (IsRecovered new)
  recovered_by (Err fault) old new left is works used turned lefts remembers = tt
  recovered_by (Ok done) old new left is works used turned lefts remembers = record {
    works = ap (λ (k : KeeperState D). k.failed) is ∙ works;
    phase = ap (λ (k : KeeperState D). k.phase) is ∙ ap (λ (l : List ℕ). phase_left (behind_first l)) lefts;
    used = ap (λ (k : KeeperState D). k.used) is ∙ used;
    turned = ap (λ (k : KeeperState D). k.turned) is ∙ ap behind_first turned;
    lefts = ap (λ (k : KeeperState D). k.lefts) is ∙ ap behind_first lefts;
    base = ap (λ (k : KeeperState D). k.base) is ∙ ap (first_turned old.base) turned ∙ sym (ap (λ (k : KeeperState D). k.count) is);
    remembers = remembers;
  }

-- the next checkpoint begins where the first has ended
pub begun_left : (lefts : List ℕ) → IsBegun (phase_left (behind_first lefts))
begun_left [] = tt
begun_left (left ∷ []) = tt
begun_left (left ∷ next ∷ lefts) = tt
