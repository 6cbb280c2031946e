-- A keeper while layout 2 takes the place of layout 1.
use Rattle.std.proofs.Common.{◌≡◌, ◌≢◌, ◌⊎◌, inl, inr, ⊎_elim, ℕ, ◌+◌, ◌≤◌, ◌<◌, Option, Some, None, Result, Err, List, [], ◌∷◌, refl, sym, ◌∙◌, ap, subst, arith}
use Rattle.disk_model.specs.Disk.{State, IsSound}
use Rattle.header_slots.specs.Change.{ComesNext, IsInPlace, IsUpgraded, LeavesEither}
use Rattle.header_slots.specs.Slots.{HoldsHeader}
use Rattle.header_slots.specs.declared.header.Header.{Header}
use Rattle.header_slots.specs.laws.Sole.{same_fields}
use Rattle.image_model.specs.Image.{Image}
use Rattle.image_model.specs.Side.{other_of}
use Rattle.image_model.specs.declared.geometry.Geometry.{Geometry}
use Rattle.image_model.specs.declared.layout.Layout.TheVariants as layouts
use Rattle.image_model.specs.declared.side.Side.{Side}
use Rattle.journal_format.specs.Area.{AreaState}
use Rattle.regions.specs.Layout.{area_at, area_size}
use Rattle.device_image.specs.Keeper.{KeeperState, One, PlanState, phase_of}
use Rattle.device_image.specs.Keeps.{Keeps}
use Rattle.device_image.specs.Stands.{StandsFor}
use Rattle.device_image.specs.laws.Upgraded.{AreHalved, keeper_with, keeps_upgraded, new_area, new_header, upgrade_left}
use Rattle.checkpoint.proofs.ExcludedRefusals.{err_same}
use Rattle.checkpoint.specs.Keeper.{plans_of}
use Rattle.checkpoint.specs.Opening.{HasLastGeneration, IsAtRest, IsOpeningRefused, IsPassing, StandsAs}
use Rattle.checkpoint.specs.Recovery.{IsRecovered}
use Rattle.checkpoint.specs.Upgrade.{HasEitherLayout, IsChanged, HasLargeAreas, HasSmallAreas, IsUpgradePassing, IsUpgradeRefused}
use Rattle.checkpoint.specs.inner.Upgrade.{IsLayoutFault}
use Rattle.checkpoint.specs.declared.fault.KeeperFault.{KeeperFault}
use Rattle.checkpoint.specs.declared.fault.KeeperFault.TheVariants as faults
use Rattle.checkpoint.proofs.OpeningFindsHeader.{at_rest, is_full, no_plan}

-- no checkpoint is under way where one area is in use
none_planned : (plan : Option PlanState) (waiting : List PlanState) → plans_of plan waiting ≡ [] → plan ≡ None
none_planned None waiting is = refl
none_planned (Some plan) waiting is = absurd (some_none is)
  where
    some_none : {first : PlanState} {rest : List PlanState} → first ∷ rest ≡ [] → ⊥
    some_none is = cc

pub alone : (plan : Option PlanState) (waiting : List PlanState) → phase_of (plans_of plan waiting) ≡ One → plan ≡ None
alone plan waiting one = none_planned plan waiting (no_plan (plans_of plan waiting) one)

module _ {D : Type 0} (keeper : KeeperState D) (state : State) (image : Image) (number : ℕ) (keeps : Keeps keeper state image number) (one : keeper.phase ≡ One) (none : keeper.used ≡ 0) {extent : ℕ} (sound : IsSound extent state)
    (geometry : Geometry) (layout : keeper.memory.header.geometry.layout ≡ layouts.One) (two : geometry.layout ≡ layouts.Two) (blocks : geometry.blocks ≡ keeper.memory.header.geometry.blocks) (area : geometry.area ≡ keeper.memory.header.geometry.area)
    (header : Header) (header_is : IsUpgraded keeper.memory.header geometry header) where
  halved : AreHalved keeps.stands.header.geometry geometry
  halved = record {
    one = ap (λ (h : Header). h.geometry.layout) (sym keeps.headed) ∙ layout;
    two = two;
    blocks = blocks ∙ ap (λ (h : Header). h.geometry.blocks) keeps.headed;
    area = area ∙ ap (λ (h : Header). h.geometry.area) keeps.headed;
  }

  header_new : header ≡ new_header keeper state image number keeps one none geometry halved extent sound
  header_new =
      same_fields header (new_header keeper state image number keeps one none geometry halved extent sound)
      (header_is.generation ∙ ap (λ (h : Header). h.generation + 1) keeps.headed)
      header_is.geometry
      header_is.before_last
      (let first = ap (λ (h : Header). h.first_area) keeps.headed in let is = header_is.first_area in omega (arith, is, first))
      (header_is.map_slot ∙ ap (λ (h : Header). h.map_slot) keeps.headed)
      (header_is.base ∙ ap (λ (h : Header). h.base) keeps.headed)

  pub upgrade_next : ComesNext keeper.memory.header header
  upgrade_next = record {
    generation = header_is.generation;
    blocks = ap (λ (size : Geometry). size.blocks) header_is.geometry ∙ blocks;
    area = ap (λ (size : Geometry). size.area) header_is.geometry ∙ area;
  }

  pub change_left : (content : List ℕ) → LeavesEither state extent keeper.memory.header keeper.memory.slot header content → StandsFor content image number
  change_left content left =
      upgrade_left keeper state image number keeps one none geometry halved extent sound content
      (subst (λ (h : Header). LeavesEither state extent keeps.stands.header keeps.stands.slot h content) header_new
      (subst (λ (slot : Side). LeavesEither state extent keeps.stands.header slot header content) keeps.slotted
      (subst (λ (h : Header). LeavesEither state extent h keeper.memory.slot header content) keeps.headed left)))

  pub change_kept : (after : State) → IsSound extent after → IsInPlace state extent header (other_of keeper.memory.slot) after → (now : KeeperState D) (slot : Side) (next : AreaState) → slot ≡ other_of keeper.memory.slot
      → next ≡ record { from = area_at geometry header.first_area; bytes = area_size geometry; blocks = geometry.blocks; next = keeper.memory.area.next; gate = 0; touched = [] }
      → now ≡ record keeper {
        disk = now.disk;
        geometry = header.geometry;
        generation = header.generation;
        base = header.base;
        used = next.gate;
        memory = record keeper.memory { header = header; slot = slot; area = next };
      } → Keeps now after image number
  change_kept after after_sound placed now slot next slot_is next_is now_is =
      keeps_upgraded keeper state image number keeps one none geometry halved extent sound after after_sound
      (subst (λ (h : Header). IsInPlace state extent h (other_of keeps.stands.slot) after) header_new
      (subst (λ (s : Side). IsInPlace state extent header (other_of s) after) keeps.slotted placed))
      now (now_is ∙ view_is)
    where
      base_same : header.base ≡ keeper.base
      base_same = header_is.base ∙ ap (λ (h : Header). h.base) keeps.headed ∙ sym keeps.from_base

      generation_more : header.generation ≡ keeps.stands.header.generation + 1
      generation_more = header_is.generation ∙ ap (λ (h : Header). h.generation + 1) keeps.headed

      used_none : next.gate ≡ keeper.used
      used_none = ap (λ (a : AreaState). a.gate) next_is ∙ sym none

      slot_other : slot ≡ other_of keeps.stands.slot
      slot_other = slot_is ∙ ap other_of keeps.slotted

      area_new : next ≡ new_area keeper state image number keeps one none geometry halved extent sound
      area_new =
          next_is
          ∙ ap (λ (h : Header). let there : AreaState = record { from = area_at geometry h.first_area; bytes = area_size geometry; blocks = geometry.blocks; next = keeper.memory.area.next; gate = 0; touched = [] } in there) header_new

      view_is : record keeper {
        disk = now.disk;
        geometry = header.geometry;
        generation = header.generation;
        base = header.base;
        used = next.gate;
        memory = record keeper.memory { header = header; slot = slot; area = next };
      }
          ≡ keeper_with keeper state image number keeps one none geometry halved extent sound now.disk keeper.memory.plans
      view_is = λ i. record keeper {
        disk = now.disk;
        geometry = header_is.geometry i;
        generation = generation_more i;
        base = base_same i;
        used = used_none i;
        memory = record keeper.memory { header = header_new i; slot = slot_other i; area = area_new i };
      }

-- which header a crash leaves meanwhile
module _ {D : Type 0} (keeper : KeeperState D) (state : State) (image : Image) (number : ℕ) (keeps : Keeps keeper state image number) {extent : ℕ} (sound : IsSound extent state)
    (geometry : Geometry) (two : geometry.layout ≡ layouts.Two) (blocks : geometry.blocks ≡ keeper.memory.header.geometry.blocks) (area : geometry.area ≡ keeper.memory.header.geometry.area)
    (header : Header) (header_is : IsUpgraded keeper.memory.header geometry header) where
  pub header_either : (content : List ℕ) → LeavesEither state extent keeper.memory.header keeper.memory.slot header content → HasEitherLayout keeper content
  header_either content left =
      let size = left.outside.size ∙ sound.size in
      ⊎_elim
      (λ old. inl (record {
        header = keeper.memory.header;
        slot = keeper.memory.slot;
        in_force = subst (λ (n : ℕ). HoldsHeader content n keeper.memory.header keeper.memory.slot) (sym size) old;
        sizes = ap (λ (h : Header). h.geometry) keeps.headed ∙ sym keeps.sizes;
        number = ap (λ (h : Header). h.generation) keeps.headed ∙ sym keeps.generation;
      }))
      (λ new. inr (record {
        next = header;
        slot = other_of keeper.memory.slot;
        in_force = subst (λ (n : ℕ). HoldsHeader content n header (other_of keeper.memory.slot)) (sym size) new;
        layout = ap (λ (g : Geometry). g.layout) header_is.geometry ∙ two;
        blocks = ap (λ (g : Geometry). g.blocks) header_is.geometry ∙ blocks;
        area = ap (λ (g : Geometry). g.area) header_is.geometry ∙ area;
        is = record {
          generation = header_is.generation;
          geometry = refl;
          before_last = header_is.before_last;
          first_area = header_is.first_area;
          map_slot = header_is.map_slot;
          base = header_is.base;
        };
      }))
      left.either

-- what is changed is said of the keeper that callers see
pub changed_by : {D : Type 0} (inside old now : KeeperState D) → inside ≡ old → (geometry : Geometry) → geometry.layout ≡ layouts.Two → geometry.blocks ≡ inside.memory.header.geometry.blocks
    → geometry.area ≡ inside.memory.header.geometry.area → inside.geometry ≡ inside.memory.header.geometry → (header : Header) → IsUpgraded inside.memory.header geometry header → (slot : Side) (next : AreaState)
    → slot ≡ other_of inside.memory.slot
    → now ≡ record inside {
      disk = now.disk;
      geometry = header.geometry;
      generation = header.generation;
      base = header.base;
      used = next.gate;
      memory = record inside.memory { header = header; slot = slot; area = next };
    } → IsChanged old now
changed_by {D} inside old now same geometry two blocks area sizes header is slot next slot_is now_is =
    subst (λ (k : KeeperState D). IsChanged k now) same
    (subst (λ (k : KeeperState D). IsChanged inside k) (sym now_is) (record {
      layout = ap (λ (size : Geometry). size.layout) is.geometry ∙ two;
      blocks = ap (λ (size : Geometry). size.blocks) is.geometry ∙ blocks ∙ ap (λ (size : Geometry). size.blocks) (sym sizes);
      area = ap (λ (size : Geometry). size.area) is.geometry ∙ area ∙ ap (λ (size : Geometry). size.area) (sym sizes);
      header = record {
        generation = is.generation;
        geometry = refl;
        before_last = is.before_last;
        first_area = is.first_area;
        map_slot = is.map_slot;
        base = is.base;
      };
      slot = slot_is;
      map = refl;
      count = refl;
    }))

same_keeper : {D : Type 0} (fault : KeeperFault) (old new : KeeperState D) → (fault ≡ faults.DeviceFault) ⊎ (new ≡ old) → fault ≢ faults.DeviceFault → new ≡ old
same_keeper fault old new unchanged other = ⊎_elim (λ device. absurd (other device)) (λ same. same) unchanged

pub numbers_not_device : faults.NumbersFull ≡ faults.DeviceFault → ⊥
numbers_not_device is = cc

pub small_not_device : faults.AreaSmall ≡ faults.DeviceFault → ⊥
small_not_device is = cc

-- what stands where the numbers are full, and where the areas are too small
pub full_areas : {D : Type 0} (state : D → State) (fault : KeeperFault) (old new : KeeperState D) (image : Image) (found : List ℕ) → fault ≡ faults.NumbersFull → (fault ≡ faults.DeviceFault) ⊎ (new ≡ old)
    → (old.geometry.layout ≡ layouts.One) × (4194304 ≤ old.geometry.area) × (old.generation ≡ 18446744073709551615) → StandsFor found image old.count → Keeps old (state old.disk) image old.count
    → StandsAs found (state new.disk).seen × HasLastGeneration (state new.disk).seen × (IsAtRest (state new.disk).seen → HasLargeAreas (state new.disk).seen)
full_areas {D} state fault old new image found is unchanged given stands keeps =
    subst (λ (k : KeeperState D). StandsAs found (state k.disk).seen × HasLastGeneration (state k.disk).seen × (IsAtRest (state k.disk).seen → HasLargeAreas (state k.disk).seen))
    (sym (same_keeper fault old new unchanged (λ device. numbers_not_device (sym is ∙ device)))) (
      (image, old.count, stands, keeps.stands),
      is_full old (state old.disk) image old.count keeps given.2,
      λ rest. record {
        header = keeps.stands.header;
        slot = keeps.stands.slot;
        in_force = keeps.stands.in_force;
        layout = ap (λ (g : Geometry). g.layout) (sym keeps.sizes) ∙ given.0;
        large = subst (λ (g : Geometry). 4194304 ≤ g.area) keeps.sizes given.1;
      },
    )

pub small_areas : {D : Type 0} (state : D → State) (fault : KeeperFault) (old new : KeeperState D) (image : Image) (found : List ℕ) → fault ≡ faults.AreaSmall → (fault ≡ faults.DeviceFault) ⊎ (new ≡ old)
    → (old.geometry.layout ≡ layouts.One) × (old.geometry.area < 4194304) → IsRecovered old → StandsFor found image old.count → Keeps old (state old.disk) image old.count
    → StandsAs found (state new.disk).seen × IsAtRest (state new.disk).seen × HasSmallAreas (state new.disk).seen
small_areas {D} state fault old new image found is unchanged given recovered stands keeps =
    subst (λ (k : KeeperState D). StandsAs found (state k.disk).seen × IsAtRest (state k.disk).seen × HasSmallAreas (state k.disk).seen)
    (sym (same_keeper fault old new unchanged (λ device. small_not_device (sym is ∙ device)))) (
      (image, old.count, stands, keeps.stands),
      at_rest old (state old.disk) image old.count keeps recovered.phase recovered.used,
      record {
        header = keeps.stands.header;
        slot = keeps.stands.slot;
        in_force = keeps.stands.in_force;
        layout = ap (λ (g : Geometry). g.layout) (sym keeps.sizes) ∙ given.0;
        small = subst (λ (g : Geometry). g.area < 4194304) keeps.sizes given.1;
      },
    )

-- a refusal that changed nothing hands the device back as it was
pub refused_still : {D : Type 0} (fault wanted : KeeperFault) (old new : KeeperState D) (disk : D) → (let given : Result (Unit {0}) KeeperFault = Err fault in given ≡ Err wanted) → (wanted ≡ faults.DeviceFault → ⊥)
    → (fault ≡ faults.DeviceFault) ⊎ (new ≡ old) → disk ≡ new.disk → (let left : Result (KeeperState D) (KeeperFault × D) = Err (fault, disk) in left ≡ Err (wanted, old.disk))
refused_still {D} fault wanted old new disk is other unchanged handed =
    let same = err_same is in
    let at = handed ∙ ap (λ (k : KeeperState D). k.disk) (same_keeper fault old new unchanged (λ device. other (sym same ∙ device))) in
    λ i. Err (same i, at i)

-- what is left of the refusals of a change of the layout
pub device_left : (fault : KeeperFault) → IsLayoutFault fault → (fault ≡ faults.NumbersFull → ⊥) → (fault ≡ faults.AreaSmall → ⊥) → fault ≡ faults.DeviceFault
device_left faults.NoMemory cause full small = absurd cause
device_left faults.DeviceFault cause full small = refl
device_left faults.BadMap cause full small = absurd cause
device_left faults.NoHeader cause full small = absurd cause
device_left faults.BadHeader cause full small = absurd cause
device_left faults.NumbersFull cause full small = absurd (full refl)
device_left faults.AreaFull cause full small = absurd cause
device_left faults.OutOfOrder cause full small = absurd cause
device_left faults.DamagedGroup cause full small = absurd cause
device_left faults.NotNow cause full small = absurd cause
device_left faults.Failed cause full small = absurd cause
device_left faults.AreaSmall cause full small = absurd (small refl)

-- a refusal of a change of the layout, as one of an upgrade
pub refused_layout : (fault : KeeperFault) (found after : List ℕ) → IsLayoutFault fault → (fault ≡ faults.NumbersFull → StandsAs found after × HasLastGeneration after × (IsAtRest after → HasLargeAreas after))
    → (fault ≡ faults.AreaSmall → StandsAs found after × IsAtRest after × HasSmallAreas after) → IsUpgradeRefused fault found after
refused_layout faults.NoMemory found after cause full small = tt
refused_layout faults.DeviceFault found after cause full small = tt
refused_layout faults.BadMap found after cause full small = absurd cause
refused_layout faults.NoHeader found after cause full small = absurd cause
refused_layout faults.BadHeader found after cause full small = absurd cause
refused_layout faults.NumbersFull found after cause full small = full refl
refused_layout faults.AreaFull found after cause full small = cause
refused_layout faults.OutOfOrder found after cause full small = cause
refused_layout faults.DamagedGroup found after cause full small = absurd cause
refused_layout faults.NotNow found after cause full small = cause
refused_layout faults.Failed found after cause full small = cause
refused_layout faults.AreaSmall found after cause full small = small refl

-- and one of an opening
pub refused_upgrade : (fault : KeeperFault) (found after : List ℕ) → IsOpeningRefused fault found after → IsUpgradeRefused fault found after
refused_upgrade faults.NoMemory found after refused = tt
refused_upgrade faults.DeviceFault found after refused = tt
refused_upgrade faults.BadMap found after refused = refused
refused_upgrade faults.NoHeader found after refused = refused
refused_upgrade faults.BadHeader found after refused = refused
refused_upgrade faults.NumbersFull found after refused = (refused.0, refused.1, λ rest. absurd (refused.2 rest))
refused_upgrade faults.AreaFull found after refused = refused
refused_upgrade faults.OutOfOrder found after refused = refused
refused_upgrade faults.DamagedGroup found after refused = refused
refused_upgrade faults.NotNow found after refused = refused
refused_upgrade faults.Failed found after refused = refused
refused_upgrade faults.AreaSmall found after refused = absurd refused

pub layout_passes : (fault : KeeperFault) → IsLayoutFault fault → IsUpgradePassing fault
layout_passes faults.NoMemory cause = tt
layout_passes faults.DeviceFault cause = tt
layout_passes faults.BadMap cause = cause
layout_passes faults.NoHeader cause = cause
layout_passes faults.BadHeader cause = cause
layout_passes faults.NumbersFull cause = tt
layout_passes faults.AreaFull cause = cause
layout_passes faults.OutOfOrder cause = cause
layout_passes faults.DamagedGroup cause = cause
layout_passes faults.NotNow cause = cause
layout_passes faults.Failed cause = cause
layout_passes faults.AreaSmall cause = tt

pub opening_passes : (fault : KeeperFault) → IsPassing fault → IsUpgradePassing fault
opening_passes faults.NoMemory passing = tt
opening_passes faults.DeviceFault passing = tt
opening_passes faults.BadMap passing = passing
opening_passes faults.NoHeader passing = passing
opening_passes faults.BadHeader passing = passing
opening_passes faults.NumbersFull passing = tt
opening_passes faults.AreaFull passing = passing
opening_passes faults.OutOfOrder passing = passing
opening_passes faults.DamagedGroup passing = passing
opening_passes faults.NotNow passing = passing
opening_passes faults.Failed passing = passing
opening_passes faults.AreaSmall passing = tt
