-- The keeper after the map was written.
use Rattle.std.proofs.Common.{◌≡◌, ℕ, ◌+◌, Option, Some, List, ◌∷◌, length, sym, ◌∙◌, ap, subst, arith}
use Rattle.alloc_map.specs.Codes.{state_at}
use Rattle.disk_model.specs.Disk.{State, IsSound, MayLeaveTorn}
use Rattle.image_model.specs.Geometry.{map_bytes_of}
use Rattle.image_model.specs.Image.{Image}
use Rattle.image_model.specs.Side.{other_of}
use Rattle.image_model.specs.declared.command.Kind.{Kind}
use Rattle.journal_format.specs.Touches.{kind_after}
use Rattle.journal_format.specs.declared.touch.Touch.{Touch}
use Rattle.journal_format.specs.declared.touch.TouchedRange.{TouchedRange}
use Rattle.regions.specs.Layout.{block_at, map_at}
use Rattle.device_image.specs.inner.Copied.{IsMapStored}
use Rattle.device_image.specs.inner.Free.{in_spare_map}
use Rattle.device_image.specs.Keeper.{AreStatesAfter, KeeperState, PlanState, TellSame, earlier_of, phase_of}
use Rattle.device_image.specs.Keeps.{AreCopied, Keeps, touched_first}
use Rattle.device_image.specs.Stands.{StandsFor}
use Rattle.device_image.specs.laws.Copied.{first_puts}
use Rattle.device_image.specs.laws.Frame.{first_high, map_high, map_low}
use Rattle.device_image.specs.laws.Free.{torn_free}
use Rattle.device_image.specs.laws.Steps.{keeps_after}
use Rattle.checkpoint.proofs.CopyKeepsImage.{copying, first}
use Rattle.device_image.specs.laws.Lists.{KeepsLists}
use Rattle.image_model.specs.Change.{Change}
use Rattle.device_image.specs.Holds.{Holds}
use Rattle.device_image.specs.laws.AfterCall.{holds_still}

-- the states after touches are those after others that tell the same
states_same : (blocks : ℕ) (touched others : List TouchedRange) (before after : List Kind) → length before ≡ blocks → TellSame blocks touched others → AreStatesAfter touched before after → AreStatesAfter others before after
states_same blocks touched others before after count same states = record {
  count = states.count;
  each = λ block below. states.each block below ∙ ap (λ (touch : Option Touch). kind_after touch (state_at before block)) (same block (omega (arith, below, count)));
}

module _ {D : Type 0} (keeper : KeeperState D) (state : State) (image : Image) (number : ℕ) (keeps : Keeps keeper state image number) where
  -- while the map slot that isn't in force is written
  pub map_left : (offset count : ℕ) → offset ≡ map_at keeps.stands.header.geometry (other_of keeps.stands.header.map_slot) → count ≡ map_bytes_of keeps.stands.header.geometry.blocks → (content : List ℕ)
      → MayLeaveTorn state offset count content → StandsFor content image number
  map_left offset count offset_is count_is content left =
      torn_free keeper state image number keeps offset count (λ place within. in_spare_map (omega (arith, within.0, offset_is), omega (arith, within.1, offset_is, count_is))) content left

  module _ (plan : PlanState) (rest : List PlanState) (is : keeper.memory.plans ≡ plan ∷ rest) (none_left : plan.left ≡ 0) (after : State) {extent : ℕ} (sound : IsSound extent after) (states : List Kind)
      (done : IsMapStored state (map_at keeps.stands.header.geometry (other_of keeps.stands.header.map_slot)) keeps.stands.header.geometry.blocks states after)
      (states_after : AreStatesAfter plan.first.touched keeper.memory.map states) where
    still_copied : AreCopied after.seen keeps.stands.header keeps.areas.front plan.copied
    still_copied block from below put k small =
        let geometry = keeps.stands.header.geometry in
        let slot = other_of keeps.stands.header.map_slot in
        let there = first_puts keeper state image number keeps block from put in
        done.others (block_at geometry block + k) (λ within. omega (arith, within.1, map_high geometry slot))
        ∙ (copying keeper state image number keeps plan rest is).0.are_copied block from below put k small
        ∙ sym (done.others (from + k) (λ within. omega (arith, within.0, map_low geometry slot, there.2, small, first_high keeps.stands.header)))

    pub map_kept : (now : KeeperState D) (mapped : PlanState) → mapped ≡ record plan { mapped = Some states }
        → now ≡ record keeper { disk = now.disk; turned = now.turned; lefts = now.lefts; phase = phase_of (mapped ∷ rest); memory = record keeper.memory { plans = mapped ∷ rest } }
        → KeepsLists now after image number keeps.areas.front keeps.areas.groups
    map_kept now mapped mapped_is now_is =
        let phased = (copying keeper state image number keeps plan rest is).0 in
        let touched = (first keeper state image number keeps plan rest is).touched in
        keeps_after keeper state image number keeps after done.size
        (λ place used. done.others place (λ within. used (in_spare_map within)))
        (λ place unsynced. absurd (done.synced place unsynced))
        (λ place loose. done.synced place (sound.loose place loose))
        now (record plan { mapped = Some states } ∷ rest) (sym (ap earlier_of is)) (
          record {
            within = phased.within;
            counted = phased.counted;
            are_copied = still_copied;
            map_written = (
              none_left,
              states_same keeps.stands.header.geometry.blocks plan.first.touched (touched_first keeps.stands.header keeps.areas.front) keeps.stands.states states keeps.stands.map.count touched
                  (subst (λ (map : List Kind). AreStatesAfter plan.first.touched map states) keeps.mapped states_after),
              done.map,
              done.synced,
            );
          },
          (copying keeper state image number keeps plan rest is).1,
        )
        (subst (λ (p : PlanState). now ≡ record keeper { disk = now.disk; turned = now.turned; lefts = now.lefts; phase = phase_of (p ∷ rest); memory = record keeper.memory { plans = p ∷ rest } }) mapped_is now_is)

-- what the keeper holds stays
module _ {D : Type 0} (keeper : KeeperState D) (state : State) (base : Image) (fronts : List (List Change)) (last : List Change) (holds : Holds keeper state base fronts last) (plan : PlanState) (rest : List PlanState) (is : keeper.memory.plans ≡ plan ∷ rest) where
  pub map_held : (none_left : plan.left ≡ 0) (after : State) {extent : ℕ} (sound : IsSound extent after) (states : List Kind)
      (done : IsMapStored state (map_at holds.keeps.stands.header.geometry (other_of holds.keeps.stands.header.map_slot)) holds.keeps.stands.header.geometry.blocks states after)
      (states_after : AreStatesAfter plan.first.touched keeper.memory.map states) (now : KeeperState D) (mapped : PlanState) → mapped ≡ record plan { mapped = Some states }
      → now ≡ record keeper { disk = now.disk; turned = now.turned; lefts = now.lefts; phase = phase_of (mapped ∷ rest); memory = record keeper.memory { plans = mapped ∷ rest } } → Holds now after base fronts last
  map_held none_left after sound states done states_after now mapped mapped_is now_is =
      let geometry = holds.keeps.stands.header.geometry in
      holds_still keeper state base fronts last holds now after
      (map_kept keeper state _ _ holds.keeps plan rest is none_left after sound states done states_after now mapped mapped_is now_is)
      (ap (λ (k : KeeperState D). k.base) now_is) (ap (λ (k : KeeperState D). k.geometry) now_is) (ap (λ (k : KeeperState D). k.memory.map) now_is)
      (λ block offset small none. done.others (block_at geometry block + offset) (λ within. omega (arith, within.1, map_high geometry (other_of holds.keeps.stands.header.map_slot))))
