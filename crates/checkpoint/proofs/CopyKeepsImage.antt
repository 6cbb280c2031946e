-- The keeper after its next blocks were copied.
use Rattle.std.proofs.Common.{slice_index, true, ◌≡◌, ℕ, zero, suc, ◌+◌, ◌-◌, ◌*◌, ◌≤◌, ◌<◌, Some, None, List, [], ◌∷◌, sym, ◌∙◌, ap, subst, arith, false}
use Rattle.disk_model.specs.Disk.{State, MayLeaveTorn}
use Rattle.header_slots.specs.declared.header.Header.{Header}
use Rattle.image_model.specs.Image.{Image}
use Rattle.journal_format.specs.Area.{AreaState}
use Rattle.journal_format.specs.Spelling.{StoredGroup}
use Rattle.journal_format.specs.Touches.{last_touch, touched_by_groups}
use Rattle.journal_format.specs.declared.touch.Touch.TheVariants.{Put}
use Rattle.latest_writes.specs.declared.range.PutRange.{PutRange}
use Rattle.regions.specs.Layout.{areas_in, block_at, ring}
use Rattle.device_image.specs.inner.Copied.{IsCopiedOver}
use Rattle.device_image.specs.inner.Free.{to_be_copied}
use Rattle.device_image.specs.Keeper.{AreUncopied, KeeperState, PlanState, TellSame, count_puts, earlier_of, is_put, phase_of}
use Rattle.device_image.specs.Keeps.{AreHeld, IsCopying, IsInPhase, IsPlaced, Keeps, touched_first}
use Rattle.device_image.specs.Stands.{StandsFor, areas_before_last, next_number}
use Rattle.device_image.specs.laws.Copied.{copy_places, keeps_copied}
use Rattle.device_image.specs.laws.Free.{torn_free}
use Rattle.device_image.specs.Plan.{IsNextCopy}
use Rattle.device_image.specs.laws.Puts.{all_counted, none_counted}
use Rattle.device_image.specs.laws.Lists.{KeepsLists}
use Rattle.image_model.specs.Change.{Change}
use Rattle.device_image.specs.Holds.{Holds}
use Rattle.device_image.specs.laws.AfterCall.{holds_still}

-- the first area, where several are in use
pub record IsFirst (area : AreaState) (header : Header) (front : List (List StoredGroup)) : Type 0 where
  pub placed : IsPlaced area header.geometry header.first_area
  pub touched : TellSame header.geometry.blocks area.touched (touched_first header front)

pub first_area : (count n : ℕ) (area : AreaState) (header : Header) (front : List (List StoredGroup)) (earlier : List AreaState) (state : State) (next : ℕ)
    → AreHeld (ring count n header.first_area) header.geometry next front (area ∷ earlier) state → IsFirst area header front
first_area count zero area header [] earlier state next held = absurd held
first_area count zero area header (groups ∷ front) earlier state next held = absurd held
first_area count (suc n) area header [] earlier state next held = absurd held
first_area count (suc n) area header (groups ∷ front) earlier state next held = record {
  placed = held.0;
  touched = λ block below. held.1.touched block (omega (arith, below, held.0.blocks)) ∙ ap (λ (place : ℕ). last_touch block (touched_by_groups place groups)) held.0.from;
}

not_both : true ≡ false → ⊥
not_both is = cc

module _ {D : Type 0} (keeper : KeeperState D) (state : State) (image : Image) (number : ℕ) (keeps : Keeps keeper state image number) (plan : PlanState) (rest : List PlanState) (is : keeper.memory.plans ≡ plan ∷ rest) where
  pub copying : IsCopying plan state keeps.stands.header keeps.stands.states keeps.areas.front × AreUncopied rest
  copying = subst (λ (p : List PlanState). IsInPhase p state keeps.stands.header keeps.stands.states keeps.areas.front) is keeps.phased

  pub first : IsFirst plan.first keeps.stands.header keeps.areas.front
  first =
      let header = keeps.stands.header in
      first_area (areas_in header.geometry) header.before_last plan.first header keeps.areas.front (earlier_of rest) state (next_number header.base)
      (subst (λ (p : List PlanState). AreHeld (areas_before_last header) header.geometry (next_number header.base) keeps.areas.front (earlier_of p) state) is keeps.areas.earlier_held)

  module _ (put : PutRange) (most : ℕ) (next : IsNextCopy plan most put) (unmapped : plan.mapped ≡ None) where
    blocks_inside : put.first + put.blocks ≤ keeps.stands.header.geometry.blocks
    blocks_inside = omega (arith, next.inside, first.placed.blocks)

    none_before : (block : ℕ) → plan.copied ≤ block → block < put.first → is_put (last_touch block (touched_first keeps.stands.header keeps.areas.front)) ≡ false
    none_before block low high = let inside = blocks_inside in ap is_put (sym (first.touched block (omega (arith, high, inside)))) ∙ next.first block low high

    each_put : (k : ℕ) → k < put.blocks → last_touch (put.first + k) (touched_first keeps.stands.header keeps.areas.front) ≡ Some (Put (plan.first.from + put.place + 4096 * k))
    each_put k below =
        let at : plan.first.from + (put.place + 4096 * k) ≡ plan.first.from + put.place + 4096 * k = omega arith in
        let inside = blocks_inside in
        sym (first.touched (put.first + k) (omega (arith, below, inside))) ∙ next.puts k below ∙ ap (λ (p : ℕ). Some (Put p)) at

    still_counted : plan.left - put.blocks + count_puts (put.first + put.blocks) (touched_first keeps.stands.header keeps.areas.front) ≡ count_puts keeps.stands.header.geometry.blocks (touched_first keeps.stands.header keeps.areas.front)
    still_counted =
        let touches = touched_first keeps.stands.header keeps.areas.front in
        let gap = put.first - plan.copied in
        let at : plan.copied + gap ≡ put.first = omega (arith, next.behind) in
        let none = none_counted plan.copied gap touches (λ block low high. none_before block low (omega (arith, high, at))) in
        let all = all_counted put.first put.blocks touches (λ k below. ap is_put (each_put k below)) in
        omega (arith, copying.0.counted, none, all, next.left, ap (λ (b : ℕ). count_puts b touches) at)

    -- while they are written
    pub copy_left : (offset count : ℕ) → offset ≡ block_at keeps.stands.header.geometry put.first → count ≡ 4096 * put.blocks → (content : List ℕ) → MayLeaveTorn state offset count content → StandsFor content image number
    copy_left offset count offset_is count_is content left =
        torn_free keeper state image number keeps offset count
        (λ place within. to_be_copied (copy_places keeper state image number keeps plan copying.0 unmapped put.first put.blocks (plan.first.from + put.place) (plan.left - put.blocks)
        next.some next.behind blocks_inside none_before each_put still_counted place (omega (arith, within.0, offset_is), omega (arith, within.1, offset_is, count_is)))) content left

    -- and when they are
    pub copy_kept : (after : State) (now : KeeperState D) (offset count from : ℕ) (advanced : PlanState) → offset ≡ block_at keeps.stands.header.geometry put.first → count ≡ 4096 * put.blocks → from ≡ plan.first.from + put.place
        → IsCopiedOver state from offset count after → advanced ≡ record plan { copied = put.first + put.blocks; left = plan.left - put.blocks }
        → now ≡ record keeper { disk = now.disk; turned = now.turned; lefts = now.lefts; phase = phase_of (advanced ∷ rest); memory = record keeper.memory { plans = advanced ∷ rest } }
        → KeepsLists now after image number keeps.areas.front keeps.areas.groups
    copy_kept after now offset count from advanced offset_is count_is from_is done advanced_is now_is =
        keeps_copied keeper state image number keeps plan copying.0 unmapped put.first put.blocks (plan.first.from + put.place) (plan.left - put.blocks)
        next.some next.behind blocks_inside none_before each_put still_counted after
        (subst (λ (n : ℕ). IsCopiedOver state (plan.first.from + put.place) (block_at keeps.stands.header.geometry put.first) n after) count_is
        (subst (λ (p : ℕ). IsCopiedOver state (plan.first.from + put.place) p count after) offset_is
        (subst (λ (p : ℕ). IsCopiedOver state p offset count after) from_is done)))
        now rest is copying.1
        (subst (λ (p : PlanState). now ≡ record keeper { disk = now.disk; turned = now.turned; lefts = now.lefts; phase = phase_of (p ∷ rest); memory = record keeper.memory { plans = p ∷ rest } }) advanced_is now_is)

    -- the data of blocks whose last touch isn't a put stay
    pub others_stay : (after : State) (offset count from : ℕ) → offset ≡ block_at keeps.stands.header.geometry put.first → count ≡ 4096 * put.blocks → IsCopiedOver state from offset count after
        → (block place : ℕ) → place < 4096 → is_put (last_touch block (touched_first keeps.stands.header keeps.areas.front)) ≡ false
        → slice_index after.seen (block_at keeps.stands.header.geometry block + place) ≡ slice_index state.seen (block_at keeps.stands.header.geometry block + place)
    others_stay after offset count from offset_is count_is done block place small none =
        done.others (block_at keeps.stands.header.geometry block + place) (λ within.
        let k = block - put.first in
        let low : block_at keeps.stands.header.geometry put.first ≤ block_at keeps.stands.header.geometry block + place = omega (arith, within.0, offset_is) in
        let high : block_at keeps.stands.header.geometry block + place < block_at keeps.stands.header.geometry put.first + 4096 * put.blocks = omega (arith, within.1, offset_is, count_is) in
        let here : put.first + k ≡ block = omega (arith, low, small) in
        let copied = ap is_put (each_put k (omega (arith, low, high, small))) in
        not_both (sym copied ∙ ap (λ (b : ℕ). is_put (last_touch b (touched_first keeps.stands.header keeps.areas.front))) here ∙ none))

-- what the keeper holds stays
module _ {D : Type 0} (keeper : KeeperState D) (state : State) (base : Image) (fronts : List (List Change)) (last : List Change) (holds : Holds keeper state base fronts last) (plan : PlanState) (rest : List PlanState) (is : keeper.memory.plans ≡ plan ∷ rest)
    (put : PutRange) (most : ℕ) (next : IsNextCopy plan most put) (unmapped : plan.mapped ≡ None) where
  pub copy_held : (after : State) (now : KeeperState D) (offset count from : ℕ) (advanced : PlanState) → offset ≡ block_at holds.keeps.stands.header.geometry put.first → count ≡ 4096 * put.blocks → from ≡ plan.first.from + put.place
      → IsCopiedOver state from offset count after → advanced ≡ record plan { copied = put.first + put.blocks; left = plan.left - put.blocks }
      → now ≡ record keeper { disk = now.disk; turned = now.turned; lefts = now.lefts; phase = phase_of (advanced ∷ rest); memory = record keeper.memory { plans = advanced ∷ rest } } → Holds now after base fronts last
  copy_held after now offset count from advanced offset_is count_is from_is done advanced_is now_is =
      holds_still keeper state base fronts last holds now after
      (copy_kept keeper state _ _ holds.keeps plan rest is put most next unmapped after now offset count from advanced offset_is count_is from_is done advanced_is now_is)
      (ap (λ (k : KeeperState D). k.base) now_is) (ap (λ (k : KeeperState D). k.geometry) now_is) (ap (λ (k : KeeperState D). k.memory.map) now_is)
      (others_stay keeper state _ _ holds.keeps plan rest is put most next unmapped after offset count from offset_is count_is done)
