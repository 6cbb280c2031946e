-- What a checkpoint remembers of the touches of an area.
use Rattle.std.proofs.Common.{◌≡◌, ⊎_elim, ℕ, ◌+◌, ◌-◌, ◌*◌, ◌≤◌, Bool, true, false, if◌then◌else◌, Option, Some, None, List, [], ◌∷◌, sym, ◌∙◌, ap, refl, arith}
use Rattle.std.proofs.lemmas.Bool.{cases_lt}
use Rattle.image_model.specs.Image.{covers}
use Rattle.journal_format.specs.Touches as journal
use Rattle.journal_format.specs.Touches.{AreWithin, last_touch}
use Rattle.journal_format.specs.declared.touch.Touch.{Touch}
use Rattle.journal_format.specs.declared.touch.Touch.TheVariants as touches
use Rattle.journal_format.specs.declared.touch.TouchedRange.{TouchedRange}
use Rattle.journal_format.specs.laws.Within.{last_put_within}
use Rattle.latest_writes.specs.Ranges.{AreLastTouches, touch_at}
use Rattle.latest_writes.specs.Touches.{later, on_device, touch_on_device, touch_within}
use Rattle.latest_writes.specs.declared.range.LastRange.{LastRange}
use Rattle.latest_writes.specs.declared.touch.LastTouch.{LastTouch}
use Rattle.latest_writes.specs.declared.touch.LastTouch.TheVariants.{Put, Clear}
use Rattle.device_image.specs.Keeper.{TellSame}
use Rattle.device_image.specs.Plan.{told_by}

none_is_some : {touch : Touch} → None ≡ Some touch → ⊥
none_is_some is = cc

module _ (from : ℕ) where
  within_on_device : (blocks : ℕ) (touch : LastTouch) → journal.touch_within blocks (on_device from touch) ≡ on_device from (touch_within blocks touch)
  within_on_device blocks (Put place) = ap touches.Put (let same : from + place + 4096 * blocks ≡ from + (place + 4096 * blocks) = omega arith in same)
  within_on_device blocks (Clear kind) = refl

  said_on_device : (test : Bool) (blocks : ℕ) (touch : LastTouch)
      → (if test then Some (journal.touch_within blocks (on_device from touch)) else None) ≡ touch_on_device from (if test then Some (touch_within blocks touch) else None)
  said_on_device true blocks touch = ap Some (within_on_device blocks touch)
  said_on_device false blocks touch = refl

  later_on_device : (touch second : Option LastTouch) → journal.later (touch_on_device from touch) (touch_on_device from second) ≡ touch_on_device from (later touch second)
  later_on_device touch None = refl
  later_on_device touch (Some second) = refl

  -- the ranges tell of each block what it was told by
  pub last_told : (block : ℕ) (ranges : List LastRange) → last_touch block (told_by from ranges) ≡ touch_on_device from (touch_at block ranges)
  last_told block [] = refl
  last_told block (range ∷ ranges) =
      let said = said_on_device (covers range.first range.blocks block) (block - range.first) range.touch in
      ap (journal.later (if covers range.first range.blocks block then Some (journal.touch_within (block - range.first) (on_device from range.touch)) else None)) (last_told block ranges)
      ∙ ap (λ (touch : Option Touch). journal.later touch (touch_on_device from (touch_at block ranges))) said
      ∙ later_on_device (if covers range.first range.blocks block then Some (touch_within (block - range.first) range.touch) else None) (touch_at block ranges)

module _ (from blocks : ℕ) (touched : List TouchedRange) (ranges : List LastRange) (last : AreLastTouches from blocks touched ranges) where
  pub tells_same : TellSame blocks (told_by from ranges) touched
  tells_same block below = last_told from block ranges ∙ last.exact block below

  pub told_last : AreLastTouches from blocks (told_by from ranges) ranges
  told_last = record { apart = last.apart; longest = last.longest; exact = λ block below. sym (last_told from block ranges); none = last.none }

  pub told_within : (end : ℕ) → AreWithin from end touched → (block place : ℕ) → last_touch block (told_by from ranges) ≡ Some (touches.Put place) → place + 4096 ≤ end
  told_within end within block place is = ⊎_elim
      (λ below. (last_put_within from end block place touched within (sym (tells_same block below) ∙ is)).1)
      (λ past. absurd (none_is_some (sym (ap (touch_on_device from) (last.none block past)) ∙ sym (last_told from block ranges) ∙ is)))
      (cases_lt block blocks)
