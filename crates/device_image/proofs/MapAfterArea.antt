-- The map after an area, range by range.
use Rattle.std.proofs.Common.{◌≡◌, ℕ, zero, suc, Result, Ok, Err, IfOk, ◌+◌, ◌-◌, ◌≤◌, ◌<◌, Bool, true, false, if◌then◌else◌, Option, Some, None, List, [], ◌∷◌, ◌++◌, length, get_or, replicate, take, sym, ◌∙◌, ap, refl, arith, rules}
use Rattle.std.proofs.lemmas.List.{places, length-replicate, take_more}
use Rattle.alloc_map.specs.Codes.{state_at}
use Rattle.image_model.specs.Image.{covers}
use Rattle.image_model.specs.Patched.{patched}
use Rattle.image_model.specs.declared.command.Kind.{Kind}
use Rattle.image_model.specs.declared.command.Kind.TheVariants.{Hole}
use Rattle.image_model.specs.laws.Positions.{filled_at}
use Rattle.journal_format.specs.Touches.{kind_after}
use Rattle.journal_format.specs.declared.touch.Touch.{Touch}
use Rattle.journal_format.specs.declared.touch.TouchedRange.{TouchedRange}
use Rattle.device_image.specs.Keeper.{AreStatesAfter}
use Rattle.latest_writes.specs.declared.touch.LastTouch.{LastTouch}
use Rattle.latest_writes.specs.declared.touch.LastTouch.TheVariants.{Put, Clear}
use Rattle.latest_writes.specs.declared.range.LastRange.{LastRange}
use Rattle.latest_writes.specs.Touches.{later, said_by, touch_on_device, touch_within}
use Rattle.latest_writes.specs.Ranges.{AreLastTouches, AreRanges, touch_at}
use Rattle.device_image.specs.inner.Plan.{kind_given}
use Rattle.latest_writes.specs.laws.Said.{AreRanges-order, touch_at-append}

-- ranges end in time
pub range_ends : (from to : ℕ) (ranges : List LastRange) (index : ℕ) (d : LastRange) → AreRanges from to ranges → index < length ranges → (get_or ranges index d).first + (get_or ranges index d).blocks ≤ to
range_ends from to [] index d apart below = absurd (omega arith)
range_ends from to (range ∷ ranges) zero d apart below = AreRanges-order (range.first + range.blocks) to ranges apart.2
range_ends from to (range ∷ ranges) (suc index) d apart below = range_ends (range.first + range.blocks) to ranges index d apart.2 (omega arith)

module _ (from block : ℕ) (old : Kind) where
  given_within : (blocks : ℕ) (touch : LastTouch) → kind_after (touch_on_device from (Some (touch_within blocks touch))) old ≡ kind_given touch
  given_within blocks (Put place) = refl
  given_within blocks (Clear kind) = refl

  given_later : (test : Bool) (blocks : ℕ) (touch : LastTouch) (before : Option LastTouch) (kind : Kind) → kind ≡ kind_after (touch_on_device from before) old
      → (if test then kind_given touch else kind) ≡ kind_after (touch_on_device from (later before (if test then Some (touch_within blocks touch) else None))) old
  given_later true blocks touch before kind is = sym (given_within blocks touch)
  given_later false blocks touch before kind is = is

-- the map where this many ranges are laid over it
pub record IsLaid (from : ℕ) (ranges : List LastRange) (before after : List Kind) : Type 0 where
  pub count : length after ≡ length before
  pub each : (block : ℕ) → state_at after block ≡ kind_after (touch_on_device from (touch_at block ranges)) (state_at before block)

patched_length : {X : Type 0} (list : List X) (at count : ℕ) (item : X) → at + count ≤ length list → length (patched list at (replicate count item)) ≡ length list
patched_length list at count item fits = let long = length-replicate count item in search (rules, places)

pub laid_more : (from : ℕ) (ranges : List LastRange) (index : ℕ) (range : LastRange) (kind : Kind) (before after next : List Kind) → index < length ranges → range ≡ get_or ranges index range
    → range.first + range.blocks ≤ length before → kind ≡ kind_given range.touch → next ≡ patched after range.first (replicate range.blocks kind)
    → IsLaid from (take index ranges) before after → IsLaid from (take (index + 1) ranges) before next
laid_more from ranges index range kind before after next below is fits kind_is next_is laid =
    let taken : take (index + 1) ranges ≡ take index ranges ++ range ∷ [] = take_more ranges index range below ∙ ap (λ (r : LastRange). take index ranges ++ r ∷ []) (sym is) in
    record {
      count = ap length next_is ∙ patched_length after range.first range.blocks kind (omega (arith, fits, laid.count)) ∙ laid.count;
      each = λ block.
          let said = said_by range.first range.blocks range.touch block in
          ap (λ (l : List Kind). state_at l block) next_is
          ∙ filled_at after range.first range.blocks kind Hole (omega (arith, fits, laid.count)) block
          ∙ ap (λ (k : Kind). if covers range.first range.blocks block then k else state_at after block) kind_is
          ∙ given_later from block (state_at before block) (covers range.first range.blocks block) (block - range.first) range.touch (touch_at block (take index ranges)) (state_at after block) (laid.each block)
          ∙ ap (λ (t : Option LastTouch). kind_after (touch_on_device from t) (state_at before block))
          (sym (ap (λ (l : List LastRange). touch_at block l) taken ∙ touch_at-append block (take index ranges) (range ∷ [])));
    }

pub laid_none : (from : ℕ) (ranges : List LastRange) (before after : List Kind) → after ≡ before → IsLaid from (take 0 ranges) before after
laid_none from ranges before after same = record { count = ap length same; each = λ block. ap (λ (l : List Kind). state_at l block) same }

pub laid_states : (from blocks : ℕ) (touched : List TouchedRange) (ranges : List LastRange) (before after : List Kind) → length before ≡ blocks → AreLastTouches from blocks touched ranges → IsLaid from ranges before after
    → AreStatesAfter touched before after
laid_states from blocks touched ranges before after count last laid = record {
  count = laid.count;
  each = λ block below. laid.each block ∙ ap (λ (t : Option Touch). kind_after t (state_at before block)) (last.exact block (omega (arith, below, count)));
}

-- the map that was made, where these are the last touches
pub laid_of : {E : Type 0} (result : Result (List Kind) E) (from : ℕ) (touched : List TouchedRange) (ranges : List LastRange) (before : List Kind) → AreLastTouches from (length before) touched ranges
    → IfOk result (λ after. (from : ℕ) (touched : List TouchedRange) → AreLastTouches from (length before) touched ranges → AreStatesAfter touched before after) → IfOk result (AreStatesAfter touched before)
laid_of (Ok after) from touched ranges before last laid = laid from touched last
laid_of (Err fault) from touched ranges before last laid = tt
