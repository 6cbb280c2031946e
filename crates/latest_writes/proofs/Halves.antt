-- The last touches of a list by those of its halves.
use Rattle.std.proofs.Common.{◌≡◌, ℕ, Option, Some, None, List, ◌++◌, sym, ◌∙◌, ap, refl}
use Rattle.journal_format.specs.declared.touch.Touch.{Touch}
use Rattle.journal_format.specs.declared.touch.TouchedRange.{TouchedRange}
use Rattle.journal_format.specs.Touches as journal
use Rattle.journal_format.specs.laws.LastTouches.{last_touch-append}
use Rattle.latest_writes.specs.declared.touch.LastTouch.{LastTouch}
use Rattle.latest_writes.specs.declared.range.LastRange.{LastRange}
use Rattle.latest_writes.specs.Touches.{later, touch_on_device}
use Rattle.latest_writes.specs.Ranges.{AreLastTouches, touch_at}
use Rattle.latest_writes.specs.inner.Ranges.{AreLaidOver}

later_on_device : (from : ℕ) (first second : Option LastTouch) → touch_on_device from (later first second) ≡ journal.later (touch_on_device from first) (touch_on_device from second)
later_on_device from first None = refl
later_on_device from first (Some second) = refl

pub laid_halves : (from blocks : ℕ) (touched earlier behind : List TouchedRange) (older newer ranges : List LastRange) → earlier ++ behind ≡ touched
    → AreLastTouches from blocks earlier older → AreLastTouches from blocks behind newer → AreLaidOver older newer ranges → AreLastTouches from blocks touched ranges
laid_halves from blocks touched earlier behind older newer ranges are one two laid = record {
  apart = laid.apart;
  longest = laid.longest;
  exact = λ block below.
      ap (touch_on_device from) (laid.exact block)
      ∙ later_on_device from (touch_at block older) (touch_at block newer)
      ∙ ap (λ (t : Option Touch). journal.later t (touch_on_device from (touch_at block newer))) (one.exact block below)
      ∙ ap (λ (t : Option Touch). journal.later (journal.last_touch block earlier) t) (two.exact block below)
      ∙ sym (last_touch-append block earlier behind)
      ∙ ap (λ (l : List TouchedRange). journal.last_touch block l) are;
  none = λ block high.
      laid.exact block
      ∙ ap (λ (t : Option LastTouch). later t (touch_at block newer)) (one.none block high)
      ∙ ap (λ (t : Option LastTouch). later None t) (two.none block high);
}
